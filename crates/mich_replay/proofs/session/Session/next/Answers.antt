use Rattle.std.proofs.Common.{Ok, Err, subst}
use Rattle.mich_text.specs.pieces.Reading.{IsNext}
use Rattle.mich_text.specs.declared.pieces.reader.Next.{Next}
use Rattle.mich_text.specs.declared.fault.TextError.{TextError}
use Rattle.mich_replay.specs.Pace.{groups_in}
use Rattle.mich_replay.proofs.Happening.{room, small, statement_happens, more_happens, end_happens, fault_happens}
use Rattle.mich_replay.proofs.session.Session.next.Goals as goal

pub take-requires : goal.take-requires
take-requires c =
    let q = c.requires in
    let old = c.args.self.now in
    let n = subst (λ (x : Next). IsNext old.reader c.args.last c.next.new.self (Ok x)) c.in-Ok-Placed.field-0-is c.in-Ok-Placed.ensures.next in
    record {
      stands = (groups_in q.0, q.2, q.3.plain, q.3.stands);
      room = room q.0 q.1 c.args.last old.reader old.progress q.2 q.3;
      small = small q.0 q.1 c.args.last old.reader c.next.new.self q.2 old.progress q.3 c.in-Ok-Placed.placed n;
    }

pub returns-in-Ok-Placed : goal.returns-in-Ok-Placed
returns-in-Ok-Placed c = λ from fed receipts h.
    let old = c.args.self.now in
    let n = subst (λ (x : Next). IsNext old.reader c.args.last c.next.new.self (Ok x)) c.in-Ok-Placed.field-0-is c.in-Ok-Placed.ensures.next in
    statement_happens from fed c.args.last old.reader c.next.new.self receipts old.progress h c.in-Ok-Placed.placed n c.take.new.progress c.take.result (c.take.ensures.takes (groups_in from) receipts h.plain h.stands)
    c.take.ensures.marks

pub returns-in-Ok-More : goal.returns-in-Ok-More
returns-in-Ok-More c = λ from fed receipts h.
    let old = c.args.self.now in
    more_happens from fed c.args.last old.reader c.next.new.self receipts old.progress h
    (subst (λ (x : Next). IsNext old.reader c.args.last c.next.new.self (Ok x)) c.in-Ok-More.field-0-is c.in-Ok-More.ensures.next)

pub returns-in-Ok-End : goal.returns-in-Ok-End
returns-in-Ok-End c = λ from fed receipts h.
    let old = c.args.self.now in
    end_happens from fed c.args.last old.reader c.next.new.self receipts old.progress h
    (subst (λ (x : Next). IsNext old.reader c.args.last c.next.new.self (Ok x)) c.in-Ok-End.field-0-is c.in-Ok-End.ensures.next)

pub returns-in-Err-Fault : goal.returns-in-Err-Fault
returns-in-Err-Fault c = λ from fed receipts h.
    let old = c.args.self.now in
    rw c.in-Err-Fault.field-0-is (fault_happens from fed c.args.last old.reader c.next.new.self receipts old.progress h c.in-Err-Fault.kind c.in-Err-Fault.at
    (subst (λ (x : TextError). IsNext old.reader c.args.last c.next.new.self (Err x)) c.in-Err-Fault.field-0-is c.in-Err-Fault.ensures.next))
