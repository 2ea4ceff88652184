use Rattle.std.proofs.Common.{◌≤◌, sym, ap, subst, ◌∙◌}
use Rattle.mich_base.specs.View.{tree}
use Rattle.mich_text.specs.pieces.Held.{Held}
use Rattle.mich_text.specs.pieces.Reading.{HasFault, taken, failed}
use Rattle.mich_text.proofs.pieces_lemmas.Holding.{place_le, limit_le, end_asked, statement_read, fault_read}
use Rattle.mich_text.proofs.pieces.reader.Reader.decide.Goals as goal

pub take-requires-clause-from : goal.take-requires-clause-from
take-requires-clause-from c =
    let p = rw c.in-Ok-Some.field-0-is at c.in-Ok-Some.ensures.part in
    subst (λ (r : Held). r.place ≤ c.in-Ok-Some.placed.end) (sym c.ask-in-Ok-Some.ensures)
    (place_le c.args.self.now.place c.args.self.now.bytes (tree c.in-Ok-Some.placed.node) p.0 p.1 c.in-Ok-Some.placed.end p.2 p.4)

pub take-requires-clause-file : goal.take-requires-clause-file
take-requires-clause-file c =
    let p = rw c.in-Ok-Some.field-0-is at c.in-Ok-Some.ensures.part in
    limit_le c.args.self.now.place c.args.self.now.bytes (tree c.in-Ok-Some.placed.node) p.0 p.1 c.in-Ok-Some.placed.end c.in-Ok-Some.ensures.place p.2 p.4

pub fail-requires : goal.fail-requires
fail-requires c =
    let p = rw c.in-Err-Fault.field-0-is at c.in-Err-Fault.ensures.part in
    subst (λ (r : Held). HasFault r c.in-Err-Fault.kind c.in-Err-Fault.place) (sym c.ask-in-Err-Fault.ensures) (fault_read c.args.self.now c.args.last c.in-Err-Fault.kind c.in-Err-Fault.place c.requires.decided p)

pub returns-in-Ok-None : goal.returns-in-Ok-None
returns-in-Ok-None c =
    let p = rw c.in-Ok-None.field-0-is at c.in-Ok-None.ensures.part in
    (end_asked c.args.self.now c.args.last c.requires.decided p, p, c.ask.ensures)

pub returns-in-Ok-Some : goal.returns-in-Ok-Some
returns-in-Ok-Some c =
    let p = rw c.in-Ok-Some.field-0-is at c.in-Ok-Some.ensures.part in
    (statement_read c.args.self.now c.args.last c.in-Ok-Some.placed c.requires.decided p, c.take.ensures ∙ ap (λ (r : Held). taken r c.in-Ok-Some.placed.end) c.ask-in-Ok-Some.ensures)

pub returns-in-Err-Fault : goal.returns-in-Err-Fault
returns-in-Err-Fault c =
    let p = rw c.in-Err-Fault.field-0-is at c.in-Err-Fault.ensures.part in
    (fault_read c.args.self.now c.args.last c.in-Err-Fault.kind c.in-Err-Fault.place c.requires.decided p, c.fail.ensures ∙ ap (λ (r : Held). failed r c.in-Err-Fault.kind c.in-Err-Fault.place) c.ask-in-Err-Fault.ensures)
