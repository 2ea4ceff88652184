use Rattle.std.proofs.Common.{sym, ap, subst, ◌∙◌}
use Rattle.mich_text.specs.pieces.Held.{Held, kept}
use Rattle.mich_text.specs.pieces.Reading.{HasFault}
use Rattle.mich_text.proofs.pieces_lemmas.Holding.{fault_of, fault_kept, fault_again}
use Rattle.mich_text.proofs.pieces.reader.Reader.next.Goals as goal

pub returns-in-Some-clause-next : goal.returns-in-Some-clause-next
returns-in-Some-clause-next c =
    let r = c.args.self.now in
    let f = fault_of (kept c.self.inside.place c.self.inside.taken c.self.inside.buffer.items c.self.inside.ended c.self.inside.fault) c.self.inside.fault c.in-Some.kind c.in-Some.place c.in-Some.is c.self.invariant.1.fault in
    let has = subst (λ (x : Held). HasFault x c.in-Some.kind c.in-Some.place) c.self.view_is f in
    let same = ap (λ (x : Held). x.fault) (sym c.self.view_is) ∙ c.in-Some.is in
    (fault_kept r c.args.last c.in-Some.kind c.in-Some.place has, c.ask.ensures ∙ fault_again r c.args.last c.in-Some.kind c.in-Some.place same)
