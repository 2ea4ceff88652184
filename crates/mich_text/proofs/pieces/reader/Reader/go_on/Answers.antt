use Rattle.std.proofs.Common.{◌≤◌, sym, ap, subst, ◌∙◌}
use Rattle.mich_base.specs.View.{tree}
use Rattle.mich_text.specs.pieces.Held.{Held}
use Rattle.mich_text.specs.pieces.Reading.{taken}
use Rattle.mich_text.proofs.pieces_lemmas.Holding.{asked_none, place_le, limit_le, statement_found}
use Rattle.mich_text.proofs.pieces.reader.Reader.go_on.Goals as goal

pub take-requires-clause-from : goal.take-requires-clause-from
take-requires-clause-from c =
    let p = rw c.in-Ok-Some.field-0-is at c.in-Ok-Some.ensures.found in
    subst (λ (r : Held). r.place ≤ c.in-Ok-Some.placed.end) (sym c.closed.ensures.same)
    (place_le c.args.self.now.place c.args.self.now.bytes (tree c.in-Ok-Some.placed.node) p.start p.end c.in-Ok-Some.placed.end p.closed.node p.end_is)

pub take-requires-clause-file : goal.take-requires-clause-file
take-requires-clause-file c =
    let p = rw c.in-Ok-Some.field-0-is at c.in-Ok-Some.ensures.found in
    limit_le c.args.self.now.place c.args.self.now.bytes (tree c.in-Ok-Some.placed.node) p.start p.end c.in-Ok-Some.placed.end c.in-Ok-Some.ensures.place p.closed.node p.end_is

pub returns-in-Ok-Some : goal.returns-in-Ok-Some
returns-in-Ok-Some c =
    let p = rw c.in-Ok-Some.field-0-is at c.in-Ok-Some.ensures.found in (
      statement_found c.args.self.now c.in-Ok-Some.placed p,
      c.take.ensures ∙ ap (λ (r : Held). taken r c.in-Ok-Some.placed.end) (c.closed.ensures.same ∙ sym (asked_none c.args.self.now)),
    )
