use Rattle.std.proofs.Common.{rules, ◌≡◌, [], sym, ap, ◌∙◌, subst}
use Rattle.std.specs.List.Sorted.{IsStrictlySortedBy}
use Rattle.std.specs.Map.{keys_of}
use Rattle.mich_tickets.specs.Owned.{Owned, by_place}
use Rattle.mich_report.specs.Amounts.{held_in, paid}
use Rattle.mich_report.proofs.Walks.{owners_paid}
use Rattle.mich_report.proofs.gathering.add_owners.Goals as goal

pub returns : goal.returns
returns c = λ o j.
    let iter : Owned = c.owners.owner-iterator in
    let ended : iter ≡ [] = search rules in
    ap (λ (es : Owned). paid o j c.args.id.now es (held_in c.owners.purses.entries o j)) (sym ended)
    ∙ c.owners.invariant o j
    ∙ owners_paid o j c.args.id.now c.args.held.now (held_in c.args.purses.now.entries o j)
    (subst (λ (es : Owned). IsStrictlySortedBy by_place (keys_of es)) c.owners-owners.ensures c.len-count.ensures.ordered)
