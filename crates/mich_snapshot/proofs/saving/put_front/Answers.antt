use Rattle.std.proofs.Common.{ℕ, List, ◌++◌, ap, ◌∙◌, subst}
use Rattle.mich_tickets.specs.Books.{State}
use Rattle.mich_tickets.specs.Lines.{Lines}
use Rattle.mich_report.specs.State.{Gathers}
use Rattle.mich_snapshot.proofs.Putting.{on_ok, put_four_parts}
use Rattle.mich_snapshot.proofs.Parts.{head_same, sums_same}
use Rattle.mich_snapshot.proofs.saving.put_front.Goals as goal

pub returns : goal.returns
returns c = λ w r.
    let s = c.args.state.now in
    let g = subst (λ (ls : Lines). Gathers ls c.in_ok-purses.purses.entries)
    (c.lines.ensures ∙ ap (λ (x : State). x.books.present.lines) c.ledger.ensures) c.in_ok-purses.ensures in
    on_ok _ _ c.put_accounts.result
    (put_four_parts c.args.out.now.items c.put_head.new.out.items c.put_costs.new.out.items c.put_sums.new.out.items c.put_accounts.new.out.items _ _ _ _
    (c.in_ok-put_head.ensures ∙ ap (λ (l : List ℕ). c.args.out.now.items ++ l) (head_same s w r.stands))
    c.in_ok-put_costs.ensures
    (c.in_ok-put_sums.ensures ∙ ap (λ (l : List ℕ). c.put_costs.new.out.items ++ l) (sums_same s w r.stands)))
    (c.put_accounts.ensures w r g)
