use Rattle.std.proofs.Common.{◌≡◌, ℕ, [], ◌∷◌, map, sym, ap, ◌∙◌, subst}
use Rattle.std.specs.Prelude.{IfOk, codes}
use Rattle.rules_text.specs.nodes.Tree.{Tree, int}
use Rattle.rules_world.specs.lines.Nodes.{line, number, over}
use Rattle.mich_tickets.specs.Books.{State}
use Rattle.mich_tickets.specs.Lines.{Lines}
use Rattle.mich_report.specs.Amounts.{seen}
use Rattle.mich_report.specs.State.{AreTotals, Mints}
use Rattle.mich_report.specs.Summed.{AreSums}
use Rattle.mich_report.proofs.Rest.{entries_told, totals_positive}
use Rattle.mich_report.proofs.Summing.{summary_same}
use Rattle.mich_report.proofs.summary.summary_text.Goals as goal

pub sum_tickets-requires : goal.sum_tickets-requires
sum_tickets-requires c =
    subst (λ (s : State). AreTotals s.books.present) (sym c.ledger-ledger.ensures) (totals_positive c.args.world.now c.requires.0 c.requires.1)

pub returns : goal.returns
returns c = λ w r.
    let e = c.ledger-ledger.ensures in
    let lent = ap (λ (s : State). s.books.present.lines) e in
    let m = subst (λ (ls : Lines). Mints ls c.in_ok-minted.minted) (c.lines.ensures ∙ lent) c.in_ok-minted.ensures in
    let all = entries_told c.args.world.now w c.in_ok-minted.minted r m.0 m.1 c.in_ok-sums.ensures.order c.in_ok-sums.ensures.positive in
    let sums = subst (λ (s : State). AreSums s.books.present (map seen c.in_ok-minted.minted) c.in_ok-sums.sums) e c.in_ok-sums.ensures.sums in
    let s = c.in_ok-sums.sums in
    let node = c.in_ok-node.ensures
    ∙ ap (λ (n : ℕ). over (codes "Summary") (number c.args.calls ∷ number c.args.applied ∷ number c.args.failed ∷ number n ∷ int s.minted ∷ int s.burnt ∷ int s.held ∷ [])) c.supply.ensures
    ∙ summary_same c.args.world.now w r (map seen c.in_ok-minted.minted) all c.args.calls c.args.applied c.args.failed s sums in
    subst (λ (t : Tree). IfOk c.node_line.result (λ text. text ≡ line t)) node c.node_line.ensures
