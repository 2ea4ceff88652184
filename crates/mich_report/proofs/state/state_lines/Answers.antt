use Rattle.std.proofs.Common.{List, ℕ, ◌++◌, map, sym, ap, ◌∙◌, subst}
use Rattle.rules_world.specs.lines.Nodes.{account_node, line}
use Rattle.mich_tickets.specs.Books.{State}
use Rattle.mich_tickets.specs.Lines.{Lines}
use Rattle.mich_report.specs.Amounts.{seen}
use Rattle.mich_report.specs.State.{AreTotals, Gathers, Mints, ticket_of}
use Rattle.mich_report.proofs.Rest.{all_lines, all_tickets, totals_positive}
use Rattle.mich_report.proofs.state.state_lines.Goals as goal

pub add_tickets-requires : goal.add_tickets-requires
add_tickets-requires c =
    subst (λ (s : State). AreTotals s.books.present) (sym c.ledger-ledger.ensures) (totals_positive c.args.world.now c.requires.0 c.requires.1)

pub returns : goal.returns
returns c = λ w r.
    let e = c.ledger-ledger.ensures in
    let lent = ap (λ (s : State). s.books.present.lines) e in
    let g = subst (λ (ls : Lines). Gathers ls c.in_ok-purses.purses.entries) (c.lines.ensures ∙ lent) c.in_ok-purses.ensures in
    let m = subst (λ (ls : Lines). Mints ls c.in_ok-minted.minted) (c.lines-2.ensures ∙ lent) c.in_ok-minted.ensures in
    all_lines c.args.world.now w (map (ticket_of c.ledger-ledger.result.now.books.present) (map seen c.in_ok-minted.minted))
    c.add_accounts.new.lines c.add_contracts.new.lines c.add_tickets.new.lines c.add_sums.new.lines r
    (c.in_ok-add_accounts.ensures w r g ∙ ap (λ (x : List (List ℕ)). x ++ map line (map account_node w.accounts)) c.new-lines.ensures)
    (c.in_ok-add_contracts.ensures w r)
    c.in_ok-add_tickets.ensures.lines
    (ap (λ (s : State). map (ticket_of s.books.present) (map seen c.in_ok-minted.minted)) e
    ∙ all_tickets c.args.world.now w c.in_ok-minted.minted r m.0 m.1 c.in_ok-add_tickets.ensures.order c.in_ok-add_tickets.ensures.positive)
    c.in_ok-add_sums.ensures
