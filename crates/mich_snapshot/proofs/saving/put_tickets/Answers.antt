use Rattle.std.proofs.Common.{◌≡◌, ℤ, List, ◌++◌, map, ap, ◌∙◌, subst}
use Rattle.std.specs.Prelude.{OnOk}
use Rattle.rules_data.specs.values.Tickets.{Identity}
use Rattle.rules_files.specs.snapshots.Spelling.{counted, total_spelling}
use Rattle.rules_files.specs.snapshots.State.{Total}
use Rattle.mich_tickets.specs.Books.{State}
use Rattle.mich_tickets.specs.Lines.{Lines}
use Rattle.mich_report.specs.Amounts.{seen}
use Rattle.mich_report.specs.State.{Mints}
use Rattle.mich_snapshot.specs.Saved.{total_in}
use Rattle.mich_snapshot.proofs.Parts.{all_totals}
use Rattle.mich_snapshot.proofs.saving.put_tickets.Goals as goal

pub returns : goal.returns
returns c = λ w r.
    let e = c.ledger-ledger.ensures in
    let m = subst (λ (ls : Lines). Mints ls c.in_ok-minted.minted) (c.lines.ensures ∙ ap (λ (s : State). s.books.present.lines) e) c.in_ok-minted.ensures in
    subst (λ (ts : List Total). OnOk c.put_totals.result (c.put_totals.new.out.items ≡ c.args.out.now.items ++ counted total_spelling ts))
    (ap (λ (s : State). map (λ (e : Identity × ℤ). total_in s.books.present e.0) (map seen c.in_ok-minted.minted)) e
    ∙ all_totals c.args.world.now w c.in_ok-minted.minted r m c.put_totals.ensures.order c.put_totals.ensures.positive)
    c.put_totals.ensures.totals
