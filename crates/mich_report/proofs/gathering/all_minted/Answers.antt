use Rattle.std.proofs.Common.{rules, ◌≡◌, ◌∷◌, sym, ap, ◌∙◌}
use Rattle.mich_tickets.specs.Lines.{Lines}
use Rattle.mich_report.specs.Amounts.{Amounts, amount_in, minted_of_line, settled, with_amount}
use Rattle.mich_report.proofs.Written.{amount_written}
use Rattle.mich_report.proofs.gathering.all_minted.Goals as goal

pub lines-preserved : goal.lines-preserved
lines-preserved c = λ j.
    let iter : Lines = c.lines.id-iterator in
    let rest : Lines = c.next.new.self in
    let first : iter ≡ (c.in-Some.id.now, c.in-Some.line.now) ∷ rest = search rules in
    let put : c.put.new.self ≡ with_amount c.in-Some.id.now c.in-Some.line.now.totals.minted c.lines.minted = search rules in
    ap (λ (es : Amounts). settled minted_of_line j rest (amount_in j es)) put
    ∙ ap (settled minted_of_line j rest) (amount_written j c.in-Some.id.now c.in-Some.line.now.totals.minted c.lines.minted)
    ∙ ap (λ (ls : Lines). settled minted_of_line j ls (amount_in j c.lines.minted)) (sym first)
    ∙ c.lines.invariant j
