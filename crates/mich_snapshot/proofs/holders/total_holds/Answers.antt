use Rattle.std.proofs.Common.{◌≡◌, Bool, sym, ◌∙◌}
use Rattle.std.proofs.lemmas.Result.{IfOk-weaker}
use Rattle.rules_files.specs.snapshots.Rules.{is_content}
use Rattle.mich_saved.specs.Shown.{total}
use Rattle.mich_term.specs.TicketView.{identity}
use Rattle.mich_snapshot.specs.Holders.{is_whole_total}
use Rattle.mich_snapshot.proofs.TotalRules.{content_decides, not_issued, not_left}
use Rattle.mich_snapshot.proofs.holders.total_holds.Goals as goal

pub returns-then-not-issuer_holds : goal.returns-then-not-issuer_holds
returns-then-not-issuer_holds c = λ s found cs sums are there issuer.
    let t = c.args.total.now in
    sym (not_issued cs (found (identity t.id)) (total t).1 (sym (c.issuer_holds.ensures cs are issuer) ∙ c.if-not-issuer_holds.true))

pub returns-then-not-totals_hold : goal.returns-then-not-totals_hold
returns-then-not-totals_hold c = λ s found cs sums are there issuer.
    let t = c.args.total.now in
    sym (not_left cs (found (identity t.id)) (total t).1 (sym (c.totals_hold.ensures s found sums there) ∙ c.if-not-totals_hold.true))

pub returns : goal.returns
returns c = λ s found cs sums are there issuer.
    let t = c.args.total.now in
    let n = found (identity t.id) in
    let decides = content_decides cs n (total t).1 (sym (c.issuer_holds.ensures cs are issuer) ∙ c.if-not-issuer_holds.false)
    (sym (c.totals_hold.ensures s found sums there) ∙ c.if-not-totals_hold.false) in
    IfOk-weaker c.datum_fits.result (λ (b : Bool). b ≡ is_content (identity t.id)) (λ (b : Bool). b ≡ is_whole_total cs n (total t).1) (λ b e. e ∙ sym decides) c.datum_fits.ensures
