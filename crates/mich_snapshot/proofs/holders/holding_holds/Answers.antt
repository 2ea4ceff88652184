use Rattle.std.proofs.Common.{sym, ◌∙◌, subst, arith}
use Rattle.std.specs.Int.{w128}
use Rattle.std.specs.Prelude.{ℤ, pos, ◌<ℤ◌, ◌≤ℤ◌}
use Rattle.std.proofs.lemmas.Int.{ints, to_z-of_z}
use Rattle.rules_files.specs.snapshots.Rules.{has_total}
use Rattle.mich_term.specs.TicketView.{identity}
use Rattle.mich_snapshot.specs.Sums.{Finds, more}
use Rattle.mich_snapshot.proofs.HolderRules.{is_positive, no_content, none_positive, not_positive, then_found}
use Rattle.mich_snapshot.proofs.holders.holding_holds.Goals as goal

pub returns-then-amount-lt1 : goal.returns-then-amount-lt1
returns-then-amount-lt1 c = λ s found h.
    let few : c.args.amount <ℤ pos 1 = omega (arith, ints) in
    (sym (none_positive s (identity c.args.id.now, c.args.amount) (not_positive c.args.amount few)), λ e. absurd cc)

pub returns-then-not-fits : goal.returns-then-not-fits
returns-then-not-fits c = λ s found h.
    (sym (no_content s (identity c.args.id.now, c.args.amount) (sym c.in_ok-fits.ensures ∙ c.if-not-fits.true)), λ e. absurd cc)

pub returns : goal.returns
returns c = λ s found h.
    let id = identity c.args.id.now in
    let es = c.add.new.self.found.entries in
    let some : pos 1 ≤ℤ c.args.amount = omega (arith, ints) in
    then_found s (id, c.args.amount) (more found id c.args.amount) es c.add.result (is_positive c.args.amount some) (sym c.in_ok-fits.ensures ∙ c.if-not-fits.false)
    (subst (λ (n : ℤ). Finds s (has_total s id) (more found id n) es c.add.result) (to_z-of_z w128 c.args.amount c.ranges.amount) (c.add.ensures s found h))
