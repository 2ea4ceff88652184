use Rattle.std.proofs.Common.{sym, ◌∙◌}
use Rattle.mich_saved.specs.Whole.{state}
use Rattle.mich_snapshot.proofs.KeptHeads.{costs_fail, heads_hold, sums_fail}
use Rattle.mich_snapshot.proofs.heads.try_heads.Goals as goal

pub returns-then-not-costs_hold : goal.returns-then-not-costs_hold
returns-then-not-costs_hold c = λ s spelt kept.
    costs_fail s (state c.args.read.now) spelt kept (sym c.head_holds.ensures ∙ c.if-not-head_holds.false) (sym c.costs_hold.ensures ∙ c.if-not-costs_hold.true)

pub returns-then-not-sums_hold : goal.returns-then-not-sums_hold
returns-then-not-sums_hold c = λ s spelt kept.
    sums_fail s (state c.args.read.now) spelt kept (sym c.head_holds.ensures ∙ c.if-not-head_holds.false) (sym c.costs_hold.ensures ∙ c.if-not-costs_hold.false)
    (sym c.sums_hold.ensures ∙ c.if-not-sums_hold.true)

pub returns : goal.returns
returns c = λ s spelt kept.
    heads_hold s (state c.args.read.now) spelt kept (sym c.head_holds.ensures ∙ c.if-not-head_holds.false) (sym c.costs_hold.ensures ∙ c.if-not-costs_hold.false)
    (sym c.sums_hold.ensures ∙ c.if-not-sums_hold.false)
