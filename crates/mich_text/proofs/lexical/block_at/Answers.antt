use Rattle.std.proofs.Common.{◌≡◌, true, false, refl, sym, ◌∙◌, eqb}
use Rattle.std.proofs.lemmas.Bool.{eq-eqb, ne_eqb}
use Rattle.mich_text.proofs.tokens.Gaps.{block_opens, block_closes, block_passes}
use Rattle.mich_text.proofs.lexical.block_at.Goals as goal

pub returns-then-opens-clause-step : goal.returns-then-opens-clause-step
returns-then-opens-clause-step c =
    block_opens c.args.levels _ _ _ _ _ c.in-Some.ensures.cases.0 c.in-Some-split_first.ensures.cases.0
    (sym c.opens.ensures ∙ c.if-opens.true)

pub returns-then-levels-eq1-clause-step : goal.returns-then-levels-eq1-clause-step
returns-then-levels-eq1-clause-step c =
    let one : eqb c.args.levels 1 ≡ true = eq-eqb _ _ c.if-levels-eq1.true in
    block_closes c.args.levels _ _ _ _ _ c.in-Some.ensures.cases.0 c.in-Some-split_first.ensures.cases.0
    (sym c.opens.ensures ∙ c.if-opens.false) (sym c.closes.ensures ∙ c.if-closes.true) ∙ rw one refl

pub returns-else-levels-eq1-clause-step : goal.returns-else-levels-eq1-clause-step
returns-else-levels-eq1-clause-step c =
    let one : eqb c.args.levels 1 ≡ false = ne_eqb _ _ c.if-levels-eq1.false in
    block_closes c.args.levels _ _ _ _ _ c.in-Some.ensures.cases.0 c.in-Some-split_first.ensures.cases.0
    (sym c.opens.ensures ∙ c.if-opens.false) (sym c.closes.ensures ∙ c.if-closes.true) ∙ rw one refl

pub returns-clause-step : goal.returns-clause-step
returns-clause-step c =
    block_passes c.args.levels _ _ _ _ _ c.in-Some.ensures.cases.0 c.in-Some-split_first.ensures.cases.0
    (sym c.opens.ensures ∙ c.if-opens.false) (sym c.closes.ensures ∙ c.if-closes.false)
