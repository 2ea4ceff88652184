use Rattle.std.proofs.Common.{◌≡◌, ◌+◌, length, reverse, ap, ◌∙◌, arith}
use Rattle.rules_code.specs.steps.Texts.{bytes_of}
use Rattle.mich_stack.specs.Views.{seen}
use Rattle.mich_term.specs.Weights.{capped}
use Rattle.mich_step.proofs.prices_lemmas.Joining.{capped_more, joined_weight, one_joined}
use Rattle.mich_step.proofs.prices.texts.list_weight.Goals as goal

pub loop-value-preserved : goal.loop-value-preserved
loop-value-preserved c = λ big.
    let before = c.loop-value.invariant big in
    let x = c.in-Some in
    let len : length c.bytes_of.result.now ≡ length (bytes_of (seen big x.value.now)) = ap length (c.bytes_of.ensures big) in
    let first : joined_weight big (reverse c.loop-value.left.now) ≡ length (bytes_of (seen big x.value.now)) + 1 + joined_weight big (reverse x.rest.now)
    = ap (joined_weight big) x.ensures.head ∙ one_joined big x.value.now (reverse x.rest.now) in
    let whole = before.2 in (
      before.0 + length c.bytes_of.result.now + 1,
      capped_more c.loop-value.total before.0 (length c.bytes_of.result.now) before.1 c.saturating_add.result c.saturating_add-total.result c.saturating_add.ensures c.saturating_add-total.ensures,
      omega (arith, len, first, whole),
    )

pub returns : goal.returns
returns c = λ big.
    let before = c.loop-value.invariant big in
    let none : joined_weight big (reverse c.loop-value.left.now) ≡ 0 = ap (joined_weight big) c.in_default.ensures.head in
    let whole = before.2 in
    let same : before.0 ≡ joined_weight big c.args.list.now = omega (arith, none, whole) in
    before.1 ∙ ap capped same
