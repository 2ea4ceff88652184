use Rattle.std.proofs.Common.{◌≡◌, ◌+◌, ◌-◌, length, take, drop, ap, ◌∙◌, arith}
use Rattle.mich_stack.specs.Views.{seen}
use Rattle.mich_interpreter.specs.View.{tops}
use Rattle.mich_interpreter.proofs.Listed.{above_is, below_is}
use Rattle.mich_interpreter.proofs.dipping.take_above.Goals as goal

pub returns : goal.returns
returns c = λ big.
    let items = c.into_vec-values.ensures ∙ c.replace.ensures.value in
    let n : c.len.result ≡ length c.args.stack.now = c.len.ensures ∙ c.into_vec-values.result.ok.0 ∙ ap length items in
    let le = c.requires in
    let place = c.len.result - c.args.count in
    let split : (c.len.result - c.args.count) + c.args.count ≡ length c.args.stack.now = omega (arith, n, le) in (
      ap (tops big) (c.from_vec-2.ensures ∙ c.in_ok-above.ensures.tail ∙ ap (drop place) items) ∙ above_is (seen big) c.args.stack.now place c.args.count split,
      ap (tops big) (c.from_vec.ensures ∙ c.in_ok-above.ensures.items ∙ ap (take place) items) ∙ below_is (seen big) c.args.stack.now place c.args.count split,
    )
