use Rattle.std.proofs.Common.{◌∷◌, ◌∙◌, ap, refl}
use Rattle.rules_data.specs.values.Val.{some}
use Rattle.mich_stack.specs.Views.{seen}
use Rattle.mich_term.specs.declared.value.Value.{Value}
use Rattle.mich_interpreter.specs.View.{tops}
use Rattle.mich_interpreter.proofs.Rebuilt.{seen_some}
use Rattle.mich_interpreter.proofs.callers.go_back.Goals as goal

pub returns : goal.returns
returns c = record {
  value = c.pop-value.result;
  rest = c.pop-value.new.stack;
  given = c.pop-value.ensures;
  stack = c.push.new.stack;
  machine = refl;
  taken = λ big.
      c.in_ok-push.ensures big ∙ ap (λ y. y ∷ tops big c.args.caller.below) (seen_some big c.in_ok-new.field-0)
      ∙ ap (λ (v : Value). some (seen big v) ∷ tops big c.args.caller.below) c.in_ok-new.ensures;
}
