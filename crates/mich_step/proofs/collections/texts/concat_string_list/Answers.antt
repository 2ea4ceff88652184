use Rattle.std.proofs.Common.{ℕ, ◌∷◌, Vec, Global, ap, subst, ◌∙◌}
use Rattle.std.specs.Prelude.{option_map}
use Rattle.rules_code.specs.steps.Texts.{joined}
use Rattle.mich_stack.specs.Views.{values}
use Rattle.mich_step.specs.collections.Seen.{vals_by}
use Rattle.mich_step.specs.collections.Sizes.{IsWithinSize}
use Rattle.mich_step.proofs.collections_lemmas.Steps.{string_list_is, string_list_over}
use Rattle.mich_step.proofs.collections.texts.concat_string_list.Goals as goal

pub returns-in_ok-push-in-Some : goal.returns-in_ok-push-in-Some
returns-in_ok-push-in-Some c = λ big.
    let xs = vals_by big c.take_list-list.result in
    let w = subst (λ o. IsWithinSize (joined xs) (option_map (λ (v : Vec ℕ Global). v.items) o)) c.in-Some.is (c.in_ok-joined.ensures big) in
    string_list_is (values big c.args.stack.now) xs (values big c.take_list-list.new.stack) (values big c.push.new.stack) c.in-Some.bytes.items
    (c.take_list-list.ensures big) w.0 w.1
    (c.in_ok-push-in-Some.ensures big ∙ ap (λ v. v ∷ values big c.take_list-list.new.stack) (c.in_ok-text_value-in-Some.ensures big))

pub returns-in-None : goal.returns-in-None
returns-in-None c = λ big.
    let xs = vals_by big c.take_list-list.result in
    string_list_over (values big c.args.stack.now) xs (values big c.take_list-list.new.stack)
    (c.take_list-list.ensures big)
    (subst (λ o. IsWithinSize (joined xs) (option_map (λ (v : Vec ℕ Global). v.items) o)) c.in-None.is (c.in_ok-joined.ensures big))
