use Rattle.std.proofs.Common.{◌∷◌, ap, ◌∙◌}
use Rattle.mich_term.specs.View.{datum, datums}
use Rattle.mich_stack.specs.Views.{values}
use Rattle.mich_step.proofs.collections_lemmas.Steps.{mem_set_is}
use Rattle.mich_step.proofs.collections.sets.mem_set.Goals as goal

pub returns : goal.returns
returns c = λ big. mem_set_is (values big c.args.stack.now) (datum c.in_ok-element.element) (datums c.take_set-set.result) (values big c.take_set-set.new.stack) (values big c.push.new.stack) c.has.result
    (c.in_ok-element.ensures big ∙ ap (λ V. datum c.in_ok-element.element ∷ V) (c.take_set-set.ensures big)) c.has.ensures
    (c.in_ok-push.ensures big ∙ ap (λ v. v ∷ values big c.take_set-set.new.stack) (c.truth_value-found.ensures big))
