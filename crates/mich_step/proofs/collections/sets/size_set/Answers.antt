use Rattle.std.proofs.Common.{◌∷◌, ap, ◌∙◌}
use Rattle.std.specs.Prelude.{pos}
use Rattle.rules_code.specs.steps.Sets.{element_count}
use Rattle.mich_term.specs.View.{datums}
use Rattle.mich_stack.specs.Views.{values}
use Rattle.mich_step.proofs.collections_lemmas.Steps.{size_set_is}
use Rattle.mich_step.proofs.collections.sets.size_set.Goals as goal

pub returns : goal.returns
returns c = λ big. size_set_is (values big c.args.stack.now) (datums c.take_set-set.result) (values big c.take_set-set.new.stack) (values big c.push.new.stack) (pos (element_count (datums c.take_set-set.result)))
    (c.take_set-set.ensures big) c.set_size-size.ensures.fits (c.in_ok-push.ensures big ∙ ap (λ v. v ∷ values big c.take_set-set.new.stack) (c.set_size-size.ensures.value big))
