use Rattle.std.proofs.Common.{◌∷◌, ap, ◌∙◌}
use Rattle.std.specs.Prelude.{pos}
use Rattle.rules_code.specs.steps.Sets.{element_count}
use Rattle.mich_stack.specs.Views.{seen, values}
use Rattle.mich_step.specs.collections.Seen.{vals_by}
use Rattle.mich_step.proofs.collections_lemmas.Steps.{size_list_is}
use Rattle.mich_step.proofs.collections.maps.size_list.Goals as goal

pub returns : goal.returns
returns c = λ big. size_list_is (values big c.args.stack.now) (vals_by big c.take_list-list.result) (values big c.take_list-list.new.stack) (values big c.push.new.stack) (pos (element_count (vals_by big c.take_list-list.result))) (seen big c.list_value.result)
    (c.take_list-list.ensures big) (c.list_size-size.ensures.fits big) (c.in_ok-push.ensures big ∙ ap (λ v. v ∷ values big c.take_list-list.new.stack) (c.list_size-size.ensures.value big)) (c.list_value.ensures big)
