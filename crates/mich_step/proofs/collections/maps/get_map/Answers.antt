use Rattle.std.proofs.Common.{◌∷◌, ap, ◌∙◌}
use Rattle.std.specs.Prelude.{option_map}
use Rattle.mich_term.specs.View.{datum}
use Rattle.mich_stack.specs.Views.{seen, values}
use Rattle.mich_step.specs.collections.Seen.{pairs_by}
use Rattle.mich_step.proofs.collections_lemmas.Steps.{get_map_is}
use Rattle.mich_step.proofs.collections_lemmas.Opened.{map_seen}
use Rattle.mich_step.proofs.collections.maps.get_map.Goals as goal

pub returns : goal.returns
returns c = λ big. get_map_is (values big c.args.stack.now) (datum c.in_ok-key.key) (pairs_by big c.take_map-table.result) (values big c.take_map-table.new.stack) (values big c.push.new.stack)
    (option_map (seen big) c.in_ok-value.value)
    (c.in_ok-key.ensures big ∙ ap (λ V. datum c.in_ok-key.key ∷ V) (c.take_map-table.ensures big ∙ ap (λ v. v ∷ values big c.take_map-table.new.stack) (map_seen big c.take_map-table.result))) (c.in_ok-value.ensures big)
    (c.in_ok-push.ensures big ∙ ap (λ v. v ∷ values big c.take_map-table.new.stack) (c.in_ok-found.ensures big))
