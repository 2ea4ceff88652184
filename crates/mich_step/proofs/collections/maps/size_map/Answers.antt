use Rattle.std.proofs.Common.{◌∷◌, ap, ◌∙◌}
use Rattle.std.specs.Prelude.{pos}
use Rattle.rules_code.specs.steps.Sets.{entry_count}
use Rattle.mich_stack.specs.Views.{seen, values}
use Rattle.mich_step.specs.collections.Seen.{pairs_by}
use Rattle.mich_step.proofs.collections_lemmas.Opened.{map_seen}
use Rattle.mich_step.proofs.collections_lemmas.Steps.{size_map_is}
use Rattle.mich_step.proofs.collections.maps.size_map.Goals as goal

pub returns : goal.returns
returns c = λ big. size_map_is (values big c.args.stack.now) (pairs_by big c.take_map-table.result) (values big c.take_map-table.new.stack) (values big c.push.new.stack) (pos (entry_count (pairs_by big c.take_map-table.result))) (seen big c.map_value.result)
    (c.take_map-table.ensures big ∙ ap (λ v. v ∷ values big c.take_map-table.new.stack) (map_seen big c.take_map-table.result)) (c.map_size-size.ensures.fits big) (c.in_ok-push.ensures big ∙ ap (λ v. v ∷ values big c.take_map-table.new.stack) (c.map_size-size.ensures.value big)) (c.map_value.ensures big)
