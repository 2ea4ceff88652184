use Rattle.std.proofs.Common.{◌∷◌, ap, ◌∙◌}
use Rattle.mich_term.specs.View.{datum}
use Rattle.mich_stack.specs.Views.{seen, values}
use Rattle.mich_step.specs.collections.Seen.{pairs_by}
use Rattle.mich_step.proofs.collections_lemmas.Steps.{mem_map_is}
use Rattle.mich_step.proofs.collections_lemmas.Opened.{map_seen}
use Rattle.mich_step.proofs.collections.maps.mem_map.Goals as goal

pub returns : goal.returns
returns c = λ big. mem_map_is (values big c.args.stack.now) (datum c.in_ok-key.key) (pairs_by big c.take_map-table.result) (values big c.take_map-table.new.stack) (values big c.push.new.stack) c.has_key.result (seen big c.map_value.result)
    (c.in_ok-key.ensures big ∙ ap (λ V. datum c.in_ok-key.key ∷ V) (c.take_map-table.ensures big ∙ ap (λ v. v ∷ values big c.take_map-table.new.stack) (map_seen big c.take_map-table.result))) (c.has_key.ensures big)
    (c.in_ok-push.ensures big ∙ ap (λ v. v ∷ values big c.take_map-table.new.stack) (c.truth_value-found.ensures big)) (c.map_value.ensures big)
