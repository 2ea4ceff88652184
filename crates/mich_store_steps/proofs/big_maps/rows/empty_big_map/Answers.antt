use Rattle.mich_base.specs.TypeView.{kind}
use Rattle.rules_data.specs.values.Val.{big_table}
use Rattle.rules_code.specs.instructions.Straight as i
use Rattle.rules_code.specs.steps.Collections.{collection_step}
use Rattle.std.proofs.Common.{ap, ◌∙◌}
use Rattle.mich_store_steps.specs.seen.Sights.{sight}
use Rattle.mich_store_steps.specs.big_maps.Given.{seen_in, values_in}
use Rattle.mich_store_steps.proofs.big_maps_lemmas.Stepped.{empty_is, nothing_out}
use Rattle.mich_store_steps.proofs.big_maps.rows.empty_big_map.Goals as goal

pub returns : goal.returns
returns c = λ bs. nothing_out bs (collection_step (i.empty_big_map (kind c.args.key.now) (kind c.args.value.now)) (values_in bs c.args.stack.now)) (values_in bs c.push.new.stack)
    (empty_is (kind c.args.key.now) (kind c.args.value.now) (values_in bs c.args.stack.now) (values_in bs c.push.new.stack) (seen_in bs c.in_ok-empty.empty)
    (c.in_ok-empty.ensures (sight bs) ∙ ap big_table (c.no_entries.ensures bs)) (c.in_ok-push.ensures (sight bs)))
