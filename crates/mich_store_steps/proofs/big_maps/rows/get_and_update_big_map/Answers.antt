use Rattle.std.proofs.Common.{◌∷◌, sym, ap, ◌∙◌}
use Rattle.rules_code.specs.instructions.Straight as i
use Rattle.rules_code.specs.steps.Collections.{collection_step}
use Rattle.rules_code.specs.steps.Step.{kept}
use Rattle.mich_store_steps.specs.seen.Sights.{sight}
use Rattle.mich_store_steps.specs.big_maps.Given.{values_in}
use Rattle.mich_store_steps.proofs.big_maps_lemmas.Stepped.{nothing_out}
use Rattle.mich_store_steps.proofs.big_maps.rows.get_and_update_big_map.Goals as goal

pub returns : goal.returns
returns c =
    let bs = c.args.store.now.bases.present in
    nothing_out bs (collection_step i.get_and_update_big_map (values_in bs c.args.stack.now)) (values_in bs c.push.new.stack)
    (c.in_ok-old.ensures.both ∙ ap kept (sym (c.in_ok-push.ensures (sight bs) ∙ ap (λ v. v ∷ values_in bs c.exchange.new.stack) (c.in_ok-value.ensures (sight bs)))))
