use Rattle.std.proofs.Common.{sym, ap, ◌∙◌}
use Rattle.rules_code.specs.steps.Changes.{burns}
use Rattle.rules_code.specs.steps.Step.{done}
use Rattle.mich_store_steps.specs.seen.Sights.{sight}
use Rattle.mich_store_steps.specs.big_maps.Given.{values_in}
use Rattle.mich_store_steps.proofs.big_maps.rows.update_big_map.Goals as goal

pub returns : goal.returns
returns c =
    let bs = c.args.store.now.bases.present in
    c.in_ok-old.ensures.update ∙ ap (λ ts. done (values_in bs c.exchange.new.stack) (burns ts)) (sym (c.or_unit.ensures (sight bs)))
