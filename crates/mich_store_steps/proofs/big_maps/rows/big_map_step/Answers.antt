use Rattle.std.proofs.Common.{sym, subst}
use Rattle.mich_overload.specs.View.{collection_row}
use Rattle.mich_store_steps.specs.big_maps.Given.{HandsOut}
use Rattle.mich_store_steps.proofs.big_maps.rows.big_map_step.Goals as goal

pub returns-in-EmptyBigMap : goal.returns-in-EmptyBigMap
returns-in-EmptyBigMap c =
    let bs = c.args.store.now.bases.present in
    subst (λ q. HandsOut bs (collection_row q) c.args.stack.now c.empty_big_map.new.stack c.empty_big_map.result) (sym c.in-EmptyBigMap.is) (c.empty_big_map.ensures bs)
