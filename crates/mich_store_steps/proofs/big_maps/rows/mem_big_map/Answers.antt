use Rattle.std.proofs.Common.{◌∷◌, ap, subst, ◌∙◌}
use Rattle.mich_term.specs.View.{datum}
use Rattle.mich_store_steps.specs.seen.Sights.{sight}
use Rattle.mich_store_steps.specs.big_maps.Given.{entries_seen, seen_in, values_in}
use Rattle.mich_store_steps.specs.big_maps.Operands.{IsBigMapSecond, IsBigMapOnTop}
use Rattle.mich_store_steps.proofs.big_maps_lemmas.Stepped.{mem_is}
use Rattle.mich_store_steps.proofs.big_maps.rows.mem_big_map.Goals as goal

pub take_big-requires : goal.take_big-requires
take_big-requires c =
    let bs = c.args.store.now.bases.present in (sight bs, subst IsBigMapSecond (c.in_ok-key.ensures (sight bs)) c.requires.big_map)

pub is_there-found-requires : goal.is_there-found-requires
is_there-found-requires c =
    let bs = c.args.store.now.bases.present in
    subst IsBigMapOnTop (c.in_ok-big.ensures (sight bs)) (subst IsBigMapSecond (c.in_ok-key.ensures (sight bs)) c.requires.big_map)

pub returns : goal.returns
returns c =
    let bs = c.args.store.now.bases.present in
    mem_is (values_in bs c.args.stack.now) (datum c.in_ok-key.key) (entries_seen bs c.in_ok-big.big) (values_in bs c.take_big.new.stack) (values_in bs c.push.new.stack) c.is_there-found.result (seen_in bs c.in_ok-gone.gone)
    (c.in_ok-key.ensures (sight bs) ∙ ap (λ V. datum c.in_ok-key.key ∷ V) (c.in_ok-big.ensures (sight bs))) c.is_there-found.ensures
    (c.in_ok-push.ensures (sight bs) ∙ ap (λ v. v ∷ values_in bs c.take_big.new.stack) (c.truth_value.ensures (sight bs))) (c.in_ok-gone.ensures (sight bs))
