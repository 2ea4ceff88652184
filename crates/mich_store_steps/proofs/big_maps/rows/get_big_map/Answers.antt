use Rattle.std.proofs.Common.{◌∷◌, ap, subst, ◌∙◌}
use Rattle.std.specs.Prelude.{option_map}
use Rattle.rules_code.specs.instructions.Straight as i
use Rattle.rules_code.specs.steps.Collections.{collection_step}
use Rattle.mich_term.specs.View.{datum}
use Rattle.mich_store_steps.specs.seen.Sights.{sight}
use Rattle.mich_store_steps.specs.big_maps.Given.{entries_seen, seen_in, values_in}
use Rattle.mich_store_steps.specs.big_maps.Operands.{IsBigMapSecond, IsBigMapOnTop}
use Rattle.mich_store_steps.proofs.big_maps_lemmas.Stepped.{get_is, nothing_out}
use Rattle.mich_store_steps.proofs.big_maps.rows.get_big_map.Goals as goal

pub take_big-requires : goal.take_big-requires
take_big-requires c =
    let bs = c.args.store.now.bases.present in (sight bs, subst IsBigMapSecond (c.in_ok-key.ensures (sight bs)) c.requires.big_map)

pub found-requires : goal.found-requires
found-requires c =
    let bs = c.args.store.now.bases.present in
    subst IsBigMapOnTop (c.in_ok-big.ensures (sight bs)) (subst IsBigMapSecond (c.in_ok-key.ensures (sight bs)) c.requires.big_map)

pub returns : goal.returns
returns c =
    let bs = c.args.store.now.bases.present in
    nothing_out bs (collection_step i.get_big_map (values_in bs c.args.stack.now)) (values_in bs c.push.new.stack) (get_is (values_in bs c.args.stack.now) (datum c.in_ok-key.key) (entries_seen bs c.in_ok-big.big) (values_in bs c.take_big.new.stack) (values_in bs c.push.new.stack)
    (option_map (λ x. seen_in bs x.now) c.found.result)
    (c.in_ok-key.ensures (sight bs) ∙ ap (λ V. datum c.in_ok-key.key ∷ V) (c.in_ok-big.ensures (sight bs))) c.found.ensures.in_store
    (c.in_ok-push.ensures (sight bs) ∙ ap (λ v. v ∷ values_in bs c.take_big.new.stack) (c.in_ok-value.ensures (sight bs))))
