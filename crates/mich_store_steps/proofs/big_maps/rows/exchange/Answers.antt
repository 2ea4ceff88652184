use Rattle.std.proofs.Common.{◌∷◌, ap, sym, subst, ◌∙◌}
use Rattle.std.specs.Prelude.{option_map}
use Rattle.rules_code.specs.steps.Step.{optional}
use Rattle.mich_term.specs.View.{datum}
use Rattle.mich_store_steps.specs.seen.Sights.{sight}
use Rattle.mich_store_steps.specs.big_maps.Given.{IsExchange, entries_seen, seen_in, values_in}
use Rattle.mich_store_steps.specs.big_maps.Operands.{IsBigMapOnTop}
use Rattle.mich_store_steps.proofs.big_maps_lemmas.Stepped.{exchange_is, third_option, third_big, option_plain}
use Rattle.mich_store_steps.proofs.big_maps.rows.exchange.Goals as goal

pub take_option-requires : goal.take_option-requires
take_option-requires c =
    let bs = c.args.store.now.bases.present in (sight bs, third_option _ _ _ (c.in_ok-key.ensures (sight bs)) c.requires.big_map)

pub take_big-requires : goal.take_big-requires
take_big-requires c =
    let bs = c.args.store.now.bases.present in
    (sight bs, third_big _ _ _ _ _ (c.in_ok-key.ensures (sight bs)) (c.in_ok-new.ensures (sight bs)) c.requires.big_map)

pub exchanged-requires-clause-entries : goal.exchanged-requires-clause-entries
exchanged-requires-clause-entries c =
    let bs = c.args.store.now.bases.present in
    subst IsBigMapOnTop (c.in_ok-big.ensures (sight bs)) (third_big _ _ _ _ _ (c.in_ok-key.ensures (sight bs)) (c.in_ok-new.ensures (sight bs)) c.requires.big_map)

pub exchanged-requires-clause-plain : goal.exchanged-requires-clause-plain
exchanged-requires-clause-plain c =
    let bs = c.args.store.now.bases.present in
    option_plain (seen_in bs) c.in_ok-new.new _ _ _ _ (c.in_ok-key.ensures (sight bs)) (c.in_ok-new.ensures (sight bs)) c.requires.big_map

pub returns : goal.returns
returns c =
    let bs = c.args.store.now.bases.present in
    let V = values_in bs c.args.stack.now in
    let W = values_in bs c.take_big.new.stack in
    subst (λ N. IsExchange V (option_map (seen_in bs) c.in_ok-old.old) N) (sym (c.in_ok-push.ensures (sight bs) ∙ ap (λ v. v ∷ W) (c.in_ok-big-2.ensures (sight bs))))
    (exchange_is V (datum c.in_ok-key.key) (option_map (seen_in bs) c.in_ok-new.new) (entries_seen bs c.in_ok-big.big) (entries_seen bs c.exchanged.new.big) W (option_map (seen_in bs) c.in_ok-old.old)
    (c.in_ok-key.ensures (sight bs) ∙ ap (λ X. datum c.in_ok-key.key ∷ X) (c.in_ok-new.ensures (sight bs) ∙ ap (λ X. optional (option_map (seen_in bs) c.in_ok-new.new) ∷ X) (c.in_ok-big.ensures (sight bs))))
    c.in_ok-old.ensures.old c.in_ok-old.ensures.new)
