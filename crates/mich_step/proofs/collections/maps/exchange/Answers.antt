use Rattle.std.proofs.Common.{◌∷◌, ap, sym, subst, ◌∙◌}
use Rattle.std.specs.Prelude.{option_map}
use Rattle.rules_code.specs.steps.Step.{optional}
use Rattle.mich_term.specs.View.{datum}
use Rattle.mich_stack.specs.Views.{seen, values}
use Rattle.mich_step.specs.collections.Seen.{pairs_by}
use Rattle.mich_step.specs.collections.Shapes.{IsExchange}
use Rattle.mich_step.proofs.collections_lemmas.Updates.{exchange_is}
use Rattle.mich_step.proofs.collections_lemmas.Opened.{map_seen}
use Rattle.mich_step.proofs.collections.maps.exchange.Goals as goal

pub returns : goal.returns
returns c = λ big.
    let V = values big c.args.stack.now in
    let W = values big c.take_map-table.new.stack in
    subst (λ N. IsExchange V (option_map (seen big) c.in_ok-table.old) N) (sym (c.in_ok-push.ensures big ∙ ap (λ v. v ∷ W) (c.map_value.ensures big)))
    (exchange_is V (datum c.in_ok-key.key) (option_map (seen big) c.in_ok-new.new) (pairs_by big c.take_map-table.result) (pairs_by big c.in_ok-table.table) W (option_map (seen big) c.in_ok-table.old)
    (c.in_ok-key.ensures big ∙ ap (λ X. datum c.in_ok-key.key ∷ X) (c.in_ok-new.ensures big ∙ ap (λ X. optional (option_map (seen big) c.in_ok-new.new) ∷ X) (c.take_map-table.ensures big ∙ ap (λ v. v ∷ values big c.take_map-table.new.stack) (map_seen big c.take_map-table.result))))
    (c.in_ok-table.ensures.old big) (c.in_ok-table.ensures.table big))
