use Rattle.std.proofs.Common.{◌≡◌, true, sym, ap, ◌∙◌, subst}
use Rattle.std.specs.Prelude.{IfSome, is_some, option_map}
use Rattle.std.specs.declared.option.Option.{Option}
use Rattle.rules_data.specs.values.Val.{is_comparable}
use Rattle.mich_term.specs.View.{datum}
use Rattle.mich_term.specs.ValueView.{val}
use Rattle.mich_term.specs.Weights.{capped}
use Rattle.mich_term.specs.declared.datum.Datum.{Datum}
use Rattle.mich_store_steps.specs.seen.Sights.{sight}
use Rattle.rules_data.specs.values.Tables.{value_at}
use Rattle.mich_store_steps.specs.big_maps.Given.{entries_seen, values_in}
use Rattle.mich_store_steps.proofs.big_maps_lemmas.Stepped.{get_found}
use Rattle.mich_store_steps.proofs.big_maps.weights.get_weight.Goals as goal

pub returns : goal.returns
returns c =
    let bs = c.args.store.now.bases.present in
    let x = c.in-Some in
    let told = c.in_ok-key.ensures in
    let comparable : is_comparable (val x.key.now) ≡ true = sym told.comparable ∙ ap is_some c.in-Some-2.is in
    let same : datum c.in-Some-2.key ≡ val x.key.now = subst (λ (o : Option Datum). IfSome o (λ d. datum d ≡ val x.key.now)) c.in-Some-2.is told.value in
    c.found_weight.ensures
    ∙ ap capped (sym (get_found bs (values_in bs c.args.stack.now) (values_in bs x.field-0-2.now) x.key.now x.big.now c.in-BigMap.big c.in-Some-2.key (option_map (λ v. val v.now) c.found.result)
    (ap (values_in bs) (sym c.as_slice.ensures) ∙ x.ensures (sight bs)) c.in-BigMap.is comparable same (c.found.ensures.alone ∙ ap (λ b. value_at (datum c.in-Some-2.key) (entries_seen bs b)) c.get.ensures)))
