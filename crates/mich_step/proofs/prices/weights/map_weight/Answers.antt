use Rattle.std.proofs.Common.{rules, ◌≡◌, false, true, List, sym, ap, ◌∙◌, subst}
use Rattle.std.specs.Prelude.{IfSome, is_some}
use Rattle.std.specs.declared.option.Option.{Option}
use Rattle.rules_code.specs.steps.Costs.{weight_found}
use Rattle.rules_data.specs.values.Tables.{value_at}
use Rattle.rules_data.specs.values.Val.{Val, is_comparable}
use Rattle.mich_step.specs.collections.Seen.{pairs_by}
use Rattle.mich_term.specs.View.{datum}
use Rattle.mich_term.specs.ValueView.{val}
use Rattle.mich_term.specs.Weights.{capped}
use Rattle.mich_term.specs.declared.datum.Datum.{Datum}
use Rattle.mich_term.specs.declared.value.Value.{Value}
use Rattle.mich_stack.specs.Views.{values}
use Rattle.mich_step.proofs.prices_lemmas.Cutting.{found_there, key_there}
use Rattle.mich_step.proofs.prices.weights.map_weight.Goals as goal

pub returns : goal.returns
returns c = λ big.
    let x = c.in-Some-default-Map-default in
    let r = c.requires in
    let comparable : is_comparable (val x.key.now) ≡ true
    = key_there r.0 (values r.0 c.args.stack.now) (values r.0 x.field-0-2.now) x.key.now x.field-0-1.now x.table (ap (values r.0) (sym c.as_slice.ensures) ∙ x.ensures r.0) x.field-0-1-is r.1 in
    let same : datum c.in-Some.key ≡ val x.key.now = subst (λ (o : Option Datum). IfSome o (λ d. datum d ≡ val x.key.now)) c.in-Some.is c.in_ok-key.ensures.value in
    c.found_weight.ensures big ∙ ap (λ (o : Option Val). capped (weight_found o)) (c.value_in.ensures big)
    ∙ ap (λ (es : List (Datum × Value)). capped (weight_found (value_at (datum c.in-Some.key) (pairs_by big es)))) (search rules)
    ∙ ap capped (found_there big (values big c.args.stack.now) (values big x.field-0-2.now) x.key.now x.field-0-1.now x.table c.in-Some.key
    (ap (values big) (sym c.as_slice.ensures) ∙ x.ensures big) x.field-0-1-is comparable same)

pub unreachable-requires-in_default-2 : goal.unreachable-requires-in_default-2
unreachable-requires-in_default-2 c =
    let x = c.in-Some-default-Map-default in
    let r = c.requires in
    let comparable : is_comparable (val x.key.now) ≡ true
    = key_there r.0 (values r.0 c.args.stack.now) (values r.0 x.field-0-2.now) x.key.now x.field-0-1.now x.table (ap (values r.0) (sym c.as_slice.ensures) ∙ x.ensures r.0) x.field-0-1-is r.1 in
    let none : false ≡ true = sym (ap is_some c.in_default-2.is) ∙ c.in_ok-key.ensures.comparable ∙ comparable in cc
