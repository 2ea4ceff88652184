use Rattle.std.proofs.Common.{List, ◌∷◌, ◌∙◌, drop, Option, ap, refl, subst}
use Rattle.rules_code.specs.evaluation.Contracts.{viewed}
use Rattle.mich_interpreter.specs.Visits.{IsVisit}
use Rattle.mich_interpreter.specs.declared.visits.Visit.{Visit}
use Rattle.mich_interpreter.proofs.Keeping.{past_of, same_keeps}
use Rattle.rules_data.specs.declared.gas.Kind.TheVariants as g
use Rattle.rules_data.specs.values.Val.{Val}
use Rattle.mich_base.specs.TypeView.{kind}
use Rattle.mich_forms.specs.Spelled.{address_bytes}
use Rattle.mich_frames.proofs.ForCallers.{viewing_top, row_broke}
use Rattle.mich_gas.specs.View.{listed}
use Rattle.mich_stack.specs.Views.{seen}
use Rattle.mich_interpreter.specs.View.{tops}
use Rattle.mich_interpreter.proofs.Opened.{given_ready, none_acts, view_acts, view_first}
use Rattle.mich_interpreter.proofs.Paid.{paid_less}
use Rattle.mich_interpreter.proofs.Spelled.{view_takes}
use Rattle.mich_interpreter.specs.Parts.{HasAddress}
use Rattle.mich_interpreter.proofs.Rebuilt.{seen_none}
use Rattle.mich_interpreter.proofs.viewing.act_view.Goals as goal

pub returns-then-not-pay-clause-acts : goal.returns-then-not-pay-clause-acts
returns-then-not-pay-clause-acts c = λ app x fs d Z o h w. row_broke _ h (rw c.if-not-pay.true at c.pay.ensures)

pub pop-given-requires : goal.pop-given-requires
pop-given-requires c =
    let p = rw c.if-not-pay.false at c.pay.ensures in
    (c.requires.1.0.sight, view_first _ (viewing_top c.args.name.now (kind c.args.input.now) (kind c.args.output.now) p.0 c.requires.1.5))

pub pop_address-address-requires : goal.pop_address-address-requires
pop_address-address-requires c =
    let x = c.requires.1.0 in
    (x.sight, subst (λ (V : List Val). HasAddress (drop 1 V)) (c.pop-given.ensures x.sight) (view_takes c.args.name.now (kind c.args.input.now) (kind c.args.output.now) c.requires.1.5))

pub burn_value-requires : goal.burn_value-requires
burn_value-requires c =
    let p = rw c.if-not-pay.false at c.pay.ensures in
    let r = c.requires.1 in
    let x = r.0 in
    given_ready x c.args.costs.now c.args.m.now c.args.name.now (kind c.args.input.now) (kind c.args.output.now) c.pop-given.result (address_bytes c.pop_address-address.result) c.pop_address-address.new.stack c.pay.new.meter
    (c.pop-given.ensures x.sight ∙ ap (λ V. seen x.sight c.pop-given.result ∷ V) (c.pop_address-address.ensures x.sight)) p.0 p.1 r.5

pub returns-in_ok-view-in-Some-clause-acts : goal.returns-in_ok-view-in-Some-clause-acts
returns-in_ok-view-in-Some-clause-acts c = λ app x fs d Z o h w.
    let p = rw c.if-not-pay.false at c.pay.ensures in
    let v = c.in_ok-view-in-Some.ensures in
    let a = kind c.args.input.now in
    let b = kind c.args.output.now in
    view_acts x c.args.costs.now c.args.m.now c.args.name.now (kind c.args.input.now) (kind c.args.output.now) c.pop-given.result (address_bytes c.pop_address-address.result) c.pop_address-address.new.stack c.pay.new.meter
    (c.pop-given.ensures x.sight ∙ ap (λ V. seen x.sight c.pop-given.result ∷ V) (c.pop_address-address.ensures x.sight)) p.0 p.1 h
    c.in-Some.found c.in_ok-view-in-Some.view v.code (v.value x.sight) v.env
    (subst (λ (r : Option Visit). IsVisit x a b (viewed x.contract_at c.args.name.now a b (address_bytes c.pop_address-address.result)) r) c.in-Some.is (c.in_ok-found.ensures x w))

pub returns-in_ok-push-in-None-clause-acts : goal.returns-in_ok-push-in-None-clause-acts
returns-in_ok-push-in-None-clause-acts c = λ app x fs d Z o h w.
    let p = rw c.if-not-pay.false at c.pay.ensures in
    none_acts x c.args.costs.now c.args.m.now c.args.name.now (kind c.args.input.now) (kind c.args.output.now) c.pop-given.result (address_bytes c.pop_address-address.result) c.pop_address-address.new.stack c.pay.new.meter
    (c.pop-given.ensures x.sight ∙ ap (λ V. seen x.sight c.pop-given.result ∷ V) (c.pop_address-address.ensures x.sight)) p.0 p.1 h
    c.burn_value.new.ledger c.push.new.stack
    (subst (λ (r : Option Visit). IsVisit x (kind c.args.input.now) (kind c.args.output.now) (viewed x.contract_at c.args.name.now (kind c.args.input.now) (kind c.args.output.now) (address_bytes c.pop_address-address.result)) r) c.in-None.is (c.in_ok-found.ensures x w))
    c.in_ok-burn_value-in-None.ensures.tells (c.in_ok-push-in-None.ensures x.sight ∙ ap (λ y. y ∷ tops x.sight c.pop_address-address.new.stack) (seen_none x.sight))

pub returns-in_ok-view-in-Some-clause-less : goal.returns-in_ok-view-in-Some-clause-less
returns-in_ok-view-in-Some-clause-less c =
    let p = rw c.if-not-pay.false at c.pay.ensures in
    paid_less (listed c.args.costs.now) g.View 0 _ _ c.requires.1.5.runs.charged p.0 p.1

pub returns-in_ok-push-in-None-clause-less : goal.returns-in_ok-push-in-None-clause-less
returns-in_ok-push-in-None-clause-less c =
    let p = rw c.if-not-pay.false at c.pay.ensures in
    paid_less (listed c.args.costs.now) g.View 0 _ _ c.requires.1.5.runs.charged p.0 p.1

pub returns-then-not-pay-clause-keeps : goal.returns-then-not-pay-clause-keeps
returns-then-not-pay-clause-keeps c = past_of _ _ (same_keeps _ _ refl refl refl)

pub returns-in_ok-view-in-Some-clause-keeps : goal.returns-in_ok-view-in-Some-clause-keeps
returns-in_ok-view-in-Some-clause-keeps c = same_keeps _ _ refl refl refl

pub returns-in_ok-push-in-None-clause-keeps : goal.returns-in_ok-push-in-None-clause-keeps
returns-in_ok-push-in-None-clause-keeps c = record {
  books = c.burn_value.ensures.keeps;
  changes = _;
  tells = c.in_ok-burn_value-in-None.ensures.tells;
  group = refl;
  scripts = λ h. h;
}
