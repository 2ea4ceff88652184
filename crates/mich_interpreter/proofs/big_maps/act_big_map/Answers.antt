use Rattle.std.proofs.Common.{◌≡◌, List, refl, sym, ap, subst, ◌∙◌}
use Rattle.rules_code.specs.instructions.Straight.{on_collections}
use Rattle.rules_data.specs.values.Tickets.{tickets}
use Rattle.rules_code.specs.steps.Changes.{burns}
use Rattle.rules_code.specs.steps.Collections.{collection_step}
use Rattle.rules_code.specs.steps.Costs.{collection_weight}
use Rattle.rules_code.specs.steps.Step.{done}
use Rattle.mich_overload.specs.View.{collection_row}
use Rattle.mich_stack.specs.Views.{Sight, seen, values}
use Rattle.mich_step.specs.Shown.{ShowsTickets}
use Rattle.mich_term.specs.Weights.{capped}
use Rattle.mich_term.specs.declared.value.Value.{Value}
use Rattle.mich_store_steps.specs.seen.Sights.{sight}
use Rattle.mich_store_steps.specs.big_maps.Operands.{HasBigMap}
use Rattle.mich_world.specs.World.{World}
use Rattle.mich_bigmap.specs.Stored.{Stored}
use Rattle.mich_interpreter.specs.Sees.{Sees}
use Rattle.mich_interpreter.specs.View.{Beyond}
use Rattle.mich_interpreter.proofs.Capped.{paid_is, broke_is}
use Rattle.mich_interpreter.proofs.Keeping.{same_keeps, past_of}
use Rattle.mich_interpreter.proofs.BigMapRows as rows
use Rattle.mich_frames.proofs.ForCallers.{row_broke}
use Rattle.mich_interpreter.proofs.big_maps.act_big_map.Goals as goal

-- the sight of a run is that of the store which was read
store_sight : (v : World) (x : Beyond) (s : Stored) → Sees v x → s ≡ v.store → x.sight ≡ sight s.bases.present
store_sight v x s sees e = sees.sight ∙ ap (λ (t : Stored). sight t.bases.present) (sym e)

pub big_map_weight-requires-clause-key : goal.big_map_weight-requires-clause-key
big_map_weight-requires-clause-key c =
    let t = c.requires.comes in rows.has_key t.1.0 c.args.costs.now c.args.m.now (collection_row c.args.row.now) t.1.5

pub big_map_weight-requires-clause-big_map : goal.big_map_weight-requires-clause-big_map
big_map_weight-requires-clause-big_map c =
    let t = c.requires.comes in
    let r = collection_row c.args.row.now in
    subst (λ (s : Sight). HasBigMap r (values s c.args.m.now.stack)) (store_sight c.args.world.now t.1.0 c.store-store.result.now t.1.6 c.store-store.ensures)
    (rows.has_big_map t.1.0 c.args.costs.now c.args.m.now r t.1.5)

pub big_map_step-requires-clause-key : goal.big_map_step-requires-clause-key
big_map_step-requires-clause-key c =
    let t = c.requires.comes in rows.has_key t.1.0 c.args.costs.now c.args.m.now (collection_row c.args.row.now) t.1.5

pub big_map_step-requires-clause-big_map : goal.big_map_step-requires-clause-big_map
big_map_step-requires-clause-big_map c =
    let t = c.requires.comes in
    let r = collection_row c.args.row.now in
    subst (λ (s : Sight). HasBigMap r (values s c.args.m.now.stack)) (store_sight c.args.world.now t.1.0 c.store-store.result.now t.1.6 c.store-store.ensures)
    (rows.has_big_map t.1.0 c.args.costs.now c.args.m.now r t.1.5)

pub big_map_step-requires-clause-shows : goal.big_map_step-requires-clause-shows
big_map_step-requires-clause-shows c =
    let t = c.requires.comes in
    subst (λ (s : Sight). (vs : List Value) → ShowsTickets s vs) (store_sight c.args.world.now t.1.0 c.store-store.result.now t.1.6 c.store-store.ensures) t.1.0.shows

pub returns-then-not-pay_capped-clause-acts : goal.returns-then-not-pay_capped-clause-acts
returns-then-not-pay_capped-clause-acts c = λ app x fs d Z o h sees.
    let r = collection_row c.args.row.now in
    let e = store_sight c.args.world.now x c.store-store.result.now sees c.store-store.ensures in
    let weighs = c.in_ok-weight.ensures ∙ ap (λ (s : Sight). capped (collection_weight r (values s c.args.m.now.stack))) (sym e) in
    row_broke (on_collections r) h (broke_is _ _ _ _ _ _ _ c.if-not-pay_capped.true c.collection_price.ensures (c.pay_capped.ensures (rows.heavy x c.args.costs.now c.args.m.now r h) weighs h.runs.charged))

pub returns-then-not-pay_capped-clause-keeps : goal.returns-then-not-pay_capped-clause-keeps
returns-then-not-pay_capped-clause-keeps c = past_of _ _ (same_keeps _ _ refl refl refl)

pub burn_value-requires : goal.burn_value-requires
burn_value-requires c =
    let t = c.requires.comes in
    let r = collection_row c.args.row.now in
    let e = store_sight c.args.world.now t.1.0 c.store-store.result.now t.1.6 c.store-store.ensures in
    rows.gone_ready t.1.0 c.args.costs.now c.args.m.now r t.1.5 c.big_map_step.new.stack c.in_ok-gone.gone
    (subst (λ (s : Sight). collection_step r (values s c.args.m.now.stack) ≡ done (values s c.big_map_step.new.stack) (burns (tickets (seen s c.in_ok-gone.gone)))) (sym e) c.in_ok-gone.ensures)

pub returns-clause-acts : goal.returns-clause-acts
returns-clause-acts c = λ app x fs d Z o h sees.
    let r = collection_row c.args.row.now in
    let e = store_sight c.args.world.now x c.store-store.result.now sees c.store-store.ensures in
    let weighs = c.in_ok-weight.ensures ∙ ap (λ (s : Sight). capped (collection_weight r (values s c.args.m.now.stack))) (sym e) in
    let p = paid_is _ _ _ _ _ _ _ c.if-not-pay_capped.false c.collection_price.ensures (c.pay_capped.ensures (rows.heavy x c.args.costs.now c.args.m.now r h) weighs h.runs.charged) in
    rows.big_map_stands x c.args.costs.now c.args.m.now r h c.big_map_step.new.stack c.in_ok-gone.gone
    (subst (λ (s : Sight). collection_step r (values s c.args.m.now.stack) ≡ done (values s c.big_map_step.new.stack) (burns (tickets (seen s c.in_ok-gone.gone)))) (sym e) c.in_ok-gone.ensures)
    p.0 c.pay_capped.new.meter c.burn_value.new.ledger c.in_ok-burn_value.ensures.tells p.1

pub returns-clause-keeps : goal.returns-clause-keeps
returns-clause-keeps c = record {
  books = c.burn_value.ensures.keeps;
  changes = _;
  tells = c.in_ok-burn_value.ensures.tells;
  group = refl;
  scripts = λ h. h;
}
