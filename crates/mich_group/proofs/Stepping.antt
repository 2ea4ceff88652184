-- One operation of those that wait.
use Rattle.std.proofs.Common.{◌≡◌, ℕ, List, [], ◌∷◌, ◌++◌, map, Option, Some, None, refl, ap, ◌∙◌, subst, Err}
use Rattle.std.specs.Prelude.{reverse}
use Rattle.std.proofs.lemmas.List.{map-append}
use Rattle.rules_code.specs.steps.Failure.{Failure}
use Rattle.rules_world.specs.world.World.{World as PlainWorld}
use Rattle.rules_world.specs.world.Outcomes.{Setting, Waiting, Counts as PlainCounts, Outcome, applied, failed, stuck}
use Rattle.rules_world.specs.world.Application.{apply}
use Rattle.mich_bigmap.specs.Extended.{Extends}
use Rattle.mich_machine.specs.Calls.{counts_of}
use Rattle.mich_state.specs.declared.state.Counts.{Counts}
use Rattle.mich_operations.specs.Going.{Begins, IsApplied, EndsAs, WithMemory, effects_of, grown}
use Rattle.mich_operations.specs.declared.applied.Applied.{Applied}
use Rattle.mich_operations.specs.declared.applied.ApplyError.{ApplyError}
use Rattle.mich_operations.specs.declared.applied.ApplyError.TheVariants as one
use Rattle.mich_ops.specs.Told.{told}
use Rattle.mich_ops.specs.View.{effect, failure}
use Rattle.mich_ops.specs.declared.failure.Failure.{Failure as Failed}
use Rattle.mich_ops.specs.declared.receipt.Effect.{Effect as Done}
use Rattle.mich_world.specs.World.{World}
use Rattle.mich_group.specs.Trees.{Goes, IsStep, IsFailed, StepsAs, StepsTo, OnStep, with_growth}
use Rattle.mich_group.specs.Waiting.{sent, sent_by, all_sent, AreHanded}
use Rattle.mich_group.specs.declared.waiting.Sent.{Sent}
use Rattle.mich_group.proofs.Sending.{all_sent_last, all_sent_more, sent_later}

-- ---- before it

pub begins_with : (start w : PlainWorld) (s : Setting) (contents : ℕ) (v : World) (op : Waiting) (others : List Waiting) (counts : PlainCounts) → Goes start s contents v w (op ∷ others) counts → Begins v w s op counts
begins_with start w s contents v op others counts g = record {
  stands = g.stands;
  next = record { start = start; contents = contents; few = g.few; behind = others; setting = g.setting; going = g.going };
}

pub goes_last : (start w : PlainWorld) (s : Setting) (contents : ℕ) (v : World) (whole ss : List Sent) (x : Sent) (counts : PlainCounts) → whole ≡ ss ++ x ∷ [] →
    Goes start s contents v w (all_sent v.store.bases.present whole) counts → Goes start s contents v w (sent v.store.bases.present x ∷ all_sent v.store.bases.present ss) counts
goes_last start w s contents v whole ss x counts e g =
    subst (λ ws. Goes start s contents v w ws counts) (ap (all_sent v.store.bases.present) e ∙ all_sent_last v.store.bases.present ss x) g

-- ---- it was applied

growth_told : (d : Done) (g : Option Done) → map effect (with_growth d g) ≡ effect d ∷ grown g
growth_told d (Some x) = refl
growth_told d None = refl

pub stepped : (s : Setting) (w : PlainWorld) (waiting others : List Waiting) (op : Waiting) (gas left : ℕ) (counts : PlainCounts) (v : World) (old new : Counts) (a : Applied) (ss : List Sent) (before after : List Done) →
    waiting ≡ op ∷ others → IsApplied (apply s w op gas counts) v left old new a →
    all_sent v.store.bases.present ss ≡ map (Rattle.mich_operations.specs.Going.issued_by v.store.bases.present a.by) a.emitted ++ others → after ≡ before ++ with_growth a.effect a.growth →
    IsStep s w waiting gas counts v left (counts_of new) ss before after
stepped s w waiting others op gas left counts v old new a ss before after e i sent done = record {
  op = op;
  others = others;
  first = e;
  behind = record { world = i.world; emitted = map (Rattle.mich_operations.specs.Going.issued_by v.store.bases.present a.by) a.emitted; effects = effects_of a; gas = left; counts = counts_of new };
  same = i.same;
  stands = i.stands;
  sent = sent;
  done = ap (map effect) done ∙ map-append effect before (with_growth a.effect a.growth) ∙ ap (λ t. map effect before ++ t) (growth_told a.effect a.growth);
  units = refl;
  counted = refl;
}

-- those that wait then
pub sent_now : (u v : World) (by : List ℕ) (emitted : List Rattle.mich_ops.specs.declared.issued.Issued.Issued) (ss now : List Sent) → now ≡ ss ++ reverse (map (sent_by by) emitted) →
    Extends u.store.bases.present v.store.bases.present → AreHanded u ss →
    all_sent v.store.bases.present now ≡ map (Rattle.mich_operations.specs.Going.issued_by v.store.bases.present by) emitted ++ all_sent u.store.bases.present ss
sent_now u v by emitted ss now e x h =
    ap (all_sent v.store.bases.present) e ∙ all_sent_more v.store.bases.present by ss emitted
    ∙ ap (λ t. map (Rattle.mich_operations.specs.Going.issued_by v.store.bases.present by) emitted ++ t) (sent_later u v ss x h)

-- ---- it failed

fails_by : (o : Outcome) (v : World) (gas : ℕ) (old new : Counts) (f : Failed) → EndsAs o v gas old new (Err (one.Failed f)) → (why : Failure) × (o ≡ failed why) × (failure f ≡ told why)
fails_by (applied a) v gas old new f h = absurd h
fails_by (failed why) v gas old new f h = (why, refl, h)
fails_by stuck v gas old new f h = absurd h

failed_first : (s : Setting) (w : PlainWorld) (waiting others : List Waiting) (op : Waiting) (gas left : ℕ) (counts : PlainCounts) (v : World) (old new : Counts) (f : Failed) →
    waiting ≡ op ∷ others → EndsAs (apply s w op gas counts) v left old new (Err (one.Failed f)) → IsFailed s w waiting gas counts f
failed_first s w waiting others op gas left counts v old new f e h =
    let b = fails_by (apply s w op gas counts) v left old new f h in
    record { op = op; others = others; first = e; why = b.0; same = b.1; told = b.2 }

pub failed_step : (U : Type 0) (s : Setting) (w : PlainWorld) (waiting others : List Waiting) (op : Waiting) (gas left : ℕ) (counts now : PlainCounts) (v : World) (old new : Counts) (ss : List Sent) (before after : List Done) (e : ApplyError) →
    waiting ≡ op ∷ others → EndsAs (apply s w op gas counts) v left old new (Err e) → StepsAs {U = U} s w waiting gas counts v left now ss before after (Err e)
failed_step U s w waiting others op gas left counts now v old new ss before after (one.Failed f) e h = failed_first s w waiting others op gas left counts v old new f e h
failed_step U s w waiting others op gas left counts now v old new ss before after one.Memory e h = tt

pub failed_to : (s : Setting) (w : PlainWorld) (waiting others : List Waiting) (op : Waiting) (gas left : ℕ) (counts now : PlainCounts) (v : World) (old new : Counts) (ss : List Sent) (before after : List Done) (e : ApplyError) →
    waiting ≡ op ∷ others → EndsAs (apply s w op gas counts) v left old new (Err e) → StepsTo s w waiting gas counts v left now ss before after (Err e)
failed_to s w waiting others op gas left counts now v old new ss before after (one.Failed f) e h = failed_first s w waiting others op gas left counts v old new f e h
failed_to s w waiting others op gas left counts now v old new ss before after one.Memory e h = tt

pub step_keeps : (U : Type 0) (e : ApplyError) (K : Type 0) → WithMemory (Err e) K → OnStep {U = U} (Err e) K
step_keeps U (one.Failed f) K h = h
step_keeps U one.Memory K h = tt
