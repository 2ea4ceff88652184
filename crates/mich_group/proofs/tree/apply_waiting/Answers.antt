use Rattle.std.proofs.Common.{◌≡◌, ◌∙◌, ◌<◌, ◌-◌, ℕ, Bool, List, [], Ok, Err, true, ap, map, refl, sym, subst, arith}
use Rattle.rules_world.specs.world.Groups.{setting_of}
use Rattle.rules_world.specs.world.Outcomes.{Setting}
use Rattle.rules_world.specs.world.Trees.{Walk, broken_off, tree_within}
use Rattle.rules_world.specs.world.World.{World as PlainWorld}
use Rattle.rules_code.specs.steps.Failure.{out_of_gas}
use Rattle.mich_base.specs.Counted.{IsNotEmpty}
use Rattle.mich_ops.specs.declared.failure.Failure.TheVariants as failures
use Rattle.mich_group.specs.declared.waiting.Sent.{Sent}
use Rattle.mich_gas.specs.View.{listed}
use Rattle.mich_state.specs.declared.state.Counts.{Counts}
use Rattle.mich_machine.specs.Calls.{counts_of}
use Rattle.mich_operations.specs.declared.applied.ApplyError.{ApplyError}
use Rattle.mich_operations.specs.declared.applied.ApplyError.TheVariants as one
use Rattle.mich_ops.specs.declared.failure.Failure.{Failure as Failed}
use Rattle.mich_ops.specs.declared.receipt.Effect.{Effect as Done}
use Rattle.mich_ops.specs.View.{effect}
use Rattle.mich_world.specs.World.{World}
use Rattle.mich_world.proofs.ForCallers.{world_same, world_trans}
use Rattle.mich_group.specs.Trees.{StepsTo, IsFailed, IsWalked, WalksAs, behind_all}
use Rattle.mich_group.specs.Waiting.{all_sent}
use Rattle.mich_group.specs.declared.tree.TreeError.TheVariants as tree
use Rattle.mich_group.proofs.Walks.{HasCome, comes_to_end, comes_to_fail, comes_too_late, failed_walk, goes_group, step_comes, steps_group}
use Rattle.mich_group.proofs.tree.apply_waiting.Goals as goal

pub loop-count-init : goal.loop-count-init
loop-count-init c = record {
  group = refl;
  hosting = c.requires.hosting;
  handed = c.requires.handed;
  keeps = world_same _;
  come = λ start w contents g. (w, g, refl);
}

pub apply_next-requires-clause-goes : goal.apply_next-requires-clause-goes
apply_next-requires-clause-goes c =
    let g = c.requires.goes in
    let h = c.loop-count.invariant.come g.0 g.1 g.2 g.3 in (
      g.0,
      h.0,
      g.2,
      goes_group (listed c.args.costs.now) c.args.source.now c.args.counts.now.group c.loop-count.counts.group g.0 g.2 c.loop-count.world h.0
          (all_sent c.loop-count.world.store.bases.present c.loop-count.waiting) (counts_of c.loop-count.counts) (sym c.loop-count.invariant.group) h.1,
    )

-- none waits: where it has come to is the end
comes_to_none : (start : PlainWorld) (s : Setting) (contents : ℕ) (t : Walk) (limit n : ℕ) (v x : World) (before after : List Done) (gas left : ℕ) (old mid new : Counts) (ss : List Sent) →
    ss ≡ [] → x ≡ v → left ≡ gas → new ≡ mid → after ≡ before → mid.group ≡ old.group →
    HasCome start s contents t limit n v ss before gas (counts_of mid) → IsWalked t x left old new after
comes_to_none start s contents t limit n v x before after gas left old mid new ss none world units counts done g h =
    let here : IsWalked t v gas old mid before = comes_to_end start s contents t limit n v before gas old mid g
    (subst (λ (ss : List Sent). HasCome start s contents t limit n v ss before gas (counts_of mid)) none h) in
    let there : IsWalked t x gas old mid before = subst (λ (x : World). IsWalked t x gas old mid before) (sym world) here in
    let behind : IsWalked t x left old mid before = subst (λ (left : ℕ). IsWalked t x left old mid before) (sym units) there in
    let counted : IsWalked t x left old new before = subst (λ (new : Counts). IsWalked t x left old new before) (sym counts) behind in
    subst (λ (after : List Done). IsWalked t x left old new after) (sym done) counted

pub returns-in-Ok-false-clause-walks : goal.returns-in-Ok-false-clause-walks
returns-in-Ok-false-clause-walks c = λ start w contents g.
    let l = c.loop-count in
    let s = setting_of (listed c.args.costs.now) c.args.counts.now.group c.args.source.now in
    let first = all_sent c.args.world.now.store.bases.present c.args.waiting.now in
    let t = behind_all (map effect c.args.effects.now) 1 (tree_within (c.args.gas - 1) s w first c.args.meter.now (counts_of c.args.counts.now)) in
    let new = c.apply_next.new in
    let none = c.in-Ok-false.ensures.none (λ i. Ok (c.in-Ok-false.field-0-test i)) in
    comes_to_none start s contents t c.args.gas l.count l.world new.world l.effects new.effects l.meter new.meter c.args.counts.now l.counts new.counts l.waiting
    none.0 none.2 none.3 none.4 none.5 l.invariant.group (l.invariant.come start w contents g)

pub returns-in-Err-Failed-clause-walks : goal.returns-in-Err-Failed-clause-walks
returns-in-Err-Failed-clause-walks c = λ start w contents g.
    let l = c.loop-count in
    let prices = listed c.args.costs.now in
    let s = setting_of prices c.args.counts.now.group c.args.source.now in
    let first = all_sent c.args.world.now.store.bases.present c.args.waiting.now in
    let waiting = all_sent l.world.store.bases.present l.waiting in
    let t = behind_all (map effect c.args.effects.now) 1 (tree_within (c.args.gas - 1) s w first c.args.meter.now (counts_of c.args.counts.now)) in
    let new = c.apply_next.new in
    let why = c.in-Err-Failed.why in
    let h = l.invariant.come start w contents g in
    let here = goes_group prices c.args.source.now c.args.counts.now.group l.counts.group start contents l.world h.0 waiting (counts_of l.counts) (sym l.invariant.group) h.1 in
    let step = subst (λ (e : ApplyError). StepsTo (setting_of prices l.counts.group c.args.source.now) h.0 waiting l.meter (counts_of l.counts) new.world new.meter
    (counts_of new.counts) new.waiting l.effects new.effects (Err e)) c.in-Err-Failed.field-0-is
    (c.in-Err-Failed.ensures.steps start h.0 contents here) in
    let p : IsFailed s h.0 waiting l.meter (counts_of l.counts) why
    = steps_group prices c.args.source.now l.counts.group c.args.counts.now.group h.0 waiting l.meter (counts_of l.counts) new.world new.meter
    (counts_of new.counts) new.waiting l.effects new.effects (Err (one.Failed why)) l.invariant.group step in
    let less : l.count < c.args.gas = omega arith in
    subst (λ (f : Failed). WalksAs {U = Unit {0}} t new.world new.meter c.args.counts.now new.counts new.effects (Err (tree.Failed l.count f))) (sym c.in-Err-Failed.why-is)
    (failed_walk (Unit {0}) t new.world new.meter c.args.counts.now new.counts new.effects l.count p.why why
    (comes_to_fail start s contents t c.args.gas l.count l.world l.effects l.meter l.waiting (counts_of l.counts) why less h p) p.told)

pub loop-count-preserved : goal.loop-count-preserved
loop-count-preserved c =
    let l = c.loop-count in
    let prices = listed c.args.costs.now in
    let s = setting_of prices c.args.counts.now.group c.args.source.now in
    let first = all_sent c.args.world.now.store.bases.present c.args.waiting.now in
    let waiting = all_sent l.world.store.bases.present l.waiting in
    let v = c.apply_next.new.world in
    record {
      group = c.in-Ok-true.ensures.group ∙ l.invariant.group;
      hosting = c.in-Ok-true.ensures.hosting;
      handed = c.in-Ok-true.ensures.handed;
      keeps = world_trans c.args.world.now l.world v l.invariant.keeps c.in-Ok-true.ensures.keeps;
      come = λ start w contents g.
          let h = l.invariant.come start w contents g in
          let here = goes_group prices c.args.source.now c.args.counts.now.group l.counts.group start contents l.world h.0 waiting (counts_of l.counts) (sym l.invariant.group) h.1 in
          let step = subst (λ (b : Bool). StepsTo (setting_of prices l.counts.group c.args.source.now) h.0 waiting l.meter (counts_of l.counts) v c.apply_next.new.meter
          (counts_of c.apply_next.new.counts) c.apply_next.new.waiting l.effects c.apply_next.new.effects (Ok b)) c.in-Ok-true.field-0-test
          (c.in-Ok-true.ensures.steps start h.0 contents here) in
          let less : l.count < c.args.gas = omega arith in
          step_comes start s contents
          (behind_all (map effect c.args.effects.now) 1 (tree_within (c.args.gas - 1) s w first c.args.meter.now (counts_of c.args.counts.now)))
          c.args.gas l.count l.world v h.0 waiting l.meter (counts_of l.counts) (counts_of c.apply_next.new.counts) c.apply_next.new.meter c.apply_next.new.waiting
          l.effects c.apply_next.new.effects less h.1
          (steps_group prices c.args.source.now l.counts.group c.args.counts.now.group h.0 waiting l.meter (counts_of l.counts) v c.apply_next.new.meter
          (counts_of c.apply_next.new.counts) c.apply_next.new.waiting l.effects c.apply_next.new.effects (Ok true) l.invariant.group step)
          h.2;
    }

pub returns-then-is_empty-clause-walks : goal.returns-then-is_empty-clause-walks
returns-then-is_empty-clause-walks c = λ start w contents g.
    let l = c.loop-count in
    let s = setting_of (listed c.args.costs.now) c.args.counts.now.group c.args.source.now in
    let first = all_sent c.args.world.now.store.bases.present c.args.waiting.now in
    let t = behind_all (map effect c.args.effects.now) 1 (tree_within (c.args.gas - 1) s w first c.args.meter.now (counts_of c.args.counts.now)) in
    let empty : c.loop-count.waiting ≡ [] = c.if-is_empty.ensures in
    comes_to_end start s contents t c.args.gas l.count l.world l.effects l.meter c.args.counts.now l.counts l.invariant.group
    (subst (λ (ss : List Sent). HasCome start s contents t c.args.gas l.count l.world ss l.effects l.meter (counts_of l.counts)) empty (l.invariant.come start w contents g))

pub returns-else-is_empty-clause-walks : goal.returns-else-is_empty-clause-walks
returns-else-is_empty-clause-walks c = λ start w contents g.
    let l = c.loop-count in
    let s = setting_of (listed c.args.costs.now) c.args.counts.now.group c.args.source.now in
    let first = all_sent c.args.world.now.store.bases.present c.args.waiting.now in
    let t = behind_all (map effect c.args.effects.now) 1 (tree_within (c.args.gas - 1) s w first c.args.meter.now (counts_of c.args.counts.now)) in
    let end : c.args.gas ≡ c.loop-count.count = omega arith in
    let some : IsNotEmpty c.loop-count.waiting = c.if-is_empty.ensures in
    failed_walk (Unit {0}) t l.world l.meter c.args.counts.now l.counts l.effects c.args.gas out_of_gas failures.OutOfGas
    (comes_too_late start s contents t c.args.gas l.count l.world l.effects l.meter l.waiting (counts_of l.counts) end some (l.invariant.come start w contents g)
    ∙ ap (λ (k : ℕ). broken_off k out_of_gas) (sym end))
    refl
