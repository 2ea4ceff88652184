-- Trees on their way.
use Rattle.std.proofs.Common.{◌≡◌, ◌<◌, ◌+◌, ◌-◌, ℕ, suc, List, [], ◌∷◌, ◌++◌, map, length, refl, sym, ap, ◌∙◌, subst, arith, Bool, Ok, Err, Result}
use Rattle.std.proofs.lemmas.List.{append_assoc, append-nil, length-map, length-reverse}
use Rattle.std.specs.Prelude.{reverse}
use Rattle.mich_base.specs.Counted.{IsNotEmpty}
use Rattle.rules_data.specs.gas.Prices.{Listed}
use Rattle.rules_world.specs.world.Groups.{setting_of}
use Rattle.rules_world.specs.world.Receipts.{Effect}
use Rattle.rules_world.specs.world.World.{World as PlainWorld}
use Rattle.rules_world.specs.world.Outcomes.{Setting, Waiting, Counts as PlainCounts, Outcome, applied, failed}
use Rattle.rules_world.specs.world.Application.{apply}
use Rattle.rules_world.specs.world.Trees.{Walk, completed, broken_off, stuck_walk, behind_one, with_emitted, tree_within, tree}
use Rattle.rules_code.specs.steps.Failure.{Failure, out_of_gas}
use Rattle.laws_world.specs.runs.Going.{IsGoing, KeepsGoing}
use Rattle.laws_world.proofs.groups_lemmas.ForCallers.{apply_keeps}
use Rattle.mich_machine.specs.Calls.{counts_of}
use Rattle.mich_state.specs.declared.state.Counts.{Counts}
use Rattle.mich_operations.specs.declared.applied.ApplyError.{ApplyError}
use Rattle.mich_ops.specs.Told.{told}
use Rattle.mich_ops.specs.View.{effect, failure}
use Rattle.mich_ops.specs.declared.failure.Failure.{Failure as Failed}
use Rattle.mich_ops.specs.declared.receipt.Effect.{Effect as Done}
use Rattle.mich_world.specs.World.{World}
use Rattle.mich_group.specs.Trees.{Goes, IsStep, StepsTo, IsFailed, IsWalked, WalksAs, behind_all}
use Rattle.mich_group.specs.Waiting.{sent, all_sent}
use Rattle.mich_group.specs.declared.tree.TreeError.{TreeError}
use Rattle.mich_group.specs.declared.tree.TreeError.TheVariants as tree
use Rattle.mich_group.specs.declared.waiting.Sent.{Sent}

-- ---- behind operations that were applied

behind_more : (es fs : List Effect) (n : ℕ) (t : Walk) → behind_all es n (behind_one fs t) ≡ behind_all (es ++ fs) (n + 1) t
behind_more es fs n (completed last) = ap (λ x. completed (record { world = last.world; effects = x; gas = last.gas; counts = last.counts })) (sym (append_assoc es fs last.effects))
behind_more es fs n (broken_off count failure) = ap (λ k. broken_off k failure) (omega arith)
behind_more es fs n stuck_walk = refl

behind_first : (fs : List Effect) (t : Walk) → behind_one fs t ≡ behind_all fs 1 t
behind_first fs (completed last) = refl
behind_first fs (broken_off count failure) = ap (λ k. broken_off k failure) (omega arith)
behind_first fs stuck_walk = refl

-- ---- one step

module _ (start : PlainWorld) (s : Setting) (contents : ℕ) where
  -- behind an operation that was applied the group goes on
  pub goes_on : (v x : World) (w : PlainWorld) (waiting : List Waiting) (gas : ℕ) (counts now : PlainCounts) (left : ℕ) (ss : List Sent) (before after : List Done) →
      Goes start s contents v w waiting counts → (p : IsStep s w waiting gas counts x left now ss before after) →
      Goes start s contents x p.behind.world (all_sent x.store.bases.present ss) now
  goes_on v x w waiting gas counts now left ss before after g p =
      let going = subst (λ ws. IsGoing start s.group contents w ws counts) p.first g.going in
      let keeps = subst (KeepsGoing start s contents p.others) p.same (apply_keeps start s g.setting contents g.few w p.op p.others gas counts going) in
      record {
        few = g.few;
        setting = g.setting;
        stands = p.stands;
        going = subst (λ ws. IsGoing start s.group contents p.behind.world ws now) (sym p.sent)
            (subst (λ c. IsGoing start s.group contents p.behind.world (p.behind.emitted ++ p.others) c) (sym p.counted) keeps);
      }

  -- where it has come to
  abbrev pub HasCome : Walk → ℕ → ℕ → World → List Sent → List Done → ℕ → PlainCounts → Type 0
  HasCome t limit n v ss effects gas counts =
      (x : PlainWorld) × Goes start s contents v x (all_sent v.store.bases.present ss) counts
      × (t ≡ behind_all (map effect effects) n (tree_within (limit - n) s x (all_sent v.store.bases.present ss) gas counts))

step_walk : (s : Setting) (limit : ℕ) (w : PlainWorld) (op : Waiting) (others : List Waiting) (gas : ℕ) (counts : PlainCounts) (o : Outcome) → apply s w op gas counts ≡ o →
    tree_within (suc limit) s w (op ∷ others) gas counts ≡ with_emitted o others (tree_within limit s)
step_walk s limit w op others gas counts o e = ap (λ o. with_emitted o others (tree_within limit s)) e

pub step_comes : (start : PlainWorld) (s : Setting) (contents : ℕ) (t : Walk) (limit n : ℕ) (v x : World) (w : PlainWorld) (waiting : List Waiting) (gas : ℕ) (counts now : PlainCounts) (left : ℕ) (ss : List Sent) (before after : List Done) →
    n < limit → Goes start s contents v w waiting counts → IsStep s w waiting gas counts x left now ss before after →
    t ≡ behind_all (map effect before) n (tree_within (limit - n) s w waiting gas counts) →
    HasCome start s contents t limit (n + 1) x ss after left now
step_comes start s contents t limit n v x w waiting gas counts now left ss before after less g p e =
    let more : limit - n ≡ suc (limit - (n + 1)) = omega arith in
    let a = p.behind in
    let step : tree_within (limit - n) s w waiting gas counts ≡ behind_one a.effects (tree_within (limit - (n + 1)) s a.world (a.emitted ++ p.others) a.gas a.counts)
    = ap (λ k. tree_within k s w waiting gas counts) more ∙ ap (λ ws. tree_within (suc (limit - (n + 1))) s w ws gas counts) p.first
    ∙ step_walk s (limit - (n + 1)) w p.op p.others gas counts (applied a) p.same in
    let rest : tree_within (limit - (n + 1)) s a.world (a.emitted ++ p.others) a.gas a.counts ≡ tree_within (limit - (n + 1)) s a.world (all_sent x.store.bases.present ss) left now
    = λ i. tree_within (limit - (n + 1)) s a.world (sym p.sent i) (sym p.units i) (sym p.counted i) in (
      a.world,
      goes_on start s contents v x w waiting gas counts now left ss before after g p,
      e ∙ ap (behind_all (map effect before) n) step ∙ behind_more (map effect before) a.effects n _
          ∙ (λ i. behind_all (sym p.done i) (n + 1) (rest i)),
    )

-- ---- the end

within_zero : (s : Setting) (w : PlainWorld) (waiting : List Waiting) (gas : ℕ) (counts : PlainCounts) → IsNotEmpty waiting → tree_within 0 s w waiting gas counts ≡ broken_off 0 out_of_gas
within_zero s w [] gas counts h = absurd h
within_zero s w (op ∷ waiting) gas counts h = refl

not_empty : {X : Type 0} (xs : List X) (n : ℕ) → length xs ≡ suc n → IsNotEmpty xs
not_empty [] n e = absurd cc
not_empty (x ∷ xs) n e = tt

sent_not_empty : (v : World) (ss : List Sent) → IsNotEmpty ss → IsNotEmpty (all_sent v.store.bases.present ss)
sent_not_empty v [] h = absurd h
sent_not_empty v (s ∷ ss) h =
    not_empty (all_sent v.store.bases.present (s ∷ ss)) (length ss)
    (length-map (reverse (s ∷ ss)) (sent v.store.bases.present) ∙ length-reverse (s ∷ ss))

module _ (start : PlainWorld) (s : Setting) (contents : ℕ) (t : Walk) (limit n : ℕ) (v : World) (effects : List Done) (gas : ℕ) where
  -- nothing waits
  pub comes_to_end : (old new : Counts) → new.group ≡ old.group → HasCome start s contents t limit n v [] effects gas (counts_of new) → IsWalked t v gas old new effects
  comes_to_end old new g h = record {
    world = h.0;
    stands = h.1.stands;
    same = h.2 ∙ ap (λ es. completed (record { world = h.0; effects = es; gas = gas; counts = counts_of new })) (append-nil (map effect effects));
    group = g;
  }

  -- the next operation fails
  pub comes_to_fail : (ss : List Sent) (counts : PlainCounts) (f : Failed) → n < limit → (h : HasCome start s contents t limit n v ss effects gas counts) →
      (p : IsFailed s h.0 (all_sent v.store.bases.present ss) gas counts f) → t ≡ broken_off n p.why
  comes_to_fail ss counts f less h p =
      let more : limit - n ≡ suc (limit - (n + 1)) = omega arith in
      h.2 ∙ ap (behind_all (map effect effects) n)
      (ap (λ k. tree_within k s h.0 (all_sent v.store.bases.present ss) gas counts) more
      ∙ ap (λ ws. tree_within (suc (limit - (n + 1))) s h.0 ws gas counts) p.first
      ∙ step_walk s (limit - (n + 1)) h.0 p.op p.others gas counts (failed p.why) p.same)
      ∙ ap (λ k. broken_off k p.why) (omega arith)

  -- the gas that they are counted by is out
  pub comes_too_late : (ss : List Sent) (counts : PlainCounts) → limit ≡ n → IsNotEmpty ss → HasCome start s contents t limit n v ss effects gas counts → t ≡ broken_off n out_of_gas
  comes_too_late ss counts e some h =
      let none : limit - n ≡ 0 = omega arith in
      h.2 ∙ ap (behind_all (map effect effects) n)
      (ap (λ k. tree_within k s h.0 (all_sent v.store.bases.present ss) gas counts) none
      ∙ within_zero s h.0 (all_sent v.store.bases.present ss) gas counts (sent_not_empty v ss some))
      ∙ ap (λ k. broken_off k out_of_gas) (omega arith)

pub failed_walk : (U : Type 0) (t : Walk) (v : World) (gas : ℕ) (old new : Counts) (effects : List Done) (n : ℕ) (why : Failure) (f : Failed) →
    t ≡ broken_off n why → failure f ≡ told why → WalksAs {U = U} t v gas old new effects (Err (tree.Failed n f))
failed_walk U t v gas old new effects n why f e h =
    subst (λ t. WalksAs {U = U} t v gas old new effects (Err (tree.Failed n f))) (sym e) (refl, h)

pub goes_group : (prices : Listed) (source : List ℕ) (n m : ℕ) (start : PlainWorld) (contents : ℕ) (v : World) (w : PlainWorld) (waiting : List Waiting) (counts : PlainCounts) → n ≡ m →
    Goes start (setting_of prices n source) contents v w waiting counts → Goes start (setting_of prices m source) contents v w waiting counts
goes_group prices source n m start contents v w waiting counts e g = subst (λ (k : ℕ). Goes start (setting_of prices k source) contents v w waiting counts) e g

pub steps_group : (prices : Listed) (source : List ℕ) (n m : ℕ) (w : PlainWorld) (waiting : List Waiting) (gas : ℕ) (counts : PlainCounts) (v : World) (left : ℕ) (now : PlainCounts) (ss : List Sent) (before after : List Done) (r : Result Bool ApplyError) →
    n ≡ m → StepsTo (setting_of prices n source) w waiting gas counts v left now ss before after r → StepsTo (setting_of prices m source) w waiting gas counts v left now ss before after r
steps_group prices source n m w waiting gas counts v left now ss before after r e h =
    subst (λ (k : ℕ). StepsTo (setting_of prices k source) w waiting gas counts v left now ss before after r) e h

-- ---- the first operation

-- it fails
pub first_fails : (s : Setting) (w : PlainWorld) (waiting : List Waiting) (gas : ℕ) (counts : PlainCounts) (f : Failed) → 0 < gas → (p : IsFailed s w waiting gas counts f) →
    tree s w waiting gas counts ≡ broken_off 0 p.why
first_fails s w waiting gas counts f some p =
    let more : gas ≡ suc (gas - 1) = omega arith in
    ap (λ k. tree_within k s w waiting gas counts) more
    ∙ ap (λ ws. tree_within (suc (gas - 1)) s w ws gas counts) p.first
    ∙ step_walk s (gas - 1) w p.op p.others gas counts (failed p.why) p.same

-- it is applied, and the others go on
first_comes : (s : Setting) (w : PlainWorld) (waiting : List Waiting) (gas left : ℕ) (counts now : PlainCounts) (v : World) (ss : List Sent) (before after : List Done) → 0 < gas → before ≡ [] →
    (p : IsStep s w waiting gas counts v left now ss before after) →
    tree s w waiting gas counts ≡ behind_all (map effect after) 1 (tree_within (gas - 1) s p.behind.world (all_sent v.store.bases.present ss) left now)
first_comes s w waiting gas left counts now v ss before after some none p =
    let more : gas ≡ suc (gas - 1) = omega arith in
    let a = p.behind in
    let rest : tree_within (gas - 1) s a.world (a.emitted ++ p.others) a.gas a.counts ≡ tree_within (gas - 1) s a.world (all_sent v.store.bases.present ss) left now
    = λ i. tree_within (gas - 1) s a.world (sym p.sent i) (sym p.units i) (sym p.counted i) in
    let done : map effect after ≡ a.effects = p.done ∙ ap (λ es. map effect es ++ a.effects) none in
    ap (λ k. tree_within k s w waiting gas counts) more
    ∙ ap (λ ws. tree_within (suc (gas - 1)) s w ws gas counts) p.first
    ∙ step_walk s (gas - 1) w p.op p.others gas counts (applied a) p.same
    ∙ behind_first a.effects _
    ∙ (λ i. behind_all (sym done i) 1 (rest i))

-- a walk that began with other counts of the same group
walks_since : (U : Type 0) (t : Walk) (v : World) (gas : ℕ) (old mid new : Counts) (effects : List Done) (r : Result U TreeError) → mid.group ≡ old.group →
    WalksAs {U = U} t v gas mid new effects r → WalksAs {U = U} t v gas old new effects r
walks_since U t v gas old mid new effects (Ok x) e h = record { world = h.world; stands = h.stands; same = h.same; group = h.group ∙ e }
walks_since U (completed last) v gas old mid new effects (Err (tree.Failed m f)) e h = absurd h
walks_since U (broken_off n why) v gas old mid new effects (Err (tree.Failed m f)) e h = h
walks_since U stuck_walk v gas old mid new effects (Err (tree.Failed m f)) e h = absurd h
walks_since U t v gas old mid new effects (Err tree.Memory) e h = tt

pub first_walks : (U : Type 0) (prices : Listed) (source : List ℕ) (v x z : World) (start w : PlainWorld) (contents : ℕ) (waiting : List Waiting) (gas left last : ℕ) (old mid new : Counts) (ss : List Sent)
    (before between after : List Done) (r : Result U TreeError) → 0 < gas → before ≡ [] → mid.group ≡ old.group →
    Goes start (setting_of prices old.group source) contents v w waiting (counts_of old) →
    IsStep (setting_of prices old.group source) w waiting gas (counts_of old) x left (counts_of mid) ss before between →
    ((start y : PlainWorld) (contents : ℕ) → Goes start (setting_of prices mid.group source) contents x y (all_sent x.store.bases.present ss) (counts_of mid) →
    WalksAs {U = U} (behind_all (map effect between) 1 (tree_within (gas - 1) (setting_of prices mid.group source) y (all_sent x.store.bases.present ss) left (counts_of mid))) z last mid new after r) →
    WalksAs {U = U} (tree (setting_of prices old.group source) w waiting gas (counts_of old)) z last old new after r
first_walks U prices source v x z start w contents waiting gas left last old mid new ss before between after r some none e g p walks =
    let s = setting_of prices old.group source in
    let goes = goes_on start s contents v x w waiting gas (counts_of old) (counts_of mid) left ss before between g p in
    let others = all_sent x.store.bases.present ss in
    let h = walks start p.behind.world contents (goes_group prices source old.group mid.group start contents x p.behind.world others (counts_of mid) (sym e) goes) in
    let there = subst (λ (k : ℕ). WalksAs {U = U} (behind_all (map effect between) 1 (tree_within (gas - 1) (setting_of prices k source) p.behind.world others left (counts_of mid))) z last mid new after r) e h in
    subst (λ (t : Walk). WalksAs {U = U} t z last old new after r) (sym (first_comes s w waiting gas left (counts_of old) (counts_of mid) x ss before between some none p))
    (walks_since U _ z last old mid new after r e there)
