-- The contents of a group on their way.
use Rattle.std.proofs.Common.{◌≡◌, ◌≤◌, ◌<◌, ◌+◌, ◌-◌, ℕ, zero, suc, List, [], ◌∷◌, ◌++◌, map, length, drop, get_or, Ok, Err, drop-cons, add-one, refl, sym, ap, ◌∙◌, subst, arith, unsigned_abs, pos, int_lt, Bool, true, false, ℤ}
use Rattle.std.specs.Prelude.{replicate}
use Rattle.std.specs.List.{All, list_any}
use Rattle.std.specs.Prelude.{◌||◌, ◌≤ℤ◌, ◌<ℤ◌}
use Rattle.std.proofs.lemmas.Int.{ints}
use Rattle.std.proofs.lemmas.List.Elements.{All-head, All-tail}
use Rattle.std.proofs.lemmas.List.{append_assoc, append-nil, map-append, replicate-append-replicate}
use Rattle.rules_text.specs.nodes.Limits.{most_gas}
use Rattle.rules_world.specs.world.Contents.{Content}
use Rattle.rules_world.specs.world.Forms.{IsContent}
use Rattle.rules_data.specs.gas.Prices.{Listed}
use Rattle.rules_world.specs.world.Groups.{setting_of, is_over_gas, Turn, all_applied, one_failed, stuck_turn, behind_applied, with_tree, skipped, in_turn}
use Rattle.rules_world.specs.world.Outcomes.{Setting, Waiting, ordered, Counts as PlainCounts}
use Rattle.rules_world.specs.world.Receipts.{Status, Applied, Backtracked, Failed}
use Rattle.rules_world.specs.world.Trees.{Walk, completed, broken_off, stuck_walk, tree}
use Rattle.rules_world.specs.world.World.{World as PlainWorld}
use Rattle.laws_world.specs.runs.Going.{IsGoing}
use Rattle.laws_world.proofs.groups_lemmas.ForCallers.{KeepsWalk, tree_keeps, begins}
use Rattle.mich_machine.specs.Calls.{counts_of}
use Rattle.mich_state.specs.declared.state.Counts.{Counts}
use Rattle.mich_ops.specs.Told.{told, told_status}
use Rattle.mich_ops.specs.View.{effect, status, content as content_of}
use Rattle.mich_ops.specs.declared.failure.Failure.{Failure as Why}
use Rattle.mich_ops.specs.declared.group.Content.{Content as Ordered}
use Rattle.mich_ops.specs.declared.receipt.Effect.{Effect as Done}
use Rattle.mich_ops.specs.declared.receipt.Status.{Status as Said}
use Rattle.mich_ops.specs.declared.receipt.Status.TheVariants as said
use Rattle.mich_world.specs.World.{World}
use Rattle.mich_group.specs.Trees.{Goes, IsWalked, WalksAs}
use Rattle.mich_group.specs.declared.tree.TreeError.TheVariants as tree_error
use Rattle.mich_group.specs.Turns.{ContentAs, IsDone, IsBroken, AreApplied, AreBroken}
use Rattle.mich_group.specs.declared.content.Ended.{Ended}

-- so many contents were applied before
abbrev pub behind_done : List Status → Turn → Turn
behind_done done (all_applied w statuses) = all_applied w (done ++ statuses)
behind_done done (one_failed statuses) = one_failed (map (λ _. Backtracked) done ++ statuses)
behind_done done stuck_turn = stuck_turn

behind_one_more : (done : List Status) (x : Status) (t : Turn) → behind_done done (behind_applied x t) ≡ behind_done (done ++ x ∷ []) t
behind_one_more done x (all_applied w statuses) = ap (all_applied w) (sym (append_assoc done (x ∷ []) statuses))
behind_one_more done x (one_failed statuses) =
    ap one_failed (sym (ap (λ t. t ++ statuses) (map-append (λ _. Backtracked) done (x ∷ [])) ∙ append_assoc (map (λ _. Backtracked) done) (Backtracked ∷ []) statuses))
behind_one_more done x stuck_turn = refl

-- ---- rows of one status

pub one_more : (n : ℕ) (x : Said) → replicate n x ++ x ∷ [] ≡ replicate (n + 1) x
one_more n x = replicate-append-replicate n 1 x

pub one_behind : (n : ℕ) (x y : Said) (xs : List Said) → (xs ++ y ∷ replicate n x) ++ x ∷ [] ≡ xs ++ y ∷ replicate (n + 1) x
one_behind n x y xs = append_assoc xs (y ∷ replicate n x) (x ∷ []) ∙ ap (λ t. xs ++ y ∷ t) (one_more n x)

-- ---- where a group has come to

-- its contents so far were applied, and those are left
pub record HasTurned (start : PlainWorld) (s : Setting) (t : Turn) (v : World) (counts : PlainCounts) (ss : List Said) (at : ℕ) (left : List Content) : Type 0 where
  pub world : PlainWorld
  pub goes : Goes start s at v world [] counts
  pub done : List Status
  pub same : t ≡ behind_done done (in_turn s left world counts)
  pub statuses : map status ss ≡ map told_status done
  pub count : length done ≡ at

module _ (start : PlainWorld) (s : Setting) (t : Turn) (v : World) (counts : PlainCounts) (ss : List Said) (at : ℕ) (c : Content) (left : List Content)
    (h : HasTurned start s t v counts ss at (c ∷ left)) (form : IsContent c) (few : suc at ≤ 1000) where
  -- the next content begins
  pub content_goes : Goes start s (suc at) v h.world (ordered c.action ∷ []) counts
  content_goes = record {
    few = few;
    setting = h.goes.setting;
    stands = h.goes.stands;
    going = begins start s h.goes.setting at h.world c.action counts form.2 h.goes.going;
  }

  -- and was applied
  pub content_turned : (x : World) (old new : Counts) (used : ℕ) (effects : List Done) → counts_of old ≡ counts →
      IsDone (tree s h.world (ordered c.action ∷ []) (unsigned_abs c.gas) counts) (unsigned_abs c.gas) x old new used effects →
      HasTurned start s t x (counts_of new) (ss ++ said.Applied used effects ∷ []) (suc at) left
  content_turned x old new used effects e d =
      let applied = Applied (unsigned_abs c.gas - d.last.gas) d.last.effects in
      let keeps = subst (KeepsWalk start s h.goes.setting (suc at) few) d.same
      (tree_keeps start s h.goes.setting (suc at) few h.world (ordered c.action ∷ []) (unsigned_abs c.gas) counts content_goes.going) in
      record {
        world = d.last.world;
        goes = record {
          few = few;
          setting = h.goes.setting;
          stands = d.stands;
          going = subst (λ k. IsGoing start s.group (suc at) d.last.world [] k) (sym d.counts) keeps;
        };
        done = h.done ++ applied ∷ [];
        same = h.same ∙ ap (λ w. behind_done h.done (with_tree (unsigned_abs c.gas) w left (in_turn s left))) d.same
            ∙ behind_one_more h.done applied (in_turn s left d.last.world d.last.counts)
            ∙ ap (λ k. behind_done (h.done ++ applied ∷ []) (in_turn s left d.last.world k)) (sym d.counts);
        statuses = map-append status ss (said.Applied used effects ∷ [])
            ∙ (λ i. h.statuses i ++ Rattle.mich_ops.specs.Told.Applied (d.spent i) (d.did i) ∷ [])
            ∙ sym (map-append told_status h.done (applied ∷ []));
        count = Rattle.std.proofs.lemmas.List.length-append h.done (applied ∷ []) ∙ ap (λ n. n + 1) h.count ∙ omega arith;
      }

  -- or failed
  backs : (done : List Status) (n : ℕ) → length done ≡ n → map status (replicate n said.Backtracked) ≡ map told_status (map (λ _. Backtracked) done)
  backs [] zero e = refl
  backs [] (suc n) e = absurd cc
  backs (x ∷ done) zero e = absurd cc
  backs (x ∷ done) (suc n) e = ap (λ t. status said.Backtracked ∷ t) (backs done n (omega arith))

  skips : (left : List Content) (n : ℕ) → length left ≡ n → map status (replicate n said.Skipped) ≡ map told_status (map skipped left)
  skips [] zero e = refl
  skips [] (suc n) e = absurd cc
  skips (x ∷ left) zero e = absurd cc
  skips (x ∷ left) (suc n) e = ap (λ t. status said.Skipped ∷ t) (skips left n (omega arith))

  pub content_broke : (count : ℕ) (f : Why) (behind : ℕ) → length left ≡ behind →
      IsBroken (tree s h.world (ordered c.action ∷ []) (unsigned_abs c.gas) counts) count f →
      AreBroken t (replicate at said.Backtracked ++ said.Failed count f ∷ replicate behind said.Skipped)
  content_broke count f behind e b = record {
    done = map (λ _. Backtracked) h.done ++ Failed count b.why ∷ map skipped left;
    same = h.same ∙ ap (λ w. behind_done h.done (with_tree (unsigned_abs c.gas) w left (in_turn s left))) b.same;
    statuses = map-append status (replicate at said.Backtracked) (said.Failed count f ∷ replicate behind said.Skipped)
        ∙ (λ i. backs h.done at h.count i ++ Rattle.mich_ops.specs.Told.Failed count (b.told i) ∷ skips left behind e i)
        ∙ sym (map-append told_status (map (λ _. Backtracked) h.done) (Failed count b.why ∷ map skipped left));
  }

-- all were applied
pub all_turned : (start : PlainWorld) (s : Setting) (t : Turn) (v : World) (counts : PlainCounts) (ss : List Said) (at : ℕ) → HasTurned start s t v counts ss at [] → AreApplied t v ss
all_turned start s t v counts ss at h = record {
  world = h.world;
  done = h.done;
  same = h.same ∙ ap (all_applied h.world) (append-nil h.done);
  stands = h.goes.stands;
  statuses = h.statuses;
}

-- at the beginning
pub none_turned : (start : PlainWorld) (s : Setting) (cs : List Content) (v : World) (w : PlainWorld) (counts : PlainCounts) → Goes start s 0 v w [] counts → HasTurned start s (in_turn s cs w counts) v counts [] 0 cs
none_turned start s cs v w counts g = record {
  world = w;
  goes = g;
  done = [];
  same = by (in_turn s cs w counts);
  statuses = refl;
  count = refl;
}
  where
    by : (t : Turn) → t ≡ behind_done [] t
    by (all_applied w statuses) = refl
    by (one_failed statuses) = refl
    by stuck_turn = refl

-- ---- one content

pub walk_done : (t : Walk) (gas left : ℕ) (v : World) (old new : Counts) (effects : List Done) → IsWalked t v left old new effects → IsDone t gas v old new (gas - left) effects
walk_done t gas left v old new effects h = record {
  last = record { world = h.world; effects = map effect effects; gas = left; counts = counts_of new };
  same = h.same;
  stands = h.stands;
  spent = refl;
  did = refl;
  counts = refl;
  group = h.group;
}

pub walk_broken : (U : Type 0) (t : Walk) (v : World) (left : ℕ) (old new : Counts) (effects : List Done) (count : ℕ) (f : Why) →
    WalksAs {U = U} t v left old new effects (Err (tree_error.Failed count f)) → IsBroken t count f
walk_broken U (completed last) v left old new effects count f h = absurd h
walk_broken U (broken_off n why) v left old new effects count f h = record { why = why; same = ap (λ k. broken_off k why) (sym h.0); told = h.1 }
walk_broken U stuck_walk v left old new effects count f h = absurd h

-- the contents from one on
pub contents_from : (cs : List Ordered) (i : ℕ) (c : Ordered) → i < length cs → c ≡ get_or cs i c → map content_of (drop i cs) ≡ content_of c ∷ map content_of (drop (i + 1) cs)
contents_from cs i c h e =
    ap (map content_of) (drop-cons cs i c h ∙ ap (λ x. x ∷ drop (suc i) cs) (sym e) ∙ ap (λ k. c ∷ drop k cs) (sym (add-one i)))

-- ---- gas

above : (g : ℤ) → pos most_gas <ℤ g → int_lt (pos most_gas) g ≡ true
above g h = grind (arith, ints)

not_above : (g : ℤ) → ¬ (pos most_gas <ℤ g) → int_lt (pos most_gas) g ≡ false
not_above g h = grind (arith, ints)

within : (g : ℤ) → int_lt (pos most_gas) g ≡ false → g ≤ℤ pos most_gas
within g h = grind (arith, ints)

either_false : (a b : Bool) → (a || b) ≡ false → (a ≡ false) × (b ≡ false)
either_false true b h = absurd cc
either_false false b h = (refl, h)

module _ (cs : List Ordered) (i : ℕ) (c : Ordered) (lt : i < length cs) (e : c ≡ get_or cs i c) where
  any_from : list_any is_over_gas (map content_of (drop i cs)) ≡ (is_over_gas (content_of c) || list_any is_over_gas (map content_of (drop (i + 1) cs)))
  any_from = ap (list_any is_over_gas) (contents_from cs i c lt e)

  pub over_here : pos most_gas <ℤ c.gas → list_any is_over_gas (map content_of (drop i cs)) ≡ true
  over_here h = any_from ∙ ap (λ b. b || list_any is_over_gas (map content_of (drop (i + 1) cs))) (above c.gas h)

  pub under_here : ¬ (pos most_gas <ℤ c.gas) → list_any is_over_gas (map content_of (drop i cs)) ≡ list_any is_over_gas (map content_of (drop (i + 1) cs))
  under_here h = any_from ∙ ap (λ b. b || list_any is_over_gas (map content_of (drop (i + 1) cs))) (not_above c.gas h)

  -- where none is over
  module _ (none : list_any is_over_gas (map content_of (drop i cs)) ≡ false) where
    parts : (is_over_gas (content_of c) ≡ false) × (list_any is_over_gas (map content_of (drop (i + 1) cs)) ≡ false)
    parts = either_false (is_over_gas (content_of c)) _ (sym any_from ∙ none)

    pub gas_within : c.gas ≤ℤ pos most_gas
    gas_within = within c.gas parts.0

    pub gas_behind : list_any is_over_gas (map content_of (drop (i + 1) cs)) ≡ false
    gas_behind = parts.1

  -- where each has the form of contents
  module _ (forms : All IsContent (map content_of (drop i cs))) where
    each : All IsContent (content_of c ∷ map content_of (drop (i + 1) cs))
    each = subst (All IsContent) (contents_from cs i c lt e) forms

    pub form_here : IsContent (content_of c)
    form_here = All-head IsContent (content_of c) _ each

    pub forms_behind : All IsContent (map content_of (drop (i + 1) cs))
    forms_behind = All-tail IsContent (content_of c) _ each

  pub turned_from : (start : PlainWorld) (s : Setting) (t : Turn) (v : World) (counts : PlainCounts) (ss : List Said) →
      HasTurned start s t v counts ss i (map content_of (drop i cs)) → HasTurned start s t v counts ss i (content_of c ∷ map content_of (drop (i + 1) cs))
  turned_from start s t v counts ss h = subst (HasTurned start s t v counts ss i) (contents_from cs i c lt e) h

-- what a content came to, where the number of the group, the gas and the end are known by other names
pub ended_as : (U : Type 0) (prices : Listed) (source : List ℕ) (n m : ℕ) (w : PlainWorld) (ops : List Waiting) (gas g : ℕ) (counts : PlainCounts) (v : World) (old new : Counts) (r e : Ended) →
    n ≡ m → gas ≡ g → r ≡ e →
    ContentAs {E = U} (tree (setting_of prices n source) w ops gas counts) gas v old new (Ok r) → ContentAs {E = U} (tree (setting_of prices m source) w ops g counts) g v old new (Ok e)
ended_as U prices source n m w ops gas g counts v old new r e a b c h =
    subst (λ (x : Ended). ContentAs {E = U} (tree (setting_of prices m source) w ops g counts) g v old new (Ok x)) c
    (subst (λ (k : ℕ). ContentAs {E = U} (tree (setting_of prices m source) w ops k counts) k v old new (Ok r)) b
    (subst (λ (k : ℕ). ContentAs {E = U} (tree (setting_of prices k source) w ops gas counts) gas v old new (Ok r)) a h))
