-- Groups in such worlds.
use Rattle.std.proofs.Common.{◌≡◌, ℕ, zero, suc, ◌+◌, ◌-◌, List, [], ◌∷◌, ◌++◌, map, Option, Some, None, refl, sym, ap, ◌∙◌, subst, unsigned_abs}
use Rattle.rules_data.specs.forms.Spelling.{implicit_place}
use Rattle.rules_code.specs.steps.Changes.{Change}
use Rattle.rules_world.specs.world.Application.{apply}
use Rattle.rules_world.specs.world.Balances.{fee_taken}
use Rattle.rules_world.specs.world.Contents.{Content}
use Rattle.rules_world.specs.world.Groups.{all_fees, refusal_of, Turn, all_applied, one_failed, stuck_turn, behind_applied, skipped, with_tree, in_turn, Settled, fees_taken, settled_by, admitted, unless_refused, group}
use Rattle.rules_world.specs.world.Outcomes.{Waiting, ordered, Counts, Outcome, Success, applied, failed, stuck, no_counts}
use Rattle.rules_world.specs.world.Receipts.{Effect, GroupFault, Status, Applied, Backtracked, Failed, Done}
use Rattle.rules_world.specs.world.Trees.{Last, Walk, completed, broken_off, stuck_walk, behind_one, with_emitted, tree_within, tree}
use Rattle.rules_world.specs.world.World.{World}
use Rattle.laws_commands.proofs.resuming_lemmas.worlds.Relogged.{log_stays, fee_passes}
use Rattle.laws_commands.proofs.resuming_lemmas.worlds.Runs.{Pair, one, two, twin, Begins, AreAlike}
use Rattle.laws_commands.proofs.resuming_lemmas.worlds.Applied.{apply_alike}

module _ (p : Pair) where
  -- ---- trees

  abbrev AreAlikeWalks : Walk → Walk → Type 0
  AreAlikeWalks (completed a) (completed b) = (more : List Change) × Begins p a.world more × (record a { world = twin p more a.world } ≡ b)
  AreAlikeWalks (broken_off n f) (broken_off m g) = (n ≡ m) × (f ≡ g)
  AreAlikeWalks stuck_walk stuck_walk = Unit {0}
  AreAlikeWalks a b = ⊥

  behind_alike : (effects : List Effect) (a b : Walk) → AreAlikeWalks a b → AreAlikeWalks (behind_one effects a) (behind_one effects b)
  behind_alike effects (completed a) (completed b) h = (h.0, h.1, λ k. record (h.2 k) { effects = effects ++ (h.2 k).effects })
  behind_alike effects (broken_off n f) (broken_off m g) h = (ap (λ (n : ℕ). n + 1) h.0, h.1)
  behind_alike effects stuck_walk stuck_walk h = tt
  behind_alike effects a b h = absurd h

  emitted_alike : (a b : Outcome) (waiting : List Waiting) (again other : World → List Waiting → ℕ → Counts → Walk) → AreAlike p a b →
      ((w : World) (more : List Change) → Begins p w more → (ops : List Waiting) (gas : ℕ) (counts : Counts) →
      AreAlikeWalks (again w ops gas counts) (other (twin p more w) ops gas counts)) →
      AreAlikeWalks (with_emitted a waiting again) (with_emitted b waiting other)
  emitted_alike (applied a) (applied b) waiting again other h on =
      subst (λ (b : Success). AreAlikeWalks (with_emitted (applied a) waiting again) (with_emitted (applied b) waiting other)) h.2
      (behind_alike a.effects _ _ (on a.world h.0 h.1 (a.emitted ++ waiting) a.gas a.counts))
  emitted_alike (failed f) (failed g) waiting again other h on = (refl, h)
  emitted_alike stuck stuck waiting again other h on = tt
  emitted_alike a b waiting again other h on = absurd h

  within_alike : (limit : ℕ) (w : World) (more : List Change) → Begins p w more → (ops : List Waiting) (gas : ℕ) (counts : Counts) →
      AreAlikeWalks (tree_within limit (one p) w ops gas counts) (tree_within limit (two p) (twin p more w) ops gas counts)
  within_alike limit w more h [] gas counts = (more, h, refl)
  within_alike zero w more h (op ∷ ops) gas counts = (refl, refl)
  within_alike (suc limit) w more h (op ∷ ops) gas counts =
      emitted_alike (apply (one p) w op gas counts) (apply (two p) (twin p more w) op gas counts) ops (tree_within limit (one p))
      (tree_within limit (two p))
      (apply_alike p w more h op gas counts) (λ w more h ops gas counts. within_alike limit w more h ops gas counts)

  -- ---- contents in turn

  abbrev AreAlikeTurns : Turn → Turn → Type 0
  AreAlikeTurns (all_applied w s) (all_applied v t) = (more : List Change) × Begins p w more × (twin p more w ≡ v) × (s ≡ t)
  AreAlikeTurns (one_failed s) (one_failed t) = s ≡ t
  AreAlikeTurns stuck_turn stuck_turn = Unit {0}
  AreAlikeTurns a b = ⊥

  behind_applied_alike : (status : Status) (a b : Turn) → AreAlikeTurns a b →
      AreAlikeTurns (behind_applied status a) (behind_applied status b)
  behind_applied_alike status (all_applied w s) (all_applied v t) h = (h.0, h.1, h.2, ap (λ (ss : List Status). status ∷ ss) h.3)
  behind_applied_alike status (one_failed s) (one_failed t) h = ap (λ (ss : List Status). Backtracked ∷ ss) h
  behind_applied_alike status stuck_turn stuck_turn h = tt
  behind_applied_alike status a b h = absurd h

  with_tree_alike : (gas : ℕ) (a b : Walk) (contents : List Content) (again other : World → Counts → Turn) → AreAlikeWalks a b →
      ((w : World) (more : List Change) → Begins p w more → (counts : Counts) →
      AreAlikeTurns (again w counts) (other (twin p more w) counts)) →
      AreAlikeTurns (with_tree gas a contents again) (with_tree gas b contents other)
  with_tree_alike gas (completed a) (completed b) contents again other h on =
      subst (λ (b : Last). AreAlikeTurns (with_tree gas (completed a) contents again) (with_tree gas (completed b) contents other)) h.2
      (behind_applied_alike (Applied (gas - a.gas) a.effects) _ _ (on a.world h.0 h.1 a.counts))
  with_tree_alike gas (broken_off n f) (broken_off m g) contents again other h on =
      λ k. Failed (h.0 k) (h.1 k) ∷ map skipped contents
  with_tree_alike gas stuck_walk stuck_walk contents again other h on = tt
  with_tree_alike gas a b contents again other h on = absurd h

  turn_alike : (contents : List Content) (w : World) (more : List Change) → Begins p w more → (counts : Counts) →
      AreAlikeTurns (in_turn (one p) contents w counts) (in_turn (two p) contents (twin p more w) counts)
  turn_alike [] w more h counts = (more, h, refl, refl)
  turn_alike (c ∷ contents) w more h counts =
      with_tree_alike (unsigned_abs c.gas) (tree (one p) w (ordered c.action ∷ []) (unsigned_abs c.gas) counts)
      (tree (two p) (twin p more w) (ordered c.action ∷ []) (unsigned_abs c.gas) counts) contents (in_turn (one p) contents)
      (in_turn (two p) contents)
      (within_alike (unsigned_abs c.gas) w more h (ordered c.action ∷ []) (unsigned_abs c.gas) counts)
      (λ w more h counts. turn_alike contents w more h counts)

  -- ---- the group

  abbrev pub AreAlikeSettled : Option Settled → Option Settled → Type 0
  AreAlikeSettled (Some a) (Some b) = (more : List Change) × Begins p a.world more × (record a { world = twin p more a.world } ≡ b)
  AreAlikeSettled None None = Unit {0}
  AreAlikeSettled a b = ⊥

  settled_alike : (fees : World) (more : List Change) → Begins p fees more → (a b : Turn) → AreAlikeTurns a b →
      AreAlikeSettled (settled_by fees a) (settled_by (twin p more fees) b)
  settled_alike fees more h (all_applied w s) (all_applied v t) g =
      (g.0, g.1, λ k. record { receipt = Done (g.3 k); world = g.2 k })
  settled_alike fees more h (one_failed s) (one_failed t) g =
      (more, h, λ k. record { receipt = Done (g k); world = twin p more fees })
  settled_alike fees more h stuck_turn stuck_turn g = tt
  settled_alike fees more h a b g = absurd g

  refused_alike : (o : Option GroupFault) (contents : List Content) (w : World) (more : List Change) → Begins p w more →
      AreAlikeSettled (unless_refused o p.prices p.group p.source contents w)
      (unless_refused o p.others p.group p.source contents (twin p more w))
  refused_alike (Some fault) contents w more h = (more, h, refl)
  refused_alike None contents w more h =
      subst (λ (v : World). AreAlikeSettled (admitted (one p) (fees_taken w p.source contents) contents) (admitted (two p) v contents))
      (sym (fee_passes (implicit_place p.source) (all_fees contents) (p.other ++ more) w))
      (settled_alike fees more begins _ _ (turn_alike contents fees more begins no_counts))
    where
      fees : World
      fees = fees_taken w p.source contents

      begins : Begins p fees more
      begins = log_stays (λ w. fee_taken w (implicit_place p.source) (all_fees contents))
          (fee_passes (implicit_place p.source) (all_fees contents)) w ∙ h

  pub group_alike : (contents : List Content) (w : World) (more : List Change) → Begins p w more →
      AreAlikeSettled (group p.prices p.group p.source contents w) (group p.others p.group p.source contents (twin p more w))
  group_alike contents w more h = refused_alike (refusal_of w p.source contents) contents w more h
