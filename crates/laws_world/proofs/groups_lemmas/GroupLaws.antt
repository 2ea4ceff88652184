-- Groups are all or nothing: the simple laws of groups, proved.
use Rattle.std.specs.Prelude.{◌≡◌, ℕ, true, false, List, [], ◌∷◌, Option, Some, None, refl}
use Rattle.std.proofs.Common.{sym, ap, ◌∙◌}
use Rattle.std.specs.List.{list_any}
use Rattle.rules_data.specs.gas.Prices.{Listed}
use Rattle.rules_world.specs.world.Contents.{Content}
use Rattle.rules_world.specs.world.Receipts.{GroupFault, Receipt, Status, Applied, Refused, Done}
use Rattle.rules_world.specs.world.World.{World}
use Rattle.rules_world.specs.world.Outcomes.{Setting, Counts, no_counts, ordered}
use Rattle.rules_world.specs.world.Trees.{Walk, completed, broken_off, stuck_walk, tree}
use Rattle.rules_world.specs.world.Groups.{Settled, Turn, all_applied, one_failed, stuck_turn, behind_applied, with_tree, in_turn, settled_by, unless_refused, setting_of, fees_taken, refusal_of}
use Rattle.rules_world.specs.world.Laws.{is_failed, FailedGroupsMoveFees, RefusedGroupsMoveNothing}

abbrev receipt_in : Option Settled → Receipt
receipt_in (Some settled) = settled.receipt
receipt_in None = Done []

abbrev world_in : World → Option Settled → World
world_in w (Some settled) = settled.world
world_in w None = w

apart : (fault : GroupFault) (statuses : List Status) → Done statuses ≡ Refused fault → ⊥
apart fault statuses h = cc

settled_not_refused : (w v : World) (t : Turn) (fault : GroupFault) →
    settled_by w t ≡ Some (record { receipt = Refused fault; world = v }) → ⊥
settled_not_refused w v (all_applied x statuses) fault h = apart fault statuses (ap receipt_in h)
settled_not_refused w v (one_failed statuses) fault h = apart fault statuses (ap receipt_in h)
settled_not_refused w v stuck_turn fault h = cc

refused_by : (r : Option GroupFault) (prices : Listed) (number : ℕ) (source : List ℕ) (contents : List Content) (w v : World)
    (fault : GroupFault) →
    unless_refused r prices number source contents w ≡ Some (record { receipt = Refused fault; world = v }) → v ≡ w
refused_by (Some f) prices number source contents w v fault h = sym (ap (world_in w) h)
refused_by None prices number source contents w v fault h = absurd (settled_not_refused _ v _ fault h)

pub refused_groups_move_nothing : RefusedGroupsMoveNothing
refused_groups_move_nothing prices number source contents w v fault h = refused_by
    (refusal_of w source contents) prices number source contents w v fault h

-- no status of a group that was applied is one of failure
abbrev NoFailure : Turn → Type 0
NoFailure (all_applied w statuses) = list_any is_failed statuses ≡ false
NoFailure (one_failed statuses) = Unit {0}
NoFailure stuck_turn = Unit {0}

behind : (gas : ℕ) (effects : List _) (t : Turn) → NoFailure t → NoFailure (behind_applied (Applied gas effects) t)
behind gas effects (all_applied w statuses) h = h
behind gas effects (one_failed statuses) h = tt
behind gas effects stuck_turn h = tt

with_any_tree : (gas : ℕ) (t : Walk) (contents : List Content) (again : World → Counts → Turn) →
    ((w : World) (c : Counts) → NoFailure (again w c)) →
    NoFailure (with_tree gas t contents again)
with_any_tree gas (completed last) contents again h = behind _ _ (again last.world last.counts) (h last.world last.counts)
with_any_tree gas (broken_off count failure) contents again h = tt
with_any_tree gas stuck_walk contents again h = tt

no_failure : (s : Setting) (contents : List Content) (w : World) (c : Counts) → NoFailure (in_turn s contents w c)
no_failure s [] w c = refl
no_failure s (x ∷ contents) w c = with_any_tree _ (tree s w (ordered x.action ∷ []) _ c) contents (in_turn s contents)
    (λ w c. no_failure s contents w c)

abbrev statuses_in : Receipt → List Status
statuses_in (Done statuses) = statuses
statuses_in (Refused fault) = []

different : (ss statuses : List Status) → ss ≡ statuses → list_any is_failed ss ≡ false → list_any is_failed statuses ≡ true → ⊥
different ss statuses same h f = let e : true ≡ false = sym f ∙ ap (list_any is_failed) (sym same) ∙ h in cc

settled_with : (after v : World) (t : Turn) (statuses : List Status) → NoFailure t →
    settled_by after t ≡ Some (record { receipt = Done statuses; world = v }) →
    list_any is_failed statuses ≡ true → v ≡ after
settled_with after v (all_applied w ss) statuses h e f = absurd
    (different ss statuses (ap (λ o. statuses_in (receipt_in o)) e) h f)
settled_with after v (one_failed ss) statuses h e f = sym (ap (world_in after) e)
settled_with after v stuck_turn statuses h e f = let n : ⊥ = cc in absurd n

failed_by : (r : Option GroupFault) (prices : Listed) (number : ℕ) (source : List ℕ) (contents : List Content) (w v : World)
    (statuses : List Status) →
    unless_refused r prices number source contents w ≡ Some (record { receipt = Done statuses; world = v }) →
    list_any is_failed statuses ≡ true →
    v ≡ fees_taken w source contents
failed_by (Some f) prices number source contents w v statuses h failed = absurd (apart f statuses (sym (ap receipt_in h)))
failed_by None prices number source contents w v statuses h failed =
    settled_with _ v (in_turn (setting_of prices number source) contents (fees_taken w source contents) no_counts) statuses
    (no_failure (setting_of prices number source) contents (fees_taken w source contents) no_counts) h failed

pub failed_groups_move_fees : FailedGroupsMoveFees
failed_groups_move_fees prices number source contents w v statuses h failed = failed_by
    (refusal_of w source contents) prices number source contents w v statuses h failed
