-- Groups leave a paid world paid.
use Rattle.std.proofs.Common.{◌≡◌, ℕ, zero, suc, List, [], ◌∷◌, ◌++◌, true, Some, None, unsigned_abs}
use Rattle.std.specs.declared.option.Option.{Option}
use Rattle.rules_data.specs.forms.Spelling.{implicit_place, is_key_hash}
use Rattle.rules_data.specs.gas.Prices.{Listed}
use Rattle.rules_world.specs.world.Contents.{Content}
use Rattle.rules_world.specs.world.Groups.{all_fees, refusal_of, Turn, all_applied, one_failed, stuck_turn, behind_applied, with_tree, in_turn, Settled, fees_taken, settled_by, setting_of, unless_refused, group}
use Rattle.rules_world.specs.world.Outcomes.{Setting, Waiting, ordered, Counts, no_counts, Outcome, applied, failed, stuck}
use Rattle.rules_world.specs.world.Application.{apply}
use Rattle.rules_world.specs.world.Receipts.{Effect, Status, GroupFault}
use Rattle.rules_world.specs.world.Trees.{Walk, completed, broken_off, stuck_walk, behind_one, with_emitted, tree_within, tree}
use Rattle.rules_world.specs.world.World.{World}
use Rattle.laws_files.proofs.paid.Growing.{AppliesIn}
use Rattle.laws_files.proofs.paid.Moves.{IsPaidBy, fee_paid}
use Rattle.laws_files.proofs.paid.Operations.{apply_paid}

module _ (r : Option ℕ) (s : Setting) (key : is_key_hash s.source ≡ true) where
  -- ---- a tree

  abbrev WalkPaid : Walk → Type 0
  WalkPaid (completed last) = IsPaidBy r last.world
  WalkPaid (broken_off count failure) = Unit {0}
  WalkPaid stuck_walk = Unit {0}

  behind_paid : (effects : List Effect) (t : Walk) → WalkPaid t → WalkPaid (behind_one effects t)
  behind_paid effects (completed last) h = h
  behind_paid effects (broken_off count failure) h = tt
  behind_paid effects stuck_walk h = tt

  emitted_paid : (waiting : List Waiting) (o : Outcome) (again : World → List Waiting → ℕ → Counts → Walk) →
      AppliesIn (IsPaidBy r) o →
      ((x : World) (ops : List Waiting) (gas : ℕ) (counts : Counts) → IsPaidBy r x → WalkPaid (again x ops gas counts)) →
      WalkPaid (with_emitted o waiting again)
  emitted_paid waiting (applied a) again p h =
      behind_paid a.effects (again a.world (a.emitted ++ waiting) a.gas a.counts) (h a.world (a.emitted ++ waiting) a.gas a.counts p)
  emitted_paid waiting (failed failure) again p h = tt
  emitted_paid waiting stuck again p h = tt

  within_paid : (limit : ℕ) (w : World) (waiting : List Waiting) (gas : ℕ) (counts : Counts) → IsPaidBy r w →
      WalkPaid (tree_within limit s w waiting gas counts)
  within_paid limit w [] gas counts p = p
  within_paid zero w (op ∷ waiting) gas counts p = tt
  within_paid (suc limit) w (op ∷ waiting) gas counts p =
      emitted_paid waiting (apply s w op gas counts) (tree_within limit s) (apply_paid r s key w p op gas counts)
      (λ x ops gas counts h. within_paid limit x ops gas counts h)

  -- ---- contents in turn

  abbrev TurnPaid : Turn → Type 0
  TurnPaid (all_applied w statuses) = IsPaidBy r w
  TurnPaid (one_failed statuses) = Unit {0}
  TurnPaid stuck_turn = Unit {0}

  status_paid : (status : Status) (t : Turn) → TurnPaid t → TurnPaid (behind_applied status t)
  status_paid status (all_applied w statuses) h = h
  status_paid status (one_failed statuses) h = tt
  status_paid status stuck_turn h = tt

  tree_paid : (gas : ℕ) (t : Walk) (rest : List Content) (again : World → Counts → Turn) → WalkPaid t →
      ((x : World) (counts : Counts) → IsPaidBy r x → TurnPaid (again x counts)) → TurnPaid (with_tree gas t rest again)
  tree_paid gas (completed last) rest again p h = status_paid _ (again last.world last.counts) (h last.world last.counts p)
  tree_paid gas (broken_off count failure) rest again p h = tt
  tree_paid gas stuck_walk rest again p h = tt

  turn_paid : (cs : List Content) (w : World) (counts : Counts) → IsPaidBy r w → TurnPaid (in_turn s cs w counts)
  turn_paid [] w counts p = p
  turn_paid (c ∷ cs) w counts p =
      tree_paid (unsigned_abs c.gas) (tree s w (ordered c.action ∷ []) (unsigned_abs c.gas) counts) cs (in_turn s cs)
      (within_paid (unsigned_abs c.gas) w (ordered c.action ∷ []) (unsigned_abs c.gas) counts p)
      (λ x counts h. turn_paid cs x counts h)

-- ---- groups

abbrev pub SettlesPaid : Option ℕ → Option Settled → Type 0
SettlesPaid r (Some settled) = IsPaidBy r settled.world
SettlesPaid r None = Unit {0}

-- a group that failed leaves the world with its fees taken
settled_paid : (r : Option ℕ) (s : Setting) (key : is_key_hash s.source ≡ true) (w : World) (t : Turn) → IsPaidBy r w →
    TurnPaid r s key t → SettlesPaid r (settled_by w t)
settled_paid r s key w (all_applied x statuses) p h = h
settled_paid r s key w (one_failed statuses) p h = p
settled_paid r s key w stuck_turn p h = tt

pub group_paid : (r : Option ℕ) (prices : Listed) (number : ℕ) (source : List ℕ) (contents : List Content) (w : World) →
    is_key_hash source ≡ true → IsPaidBy r w → SettlesPaid r (group prices number source contents w)
group_paid r prices number source contents w key p = by (refusal_of w source contents)
  where
    s : Setting
    s = setting_of prices number source

    less : IsPaidBy r (fees_taken w source contents)
    less = fee_paid r w (implicit_place source) (all_fees contents) p

    by : (f : Option GroupFault) → SettlesPaid r (unless_refused f prices number source contents w)
    by (Some fault) = p
    by None = settled_paid r s key (fees_taken w source contents) (in_turn s contents (fees_taken w source contents) no_counts) less
        (turn_paid r s key contents (fees_taken w source contents) no_counts less)
