-- Groups of operations.
use Rattle.std.proofs.Common.{◌≡◌, ◌≤◌, ◌+◌, ◌-◌, ℕ, zero, suc, pos, Bool, true, false, Option, Some, None, List, [], ◌∷◌, ◌++◌, map, length, refl, subst, arith}
use Rattle.std.specs.Prelude.{ℤ, ◌≤ℤ◌, int_lt, nat_lt, not, is_some, unsigned_abs, if◌then◌else◌}
use Rattle.std.specs.List.{All, AllByRecursion, list_any}
use Rattle.std.proofs.lemmas.Int.{ints}
use Rattle.std.proofs.lemmas.List.Elements.{All-head, All-tail}
use Rattle.std.proofs.lemmas.Bool.{or_parts}
use Rattle.rules_text.specs.nodes.Limits.{most_gas}
use Rattle.rules_data.specs.forms.Spelling.{implicit_place}
use Rattle.rules_data.specs.gas.Prices.{Listed}
use Rattle.rules_world.specs.world.Contents.{Content}
use Rattle.rules_world.specs.world.Forms.{IsContent}
use Rattle.rules_world.specs.world.Laws.{IsGroup}
use Rattle.rules_world.specs.world.World.{World, account_at}
use Rattle.rules_world.specs.world.Balances.{balance_or_none}
use Rattle.rules_world.specs.world.Receipts.{Effect, GroupFault, UnknownSource, GasTooHigh, FeeTooHigh, Applied}
use Rattle.rules_world.specs.world.Outcomes.{Setting, Counts, no_counts, Waiting, ordered, Outcome, applied, failed, stuck}
use Rattle.rules_world.specs.world.Application.{apply}
use Rattle.rules_world.specs.world.Trees.{Walk, completed, broken_off, stuck_walk, behind_one, with_emitted, tree_within, tree}
use Rattle.rules_world.specs.world.Groups.{Turn, all_applied, one_failed, stuck_turn, behind_applied, skipped, is_over_gas, all_fees, with_tree, in_turn, Settled, fees_taken, settled_by, setting_of, unless_refused, refusal_of, group}
use Rattle.laws_world.specs.runs.Going.{IsSetting, IsGoing, KeepsGoing}
use Rattle.laws_world.proofs.groups_lemmas.ForCallers.{KeepsWalk, apply_keeps, begins, tree_keeps, fees_going, fees_there, setting}
use Rattle.laws_commands.specs.written.Written.{AreBytes, IsWrittenFailure}
use Rattle.laws_commands.specs.written.Worlds.{IsWrittenWorld, IsWrittenContent, IsWrittenWaiting, IsWrittenEffect, IsWrittenStatus, IsWrittenReceipt}
use Rattle.laws_commands.proofs.written_lemmas.values.Bytes.{implicit_bytes}
use Rattle.laws_commands.proofs.written_lemmas.worlds.Worlds.{fee_written}
use Rattle.laws_commands.proofs.written_lemmas.worlds.Applied.{Leaves}
use Rattle.laws_commands.proofs.written_lemmas.worlds.Operations.{leaves_apply}
use Rattle.laws_commands.proofs.common.Lists.{all_append}

-- ---- trees

abbrev WalkWritten : ℕ → Walk → Type 0
WalkWritten limit (completed last) = IsWrittenWorld last.world × AllByRecursion IsWrittenEffect last.effects
WalkWritten limit (broken_off count f) = (count ≤ limit) × IsWrittenFailure f
WalkWritten limit stuck_walk = Unit {0}

behind_written : (limit : ℕ) (es : List Effect) (t : Walk) → AllByRecursion IsWrittenEffect es → WalkWritten limit t →
    WalkWritten (suc limit) (behind_one es t)
behind_written limit es (completed last) h g = (g.0, all_append IsWrittenEffect es last.effects h g.1)
behind_written limit es (broken_off count f) h g = let few = g.0 in (omega (arith, few), g.1)
behind_written limit es stuck_walk h g = tt

abbrev TurnWritten : Turn → Type 0
TurnWritten (all_applied w ss) = IsWrittenWorld w × AllByRecursion IsWrittenStatus ss
TurnWritten (one_failed ss) = AllByRecursion IsWrittenStatus ss
TurnWritten stuck_turn = Unit {0}

turn_behind : (gas : ℕ) (es : List Effect) (t : Turn) → gas ≤ most_gas → AllByRecursion IsWrittenEffect es → TurnWritten t →
    TurnWritten (behind_applied (Applied gas es) t)
turn_behind gas es (all_applied w ss) few h g = (g.0, ((few, h), g.1))
turn_behind gas es (one_failed ss) few h g = (tt, g)
turn_behind gas es stuck_turn few h g = tt

skipped_written : (cs : List Content) → AllByRecursion IsWrittenStatus (map skipped cs)
skipped_written [] = tt
skipped_written (c ∷ cs) = (tt, skipped_written cs)

-- a content that isn't over the limit of gas
pub few_gas : (c : Content) → pos 0 ≤ℤ c.gas → is_over_gas c ≡ false → unsigned_abs c.gas ≤ most_gas
few_gas c h e = by c.gas h e
  where
    by : (n : ℤ) → pos 0 ≤ℤ n → int_lt (pos most_gas) n ≡ false → unsigned_abs n ≤ most_gas
    by n h e = omega (arith, ints, h, e)

module _ (start : World) (s : Setting) (set : IsSetting s) (source : AreBytes s.source) where
  module _ (contents : ℕ) (few : contents ≤ 1000) where
    emitted_written : (limit : ℕ) (waiting : List Waiting) (o : Outcome) (again : World → List Waiting → ℕ → Counts → Walk) →
        AllByRecursion IsWrittenWaiting waiting → Leaves o →
        KeepsGoing start s contents waiting o →
        ((x : World) (ops : List Waiting) (gas : ℕ) (counts : Counts) → IsWrittenWorld x → AllByRecursion IsWrittenWaiting ops →
        IsGoing start s.group contents x ops counts →
        WalkWritten limit (again x ops gas counts)) → WalkWritten (suc limit) (with_emitted o waiting again)
    emitted_written limit waiting (applied a) again w r g h =
        behind_written limit a.effects (again a.world (a.emitted ++ waiting) a.gas a.counts) r.2
        (h a.world (a.emitted ++ waiting) a.gas a.counts r.0 (all_append IsWrittenWaiting a.emitted waiting r.1 w) g)
    emitted_written limit waiting (failed f) again w r g h = (omega arith, r)
    emitted_written limit waiting stuck again w r g h = tt

    within_written : (limit : ℕ) (w : World) (waiting : List Waiting) (gas : ℕ) (counts : Counts) → IsWrittenWorld w →
        AllByRecursion IsWrittenWaiting waiting →
        IsGoing start s.group contents w waiting counts → WalkWritten limit (tree_within limit s w waiting gas counts)
    within_written zero w [] gas counts h v g = (h, tt)
    within_written (suc limit) w [] gas counts h v g = (h, tt)
    within_written zero w (op ∷ waiting) gas counts h v g = (omega arith, tt)
    within_written (suc limit) w (op ∷ waiting) gas counts h v g =
        emitted_written limit waiting (apply s w op gas counts) (tree_within limit s) v.1
        (leaves_apply start s set source contents few w h waiting counts op gas v.0 g)
        (apply_keeps start s set contents few w op waiting gas counts g)
        (λ x ops gas counts h v g. within_written limit x ops gas counts h v g)

    after_tree : (gas : ℕ) (t : Walk) (rest : List Content) (again : World → Counts → Turn) → gas ≤ most_gas →
        KeepsWalk start s set contents few t → WalkWritten gas t →
        ((x : World) (counts : Counts) → IsWrittenWorld x → IsGoing start s.group contents x [] counts → TurnWritten (again x counts)) →
        TurnWritten (with_tree gas t rest again)
    after_tree gas (completed last) rest again n g r h =
        let less : gas - last.gas ≤ most_gas = omega (arith, n) in
        turn_behind (gas - last.gas) last.effects (again last.world last.counts) less r.1 (h last.world last.counts r.0 g)
    after_tree gas (broken_off count f) rest again n g r h = let less = r.0 in ((omega (arith, n, less), r.1), skipped_written rest)
    after_tree gas stuck_walk rest again n g r h = tt

  turn_written : (cs : List Content) (contents : ℕ) (w : World) (counts : Counts) → contents + length cs ≤ 1000 → All IsContent cs →
      AllByRecursion IsWrittenContent cs →
      list_any is_over_gas cs ≡ false → IsWrittenWorld w → IsGoing start s.group contents w [] counts → TurnWritten (in_turn s cs w counts)
  turn_written [] contents w counts few all form over h g = (h, tt)
  turn_written (c ∷ cs) contents w counts few all form over h g =
      let less : suc contents ≤ 1000 = omega arith in
      let no = or_parts (is_over_gas c) (list_any is_over_gas cs) over in
      let content = All-head IsContent c cs all in
      let going = begins start s set contents w c.action counts content.2 g in
      after_tree (suc contents) less (unsigned_abs c.gas) (tree s w (ordered c.action ∷ []) (unsigned_abs c.gas) counts) cs (in_turn s cs)
      (few_gas c content.1 no.0)
      (tree_keeps start s set (suc contents) less w (ordered c.action ∷ []) (unsigned_abs c.gas) counts going)
      (within_written (suc contents) less (unsigned_abs c.gas) w (ordered c.action ∷ []) (unsigned_abs c.gas) counts h (form.0, tt) going)
      (λ x counts h g. turn_written cs (suc contents) x counts (omega arith) (All-tail IsContent c cs all) form.1 no.1 h g)

-- ---- groups

abbrev SettledIs : Option Settled → Type 0
SettledIs (Some s) = IsWrittenWorld s.world × IsWrittenReceipt s.receipt
SettledIs None = Unit {0}

settled_is : (w : World) (t : Turn) → IsWrittenWorld w → TurnWritten t → SettledIs (settled_by w t)
settled_is w (all_applied x ss) i h = h
settled_is w (one_failed ss) i h = (i, h)
settled_is w stuck_turn i h = tt

pub within_gas : (w : World) (source : List ℕ) (cs : List Content) → refusal_of w source cs ≡ None → list_any is_over_gas cs ≡ false
within_gas w source cs e =
    by (not (is_some (account_at w source))) (list_any is_over_gas cs) (nat_lt (balance_or_none w (implicit_place source)) (all_fees cs))
    refl e
  where
    by : (a b c : Bool) → list_any is_over_gas cs ≡ b →
        (if a then Some UnknownSource else if b then Some GasTooHigh else if c then Some FeeTooHigh else None) ≡ None →
        list_any is_over_gas cs ≡ false
    by true b c i e = absurd cc
    by false true c i e = absurd cc
    by false false c i e = i

unless_written : (o : Option GroupFault) (prices : Listed) (number : ℕ) (source : List ℕ) (cs : List Content) (w : World) →
    IsGroup prices number source cs w → AreBytes source →
    AllByRecursion IsWrittenContent cs → IsWrittenWorld w → refusal_of w source cs ≡ o →
    SettledIs (unless_refused o prices number source cs w)
unless_written (Some why) prices number source cs w g b forms h e = (h, tt)
unless_written None prices number source cs w g b forms h e =
    let after = fee_written w (implicit_place source) (all_fees cs) h (implicit_bytes source b) in
    settled_is (fees_taken w source cs) (in_turn (setting_of prices number source) cs (fees_taken w source cs) no_counts) after
    (turn_written w (setting_of prices number source) (setting prices number source cs w g) b cs 0 (fees_taken w source cs) no_counts
    (let few = g.few in omega arith) g.forms forms
    (within_gas w source cs e) after (fees_going prices number source cs w g (fees_there w source cs e)))

pub group_written : (prices : Listed) (number : ℕ) (source : List ℕ) (contents : List Content) (w : World) (settled : Settled) →
    IsGroup prices number source contents w → AreBytes source →
    AllByRecursion IsWrittenContent contents → IsWrittenWorld w → group prices number source contents w ≡ Some settled →
    IsWrittenWorld settled.world × IsWrittenReceipt settled.receipt
group_written prices number source contents w settled g b forms h e =
    subst SettledIs e (unless_written (refusal_of w source contents) prices number source contents w g b forms h refl)
