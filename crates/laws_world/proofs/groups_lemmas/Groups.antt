-- Groups come to an end, keep good worlds good, and conserve mutez and tickets.
use Rattle.std.proofs.Common.{◌≡◌, ◌≤◌, ℕ, List, [], take, Bool, true, false, Some, None, refl, sym, ap, ◌∙◌, subst, ℤ, pos, ◌+ℤ◌, arith, is_some, IsSome}
use Rattle.std.specs.Prelude.{if◌then◌else◌, nat_lt, not}
use Rattle.std.specs.declared.option.Option.{Option}
use Rattle.std.specs.Int.{w64, to_be_bytes}
use Rattle.std.specs.Ordering.{nat_cmp}
use Rattle.std.specs.Cmp.Lexicographic.{slice_cmp}
use Rattle.std.specs.BTreeMap.{is_at}
use Rattle.std.specs.List.{list_any}
use Rattle.std.proofs.lemmas.Bool.{ltb-false}
use Rattle.std.proofs.lemmas.Int.{ints}
use Rattle.std.proofs.lemmas.List.Elements.{All-nil}
use Rattle.rules_data.specs.forms.Spelling.{implicit_place, is_implicit}
use Rattle.rules_data.specs.gas.Prices.{Listed}
use Rattle.rules_code.specs.evaluation.Surroundings.{Contract}
use Rattle.rules_code.specs.evaluation.Operations.{new_contract}
use Rattle.rules_world.specs.world.World.{World, account_at, contract_at}
use Rattle.rules_world.specs.world.Balances.{supply, balance_or_none}
use Rattle.rules_world.specs.world.Contents.{Content}
use Rattle.rules_world.specs.world.Holdings.{held}
use Rattle.rules_world.specs.world.Outcomes.{no_counts}
use Rattle.rules_world.specs.world.Receipts.{GroupFault, UnknownSource, GasTooHigh, FeeTooHigh}
use Rattle.rules_world.specs.world.Groups.{all_fees, is_over_gas, refusal_of, Turn, all_applied, one_failed, stuck_turn, in_turn, Settled, fees_taken, settled_by, setting_of, admitted, unless_refused, group}
use Rattle.rules_world.specs.world.Good.{IsGood, IsGoodWaiting, IsNewGroup}
use Rattle.rules_world.specs.world.Laws.{IsGroup, GroupsSettle, GroupsKeepGood, GroupsConserveMutez, TicketsBalance}
use Rattle.laws_world.specs.runs.Going.{IsSetting, IsKept, IsGoing}
use Rattle.laws_world.proofs.accounts.ForCallers.{all_found, IsOwner, fees_conserve}
use Rattle.laws_world.proofs.runs.ForCallers.{in_order, fee_moves, orderly_of, sound_again, minted_again, kept_moved, found_same}
use Rattle.laws_world.proofs.operations.ForCallers.{take_group}
use Rattle.laws_world.proofs.groups_lemmas.Walks.{KeepsTurn, turn_keeps}

-- a group has made no contract before it begins
new_absent : (number : ℕ) (w : World) → IsNewGroup number w → (i : ℕ) → contract_at w (new_contract number i) ≡ None
new_absent number w new i = by (contract_at w (new_contract number i)) refl
  where
    by : (c : Option Contract) → contract_at w (new_contract number i) ≡ c → c ≡ None
    by None e = refl
    by (Some c) e =
        let f = all_found (is_at (slice_cmp nat_cmp (new_contract number i)))
        (λ c. ¬ (take 8 c.0 ≡ to_be_bytes w64 number)) w.contracts c new e in
        absurd (f.1 (ap (take 8) (sym (found_same (new_contract number i) f.0 f.2)) ∙ take_group number i))

-- what is promised of a group
abbrev KeepsSettled : ℕ → World → Option Settled → Type 0
KeepsSettled number start (Some settled) = IsGood settled.world [] × IsKept number start settled.world
KeepsSettled number start None = ⊥

-- the fees are there, where the group isn't refused
pub fees_there : (w : World) (source : List ℕ) (contents : List Content) → refusal_of w source contents ≡ None →
    all_fees contents ≤ balance_or_none w (implicit_place source)
fees_there w source contents h =
    by (not (is_some (account_at w source))) (list_any is_over_gas contents)
    (nat_lt (balance_or_none w (implicit_place source)) (all_fees contents)) refl h
  where
    by : (a b c : Bool) → nat_lt (balance_or_none w (implicit_place source)) (all_fees contents) ≡ c →
        (if a then Some UnknownSource else if b then Some GasTooHigh else if c then Some FeeTooHigh else None) ≡ None →
        all_fees contents ≤ balance_or_none w (implicit_place source)
    by true b c e h = absurd cc
    by false true c e h = absurd cc
    by false false true e h = absurd cc
    by false false false e h = ltb-false (balance_or_none w (implicit_place source)) (all_fees contents) e

module _ (prices : Listed) (number : ℕ) (source : List ℕ) (contents : List Content) (w : World)
    (g : IsGroup prices number source contents w) where
  pub setting : IsSetting (setting_of prices number source)
  setting = record { costs = g.costs; small = g.small; source = g.key_hash }

  module _ (enough : all_fees contents ≤ balance_or_none w (implicit_place source)) where
    fees_mutez : supply (fees_taken w source contents) ≡ supply w
    fees_mutez =
        let key = g.key_hash in
        let owner : IsOwner w (implicit_place source) (is_implicit (implicit_place source)) = rw key tt in
        fees_conserve w (implicit_place source) (all_fees contents) (in_order w (orderly_of w g.good.sound)) owner enough

    fees_kept : IsKept number w (fees_taken w source contents)
    fees_kept =
        let m = fee_moves w (implicit_place source) (all_fees contents) (orderly_of w g.good.sound) in
        kept_moved number w (fees_taken w source contents) fees_mutez m.granted m.none

    -- the world after the fees is good
    fees_good : IsGood (fees_taken w source contents) []
    fees_good =
        let m = fee_moves w (implicit_place source) (all_fees contents) (orderly_of w g.good.sound) in
        record {
          sound = sound_again w (fees_taken w source contents) g.good.sound m.orderly
              (minted_again w (fees_taken w source contents) g.good.sound m.log) fees_mutez;
          waits = All-nil (IsGoodWaiting (fees_taken w source contents));
          tickets = λ id. rw m.log (ap (λ z. z +ℤ pos 0) (m.held id) ∙ g.good.tickets id);
        }

    pub fees_going : IsGoing w number 0 (fees_taken w source contents) [] no_counts
    fees_going = record {
      good = fees_good;
      operations = omega arith;
      originations = omega arith;
      fresh = record {
        waiting = tt;
        absent = tt;
        later = λ i le small. (fee_moves w (implicit_place source) (all_fees contents) (orderly_of w g.good.sound)).none
            (new_contract number i) (new_absent number w g.new i);
      };
      kept = fees_kept;
    }

    settled_keeps : (t : Turn) → KeepsTurn w (setting_of prices number source) setting t →
        KeepsSettled number w (settled_by (fees_taken w source contents) t)
    settled_keeps (all_applied x statuses) h = h
    settled_keeps (one_failed statuses) h = (fees_good, fees_kept)
    settled_keeps stuck_turn h = h

    admitted_keeps : KeepsSettled number w (admitted (setting_of prices number source) (fees_taken w source contents) contents)
    admitted_keeps =
        settled_keeps (in_turn (setting_of prices number source) contents (fees_taken w source contents) no_counts)
        (turn_keeps w (setting_of prices number source) setting contents 0 (fees_taken w source contents) no_counts
        (let few = g.few in omega arith) g.forms fees_going)

  refused_keeps : (r : Option GroupFault) → refusal_of w source contents ≡ r →
      KeepsSettled number w (unless_refused r prices number source contents w)
  refused_keeps (Some fault) e = (g.good, record { mutez = refl; granted = refl; others = λ hash other h. h })
  refused_keeps None e = admitted_keeps (fees_there w source contents e)

  group_keeps : KeepsSettled number w (group prices number source contents w)
  group_keeps = refused_keeps (refusal_of w source contents) refl

  settles_by : (o : Option Settled) → KeepsSettled number w o → IsSome o
  settles_by (Some settled) k = refl
  settles_by None k = absurd k

  kept_by : (o : Option Settled) (settled : Settled) → KeepsSettled number w o → o ≡ Some settled →
      IsGood settled.world [] × IsKept number w settled.world
  kept_by (Some x) settled k e = let same : x ≡ settled = cc in
      subst (λ (x : Settled). IsGood x.world [] × IsKept number w x.world) same k
  kept_by None settled k e = absurd k

  pub group_settles : IsSome (group prices number source contents w)
  group_settles = settles_by (group prices number source contents w) group_keeps

  pub group_kept : (settled : Settled) → group prices number source contents w ≡ Some settled →
      IsGood settled.world [] × IsKept number w settled.world
  group_kept settled e = kept_by (group prices number source contents w) settled group_keeps e

-- ---- the laws

pub groups_settle : GroupsSettle
groups_settle prices number source contents w g = group_settles prices number source contents w g

pub groups_keep_good : GroupsKeepGood
groups_keep_good prices number source contents w settled g e = (group_kept prices number source contents w g settled e).0

pub groups_conserve_mutez : GroupsConserveMutez
groups_conserve_mutez prices number source contents w settled g e =
    (group_kept prices number source contents w g settled e).1.mutez

none_waiting : (h b : ℤ) → h +ℤ pos 0 ≡ b → h ≡ b
none_waiting h b e = omega (arith, ints, e)

pub tickets_balance : TicketsBalance
tickets_balance prices number source contents w settled g e id =
    none_waiting (held settled.world id) _ ((group_kept prices number source contents w g settled e).0.tickets id)
