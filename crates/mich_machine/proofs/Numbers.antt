-- The numbers that a list of operations holds.
use Rattle.std.proofs.Common.{◌≡◌, ℕ, List, ◌∷◌, map, Some, None, refl, sym, ap, ◌∙◌, subst}
use Rattle.std.specs.declared.option.Option.{Option}
use Rattle.rules_data.specs.values.Val.{Val, Pairs, operation, more_vals}
use Rattle.rules_world.specs.world.Runs.{operation_number, with_number, numbers_in}
use Rattle.mich_ops.specs.declared.issued.Issued.{Issued}
use Rattle.mich_stack.specs.Views.{Sight, seen}
use Rattle.mich_term.specs.View.{vals_of}
use Rattle.mich_term.specs.ValueView.{value_step}
use Rattle.mich_term.specs.declared.value.BigMap.{BigMap}
use Rattle.mich_term.specs.declared.value.Value.{Value, roll-Value, out-Value, roll-out-Value, fold-roll-Value, map-Value}
use Rattle.mich_term.specs.declared.value.Value.TheOpen.{Value-F}
use Rattle.mich_term.specs.declared.value.Value.TheVariants as v
use Rattle.mich_term.specs.declared.value.Value.TheVariants.{rolls-Operation}
use Rattle.mich_store_steps.proofs.seen.ForCallers.{big_seen}
use Rattle.mich_machine.specs.Returned.{Numbered, Pick}
use Rattle.mich_machine.proofs.Picking.{IsOnWay}

operation_is : (big : Sight) (x : Value) (n : ℕ) → operation_number (seen big x) ≡ Some n → x ≡ v.Operation n
operation_is big x n h =
    by (out-Value x) (roll-out-Value x)
    (ap operation_number (sym (fold-roll-Value Val Pairs value_step big (out-Value x)) ∙ ap (seen big) (roll-out-Value x)) ∙ h)
  where
    by : (l : Value-F Value BigMap) → roll-Value l ≡ x → operation_number (value_step (map-Value Value BigMap Val Pairs (seen big) (big_seen big) l)) ≡ Some n → x ≡ v.Operation n
    by (Value-F.Operation m) e g = let same : m ≡ n = cc in sym e ∙ ap (λ k. roll-Value (Value-F.Operation k)) same ∙ rolls-Operation n
    by _ e g = absurd cc

seen_operation : (big : Sight) (n : ℕ) → seen big (v.Operation n) ≡ operation n
seen_operation big n = ap (seen big) (sym (rolls-Operation n)) ∙ fold-roll-Value Val Pairs value_step big (Value-F.Operation n)

module _ (big : Sight) (iter rest : List Value) (x : Value) (o : Option Pick) (xs : List Issued) (q : Numbered) (first : iter ≡ x ∷ rest)
    (way : IsOnWay o (vals_of (map (seen big) iter)) xs q) where
  pub first_operation : (n : ℕ) × (x ≡ v.Operation n)
  first_operation =
      by (operation_number (seen big x)) refl (numbers_in (vals_of (map (seen big) rest)))
      (ap (λ (l : List Value). numbers_in (vals_of (map (seen big) l))) (sym first) ∙ way.are)
    where
      by : (a : Option ℕ) → operation_number (seen big x) ≡ a → (b : Option (List ℕ)) → with_number a b ≡ Some way.numbers → (n : ℕ) × (x ≡ v.Operation n)
      by (Some n) e b g = (n, operation_is big x n e)
      by None e b g = absurd cc

  pub next_way : (n : ℕ) → x ≡ v.Operation n → IsOnWay o (more_vals (operation n) (vals_of (map (seen big) rest))) xs q
  next_way n is =
      subst (λ (z : Val). IsOnWay o (more_vals z (vals_of (map (seen big) rest))) xs q) (ap (seen big) is ∙ seen_operation big n)
      (subst (λ (l : List Value). IsOnWay o (vals_of (map (seen big) l)) xs q) first way)

pub none_is : (o p : Option Issued) → o ≡ p → ((x : Issued) → o ≡ Some x → ⊥) → None ≡ p
none_is None p e h = e
none_is (Some x) p e h = absurd (h x refl)
