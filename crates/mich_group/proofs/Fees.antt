-- Groups whose fees were taken, and groups that are settled.
use Rattle.std.proofs.Common.{◌≡◌, ◌≤◌, ◌<◌, ℕ, List, [], Bool, true, false, None, Some, refl, sym, ap, ◌∙◌, subst, arith, is_some, option_map}
use Rattle.std.specs.Prelude.{IfOk, Result, Ok, Err, nat_lt, not, unwrap_or, if◌then◌else◌}
use Rattle.std.specs.declared.option.Option.{Option}
use Rattle.std.specs.List.{list_any}
use Rattle.std.proofs.lemmas.Bool.Decides.{nat_tests}
use Rattle.rules_data.specs.forms.Spelling.{implicit_place, is_implicit, is_key_hash, is_place}
use Rattle.rules_data.specs.gas.Prices.{Listed}
use Rattle.rules_world.specs.world.Balances as rules
use Rattle.rules_world.specs.world.Contents.{Content}
use Rattle.rules_world.specs.world.Groups.{all_fees, is_over_gas, refusal_of, fees_taken, setting_of, settled_by, group, unless_refused, admitted, in_turn}
use Rattle.rules_world.specs.world.Laws.{IsGroup}
use Rattle.rules_world.specs.world.Outcomes.{no_counts, Setting}
use Rattle.rules_world.specs.world.Receipts.{GroupFault, UnknownSource, GasTooHigh, FeeTooHigh, Refused, Done}
use Rattle.rules_world.specs.world.World.{World as PlainWorld, account_at, Account}
use Rattle.mich_forms.specs.declared.places.Place.TheVariants as place
use Rattle.laws_world.proofs.groups_lemmas.ForCallers.{setting, fees_going, fees_there}
use Rattle.mich_group.specs.Settled.{IsSettled}
use Rattle.mich_group.specs.Trees.{Goes}
use Rattle.mich_group.specs.Turns.{AreBroken}
use Rattle.mich_ops.specs.Told as t
use Rattle.mich_ops.specs.View.{fault}
use Rattle.mich_ops.specs.declared.receipt.GroupFault.{GroupFault as Why}
use Rattle.mich_ops.specs.declared.receipt.GroupReceipt.TheVariants as receipt
use Rattle.mich_ops.specs.declared.receipt.Status.{Status as Said}
use Rattle.mich_world.specs.Holders.{balance_at, fee_taken}
use Rattle.mich_world.specs.Standing.{StandsFor}
use Rattle.mich_world.specs.World.{World, with_funds}
use Rattle.mich_world.proofs.ForCallers.{balance_is, fees_agree}

-- ---- refusals

-- the tests of a group
abbrev refused : Bool → Bool → Bool → Option GroupFault
refused a b c = if not a then Some UnknownSource else if b then Some GasTooHigh else if c then Some FeeTooHigh else None

or_false : (b : Bool) → Rattle.std.specs.Prelude.◌||◌ b false ≡ true → b ≡ true
or_false true h = refl
or_false false h = h

module _ (v : World) (w : PlainWorld) (source : List ℕ) (contents : List Content) (s : StandsFor v w) (p : is_place (implicit_place source) ≡ true) where
  here : is_implicit (implicit_place source) ≡ true
  here = or_false (is_implicit (implicit_place source)) p

  balance_same : balance_at v.funds.present (place.Implicit source) ≡ rules.balance_at w (implicit_place source)
  balance_same = balance_is v.funds.present v.store.bases.present v.ledger.books.present w (place.Implicit source) s.those p

  found_same : is_some (balance_at v.funds.present (place.Implicit source)) ≡ is_some (account_at w source)
  found_same =
      ap is_some balance_same
      ∙ ap (λ (b : Bool). is_some (if b then option_map (λ (a : Account). a.balance) (account_at w source) else option_map (λ (c : Rattle.rules_code.specs.evaluation.Surroundings.Contract). c.balance) (Rattle.rules_world.specs.world.World.contract_at w (Rattle.rules_code.specs.evaluation.Contracts.hash_in (implicit_place source))))) here
      ∙ by (account_at w source)
    where
      by : (o : Option Account) → is_some (option_map (λ (a : Account). a.balance) o) ≡ is_some o
      by None = refl
      by (Some a) = refl

  by_tests : (a b c : Bool) → is_some (balance_at v.funds.present (place.Implicit source)) ≡ a → list_any is_over_gas contents ≡ b →
      nat_lt (unwrap_or (balance_at v.funds.present (place.Implicit source)) 0) (all_fees contents) ≡ c → refusal_of w source contents ≡ refused a b c
  by_tests a b c e f g = λ i. refused ((sym found_same ∙ e) i) (f i) ((ap (λ (o : Option ℕ). nat_lt (unwrap_or o 0) (all_fees contents)) (sym balance_same) ∙ g) i)

  pub unknown : balance_at v.funds.present (place.Implicit source) ≡ None → refusal_of w source contents ≡ Some UnknownSource
  unknown e = by_tests false _ _ (ap is_some e) refl refl

  pub too_high : (n : ℕ) → balance_at v.funds.present (place.Implicit source) ≡ Some n → list_any is_over_gas contents ≡ true → refusal_of w source contents ≡ Some GasTooHigh
  too_high n e f = by_tests true true _ (ap is_some e) f refl

  pub too_poor : (n : ℕ) → balance_at v.funds.present (place.Implicit source) ≡ Some n → list_any is_over_gas contents ≡ false → n < all_fees contents → refusal_of w source contents ≡ Some FeeTooHigh
  too_poor n e f less = by_tests true false true (ap is_some e) f (ap (λ (o : Option ℕ). nat_lt (unwrap_or o 0) (all_fees contents)) e ∙ grind (arith, nat_tests))

  pub not_refused : (n : ℕ) → balance_at v.funds.present (place.Implicit source) ≡ Some n → list_any is_over_gas contents ≡ false → all_fees contents ≤ n → refusal_of w source contents ≡ None
  not_refused n e f enough = by_tests true false false (ap is_some e) f (ap (λ (o : Option ℕ). nat_lt (unwrap_or o 0) (all_fees contents)) e ∙ grind (arith, nat_tests))

pub is_there : (source : List ℕ) → is_key_hash source ≡ true → is_place (implicit_place source) ≡ true
is_there source h = ap (λ (b : Bool). Rattle.std.specs.Prelude.◌||◌ b false) h

-- ---- fees

pub fees_went : (u v : World) (w : PlainWorld) (prices : Listed) (number : ℕ) (source : List ℕ) (contents : List Content) (fees : ℕ) → StandsFor u w → IsGroup prices number source contents w →
    refusal_of w source contents ≡ None → fees ≡ all_fees contents → v ≡ with_funds u v.funds → v.funds.present ≡ fee_taken u.funds.present source fees →
    Goes w (setting_of prices number source) 0 v (fees_taken w source contents) [] no_counts
fees_went u v w prices number source contents fees s g n e o m = record {
  few = omega arith;
  setting = setting prices number source contents w g;
  stands = subst (λ (k : ℕ). StandsFor v (rules.fee_taken w (implicit_place source) k)) e
      (fees_agree u v w source fees s g.good.sound.form (rw g.key_hash refl) o m);
  going = fees_going prices number source contents w g (fees_there w source contents n);
}

-- ---- receipts

pub settled_broken : (s : Setting) (after : PlainWorld) (contents : List Content) (v : World) (ss : List Said) → StandsFor v after → AreBroken (in_turn s contents after no_counts) ss → IsSettled (admitted s after contents) v (receipt.Done ss)
settled_broken s after contents v ss h a = record {
  settled = record { receipt = Done a.done; world = after };
  same = ap (settled_by after) a.same;
  told = ap t.Done a.statuses;
  stands = h;
}

pub settled_refused : (prices : Listed) (number : ℕ) (source : List ℕ) (contents : List Content) (v : World) (w : PlainWorld) (f : Why) → StandsFor v w → refusal_of w source contents ≡ Some (fault f) →
    IsSettled (group prices number source contents w) v (receipt.Refused f)
settled_refused prices number source contents v w f h e = record {
  settled = record { receipt = Refused (fault f); world = w };
  same = ap (λ r. unless_refused r prices number source contents w) e;
  told = refl;
  stands = h;
}

pub settled_admitted : (prices : Listed) (number : ℕ) (source : List ℕ) (contents : List Content) (v : World) (w : PlainWorld) (r : Rattle.mich_ops.specs.declared.receipt.GroupReceipt.GroupReceipt) → refusal_of w source contents ≡ None →
    IsSettled (admitted (setting_of prices number source) (fees_taken w source contents) contents) v r → IsSettled (group prices number source contents w) v r
settled_admitted prices number source contents v w r e h = record {
  settled = h.settled;
  same = ap (λ r. unless_refused r prices number source contents w) e ∙ h.same;
  told = h.told;
  stands = h.stands;
}

pub settled_ended : (U : Type 0) (prices : Listed) (number : ℕ) (source : List ℕ) (contents : List Content) (v : World) (w : PlainWorld)
    (r : Result Rattle.mich_ops.specs.declared.receipt.GroupReceipt.GroupReceipt U) → refusal_of w source contents ≡ None →
    IfOk r (IsSettled (admitted (setting_of prices number source) (fees_taken w source contents) contents) v) → IfOk r (IsSettled (group prices number source contents w) v)
settled_ended U prices number source contents v w (Ok x) e h = settled_admitted prices number source contents v w x e h
settled_ended U prices number source contents v w (Err x) e h = h
