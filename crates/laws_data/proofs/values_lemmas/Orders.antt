-- Tests and orders, taken apart.
use Rattle.std.proofs.Common.{◌≡◌, refl, true, false, ◌&&◌, Bool}
use Rattle.std.specs.declared.cmp.Ordering.{Ordering}
use Rattle.std.specs.declared.cmp.Ordering.TheVariants.{Less, Equal, Greater}
use Rattle.std.specs.Ordering.{ordering_then}
use Rattle.rules_data.specs.values.Order.{truth_order}

pub same_truth : (b c : Bool) → truth_order b c ≡ Equal → b ≡ c
same_truth false false e = refl
same_truth false true e = cc
same_truth true false e = cc
same_truth true true e = refl

pub first_equal : (o p : Ordering) → ordering_then o p ≡ Equal → o ≡ Equal
first_equal Less p e = cc
first_equal Equal p e = refl
first_equal Greater p e = cc

pub then_equal : (o p : Ordering) → ordering_then o p ≡ Equal → p ≡ Equal
then_equal Less p e = cc
then_equal Equal p e = e
then_equal Greater p e = cc

pub first_true : (b c : Bool) → (b && c) ≡ true → b ≡ true
first_true true c h = refl
first_true false c h = h

pub then_true : (b c : Bool) → (b && c) ≡ true → c ≡ true
then_true true c h = h
then_true false c h = cc
