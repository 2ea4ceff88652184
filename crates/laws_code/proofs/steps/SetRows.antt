-- Sets with an element and without one.
use Rattle.std.proofs.Common.{◌≡◌, Bool, true, false, refl, ap, ◌∙◌}
use Rattle.std.specs.Prelude.{if◌then◌else◌}
use Rattle.std.specs.declared.cmp.Ordering.{Ordering}
use Rattle.std.specs.declared.cmp.Ordering.TheVariants.{Less, Equal, Greater}
use Rattle.std.specs.Ordering.{match_ordering, is_eq, ordering_reverse}
use Rattle.rules_data.specs.types.Kind.{Kind}
use Rattle.rules_data.specs.types.Kind as k
use Rattle.rules_data.specs.values.Val.{Val, Vals, no_val, more_vals}
use Rattle.rules_data.specs.values.Val as v
use Rattle.rules_data.specs.values.Order.{order}
use Rattle.rules_data.specs.values.Forms.{AllHave}
use Rattle.rules_data.specs.values.Tables.{AreAbove, AreIncreasing}
use Rattle.rules_code.specs.steps.Sets.{with_element, without_element}
use Rattle.rules_code.specs.steps.Collections.{set_with}
use Rattle.rules_code.specs.typing.Fits.{Known, Fits}
use Rattle.laws_data.proofs.values_lemmas.ForCallers.{order_lawful}

-- ---- sets

pub above_above : (x y : Val) (ys : Vals) → order x y ≡ Less → AreAbove y ys → AreAbove x ys
above_above x y no_val h a = tt
above_above x y (more_vals z zs) h a = (order_lawful.trans x y z h a.0, above_above x y zs h a.1)

pub back : (x y : Val) → order x y ≡ Greater → order y x ≡ Less
back x y h = order_lawful.antisymm y x ∙ ap ordering_reverse h

pub stays_above : (y x : Val) (ys : Vals) → order y x ≡ Less → AreAbove y ys → AreAbove y (with_element x ys)
stays_above y x no_val h a = (h, tt)
stays_above y x (more_vals z zs) h a = by_case (order x z) (stays_above y x zs h a.1)
  where
    by_case : (o : Ordering) → AreAbove y (with_element x zs) →
        AreAbove y (match_ordering o (more_vals x (more_vals z zs)) (more_vals z zs) (more_vals z (with_element x zs)))
    by_case Less later = (h, a)
    by_case Equal later = a
    by_case Greater later = (a.0, later)

pub with_increases : (x : Val) (ys : Vals) → AreIncreasing ys → AreIncreasing (with_element x ys)
with_increases x no_val h = (tt, tt)
with_increases x (more_vals y ys) h = by_case (order x y) refl (with_increases x ys h.1)
  where
    by_case : (o : Ordering) → order x y ≡ o → AreIncreasing (with_element x ys) →
        AreIncreasing (match_ordering o (more_vals x (more_vals y ys)) (more_vals y ys) (more_vals y (with_element x ys)))
    by_case Less e later = ((e, above_above x y ys e h.0), h)
    by_case Equal e later = h
    by_case Greater e later = (stays_above y x ys (back x y e) h.0, later)

pub without_above : (y x : Val) (ys : Vals) → AreAbove y ys → AreAbove y (without_element x ys)
without_above y x no_val a = tt
without_above y x (more_vals z zs) a = by_case (is_eq (order x z)) (without_above y x zs a.1)
  where
    by_case : (b : Bool) → AreAbove y (without_element x zs) → AreAbove y (if b then zs else more_vals z (without_element x zs))
    by_case true later = a.1
    by_case false later = (a.0, later)

pub without_increases : (x : Val) (ys : Vals) → AreIncreasing ys → AreIncreasing (without_element x ys)
without_increases x no_val h = tt
without_increases x (more_vals y ys) h = by_case (is_eq (order x y)) (without_increases x ys h.1)
  where
    by_case : (b : Bool) → AreIncreasing (without_element x ys) →
        AreIncreasing (if b then ys else more_vals y (without_element x ys))
    by_case true later = h.1
    by_case false later = (without_above y x ys h.0, later)

module _ (P : Val → Type 0) where
  pub with_all : (x : Val) (ys : Vals) → P x → AllHave P ys → AllHave P (with_element x ys)
  with_all x no_val p h = (p, tt)
  with_all x (more_vals y ys) p h = by_case (order x y) (with_all x ys p h.1)
    where
      by_case : (o : Ordering) → AllHave P (with_element x ys) →
          AllHave P (match_ordering o (more_vals x (more_vals y ys)) (more_vals y ys) (more_vals y (with_element x ys)))
      by_case Less later = (p, h)
      by_case Equal later = h
      by_case Greater later = (h.0, later)

  pub without_all : (x : Val) (ys : Vals) → AllHave P ys → AllHave P (without_element x ys)
  without_all x no_val h = tt
  without_all x (more_vals y ys) h = by_case (is_eq (order x y)) (without_all x ys h.1)
    where
      by_case : (b : Bool) → AllHave P (without_element x ys) → AllHave P (if b then ys else more_vals y (without_element x ys))
      by_case true later = h.1
      by_case false later = (h.0, later)

pub set_fits : (w : Known) (a : Kind) (b : Bool) (x : Val) (xs : Vals) → Fits w a x → Fits w (k.set a) (v.set xs) →
    Fits w (k.set a) (v.set (set_with b x xs))
set_fits w a true x xs f h = (with_all (Fits w a) x xs f h.0, with_increases x xs h.1)
set_fits w a false x xs f h = (without_all (Fits w a) x xs h.0, without_increases x xs h.1)
