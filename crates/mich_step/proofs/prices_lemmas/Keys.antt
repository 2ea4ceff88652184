-- Whether a value is comparable, however big maps are seen.
use Rattle.std.proofs.Common.{◌≡◌, sym, ap, ◌∙◌, subst}
use Rattle.std.specs.Prelude.{◌&&◌}
use Rattle.rules_data.specs.values.Val.{Val, Pairs, is_comparable}
use Rattle.mich_term.specs.ValueView.{val, value_step, big_step, big_pairs}
use Rattle.mich_term.specs.declared.value.Value.{Value, roll-Value, ind-Value, fold-roll-Value, map-Value}
use Rattle.mich_term.specs.declared.value.Value.TheOpen.{Value-F}
use Rattle.mich_term.specs.declared.value.BigMap.{BigMap, fold-BigMap}
use Rattle.mich_stack.specs.Views.{Sight, seen}

module _ (big : Sight) where
  abbrev Same : Value → Type 0
  Same x = is_comparable (seen big x) ≡ is_comparable (val x)

  abbrev SameBig : BigMap → Type 0
  SameBig b = Unit {0}

  abbrev Held : Type 0
  Held = (x : Value) × Same x

  abbrev HeldBig : Type 0
  HeldBig = (x : BigMap) × SameBig x

  abbrev lowered : Value-F Held HeldBig → Value-F Value BigMap
  lowered z = map-Value Held HeldBig Value BigMap (λ p. p.0) (λ p. p.0) z

  -- one level by one sight, and by the other
  one : (l : Value-F Value BigMap) → is_comparable (seen big (roll-Value l)) ≡ is_comparable (value_step (map-Value Value BigMap Val Pairs (seen big) (fold-BigMap Val Pairs value_step big) l))
  one l = ap is_comparable (fold-roll-Value Val Pairs value_step big l)

  other : (l : Value-F Value BigMap) → is_comparable (val (roll-Value l)) ≡ is_comparable (value_step (map-Value Value BigMap Val Pairs val big_pairs l))
  other l = ap is_comparable (fold-roll-Value Val Pairs value_step big_step l)

  same_level : (z : Value-F Held HeldBig) → Same (roll-Value (lowered z))
  same_level Value-F.Unit = one Value-F.Unit ∙ sym (other Value-F.Unit)
  same_level (Value-F.Bool b) = one (Value-F.Bool b) ∙ sym (other (Value-F.Bool b))
  same_level (Value-F.Number n) = one (Value-F.Number n) ∙ sym (other (Value-F.Number n))
  same_level (Value-F.Text s) = one (Value-F.Text s) ∙ sym (other (Value-F.Text s))
  same_level (Value-F.Bytes s) = one (Value-F.Bytes s) ∙ sym (other (Value-F.Bytes s))
  same_level Value-F.None = one Value-F.None ∙ sym (other Value-F.None)
  same_level (Value-F.Some a) = one (Value-F.Some a.0) ∙ a.1 ∙ sym (other (Value-F.Some a.0))
  same_level (Value-F.Left a) = one (Value-F.Left a.0) ∙ a.1 ∙ sym (other (Value-F.Left a.0))
  same_level (Value-F.Right a) = one (Value-F.Right a.0) ∙ a.1 ∙ sym (other (Value-F.Right a.0))
  same_level (Value-F.Pair a b) = one (Value-F.Pair a.0 b.0) ∙ (λ i. a.1 i && b.1 i) ∙ sym (other (Value-F.Pair a.0 b.0))
  same_level (Value-F.List zs) = one (lowered (Value-F.List zs)) ∙ sym (other (lowered (Value-F.List zs)))
  same_level (Value-F.Set ds) = one (Value-F.Set ds) ∙ sym (other (Value-F.Set ds))
  same_level (Value-F.Map zs) = one (lowered (Value-F.Map zs)) ∙ sym (other (lowered (Value-F.Map zs)))
  same_level (Value-F.BigMap b) = one (lowered (Value-F.BigMap b)) ∙ sym (other (lowered (Value-F.BigMap b)))
  same_level (Value-F.Lambda n r) = one (Value-F.Lambda n r) ∙ sym (other (Value-F.Lambda n r))
  same_level (Value-F.Operation n) = one (Value-F.Operation n) ∙ sym (other (Value-F.Operation n))
  same_level (Value-F.Ticket t) = one (Value-F.Ticket t) ∙ sym (other (Value-F.Ticket t))

  pub comparable_alike : (x : Value) → is_comparable (seen big x) ≡ is_comparable (val x)
  comparable_alike = ind-Value Same SameBig (λ x y is. subst (λ z. Same (roll-Value z)) is (same_level y)) (λ x y is. tt)
