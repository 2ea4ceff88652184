-- A comparable value stands for the same however big maps are seen.
use Rattle.std.proofs.Common.{◌≡◌, Bool, true, false, refl, sym, ap, ◌∙◌, subst}
use Rattle.std.specs.Prelude.{◌&&◌}
use Rattle.rules_data.specs.values.Val.{Val, Pairs, some, left, right, both, is_comparable}
use Rattle.mich_term.specs.ValueView.{val, value_step, big_step}
use Rattle.mich_term.specs.declared.value.Value.{Value, roll-Value, ind-Value, fold-roll-Value, map-Value}
use Rattle.mich_term.specs.declared.value.Value.TheOpen.{Value-F}
use Rattle.mich_term.specs.declared.value.Value.TheFolds.{fold-BigMap}
use Rattle.mich_term.specs.declared.value.BigMap.{BigMap}
use Rattle.mich_stack.specs.Views.{Sight, seen}

both_true : (b c : Bool) → (b && c) ≡ true → (b ≡ true) × (c ≡ true)
both_true true c h = (refl, h)
both_true false c h = cc

module _ (big : Sight) where
  abbrev Same : Value → Type 0
  Same v = is_comparable (val v) ≡ true → seen big v ≡ val v

  abbrev AnyBig : BigMap → Type 0
  AnyBig b = Unit {0}

  abbrev With : Type 0
  With = (x : Value) × Same x

  abbrev WithBig : Type 0
  WithBig = (x : BigMap) × AnyBig x

  abbrev lowered : Value-F With WithBig → Value-F Value BigMap
  lowered z = map-Value With WithBig Value BigMap (λ p. p.0) (λ p. p.0) z

  -- one level
  abbrev stepped : Sight → Value-F Value BigMap → Val
  stepped h l = value_step (map-Value Value BigMap Val Pairs (seen h) (fold-BigMap Val Pairs value_step h) l)

  by_level : (l : Value-F Value BigMap) → (is_comparable (stepped big_step l) ≡ true → stepped big l ≡ stepped big_step l) → Same (roll-Value l)
  by_level l same h =
      let plain : val (roll-Value l) ≡ stepped big_step l = fold-roll-Value Val Pairs value_step big_step l in
      fold-roll-Value Val Pairs value_step big l ∙ same (subst (λ v. is_comparable v ≡ true) plain h) ∙ sym plain

  level : (z : Value-F With WithBig) → Same (roll-Value (lowered z))
  level Value-F.Unit = by_level Value-F.Unit (λ h. refl)
  level (Value-F.Bool b) = by_level (Value-F.Bool b) (λ h. refl)
  level (Value-F.Number n) = by_level (Value-F.Number n) (λ h. refl)
  level (Value-F.Text s) = by_level (Value-F.Text s) (λ h. refl)
  level (Value-F.Bytes s) = by_level (Value-F.Bytes s) (λ h. refl)
  level Value-F.None = by_level Value-F.None (λ h. refl)
  level (Value-F.Some a) = by_level (Value-F.Some a.0) (λ h. ap some (a.1 h))
  level (Value-F.Left a) = by_level (Value-F.Left a.0) (λ h. ap left (a.1 h))
  level (Value-F.Right a) = by_level (Value-F.Right a.0) (λ h. ap right (a.1 h))
  level (Value-F.Pair a b) = by_level (Value-F.Pair a.0 b.0)
      (λ h. let k = both_true (is_comparable (val a.0)) (is_comparable (val b.0)) h in λ i. both (a.1 k.0 i) (b.1 k.1 i))
  level (Value-F.List zs) = by_level (lowered (Value-F.List zs)) (λ (h : false ≡ true). cc)
  level (Value-F.Set ds) = by_level (Value-F.Set ds) (λ h. refl)
  level (Value-F.Map zs) = by_level (lowered (Value-F.Map zs)) (λ (h : false ≡ true). cc)
  level (Value-F.BigMap a) = by_level (Value-F.BigMap a.0) (λ (h : false ≡ true). cc)
  level (Value-F.Lambda n r) = by_level (Value-F.Lambda n r) (λ h. refl)
  level (Value-F.Operation n) = by_level (Value-F.Operation n) (λ h. refl)
  level (Value-F.Ticket t) = by_level (Value-F.Ticket t) (λ h. refl)

  pub comparable_seen : (v : Value) → is_comparable (val v) ≡ true → seen big v ≡ val v
  comparable_seen = ind-Value Same AnyBig (λ x y is. subst (λ z. Same (roll-Value z)) is (level y)) (λ x y is. tt)
