-- What values weigh, however big maps are seen.
use Rattle.std.proofs.Common.{◌≡◌, ◌+◌, List, [], ◌∷◌, map, refl, sym, ap, ◌∙◌, subst}
use Rattle.rules_data.specs.values.Val.{Val}
use Rattle.rules_data.specs.values.Weight.{weight, weights, pair_weights}
use Rattle.mich_term.specs.Weights.{capped}
use Rattle.mich_term.specs.View.{datum, vals_of, pairs_of}
use Rattle.mich_term.specs.ValueView.{val, value_step, big_step, big_pairs}
use Rattle.mich_term.specs.declared.datum.Datum.{Datum}
use Rattle.mich_term.specs.declared.value.Value.{Value, roll-Value, ind-Value, fold-roll-Value, map-Value}
use Rattle.mich_term.specs.declared.value.Value.TheOpen.{Value-F}
use Rattle.mich_term.specs.declared.value.BigMap.{BigMap, fold-BigMap}
use Rattle.rules_data.specs.values.Val.{Pairs}
use Rattle.mich_stack.specs.Views.{Sight, seen}

-- ---- a big map weighs 1, however it is seen

module _ (big : Sight) where
  abbrev Same : Value → Type 0
  Same x = weight (seen big x) ≡ weight (val x)

  abbrev SameBig : BigMap → Type 0
  SameBig b = Unit {0}

  abbrev Held : Type 0
  Held = (x : Value) × Same x

  abbrev HeldBig : Type 0
  HeldBig = (x : BigMap) × SameBig x

  abbrev lowered : Value-F Held HeldBig → Value-F Value BigMap
  lowered z = map-Value Held HeldBig Value BigMap (λ p. p.0) (λ p. p.0) z

  abbrev lower_entry : Datum × Held → Datum × Value
  lower_entry p = (p.0, p.1.0)

  -- one level by one sight, and by the other
  one : (l : Value-F Value BigMap) → weight (seen big (roll-Value l)) ≡ weight (value_step (map-Value Value BigMap Val Pairs (seen big) (fold-BigMap Val Pairs value_step big) l))
  one l = ap weight (fold-roll-Value Val Pairs value_step big l)

  other : (l : Value-F Value BigMap) → weight (val (roll-Value l)) ≡ weight (value_step (map-Value Value BigMap Val Pairs val big_pairs l))
  other l = ap weight (fold-roll-Value Val Pairs value_step big_step l)

  same_list : (zs : List Held) → weights (vals_of (map (seen big) (map (λ p. p.0) zs))) ≡ weights (vals_of (map val (map (λ p. p.0) zs)))
  same_list [] = refl
  same_list (z ∷ zs) = λ i. z.1 i + same_list zs i

  same_entries : (zs : List (Datum × Held)) → pair_weights (pairs_of (map (λ p. (p.0, seen big p.1)) (map lower_entry zs))) ≡ pair_weights (pairs_of (map (λ p. (p.0, val p.1)) (map lower_entry zs)))
  same_entries [] = refl
  same_entries (z ∷ zs) = λ i. weight (datum z.0) + z.1.1 i + same_entries zs i

  same_level : (z : Value-F Held HeldBig) → Same (roll-Value (lowered z))
  same_level Value-F.Unit = one Value-F.Unit ∙ sym (other Value-F.Unit)
  same_level (Value-F.Bool b) = one (Value-F.Bool b) ∙ sym (other (Value-F.Bool b))
  same_level (Value-F.Number n) = one (Value-F.Number n) ∙ sym (other (Value-F.Number n))
  same_level (Value-F.Text s) = one (Value-F.Text s) ∙ sym (other (Value-F.Text s))
  same_level (Value-F.Bytes s) = one (Value-F.Bytes s) ∙ sym (other (Value-F.Bytes s))
  same_level Value-F.None = one Value-F.None ∙ sym (other Value-F.None)
  same_level (Value-F.Some a) = one (Value-F.Some a.0) ∙ ap (λ n. n + 1) a.1 ∙ sym (other (Value-F.Some a.0))
  same_level (Value-F.Left a) = one (Value-F.Left a.0) ∙ ap (λ n. n + 1) a.1 ∙ sym (other (Value-F.Left a.0))
  same_level (Value-F.Right a) = one (Value-F.Right a.0) ∙ ap (λ n. n + 1) a.1 ∙ sym (other (Value-F.Right a.0))
  same_level (Value-F.Pair a b) = one (Value-F.Pair a.0 b.0) ∙ (λ i. a.1 i + b.1 i + 1) ∙ sym (other (Value-F.Pair a.0 b.0))
  same_level (Value-F.List zs) = one (lowered (Value-F.List zs)) ∙ ap (λ n. n + 1) (same_list zs) ∙ sym (other (lowered (Value-F.List zs)))
  same_level (Value-F.Set ds) = one (Value-F.Set ds) ∙ sym (other (Value-F.Set ds))
  same_level (Value-F.Map zs) = one (lowered (Value-F.Map zs)) ∙ ap (λ n. n + 1) (same_entries zs) ∙ sym (other (lowered (Value-F.Map zs)))
  same_level (Value-F.BigMap b) = one (lowered (Value-F.BigMap b)) ∙ sym (other (lowered (Value-F.BigMap b)))
  same_level (Value-F.Lambda n r) = one (Value-F.Lambda n r) ∙ sym (other (Value-F.Lambda n r))
  same_level (Value-F.Operation n) = one (Value-F.Operation n) ∙ sym (other (Value-F.Operation n))
  same_level (Value-F.Ticket t) = one (Value-F.Ticket t) ∙ sym (other (Value-F.Ticket t))

  pub weight_seen : (x : Value) → weight (seen big x) ≡ weight (val x)
  weight_seen = ind-Value Same SameBig (λ x y is. subst (λ z. Same (roll-Value z)) is (same_level y)) (λ x y is. tt)

-- ---- what is found

pub found_weighs : (big : Sight) (x : Value) → capped (weight (val x)) ≡ capped (weight (seen big x))
found_weighs big x = ap capped (sym (weight_seen big x))
