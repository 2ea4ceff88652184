-- Values in which there is no big map: they are the same however big maps are seen.
use Rattle.std.proofs.Common.{◌≡◌, true, List, [], ◌∷◌, map, refl, sym, ap, ◌∙◌, subst}
use Rattle.std.proofs.lemmas.Bool.{and_parts}
use Rattle.rules_data.specs.values.Val.{Val, Vals, Pairs, no_val, more_vals, no_pair, more_pairs, is_comparable}
use Rattle.rules_data.specs.values.Val as v
use Rattle.mich_term.specs.View.{datum, vals_of, pairs_of}
use Rattle.mich_term.specs.ValueView.{val, value_step, big_step, big_pairs}
use Rattle.mich_term.specs.declared.datum.Datum.{Datum}
use Rattle.mich_term.proofs.ForCallers.{datum_comparable}
use Rattle.mich_term.specs.declared.value.Value.{Value, roll-Value, ind-Value, fold-roll-Value, map-Value}
use Rattle.mich_term.specs.declared.value.Value.TheOpen.{Value-F}
use Rattle.mich_term.specs.declared.value.BigMap.{BigMap, fold-BigMap}
use Rattle.mich_stack.specs.Views.{Sight, seen}

abbrev mutual
  pub IsFlat : Val → Type 0
  IsFlat (v.some x) = IsFlat x
  IsFlat (v.left x) = IsFlat x
  IsFlat (v.right x) = IsFlat x
  IsFlat (v.both x y) = IsFlat x × IsFlat y
  IsFlat (v.list xs) = AreFlat xs
  IsFlat (v.table es) = HasFlat es
  IsFlat (v.big_table es) = ⊥
  IsFlat x = Unit {0}

  pub AreFlat : Vals → Type 0
  AreFlat no_val = Unit {0}
  AreFlat (more_vals x xs) = IsFlat x × AreFlat xs

  pub HasFlat : Pairs → Type 0
  HasFlat no_pair = Unit {0}
  HasFlat (more_pairs k x es) = IsFlat x × HasFlat es

module _ (big : Sight) where
  abbrev Flats : Value → Type 0
  Flats x = IsFlat (val x) → seen big x ≡ val x

  abbrev FlatsBig : BigMap → Type 0
  FlatsBig b = Unit {0}

  abbrev Held : Type 0
  Held = (x : Value) × Flats x

  abbrev HeldBig : Type 0
  HeldBig = (x : BigMap) × FlatsBig x

  abbrev lowered : Value-F Held HeldBig → Value-F Value BigMap
  lowered z = map-Value Held HeldBig Value BigMap (λ p. p.0) (λ p. p.0) z

  abbrev lower_entry : Datum × Held → Datum × Value
  lower_entry p = (p.0, p.1.0)

  -- one level by one sight, and by the other
  abbrev stepped : Value-F Value BigMap → Val
  stepped l = value_step (map-Value Value BigMap Val Pairs (seen big) (fold-BigMap Val Pairs value_step big) l)

  abbrev plainly : Value-F Value BigMap → Val
  plainly l = value_step (map-Value Value BigMap Val Pairs val big_pairs l)

  one : (l : Value-F Value BigMap) → seen big (roll-Value l) ≡ stepped l
  one l = fold-roll-Value Val Pairs value_step big l

  other : (l : Value-F Value BigMap) → val (roll-Value l) ≡ plainly l
  other l = fold-roll-Value Val Pairs value_step big_step l

  -- what is flat is so at one level
  seen_flat : (l : Value-F Value BigMap) → IsFlat (val (roll-Value l)) → IsFlat (plainly l)
  seen_flat l h = subst IsFlat (other l) h

  by_level : (l : Value-F Value BigMap) → stepped l ≡ plainly l → seen big (roll-Value l) ≡ val (roll-Value l)
  by_level l h = one l ∙ h ∙ sym (other l)

  flat_list : (zs : List Held) → AreFlat (vals_of (map val (map (λ p. p.0) zs))) → vals_of (map (seen big) (map (λ p. p.0) zs)) ≡ vals_of (map val (map (λ p. p.0) zs))
  flat_list [] h = refl
  flat_list (z ∷ zs) h = let a = z.1 h.0 in let b = flat_list zs h.1 in λ i. more_vals (a i) (b i)

  flat_entries : (zs : List (Datum × Held)) → HasFlat (pairs_of (map (λ p. (p.0, val p.1)) (map lower_entry zs))) →
      pairs_of (map (λ p. (p.0, seen big p.1)) (map lower_entry zs)) ≡ pairs_of (map (λ p. (p.0, val p.1)) (map lower_entry zs))
  flat_entries [] h = refl
  flat_entries (z ∷ zs) h = let a = z.1.1 h.0 in let b = flat_entries zs h.1 in λ i. more_pairs (datum z.0) (a i) (b i)

  flat_level : (z : Value-F Held HeldBig) → Flats (roll-Value (lowered z))
  flat_level Value-F.Unit h = by_level Value-F.Unit refl
  flat_level (Value-F.Bool b) h = by_level (Value-F.Bool b) refl
  flat_level (Value-F.Number n) h = by_level (Value-F.Number n) refl
  flat_level (Value-F.Text s) h = by_level (Value-F.Text s) refl
  flat_level (Value-F.Bytes s) h = by_level (Value-F.Bytes s) refl
  flat_level Value-F.None h = by_level Value-F.None refl
  flat_level (Value-F.Some a) h = by_level (Value-F.Some a.0) (ap v.some (a.1 (seen_flat (Value-F.Some a.0) h)))
  flat_level (Value-F.Left a) h = by_level (Value-F.Left a.0) (ap v.left (a.1 (seen_flat (Value-F.Left a.0) h)))
  flat_level (Value-F.Right a) h = by_level (Value-F.Right a.0) (ap v.right (a.1 (seen_flat (Value-F.Right a.0) h)))
  flat_level (Value-F.Pair a b) h =
      let k = seen_flat (Value-F.Pair a.0 b.0) h in
      let e = a.1 k.0 in
      let f = b.1 k.1 in
      by_level (Value-F.Pair a.0 b.0) (λ i. v.both (e i) (f i))
  flat_level (Value-F.List zs) h = by_level (lowered (Value-F.List zs)) (ap v.list (flat_list zs (seen_flat (lowered (Value-F.List zs)) h)))
  flat_level (Value-F.Set ds) h = by_level (Value-F.Set ds) refl
  flat_level (Value-F.Map zs) h = by_level (lowered (Value-F.Map zs)) (ap v.table (flat_entries zs (seen_flat (lowered (Value-F.Map zs)) h)))
  flat_level (Value-F.BigMap b) h = absurd (seen_flat (lowered (Value-F.BigMap b)) h)
  flat_level (Value-F.Lambda n r) h = by_level (Value-F.Lambda n r) refl
  flat_level (Value-F.Operation n) h = by_level (Value-F.Operation n) refl
  flat_level (Value-F.Ticket t) h = by_level (Value-F.Ticket t) refl

  -- a value that stands for one without big maps
  pub flat_is : (x : Value) → IsFlat (val x) → seen big x ≡ val x
  flat_is = ind-Value Flats FlatsBig (λ x y is. subst (λ z. Flats (roll-Value z)) is (flat_level y)) (λ x y is. tt)

pub comparable_flat : (x : Val) → is_comparable x ≡ true → IsFlat x
comparable_flat (v.some x) h = comparable_flat x h
comparable_flat (v.left x) h = comparable_flat x h
comparable_flat (v.right x) h = comparable_flat x h
comparable_flat (v.both x y) h = let p = and_parts (is_comparable x) (is_comparable y) h in (comparable_flat x p.0, comparable_flat y p.1)
comparable_flat (v.list xs) h = absurd cc
comparable_flat (v.table es) h = absurd cc
comparable_flat (v.big_table es) h = absurd cc
comparable_flat _ h = tt

-- ---- comparable values

-- a comparable value among all values is the same however big maps are seen
pub datum_is : (big : Sight) (x : Value) (d : Datum) → val x ≡ datum d → seen big x ≡ datum d
datum_is big x d same = flat_is big x (subst IsFlat (sym same) (comparable_flat (datum d) (datum_comparable d))) ∙ same
