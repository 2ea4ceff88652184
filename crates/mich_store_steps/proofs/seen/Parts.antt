-- What is so of what a value is seen as is so of its parts, and what follows of each big map in it; and the other way round.
use Rattle.std.proofs.Common.{◌≡◌, true, List, [], ◌∷◌, map, refl, ap, ◌∙◌, subst}
use Rattle.std.specs.List.{AllByRecursion}
use Rattle.std.proofs.lemmas.Bool.{and_parts, and_from}
use Rattle.rules_data.specs.values.Val.{Val, Vals, Pairs, more_vals, more_pairs, some, left, right, both, list, table, big_table}
use Rattle.mich_term.specs.View.{vals_of, pairs_of}
use Rattle.mich_term.specs.ValueView.{val, value_step, big_step}
use Rattle.mich_term.specs.Layers.{NoBigMap}
use Rattle.mich_term.specs.declared.datum.Datum.{Datum}
use Rattle.mich_term.specs.declared.value.Value.{Value, roll-Value, ind-Value, fold-roll-Value, map-Value}
use Rattle.mich_term.specs.declared.value.Value.TheOpen.{Value-F, BigMap-F}
use Rattle.mich_term.specs.declared.value.Value.TheFolds.{fold-BigMap}
use Rattle.mich_term.specs.declared.value.BigMap.{BigMap}
use Rattle.mich_term.proofs.ForCallers.Each as e
use Rattle.mich_bigmap.proofs.ForCallers.{equals, agree}
use Rattle.mich_stack.specs.Views.{Sight, seen}
use Rattle.mich_store_steps.specs.seen.Sights.{is_plain, are_plain, entries_plain}

-- the entries that a big map is seen as
abbrev pub big_seen : Sight → BigMap → Pairs
big_seen big = fold-BigMap Val Pairs value_step big

-- ---- parts

-- what is so of a value is so of its parts, and this is so of what a big map is seen as
pub record HasParts (P : Val → Type 0) (PL : Vals → Type 0) (PP PB : Pairs → Type 0) : Type 0 where
  pub somes : (v : Val) → P (some v) → P v
  pub lefts : (v : Val) → P (left v) → P v
  pub rights : (v : Val) → P (right v) → P v
  pub boths : (v w : Val) → P (both v w) → P v × P w
  pub lists : (vs : Vals) → P (list vs) → PL vs
  pub tables : (ps : Pairs) → P (table ps) → PP ps
  pub bigs : (ps : Pairs) → P (big_table ps) → PB ps
  pub more : (v : Val) (vs : Vals) → PL (more_vals v vs) → P v × PL vs
  pub entries : (k v : Val) (ps : Pairs) → PP (more_pairs k v ps) → P v × PP ps

module _ {P : Val → Type 0} {PL : Vals → Type 0} {PP PB : Pairs → Type 0} (parts : HasParts P PL PP PB) (big : Sight)
    (Q : BigMap-F Value BigMap → Type 0) (each : (b : BigMap) → PB (big_seen big b) → e.EachBig Q b) where
  abbrev Tells : Value → Type 0
  Tells x = P (seen big x) → e.Each Q x

  abbrev Any : BigMap → Type 0
  Any b = Unit {0}

  abbrev With : Type 0
  With = (x : Value) × Tells x

  abbrev WithBig : Type 0
  WithBig = (x : BigMap) × Any x

  abbrev low : Value-F With WithBig → Value-F Value BigMap
  low z = map-Value With WithBig Value BigMap (λ p. p.0) (λ p. p.0) z

  abbrev stepped : Value-F Value BigMap → Val
  stepped l = value_step (map-Value Value BigMap Val Pairs (seen big) (big_seen big) l)

  abbrev low_entry : Datum × With → Datum × Value
  low_entry p = (p.0, p.1.0)

  tell_list : (zs : List With) → PL (vals_of (map (seen big) (map (λ p. p.0) zs))) → AllByRecursion (e.Each Q) (map (λ p. p.0) zs)
  tell_list [] h = tt
  tell_list (z ∷ zs) h = let p = parts.more _ _ h in (z.1 p.0, tell_list zs p.1)

  tell_entries : (zs : List (Datum × With)) → PP (pairs_of (map (λ p. (p.0, seen big p.1)) (map low_entry zs))) → AllByRecursion (e.EachEntry Q) (map low_entry zs)
  tell_entries [] h = tt
  tell_entries (z ∷ zs) h = let p = parts.entries _ _ _ h in (z.1.1 p.0, tell_entries zs p.1)

  level : (z : Value-F With WithBig) → P (stepped (low z)) → e.Each Q (roll-Value (low z))
  level Value-F.Unit h = e.up_unit Q
  level (Value-F.Bool b) h = e.up_bool Q b
  level (Value-F.Number n) h = e.up_number Q n
  level (Value-F.Text s) h = e.up_text Q s
  level (Value-F.Bytes s) h = e.up_bytes Q s
  level Value-F.None h = e.up_none Q
  level (Value-F.Some a) h = e.up_some Q a.0 (a.1 (parts.somes _ h))
  level (Value-F.Left a) h = e.up_left Q a.0 (a.1 (parts.lefts _ h))
  level (Value-F.Right a) h = e.up_right Q a.0 (a.1 (parts.rights _ h))
  level (Value-F.Pair a b) h = let p = parts.boths _ _ h in e.up_pair Q a.0 b.0 (a.1 p.0) (b.1 p.1)
  level (Value-F.List zs) h = e.up_list Q (map (λ p. p.0) zs) (tell_list zs (parts.lists _ h))
  level (Value-F.Set ds) h = e.up_set Q ds
  level (Value-F.Map zs) h = e.up_map Q (map low_entry zs) (tell_entries zs (parts.tables _ h))
  level (Value-F.BigMap a) h = e.up_big Q a.0 (each a.0 (parts.bigs _ h))
  level (Value-F.Lambda n r) h = e.up_lambda Q n r
  level (Value-F.Operation n) h = e.up_operation Q n
  level (Value-F.Ticket t) h = e.up_ticket Q t

  at_level : (z : Value-F With WithBig) → Tells (roll-Value (low z))
  at_level z h = level z (subst P (fold-roll-Value Val Pairs value_step big (low z)) h)

  pub tells : (x : Value) → P (seen big x) → e.Each Q x
  tells = ind-Value Tells Any (λ x y is. subst (λ z. Tells (roll-Value z)) is (at_level y)) (λ x y is. tt)

-- ---- values without big maps

plain_parts : HasParts (λ v. is_plain v ≡ true) (λ vs. are_plain vs ≡ true) (λ ps. entries_plain ps ≡ true) (λ ps. ⊥)
plain_parts = record {
  somes = λ v h. h;
  lefts = λ v h. h;
  rights = λ v h. h;
  boths = λ v w h. and_parts (is_plain v) (is_plain w) h;
  lists = λ vs h. h;
  tables = λ ps h. h;
  bigs = λ ps h. absurd (cc);
  more = λ v vs h. and_parts (is_plain v) (are_plain vs) h;
  entries = λ k v ps h. and_parts (is_plain v) (entries_plain ps) h;
}

-- where what a value is seen as holds no big map the value holds none
pub plain_tells : (big : Sight) (x : Value) → is_plain (seen big x) ≡ true → e.Each NoBigMap x
plain_tells big = tells plain_parts big NoBigMap (λ b h. absurd h)

-- and it is seen alike by all
pub plain_seen : (big : Sight) (x : Value) → e.Each NoBigMap x → seen big x ≡ val x
plain_seen big = agree equals big big_step NoBigMap (λ z h. absurd (e.here NoBigMap _ h))

-- the other way round
module _ (big : Sight) where
  abbrev Is : Value → Type 0
  Is x = e.Each NoBigMap x → is_plain (seen big x) ≡ true

  abbrev Some' : BigMap → Type 0
  Some' b = Unit {0}

  abbrev WithIs : Type 0
  WithIs = (x : Value) × Is x

  abbrev WithSome : Type 0
  WithSome = (x : BigMap) × Some' x

  abbrev lowered : Value-F WithIs WithSome → Value-F Value BigMap
  lowered z = map-Value WithIs WithSome Value BigMap (λ p. p.0) (λ p. p.0) z

  abbrev lowered_entry : Datum × WithIs → Datum × Value
  lowered_entry p = (p.0, p.1.0)

  abbrev step_of : Value-F Value BigMap → Val
  step_of l = value_step (map-Value Value BigMap Val Pairs (seen big) (big_seen big) l)

  list_is : (zs : List WithIs) → AllByRecursion (e.Each NoBigMap) (map (λ p. p.0) zs) → are_plain (vals_of (map (seen big) (map (λ p. p.0) zs))) ≡ true
  list_is [] h = refl
  list_is (z ∷ zs) h = and_from _ _ (z.1 h.0) (list_is zs h.1)

  entries_is : (zs : List (Datum × WithIs)) → AllByRecursion (e.EachEntry NoBigMap) (map lowered_entry zs) → entries_plain (pairs_of (map (λ p. (p.0, seen big p.1)) (map lowered_entry zs))) ≡ true
  entries_is [] h = refl
  entries_is (z ∷ zs) h = and_from _ _ (z.1.1 h.0) (entries_is zs h.1)

  level_is : (z : Value-F WithIs WithSome) → e.Each NoBigMap (roll-Value (lowered z)) → is_plain (step_of (lowered z)) ≡ true
  level_is Value-F.Unit h = refl
  level_is (Value-F.Bool b) h = refl
  level_is (Value-F.Number n) h = refl
  level_is (Value-F.Text s) h = refl
  level_is (Value-F.Bytes s) h = refl
  level_is Value-F.None h = refl
  level_is (Value-F.Some a) h = a.1 (e.layer_some NoBigMap a.0 h)
  level_is (Value-F.Left a) h = a.1 (e.layer_left NoBigMap a.0 h)
  level_is (Value-F.Right a) h = a.1 (e.layer_right NoBigMap a.0 h)
  level_is (Value-F.Pair a b) h = let k = e.layer_pair NoBigMap a.0 b.0 h in and_from _ _ (a.1 k.0) (b.1 k.1)
  level_is (Value-F.List zs) h = list_is zs (e.layer_list NoBigMap (map (λ p. p.0) zs) h)
  level_is (Value-F.Set ds) h = refl
  level_is (Value-F.Map zs) h = entries_is zs (e.layer_map NoBigMap (map lowered_entry zs) h)
  level_is (Value-F.BigMap a) h = absurd (e.here NoBigMap a.0 (e.layer_big NoBigMap a.0 h))
  level_is (Value-F.Lambda n r) h = refl
  level_is (Value-F.Operation n) h = refl
  level_is (Value-F.Ticket t) h = refl

  is_at : (z : Value-F WithIs WithSome) → Is (roll-Value (lowered z))
  is_at z h = ap is_plain (fold-roll-Value Val Pairs value_step big (lowered z)) ∙ level_is z h

  pub plain_is : (x : Value) → e.Each NoBigMap x → is_plain (seen big x) ≡ true
  plain_is = ind-Value Is Some' (λ x y is. subst (λ z. Is (roll-Value z)) is (is_at y)) (λ x y is. tt)
