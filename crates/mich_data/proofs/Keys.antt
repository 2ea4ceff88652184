-- Keys in increasing order, and one behind them.
use Rattle.std.proofs.Common.{◌≡◌, ◌-◌, true, Option, Some, None, List, [], ◌∷◌, ◌++◌, option_map, length, Bor, refl, ap, ◌∙◌, arith}
use Rattle.std.specs.Prelude.{slice_get}
use Rattle.std.specs.declared.cmp.Ordering.{Ordering}
use Rattle.std.specs.declared.cmp.Ordering.TheVariants.{Less, Equal, Greater}
use Rattle.std.specs.Ordering.{is_lt}
use Rattle.std.specs.Map.{keys_of}
use Rattle.std.specs.List.{AllByRecursion}
use Rattle.std.specs.List.Sorted.{IsStrictlySortedBy}
use Rattle.std.proofs.lemmas.Bool.{and_parts}
use Rattle.rules_data.specs.values.Val.{Val, is_comparable}
use Rattle.rules_data.specs.values.Literals.{is_behind}
use Rattle.mich_term.specs.View.{datum}
use Rattle.mich_term.specs.Keyed.{by, IsIncreasing}
use Rattle.laws_data.proofs.values_lemmas.ForCallers.{order_lawful}
use Rattle.mich_term.specs.declared.datum.Datum.{Datum}

-- ---- the last of a list

module _ {X : Type 0} where
  abbrev pub last_from : X → List X → X
  last_from x [] = x
  last_from x (y ∷ ys) = last_from y ys

  abbrev pub last_of : List X → Option X
  last_of [] = None
  last_of (x ∷ xs) = Some (last_from x xs)

  last_from-more : (x : X) (xs : List X) (k : X) → last_from x (xs ++ k ∷ []) ≡ k
  last_from-more x [] k = refl
  last_from-more x (y ∷ ys) k = last_from-more y ys k

  pub last_of-more : (xs : List X) (k : X) → last_of (xs ++ k ∷ []) ≡ Some k
  last_of-more [] k = refl
  last_of-more (x ∷ xs) k = ap Some (last_from-more x xs k)

  got_last : (x : X) (xs : List X) → slice_get (x ∷ xs) (length xs) ≡ Some (last_from x xs)
  got_last x [] = refl
  got_last x (y ∷ ys) = got_last y ys

  pub slice_get-last : (xs : List X) → slice_get xs (length xs - 1) ≡ last_of xs
  slice_get-last [] = refl
  slice_get-last (x ∷ xs) = let e : length (x ∷ xs) - 1 ≡ length xs = omega arith in ap (slice_get (x ∷ xs)) e ∙ got_last x xs

  all_more : (P : X → Type 0) (xs : List X) (k : X) → AllByRecursion P xs → P k → AllByRecursion P (xs ++ k ∷ [])
  all_more P [] k a h = (h, tt)
  all_more P (x ∷ xs) k a h = (a.0, all_more P xs k a.1 h)

-- ---- keys below one

abbrev pub AllBelow : Datum → List Datum → Type 0
AllBelow k = AllByRecursion (λ d. by d k ≡ Less)

head_below : (x y : Datum) (ys : List Datum) → IsIncreasing (x ∷ y ∷ ys) → by x y ≡ Less
unfolding IsStrictlySortedBy
head_below x y ys s = s.0.0

tail_increases : (x : Datum) (xs : List Datum) → IsIncreasing (x ∷ xs) → IsIncreasing xs
unfolding IsStrictlySortedBy
tail_increases x xs s = s.1

all_below : (x : Datum) (xs : List Datum) (k : Datum) → IsIncreasing (x ∷ xs) → by (last_from x xs) k ≡ Less → AllBelow k (x ∷ xs)
all_below x [] k s h = (h, tt)
all_below x (y ∷ ys) k s h =
    let rest = all_below y ys k (tail_increases x (y ∷ ys) s) h in
    (order_lawful.trans (datum x) (datum y) (datum k) (head_below x y ys s) rest.0, rest)

increases_more : (xs : List Datum) (k : Datum) → IsIncreasing xs → AllBelow k xs → IsIncreasing (xs ++ k ∷ [])
unfolding IsStrictlySortedBy
increases_more [] k s a = (tt, tt)
increases_more (x ∷ xs) k s a = (all_more (λ y. by x y ≡ Less) xs k s.0 a.0, increases_more xs k s.1 a.1)

lt_less : (o : Ordering) → is_lt o ≡ true → o ≡ Less
lt_less Less e = refl
lt_less Equal e = absurd cc
lt_less Greater e = absurd cc

abbrev pub last_value : List Datum → Option Val
last_value ds = option_map datum (last_of ds)

below_it : (ds : List Datum) (k : Datum) → IsIncreasing ds → is_behind (last_value ds) (datum k) ≡ true → AllBelow k ds
below_it [] k s e = tt
below_it (x ∷ xs) k s e = all_below x xs k s (lt_less (by (last_from x xs) k) (and_parts (is_comparable (datum k)) (is_lt (by (last_from x xs) k)) e).1)

-- a key that stands behind increasing ones leaves them increasing
pub stays_increasing : (ds : List Datum) (k : Datum) → IsIncreasing ds → is_behind (last_value ds) (datum k) ≡ true → IsIncreasing (ds ++ k ∷ [])
stays_increasing ds k s e = increases_more ds k s (below_it ds k s e)

pub none_increases : IsIncreasing []
unfolding IsStrictlySortedBy
none_increases = tt

parted : (o : Option (Bor Datum)) → option_map (λ d. datum d.now) o ≡ option_map datum (option_map (λ d. d.now) o)
parted None = refl
parted (Some d) = refl

-- the code tells the greatest element by its place
pub last_told : (o : Option (Bor Datum)) (ds : List Datum) → option_map (λ d. d.now) o ≡ slice_get ds (length ds - 1) → option_map (λ d. datum d.now) o ≡ last_value ds
last_told o ds h = parted o ∙ ap (option_map datum) (h ∙ slice_get-last ds)

module _ {X : Type 0} where
  key_from : (e : Datum × X) (es : List (Datum × X)) → (last_from e es).0 ≡ last_from e.0 (keys_of es)
  key_from e [] = refl
  key_from e (f ∷ fs) = key_from f fs

  key_of_last : (es : List (Datum × X)) → option_map (λ e. e.0) (last_of es) ≡ last_of (keys_of es)
  key_of_last [] = refl
  key_of_last (e ∷ es) = ap Some (key_from e es)

  -- and the greatest key likewise
  pub last_key_told : (o : Option (Bor Datum)) (es : List (Datum × X)) → option_map (λ d. d.now) o ≡ option_map (λ e. e.0) (slice_get es (length es - 1)) →
      option_map (λ d. datum d.now) o ≡ last_value (keys_of es)
  last_key_told o es h = parted o ∙ ap (option_map datum) (h ∙ ap (option_map (λ e. e.0)) (slice_get-last es) ∙ key_of_last es)
