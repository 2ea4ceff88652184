-- A name is found among those of its length exactly where it is found among all.
use Rattle.std.proofs.Common.{◌≡◌, ℕ, zero, suc, ◌+◌, ◌<◌, List, [], ◌∷◌, Option, Some, None, Bool, true, false, cond, ◌&&◌, not, length, slice_get, refl, ap, ◌∙◌, arith, nat_lt, nat_eq, subst}
use Rattle.std.specs.List.{find, position_or_len}
use Rattle.std.specs.Option.{option_and_then}
use Rattle.std.specs.Str.{bytes_eq}
use Rattle.std.proofs.lemmas.Bool.{eqb-true}
use Rattle.std.proofs.lemmas.Bool.Decides.{nat_tests}
use Rattle.std.proofs.lemmas.Slice.Eq.{bytes_eq-Decides}
use Rattle.rules_text.specs.nodes.Primitives.{primitive_names, name_of_code, code_of_name}
use Rattle.mich_base.specs.ByLength.{is_text_of, is_name_of, code_among, codes_by_length, code_by_length}

abbrev is_at : ℕ → Option ℕ → Bool
is_at i None = false
is_at i (Some c) = nat_eq c i

-- each of these names is found, at its place from i on
abbrev each_found : ℕ → List (List ℕ) → Bool
each_found i [] = true
each_found i (n ∷ ns) = is_at i (code_by_length n) && each_found (i + 1) ns

all_found : each_found 0 primitive_names ≡ true
unfolding primitive_names code_by_length codes_by_length name_of_code
all_found = refl

is_at_is : (i : ℕ) (o : Option ℕ) → is_at i o ≡ true → o ≡ Some i
is_at_is i None e = absurd cc
is_at_is i (Some c) e = ap Some (eqb-true c i e)

and_first : (a b : Bool) → a && b ≡ true → a ≡ true
and_first true b e = refl
and_first false b e = e

and_second : (a b : Bool) → a && b ≡ true → b ≡ true
and_second true b e = e
and_second false b e = absurd cc

first_or : {X : Type 0} (p : X → Bool) (y x : X) (o : Option X) (b : Bool) → p y ≡ b → (o ≡ Some x → p x ≡ true) → cond b (Some y) o ≡ Some x → p x ≡ true
first_or p y x o true t later e = let same : y ≡ x = cc in subst (λ z. p z ≡ true) same t
first_or p y x o false t later e = later e

-- a search that found something found what passes
found_passes : {X : Type 0} (p : X → Bool) (xs : List X) (x : X) → find p xs ≡ Some x → p x ≡ true
found_passes p [] x e = absurd cc
found_passes p (y ∷ ys) x e = first_or p y x (find p ys) (p y) refl (found_passes p ys x) e

walk_by : (name : List ℕ) (i : ℕ) (n : List ℕ) (m : ℕ) (b : Bool) → bytes_eq name n ≡ b → code_by_length n ≡ Some i → (b ≡ false → code_by_length name ≡ Some (i + 1 + m))
    → code_by_length name ≡ Some (i + cond (not b) (1 + m) 0)
walk_by name i n m true t here later =
    let same : name ≡ n = (bytes_eq-Decides name n).0 t in ap code_by_length same ∙ here ∙ ap Some (omega arith)
walk_by name i n m false t here later = later refl ∙ ap Some (omega arith)

-- where a name stands first among names that are all found, it is found too
walk : (name : List ℕ) (i : ℕ) (ns : List (List ℕ)) → each_found i ns ≡ true → position_or_len (bytes_eq name) ns < length ns
    → code_by_length name ≡ Some (i + position_or_len (bytes_eq name) ns)
walk name i [] t h = absurd (omega arith)
walk name i (n ∷ ns) t h =
    walk_by name i n (position_or_len (bytes_eq name) ns) (bytes_eq name n) refl (is_at_is i (code_by_length n) (and_first _ _ t))
    (λ no. walk name (i + 1) ns (and_second (is_at i (code_by_length n)) _ t) (shorter (bytes_eq name n) (position_or_len (bytes_eq name) ns) (length ns) no h))
  where
    shorter : (b : Bool) (m k : ℕ) → b ≡ false → cond (not b) (1 + m) 0 < suc k → m < k
    shorter true m k e h = absurd cc
    shorter false m k e h = omega arith

within_by : (m k : ℕ) (b : Bool) → (b ≡ false → m < k) → cond (not b) (1 + m) 0 < suc k
within_by m k true h = omega arith
within_by m k false h = omega (arith, h refl)

-- a name that stands at some place is found
within : (name : List ℕ) (ns : List (List ℕ)) (c : ℕ) → is_text_of name (slice_get ns c) ≡ true → position_or_len (bytes_eq name) ns < length ns
within name [] c t = absurd cc
within name (n ∷ ns) zero t = within_by _ (length ns) (bytes_eq name n) (λ no. absurd cc)
within name (n ∷ ns) (suc c) t = within_by _ (length ns) (bytes_eq name n) (λ no. within name ns c t)

among_passes : (name : List ℕ) (row : Option (List ℕ)) (c : ℕ) → option_and_then (code_among name) row ≡ Some c → is_name_of name c ≡ true
among_passes name None c e = absurd cc
among_passes name (Some row) c e = found_passes (is_name_of name) row c e

passes : (name : List ℕ) (c : ℕ) → code_by_length name ≡ Some c → position_or_len (bytes_eq name) primitive_names < length primitive_names
unfolding code_by_length name_of_code
passes name c e = within name primitive_names c (among_passes name _ c e)

nowhere : (name : List ℕ) (m k : ℕ) (o : Option ℕ) → (m < k → o ≡ Some m) → ((c : ℕ) → o ≡ Some c → m < k) → o ≡ cond (nat_lt m k) (Some m) None
nowhere name m k None here some = grind (arith, nat_tests)
nowhere name m k (Some c) here some = let h : m < k = some c refl in here h ∙ grind (arith, nat_tests)

pub found_by_length : (name : List ℕ) → code_by_length name ≡ code_of_name name
unfolding code_of_name
found_by_length name =
    nowhere name (position_or_len (bytes_eq name) primitive_names) (length primitive_names) (code_by_length name) (λ h. walk name 0 primitive_names all_found h ∙ ap Some (omega arith)) (passes name)
