-- Fields, integers, texts, names and annotations are read from their spelling.
use Rattle.std.proofs.Common.{◌≡◌, ℕ, zero, suc, ◌+◌, ◌-◌, ◌*◌, ◌/◌, ◌%◌, ◌^◌, ◌<◌, ◌≤◌, Bool, true, false, ◌&&◌, ◌||◌, get_or, cond, nat_lt, nat_le, nat_eq, List, [], ◌∷◌, ◌++◌, length, take, drop, slice_get, Some, Result, Ok, refl, sym, ap, ◌∙◌, arith}
use Rattle.std.specs.Prelude.{ℤ, pos, negsuc, unwrap_or}
use Rattle.std.specs.Int.{w32, from_be_bytes}
use Rattle.std.specs.List.{list_all, prefix_len}
use Rattle.std.specs.Str.{bytes_eq}
use Rattle.std.proofs.Math.Seq.{take-append_seam, drop-append_seam}
use Rattle.std.proofs.lemmas.Bool.{eqb-true}
use Rattle.std.proofs.lemmas.Bool.Decides.{nat_tests}
use Rattle.std.proofs.lemmas.List.{length-append, drop-drop}
use Rattle.std.proofs.lemmas.List.Quantifiers.{position-Some}
use Rattle.std.proofs.lemmas.Nat.{from_be_bytes-to_be_bytes_4}
use Rattle.std.proofs.lemmas.Option.{slice_get-get_or}
use Rattle.std.proofs.lemmas.Slice.Eq.{bytes_eq-Decides}
use Rattle.rules_text.specs.nodes.Limits.{byte_limit}
use Rattle.rules_text.specs.nodes.Primitives.{primitive_names, name_of_code, code_of_name}
use Rattle.rules_text.specs.binary.Spelling.{groups_within, groups, integer, field, joined, code}
use Rattle.rules_text.specs.binary.Reading.{Spot, Fault, field_at, narrow_field_at, goes_on, groups_value, is_longer, is_longer_by, ranged, integer_of, integer_at, is_text, string_at, bytes_at, is_noted, is_annotation, before, pieces, annotations_of, any_annotations, annotations_at, any_annotations_at, byte_at, name_at}
use Rattle.laws_data.specs.binary.Laws.{IsWithinRange, HasCode}
use Rattle.laws_data.proofs.binary_lemmas.Integers.{IsRun}
use Rattle.laws_data.proofs.binary_lemmas.Prefixes.{integer_run}

abbrev pub spot : ℕ → List ℕ → Spot
spot place left = record { place = place; left = left }

-- this text is read as this, whatever stands behind it
abbrev pub Gives : {A : Type 0} → (Spot → Result (A × Spot) Fault) → List ℕ → A → Type 0
Gives read text x = (place : ℕ) (rest : List ℕ) → (after : ℕ) × (read (spot place (text ++ rest)) ≡ Ok (x, spot after rest))

-- ---- fields

field_by : (s : Spot) (n : ℕ) (content rest : List ℕ) → from_be_bytes w32 (take 4 s.left) ≡ n → nat_lt (length s.left) 4 ≡ false → nat_lt (length s.left) (4 + n) ≡ false
    → take n (drop 4 s.left) ≡ content → drop (4 + n) s.left ≡ rest → field_at s ≡ Ok (spot (s.place + 4) content, spot (s.place + (4 + n)) rest)
unfolding field_at
field_by s n content rest tells some long front back = rw (some, tells, long, front, back) refl

pub read_field : (content : List ℕ) (place : ℕ) (rest : List ℕ) → length content < 2 ^ 32
    → field_at (spot place (field content ++ rest)) ≡ Ok (spot (place + 4) content, spot (place + (4 + length content)) rest)
unfolding field
read_field content place rest h =
    let some : nat_lt (suc (suc (suc (suc (length (content ++ rest)))))) 4 ≡ false = grind (arith, nat_tests) in
    let long : nat_lt (suc (suc (suc (suc (length (content ++ rest)))))) (4 + length content) ≡ false = grind (arith, nat_tests, length-append content rest) in
    field_by (spot place (field content ++ rest)) (length content) content rest (from_be_bytes-to_be_bytes_4 (length content) h) some long
    (take-append_seam content rest) (sym (drop-drop (length content) 4 (field content ++ rest)) ∙ drop-append_seam content rest)

pub read_narrow : (content : List ℕ) (place : ℕ) (rest : List ℕ) → length content ≤ byte_limit
    → narrow_field_at (spot place (field content ++ rest)) ≡ Ok (spot (place + 4) content, spot (place + (4 + length content)) rest)
unfolding narrow_field_at
read_narrow content place rest h =
    let narrow : nat_lt byte_limit (length content) ≡ false = grind (arith, nat_tests, h) in
    rw (read_field content place rest (omega (arith, h)), narrow) refl

prefix_by : (m n : ℕ) (t u : Bool) → t && u ≡ true → (u ≡ true → m ≡ n) → cond t (1 + m) 0 ≡ suc n
prefix_by m n true u h later = omega (arith, later h)
prefix_by m n false u h later = absurd cc

all_prefix : {X : Type 0} (p : X → Bool) (xs : List X) → list_all p xs ≡ true → prefix_len p xs ≡ length xs
all_prefix p [] h = refl
all_prefix p (x ∷ xs) h = prefix_by (prefix_len p xs) (length xs) (p x) (list_all p xs) h (all_prefix p xs)

pub read_string : (s : List ℕ) → list_all is_text s ≡ true → length s ≤ byte_limit → Gives string_at (field s) s
unfolding string_at
read_string s text h place rest =
    let whole : nat_lt (prefix_len is_text s) (length s) ≡ false = grind (arith, nat_tests, all_prefix is_text s text) in
    (place + (4 + length s), rw (read_narrow s place rest h, whole) refl)

pub read_bytes : (b : List ℕ) → length b ≤ byte_limit → Gives bytes_at (field b) b
unfolding bytes_at
read_bytes b h place rest = (place + (4 + length b), rw (read_narrow b place rest h) refl)

-- ---- integers

value_by : (k n : ℕ) (t : Bool) → nat_lt n 128 ≡ t → groups_value (groups_within k (n / 128)) ≡ n / 128 → groups_value (cond t (n ∷ []) ((128 + n % 128) ∷ groups_within k (n / 128))) ≡ n
value_by k n true t e = grind (arith, nat_tests)
value_by k n false t e = omega (arith, e)

value_back : (k n : ℕ) → n ≤ k → groups_value (groups_within k n) ≡ n
value_back zero n h = omega (arith, h)
value_back (suc k) n h = value_by k n (nat_lt n 128) refl (value_back k (n / 128) (omega (arith, h)))

-- the last byte adds something
abbrev IsShortest : List ℕ → Type 0
IsShortest [] = ⊥
IsShortest (b ∷ []) = 0 < b
IsShortest (b ∷ c ∷ cs) = IsShortest (c ∷ cs)

longer_shortest : (b : ℕ) (bs : List ℕ) → IsShortest bs → IsShortest (b ∷ bs)
longer_shortest b [] h = absurd h
longer_shortest b (c ∷ cs) h = h

shortest_by : (k n : ℕ) (t : Bool) → nat_lt n 128 ≡ t → 1 ≤ n → (128 ≤ n → IsShortest (groups_within k (n / 128))) → IsShortest (cond t (n ∷ []) ((128 + n % 128) ∷ groups_within k (n / 128)))
shortest_by k n true t h later = h
shortest_by k n false t h later = longer_shortest (128 + n % 128) (groups_within k (n / 128)) (later (grind (arith, nat_tests)))

shortest : (k n : ℕ) → 1 ≤ n → n ≤ k → IsShortest (groups_within k n)
shortest zero n h i = omega (arith, h, i)
shortest (suc k) n h i = shortest_by k n (nat_lt n 128) refl h (λ l. shortest k (n / 128) (omega (arith, l)) (omega (arith, i)))

last_adds : (b c : ℕ) (cs : List ℕ) → IsShortest (c ∷ cs) → is_longer_by b (slice_get (c ∷ cs) (length cs)) ≡ false
last_adds b c [] h = let some : nat_eq c 0 ≡ false = grind (arith, nat_tests, h) in some
last_adds b c (d ∷ ds) h = last_adds b d ds h

-- a first byte and groups, which spell a number that is ranged
integer_of_more : (b : ℕ) (gs : List ℕ) → IsShortest gs → integer_of (b ∷ gs) ≡ ranged (nat_le 64 (b % 128)) (b % 64 + 64 * groups_value gs)
integer_of_more b [] h = absurd h
integer_of_more b (c ∷ cs) h =
    let last : suc (length cs) - 1 ≡ length cs = omega arith in
    let fine : is_longer b (c ∷ cs) ≡ false = ap (λ k. is_longer_by b (slice_get (c ∷ cs) k)) last ∙ last_adds b c cs h in
    rw fine refl

integer_of_one : (b : ℕ) → nat_eq b 64 ≡ false → integer_of (b ∷ []) ≡ ranged (nat_le 64 (b % 128)) (b % 64 + 64 * 0)
integer_of_one b h = rw h refl

of_signed : (negative : Bool) (n : ℕ) (t : Bool) → nat_lt n 64 ≡ t → (negative ≡ true → 1 ≤ n)
    → integer_of (cond t ((cond negative 64 0 + n) ∷ []) ((128 + cond negative 64 0 + n % 64) ∷ groups (n / 64))) ≡ ranged negative n
unfolding groups
of_signed true n true t some =
    let one : 1 ≤ n = some refl in
    let shorter : nat_eq (64 + n) 64 ≡ false = grind (arith, nat_tests, one) in
    let sign : nat_le 64 ((64 + n) % 128) ≡ true = grind (arith, nat_tests) in
    let value : (64 + n) % 64 + 64 * 0 ≡ n = grind (arith, nat_tests) in
    integer_of_one (64 + n) shorter ∙ rw (sign, value) refl
of_signed false n true t some =
    let shorter : nat_eq (0 + n) 64 ≡ false = grind (arith, nat_tests) in
    let sign : nat_le 64 ((0 + n) % 128) ≡ false = grind (arith, nat_tests) in
    let value : (0 + n) % 64 + 64 * 0 ≡ n = grind (arith, nat_tests) in
    integer_of_one (0 + n) shorter ∙ rw (sign, value) refl
of_signed true n false t some =
    let b = 128 + 64 + n % 64 in
    let large : 64 ≤ n = grind (arith, nat_tests) in
    let sign : nat_le 64 (b % 128) ≡ true = grind (arith, nat_tests) in
    let value : b % 64 + 64 * groups_value (groups_within (n / 64) (n / 64)) ≡ n = omega (arith, value_back (n / 64) (n / 64) (omega arith)) in
    integer_of_more b (groups_within (n / 64) (n / 64)) (shortest (n / 64) (n / 64) (omega (arith, large)) (omega arith)) ∙ rw (sign, value) refl
of_signed false n false t some =
    let b = 128 + 0 + n % 64 in
    let large : 64 ≤ n = grind (arith, nat_tests) in
    let sign : nat_le 64 (b % 128) ≡ false = grind (arith, nat_tests) in
    let value : b % 64 + 64 * groups_value (groups_within (n / 64) (n / 64)) ≡ n = omega (arith, value_back (n / 64) (n / 64) (omega arith)) in
    integer_of_more b (groups_within (n / 64) (n / 64)) (shortest (n / 64) (n / 64) (omega (arith, large)) (omega arith)) ∙ rw (sign, value) refl

integer_back : (z : ℤ) → IsWithinRange z → integer_of (integer z) ≡ Some z
unfolding integer
integer_back (pos n) h =
    let fits : nat_le (2 ^ 127) n ≡ false = grind (arith, nat_tests, h) in
    of_signed false n (nat_lt n 64) refl (λ e. absurd cc) ∙ rw fits refl
integer_back (negsuc n) h =
    let fits : nat_lt (2 ^ 127) (suc n) ≡ false = grind (arith, nat_tests, h) in
    of_signed true (suc n) (nat_lt (suc n) 64) refl (λ e. omega arith) ∙ rw fits refl

ends_by : (b : ℕ) (m : ℕ) (t : Bool) → goes_on b ≡ t → b < 128 → cond t (1 + m) 0 ≡ 0
ends_by b m true t h = absurd (grind (arith, nat_tests))
ends_by b m false t h = refl

goes_by : (b : ℕ) (m : ℕ) (t : Bool) → goes_on b ≡ t → 128 ≤ b → cond t (1 + m) 0 ≡ suc m
goes_by b m true t h = omega arith
goes_by b m false t h = absurd (grind (arith, nat_tests))

one_more : (m l : ℕ) → m + 1 ≡ l → suc m + 1 ≡ suc l
one_more m l e = omega (arith, e)

-- a run ends at its own last byte
run_ends : (bs rest : List ℕ) → IsRun bs → prefix_len goes_on (bs ++ rest) + 1 ≡ length bs
run_ends [] rest r = absurd r
run_ends (b ∷ []) rest r = ap (λ m. m + 1) (ends_by b (prefix_len goes_on rest) (goes_on b) refl r)
run_ends (b ∷ c ∷ cs) rest r =
    let m = prefix_len goes_on ((c ∷ cs) ++ rest) in
    ap (λ k. k + 1) (goes_by b m (goes_on b) refl r.0) ∙ one_more m (length (c ∷ cs)) (run_ends (c ∷ cs) rest r.1)

pub read_integer : (z : ℤ) → IsWithinRange z → Gives integer_at (integer z) z
unfolding integer_at
read_integer z h place rest =
    let ends : prefix_len goes_on (integer z ++ rest) + 1 ≡ length (integer z) = run_ends (integer z) rest (integer_run z) in
    let long : nat_lt (length (integer z ++ rest)) (length (integer z)) ≡ false = grind (arith, nat_tests, length-append (integer z) rest) in
    (place + length (integer z), rw (ends, long, take-append_seam (integer z) rest, integer_back z h, drop-append_seam (integer z) rest) refl)

-- ---- names

pub name_back : (name : List ℕ) (c : ℕ) → code_of_name name ≡ Some c → name_of_code c ≡ Some name
unfolding code_of_name name_of_code
name_back name c e =
    let found = position-Some (bytes_eq name) primitive_names c [] e in
    let same : name ≡ get_or primitive_names c [] = (bytes_eq-Decides name (get_or primitive_names c [])).0 found.1 in
    slice_get-get_or primitive_names c [] found.0 ∙ ap Some (sym same)

pub read_name : (name : List ℕ) → HasCode name → (place : ℕ) (rest : List ℕ) → name_at (spot place (code name ∷ rest)) ≡ Ok (name, spot (place + 1) rest)
unfolding name_at byte_at
read_name name h place rest =
    let known : code name ≡ h.0 = ap (λ o. unwrap_or o 0) h.1 in
    rw (known, name_back name h.0 h.1) refl

-- ---- annotations

abbrev HasNoSpace : List ℕ → Type 0
HasNoSpace [] = Unit {0}
HasNoSpace (b ∷ bs) = (nat_eq b 32 ≡ false) × HasNoSpace bs

noted_by : (b : ℕ) (t : Bool) → nat_eq b 32 ≡ t → is_noted b ≡ true → t ≡ false
noted_by b true t h = let same : b ≡ 32 = eqb-true b 32 t in absurd (cc (ap is_noted same, h))
noted_by b false t h = refl

and_both : (a b : Bool) → a && b ≡ true → (a ≡ true) × (b ≡ true)
and_both true b e = (refl, e)
and_both false b e = absurd cc

noted_no_space : (bs : List ℕ) → list_all is_noted bs ≡ true → HasNoSpace bs
noted_no_space [] h = tt
noted_no_space (b ∷ bs) h =
    let both = and_both (is_noted b) (list_all is_noted bs) h in
    (noted_by b (nat_eq b 32) refl both.0, noted_no_space bs both.1)

sign_by : (b : ℕ) (t : Bool) → nat_eq b 32 ≡ t → (nat_eq b 64 || nat_eq b 58 || nat_eq b 37) ≡ true → t ≡ false
sign_by b true t h = let same : b ≡ 32 = eqb-true b 32 t in absurd (cc (ap (λ x. nat_eq x 64 || nat_eq x 58 || nat_eq x 37) same, h))
sign_by b false t h = refl

no_space : (a : List ℕ) → is_annotation a ≡ true → HasNoSpace a
no_space [] h = tt
no_space (b ∷ bs) h =
    let outer = and_both ((nat_eq b 64 || nat_eq b 58 || nat_eq b 37) && list_all is_noted bs) (nat_le (length bs) 255) h in
    let inner = and_both (nat_eq b 64 || nat_eq b 58 || nat_eq b 37) (list_all is_noted bs) outer.0 in
    (sign_by b (nat_eq b 32) refl inner.0, noted_no_space bs inner.1)

one_piece : (a : List ℕ) → HasNoSpace a → pieces a ≡ a ∷ []
one_piece [] h = refl
one_piece (b ∷ bs) h = rw (h.0) (ap (before b) (one_piece bs h.1))

piece_then : (a rest : List ℕ) → HasNoSpace a → pieces (a ++ (32 ∷ rest)) ≡ a ∷ pieces rest
piece_then [] rest h = refl
piece_then (b ∷ bs) rest h = rw (h.0) (ap (before b) (piece_then bs rest h.1))

pieces_back : (a : List ℕ) (others : List (List ℕ)) → list_all is_annotation (a ∷ others) ≡ true → pieces (joined (a ∷ others)) ≡ a ∷ others
pieces_back a [] h = one_piece a (no_space a (and_both (is_annotation a) true h).0)
pieces_back a (c ∷ cs) h =
    let both = and_both (is_annotation a) (list_all is_annotation (c ∷ cs)) h in
    piece_then a (joined (c ∷ cs)) (no_space a both.0) ∙ ap (λ (ps : List (List ℕ)). a ∷ ps) (pieces_back c cs both.1)

annotations_back : (s : Spot) (a : List ℕ) (others : List (List ℕ)) → list_all is_annotation (a ∷ others) ≡ true → s.left ≡ joined (a ∷ others) → annotations_of s ≡ Ok (a ∷ others)
annotations_back s a others h e =
    let same : pieces s.left ≡ a ∷ others = ap pieces e ∙ pieces_back a others h in
    rw (same, h) refl

pub read_annotations : (a : List ℕ) (others : List (List ℕ)) → list_all is_annotation (a ∷ others) ≡ true → length (joined (a ∷ others)) < 2 ^ 32 → Gives annotations_at (field (joined (a ∷ others))) (a ∷ others)
unfolding annotations_at
read_annotations a others h fits place rest =
    (place + (4 + length (joined (a ∷ others))), rw (read_field (joined (a ∷ others)) place rest fits, annotations_back (spot (place + 4) (joined (a ∷ others))) a others h refl) refl)

any_back : (s : Spot) (annotations : List (List ℕ)) → list_all is_annotation annotations ≡ true → s.left ≡ joined annotations → any_annotations s (joined annotations) ≡ Ok annotations
any_back s [] h e = refl
any_back s ([] ∷ others) h e = absurd cc
any_back s ((b ∷ bs) ∷ []) h e = annotations_back s (b ∷ bs) [] h e
any_back s ((b ∷ bs) ∷ c ∷ cs) h e = annotations_back s (b ∷ bs) (c ∷ cs) h e

pub read_any_annotations : (annotations : List (List ℕ)) → list_all is_annotation annotations ≡ true → length (joined annotations) < 2 ^ 32 → Gives any_annotations_at (field (joined annotations)) annotations
unfolding any_annotations_at
read_any_annotations annotations h fits place rest =
    (place + (4 + length (joined annotations)), rw (read_field (joined annotations) place rest fits, any_back (spot (place + 4) (joined annotations)) annotations h refl) refl)
