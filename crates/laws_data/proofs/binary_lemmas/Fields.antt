-- Fields are read as they are spelt.
use Rattle.std.proofs.Common.{◌≡◌, ℕ, zero, suc, ◌+◌, ◌≤◌, Bool, true, false, cond, ltb, List, [], ◌∷◌, ◌++◌, length, take, drop, Result, Ok, Err, refl, sym, ap, subst, ◌∙◌, append_assoc, arith, inl, inr}
use Rattle.std.specs.Int.{w32, from_be_bytes, to_be_bytes}
use Rattle.std.specs.List.{prefix_len}
use Rattle.std.proofs.lemmas.Bool.{cases_lt, ltb-false}
use Rattle.std.proofs.lemmas.List.{take-append-drop, length-take, length-drop, get_or-take, get_or_past, drop-drop}
use Rattle.std.proofs.lemmas.Nat.{be_bytes_4}
use Rattle.rules_text.specs.nodes.Limits.{byte_limit}
use Rattle.rules_text.specs.declared.binary.DecodeKind.TheVariants.{BadLength, TooWide, BadString}
use Rattle.rules_text.specs.binary.Spelling.{field}
use Rattle.rules_text.specs.binary.Reading.{Spot, Fault, ◌>>=◌, fault, past, byte_of, byte_at, field_of, field_at, narrow_field_at, is_text, string_at, bytes_at}
use Rattle.laws_data.specs.binary.Laws.{IsBytes, Took, FieldsAreSpelt}

pub IsBytes-take : (n : ℕ) (bytes : List ℕ) → IsBytes bytes → IsBytes (take n bytes)
IsBytes-take n bytes h i =
    elim (cases_lt i n) [
      | inl lt ↦ rw (get_or-take n bytes i 0 lt) (h i)
      | inr le ↦ rw (get_or_past (take n bytes) i 0 (omega (arith, length-take n bytes))) (omega arith)
    ]

-- a test that did not fail
pub guard_ok : {A : Type 0} (b : Bool) (d : Fault) (x : Result A Fault) (y : A) → cond b (Err d) x ≡ Ok y → (b ≡ false) × (x ≡ Ok y)
guard_ok true d x y e = absurd cc
guard_ok false d x y e = (refl, e)

abbrev done : {A : Type 0} → A → Result A Fault
done x = Ok x

pub ok_is : {A : Type 0} (x y : A) → done x ≡ done y → x ≡ y
ok_is x y e = cc

-- bytes in three parts
parts : (xs : List ℕ) (n : ℕ) → xs ≡ take 4 xs ++ (take n (drop 4 xs) ++ drop (4 + n) xs)
parts xs n = sym (take-append-drop 4 xs) ∙ ap (λ (r : List ℕ). take 4 xs ++ r) (sym (take-append-drop n (drop 4 xs)) ∙ ap (λ (r : List ℕ). take n (drop 4 xs) ++ r) (drop-drop n 4 xs))

pub fields_are_spelt : FieldsAreSpelt
unfolding field_at field
fields_are_spelt s inner after fits e =
    let xs = s.left in
    let n = from_be_bytes w32 (take 4 xs) in
    let content = take n (drop 4 xs) in
    let rest = drop (4 + n) xs in
    let first = guard_ok (ltb (length xs) 4) (record { kind = BadLength; place = s.place }) (field_of n s) (inner, after) e in
    let second = guard_ok (ltb (length xs) (4 + n)) (record { kind = BadLength; place = s.place }) (Ok (record { place = s.place + 4; left = content }, past (4 + n) s)) (inner, after) first.1 in
    let long : 4 + n ≤ length xs = ltb-false _ _ second.0 in
    let len : length content ≡ n = omega (arith, length-take n (drop 4 xs), length-drop 4 xs) in
    let head : to_be_bytes w32 (length content) ≡ take 4 xs = ap (to_be_bytes w32) len ∙ be_bytes_4 (take 4 xs) n (omega (arith, length-take 4 xs)) (IsBytes-take 4 xs fits) refl in
    let whole : xs ≡ (to_be_bytes w32 (length content) ++ content) ++ rest =
    parts xs n ∙ ap (λ (h : List ℕ). h ++ (content ++ rest)) (sym head) ∙ sym (append_assoc (to_be_bytes w32 (length content)) content rest) in
    let made : Spot × Spot = (record { place = s.place + 4; left = content }, past (4 + n) s) in
    subst (λ (p : Spot × Spot). Took s (to_be_bytes w32 (length p.0.left) ++ p.0.left) p.1) (ok_is made (inner, after) second.1) whole

-- the value of a step that did not fail
pub bind_ok : {A B : Type 0} (r : Result A Fault) (f : A → Result B Fault) (y : B) → (r >>= f) ≡ Ok y → (x : A) × (r ≡ Ok x) × (f x ≡ Ok y)
bind_ok (Ok x) f y e = (x, refl, e)
bind_ok (Err d) f y e = absurd cc

pub IsBytes-after : (text left : List ℕ) → IsBytes (text ++ left) → IsBytes left
IsBytes-after [] left h = h
IsBytes-after (b ∷ bs) left h = IsBytes-after bs left (λ i. h (suc i))

pub IsBytes-front : (text left : List ℕ) → IsBytes (text ++ left) → IsBytes text
IsBytes-front [] left h i = omega arith
IsBytes-front (b ∷ bs) left h zero = h 0
IsBytes-front (b ∷ bs) left h (suc i) = IsBytes-front bs left (λ j. h (suc j)) i

pub rest_fits : (s after : Spot) (text : List ℕ) → Took s text after → IsBytes s.left → IsBytes after.left
rest_fits s after text t h = IsBytes-after text after.left (subst IsBytes t h)

pub took_then : (a b c : Spot) (x y : List ℕ) → Took a x b → Took b y c → Took a (x ++ y) c
took_then a b c x y p q = p ∙ ap (λ (r : List ℕ). x ++ r) q ∙ sym (append_assoc x y c.left)

byte_of_took : (place : ℕ) (bs : List ℕ) (b : ℕ) (after : Spot) → byte_of place bs ≡ Ok (b, after) → bs ≡ b ∷ after.left
byte_of_took place [] b after e = absurd cc
byte_of_took place (c ∷ cs) b after e =
    let made : ℕ × Spot = (c, record { place = place + 1; left = cs }) in
    ap (λ (p : ℕ × Spot). p.0 ∷ p.1.left) (ok_is made (b, after) e)

pub byte_took : (s after : Spot) (b : ℕ) → byte_at s ≡ Ok (b, after) → Took s (b ∷ []) after
unfolding byte_at
byte_took s after b e = byte_of_took s.place s.left b after e

pub narrow_took : (s inner after : Spot) → IsBytes s.left → narrow_field_at s ≡ Ok (inner, after) → Took s (field inner.left) after
unfolding narrow_field_at
narrow_took s inner after fits e =
    let b = bind_ok (field_at s) (λ f. cond (ltb byte_limit (length f.0.left)) (fault TooWide s.place) (Ok f)) (inner, after) e in
    let g = guard_ok (ltb byte_limit (length b.0.0.left)) (record { kind = TooWide; place = s.place }) (Ok b.0) (inner, after) b.2 in
    subst (λ (p : Spot × Spot). Took s (field p.0.left) p.1) (ok_is b.0 (inner, after) g.1) (fields_are_spelt s b.0.0 b.0.1 fits b.1)

pub string_took : (s after : Spot) (text : List ℕ) → IsBytes s.left → string_at s ≡ Ok (text, after) → Took s (field text) after
unfolding string_at
string_took s after text fits e =
    let b = bind_ok (narrow_field_at s) (λ f. cond (ltb (prefix_len is_text f.0.left) (length f.0.left)) (fault BadString (f.0.place + prefix_len is_text f.0.left)) (Ok (f.0.left, f.1))) (text, after) e in
    let g = guard_ok (ltb (prefix_len is_text b.0.0.left) (length b.0.0.left)) (record { kind = BadString; place = b.0.0.place + prefix_len is_text b.0.0.left }) (Ok (b.0.0.left, b.0.1)) (text, after) b.2 in
    let made : List ℕ × Spot = (b.0.0.left, b.0.1) in
    subst (λ (p : List ℕ × Spot). Took s (field p.0) p.1) (ok_is made (text, after) g.1) (narrow_took s b.0.0 b.0.1 fits b.1)

pub bytes_took : (s after : Spot) (text : List ℕ) → IsBytes s.left → bytes_at s ≡ Ok (text, after) → Took s (field text) after
unfolding bytes_at
bytes_took s after text fits e =
    let b = bind_ok (narrow_field_at s) (λ f. Ok (f.0.left, f.1)) (text, after) e in
    let made : List ℕ × Spot = (b.0.0.left, b.0.1) in
    subst (λ (p : List ℕ × Spot). Took s (field p.0) p.1) (ok_is made (text, after) b.2) (narrow_took s b.0.0 b.0.1 fits b.1)
