-- Fields are read as they are spelt.
use Rattle.std.proofs.Common.{◌≡◌, ℕ, zero, suc, ◌+◌, ◌<◌, ◌≤◌, ◌^◌, Bool, true, false, cond, ltb, ℤ, List, [], ◌∷◌, ◌++◌, length, take, get_or, Result, Ok, Err, refl, sym, ap, subst, ◌∙◌, append_assoc, arith}
use Rattle.std.specs.Int.{Width, w32, w64, w128, byte_len, from_be_bytes, to_be_bytes, cast_signed, cast_unsigned}
use Rattle.std.proofs.lemmas.Bool.{ltb-false}
use Rattle.std.proofs.lemmas.Int.{of_z-to_z}
use Rattle.std.proofs.lemmas.List.{take-append-drop, length-take, length-append}
use Rattle.std.proofs.lemmas.Nat.{be_bytes_4, be_bytes_8}
use Rattle.rules_text.specs.nodes.Tree.{Tree}
use Rattle.rules_text.specs.binary.Spelling.{field, spelling}
use Rattle.rules_text.specs.binary.Reading.{Spot, past, Fault, decoded}
use Rattle.laws_data.specs.binary.Laws.{IsBytes}
use Rattle.laws_data.proofs.binary_lemmas.Nodes.{decoded_is_spelt}
use Rattle.rules_files.specs.snapshots.Spelling.{signed, mark, node_spelling}
use Rattle.rules_files.specs.snapshots.Reading.{Reader, ◌>>=◌, taken, number_at, signed_at, mark_of, mark_at, field_of, field_at, node_by, node_at}
use Rattle.laws_files.specs.snapshots.Laws.{Takes}
use Rattle.laws_files.proofs.snapshots_lemmas.Sixteen.{be_bytes_16}

-- ---- steps of reading

abbrev pub done : {A : Type 0} → A → Result A ℕ
done x = Ok x

pub ok_is : {A : Type 0} (x y : A) → done x ≡ done y → x ≡ y
ok_is x y e = cc

pub bind_ok : {A B : Type 0} (r : Result A ℕ) (f : A → Result B ℕ) (y : B) → (r >>= f) ≡ Ok y → (x : A) × (r ≡ Ok x) × (f x ≡ Ok y)
bind_ok (Ok x) f y e = (x, refl, e)
bind_ok (Err d) f y e = absurd cc

pub guard_ok : {A : Type 0} (b : Bool) (d : ℕ) (x : Result A ℕ) (y : A) → cond b (Err d) x ≡ Ok y → (b ≡ false) × (x ≡ Ok y)
guard_ok true d x y e = absurd cc
guard_ok false d x y e = (refl, e)

pub takes_then : (a b c : Spot) (x y : List ℕ) → Takes a x b → Takes b y c → Takes a (x ++ y) c
takes_then a b c x y p q =
    (p.0 ∙ ap (λ (r : List ℕ). x ++ r) q.0 ∙ sym (append_assoc x y c.left), omega (arith, p.1, q.1, length-append x y))

pub takes_nothing : (s : Spot) → Takes s [] s
takes_nothing s = (refl, omega arith)

pub IsBytes-after : (text left : List ℕ) → IsBytes (text ++ left) → IsBytes left
IsBytes-after [] left h = h
IsBytes-after (b ∷ bs) left h = IsBytes-after bs left (λ i. h (suc i))

pub IsBytes-front : (text left : List ℕ) → IsBytes (text ++ left) → IsBytes text
IsBytes-front [] left h i = omega arith
IsBytes-front (b ∷ bs) left h zero = h 0
IsBytes-front (b ∷ bs) left h (suc i) = IsBytes-front bs left (λ j. h (suc j)) i

pub rest_fits : (s after : Spot) (text : List ℕ) → Takes s text after → IsBytes s.left → IsBytes after.left
rest_fits s after text t h = IsBytes-after text after.left (subst IsBytes t.0 h)

pub text_fits : (s after : Spot) (text : List ℕ) → Takes s text after → IsBytes s.left → IsBytes text
text_fits s after text t h = IsBytes-front text after.left (subst IsBytes t.0 h)

-- what a reader reads is spelt so
abbrev pub Reads : {A : Type 0} → Reader A → (A → List ℕ) → Type 0
Reads {A} f spell = (s after : Spot) (x : A) → IsBytes s.left → f s ≡ Ok (x, after) → Takes s (spell x) after

-- ---- bytes and numbers

pub taken_takes : (n : ℕ) (s after : Spot) (b : List ℕ) → taken n s ≡ Ok (b, after) → Takes s b after × (length b ≡ n)
unfolding taken
taken_takes n s after b e =
    let g = guard_ok (ltb (length s.left) n) s.place (Ok (take n s.left, past n s)) (b, after) e in
    let long : n ≤ length s.left = ltb-false _ _ g.0 in
    let len : length (take n s.left) ≡ n = omega (arith, length-take n s.left) in
    let made : List ℕ × Spot = (take n s.left, past n s) in
    subst (λ (p : List ℕ × Spot). Takes s p.0 p.1 × (length p.0 ≡ n)) (ok_is made (b, after) g.1)
    ((sym (take-append-drop n s.left), omega (arith, len)), len)

-- bytes of this width are the spelling of their number
abbrev pub IsWhole : Width → Type 0
IsWhole w = (bs : List ℕ) (n : ℕ) → length bs ≡ byte_len w → ((i : ℕ) → get_or bs i 0 < 256) → n ≡ from_be_bytes w bs → to_be_bytes w n ≡ bs

pub whole_32 : IsWhole w32
whole_32 = be_bytes_4

pub whole_64 : IsWhole w64
whole_64 = be_bytes_8

pub whole_128 : IsWhole w128
whole_128 = be_bytes_16

-- the bytes are kept beside
pub number_parts : (w : Width) → IsWhole w → (s after : Spot) (n : ℕ) → IsBytes s.left → number_at w s ≡ Ok (n, after)
    → Takes s (to_be_bytes w n) after × ((bs : List ℕ) × (n ≡ from_be_bytes w bs) × (length bs ≡ byte_len w) × IsBytes bs)
unfolding number_at
number_parts w whole s after n fits e =
    let a = bind_ok (taken (byte_len w) s) (λ b. Ok (from_be_bytes w b.0, b.1)) (n, after) e in
    let t = taken_takes (byte_len w) s a.0.1 a.0.0 a.1 in
    let bytes : IsBytes a.0.0 = text_fits s a.0.1 a.0.0 t.0 fits in
    let same : to_be_bytes w (from_be_bytes w a.0.0) ≡ a.0.0 = whole a.0.0 (from_be_bytes w a.0.0) t.1 bytes refl in
    let made : ℕ × Spot = (from_be_bytes w a.0.0, a.0.1) in
    subst (λ (p : ℕ × Spot). Takes s (to_be_bytes w p.0) p.1 × ((bs : List ℕ) × (p.0 ≡ from_be_bytes w bs) × (length bs ≡ byte_len w) × IsBytes bs)) (ok_is made (n, after) a.2)
    (subst (λ (b : List ℕ). Takes s b a.0.1) (sym same) t.0, (a.0.0, refl, t.1, bytes))

pub number_takes : (w : Width) → IsWhole w → Reads (number_at w) (to_be_bytes w)
number_takes w whole s after n fits e = (number_parts w whole s after n fits e).0

pub below_32 : (bs : List ℕ) → IsBytes bs → from_be_bytes w32 bs < 2 ^ 32
below_32 bs small = omega (arith, small 0, small 1, small 2, small 3)

pub below_64 : (bs : List ℕ) → IsBytes bs → from_be_bytes w64 bs < 2 ^ 64
below_64 bs small = omega (arith, small 0, small 1, small 2, small 3, small 4, small 5, small 6, small 7)

pub below_128 : (bs : List ℕ) → IsBytes bs → from_be_bytes w128 bs < 2 ^ 128
below_128 bs small = omega (arith, small 0, small 1, small 2, small 3, small 4, small 5, small 6, small 7, small 8, small 9, small 10, small 11, small 12, small 13, small 14, small 15)

-- numbers of this width are those of signed ones
abbrev pub IsKept : Width → Type 0
IsKept w = (bs : List ℕ) → IsBytes bs → cast_unsigned w (cast_signed w (from_be_bytes w bs)) ≡ from_be_bytes w bs

kept_64 : IsKept w64
kept_64 bs small = of_z-to_z w64 (from_be_bytes w64 bs) (below_64 bs small)

kept_128 : IsKept w128
kept_128 bs small = of_z-to_z w128 (from_be_bytes w128 bs) (below_128 bs small)

pub signed_takes : (w : Width) → IsWhole w → IsKept w → Reads (signed_at w) (signed w)
unfolding signed_at
signed_takes w whole kept s after z fits e =
    let a = bind_ok (number_at w s) (λ n. Ok (cast_signed w n.0, n.1)) (z, after) e in
    let t = number_parts w whole s a.0.1 a.0.0 fits a.1 in
    let back : cast_unsigned w (cast_signed w a.0.0) ≡ a.0.0 = subst (λ (n : ℕ). cast_unsigned w (cast_signed w n) ≡ n) (sym t.1.1) (kept t.1.0 t.1.3) in
    let same : to_be_bytes w a.0.0 ≡ signed w (cast_signed w a.0.0) = ap (to_be_bytes w) (sym back) in
    let made : ℤ × Spot = (cast_signed w a.0.0, a.0.1) in
    subst (λ (p : ℤ × Spot). Takes s (signed w p.0) p.1) (ok_is made (z, after) a.2) (subst (λ (b : List ℕ). Takes s b a.0.1) same t.0)

pub moment_takes : Reads (signed_at w64) (signed w64)
moment_takes = signed_takes w64 whole_64 kept_64

pub amount_takes : Reads (signed_at w128) (signed w128)
amount_takes = signed_takes w128 whole_128 kept_128

-- ---- marks

mark_of_takes : (place : ℕ) (bs : List ℕ) (b : Bool) (after : Spot) → mark_of place bs ≡ Ok (b, after)
    → (bs ≡ mark b ++ after.left) × (after.place ≡ place + length (mark b))
mark_of_takes place [] b after e = absurd cc
mark_of_takes place (zero ∷ bs) b after e =
    let made : Bool × Spot = (false, record { place = place + 1; left = bs }) in
    subst (λ (p : Bool × Spot). ((zero ∷ bs) ≡ mark p.0 ++ p.1.left) × (p.1.place ≡ place + length (mark p.0))) (ok_is made (b, after) e) (refl, refl)
mark_of_takes place (suc zero ∷ bs) b after e =
    let made : Bool × Spot = (true, record { place = place + 1; left = bs }) in
    subst (λ (p : Bool × Spot). ((1 ∷ bs) ≡ mark p.0 ++ p.1.left) × (p.1.place ≡ place + length (mark p.0))) (ok_is made (b, after) e) (refl, refl)
mark_of_takes place (suc (suc n) ∷ bs) b after e = absurd cc

pub mark_takes : Reads mark_at mark
unfolding mark_at
mark_takes s after b fits e = mark_of_takes s.place s.left b after e

-- ---- fields

pub field_takes : Reads field_at field
unfolding field_at field
field_takes s after f fits e =
    let a = bind_ok (number_at w32 s) (λ n. field_of s.place n) (f, after) e in
    let n = a.0.0 in
    let t = number_takes w32 whole_32 s a.0.1 n fits a.1 in
    let g = guard_ok (ltb (length a.0.1.left) n) s.place (Ok (take n a.0.1.left, past n a.0.1)) (f, after) a.2 in
    let long : n ≤ length a.0.1.left = ltb-false _ _ g.0 in
    let len : length (take n a.0.1.left) ≡ n = omega (arith, length-take n a.0.1.left) in
    let content : Takes a.0.1 (take n a.0.1.left) (past n a.0.1) = (sym (take-append-drop n a.0.1.left), omega (arith, len)) in
    let whole : Takes s (to_be_bytes w32 n ++ take n a.0.1.left) (past n a.0.1) = takes_then s a.0.1 (past n a.0.1) (to_be_bytes w32 n) (take n a.0.1.left) t content in
    let made : List ℕ × Spot = (take n a.0.1.left, past n a.0.1) in
    subst (λ (p : List ℕ × Spot). Takes s (to_be_bytes w32 (length p.0) ++ p.0) p.1) (ok_is made (f, after) g.1)
    (subst (λ (m : ℕ). Takes s (to_be_bytes w32 m ++ take n a.0.1.left) (past n a.0.1)) (sym len) whole)

pub field_fits : (content rest : List ℕ) → IsBytes (field content ++ rest) → IsBytes content
unfolding field
field_fits content rest h = IsBytes-after (to_be_bytes w32 (length content)) content (IsBytes-front (field content) rest h)

node_by_takes : (r : Result Tree Fault) (place : ℕ) (s after : Spot) (t : Tree) → node_by r place s ≡ Ok (t, after) → (r ≡ Ok t) × (s ≡ after)
node_by_takes (Ok u) place s after t e =
    let made : Tree × Spot = (u, s) in
    let same = ok_is made (t, after) e in
    (ap (λ (p : Tree × Spot). Ok p.0) same, ap (λ (p : Tree × Spot). p.1) same)
node_by_takes (Err f) place s after t e = absurd cc

pub node_takes : Reads node_at node_spelling
unfolding node_at
node_takes s after t fits e =
    let a = bind_ok (field_at s) (λ f. node_by (decoded f.0) s.place f.1) (t, after) e in
    let f = field_takes s a.0.1 a.0.0 fits a.1 in
    let n = node_by_takes (decoded a.0.0) s.place a.0.1 after t a.2 in
    let bytes : IsBytes a.0.0 = field_fits a.0.0 a.0.1.left (subst IsBytes f.0 fits) in
    let same : a.0.0 ≡ spelling t = decoded_is_spelt a.0.0 t bytes n.0 in
    subst (λ (p : Spot). Takes s (field (spelling t)) p) n.1 (subst (λ (b : List ℕ). Takes s (field b) a.0.1) same f)
