-- Fields and values are read from their spelling, whatever stands behind it.
use Rattle.std.proofs.Common.{◌≡◌, ℕ, ◌+◌, ◌<◌, ◌^◌, Bool, true, false, nat_lt, ℤ, pos, negsuc, FitsSigned, List, [], ◌++◌, length, take, drop, Result, Ok, refl, sym, ap, subst, ◌∙◌, append_assoc, arith}
use Rattle.std.specs.Int.{Width, w32, w64, w128, byte_len, from_be_bytes, to_be_bytes, cast_signed, cast_unsigned}
use Rattle.std.proofs.Math.Seq.{take-append_seam, drop-append_seam}
use Rattle.std.proofs.lemmas.Bool.Decides.{nat_tests}
use Rattle.std.proofs.lemmas.Int.{to_z-of_z}
use Rattle.std.proofs.lemmas.List.{length-append}
use Rattle.std.proofs.lemmas.Nat.{from_be_bytes-to_be_bytes_4, from_be_bytes-to_be_bytes_8}
use Rattle.rules_text.specs.nodes.Tree.{Tree}
use Rattle.rules_text.specs.binary.Spelling.{field, spelling}
use Rattle.rules_text.specs.binary.Reading.{Spot, decoded}
use Rattle.rules_code.specs.evaluation.Contracts.{hash_in}
use Rattle.rules_data.specs.forms.Spelling.{contract_place}
use Rattle.rules_data.specs.declared.types.Simple.{Simple}
use Rattle.rules_data.specs.declared.types.Simple.TheVariants as s
use Rattle.rules_data.specs.types.Kind.{Kind}
use Rattle.rules_data.specs.types.Kind as k
use Rattle.rules_data.specs.values.Val.{Val, Vals, no_val, more_vals, Pairs, no_pair, more_pairs}
use Rattle.rules_data.specs.values.Val as v
use Rattle.rules_data.specs.values.Forms.{AllHave, AllEntriesHave}
use Rattle.rules_files.specs.snapshots.Spelling.{four, eight, signed, mark, count_vals, count_pairs, node_spelling, value_spelling, value_spellings, entry_spellings}
use Rattle.rules_files.specs.snapshots.Reading.{Reader, ◌>>=◌, taken, number_at, signed_at, mark_at, field_of, field_at, node_by, node_at, option_by, or_by, vals_at, pairs_at, items_at, entries_at, ticket_at, simple_at, value_at}
use Rattle.rules_files.specs.snapshots.Spelt.{IsShort, IsNode, HasSimpleSpelling, HasSpelling}
use Rattle.laws_files.proofs.snapshots_lemmas.Sixteen.{from_be_bytes-to_be_bytes_16}
use Rattle.laws_files.proofs.snapshots_lemmas.Values.{hash_is}

abbrev pub spot : ℕ → List ℕ → Spot
spot place left = record { place = place; left = left }

-- this text is read as this, whatever stands behind it
abbrev pub Gives : {A : Type 0} → Reader A → List ℕ → A → Type 0
Gives f text x = (place : ℕ) (rest : List ℕ) → (after : ℕ) × (f (spot place (text ++ rest)) ≡ Ok (x, spot after rest))

-- ---- one reader behind another

pub then_gives : {A B : Type 0} (f : Reader A) (k : A × Spot → Result (B × Spot) ℕ) (a b : List ℕ) (x : A) (y : B)
    → Gives f a x → Gives (λ r. k (x, r)) b y → Gives (λ r. f r >>= k) (a ++ b) y
then_gives f k a b x y gf gk place rest =
    let first = gf place (b ++ rest) in
    let second = gk first.0 rest in
    (second.0, ap (λ (left : List ℕ). f (spot place left) >>= k) (append_assoc a b rest) ∙ ap (λ r. r >>= k) first.1 ∙ second.1)

-- what stands behind may ask for the place before
pub placed_gives : {A B : Type 0} (f : Reader A) (k : ℕ → A × Spot → Result (B × Spot) ℕ) (a b : List ℕ) (x : A) (y : B)
    → Gives f a x → ((p : ℕ) → Gives (λ r. k p (x, r)) b y) → Gives (λ r. f r >>= k r.place) (a ++ b) y
placed_gives f k a b x y gf gk place rest =
    let first = gf place (b ++ rest) in
    let second = gk place first.0 rest in
    (second.0, ap (λ (left : List ℕ). f (spot place left) >>= k place) (append_assoc a b rest) ∙ ap (λ r. r >>= k place) first.1 ∙ second.1)

pub last_gives : {A B : Type 0} (f : Reader A) (h : A → B) (a : List ℕ) (x : A) → Gives f a x → Gives (λ r. f r >>= λ p. Ok (h p.0, p.1)) a (h x)
last_gives f h a x gf place rest =
    let first = gf place rest in
    (first.0, ap (λ r. r >>= λ p. Ok (h p.0, p.1)) first.1)

-- ---- fields

taken_by : (s : Spot) (n : ℕ) (b rest : List ℕ) → nat_lt (length s.left) n ≡ false → take n s.left ≡ b → drop n s.left ≡ rest
    → taken n s ≡ Ok (b, spot (s.place + n) rest)
unfolding taken
taken_by s n b rest long front back = rw (long, front, back) refl

pub taken_gives : (b : List ℕ) → Gives (taken (length b)) b b
taken_gives b place rest =
    let long : nat_lt (length (b ++ rest)) (length b) ≡ false = grind (arith, nat_tests, length-append b rest) in
    (place + length b, taken_by (spot place (b ++ rest)) (length b) b rest long (take-append_seam b rest) (drop-append_seam b rest))

pub taken_as : (n : ℕ) (b : List ℕ) → length b ≡ n → Gives (taken n) b b
taken_as n b is = subst (λ (m : ℕ). Gives (taken m) b b) is (taken_gives b)

number_gives : (w : Width) (n : ℕ) → length (to_be_bytes w n) ≡ byte_len w → from_be_bytes w (to_be_bytes w n) ≡ n → Gives (number_at w) (to_be_bytes w n) n
unfolding number_at
number_gives w n len back =
    subst (Gives (number_at w) (to_be_bytes w n)) back
    (last_gives (taken (byte_len w)) (from_be_bytes w) (to_be_bytes w n) (to_be_bytes w n) (taken_as (byte_len w) (to_be_bytes w n) len))

pub four_gives : (n : ℕ) → n < 2 ^ 32 → Gives (number_at w32) (four n) n
four_gives n h = number_gives w32 n refl (from_be_bytes-to_be_bytes_4 n h)

pub eight_gives : (n : ℕ) → n < 2 ^ 64 → Gives (number_at w64) (eight n) n
eight_gives n h = number_gives w64 n refl (from_be_bytes-to_be_bytes_8 n h)

below_64 : (z : ℤ) → FitsSigned w64 z → cast_unsigned w64 z < 2 ^ 64
below_64 (pos n) h = omega (arith, h)
below_64 (negsuc n) h = omega (arith, h)

below_128 : (z : ℤ) → FitsSigned w128 z → cast_unsigned w128 z < 2 ^ 128
below_128 (pos n) h = omega (arith, h)
below_128 (negsuc n) h = omega (arith, h)

pub moment_gives : (z : ℤ) → FitsSigned w64 z → Gives (signed_at w64) (signed w64 z) z
unfolding signed_at
moment_gives z h =
    subst (Gives (signed_at w64) (signed w64 z)) (to_z-of_z w64 z h)
    (last_gives (number_at w64) (cast_signed w64) (signed w64 z) (cast_unsigned w64 z) (eight_gives (cast_unsigned w64 z) (below_64 z h)))

pub amount_gives : (z : ℤ) → FitsSigned w128 z → Gives (signed_at w128) (signed w128 z) z
unfolding signed_at
amount_gives z h =
    let n = cast_unsigned w128 z in
    let number : Gives (number_at w128) (to_be_bytes w128 n) n = number_gives w128 n refl (from_be_bytes-to_be_bytes_16 n (below_128 z h)) in
    subst (Gives (signed_at w128) (signed w128 z)) (to_z-of_z w128 z h) (last_gives (number_at w128) (cast_signed w128) (signed w128 z) n number)

pub mark_gives : (b : Bool) → Gives mark_at (mark b) b
unfolding mark_at
mark_gives false place rest = (place + 1, refl)
mark_gives true place rest = (place + 1, refl)

field_by : (place : ℕ) (r : Spot) (b rest : List ℕ) → r.left ≡ b ++ rest → field_of place (length b, r) ≡ Ok (b, spot (r.place + length b) rest)
field_by place r b rest is =
    let long : nat_lt (length r.left) (length b) ≡ false = grind (arith, nat_tests, ap length is, length-append b rest) in
    let front : take (length b) r.left ≡ b = ap (take (length b)) is ∙ take-append_seam b rest in
    let back : drop (length b) r.left ≡ rest = ap (drop (length b)) is ∙ drop-append_seam b rest in
    rw (long, front, back) refl

pub field_gives : (b : List ℕ) → IsShort b → Gives field_at (field b) b
unfolding field_at field
field_gives b h =
    placed_gives (number_at w32) (λ p n. field_of p n) (four (length b)) b (length b) b (four_gives (length b) h)
    (λ p place rest. (place + length b, field_by p (spot place (b ++ rest)) b rest refl))

pub node_gives : (t : Tree) → IsNode t → Gives node_at (node_spelling t) t
unfolding node_at
node_gives t h place rest =
    let f = field_gives (spelling t) h.0 place rest in
    (f.0, ap (λ r. r >>= λ f. node_by (decoded f.0) place f.1) f.1 ∙ ap (λ d. node_by d place (spot f.0 rest)) h.1)

-- ---- values

pub vals_give : (f : Reader Val) (P : Val → Type 0) → ((x : Val) → P x → Gives f (value_spelling x) x) → (xs : Vals) → AllHave P xs
    → Gives (vals_at f (count_vals xs)) (value_spellings xs) xs
vals_give f P gives no_val h = λ place rest. (place, refl)
vals_give f P gives (more_vals x xs) h =
    then_gives f (λ a. vals_at f (count_vals xs) a.1 >>= λ b. Ok (more_vals a.0 b.0, b.1)) (value_spelling x) (value_spellings xs) x (more_vals x xs) (gives x h.0)
    (last_gives (vals_at f (count_vals xs)) (λ ys. more_vals x ys) (value_spellings xs) xs (vals_give f P gives xs h.1))

pub pairs_give : (f g : Reader Val) (P Q : Val → Type 0) → ((x : Val) → P x → Gives f (value_spelling x) x) → ((y : Val) → Q y → Gives g (value_spelling y) y)
    → (es : Pairs) → AllEntriesHave P Q es → Gives (pairs_at f g (count_pairs es)) (entry_spellings es) es
pairs_give f g P Q gives_f gives_g no_pair h = λ place rest. (place, refl)
pairs_give f g P Q gives_f gives_g (more_pairs x y es) h =
    then_gives f (λ a. g a.1 >>= λ b. pairs_at f g (count_pairs es) b.1 >>= λ c. Ok (more_pairs a.0 b.0 c.0, c.1)) (value_spelling x) (value_spelling y ++ entry_spellings es) x (more_pairs x y es)
    (gives_f x h.0)
    (then_gives g (λ b. pairs_at f g (count_pairs es) b.1 >>= λ c. Ok (more_pairs x b.0 c.0, c.1)) (value_spelling y) (entry_spellings es) y (more_pairs x y es) (gives_g y h.1)
    (last_gives (pairs_at f g (count_pairs es)) (λ ds. more_pairs x y ds) (entry_spellings es) es (pairs_give f g P Q gives_f gives_g es h.2)))

items_give : (made : Vals → Val) (f : Reader Val) (P : Val → Type 0) → ((x : Val) → P x → Gives f (value_spelling x) x) → (xs : Vals) → count_vals xs < 2 ^ 64 → AllHave P xs
    → Gives (items_at made f) (eight (count_vals xs) ++ value_spellings xs) (made xs)
items_give made f P gives xs small h =
    then_gives (number_at w64) (λ n. vals_at f n.0 n.1 >>= λ ys. Ok (made ys.0, ys.1)) (eight (count_vals xs)) (value_spellings xs) (count_vals xs) (made xs)
    (eight_gives (count_vals xs) small)
    (last_gives (vals_at f (count_vals xs)) made (value_spellings xs) xs (vals_give f P gives xs h))

entries_give : (made : Pairs → Val) (f g : Reader Val) (P Q : Val → Type 0) → ((x : Val) → P x → Gives f (value_spelling x) x) → ((y : Val) → Q y → Gives g (value_spelling y) y)
    → (es : Pairs) → count_pairs es < 2 ^ 64 → AllEntriesHave P Q es → Gives (entries_at made f g) (eight (count_pairs es) ++ entry_spellings es) (made es)
entries_give made f g P Q gives_f gives_g es small h =
    then_gives (number_at w64) (λ n. pairs_at f g n.0 n.1 >>= λ ys. Ok (made ys.0, ys.1)) (eight (count_pairs es)) (entry_spellings es) (count_pairs es) (made es)
    (eight_gives (count_pairs es) small)
    (last_gives (pairs_at f g (count_pairs es)) made (entry_spellings es) es (pairs_give f g P Q gives_f gives_g es h))

ticket_gives : (a : Kind) (f : Reader Val) (hash : List ℕ) (content : Val) (amount : ℤ) → length hash ≡ 20 → Gives f (value_spelling content) content → FitsSigned w128 amount
    → Gives (ticket_at a f) (hash ++ (value_spelling content ++ signed w128 amount)) (v.ticket (contract_place hash) a content amount)
ticket_gives a f hash content amount len gives h =
    then_gives (taken 20) (λ i. f i.1 >>= λ c. signed_at w128 c.1 >>= λ n. Ok (v.ticket (contract_place i.0) a c.0 n.0, n.1)) hash (value_spelling content ++ signed w128 amount)
    hash (v.ticket (contract_place hash) a content amount) (taken_as 20 hash len)
    (then_gives f (λ c. signed_at w128 c.1 >>= λ n. Ok (v.ticket (contract_place hash) a c.0 n.0, n.1)) (value_spelling content) (signed w128 amount)
    content (v.ticket (contract_place hash) a content amount) gives
    (last_gives (signed_at w128) (λ n. v.ticket (contract_place hash) a content n) (signed w128 amount) amount (amount_gives amount h)))

simple_gives : (c : Simple) (x : Val) → HasSimpleSpelling c x → Gives (simple_at c) (value_spelling x) x
simple_gives s.Unit v.unit h = λ place rest. (place, refl)
simple_gives s.Bool (v.truth b) h = last_gives mark_at v.truth (mark b) b (mark_gives b)
simple_gives s.Int (v.number n) h = last_gives (signed_at w128) v.number (signed w128 n) n (amount_gives n h)
simple_gives s.Nat (v.number n) h = last_gives (signed_at w128) v.number (signed w128 n) n (amount_gives n h)
simple_gives s.Mutez (v.number n) h = last_gives (signed_at w128) v.number (signed w128 n) n (amount_gives n h)
simple_gives s.Timestamp (v.number n) h = last_gives (signed_at w128) v.number (signed w128 n) n (amount_gives n h)
simple_gives s.String (v.text b) h = last_gives field_at v.text (field b) b (field_gives b h)
simple_gives s.Bytes (v.bytes b) h = last_gives field_at v.bytes (field b) b (field_gives b h)
simple_gives s.Key (v.bytes b) h = last_gives field_at v.bytes (field b) b (field_gives b h)
simple_gives s.KeyHash (v.bytes b) h = last_gives field_at v.bytes (field b) b (field_gives b h)
simple_gives s.Signature (v.bytes b) h = last_gives field_at v.bytes (field b) b (field_gives b h)
simple_gives s.ChainId (v.bytes b) h = last_gives field_at v.bytes (field b) b (field_gives b h)
simple_gives s.Address (v.bytes b) h = last_gives field_at v.bytes (field b) b (field_gives b h)
simple_gives c x h = absurd h

pub value_gives : (a : Kind) (x : Val) → HasSpelling a x → Gives (value_at a) (value_spelling x) x
value_gives (k.simple c) x h = simple_gives c x h
value_gives (k.option a) v.nothing h = then_gives mark_at (λ m. option_by (value_at a) m.0 m.1) (mark false) [] false v.nothing (mark_gives false) (λ place rest. (place, refl))
value_gives (k.option a) (v.some x) h =
    then_gives mark_at (λ m. option_by (value_at a) m.0 m.1) (mark true) (value_spelling x) true (v.some x) (mark_gives true)
    (last_gives (value_at a) v.some (value_spelling x) x (value_gives a x h))
value_gives (k.or a b) (v.left x) h =
    then_gives mark_at (λ m. or_by (value_at a) (value_at b) m.0 m.1) (mark false) (value_spelling x) false (v.left x) (mark_gives false)
    (last_gives (value_at a) v.left (value_spelling x) x (value_gives a x h))
value_gives (k.or a b) (v.right x) h =
    then_gives mark_at (λ m. or_by (value_at a) (value_at b) m.0 m.1) (mark true) (value_spelling x) true (v.right x) (mark_gives true)
    (last_gives (value_at b) v.right (value_spelling x) x (value_gives b x h))
value_gives (k.pair a b) (v.both x y) h =
    then_gives (value_at a) (λ p. value_at b p.1 >>= λ q. Ok (v.both p.0 q.0, q.1)) (value_spelling x) (value_spelling y) x (v.both x y) (value_gives a x h.0)
    (last_gives (value_at b) (λ q. v.both x q) (value_spelling y) y (value_gives b y h.1))
value_gives (k.list a) (v.list xs) h = items_give v.list (value_at a) (HasSpelling a) (λ x is. value_gives a x is) xs h.0 h.1
value_gives (k.set a) (v.set xs) h = items_give v.set (value_at a) (HasSpelling a) (λ x is. value_gives a x is) xs h.0 h.1
value_gives (k.map a b) (v.table es) h =
    entries_give v.table (value_at a) (value_at b) (HasSpelling a) (HasSpelling b) (λ x is. value_gives a x is) (λ y is. value_gives b y is) es h.0 h.1
value_gives (k.big_map a b) (v.big_table es) h =
    entries_give v.big_table (value_at a) (value_at b) (HasSpelling a) (HasSpelling b) (λ x is. value_gives a x is) (λ y is. value_gives b y is) es h.0 h.1
value_gives (k.lambda a b) (v.lambda t recursive) h =
    then_gives mark_at (λ m. node_at m.1 >>= λ n. Ok (v.lambda n.0 m.0, n.1)) (mark recursive) (node_spelling t) recursive (v.lambda t recursive) (mark_gives recursive)
    (last_gives node_at (λ n. v.lambda n recursive) (node_spelling t) t (node_gives t h))
value_gives (k.ticket a) (v.ticket issuer kind content amount) h =
    let hash = h.1.0 in
    let gives = ticket_gives a (value_at a) hash content amount h.1.1 (value_gives a content h.2) h.3 in
    let text : hash ++ (value_spelling content ++ signed w128 amount) ≡ value_spelling (v.ticket issuer kind content amount) =
    ap (λ (b : List ℕ). b ++ (value_spelling content ++ signed w128 amount)) (sym (hash_is hash h.1.1) ∙ ap hash_in (sym h.1.2)) in
    let result : v.ticket (contract_place hash) a content amount ≡ v.ticket issuer kind content amount =
    ap (λ (p : List ℕ). v.ticket p a content amount) (sym h.1.2) ∙ ap (λ (b : Kind). v.ticket issuer b content amount) (sym h.0) in
    subst (λ (b : List ℕ). Gives (value_at (k.ticket a)) b (v.ticket issuer kind content amount)) text
    (subst (Gives (value_at (k.ticket a)) (hash ++ (value_spelling content ++ signed w128 amount))) result gives)
value_gives a x h = absurd h
