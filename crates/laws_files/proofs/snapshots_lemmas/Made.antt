-- What is read has a spelling.
use Rattle.std.proofs.Common.{◌≡◌, ℕ, zero, suc, ◌<◌, ◌^◌, Bool, true, false, ltb, ℤ, FitsSigned, List, length, take, Result, Ok, Err, refl, sym, ap, subst, ◌∙◌, arith}
use Rattle.std.specs.Int.{Width, w32, w64, w128, from_be_bytes, cast_signed}
use Rattle.std.proofs.Math.Facts.{sfits_to_z}
use Rattle.std.proofs.lemmas.Bool.{ltb-false}
use Rattle.std.proofs.lemmas.List.{length-take}
use Rattle.rules_text.specs.nodes.Tree.{Tree}
use Rattle.rules_text.specs.binary.Spelling.{field, spelling}
use Rattle.rules_text.specs.binary.Reading.{Spot, past, Fault, decoded}
use Rattle.rules_data.specs.forms.Spelling.{contract_place}
use Rattle.rules_data.specs.declared.types.Simple.{Simple}
use Rattle.rules_data.specs.declared.types.Simple.TheVariants as s
use Rattle.rules_data.specs.types.Kind.{Kind}
use Rattle.rules_data.specs.types.Kind as k
use Rattle.rules_data.specs.values.Val.{Val, Vals, no_val, more_vals, Pairs, no_pair, more_pairs}
use Rattle.rules_data.specs.values.Val as v
use Rattle.rules_data.specs.values.Forms.{AllHave, AllEntriesHave}
use Rattle.laws_data.specs.binary.Laws.{IsBytes}
use Rattle.rules_files.specs.snapshots.Spelling.{four, eight, signed, mark, count_vals, count_pairs, node_spelling, value_spelling}
use Rattle.rules_files.specs.snapshots.Spelt.{IsShort, IsNode, HasSimpleSpelling, HasSpelling}
use Rattle.rules_files.specs.snapshots.Reading.{Reader, ◌>>=◌, taken, number_at, signed_at, mark_at, field_of, field_at, node_by, node_at, both_at, option_by, option_at, or_by, or_at, vals_at, pairs_at, items_at, entries_at, lambda_at, ticket_at, number_value_at, text_at, bytes_at, truth_at, nothing_at, simple_at, value_at}
use Rattle.laws_data.proofs.binary_lemmas.Nodes.{decoded_is_spelt}
use Rattle.laws_files.proofs.snapshots_lemmas.Fields.{ok_is, bind_ok, guard_ok, rest_fits, field_fits, Reads, taken_takes, whole_32, whole_64, whole_128, IsWhole, number_parts, number_takes, amount_takes, mark_takes, field_takes, node_takes, below_32, below_64, below_128}
use Rattle.laws_files.proofs.snapshots_lemmas.Values.{vals_takes, pairs_takes, value_takes}

-- what this reader reads is so
abbrev pub Makes : {A : Type 0} → Reader A → (A → Type 0) → Type 0
Makes {A} f P = (s after : Spot) (x : A) → IsBytes s.left → f s ≡ Ok (x, after) → P x

-- one field, and what is read behind it
pub reads_then : {A B G : Type 0} (f : Reader A) (p : A → List ℕ) → Reads f p → (s : Spot) (k : A × Spot → Result B ℕ) (y : B) → IsBytes s.left → (f s >>= k) ≡ Ok y
    → ((a : A) (r : Spot) → f s ≡ Ok (a, r) → IsBytes r.left → k (a, r) ≡ Ok y → G) → G
reads_then f p reads s k y fits e next =
    let x = bind_ok (f s) k y e in
    next x.0.0 x.0.1 x.1 (rest_fits s x.0.1 (p x.0.0) (reads s x.0.1 x.0.0 fits x.1) fits) x.2

abbrev made_ok : {A : Type 0} → A → Spot → Result (A × Spot) ℕ
made_ok x r = Ok (x, r)

pub result_is : {A : Type 0} (P : A → Type 0) (x y : A) (r after : Spot) → P x → made_ok x r ≡ made_ok y after → P y
result_is {A} P x y r after is e = subst P (ap (λ (p : A × Spot). p.0) (ok_is (x, r) (y, after) e)) is

-- ---- numbers and fields

pub four_made : Makes (number_at w32) (λ n. n < 2 ^ 32)
four_made s after n fits e =
    let p = (number_parts w32 whole_32 s after n fits e).1 in
    subst (λ (m : ℕ). m < 2 ^ 32) (sym p.1) (below_32 p.0 p.3)

pub eight_made : Makes (number_at w64) (λ n. n < 2 ^ 64)
eight_made s after n fits e =
    let p = (number_parts w64 whole_64 s after n fits e).1 in
    subst (λ (m : ℕ). m < 2 ^ 64) (sym p.1) (below_64 p.0 p.3)

signed_fits : (w : Width) → IsWhole w → ((bs : List ℕ) → IsBytes bs → FitsSigned w (cast_signed w (from_be_bytes w bs))) → Makes (signed_at w) (FitsSigned w)
unfolding signed_at
signed_fits w whole within s after z fits e =
    let a = bind_ok (number_at w s) (λ n. Ok (cast_signed w n.0, n.1)) (z, after) e in
    let p = (number_parts w whole s a.0.1 a.0.0 fits a.1).1 in
    result_is (FitsSigned w) (cast_signed w a.0.0) z a.0.1 after (subst (λ (n : ℕ). FitsSigned w (cast_signed w n)) (sym p.1) (within p.0 p.3)) a.2

pub moment_made : Makes (signed_at w64) (FitsSigned w64)
moment_made = signed_fits w64 whole_64 (λ bs bytes. sfits_to_z {w = w64} {n = from_be_bytes w64 bs} (record { fits = below_64 bs bytes }))

pub amount_made : Makes (signed_at w128) (FitsSigned w128)
amount_made = signed_fits w128 whole_128 (λ bs bytes. sfits_to_z {w = w128} {n = from_be_bytes w128 bs} (record { fits = below_128 bs bytes }))

field_of_short : (place n : ℕ) (r after : Spot) (f : List ℕ) → n < 2 ^ 32 → field_of place (n, r) ≡ Ok (f, after) → IsShort f
field_of_short place n r after f h e =
    let g = guard_ok (ltb (length r.left) n) place (Ok (take n r.left, past n r)) (f, after) e in
    result_is IsShort (take n r.left) f (past n r) after (omega (arith, length-take n r.left, h, ltb-false _ _ g.0)) g.1

pub field_made : Makes field_at IsShort
unfolding field_at
field_made s after f fits e =
    reads_then (number_at w32) four (number_takes w32 whole_32) s _ (f, after) fits e (λ n r is more back. field_of_short s.place n r after f (four_made s r n fits is) back)

abbrev tree_ok : Tree → Result Tree Fault
tree_ok t = Ok t

node_by_made : (o : Result Tree Fault) (place : ℕ) (r after : Spot) (t : Tree) → node_by o place r ≡ Ok (t, after) → o ≡ Ok t
node_by_made (Ok u) place r after t e = result_is (λ (x : Tree). tree_ok u ≡ tree_ok x) u t r after refl e
node_by_made (Err f) place r after t e = absurd cc

pub node_made : Makes node_at IsNode
unfolding node_at
node_made s after t fits e =
    reads_then field_at field field_takes s _ (t, after) fits e (λ f r is more back.
    let tree : decoded f ≡ Ok t = node_by_made (decoded f) s.place r after t back in
    let bytes : IsBytes f = field_fits f r.left (subst IsBytes (field_takes s r f fits is).0 fits) in
    let same : f ≡ spelling t = decoded_is_spelt f t bytes tree in
    (subst IsShort same (field_made s r f fits is), ap decoded (sym same) ∙ tree))

-- ---- values

vals_made : (f : Reader Val) (P : Val → Type 0) → Reads f value_spelling → Makes f P → (n : ℕ) → Makes (vals_at f n) (AllHave P)
vals_made f P reads makes zero s after xs fits e = result_is (AllHave P) no_val xs s after tt e
vals_made f P reads makes (suc n) s after xs fits e =
    reads_then f value_spelling reads s _ (xs, after) fits e (λ x r is more back.
    let b = bind_ok (vals_at f n r) (λ ys. Ok (more_vals x ys.0, ys.1)) (xs, after) back in
    result_is (AllHave P) (more_vals x b.0.0) xs b.0.1 after (makes s r x fits is, vals_made f P reads makes n r b.0.1 b.0.0 more b.1) b.2)

pairs_made : (f g : Reader Val) (P Q : Val → Type 0) → Reads f value_spelling → Reads g value_spelling → Makes f P → Makes g Q → (n : ℕ) → Makes (pairs_at f g n) (AllEntriesHave P Q)
pairs_made f g P Q rf rg mf mg zero s after es fits e = result_is (AllEntriesHave P Q) no_pair es s after tt e
pairs_made f g P Q rf rg mf mg (suc n) s after es fits e =
    reads_then f value_spelling rf s _ (es, after) fits e (λ x r is more back.
    reads_then g value_spelling rg r _ (es, after) more back (λ y q at rest again.
    let b = bind_ok (pairs_at f g n q) (λ ds. Ok (more_pairs x y ds.0, ds.1)) (es, after) again in
    result_is (AllEntriesHave P Q) (more_pairs x y b.0.0) es b.0.1 after (mf s r x fits is, mg r q y more at, pairs_made f g P Q rf rg mf mg n q b.0.1 b.0.0 rest b.1) b.2))

items_made : (made : Vals → Val) (f : Reader Val) (P R : Val → Type 0) → ((xs : Vals) → count_vals xs < 2 ^ 64 → AllHave P xs → R (made xs)) → Reads f value_spelling → Makes f P → Makes (items_at made f) R
items_made made f P R all reads makes s after x fits e =
    reads_then (number_at w64) eight (number_takes w64 whole_64) s _ (x, after) fits e (λ n r is more back.
    let b = bind_ok (vals_at f n r) (λ ys. Ok (made ys.0, ys.1)) (x, after) back in
    let count = (vals_takes f reads n r b.0.1 b.0.0 more b.1).1 in
    let small : count_vals b.0.0 < 2 ^ 64 = subst (λ (m : ℕ). m < 2 ^ 64) (sym count) (eight_made s r n fits is) in
    result_is R (made b.0.0) x b.0.1 after (all b.0.0 small (vals_made f P reads makes n r b.0.1 b.0.0 more b.1)) b.2)

entries_made : (made : Pairs → Val) (f g : Reader Val) (P Q R : Val → Type 0) → ((es : Pairs) → count_pairs es < 2 ^ 64 → AllEntriesHave P Q es → R (made es))
    → Reads f value_spelling → Reads g value_spelling → Makes f P → Makes g Q → Makes (entries_at made f g) R
entries_made made f g P Q R all rf rg mf mg s after x fits e =
    reads_then (number_at w64) eight (number_takes w64 whole_64) s _ (x, after) fits e (λ n r is more back.
    let b = bind_ok (pairs_at f g n r) (λ ys. Ok (made ys.0, ys.1)) (x, after) back in
    let count = (pairs_takes f g rf rg n r b.0.1 b.0.0 more b.1).1 in
    let small : count_pairs b.0.0 < 2 ^ 64 = subst (λ (m : ℕ). m < 2 ^ 64) (sym count) (eight_made s r n fits is) in
    result_is R (made b.0.0) x b.0.1 after (all b.0.0 small (pairs_made f g P Q rf rg mf mg n r b.0.1 b.0.0 more b.1)) b.2)

option_by_made : (f : Reader Val) (P R : Val → Type 0) → R v.nothing → ((x : Val) → P x → R (v.some x)) → Reads f value_spelling → Makes f P → (m : Bool) → Makes (option_by f m) R
option_by_made f P R none some reads makes false s after x fits e = result_is R v.nothing x s after none e
option_by_made f P R none some reads makes true s after x fits e =
    reads_then f value_spelling reads s _ (x, after) fits e (λ y r is more back. result_is R (v.some y) x r after (some y (makes s r y fits is)) back)

or_by_made : (f g : Reader Val) (P Q R : Val → Type 0) → ((x : Val) → P x → R (v.left x)) → ((x : Val) → Q x → R (v.right x))
    → Reads f value_spelling → Reads g value_spelling → Makes f P → Makes g Q → (m : Bool) → Makes (or_by f g m) R
or_by_made f g P Q R left right rf rg mf mg false s after x fits e =
    reads_then f value_spelling rf s _ (x, after) fits e (λ y r is more back. result_is R (v.left y) x r after (left y (mf s r y fits is)) back)
or_by_made f g P Q R left right rf rg mf mg true s after x fits e =
    reads_then g value_spelling rg s _ (x, after) fits e (λ y r is more back. result_is R (v.right y) x r after (right y (mg s r y fits is)) back)

number_value_made : (R : Val → Type 0) → ((n : ℤ) → FitsSigned w128 n → R (v.number n)) → Makes number_value_at R
number_value_made R all s after x fits e =
    reads_then (signed_at w128) (signed w128) amount_takes s _ (x, after) fits e (λ n r is more back. result_is R (v.number n) x r after (all n (amount_made s r n fits is)) back)

text_made : (R : Val → Type 0) → ((b : List ℕ) → IsShort b → R (v.text b)) → Makes text_at R
text_made R all s after x fits e =
    reads_then field_at field field_takes s _ (x, after) fits e (λ b r is more back. result_is R (v.text b) x r after (all b (field_made s r b fits is)) back)

bytes_made : (R : Val → Type 0) → ((b : List ℕ) → IsShort b → R (v.bytes b)) → Makes bytes_at R
bytes_made R all s after x fits e =
    reads_then field_at field field_takes s _ (x, after) fits e (λ b r is more back. result_is R (v.bytes b) x r after (all b (field_made s r b fits is)) back)

truth_made : Makes truth_at (HasSimpleSpelling s.Bool)
truth_made start after x fits e =
    reads_then mark_at mark mark_takes start _ (x, after) fits e (λ b r is more back. result_is (HasSimpleSpelling s.Bool) (v.truth b) x r after tt back)

nothing_made : (R : Val → Type 0) → Makes nothing_at R
nothing_made R s after x fits e = absurd cc

unit_made : Makes (simple_at s.Unit) (HasSimpleSpelling s.Unit)
unit_made start after x fits e = result_is (HasSimpleSpelling s.Unit) v.unit x start after tt e

simple_made : (c : Simple) → Makes (simple_at c) (HasSimpleSpelling c)
simple_made s.Unit = unit_made
simple_made s.Never = nothing_made (HasSimpleSpelling s.Never)
simple_made s.Bool = truth_made
simple_made s.Int = number_value_made (HasSimpleSpelling s.Int) (λ n h. h)
simple_made s.Nat = number_value_made (HasSimpleSpelling s.Nat) (λ n h. h)
simple_made s.Mutez = number_value_made (HasSimpleSpelling s.Mutez) (λ n h. h)
simple_made s.Timestamp = number_value_made (HasSimpleSpelling s.Timestamp) (λ n h. h)
simple_made s.String = text_made (HasSimpleSpelling s.String) (λ b h. h)
simple_made s.Bytes = bytes_made (HasSimpleSpelling s.Bytes) (λ b h. h)
simple_made s.Key = bytes_made (HasSimpleSpelling s.Key) (λ b h. h)
simple_made s.KeyHash = bytes_made (HasSimpleSpelling s.KeyHash) (λ b h. h)
simple_made s.Signature = bytes_made (HasSimpleSpelling s.Signature) (λ b h. h)
simple_made s.ChainId = bytes_made (HasSimpleSpelling s.ChainId) (λ b h. h)
simple_made s.Address = bytes_made (HasSimpleSpelling s.Address) (λ b h. h)

lambda_made : (a b : Kind) → Makes lambda_at (HasSpelling (k.lambda a b))
lambda_made a b s after x fits e =
    reads_then mark_at mark mark_takes s _ (x, after) fits e (λ m r is more back.
    reads_then node_at node_spelling node_takes r _ (x, after) more back (λ t q at rest again.
    result_is (HasSpelling (k.lambda a b)) (v.lambda t m) x q after (node_made r q t more at) again))

ticket_made : (a : Kind) (f : Reader Val) → Reads f value_spelling → Makes f (HasSpelling a) → Makes (ticket_at a f) (HasSpelling (k.ticket a))
ticket_made a f reads makes s after x fits e =
    reads_then (taken 20) (λ b. b) (λ s r b bytes is. (taken_takes 20 s r b is).0) s _ (x, after) fits e (λ h r is more back.
    reads_then f value_spelling reads r _ (x, after) more back (λ y q at rest again.
    reads_then (signed_at w128) (signed w128) amount_takes q _ (x, after) rest again (λ n t so last end.
    result_is (HasSpelling (k.ticket a)) (v.ticket (contract_place h) a y n) x t after
    (refl, (h, (taken_takes 20 s r h is).1, refl), makes r q y more at, amount_made q t n rest so) end)))

both_made : (a b : Kind) → Makes (value_at a) (HasSpelling a) → Makes (value_at b) (HasSpelling b) → Makes (both_at (value_at a) (value_at b)) (HasSpelling (k.pair a b))
both_made a b ma mb s after x fits e =
    reads_then (value_at a) value_spelling (value_takes a) s _ (x, after) fits e (λ y r is more back.
    reads_then (value_at b) value_spelling (value_takes b) r _ (x, after) more back (λ z q at rest again.
    result_is (HasSpelling (k.pair a b)) (v.both y z) x q after (ma s r y fits is, mb r q z more at) again))

option_made : (a : Kind) → Makes (value_at a) (HasSpelling a) → Makes (option_at (value_at a)) (HasSpelling (k.option a))
option_made a ma s after x fits e =
    reads_then mark_at mark mark_takes s _ (x, after) fits e (λ m r is more back.
    option_by_made (value_at a) (HasSpelling a) (HasSpelling (k.option a)) tt (λ y h. h) (value_takes a) ma m r after x more back)

or_made : (a b : Kind) → Makes (value_at a) (HasSpelling a) → Makes (value_at b) (HasSpelling b) → Makes (or_at (value_at a) (value_at b)) (HasSpelling (k.or a b))
or_made a b ma mb s after x fits e =
    reads_then mark_at mark mark_takes s _ (x, after) fits e (λ m r is more back.
    or_by_made (value_at a) (value_at b) (HasSpelling a) (HasSpelling b) (HasSpelling (k.or a b)) (λ y h. h) (λ y h. h) (value_takes a) (value_takes b) ma mb m r after x more back)

pub value_made : (a : Kind) → Makes (value_at a) (HasSpelling a)
value_made (k.simple c) = simple_made c
value_made k.operation = nothing_made (HasSpelling k.operation)
value_made (k.option a) = option_made a (value_made a)
value_made (k.or a b) = or_made a b (value_made a) (value_made b)
value_made (k.pair a b) = both_made a b (value_made a) (value_made b)
value_made (k.list a) = items_made v.list (value_at a) (HasSpelling a) (HasSpelling (k.list a)) (λ xs l h. (l, h)) (value_takes a) (value_made a)
value_made (k.set a) = items_made v.set (value_at a) (HasSpelling a) (HasSpelling (k.set a)) (λ xs l h. (l, h)) (value_takes a) (value_made a)
value_made (k.map a b) =
    entries_made v.table (value_at a) (value_at b) (HasSpelling a) (HasSpelling b) (HasSpelling (k.map a b)) (λ es l h. (l, h)) (value_takes a) (value_takes b) (value_made a) (value_made b)
value_made (k.big_map a b) =
    entries_made v.big_table (value_at a) (value_at b) (HasSpelling a) (HasSpelling b) (HasSpelling (k.big_map a b)) (λ es l h. (l, h)) (value_takes a) (value_takes b) (value_made a) (value_made b)
value_made (k.lambda a b) = lambda_made a b
value_made (k.contract a) = nothing_made (HasSpelling (k.contract a))
value_made (k.ticket a) = ticket_made a (value_at a) (value_takes a) (value_made a)
