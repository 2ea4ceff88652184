-- Values are read as they are spelt.
use Rattle.std.proofs.Common.{◌≡◌, ℕ, zero, suc, Bool, true, false, List, [], ◌∷◌, ◌++◌, length, take, Ok, refl, sym, ap, subst, arith}
use Rattle.std.specs.Int.{w64, w128}
use Rattle.rules_text.specs.binary.Reading.{Spot}
use Rattle.rules_code.specs.evaluation.Contracts.{hash_in}
use Rattle.rules_data.specs.forms.Spelling.{contract_place}
use Rattle.rules_data.specs.declared.types.Simple.{Simple}
use Rattle.rules_data.specs.declared.types.Simple.TheVariants as s
use Rattle.rules_data.specs.types.Kind.{Kind}
use Rattle.rules_data.specs.types.Kind as k
use Rattle.rules_data.specs.values.Val.{Val, Vals, no_val, more_vals, Pairs, no_pair, more_pairs}
use Rattle.rules_data.specs.values.Val as v
use Rattle.laws_data.specs.binary.Laws.{IsBytes}
use Rattle.rules_files.specs.snapshots.Spelling.{eight, signed, mark, count_vals, count_pairs, node_spelling, value_spelling, value_spellings, entry_spellings}
use Rattle.rules_files.specs.snapshots.Reading.{Reader, ◌>>=◌, taken, number_at, signed_at, mark_at, field_at, node_at, both_at, option_by, option_at, or_by, or_at, vals_at, pairs_at, items_at, entries_at, lambda_at, ticket_at, number_value_at, text_at, bytes_at, truth_at, nothing_at, simple_at, value_at}
use Rattle.laws_files.specs.snapshots.Laws.{Takes, ValuesAreSpelt}
use Rattle.laws_files.proofs.snapshots_lemmas.Fields.{ok_is, bind_ok, takes_then, takes_nothing, rest_fits, Reads, taken_takes, whole_64, number_takes, amount_takes, mark_takes, field_takes, node_takes}

-- what this reader reads is spelt so
abbrev pub ReadsValues : Reader Val → Type 0
ReadsValues f = Reads f value_spelling

both_takes : (f g : Reader Val) → ReadsValues f → ReadsValues g → ReadsValues (both_at f g)
both_takes f g reads_f reads_g s after x fits e =
    let a = bind_ok (f s) (λ x. g x.1 >>= λ y. Ok (v.both x.0 y.0, y.1)) (x, after) e in
    let b = bind_ok (g a.0.1) (λ y. Ok (v.both a.0.0 y.0, y.1)) (x, after) a.2 in
    let first = reads_f s a.0.1 a.0.0 fits a.1 in
    let second = reads_g a.0.1 b.0.1 b.0.0 (rest_fits s a.0.1 (value_spelling a.0.0) first fits) b.1 in
    let made : Val × Spot = (v.both a.0.0 b.0.0, b.0.1) in
    subst (λ (p : Val × Spot). Takes s (value_spelling p.0) p.1) (ok_is made (x, after) b.2)
    (takes_then s a.0.1 b.0.1 (value_spelling a.0.0) (value_spelling b.0.0) first second)

option_by_takes : (f : Reader Val) → ReadsValues f → (start : Spot) (m : Bool) (s after : Spot) (x : Val) → IsBytes s.left → Takes start (mark m) s
    → option_by f m s ≡ Ok (x, after) → Takes start (value_spelling x) after
option_by_takes f reads start false s after x fits t e =
    let made : Val × Spot = (v.nothing, s) in
    subst (λ (p : Val × Spot). Takes start (value_spelling p.0) p.1) (ok_is made (x, after) e) t
option_by_takes f reads start true s after x fits t e =
    let a = bind_ok (f s) (λ x. Ok (v.some x.0, x.1)) (x, after) e in
    let made : Val × Spot = (v.some a.0.0, a.0.1) in
    subst (λ (p : Val × Spot). Takes start (value_spelling p.0) p.1) (ok_is made (x, after) a.2)
    (takes_then start s a.0.1 (mark true) (value_spelling a.0.0) t (reads s a.0.1 a.0.0 fits a.1))

option_takes : (f : Reader Val) → ReadsValues f → ReadsValues (option_at f)
option_takes f reads s after x fits e =
    let m = bind_ok (mark_at s) (λ m. option_by f m.0 m.1) (x, after) e in
    let t = mark_takes s m.0.1 m.0.0 fits m.1 in
    option_by_takes f reads s m.0.0 m.0.1 after x (rest_fits s m.0.1 (mark m.0.0) t fits) t m.2

or_by_takes : (f g : Reader Val) → ReadsValues f → ReadsValues g → (start : Spot) (m : Bool) (s after : Spot) (x : Val) → IsBytes s.left
    → Takes start (mark m) s → or_by f g m s ≡ Ok (x, after) → Takes start (value_spelling x) after
or_by_takes f g reads_f reads_g start false s after x fits t e =
    let a = bind_ok (f s) (λ x. Ok (v.left x.0, x.1)) (x, after) e in
    let made : Val × Spot = (v.left a.0.0, a.0.1) in
    subst (λ (p : Val × Spot). Takes start (value_spelling p.0) p.1) (ok_is made (x, after) a.2)
    (takes_then start s a.0.1 (mark false) (value_spelling a.0.0) t (reads_f s a.0.1 a.0.0 fits a.1))
or_by_takes f g reads_f reads_g start true s after x fits t e =
    let a = bind_ok (g s) (λ x. Ok (v.right x.0, x.1)) (x, after) e in
    let made : Val × Spot = (v.right a.0.0, a.0.1) in
    subst (λ (p : Val × Spot). Takes start (value_spelling p.0) p.1) (ok_is made (x, after) a.2)
    (takes_then start s a.0.1 (mark true) (value_spelling a.0.0) t (reads_g s a.0.1 a.0.0 fits a.1))

or_takes : (f g : Reader Val) → ReadsValues f → ReadsValues g → ReadsValues (or_at f g)
or_takes f g reads_f reads_g s after x fits e =
    let m = bind_ok (mark_at s) (λ m. or_by f g m.0 m.1) (x, after) e in
    let t = mark_takes s m.0.1 m.0.0 fits m.1 in
    or_by_takes f g reads_f reads_g s m.0.0 m.0.1 after x (rest_fits s m.0.1 (mark m.0.0) t fits) t m.2

-- ---- items

pub vals_takes : (f : Reader Val) → ReadsValues f → (n : ℕ) (s after : Spot) (xs : Vals) → IsBytes s.left → vals_at f n s ≡ Ok (xs, after)
    → Takes s (value_spellings xs) after × (count_vals xs ≡ n)
vals_takes f reads zero s after xs fits e =
    let made : Vals × Spot = (no_val, s) in
    subst (λ (p : Vals × Spot). Takes s (value_spellings p.0) p.1 × (count_vals p.0 ≡ 0)) (ok_is made (xs, after) e) (takes_nothing s, refl)
vals_takes f reads (suc n) s after xs fits e =
    let a = bind_ok (f s) (λ x. vals_at f n x.1 >>= λ xs. Ok (more_vals x.0 xs.0, xs.1)) (xs, after) e in
    let b = bind_ok (vals_at f n a.0.1) (λ xs. Ok (more_vals a.0.0 xs.0, xs.1)) (xs, after) a.2 in
    let first = reads s a.0.1 a.0.0 fits a.1 in
    let others = vals_takes f reads n a.0.1 b.0.1 b.0.0 (rest_fits s a.0.1 (value_spelling a.0.0) first fits) b.1 in
    let made : Vals × Spot = (more_vals a.0.0 b.0.0, b.0.1) in
    subst (λ (p : Vals × Spot). Takes s (value_spellings p.0) p.1 × (count_vals p.0 ≡ suc n)) (ok_is made (xs, after) b.2)
    (takes_then s a.0.1 b.0.1 (value_spelling a.0.0) (value_spellings b.0.0) first others.0, ap suc others.1)

pub pairs_takes : (f g : Reader Val) → ReadsValues f → ReadsValues g → (n : ℕ) (s after : Spot) (es : Pairs) → IsBytes s.left → pairs_at f g n s ≡ Ok (es, after)
    → Takes s (entry_spellings es) after × (count_pairs es ≡ n)
pairs_takes f g reads_f reads_g zero s after es fits e =
    let made : Pairs × Spot = (no_pair, s) in
    subst (λ (p : Pairs × Spot). Takes s (entry_spellings p.0) p.1 × (count_pairs p.0 ≡ 0)) (ok_is made (es, after) e) (takes_nothing s, refl)
pairs_takes f g reads_f reads_g (suc n) s after es fits e =
    let a = bind_ok (f s) (λ x. g x.1 >>= λ y. pairs_at f g n y.1 >>= λ es. Ok (more_pairs x.0 y.0 es.0, es.1)) (es, after) e in
    let b = bind_ok (g a.0.1) (λ y. pairs_at f g n y.1 >>= λ es. Ok (more_pairs a.0.0 y.0 es.0, es.1)) (es, after) a.2 in
    let c = bind_ok (pairs_at f g n b.0.1) (λ es. Ok (more_pairs a.0.0 b.0.0 es.0, es.1)) (es, after) b.2 in
    let key = reads_f s a.0.1 a.0.0 fits a.1 in
    let key_fits = rest_fits s a.0.1 (value_spelling a.0.0) key fits in
    let value = reads_g a.0.1 b.0.1 b.0.0 key_fits b.1 in
    let others = pairs_takes f g reads_f reads_g n b.0.1 c.0.1 c.0.0 (rest_fits a.0.1 b.0.1 (value_spelling b.0.0) value key_fits) c.1 in
    let made : Pairs × Spot = (more_pairs a.0.0 b.0.0 c.0.0, c.0.1) in
    subst (λ (p : Pairs × Spot). Takes s (entry_spellings p.0) p.1 × (count_pairs p.0 ≡ suc n)) (ok_is made (es, after) c.2) (
      takes_then s a.0.1 c.0.1 (value_spelling a.0.0) (value_spelling b.0.0 ++ entry_spellings c.0.0) key
          (takes_then a.0.1 b.0.1 c.0.1 (value_spelling b.0.0) (entry_spellings c.0.0) value others.0),
      ap suc others.1,
    )

-- a value that is made of items
items_takes : (made : Vals → Val) → ((xs : Vals) → value_spelling (made xs) ≡ eight (count_vals xs) ++ value_spellings xs)
    → (f : Reader Val) → ReadsValues f → ReadsValues (items_at made f)
items_takes made spelt f reads s after x fits e =
    let n = bind_ok (number_at w64 s) (λ n. vals_at f n.0 n.1 >>= λ xs. Ok (made xs.0, xs.1)) (x, after) e in
    let a = bind_ok (vals_at f n.0.0 n.0.1) (λ xs. Ok (made xs.0, xs.1)) (x, after) n.2 in
    let t = number_takes w64 whole_64 s n.0.1 n.0.0 fits n.1 in
    let items = vals_takes f reads n.0.0 n.0.1 a.0.1 a.0.0 (rest_fits s n.0.1 (eight n.0.0) t fits) a.1 in
    let whole = takes_then s n.0.1 a.0.1 (eight n.0.0) (value_spellings a.0.0) t items.0 in
    let counted : Takes s (eight (count_vals a.0.0) ++ value_spellings a.0.0) a.0.1 = subst (λ (m : ℕ). Takes s (eight m ++ value_spellings a.0.0) a.0.1) (sym items.1) whole in
    let result : Val × Spot = (made a.0.0, a.0.1) in
    subst (λ (p : Val × Spot). Takes s (value_spelling p.0) p.1) (ok_is result (x, after) a.2)
    (subst (λ (b : List ℕ). Takes s b a.0.1) (sym (spelt a.0.0)) counted)

entries_takes : (made : Pairs → Val) → ((es : Pairs) → value_spelling (made es) ≡ eight (count_pairs es) ++ entry_spellings es)
    → (f g : Reader Val) → ReadsValues f → ReadsValues g → ReadsValues (entries_at made f g)
entries_takes made spelt f g reads_f reads_g s after x fits e =
    let n = bind_ok (number_at w64 s) (λ n. pairs_at f g n.0 n.1 >>= λ es. Ok (made es.0, es.1)) (x, after) e in
    let a = bind_ok (pairs_at f g n.0.0 n.0.1) (λ es. Ok (made es.0, es.1)) (x, after) n.2 in
    let t = number_takes w64 whole_64 s n.0.1 n.0.0 fits n.1 in
    let items = pairs_takes f g reads_f reads_g n.0.0 n.0.1 a.0.1 a.0.0 (rest_fits s n.0.1 (eight n.0.0) t fits) a.1 in
    let whole = takes_then s n.0.1 a.0.1 (eight n.0.0) (entry_spellings a.0.0) t items.0 in
    let counted : Takes s (eight (count_pairs a.0.0) ++ entry_spellings a.0.0) a.0.1 = subst (λ (m : ℕ). Takes s (eight m ++ entry_spellings a.0.0) a.0.1) (sym items.1) whole in
    let result : Val × Spot = (made a.0.0, a.0.1) in
    subst (λ (p : Val × Spot). Takes s (value_spelling p.0) p.1) (ok_is result (x, after) a.2)
    (subst (λ (b : List ℕ). Takes s b a.0.1) (sym (spelt a.0.0)) counted)

-- ---- lambdas and tickets

lambda_takes : ReadsValues lambda_at
lambda_takes s after x fits e =
    let a = bind_ok (mark_at s) (λ m. node_at m.1 >>= λ t. Ok (v.lambda t.0 m.0, t.1)) (x, after) e in
    let b = bind_ok (node_at a.0.1) (λ t. Ok (v.lambda t.0 a.0.0, t.1)) (x, after) a.2 in
    let first = mark_takes s a.0.1 a.0.0 fits a.1 in
    let second = node_takes a.0.1 b.0.1 b.0.0 (rest_fits s a.0.1 (mark a.0.0) first fits) b.1 in
    let made : Val × Spot = (v.lambda b.0.0 a.0.0, b.0.1) in
    subst (λ (p : Val × Spot). Takes s (value_spelling p.0) p.1) (ok_is made (x, after) b.2)
    (takes_then s a.0.1 b.0.1 (mark a.0.0) (node_spelling b.0.0) first second)

-- the 20 bytes of a contract's place
take_front : (n : ℕ) (xs ys : List ℕ) → length xs ≡ n → take n (xs ++ ys) ≡ xs
take_front zero [] ys len = refl
take_front zero (x ∷ xs) ys len = absurd (omega (arith, len))
take_front (suc n) [] ys len = absurd (omega (arith, len))
take_front (suc n) (x ∷ xs) ys len = ap (λ (r : List ℕ). x ∷ r) (take_front n xs ys (omega (arith, len)))

pub hash_is : (hash : List ℕ) → length hash ≡ 20 → hash_in (contract_place hash) ≡ hash
hash_is hash len = take_front 20 hash (0 ∷ []) len

pub ticket_takes : (a : Kind) (f : Reader Val) → ReadsValues f → ReadsValues (ticket_at a f)
ticket_takes a f reads s after x fits e =
    let i = bind_ok (taken 20 s) (λ i. f i.1 >>= λ c. signed_at w128 c.1 >>= λ n. Ok (v.ticket (contract_place i.0) a c.0 n.0, n.1)) (x, after) e in
    let c = bind_ok (f i.0.1) (λ c. signed_at w128 c.1 >>= λ n. Ok (v.ticket (contract_place i.0.0) a c.0 n.0, n.1)) (x, after) i.2 in
    let n = bind_ok (signed_at w128 c.0.1) (λ n. Ok (v.ticket (contract_place i.0.0) a c.0.0 n.0, n.1)) (x, after) c.2 in
    let issuer = taken_takes 20 s i.0.1 i.0.0 i.1 in
    let issuer_fits = rest_fits s i.0.1 i.0.0 issuer.0 fits in
    let content = reads i.0.1 c.0.1 c.0.0 issuer_fits c.1 in
    let amount = amount_takes c.0.1 n.0.1 n.0.0 (rest_fits i.0.1 c.0.1 (value_spelling c.0.0) content issuer_fits) n.1 in
    let whole = takes_then s i.0.1 n.0.1 i.0.0 (value_spelling c.0.0 ++ signed w128 n.0.0) issuer.0
    (takes_then i.0.1 c.0.1 n.0.1 (value_spelling c.0.0) (signed w128 n.0.0) content amount) in
    let made : Val × Spot = (v.ticket (contract_place i.0.0) a c.0.0 n.0.0, n.0.1) in
    subst (λ (p : Val × Spot). Takes s (value_spelling p.0) p.1) (ok_is made (x, after) n.2)
    (subst (λ (b : List ℕ). Takes s (b ++ (value_spelling c.0.0 ++ signed w128 n.0.0)) n.0.1) (sym (hash_is i.0.0 issuer.1)) whole)

-- ---- types without arguments

number_value_takes : ReadsValues number_value_at
number_value_takes s after x fits e =
    let a = bind_ok (signed_at w128 s) (λ n. Ok (v.number n.0, n.1)) (x, after) e in
    let made : Val × Spot = (v.number a.0.0, a.0.1) in
    subst (λ (p : Val × Spot). Takes s (value_spelling p.0) p.1) (ok_is made (x, after) a.2) (amount_takes s a.0.1 a.0.0 fits a.1)

text_takes : ReadsValues text_at
text_takes s after x fits e =
    let a = bind_ok (field_at s) (λ f. Ok (v.text f.0, f.1)) (x, after) e in
    let made : Val × Spot = (v.text a.0.0, a.0.1) in
    subst (λ (p : Val × Spot). Takes s (value_spelling p.0) p.1) (ok_is made (x, after) a.2) (field_takes s a.0.1 a.0.0 fits a.1)

bytes_takes : ReadsValues bytes_at
bytes_takes s after x fits e =
    let a = bind_ok (field_at s) (λ f. Ok (v.bytes f.0, f.1)) (x, after) e in
    let made : Val × Spot = (v.bytes a.0.0, a.0.1) in
    subst (λ (p : Val × Spot). Takes s (value_spelling p.0) p.1) (ok_is made (x, after) a.2) (field_takes s a.0.1 a.0.0 fits a.1)

truth_takes : ReadsValues truth_at
truth_takes s after x fits e =
    let a = bind_ok (mark_at s) (λ m. Ok (v.truth m.0, m.1)) (x, after) e in
    let made : Val × Spot = (v.truth a.0.0, a.0.1) in
    subst (λ (p : Val × Spot). Takes s (value_spelling p.0) p.1) (ok_is made (x, after) a.2) (mark_takes s a.0.1 a.0.0 fits a.1)

unit_takes : ReadsValues (simple_at s.Unit)
unit_takes s after x fits e =
    let made : Val × Spot = (v.unit, s) in
    subst (λ (p : Val × Spot). Takes s (value_spelling p.0) p.1) (ok_is made (x, after) e) (takes_nothing s)

nothing_takes : ReadsValues nothing_at
nothing_takes s after x fits e = absurd cc

simple_takes : (c : Simple) → ReadsValues (simple_at c)
simple_takes s.Unit = unit_takes
simple_takes s.Never = nothing_takes
simple_takes s.Bool = truth_takes
simple_takes s.Int = number_value_takes
simple_takes s.Nat = number_value_takes
simple_takes s.Mutez = number_value_takes
simple_takes s.Timestamp = number_value_takes
simple_takes s.String = text_takes
simple_takes s.Bytes = bytes_takes
simple_takes s.Key = bytes_takes
simple_takes s.KeyHash = bytes_takes
simple_takes s.Signature = bytes_takes
simple_takes s.ChainId = bytes_takes
simple_takes s.Address = bytes_takes

-- ---- all types

pub value_takes : (a : Kind) → ReadsValues (value_at a)
value_takes (k.simple c) = simple_takes c
value_takes k.operation = nothing_takes
value_takes (k.option a) = option_takes (value_at a) (value_takes a)
value_takes (k.or a b) = or_takes (value_at a) (value_at b) (value_takes a) (value_takes b)
value_takes (k.pair a b) = both_takes (value_at a) (value_at b) (value_takes a) (value_takes b)
value_takes (k.list a) = items_takes v.list (λ xs. refl) (value_at a) (value_takes a)
value_takes (k.set a) = items_takes v.set (λ xs. refl) (value_at a) (value_takes a)
value_takes (k.map a b) = entries_takes v.table (λ es. refl) (value_at a) (value_at b) (value_takes a) (value_takes b)
value_takes (k.big_map a b) = entries_takes v.big_table (λ es. refl) (value_at a) (value_at b) (value_takes a) (value_takes b)
value_takes (k.lambda a b) = lambda_takes
value_takes (k.contract a) = nothing_takes
value_takes (k.ticket a) = ticket_takes a (value_at a) (value_takes a)

pub values_are_spelt : ValuesAreSpelt
values_are_spelt a s after x fits e = value_takes a s after x fits e
