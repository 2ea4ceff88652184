-- Values that take no bytes: there is one of each type, and two of them are out of order.
use Rattle.std.proofs.Common.{◌≡◌, ℕ, zero, suc, ◌<◌, Bool, true, false, cond, ◌&&◌, Option, Some, None, Result, Ok, refl, sym, ap, ◌∙◌, arith}
use Rattle.std.specs.Int.{w64}
use Rattle.std.specs.Ordering.{is_lt, ordering_reverse}
use Rattle.std.specs.declared.cmp.Ordering.{Ordering}
use Rattle.std.specs.declared.cmp.Ordering.TheVariants.{Less, Equal, Greater}
use Rattle.rules_text.specs.binary.Reading.{Spot}
use Rattle.rules_data.specs.declared.types.Simple.TheVariants as s
use Rattle.rules_data.specs.types.Kind.{Kind}
use Rattle.rules_data.specs.types.Kind as k
use Rattle.rules_data.specs.values.Val.{Val, Vals, no_val, more_vals, Pairs, no_pair, more_pairs}
use Rattle.rules_data.specs.values.Val as v
use Rattle.rules_data.specs.values.Order.{order}
use Rattle.laws_data.proofs.values_lemmas.ForCallers.{order_lawful}
use Rattle.rules_files.specs.snapshots.Reading.{Reader, ◌>>=◌, number_at, value_at, vals_at}
use Rattle.rules_files.specs.snapshots.Rules.{are_increasing, keys}
use Rattle.mich_saved.specs.Kept.{kept_at, pairs_kept_at, set_kept, set_kept_at, in_order, entries_kept_at}
use Rattle.mich_saved.specs.Pushes.{takes_nothing}

-- the one value of such a type
the_value : Kind → Val
the_value (k.pair a b) = v.both (the_value a) (the_value b)
the_value a = v.unit

and_first : (a b : Bool) → a && b ≡ true → a ≡ true
and_first true b e = refl
and_first false b e = e

and_second : (a b : Bool) → a && b ≡ true → b ≡ true
and_second true b e = e
and_second false b e = absurd cc

nothing_read : (a : Kind) (x : Spot) → takes_nothing a ≡ true → value_at a x ≡ Ok (the_value a, x)
unfolding the_value
nothing_read (k.simple s.Unit) x h = refl
nothing_read (k.simple s.Never) x h = absurd cc
nothing_read (k.simple s.Bool) x h = absurd cc
nothing_read (k.simple s.Int) x h = absurd cc
nothing_read (k.simple s.Nat) x h = absurd cc
nothing_read (k.simple s.Mutez) x h = absurd cc
nothing_read (k.simple s.Timestamp) x h = absurd cc
nothing_read (k.simple s.String) x h = absurd cc
nothing_read (k.simple s.Bytes) x h = absurd cc
nothing_read (k.simple s.Key) x h = absurd cc
nothing_read (k.simple s.KeyHash) x h = absurd cc
nothing_read (k.simple s.Signature) x h = absurd cc
nothing_read (k.simple s.ChainId) x h = absurd cc
nothing_read (k.simple s.Address) x h = absurd cc
nothing_read k.operation x h = absurd cc
nothing_read (k.option a) x h = absurd cc
nothing_read (k.or a b) x h = absurd cc
nothing_read (k.pair a b) x h =
    let first : value_at a x ≡ Ok (the_value a, x) = nothing_read a x (and_first (takes_nothing a) (takes_nothing b) h) in
    let second : value_at b x ≡ Ok (the_value b, x) = nothing_read b x (and_second (takes_nothing a) (takes_nothing b) h) in
    ap (λ (r : Result (Val × Spot) ℕ). r >>= λ (y : Val × Spot). value_at b y.1 >>= λ (z : Val × Spot). Ok (v.both y.0 z.0, z.1)) first
    ∙ ap (λ (r : Result (Val × Spot) ℕ). r >>= λ (z : Val × Spot). Ok (v.both (the_value a) z.0, z.1)) second
nothing_read (k.list a) x h = absurd cc
nothing_read (k.set a) x h = absurd cc
nothing_read (k.map a b) x h = absurd cc
nothing_read (k.big_map a b) x h = absurd cc
nothing_read (k.lambda a b) x h = absurd cc
nothing_read (k.contract a) x h = absurd cc
nothing_read (k.ticket a) x h = absurd cc

same_order : (o : Ordering) → o ≡ ordering_reverse o → is_lt o ≡ false
same_order Less e = absurd cc
same_order Equal e = refl
same_order Greater e = refl

not_below_itself : (x : Val) → is_lt (order x x) ≡ false
not_below_itself x = same_order (order x x) (order_lawful.antisymm x x)

-- two that are the same are out of order
out_of_order : (x : Val) (xs : Vals) → are_increasing (more_vals x (more_vals x xs)) ≡ false
out_of_order x xs = ap (λ (b : Bool). b && are_increasing (more_vals x xs)) (not_below_itself x)

-- ---- sets

repeated : Val → ℕ → Vals
repeated x zero = no_val
repeated x (suc n) = more_vals x (repeated x n)

vals_repeated : (item : Reader Val) (x : Val) (t : Spot) → item t ≡ Ok (x, t) → (n : ℕ) → vals_at item n t ≡ Ok (repeated x n, t)
unfolding repeated
vals_repeated item x t h zero = refl
vals_repeated item x t h (suc n) =
    ap (λ (r : Result (Val × Spot) ℕ). r >>= λ (y : Val × Spot). vals_at item n y.1 >>= λ (ys : Vals × Spot). Ok (more_vals y.0 ys.0, ys.1)) h
    ∙ ap (λ (r : Result (Vals × Spot) ℕ). r >>= λ (ys : Vals × Spot). Ok (more_vals x ys.0, ys.1)) (vals_repeated item x t h n)

repeated_set : (x : Val) (n : ℕ) → 1 < n → set_kept (repeated x n) ≡ None
unfolding repeated
repeated_set x zero h = absurd (omega arith)
repeated_set x (suc zero) h = absurd (omega arith)
repeated_set x (suc (suc n)) h = ap (λ (b : Bool). cond b (Some (v.set (more_vals x (more_vals x (repeated x n))))) None) (out_of_order x (repeated x n))

pub alike_set : (a : Kind) (start after : Spot) (n : ℕ) → 1 < n → takes_nothing a ≡ true → number_at w64 start ≡ Ok (n, after) → set_kept_at (value_at a) start ≡ Ok (None, after)
alike_set a start after n more nothing h =
    ap (λ (r : Result (ℕ × Spot) ℕ). r >>= λ (m : ℕ × Spot). vals_at (value_at a) m.0 m.1 >>= λ (xs : Vals × Spot). Ok (set_kept xs.0, xs.1)) h
    ∙ (ap (λ (r : Result (Vals × Spot) ℕ). r >>= λ (xs : Vals × Spot). Ok (set_kept xs.0, xs.1)) (vals_repeated (value_at a) (the_value a) after (nothing_read a after nothing) n)
    ∙ ap (λ (o : Option Val). Ok (o, after)) (repeated_set (the_value a) n more))

-- ---- maps

nothing_kept : (a : Kind) (x : Spot) → takes_nothing a ≡ true → kept_at a x ≡ Ok (Some (the_value a), x)
unfolding the_value
nothing_kept (k.simple s.Unit) x h = refl
nothing_kept (k.simple s.Never) x h = absurd cc
nothing_kept (k.simple s.Bool) x h = absurd cc
nothing_kept (k.simple s.Int) x h = absurd cc
nothing_kept (k.simple s.Nat) x h = absurd cc
nothing_kept (k.simple s.Mutez) x h = absurd cc
nothing_kept (k.simple s.Timestamp) x h = absurd cc
nothing_kept (k.simple s.String) x h = absurd cc
nothing_kept (k.simple s.Bytes) x h = absurd cc
nothing_kept (k.simple s.Key) x h = absurd cc
nothing_kept (k.simple s.KeyHash) x h = absurd cc
nothing_kept (k.simple s.Signature) x h = absurd cc
nothing_kept (k.simple s.ChainId) x h = absurd cc
nothing_kept (k.simple s.Address) x h = absurd cc
nothing_kept k.operation x h = absurd cc
nothing_kept (k.option a) x h = absurd cc
nothing_kept (k.or a b) x h = absurd cc
nothing_kept (k.pair a b) x h =
    let first : kept_at a x ≡ Ok (Some (the_value a), x) = nothing_kept a x (and_first (takes_nothing a) (takes_nothing b) h) in
    let second : kept_at b x ≡ Ok (Some (the_value b), x) = nothing_kept b x (and_second (takes_nothing a) (takes_nothing b) h) in
    rw (first, second) refl
nothing_kept (k.list a) x h = absurd cc
nothing_kept (k.set a) x h = absurd cc
nothing_kept (k.map a b) x h = absurd cc
nothing_kept (k.big_map a b) x h = absurd cc
nothing_kept (k.lambda a b) x h = absurd cc
nothing_kept (k.contract a) x h = absurd cc
nothing_kept (k.ticket a) x h = absurd cc

repeated_pairs : Val → Val → ℕ → Pairs
repeated_pairs x y zero = no_pair
repeated_pairs x y (suc n) = more_pairs x y (repeated_pairs x y n)

pairs_repeated : (key : Reader Val) (value : Reader (Option Val)) (x y : Val) (t : Spot) → key t ≡ Ok (x, t) → value t ≡ Ok (Some y, t)
    → (n : ℕ) → pairs_kept_at key value n t ≡ Ok (Some (repeated_pairs x y n), t)
unfolding repeated_pairs
pairs_repeated key value x y t h l zero = refl
pairs_repeated key value x y t h l (suc n) = rw (h, l, pairs_repeated key value x y t h l n) refl

repeated_entries : (made : Pairs → Val) (x y : Val) (n : ℕ) → 1 < n → in_order made (Some (repeated_pairs x y n)) ≡ None
unfolding repeated_pairs
repeated_entries made x y zero h = absurd (omega arith)
repeated_entries made x y (suc zero) h = absurd (omega arith)
repeated_entries made x y (suc (suc n)) h =
    ap (λ (b : Bool). cond b (Some (made (more_pairs x y (more_pairs x y (repeated_pairs x y n))))) None) (out_of_order x (keys (repeated_pairs x y n)))

pub alike_entries : (made : Pairs → Val) (a b : Kind) (start after : Spot) (n : ℕ) → 1 < n → takes_nothing a ≡ true → takes_nothing b ≡ true → number_at w64 start ≡ Ok (n, after)
    → entries_kept_at made (value_at a) (kept_at b) start ≡ Ok (None, after)
alike_entries made a b start after n more na nb h =
    ap (λ (r : Result (ℕ × Spot) ℕ). r >>= λ (m : ℕ × Spot). pairs_kept_at (value_at a) (kept_at b) m.0 m.1 >>= λ (es : Option Pairs × Spot). Ok (in_order made es.0, es.1)) h
    ∙ (ap (λ (r : Result (Option Pairs × Spot) ℕ). r >>= λ (es : Option Pairs × Spot). Ok (in_order made es.0, es.1))
    (pairs_repeated (value_at a) (kept_at b) (the_value a) (the_value b) after (nothing_read a after na) (nothing_kept b after nb) n)
    ∙ ap (λ (o : Option Val). Ok (o, after)) (repeated_entries made (the_value a) (the_value b) n more))

-- ---- by what a test told

pub alike_set_told : (a : Kind) (start after : Spot) (n : ℕ) (b : Bool) → b ≡ takes_nothing a → b ≡ true → 1 < n → number_at w64 start ≡ Ok (n, after)
    → set_kept_at (value_at a) start ≡ Ok (None, after)
alike_set_told a start after n b h t more read = alike_set a start after n more (sym h ∙ t) read

pub alike_entries_told : (made : Pairs → Val) (a b : Kind) (start after : Spot) (n : ℕ) (x y : Bool) → x ≡ takes_nothing a → x ≡ true → y ≡ takes_nothing b → y ≡ true → 1 < n
    → number_at w64 start ≡ Ok (n, after) → entries_kept_at made (value_at a) (kept_at b) start ≡ Ok (None, after)
alike_entries_told made a b start after n x y hx tx hy ty more read = alike_entries made a b start after n more (sym hx ∙ tx) (sym hy ∙ ty) read
