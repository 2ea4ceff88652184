-- What is kept of the values that are read: all of a value, or nothing where it isn't one of its type.
use Rattle.std.proofs.Common.{◌≡◌, ℕ, zero, suc, Bool, true, false, cond, ◌&&◌, Option, Some, None, option_map, Result, Ok, Err, refl, ap, subst, ◌∙◌}
use Rattle.std.specs.Int.{w64}
use Rattle.rules_text.specs.binary.Reading.{Spot}
use Rattle.rules_data.specs.types.Kind.{Kind}
use Rattle.rules_data.specs.types.Kind as k
use Rattle.rules_data.specs.values.Val.{Val, Vals, no_val, more_vals, Pairs, no_pair, more_pairs}
use Rattle.rules_data.specs.values.Val as v
use Rattle.rules_files.specs.snapshots.Reading.{◌>>=◌, number_at, mark_at, option_by, or_by, vals_at, pairs_at, simple_at, nothing_at, lambda_at, ticket_at, value_at}
use Rattle.rules_files.specs.snapshots.Rules.{is_stored, all_values, all_entries, are_increasing, keys}
use Rattle.mich_saved.specs.Kept.{option_kept_by, or_kept_by, both_kept, item_kept, items_kept_at, set_kept, entry_kept, pairs_kept_at, in_order, kept_at}
use Rattle.mich_saved.specs.Sound.{Agree, IsKept}

-- ---- readings that agree

pub then_agree : {A B C D : Type 0} (R : A → B → Type 0) (S : C → D → Type 0) (x : Result (A × Spot) ℕ) (y : Result (B × Spot) ℕ) (f : A × Spot → Result (C × Spot) ℕ) (g : B × Spot → Result (D × Spot) ℕ)
    → Agree R x y → ((a : A) (b : B) (s : Spot) → R a b → Agree S (f (a, s)) (g (b, s))) → Agree S (x >>= f) (y >>= g)
then_agree R S (Ok x) (Ok y) f g h next = subst (λ (s : Spot). Agree S (f (x.0, x.1)) (g (y.0, s))) h.0 (next x.0 y.0 x.1 h.1)
then_agree R S (Err p) (Err q) f g h next = h
then_agree R S (Ok x) (Err q) f g h next = absurd h
then_agree R S (Err p) (Ok y) f g h next = absurd h

pub same_then : {A C D : Type 0} (S : C → D → Type 0) (x : Result (A × Spot) ℕ) (f : A × Spot → Result (C × Spot) ℕ) (g : A × Spot → Result (D × Spot) ℕ)
    → ((a : A × Spot) → Agree S (f a) (g a)) → Agree S (x >>= f) (x >>= g)
same_then S (Ok x) f g next = next x
same_then S (Err p) f g next = refl

-- ---- what is kept

abbrev AreKept : Kind → Vals → Option Vals → Type 0
AreKept a xs (Some ys) = xs ≡ ys
AreKept a xs None = all_values (is_stored a) xs ≡ false

abbrev AreEntriesKept : Kind → Kind → Pairs → Option Pairs → Type 0
AreEntriesKept a b es (Some fs) = es ≡ fs
AreEntriesKept a b es None = all_entries (is_stored a) (is_stored b) es ≡ false

abbrev Keeps : Kind → Type 0
Keeps a = (s : Spot) → Agree (IsKept a) (value_at a s) (kept_at a s)

first_false : (a b : Bool) → a ≡ false → a && b ≡ false
first_false true b h = absurd cc
first_false false b h = refl

second_false : (a b : Bool) → b ≡ false → a && b ≡ false
second_false true b h = h
second_false false b h = refl

all_agree : (a : Kind) (r : Result (Val × Spot) ℕ) → Agree (IsKept a) r (r >>= λ x. Ok (Some x.0, x.1))
all_agree a (Ok x) = (refl, refl)
all_agree a (Err p) = refl

some_made : (a : Kind) (x : Val) (o : Option Val) → IsKept a x o → IsKept (k.option a) (v.some x) (option_map v.some o)
some_made a x (Some y) h = ap v.some h
some_made a x None h = h

left_made : (a b : Kind) (x : Val) (o : Option Val) → IsKept a x o → IsKept (k.or a b) (v.left x) (option_map v.left o)
left_made a b x (Some y) h = ap v.left h
left_made a b x None h = h

right_made : (a b : Kind) (x : Val) (o : Option Val) → IsKept b x o → IsKept (k.or a b) (v.right x) (option_map v.right o)
right_made a b x (Some y) h = ap v.right h
right_made a b x None h = h

both_made : (a b : Kind) (x y : Val) (o p : Option Val) → IsKept a x o → IsKept b y p → IsKept (k.pair a b) (v.both x y) (both_kept o p)
both_made a b x y (Some z) (Some w) h l = ap (λ (u : Val). v.both u y) h ∙ ap (λ (u : Val). v.both z u) l
both_made a b x y (Some z) None h l = second_false (is_stored a x) (is_stored b y) l
both_made a b x y None (Some w) h l = first_false (is_stored a x) (is_stored b y) h
both_made a b x y None None h l = first_false (is_stored a x) (is_stored b y) h

item_made : (a : Kind) (x : Val) (o : Option Val) (xs : Vals) (p : Option Vals) → IsKept a x o → AreKept a xs p → AreKept a (more_vals x xs) (item_kept o p)
item_made a x (Some y) xs (Some ys) h l = ap (λ (u : Val). more_vals u xs) h ∙ ap (λ (us : Vals). more_vals y us) l
item_made a x (Some y) xs None h l = second_false (is_stored a x) (all_values (is_stored a) xs) l
item_made a x None xs (Some ys) h l = first_false (is_stored a x) (all_values (is_stored a) xs) h
item_made a x None xs None h l = first_false (is_stored a x) (all_values (is_stored a) xs) h

entry_made : (a b : Kind) (x y : Val) (o : Option Val) (es : Pairs) (p : Option Pairs) → IsKept b y o → AreEntriesKept a b es p → AreEntriesKept a b (more_pairs x y es) (entry_kept x o p)
entry_made a b x y (Some z) es (Some fs) h l = ap (λ (u : Val). more_pairs x u es) h ∙ ap (λ (us : Pairs). more_pairs x z us) l
entry_made a b x y (Some z) es None h l = second_false (is_stored a x && is_stored b y) (all_entries (is_stored a) (is_stored b) es) l
entry_made a b x y None es (Some fs) h l = first_false (is_stored a x && is_stored b y) (all_entries (is_stored a) (is_stored b) es) (second_false (is_stored a x) (is_stored b y) h)
entry_made a b x y None es None h l = first_false (is_stored a x && is_stored b y) (all_entries (is_stored a) (is_stored b) es) (second_false (is_stored a x) (is_stored b y) h)

list_made : (a : Kind) (xs : Vals) (p : Option Vals) → AreKept a xs p → IsKept (k.list a) (v.list xs) (option_map v.list p)
list_made a xs (Some ys) h = ap v.list h
list_made a xs None h = h

set_made : (a : Kind) (xs : Vals) (t : Bool) → are_increasing xs ≡ t → IsKept (k.set a) (v.set xs) (cond t (Some (v.set xs)) None)
set_made a xs true h = refl
set_made a xs false h = second_false (all_values (is_stored a) xs) (are_increasing xs) h

table_by : (a b : Kind) (es fs : Pairs) (t : Bool) → are_increasing (keys fs) ≡ t → es ≡ fs → IsKept (k.map a b) (v.table es) (cond t (Some (v.table fs)) None)
table_by a b es fs true h e = ap v.table e
table_by a b es fs false h e = second_false (all_entries (is_stored a) (is_stored b) es) (are_increasing (keys es)) (ap (λ (us : Pairs). are_increasing (keys us)) e ∙ h)

table_made : (a b : Kind) (es : Pairs) (p : Option Pairs) → AreEntriesKept a b es p → IsKept (k.map a b) (v.table es) (in_order v.table p)
table_made a b es (Some fs) h = table_by a b es fs (are_increasing (keys fs)) refl h
table_made a b es None h = first_false (all_entries (is_stored a) (is_stored b) es) (are_increasing (keys es)) h

big_by : (a b : Kind) (es fs : Pairs) (t : Bool) → are_increasing (keys fs) ≡ t → es ≡ fs → IsKept (k.big_map a b) (v.big_table es) (cond t (Some (v.big_table fs)) None)
big_by a b es fs true h e = ap v.big_table e
big_by a b es fs false h e = second_false (all_entries (is_stored a) (is_stored b) es) (are_increasing (keys es)) (ap (λ (us : Pairs). are_increasing (keys us)) e ∙ h)

big_made : (a b : Kind) (es : Pairs) (p : Option Pairs) → AreEntriesKept a b es p → IsKept (k.big_map a b) (v.big_table es) (in_order v.big_table p)
big_made a b es (Some fs) h = big_by a b es fs (are_increasing (keys fs)) refl h
big_made a b es None h = first_false (all_entries (is_stored a) (is_stored b) es) (are_increasing (keys es)) h

-- ---- by the types

option_step : (a : Kind) → Keeps a → (m : Bool) (s : Spot) → Agree (IsKept (k.option a)) (option_by (value_at a) m s) (option_kept_by (kept_at a) m s)
option_step a keeps false s = (refl, refl)
option_step a keeps true s =
    then_agree (IsKept a) (IsKept (k.option a)) (value_at a s) (kept_at a s) (λ (x : Val × Spot). Ok (v.some x.0, x.1)) (λ (x : Option Val × Spot). Ok (option_map v.some x.0, x.1)) (keeps s)
    (λ x o r h. (refl, some_made a x o h))

or_step : (a b : Kind) → Keeps a → Keeps b → (m : Bool) (s : Spot) → Agree (IsKept (k.or a b)) (or_by (value_at a) (value_at b) m s) (or_kept_by (kept_at a) (kept_at b) m s)
or_step a b ka kb false s =
    then_agree (IsKept a) (IsKept (k.or a b)) (value_at a s) (kept_at a s) (λ (x : Val × Spot). Ok (v.left x.0, x.1)) (λ (x : Option Val × Spot). Ok (option_map v.left x.0, x.1)) (ka s)
    (λ x o r h. (refl, left_made a b x o h))
or_step a b ka kb true s =
    then_agree (IsKept b) (IsKept (k.or a b)) (value_at b s) (kept_at b s) (λ (x : Val × Spot). Ok (v.right x.0, x.1)) (λ (x : Option Val × Spot). Ok (option_map v.right x.0, x.1)) (kb s)
    (λ x o r h. (refl, right_made a b x o h))

pair_step : (a b : Kind) → Keeps a → Keeps b → Keeps (k.pair a b)
pair_step a b ka kb s =
    then_agree (IsKept a) (IsKept (k.pair a b)) (value_at a s) (kept_at a s)
    (λ (x : Val × Spot). value_at b x.1 >>= λ (y : Val × Spot). Ok (v.both x.0 y.0, y.1))
    (λ (x : Option Val × Spot). kept_at b x.1 >>= λ (y : Option Val × Spot). Ok (both_kept x.0 y.0, y.1)) (ka s)
    (λ x o r h. then_agree (IsKept b) (IsKept (k.pair a b)) (value_at b r) (kept_at b r) (λ (y : Val × Spot). Ok (v.both x y.0, y.1)) (λ (y : Option Val × Spot). Ok (both_kept o y.0, y.1)) (kb r)
    (λ y p q l. (refl, both_made a b x y o p h l)))

items_step : (a : Kind) → Keeps a → (n : ℕ) (s : Spot) → Agree (AreKept a) (vals_at (value_at a) n s) (items_kept_at (kept_at a) n s)
items_step a ka zero s = (refl, refl)
items_step a ka (suc n) s =
    then_agree (IsKept a) (AreKept a) (value_at a s) (kept_at a s)
    (λ (x : Val × Spot). vals_at (value_at a) n x.1 >>= λ (xs : Vals × Spot). Ok (more_vals x.0 xs.0, xs.1))
    (λ (x : Option Val × Spot). items_kept_at (kept_at a) n x.1 >>= λ (xs : Option Vals × Spot). Ok (item_kept x.0 xs.0, xs.1)) (ka s)
    (λ x o r h. then_agree (AreKept a) (AreKept a) (vals_at (value_at a) n r) (items_kept_at (kept_at a) n r)
    (λ (xs : Vals × Spot). Ok (more_vals x xs.0, xs.1)) (λ (xs : Option Vals × Spot). Ok (item_kept o xs.0, xs.1)) (items_step a ka n r)
    (λ xs p q l. (refl, item_made a x o xs p h l)))

entries_step : (a b : Kind) → Keeps b → (n : ℕ) (s : Spot) → Agree (AreEntriesKept a b) (pairs_at (value_at a) (value_at b) n s) (pairs_kept_at (value_at a) (kept_at b) n s)
entries_step a b kb zero s = (refl, refl)
entries_step a b kb (suc n) s =
    same_then (AreEntriesKept a b) (value_at a s)
    (λ (x : Val × Spot). value_at b x.1 >>= λ (y : Val × Spot). pairs_at (value_at a) (value_at b) n y.1 >>= λ (es : Pairs × Spot). Ok (more_pairs x.0 y.0 es.0, es.1))
    (λ (x : Val × Spot). kept_at b x.1 >>= λ (y : Option Val × Spot). pairs_kept_at (value_at a) (kept_at b) n y.1 >>= λ (es : Option Pairs × Spot). Ok (entry_kept x.0 y.0 es.0, es.1))
    (λ x. then_agree (IsKept b) (AreEntriesKept a b) (value_at b x.1) (kept_at b x.1)
    (λ (y : Val × Spot). pairs_at (value_at a) (value_at b) n y.1 >>= λ (es : Pairs × Spot). Ok (more_pairs x.0 y.0 es.0, es.1))
    (λ (y : Option Val × Spot). pairs_kept_at (value_at a) (kept_at b) n y.1 >>= λ (es : Option Pairs × Spot). Ok (entry_kept x.0 y.0 es.0, es.1)) (kb x.1)
    (λ y o r h. then_agree (AreEntriesKept a b) (AreEntriesKept a b) (pairs_at (value_at a) (value_at b) n r) (pairs_kept_at (value_at a) (kept_at b) n r)
    (λ (es : Pairs × Spot). Ok (more_pairs x.0 y es.0, es.1)) (λ (es : Option Pairs × Spot). Ok (entry_kept x.0 o es.0, es.1)) (entries_step a b kb n r)
    (λ es p q l. (refl, entry_made a b x.0 y o es p h l))))

list_step : (a : Kind) → Keeps a → Keeps (k.list a)
list_step a ka s =
    same_then (IsKept (k.list a)) (number_at w64 s)
    (λ (n : ℕ × Spot). vals_at (value_at a) n.0 n.1 >>= λ (xs : Vals × Spot). Ok (v.list xs.0, xs.1))
    (λ (n : ℕ × Spot). items_kept_at (kept_at a) n.0 n.1 >>= λ (xs : Option Vals × Spot). Ok (option_map v.list xs.0, xs.1))
    (λ n. then_agree (AreKept a) (IsKept (k.list a)) (vals_at (value_at a) n.0 n.1) (items_kept_at (kept_at a) n.0 n.1)
    (λ (xs : Vals × Spot). Ok (v.list xs.0, xs.1)) (λ (xs : Option Vals × Spot). Ok (option_map v.list xs.0, xs.1)) (items_step a ka n.0 n.1)
    (λ xs p r h. (refl, list_made a xs p h)))

set_agrees : (a : Kind) (r : Result (Vals × Spot) ℕ) → Agree (IsKept (k.set a)) (r >>= λ (xs : Vals × Spot). Ok (v.set xs.0, xs.1)) (r >>= λ (xs : Vals × Spot). Ok (set_kept xs.0, xs.1))
set_agrees a (Ok xs) = (refl, set_made a xs.0 (are_increasing xs.0) refl)
set_agrees a (Err p) = refl

set_step : (a : Kind) → Keeps (k.set a)
set_step a s =
    same_then (IsKept (k.set a)) (number_at w64 s)
    (λ (n : ℕ × Spot). vals_at (value_at a) n.0 n.1 >>= λ (xs : Vals × Spot). Ok (v.set xs.0, xs.1))
    (λ (n : ℕ × Spot). vals_at (value_at a) n.0 n.1 >>= λ (xs : Vals × Spot). Ok (set_kept xs.0, xs.1))
    (λ n. set_agrees a (vals_at (value_at a) n.0 n.1))

map_step : (a b : Kind) → Keeps b → Keeps (k.map a b)
map_step a b kb s =
    same_then (IsKept (k.map a b)) (number_at w64 s)
    (λ (n : ℕ × Spot). pairs_at (value_at a) (value_at b) n.0 n.1 >>= λ (es : Pairs × Spot). Ok (v.table es.0, es.1))
    (λ (n : ℕ × Spot). pairs_kept_at (value_at a) (kept_at b) n.0 n.1 >>= λ (es : Option Pairs × Spot). Ok (in_order v.table es.0, es.1))
    (λ n. then_agree (AreEntriesKept a b) (IsKept (k.map a b)) (pairs_at (value_at a) (value_at b) n.0 n.1) (pairs_kept_at (value_at a) (kept_at b) n.0 n.1)
    (λ (es : Pairs × Spot). Ok (v.table es.0, es.1)) (λ (es : Option Pairs × Spot). Ok (in_order v.table es.0, es.1)) (entries_step a b kb n.0 n.1)
    (λ es p r h. (refl, table_made a b es p h)))

big_step : (a b : Kind) → Keeps b → Keeps (k.big_map a b)
big_step a b kb s =
    same_then (IsKept (k.big_map a b)) (number_at w64 s)
    (λ (n : ℕ × Spot). pairs_at (value_at a) (value_at b) n.0 n.1 >>= λ (es : Pairs × Spot). Ok (v.big_table es.0, es.1))
    (λ (n : ℕ × Spot). pairs_kept_at (value_at a) (kept_at b) n.0 n.1 >>= λ (es : Option Pairs × Spot). Ok (in_order v.big_table es.0, es.1))
    (λ n. then_agree (AreEntriesKept a b) (IsKept (k.big_map a b)) (pairs_at (value_at a) (value_at b) n.0 n.1) (pairs_kept_at (value_at a) (kept_at b) n.0 n.1)
    (λ (es : Pairs × Spot). Ok (v.big_table es.0, es.1)) (λ (es : Option Pairs × Spot). Ok (in_order v.big_table es.0, es.1)) (entries_step a b kb n.0 n.1)
    (λ es p r h. (refl, big_made a b es p h)))

-- a value is read where it is kept, and fails where it is; what isn't kept isn't one of its type
pub keeps : (a : Kind) → Keeps a
keeps (k.simple c) s = all_agree (k.simple c) (simple_at c s)
keeps k.operation s = all_agree k.operation (nothing_at s)
keeps (k.option a) s =
    same_then (IsKept (k.option a)) (mark_at s) (λ (m : Bool × Spot). option_by (value_at a) m.0 m.1) (λ (m : Bool × Spot). option_kept_by (kept_at a) m.0 m.1)
    (λ m. option_step a (keeps a) m.0 m.1)
keeps (k.or a b) s =
    same_then (IsKept (k.or a b)) (mark_at s) (λ (m : Bool × Spot). or_by (value_at a) (value_at b) m.0 m.1) (λ (m : Bool × Spot). or_kept_by (kept_at a) (kept_at b) m.0 m.1)
    (λ m. or_step a b (keeps a) (keeps b) m.0 m.1)
keeps (k.pair a b) s = pair_step a b (keeps a) (keeps b) s
keeps (k.list a) s = list_step a (keeps a) s
keeps (k.set a) s = set_step a s
keeps (k.map a b) s = map_step a b (keeps b) s
keeps (k.big_map a b) s = big_step a b (keeps b) s
keeps (k.lambda a b) s = all_agree (k.lambda a b) (lambda_at s)
keeps (k.contract a) s = all_agree (k.contract a) (nothing_at s)
keeps (k.ticket a) s = all_agree (k.ticket a) (ticket_at a (value_at a) s)
