-- Sets and maps have no more items than their spelling has bytes; those whose keys take no bytes have one item at most.
use Rattle.std.proofs.Common.{◌≡◌, ◌≤◌, ◌<◌, ◌^◌, ◌⊎◌, inl, inr, ℕ, suc, Bool, true, false, ◌&&◌, ◌||◌, List, ◌++◌, length, length-append, refl, ap, ◌∙◌, arith}
use Rattle.std.specs.Prelude.{ℤ}
use Rattle.std.specs.Int.{w32, w128, to_be_bytes}
use Rattle.std.specs.Ordering.{is_lt, ordering_then}
use Rattle.std.specs.declared.cmp.Ordering.{Ordering}
use Rattle.std.specs.declared.cmp.Ordering.TheVariants.{Less, Equal, Greater}
use Rattle.std.proofs.lemmas.Bool.{and_parts}
use Rattle.rules_text.specs.binary.Spelling.{field}
use Rattle.rules_data.specs.declared.types.Simple.{Simple}
use Rattle.rules_data.specs.declared.types.Simple.TheVariants as s
use Rattle.rules_data.specs.types.Kind.{Kind}
use Rattle.rules_data.specs.types.Kind as k
use Rattle.rules_data.specs.types.Attributes.{comparable}
use Rattle.rules_data.specs.values.Val.{Val, Vals, no_val, more_vals, Pairs, no_pair, more_pairs}
use Rattle.rules_data.specs.values.Val as v
use Rattle.rules_data.specs.values.Order.{order}
use Rattle.rules_files.specs.snapshots.Spelling.{mark, signed, count_vals, count_pairs, value_spelling, value_spellings, entry_spellings}
use Rattle.rules_files.specs.snapshots.Reading.{snapshot_limit}
use Rattle.rules_files.specs.snapshots.Rules.{all_values, all_entries, are_increasing, keys, is_stored}

-- ---- values that take bytes

abbrev takes_bytes : Kind → Bool
takes_bytes (k.simple s.Unit) = false
takes_bytes (k.pair a b) = takes_bytes a || takes_bytes b
takes_bytes a = true

front_some : (xs ys : List ℕ) → 1 ≤ length xs → 1 ≤ length (xs ++ ys)
front_some xs ys h = omega (arith, length-append xs ys, h)

back_some : (xs ys : List ℕ) → 1 ≤ length ys → 1 ≤ length (xs ++ ys)
back_some xs ys h = omega (arith, length-append xs ys, h)

mark_some : (b : Bool) → 1 ≤ length (mark b)
mark_some true = omega arith
mark_some false = omega arith

number_some : (n : ℤ) → 1 ≤ length (signed w128 n)
number_some n = omega arith

field_some : (b : List ℕ) → 1 ≤ length (field b)
unfolding field
field_some b = omega (arith, length-append (to_be_bytes w32 (length b)) b)

simple_some : (u : Simple) (x : Val) → is_stored (k.simple u) x ≡ true → takes_bytes (k.simple u) ≡ true → 1 ≤ length (value_spelling x)
simple_some s.Unit x h t = absurd cc
simple_some s.Bool (v.truth b) h t = mark_some b
simple_some s.Int (v.number n) h t = number_some n
simple_some s.Timestamp (v.number n) h t = number_some n
simple_some s.Nat (v.number n) h t = number_some n
simple_some s.Mutez (v.number n) h t = number_some n
simple_some s.String (v.text b) h t = field_some b
simple_some s.Bytes (v.bytes b) h t = field_some b
simple_some s.KeyHash (v.bytes b) h t = field_some b
simple_some s.Key (v.bytes b) h t = field_some b
simple_some s.Signature (v.bytes b) h t = field_some b
simple_some s.ChainId (v.bytes b) h t = field_some b
simple_some s.Address (v.bytes b) h t = field_some b
simple_some u x h t = absurd cc

either : (a b : Bool) → (a || b) ≡ true → (a ≡ true) ⊎ (b ≡ true)
either true b h = inl refl
either false b h = inr h

-- of types that can be compared
key_some : (a : Kind) (x : Val) → comparable a ≡ true → is_stored a x ≡ true → takes_bytes a ≡ true → 1 ≤ length (value_spelling x)
key_some (k.simple u) x c h t = simple_some u x h t
key_some (k.option a) v.nothing c h t = omega arith
key_some (k.option a) (v.some x) c h t = front_some (mark true) (value_spelling x) (mark_some true)
key_some (k.or a b) (v.left x) c h t = front_some (mark false) (value_spelling x) (mark_some false)
key_some (k.or a b) (v.right x) c h t = front_some (mark true) (value_spelling x) (mark_some true)
key_some (k.pair a b) (v.both x y) c h t =
    by (either (takes_bytes a) (takes_bytes b) t) (λ e. key_some a x cs.0 hs.0 e) (λ e. key_some b y cs.1 hs.1 e)
  where
    cs : (comparable a ≡ true) × (comparable b ≡ true)
    cs = and_parts (comparable a) (comparable b) c

    hs : (is_stored a x ≡ true) × (is_stored b y ≡ true)
    hs = and_parts (is_stored a x) (is_stored b y) h

    by : (takes_bytes a ≡ true) ⊎ (takes_bytes b ≡ true) → (takes_bytes a ≡ true → 1 ≤ length (value_spelling x)) →
        (takes_bytes b ≡ true → 1 ≤ length (value_spelling y)) → 1 ≤ length (value_spelling x ++ value_spelling y)
    by (inl e) f g = front_some (value_spelling x) (value_spelling y) (f e)
    by (inr e) f g = back_some (value_spelling x) (value_spelling y) (g e)
key_some a x c h t = absurd cc

-- ---- values that take none are alike

neither : (a b : Bool) → (a || b) ≡ false → (a ≡ false) × (b ≡ false)
neither true b h = absurd cc
neither false b h = (refl, h)

then_equal : (r q : Ordering) → r ≡ Equal → q ≡ Equal → ordering_then r q ≡ Equal
then_equal r q e g = ap (λ (o : Ordering). ordering_then o q) e ∙ g

bare_equal : (a : Kind) (x y : Val) → takes_bytes a ≡ false → is_stored a x ≡ true → is_stored a y ≡ true → order x y ≡ Equal
bare_equal (k.simple s.Unit) v.unit v.unit t h g = refl
bare_equal (k.pair a b) (v.both x y) (v.both z w) t h g =
    let ts = neither (takes_bytes a) (takes_bytes b) t in
    let hs = and_parts (is_stored a x) (is_stored b y) h in
    let gs = and_parts (is_stored a z) (is_stored b w) g in
    then_equal (order x z) (order y w) (bare_equal a x z ts.0 hs.0 gs.0) (bare_equal b y w ts.1 hs.1 gs.1)
bare_equal a x y t h g = absurd cc

-- ---- counts

more_counted : (n : ℕ) (xs ys : List ℕ) → 1 ≤ length xs → n ≤ length ys → suc n ≤ length (xs ++ ys)
more_counted n xs ys h g = omega (arith, length-append xs ys, h, g)

vals_counted : (a : Kind) (xs : Vals) → comparable a ≡ true → takes_bytes a ≡ true → all_values (is_stored a) xs ≡ true →
    count_vals xs ≤ length (value_spellings xs)
vals_counted a no_val c t h = omega arith
vals_counted a (more_vals x xs) c t h =
    let hs = and_parts (is_stored a x) (all_values (is_stored a) xs) h in
    more_counted (count_vals xs) (value_spelling x) (value_spellings xs) (key_some a x c hs.0 t) (vals_counted a xs c t hs.1)

entry_counted : (n : ℕ) (xs ys zs : List ℕ) → 1 ≤ length xs → n ≤ length zs → suc n ≤ length (xs ++ (ys ++ zs))
entry_counted n xs ys zs h g = omega (arith, length-append xs (ys ++ zs), length-append ys zs, h, g)

pairs_counted : (a b : Kind) (es : Pairs) → comparable a ≡ true → takes_bytes a ≡ true → all_entries (is_stored a) (is_stored b) es ≡ true →
    count_pairs es ≤ length (entry_spellings es)
pairs_counted a b no_pair c t h = omega arith
pairs_counted a b (more_pairs x y es) c t h =
    let hs = and_parts (is_stored a x && is_stored b y) (all_entries (is_stored a) (is_stored b) es) h in
    entry_counted (count_pairs es) (value_spelling x) (value_spelling y) (entry_spellings es)
    (key_some a x c (and_parts (is_stored a x) (is_stored b y) hs.0).0 t) (pairs_counted a b es c t hs.1)

not_below : (r : Ordering) → r ≡ Equal → is_lt r ≡ true → ⊥
not_below Less e h = absurd cc
not_below Equal e h = absurd cc
not_below Greater e h = absurd cc

bare_vals : (a : Kind) (xs : Vals) → takes_bytes a ≡ false → all_values (is_stored a) xs ≡ true → are_increasing xs ≡ true → count_vals xs ≤ 1
bare_vals a no_val t h i = omega arith
bare_vals a (more_vals x no_val) t h i = omega arith
bare_vals a (more_vals x (more_vals y ys)) t h i =
    let hs = and_parts (is_stored a x) (all_values (is_stored a) (more_vals y ys)) h in
    let second = and_parts (is_stored a y) (all_values (is_stored a) ys) hs.1 in
    let below = and_parts (is_lt (order x y)) (are_increasing (more_vals y ys)) i in
    absurd (not_below (order x y) (bare_equal a x y t hs.0 second.0) below.0)

bare_pairs : (a b : Kind) (es : Pairs) → takes_bytes a ≡ false → all_entries (is_stored a) (is_stored b) es ≡ true → are_increasing (keys es) ≡ true →
    count_pairs es ≤ 1
bare_pairs a b no_pair t h i = omega arith
bare_pairs a b (more_pairs x y no_pair) t h i = omega arith
bare_pairs a b (more_pairs x y (more_pairs z w es)) t h i =
    let hs = and_parts (is_stored a x && is_stored b y) (all_entries (is_stored a) (is_stored b) (more_pairs z w es)) h in
    let second = and_parts (is_stored a z && is_stored b w) (all_entries (is_stored a) (is_stored b) es) hs.1 in
    let below = and_parts (is_lt (order x z)) (are_increasing (more_vals z (keys es))) i in
    absurd (not_below (order x z) (bare_equal a x z t (and_parts (is_stored a x) (is_stored b y) hs.0).0
    (and_parts (is_stored a z) (is_stored b w) second.0).0) below.0)

-- ---- sets and maps

few : (n m : ℕ) → n ≤ m → m ≤ snapshot_limit → n < 2 ^ 64
few n m h g = omega (arith, h, g)

one_few : (n : ℕ) → n ≤ 1 → n < 2 ^ 64
one_few n h = omega (arith, h)

pub few_vals : (a : Kind) (xs : Vals) → comparable a ≡ true → all_values (is_stored a) xs ≡ true → are_increasing xs ≡ true →
    length (value_spellings xs) ≤ snapshot_limit → count_vals xs < 2 ^ 64
few_vals a xs c h i l = by (takes_bytes a) refl
  where
    by : (b : Bool) → takes_bytes a ≡ b → count_vals xs < 2 ^ 64
    by true t = few (count_vals xs) (length (value_spellings xs)) (vals_counted a xs c t h) l
    by false t = one_few (count_vals xs) (bare_vals a xs t h i)

pub few_pairs : (a b : Kind) (es : Pairs) → comparable a ≡ true → all_entries (is_stored a) (is_stored b) es ≡ true →
    are_increasing (keys es) ≡ true →
    length (entry_spellings es) ≤ snapshot_limit → count_pairs es < 2 ^ 64
few_pairs a b es c h i l = by (takes_bytes a) refl
  where
    by : (t : Bool) → takes_bytes a ≡ t → count_pairs es < 2 ^ 64
    by true t = few (count_pairs es) (length (entry_spellings es)) (pairs_counted a b es c t h) l
    by false t = one_few (count_pairs es) (bare_pairs a b es t h i)

-- ---- parts of a spelling

pub front_within : (xs ys : List ℕ) → length (xs ++ ys) ≤ snapshot_limit → length xs ≤ snapshot_limit
front_within xs ys h = omega (arith, length-append xs ys, h)

pub back_within : (xs ys : List ℕ) → length (xs ++ ys) ≤ snapshot_limit → length ys ≤ snapshot_limit
back_within xs ys h = omega (arith, length-append xs ys, h)
