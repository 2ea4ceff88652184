-- Maps: what is at a key, and maps with and without a key.
use Rattle.std.proofs.Common.{◌≡◌, Bool, true, false, Option, Some, None, refl, sym, ap, ◌∙◌, arith}
use Rattle.std.specs.Prelude.{ℤ, pos, ◌+ℤ◌, if◌then◌else◌}
use Rattle.std.specs.declared.cmp.Ordering.{Ordering}
use Rattle.std.specs.declared.cmp.Ordering.TheVariants.{Less, Equal, Greater}
use Rattle.std.specs.Ordering.{match_ordering, is_eq, ordering_reverse}
use Rattle.std.proofs.Math.IntN.{+ℤ_comm, +ℤ_idr}
use Rattle.std.proofs.lemmas.Int.{ints}
use Rattle.rules_data.specs.values.Val.{Val, Pairs, no_pair, more_pairs}
use Rattle.rules_data.specs.values.Order.{order}
use Rattle.rules_data.specs.values.Tables.{value_at, with_value, without_key, AreKeysAbove, AreIncreasingKeys}
use Rattle.rules_data.specs.values.Tickets.{Identity, tickets, pair_tickets}
use Rattle.rules_data.specs.values.Forms.{AllEntriesHave}
use Rattle.rules_code.specs.steps.Changes.{amount_among, amount_in}
use Rattle.laws_data.proofs.values_lemmas.ForCallers.{order_lawful}
use Rattle.laws_data.proofs.amounts.Sums.{among_append}

-- ---- increasing keys

higher : (k j : Val) (ps : Pairs) → order k j ≡ Less → AreKeysAbove j ps → AreKeysAbove k ps
higher k j no_pair h a = tt
higher k j (more_pairs i v ps) h a = (order_lawful.trans k j i h a.0, higher k j ps h a.1)

stays_above : (i k v : Val) (ps : Pairs) → order i k ≡ Less → AreKeysAbove i ps → AreKeysAbove i (with_value k v ps)
stays_above i k v no_pair h a = (h, tt)
stays_above i k v (more_pairs j w ps) h a = by_case (order k j) (stays_above i k v ps h a.1)
  where
    by_case : (o : Ordering) → AreKeysAbove i (with_value k v ps) →
        AreKeysAbove i (match_ordering o (more_pairs k v (more_pairs j w ps)) (more_pairs j v ps)
        (more_pairs j w (with_value k v ps)))
    by_case Less later = (h, a)
    by_case Equal later = a
    by_case Greater later = (a.0, later)

back : (k j : Val) → order k j ≡ Greater → order j k ≡ Less
back k j h = order_lawful.antisymm j k ∙ ap ordering_reverse h

pub with_increasing : (k v : Val) (ps : Pairs) → AreIncreasingKeys ps → AreIncreasingKeys (with_value k v ps)
with_increasing k v no_pair s = (tt, tt)
with_increasing k v (more_pairs j w ps) s = by_case (order k j) refl (with_increasing k v ps s.1)
  where
    by_case : (o : Ordering) → order k j ≡ o → AreIncreasingKeys (with_value k v ps) →
        AreIncreasingKeys (match_ordering o (more_pairs k v (more_pairs j w ps)) (more_pairs j v ps)
        (more_pairs j w (with_value k v ps)))
    by_case Less e later = ((e, higher k j ps e s.0), s)
    by_case Equal e later = s
    by_case Greater e later = (stays_above j k v ps (back k j e) s.0, later)

without_above : (i k : Val) (ps : Pairs) → AreKeysAbove i ps → AreKeysAbove i (without_key k ps)
without_above i k no_pair a = tt
without_above i k (more_pairs j w ps) a = by_case (is_eq (order k j)) (without_above i k ps a.1)
  where
    by_case : (b : Bool) → AreKeysAbove i (without_key k ps) →
        AreKeysAbove i (if b then ps else more_pairs j w (without_key k ps))
    by_case true later = a.1
    by_case false later = (a.0, later)

pub without_increasing : (k : Val) (ps : Pairs) → AreIncreasingKeys ps → AreIncreasingKeys (without_key k ps)
without_increasing k no_pair s = tt
without_increasing k (more_pairs j w ps) s = by_case (is_eq (order k j)) (without_increasing k ps s.1)
  where
    by_case : (b : Bool) → AreIncreasingKeys (without_key k ps) →
        AreIncreasingKeys (if b then ps else more_pairs j w (without_key k ps))
    by_case true later = s.1
    by_case false later = (without_above j k ps s.0, later)

-- ---- keys and values

module _ (P Q : Val → Type 0) where
  pub with_entries : (k v : Val) (ps : Pairs) → P k → Q v → AllEntriesHave P Q ps → AllEntriesHave P Q (with_value k v ps)
  with_entries k v no_pair p q h = (p, q, tt)
  with_entries k v (more_pairs j w ps) p q h = by_case (order k j) (with_entries k v ps p q h.2)
    where
      by_case : (o : Ordering) → AllEntriesHave P Q (with_value k v ps) →
          AllEntriesHave P Q (match_ordering o (more_pairs k v (more_pairs j w ps)) (more_pairs j v ps)
          (more_pairs j w (with_value k v ps)))
      by_case Less later = (p, q, h)
      by_case Equal later = (h.0, q, h.2)
      by_case Greater later = (h.0, h.1, later)

  pub without_entries : (k : Val) (ps : Pairs) → AllEntriesHave P Q ps → AllEntriesHave P Q (without_key k ps)
  without_entries k no_pair h = tt
  without_entries k (more_pairs j w ps) h = by_case (is_eq (order k j)) (without_entries k ps h.2)
    where
      by_case : (b : Bool) → AllEntriesHave P Q (without_key k ps) →
          AllEntriesHave P Q (if b then ps else more_pairs j w (without_key k ps))
      by_case true later = h.2
      by_case false later = (h.0, h.1, later)

-- what an optional value has
abbrev pub OptionHas : (Val → Type 0) → Option Val → Type 0
OptionHas Q None = Unit {0}
OptionHas Q (Some x) = Q x

module _ (P Q : Val → Type 0) where
  pub value_has : (k : Val) (ps : Pairs) → AllEntriesHave P Q ps → OptionHas Q (value_at k ps)
  value_has k no_pair h = tt
  value_has k (more_pairs j w ps) h = by_case (is_eq (order k j)) (value_has k ps h.2)
    where
      by_case : (b : Bool) → OptionHas Q (value_at k ps) → OptionHas Q (if b then Some w else value_at k ps)
      by_case true later = h.1
      by_case false later = later

-- ---- amounts

abbrev pub amount_held_in : Identity → Pairs → ℤ
amount_held_in id ps = amount_among id (pair_tickets ps)

abbrev pub amount_if : Identity → Option Val → ℤ
amount_if id None = pos 0
amount_if id (Some x) = amount_in id x

pub amount_pairs : (id : Identity) (k v : Val) (ps : Pairs) →
    amount_held_in id (more_pairs k v ps) ≡ amount_in id v +ℤ amount_held_in id ps
amount_pairs id k v ps = among_append id (tickets v) (pair_tickets ps)

nothing_at : (k : Val) (ps : Pairs) → AreKeysAbove k ps → value_at k ps ≡ None
nothing_at k no_pair a = refl
nothing_at k (more_pairs j w ps) a = ap (λ o. if is_eq o then Some w else value_at k ps) a.0 ∙ nothing_at k ps a.1

put_first : (v w r n t : ℤ) → t ≡ v +ℤ (w +ℤ r) → n ≡ pos 0 → t +ℤ n ≡ v +ℤ (w +ℤ r)
put_first v w r n t e f = omega (arith, ints)

put_over : (v w r t : ℤ) → t ≡ v +ℤ r → t +ℤ w ≡ v +ℤ (w +ℤ r)
put_over v w r t e = omega (arith, ints)

put_later : (v w r n p t : ℤ) → p +ℤ n ≡ v +ℤ r → t ≡ w +ℤ p → t +ℤ n ≡ v +ℤ (w +ℤ r)
put_later v w r n p t e f = omega (arith, ints)

-- with a value in the place of the one that was at the key
pub with_amount : (id : Identity) (k v : Val) (ps : Pairs) → AreIncreasingKeys ps →
    amount_held_in id (with_value k v ps) +ℤ amount_if id (value_at k ps) ≡ amount_in id v +ℤ amount_held_in id ps
with_amount id k v no_pair s = ap (λ z. z +ℤ pos 0) (amount_pairs id k v no_pair) ∙ +ℤ_idr (amount_in id v +ℤ pos 0)
with_amount id k v (more_pairs j w ps) s =
    by_case (order k j) refl (with_amount id k v ps s.1) ∙ ap (λ z. amount_in id v +ℤ z) (sym (amount_pairs id j w ps))
  where
    by_case : (o : Ordering) → order k j ≡ o →
        amount_held_in id (with_value k v ps) +ℤ amount_if id (value_at k ps) ≡ amount_in id v +ℤ amount_held_in id ps →
        amount_held_in id (match_ordering o (more_pairs k v (more_pairs j w ps)) (more_pairs j v ps)
        (more_pairs j w (with_value k v ps)))
        +ℤ amount_if id (if is_eq o then Some w else value_at k ps) ≡ amount_in id v +ℤ (amount_in id w +ℤ amount_held_in id ps)
    by_case Less e later =
        put_first (amount_in id v) (amount_in id w) (amount_held_in id ps) (amount_if id (value_at k ps)) _
        (amount_pairs id k v (more_pairs j w ps) ∙ ap (λ z. amount_in id v +ℤ z) (amount_pairs id j w ps))
        (ap (amount_if id) (nothing_at k ps (higher k j ps e s.0)))
    by_case Equal e later = put_over (amount_in id v) (amount_in id w) (amount_held_in id ps) _ (amount_pairs id j v ps)
    by_case Greater e later =
        put_later (amount_in id v) (amount_in id w) (amount_held_in id ps) (amount_if id (value_at k ps))
        (amount_held_in id (with_value k v ps)) _
        later (amount_pairs id j w (with_value k v ps))

taken_later : (w r n p t : ℤ) → p +ℤ n ≡ r → t ≡ w +ℤ p → t +ℤ n ≡ w +ℤ r
taken_later w r n p t e f = omega (arith, ints)

pub without_amount : (id : Identity) (k : Val) (ps : Pairs) →
    amount_held_in id (without_key k ps) +ℤ amount_if id (value_at k ps) ≡ amount_held_in id ps
without_amount id k no_pair = refl
without_amount id k (more_pairs j w ps) = by_case (is_eq (order k j)) (without_amount id k ps) ∙ sym (amount_pairs id j w ps)
  where
    by_case : (b : Bool) → amount_held_in id (without_key k ps) +ℤ amount_if id (value_at k ps) ≡ amount_held_in id ps →
        amount_held_in id (if b then ps else more_pairs j w (without_key k ps)) +ℤ amount_if id
        (if b then Some w else value_at k ps) ≡ amount_in id w +ℤ amount_held_in id ps
    by_case true later = +ℤ_comm (amount_held_in id ps) (amount_in id w)
    by_case false later =
        taken_later (amount_in id w) (amount_held_in id ps) (amount_if id (value_at k ps))
        (amount_held_in id (without_key k ps)) _ later (amount_pairs id j w (without_key k ps))
