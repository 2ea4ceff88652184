-- The tickets that changes mint, in order, with what is minted of each.
use Rattle.std.proofs.Common.{◌≡◌, Bool, true, false, cond, List, [], ◌∷◌, Option, Some, refl, sym, ap, ◌∙◌, subst, map, arith}
use Rattle.std.specs.Prelude.{ℤ, pos, ◌+ℤ◌, ◌<ℤ◌, unwrap_or, is_some, if◌then◌else◌}
use Rattle.std.specs.declared.cmp.Ordering.{Ordering}
use Rattle.std.specs.declared.cmp.Ordering.TheVariants.{Less, Equal, Greater}
use Rattle.std.specs.Ordering.{is_eq, match_ordering}
use Rattle.std.specs.BTreeMap.{is_at, insert_entry}
use Rattle.std.specs.Map.{lookup, keys_of}
use Rattle.std.specs.List.{All, AllByRecursion}
use Rattle.std.specs.List.Sorted.{IsStrictlySortedBy}
use Rattle.std.proofs.lemmas.Int.{ints}
use Rattle.std.proofs.lemmas.Cmp.{tied_itself}
use Rattle.std.proofs.lemmas.List.Elements.{All-head, All-tail}
use Rattle.rules_data.specs.values.Forms.{is_ticket_amount}
use Rattle.rules_data.specs.values.Tickets.{Identity, Held}
use Rattle.rules_code.specs.steps.Changes.{Change, minted, burnt, identity_of, amount_of, minted_in}
use Rattle.rules_world.specs.world.World.{World, identity_order}
use Rattle.rules_world.specs.world.Holdings.{identities, with_identity, minted_ever}
use Rattle.rules_world.specs.world.Forms.{IsWorld, IsChange}
use Rattle.laws_world.proofs.accounts.ForCallers.{sorted_insert, lookup_insert, identity_total, alike_equal, equal_of}
use Rattle.laws_world.specs.lines.Laws.{AreInOrder, amount_told, told}

-- an entry for each ticket that is minted
abbrev entries : List Change → List (Identity × ℤ)
entries [] = []
entries (minted t ∷ cs) = insert_entry identity_order (entries cs) (identity_of t) (pos 1)
entries (burnt t ∷ cs) = entries cs

keys_inserted : (id : Identity) (es : List (Identity × ℤ)) → keys_of (insert_entry identity_order es id (pos 1)) ≡ with_identity id (keys_of es)
keys_inserted id [] = refl
keys_inserted id (e ∷ es) = by (identity_order id e.0) (keys_inserted id es)
  where
    by : (r : Ordering) → keys_of (insert_entry identity_order es id (pos 1)) ≡ with_identity id (keys_of es)
        → keys_of (match_ordering r ((id, pos 1) ∷ e ∷ es) ((e.0, pos 1) ∷ es) (e ∷ insert_entry identity_order es id (pos 1)))
        ≡ match_ordering r (id ∷ e.0 ∷ keys_of es) (e.0 ∷ keys_of es) (e.0 ∷ with_identity id (keys_of es))
    by Less h = refl
    by Equal h = refl
    by Greater h = ap (λ (js : List Identity). e.0 ∷ js) h

keys_entries : (cs : List Change) → keys_of (entries cs) ≡ identities cs
keys_entries [] = refl
keys_entries (minted t ∷ cs) = keys_inserted (identity_of t) (entries cs) ∙ ap (with_identity (identity_of t)) (keys_entries cs)
keys_entries (burnt t ∷ cs) = keys_entries cs

nothing_sorted : IsStrictlySortedBy identity_order []
unfolding IsStrictlySortedBy
nothing_sorted = tt

entries_sorted : (cs : List Change) → IsStrictlySortedBy identity_order (keys_of (entries cs))
entries_sorted [] = nothing_sorted
entries_sorted (minted t ∷ cs) = sorted_insert identity_order identity_total (entries cs) (identity_of t) (pos 1) (entries_sorted cs)
entries_sorted (burnt t ∷ cs) = entries_sorted cs

-- whether a ticket is among keys
abbrev among : Identity → List Identity → Bool
among id [] = false
among id (j ∷ js) = cond (is_at (identity_order id) j) true (among id js)

among_entries : (id : Identity) (es : List (Identity × ℤ)) → among id (keys_of es) ≡ is_some (lookup (is_at (identity_order id)) es)
among_entries id [] = refl
among_entries id (e ∷ es) = by (is_at (identity_order id) e.0) (among_entries id es)
  where
    by : (b : Bool) → among id (keys_of es) ≡ is_some (lookup (is_at (identity_order id)) es)
        → cond b true (among id (keys_of es)) ≡ is_some (cond b (Some e.1) (lookup (is_at (identity_order id)) es))
    by true h = refl
    by false h = h

-- ---- amounts

amount_is : (id : Identity) (t : Held) → amount_of id t ≡ (if is_at (identity_order id) (identity_of t) then t.amount else pos 0)
amount_is id t = ap (λ b. if b then t.amount else pos 0) (alike_equal id (identity_of t))

-- what is told of the identity of a change
abbrev IsMinted : Bool → ℤ → Type 0
IsMinted true n = pos 0 <ℤ n
IsMinted false n = n ≡ pos 0

minted_more : (b c : Bool) (a n : ℤ) → pos 0 <ℤ a → IsMinted c n → IsMinted (cond b true c) ((if b then a else pos 0) +ℤ n)
minted_more true true a n p h = omega (arith, ints)
minted_more true false a n p h = omega (arith, ints)
minted_more false true a n p h = omega (arith, ints)
minted_more false false a n p h = omega (arith, ints)

amount_positive : (n : ℤ) → is_ticket_amount n ≡ true → pos 0 <ℤ n
amount_positive n h = grind (arith, ints, h)

is_minted : (id : Identity) (cs : List Change) → All IsChange cs → IsMinted (is_some (lookup (is_at (identity_order id)) (entries cs))) (minted_in id cs)
is_minted id [] all = refl
is_minted id (burnt t ∷ cs) all = is_minted id cs (All-tail IsChange (burnt t) cs all)
is_minted id (minted t ∷ cs) all =
    let form = All-head IsChange (minted t) cs all in
    let more = minted_more (is_at (identity_order id) (identity_of t)) (is_some (lookup (is_at (identity_order id)) (entries cs))) t.amount (minted_in id cs)
    (amount_positive t.amount form.1) (is_minted id cs (All-tail IsChange (minted t) cs all)) in
    let there : cond (is_at (identity_order id) (identity_of t)) true (is_some (lookup (is_at (identity_order id)) (entries cs)))
    ≡ is_some (lookup (is_at (identity_order id)) (insert_entry identity_order (entries cs) (identity_of t) (pos 1)))
    = by (is_at (identity_order id) (identity_of t)) (lookup (is_at (identity_order id)) (entries cs))
    ∙ ap is_some (sym (lookup_insert identity_order identity_total id (entries cs) (identity_of t) (pos 1))) in
    subst (λ b. IsMinted b (amount_of id t +ℤ minted_in id cs)) there
    (subst (λ n. IsMinted (cond (is_at (identity_order id) (identity_of t)) true (is_some (lookup (is_at (identity_order id)) (entries cs)))) (n +ℤ minted_in id cs)) (sym (amount_is id t)) more)
  where
    by : (b : Bool) (o : Option ℤ) → cond b true (is_some o) ≡ is_some (cond b (Some (pos 1)) o)
    by true o = refl
    by false o = refl

-- as much is minted of what is alike
minted_alike : (i j : Identity) (cs : List Change) → is_at (identity_order i) j ≡ true → minted_in j cs ≡ minted_in i cs
minted_alike i j [] h = refl
minted_alike i j (burnt t ∷ cs) h = minted_alike i j cs h
minted_alike i j (minted t ∷ cs) h =
    let same : amount_of j t ≡ amount_of i t =
    amount_is j t ∙ ap (λ r. if is_eq r then t.amount else pos 0) (sym (identity_total.congr i j (identity_of t) (equal_of (identity_order i j) h))) ∙ sym (amount_is i t) in
    λ k. same k +ℤ minted_alike i j cs h k

-- ---- what is told

abbrev pairs : List Change → List Identity → List (Identity × ℤ)
pairs cs js = map (λ j. (j, minted_in j cs)) js

keys_pairs : (cs : List Change) (js : List Identity) → keys_of (pairs cs js) ≡ js
keys_pairs cs [] = refl
keys_pairs cs (j ∷ js) = ap (λ (ks : List Identity). j ∷ ks) (keys_pairs cs js)

-- what is told of a ticket, which is among those that are minted or isn't
amount_pairs : (id : Identity) (cs : List Change) (js : List Identity)
    → unwrap_or (lookup (is_at (identity_order id)) (pairs cs js)) (pos 0) ≡ (if among id js then minted_in id cs else pos 0)
amount_pairs id cs [] = refl
amount_pairs id cs (j ∷ js) = by (is_at (identity_order id) j) refl (amount_pairs id cs js)
  where
    by : (b : Bool) → is_at (identity_order id) j ≡ b
        → unwrap_or (lookup (is_at (identity_order id)) (pairs cs js)) (pos 0) ≡ (if among id js then minted_in id cs else pos 0)
        → unwrap_or (cond b (Some (minted_in j cs)) (lookup (is_at (identity_order id)) (pairs cs js))) (pos 0) ≡ (if cond b true (among id js) then minted_in id cs else pos 0)
    by true e h = minted_alike id j cs e
    by false e h = h

amounts : (b : Bool) (n : ℤ) → IsMinted b n → (if b then n else pos 0) ≡ n
amounts true n h = refl
amounts false n h = sym h

pub amount_is_told : (w : World) → IsWorld w → (id : Identity) → amount_told id (told w) ≡ minted_ever w id
amount_is_told w i id =
    amount_pairs id w.log (identities w.log)
    ∙ ap (λ b. if b then minted_in id w.log else pos 0) (ap (among id) (sym (keys_entries w.log)) ∙ among_entries id (entries w.log))
    ∙ amounts (is_some (lookup (is_at (identity_order id)) (entries w.log))) (minted_in id w.log) (is_minted id w.log i.log)

-- each that is among them was minted
each_positive : (cs : List Change) (js : List Identity) → ((j : Identity) → among j js ≡ true → pos 0 <ℤ minted_in j cs) → AllByRecursion (λ e. pos 0 <ℤ e.1) (pairs cs js)
each_positive cs [] h = tt
each_positive cs (j ∷ js) h =
    (h j (ap (λ r. cond (is_eq r) true (among j js)) (itself j)), each_positive cs js (λ k m. h k (later (is_at (identity_order k) j) (among k js) m)))
  where
    itself : (k : Identity) → identity_order k k ≡ Equal
    itself k = tied_itself identity_total k

    later : (b c : Bool) → c ≡ true → cond b true c ≡ true
    later true c m = refl
    later false c m = m

pub told_in_order : (w : World) → IsWorld w → AreInOrder (told w)
told_in_order w i = record {
  order = subst (λ (js : List Identity). IsStrictlySortedBy identity_order js) (keys_entries w.log ∙ sym (keys_pairs w.log (identities w.log))) (entries_sorted w.log);
  positive = each_positive w.log (identities w.log) (λ j m.
      subst (λ b. IsMinted b (minted_in j w.log)) (sym (among_entries j (entries w.log)) ∙ ap (among j) (keys_entries w.log) ∙ m) (is_minted j w.log i.log));
}
