-- What an account holds after a ticket comes to it or goes from it.
use Rattle.std.proofs.Common.{◌≡◌, List, [], ◌∷◌, Bool, true, false, cond, Some, None, refl, sym, ap, ◌∙◌, ℤ, pos, ◌+ℤ◌, ◌-ℤ◌, ◌<ℤ◌, ◌≤ℤ◌, arith, unwrap_or}
use Rattle.std.specs.Prelude.{int_le, if◌then◌else◌}
use Rattle.std.specs.declared.option.Option.{Option}
use Rattle.std.specs.Ordering.{is_eq, eq_by_cmp}
use Rattle.std.specs.Cmp.{IsEquivalence, eq_by_cmp_equiv}
use Rattle.std.specs.BTreeMap.{is_at, insert_entry}
use Rattle.std.specs.Map.{lookup, keys_of, remove_entry}
use Rattle.std.specs.List.{All}
use Rattle.std.specs.List.Sorted.{IsStrictlySortedBy}
use Rattle.std.proofs.lemmas.Int.{ints}
use Rattle.std.proofs.lemmas.Map.{lookup-remove_entry}
use Rattle.std.proofs.lemmas.Map.Keys.{IsDistinct-from_sorted}
use Rattle.rules_data.specs.values.Tickets.{Identity, Held}
use Rattle.rules_data.specs.forms.Spelling.{is_place}
use Rattle.rules_code.specs.steps.Changes.{identity_of, amount_of}
use Rattle.rules_world.specs.world.World.{Account, identity_order}
use Rattle.rules_world.specs.world.Holdings.{amount_held, with_amount, credited_account, debited_account}
use Rattle.rules_world.specs.world.Forms.{IsHolding}
use Rattle.laws_world.proofs.accounts.Entries.{all_insert, all_remove, all_found, sorted_insert, sorted_remove, lookup_insert}
use Rattle.laws_world.proofs.accounts.Identities.{identity_total, alike_equal, equal_of}

-- holdings in their form
pub record AreHoldings (a : Account) : Type 0 where
  pub forms : All IsHolding a.holdings
  pub order : IsStrictlySortedBy identity_order (keys_of a.holdings)

-- no holding is below nothing
pub held_positive : (a : Account) (id : Identity) → AreHoldings a → pos 0 ≤ℤ amount_held a id
held_positive a id h = by (lookup (is_at (identity_order id)) a.holdings) refl
  where
    by : (o : Option ℤ) → lookup (is_at (identity_order id)) a.holdings ≡ o → pos 0 ≤ℤ unwrap_or o (pos 0)
    by None e = omega (arith, ints)
    by (Some n) e = let f : pos 0 <ℤ n = (all_found (is_at (identity_order id)) IsHolding a.holdings n h.forms e).1.1 in
        omega (arith, ints)

lookup_same : {K X : Type 0} (t u : K → Bool) → ((x : K) → t x ≡ u x) → (es : List (K × X)) → lookup t es ≡ lookup u es
lookup_same t u h [] = refl
lookup_same t u h (e ∷ es) = λ i. cond (h e.0 i) (Some e.1) (lookup_same t u h es i)

-- as much is held of what is alike
held_alike : (a : Account) (i j : Identity) → is_at (identity_order i) j ≡ true → amount_held a i ≡ amount_held a j
held_alike a i j h =
    ap (λ o. unwrap_or o (pos 0))
    (lookup_same (is_at (identity_order i)) (is_at (identity_order j))
    (λ x. ap is_eq (identity_total.congr i j x (equal_of (identity_order i j) h))) a.holdings)

equals : IsEquivalence (eq_by_cmp identity_order)
equals = eq_by_cmp_equiv identity_total

-- what is held once an amount is set
with_amount_held : (a : Account) (j : Identity) (n : ℤ) (id : Identity) → AreHoldings a → (b : Bool) → int_le n (pos 0) ≡ b →
    (n ≤ℤ pos 0 → n ≡ pos 0) →
    amount_held (with_amount a j n) id ≡ (if is_at (identity_order id) j then n else amount_held a id)
with_amount_held a j n id h true e zero =
    let nothing : n ≡ pos 0 = zero (omega (arith, ints)) in
    rw e (ap (λ o. unwrap_or o (pos 0)) (lookup-remove_entry equals (is_at (identity_order j))
    (λ x y t. equals.congr j x y t) id a.holdings (IsDistinct-from_sorted identity_order (keys_of a.holdings) h.order))
    ∙ ap (λ b. unwrap_or (cond b None (lookup (is_at (identity_order id)) a.holdings)) (pos 0)) (equals.symm j id)
    ∙ by (is_at (identity_order id) j) nothing)
  where
    by : (b : Bool) → n ≡ pos 0 → unwrap_or (cond b None (lookup (is_at (identity_order id)) a.holdings)) (pos 0) ≡
        (if b then n else amount_held a id)
    by true z = sym z
    by false z = refl
with_amount_held a j n id h false e zero =
    rw e (ap (λ o. unwrap_or o (pos 0)) (lookup_insert identity_order identity_total id a.holdings j n)
    ∙ by (is_at (identity_order id) j))
  where
    by : (b : Bool) → unwrap_or (cond b (Some n) (lookup (is_at (identity_order id)) a.holdings)) (pos 0) ≡
        (if b then n else amount_held a id)
    by true = refl
    by false = refl

-- holdings keep their form
pub with_amount_form : (a : Account) (j : Identity) (n : ℤ) → AreHoldings a → is_place j.issuer ≡ true →
    AreHoldings (with_amount a j n)
with_amount_form a j n h p = by (int_le n (pos 0)) refl
  where
    by : (b : Bool) → int_le n (pos 0) ≡ b →
        AreHoldings
        (if b then record a { holdings = remove_entry (is_at (identity_order j)) a.holdings } else record a
        { holdings = insert_entry identity_order a.holdings j n })
    by true e = record {
      forms = all_remove (is_at (identity_order j)) IsHolding a.holdings h.forms;
      order =
          sorted_remove identity_order identity_total (is_at (identity_order j)) a.holdings h.order;
    }
    by false e =
        let positive : pos 0 <ℤ n = omega (arith, ints) in
        record {
          forms = all_insert identity_order IsHolding j n (p, positive) (λ e f same. (f.0, positive)) a.holdings h.forms;
          order = sorted_insert identity_order identity_total a.holdings j n h.order;
        }

alike_is : (id : Identity) (t : Held) → amount_of id t ≡ (if is_at (identity_order id) (identity_of t) then t.amount else pos 0)
alike_is id t = ap (λ b. if b then t.amount else pos 0) (alike_equal id (identity_of t))

-- a ticket more
pub credited_held : (a : Account) (t : Held) (id : Identity) → AreHoldings a → pos 0 <ℤ t.amount →
    amount_held (credited_account a t) id ≡ amount_held a id +ℤ amount_of id t
credited_held a t id h positive =
    let there : pos 0 ≤ℤ amount_held a (identity_of t) = held_positive a (identity_of t) h in
    with_amount_held a (identity_of t) (amount_held a (identity_of t) +ℤ t.amount) id h
    (int_le (amount_held a (identity_of t) +ℤ t.amount) (pos 0)) refl (λ le. omega (arith, ints))
    ∙ by (is_at (identity_order id) (identity_of t)) refl
    ∙ ap (λ z. amount_held a id +ℤ z) (sym (alike_is id t))
  where
    none_more : (x : ℤ) → x ≡ x +ℤ pos 0
    none_more x = omega (arith, ints)

    by : (b : Bool) → is_at (identity_order id) (identity_of t) ≡ b →
        (if b then amount_held a (identity_of t) +ℤ t.amount else amount_held a id) ≡ amount_held a id +ℤ
        (if b then t.amount else pos 0)
    by true e = ap (λ z. z +ℤ t.amount) (sym (held_alike a id (identity_of t) e))
    by false e = none_more (amount_held a id)

-- a ticket less
pub debited_held : (a : Account) (t : Held) (id : Identity) → AreHoldings a → t.amount ≤ℤ amount_held a (identity_of t) →
    amount_held (debited_account a t) id ≡ amount_held a id -ℤ amount_of id t
debited_held a t id h enough =
    with_amount_held a (identity_of t) (amount_held a (identity_of t) -ℤ t.amount) id h
    (int_le (amount_held a (identity_of t) -ℤ t.amount) (pos 0)) refl (λ le. omega (arith, ints))
    ∙ by (is_at (identity_order id) (identity_of t)) refl
    ∙ ap (λ z. amount_held a id -ℤ z) (sym (alike_is id t))
  where
    none_less : (x : ℤ) → x ≡ x -ℤ pos 0
    none_less x = omega (arith, ints)

    by : (b : Bool) → is_at (identity_order id) (identity_of t) ≡ b →
        (if b then amount_held a (identity_of t) -ℤ t.amount else amount_held a id) ≡ amount_held a id -ℤ
        (if b then t.amount else pos 0)
    by true e = ap (λ z. z -ℤ t.amount) (sym (held_alike a id (identity_of t) e))
    by false e = none_less (amount_held a id)
