-- Tickets that are alike, and their amounts.
use Rattle.std.proofs.Common.{◌≡◌, ℕ, Bool, true, false, ◌&&◌, List, refl, sym, ap, ◌∙◌}
use Rattle.std.specs.Prelude.{ℤ, pos, ◌+ℤ◌, if◌then◌else◌}
use Rattle.std.specs.Str.{bytes_eq}
use Rattle.std.specs.declared.cmp.Ordering.{Ordering}
use Rattle.std.specs.declared.cmp.Ordering.TheVariants.{Less, Equal, Greater}
use Rattle.std.specs.Ordering.{is_eq, int_eq, ordering_reverse}
use Rattle.std.proofs.lemmas.Bool.{and_parts}
use Rattle.std.proofs.lemmas.Bool.Decides.{Decides-int_eq}
use Rattle.std.proofs.lemmas.Slice.Eq.{bytes_eq-Decides}
use Rattle.rules_data.specs.values.Val.{Val}
use Rattle.rules_data.specs.values.Order.{order}
use Rattle.rules_data.specs.values.Tickets.{Identity, Held}
use Rattle.rules_code.specs.instructions.Same.{same_kind}
use Rattle.rules_code.specs.steps.Changes.{identity_of, is_alike, amount_of}
use Rattle.laws_data.proofs.values_lemmas.ForCallers.{order_lawful}
use Rattle.laws_tickets.proofs.totals.Same.{same_kind_true}

same_bytes : (xs ys : List ℕ) → bytes_eq xs ys ≡ true → xs ≡ ys
same_bytes xs ys e = (bytes_eq-Decides xs ys).0 e

pub same_int : (x y : ℤ) → int_eq x y ≡ true → x ≡ y
same_int x y e = (Decides-int_eq x y).0 e

same_order : (o : Ordering) → is_eq o ≡ true → o ≡ Equal
same_order Less e = cc
same_order Equal e = refl
same_order Greater e = cc

-- contents of one order are before and behind the same ones
tied : (z x y : Val) → order x y ≡ Equal → order z x ≡ order z y
tied z x y e = order_lawful.antisymm z x ∙ ap ordering_reverse (order_lawful.congr x y z e) ∙ sym (order_lawful.antisymm z y)

-- what is alike is alike to the same identities
pub alike_same : (id a b : Identity) → is_alike a b ≡ true → is_alike id a ≡ is_alike id b
alike_same id a b e =
    let p = and_parts (bytes_eq a.issuer b.issuer && same_kind a.kind b.kind) (is_eq (order a.content b.content)) e in
    let q = and_parts (bytes_eq a.issuer b.issuer) (same_kind a.kind b.kind) p.0 in
    ap (λ x. bytes_eq id.issuer x && same_kind id.kind a.kind && is_eq (order id.content a.content))
    (same_bytes a.issuer b.issuer q.0)
    ∙ ap (λ x. bytes_eq id.issuer b.issuer && same_kind id.kind x && is_eq (order id.content a.content))
    (same_kind_true a.kind b.kind q.1)
    ∙ ap (λ x. bytes_eq id.issuer b.issuer && same_kind id.kind b.kind && is_eq x)
    (tied id.content a.content b.content (same_order (order a.content b.content) p.1))

-- ---- amounts

split_sum : (b : Bool) (x y n : ℤ) → x +ℤ y ≡ n → (if b then n else pos 0) ≡ (if b then x else pos 0) +ℤ (if b then y else pos 0)
split_sum true x y n e = sym e
split_sum false x y n e = refl

-- a ticket in two parts
pub split_amount : (id : Identity) (t : Held) (x y : ℤ) → x +ℤ y ≡ t.amount →
    amount_of id t ≡ amount_of id (record t { amount = x }) +ℤ amount_of id (record t { amount = y })
split_amount id t x y e = split_sum (is_alike id (identity_of t)) x y t.amount e

join_sum : (b c : Bool) (x y : ℤ) → b ≡ c → (if b then x else pos 0) +ℤ (if c then y else pos 0) ≡ (if b then x +ℤ y else pos 0)
join_sum true true x y e = refl
join_sum false false x y e = refl
join_sum true false x y e = absurd cc
join_sum false true x y e = absurd cc

-- two tickets that are alike as one
pub join_amount : (id : Identity) (t u : Held) → is_alike (identity_of t) (identity_of u) ≡ true →
    amount_of id t +ℤ amount_of id u ≡ amount_of id (record t { amount = t.amount +ℤ u.amount })
join_amount id t u e =
    join_sum (is_alike id (identity_of t)) (is_alike id (identity_of u)) t.amount u.amount
    (alike_same id (identity_of t) (identity_of u) e)
