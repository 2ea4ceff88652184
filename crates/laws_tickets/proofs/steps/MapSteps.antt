-- Sets and maps that change, and collections that are discarded.
use Rattle.std.proofs.Common.{◌≡◌, Bool, true, false, List, [], ◌∷◌, ◌++◌, Option, Some, None, refl, sym, ap, ◌∙◌, subst, arith}
use Rattle.std.specs.Prelude.{ℤ, pos, ◌+ℤ◌, if◌then◌else◌, option_to_list}
use Rattle.std.specs.List.{flat_map}
use Rattle.std.specs.declared.cmp.Ordering.{Ordering}
use Rattle.std.specs.declared.cmp.Ordering.TheVariants.{Less, Equal, Greater}
use Rattle.std.specs.Ordering.{match_ordering, is_eq}
use Rattle.std.proofs.Math.IntN.{+ℤ_idl}
use Rattle.std.proofs.lemmas.Int.{ints}
use Rattle.rules_data.specs.types.Kind.{Kind}
use Rattle.rules_data.specs.types.Kind as k
use Rattle.rules_data.specs.types.Attributes.{comparable}
use Rattle.rules_data.specs.values.Val.{Val, Vals, no_val, more_vals, Pairs}
use Rattle.rules_data.specs.values.Val as v
use Rattle.rules_data.specs.values.Order.{order}
use Rattle.rules_data.specs.values.Tables.{value_at, AreIncreasingKeys}
use Rattle.rules_data.specs.values.Tickets.{Identity, tickets, pair_tickets}
use Rattle.rules_data.specs.values.Forms.{AllHave, AllEntriesHave}
use Rattle.rules_code.specs.instructions.Same.{same_kind}
use Rattle.rules_code.specs.steps.Changes.{amount_among, amount_in}
use Rattle.rules_code.specs.steps.Step.{optional}
use Rattle.rules_code.specs.steps.Sets.{with_element, without_element}
use Rattle.rules_code.specs.steps.Collections.{set_with, map_with, on_option, updated, exchanged}
use Rattle.laws_tickets.specs.totals.Agreement.{Agrees, AllAgree}
use Rattle.laws_tickets.specs.totals.Totals.{amount_on}
use Rattle.laws_tickets.proofs.totals.ForCallers.{on_cons, on_one, equal_balances, same_kind_true, nothing_compared, KeepsStep, keeps_discarding}
use Rattle.laws_data.proofs.amounts.ForCallers.{with_increasing, without_increasing, with_entries, without_entries, OptionHas, value_has, amount_held_in, amount_if, with_amount, without_amount}

-- ---- sets

with_all : (P : Val → Type 0) (x : Val) (xs : Vals) → P x → AllHave P xs → AllHave P (with_element x xs)
with_all P x no_val p h = (p, tt)
with_all P x (more_vals y ys) p h = by_case (order x y) (with_all P x ys p h.1)
  where
    by_case : (o : Ordering) → AllHave P (with_element x ys) →
        AllHave P (match_ordering o (more_vals x (more_vals y ys)) (more_vals y ys) (more_vals y (with_element x ys)))
    by_case Less later = (p, h)
    by_case Equal later = h
    by_case Greater later = (h.0, later)

without_all : (P : Val → Type 0) (x : Val) (xs : Vals) → AllHave P xs → AllHave P (without_element x xs)
without_all P x no_val h = tt
without_all P x (more_vals y ys) h = by_case (is_eq (order x y)) (without_all P x ys h.1)
  where
    by_case : (b : Bool) → AllHave P (without_element x ys) → AllHave P (if b then ys else more_vals y (without_element x ys))
    by_case true later = h.1
    by_case false later = (h.0, later)

pub set_with_all : (P : Val → Type 0) (b : Bool) (x : Val) (xs : Vals) → P x → AllHave P xs → AllHave P (set_with b x xs)
set_with_all P true x xs p h = with_all P x xs p h
set_with_all P false x xs p h = without_all P x xs h

-- ---- maps

-- what a map of these types is
abbrev pub IsMap : Kind → Kind → Pairs → Type 0
IsMap a b ps = (comparable a ≡ true) × AllEntriesHave (Agrees a) (Agrees b) ps × AreIncreasingKeys ps

map_with_is : (a b : Kind) (x : Val) (new : Option Val) (ps : Pairs) → Agrees a x → OptionHas (Agrees b) new → IsMap a b ps →
    IsMap a b (map_with x new ps)
map_with_is a b x (Some y) ps g f m = (m.0, with_entries (Agrees a) (Agrees b) x y ps g f m.1, with_increasing x y ps m.2)
map_with_is a b x None ps g f m = (m.0, without_entries (Agrees a) (Agrees b) x ps m.1, without_increasing x ps m.2)

map_with_amount : (id : Identity) (x : Val) (new : Option Val) (ps : Pairs) → AreIncreasingKeys ps →
    amount_held_in id (map_with x new ps) +ℤ amount_if id (value_at x ps) ≡ amount_if id new +ℤ amount_held_in id ps
map_with_amount id x (Some y) ps s = with_amount id x y ps s
map_with_amount id x None ps s = without_amount id x ps ∙ sym (+ℤ_idl (amount_held_in id ps))

old_amount : (id : Identity) (o : Option Val) → amount_on id (option_to_list o) ≡ amount_if id o
old_amount id None = refl
old_amount id (Some x) = on_one id x

optional_amount : (id : Identity) (o : Option Val) → amount_in id (optional o) ≡ amount_if id o
optional_amount id None = refl
optional_amount id (Some x) = refl

optional_agrees : (b : Kind) (o : Option Val) → OptionHas (Agrees b) o → Agrees (k.option b) (optional o)
optional_agrees b None h = tt
optional_agrees b (Some x) h = h

-- x, an option, a map and the rest; the map with the option and the rest, and what was at the key
changed_sum : (x n p r q o v w : ℤ) → x ≡ pos 0 → q +ℤ o ≡ n +ℤ p → v ≡ x +ℤ (n +ℤ (p +ℤ r)) → w ≡ q +ℤ r → v ≡ o +ℤ w
changed_sum x n p r q o v w e f g h = omega (arith, ints)

three_amount : (id : Identity) (x y z : Val) (V : List Val) →
    amount_on id (x ∷ y ∷ z ∷ V) ≡ amount_in id x +ℤ (amount_in id y +ℤ (amount_in id z +ℤ amount_on id V))
three_amount id x y z V =
    on_cons id x (y ∷ z ∷ V) ∙ ap (λ s. amount_in id x +ℤ s)
    (on_cons id y (z ∷ V) ∙ ap (λ s. amount_in id y +ℤ s) (on_cons id z V))

-- made of pairs, and as many tickets
abbrev pub Holds : (Pairs → Val) → Type 0
Holds made = (ps : Pairs) → tickets (made ps) ≡ pair_tickets ps

module _ (made : Pairs → Val) (same : Holds made) (x : Val) (bare : tickets x ≡ []) (ps : Pairs) (s : AreIncreasingKeys ps)
    (V : List Val) where
  made_amount : (id : Identity) (qs : Pairs) (W : List Val) → amount_on id (made qs ∷ W) ≡ amount_held_in id qs +ℤ amount_on id W
  made_amount id qs W = on_cons id (made qs) W ∙ ap (λ ts. amount_among id ts +ℤ amount_on id W) (same qs)

  changed_amount : (id : Identity) (y : Val) (new : Option Val) → y ≡ optional new →
      amount_on id (x ∷ y ∷ made ps ∷ V) ≡ amount_if id (value_at x ps) +ℤ amount_on id (made (map_with x new ps) ∷ V)
  changed_amount id y new e =
      changed_sum (amount_in id x) (amount_if id new) (amount_held_in id ps) (amount_on id V)
      (amount_held_in id (map_with x new ps)) (amount_if id (value_at x ps)) _ _
      (ap (amount_among id) bare) (map_with_amount id x new ps s)
      (three_amount id x y (made ps) V
      ∙ ap (λ z. amount_in id x +ℤ (z +ℤ (amount_in id (made ps) +ℤ amount_on id V)))
      (ap (amount_in id) e ∙ optional_amount id new)
      ∙ ap (λ ts. amount_in id x +ℤ (amount_if id new +ℤ (amount_among id ts +ℤ amount_on id V))) (same ps))
      (made_amount id (map_with x new ps) V)

module _ (made : Pairs → Val) (same : Holds made) (a b c : Kind) (A : List Kind)
    (agrees : (ps : Pairs) → IsMap a b ps → Agrees c (made ps)) (x : Val) (ps : Pairs) (V : List Val)
    (g : Agrees a x) (m : IsMap a b ps) (h : AllAgree A V) where
  updated_keeps : (y : Val) (new : Option Val) → y ≡ optional new → OptionHas (Agrees b) new →
      KeepsStep (c ∷ A) (x ∷ y ∷ made ps ∷ V) (updated made x ps V new)
  updated_keeps y new e f =
      keeps_discarding (c ∷ A) (x ∷ y ∷ made ps ∷ V) (option_to_list (value_at x ps)) (made (map_with x new ps) ∷ V)
      (agrees (map_with x new ps) (map_with_is a b x new ps g f m), h)
      (λ id. changed_amount made same x (nothing_compared a x m.0 g) ps m.2 V id y new e
      ∙ ap (λ z. z +ℤ amount_on id (made (map_with x new ps) ∷ V)) (sym (old_amount id (value_at x ps))))

  pub update_keeps : (y : Val) → Agrees (k.option b) y → KeepsStep (c ∷ A) (x ∷ y ∷ made ps ∷ V) (on_option y (updated made x ps V))
  update_keeps v.nothing f = updated_keeps v.nothing None refl tt
  update_keeps (v.some z) f = updated_keeps (v.some z) (Some z) refl f
  update_keeps _ f = absurd f

  exchanged_keeps : (y : Val) (new : Option Val) → y ≡ optional new → OptionHas (Agrees b) new →
      KeepsStep (k.option b ∷ c ∷ A) (x ∷ y ∷ made ps ∷ V) (exchanged made x ps V new)
  exchanged_keeps y new e f = (
    (
      optional_agrees b (value_at x ps) (value_has (Agrees a) (Agrees b) x ps m.1),
      (
        agrees (map_with x new ps)
            (map_with_is a b x new ps g f m),
        h,
      ),
    ),
    equal_balances (x ∷ y ∷ made ps ∷ V) (optional (value_at x ps) ∷ made (map_with x new ps) ∷ V)
        (λ id. changed_amount made same x (nothing_compared a x m.0 g) ps m.2 V id y new e
        ∙ ap (λ z. z +ℤ amount_on id (made (map_with x new ps) ∷ V)) (sym (optional_amount id (value_at x ps)))
        ∙ sym (on_cons id (optional (value_at x ps)) (made (map_with x new ps) ∷ V))),
  )

  pub exchange_keeps : (y : Val) → Agrees (k.option b) y →
      KeepsStep (k.option b ∷ c ∷ A) (x ∷ y ∷ made ps ∷ V) (on_option y (exchanged made x ps V))
  exchange_keeps v.nothing f = exchanged_keeps v.nothing None refl tt
  exchange_keeps (v.some z) f = exchanged_keeps (v.some z) (Some z) refl f
  exchange_keeps _ f = absurd f

pub same_option : (a b : Kind) (y : Val) → same_kind a b ≡ true → Agrees (k.option a) y → Agrees (k.option b) y
same_option a b y e h = subst (λ d. Agrees (k.option d) y) (same_kind_true a b e) h

-- a collection that is discarded, below a key without tickets
pub discarded_amount : (id : Identity) (x y z : Val) (V : List Val) → tickets x ≡ [] → tickets z ≡ [] →
    amount_on id (x ∷ y ∷ V) ≡ amount_on id (y ∷ []) +ℤ amount_on id (z ∷ V)
discarded_amount id x y z V e f =
    ap (λ ts. amount_among id (ts ++ (tickets y ++ flat_map tickets V))) e ∙ on_cons id y V
    ∙ ap (λ s. s +ℤ amount_on id V) (sym (on_one id y)) ∙ ap
    (λ ts. amount_on id (y ∷ []) +ℤ amount_among id (ts ++ flat_map tickets V)) (sym f)
