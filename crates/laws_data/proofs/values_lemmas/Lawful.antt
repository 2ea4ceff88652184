-- The order is lawful: it is the order of lists that spell the values.
use Rattle.std.specs.Prelude.{◌≡◌, ℕ, ℤ, Bool, true, false, List, [], ◌∷◌}
use mathlib.Core.Path.{refl, sym, ap, ◌∙◌, subst}
use lib.IntN.{pos}
use Rattle.std.specs.declared.cmp.Ordering.{Ordering}
use Rattle.std.specs.declared.cmp.Ordering.TheVariants.{Less, Equal, Greater}
use Rattle.std.specs.Ordering.{nat_cmp, int_cmp, ordering_then, on, then_cmp}
use Rattle.std.specs.Cmp.{IsTotalOrder}
use Rattle.std.specs.Cmp.Lexicographic.{slice_cmp}
use Rattle.std.proofs.lemmas.Cmp.{nat_cmp_total, int_cmp_total, on_total, then_total, lists_total}
use Rattle.rules_data.specs.values.Val.{Val, unit, truth, number, text, bytes, nothing, some, left, right, both, list, set, table, big_table, lambda, operation, ticket}
use Rattle.rules_data.specs.values.Order.{order, truth_order, form}

abbrev Atom : Type 0
Atom = ℕ × ℤ

abbrev atoms : Atom → Atom → Ordering
atoms = then_cmp (on (λ (a : Atom). a.0) nat_cmp) (on (λ (a : Atom). a.1) int_cmp)

abbrev plain : ℕ → Atom
plain n = (n, pos 0)

abbrev lists : List Atom → List Atom → Ordering
lists = slice_cmp atoms

lists_lawful : IsTotalOrder lists
lists_lawful = lists_total (then_total (on_total (λ (a : Atom). a.0) nat_cmp_total) (on_total (λ (a : Atom). a.1) int_cmp_total))

-- bytes with their end, before r
abbrev spelt : List ℕ → List Atom → List Atom
spelt [] r = (plain 0) ∷ r
spelt (x ∷ xs) r = (plain 1) ∷ (plain x) ∷ spelt xs r

abbrev bit : Bool → ℕ
bit false = 0
bit true = 1

-- a value's list, before r
abbrev spell : Val → List Atom → List Atom
spell unit r = (plain 0) ∷ r
spell (truth b) r = (plain 1) ∷ (plain (bit b)) ∷ r
spell (number n) r = (plain 2) ∷ (0, n) ∷ r
spell (text s) r = (plain 3) ∷ spelt s r
spell (bytes s) r = (plain 4) ∷ spelt s r
spell nothing r = (plain 5) ∷ r
spell (some v) r = (plain 6) ∷ spell v r
spell (left v) r = (plain 7) ∷ spell v r
spell (right v) r = (plain 8) ∷ spell v r
spell (both v w) r = (plain 9) ∷ spell v (spell w r)
spell _ r = (plain 10) ∷ r

then_assoc : (o p q : Ordering) → ordering_then (ordering_then o p) q ≡ ordering_then o (ordering_then p q)
then_assoc Less p q = refl
then_assoc Equal p q = refl
then_assoc Greater p q = refl

then_equal : (o p : Ordering) → ordering_then (ordering_then o Equal) p ≡ ordering_then o p
then_equal Less p = refl
then_equal Equal p = refl
then_equal Greater p = refl

spelt_order : (s t : List ℕ) (q r : List Atom) → lists (spelt s q) (spelt t r) ≡ ordering_then (slice_cmp nat_cmp s t) (lists q r)
spelt_order [] [] q r = refl
spelt_order [] (y ∷ ys) q r = refl
spelt_order (x ∷ xs) [] q r = refl
spelt_order (x ∷ xs) (y ∷ ys) q r = then_equal (nat_cmp x y) (lists (spelt xs q) (spelt ys r))
    ∙ ap (ordering_then (nat_cmp x y)) (spelt_order xs ys q r) ∙ sym (then_assoc (nat_cmp x y) (slice_cmp nat_cmp xs ys) (lists q r))

bits_order : (b c : Bool) (q r : List Atom) → lists ((plain (bit b)) ∷ q) ((plain (bit c)) ∷ r) ≡ ordering_then (truth_order b c) (lists q r)
bits_order false false q r = refl
bits_order false true q r = refl
bits_order true false q r = refl
bits_order true true q r = refl

-- a form that is not compared, against each
late_order : (w : Val) (q r : List Atom) → lists (plain 10 ∷ q) (spell w r) ≡ ordering_then (nat_cmp 10 (form w)) (lists q r)
late_order unit q r = refl
late_order (truth c) q r = refl
late_order (number n) q r = refl
late_order (text t) q r = refl
late_order (bytes t) q r = refl
late_order nothing q r = refl
late_order (some w) q r = refl
late_order (left w) q r = refl
late_order (right w) q r = refl
late_order (both x y) q r = refl
late_order _ q r = refl

spell_order : (v w : Val) (q r : List Atom) → lists (spell v q) (spell w r) ≡ ordering_then (order v w) (lists q r)
spell_order unit unit q r = refl
spell_order (truth b) (truth c) q r = bits_order b c q r
spell_order (number m) (number n) q r = refl
spell_order (text s) (text t) q r = spelt_order s t q r
spell_order (bytes s) (bytes t) q r = spelt_order s t q r
spell_order nothing nothing q r = refl
spell_order (some v) (some w) q r = spell_order v w q r
spell_order (left v) (left w) q r = spell_order v w q r
spell_order (right v) (right w) q r = spell_order v w q r
spell_order (both v w) (both x y) q r = spell_order v x (spell w q) (spell y r)
    ∙ ap (ordering_then (order v x)) (spell_order w y q r) ∙ sym (then_assoc (order v x) (order w y) (lists q r))
spell_order (list vs) w q r = late_order w q r
spell_order (set vs) w q r = late_order w q r
spell_order (table ps) w q r = late_order w q r
spell_order (big_table ps) w q r = late_order w q r
spell_order (lambda t b) w q r = late_order w q r
spell_order (operation n) w q r = late_order w q r
spell_order (ticket i ty v n) w q r = late_order w q r
spell_order _ _ q r = refl

ended : (o : Ordering) → ordering_then o Equal ≡ o
ended Less = refl
ended Equal = refl
ended Greater = refl

as_lists : (v w : Val) → on (λ v. spell v []) lists v w ≡ order v w
as_lists v w = spell_order v w [] [] ∙ ended (order v w)

pub order_lawful : IsTotalOrder order
order_lawful = subst IsTotalOrder (λ i v w. as_lists v w i) (on_total (λ v. spell v []) lists_lawful)
