-- An order of the identities of tickets, by which they are found: by the bytes of the issuer, then by type, then by content.
-- Types stand by a place of their own for each form, and then by their parts. The order is lawful: that of types is the
-- order of lists that spell them.
use Rattle.std.specs.Prelude.{◌≡◌, ℕ, ◌<◌, ◌≤◌, List, [], ◌∷◌}
use mathlib.Core.Path.{refl, sym, ap, ◌∙◌, subst}
use Rattle.std.proofs.Common.{arith}
use Rattle.std.specs.declared.cmp.Ordering.{Ordering}
use Rattle.std.specs.declared.cmp.Ordering.TheVariants.{Less, Equal, Greater}
use Rattle.std.specs.Ordering.{nat_cmp, ordering_then, on, then_cmp}
use Rattle.std.specs.Cmp.{IsTotalOrder, nat_cmp_is}
use Rattle.std.specs.Cmp.Lexicographic.{slice_cmp}
use Rattle.std.proofs.lemmas.Cmp.{on_total, then_total, nat_list_cmp_total}
use Rattle.rules_data.specs.declared.types.Simple.{Simple}
use Rattle.rules_data.specs.declared.types.Simple.TheVariants as s
use Rattle.rules_data.specs.types.Kind.{Kind, simple, operation, option, or, pair, list, set, map, big_map, lambda, contract, ticket}
use Rattle.rules_data.specs.values.Order.{order}
use Rattle.rules_data.specs.values.Tickets.{Identity}
use Rattle.laws_data.proofs.values_lemmas.ForCallers.{order_lawful}

abbrev pub simple_place : Simple → ℕ
simple_place s.Unit = 0
simple_place s.Never = 1
simple_place s.Bool = 2
simple_place s.Int = 3
simple_place s.Nat = 4
simple_place s.String = 5
simple_place s.Bytes = 6
simple_place s.Mutez = 7
simple_place s.Timestamp = 8
simple_place s.Key = 9
simple_place s.KeyHash = 10
simple_place s.Signature = 11
simple_place s.ChainId = 12
simple_place s.Address = 13

abbrev pub kind_place : Kind → ℕ
kind_place (simple s) = simple_place s
kind_place operation = 14
kind_place (option a) = 15
kind_place (or a b) = 16
kind_place (pair a b) = 17
kind_place (list a) = 18
kind_place (set a) = 19
kind_place (map a b) = 20
kind_place (big_map a b) = 21
kind_place (lambda a b) = 22
kind_place (contract a) = 23
kind_place (ticket a) = 24

abbrev pub kind_order : Kind → Kind → Ordering
kind_order (option a) (option c) = kind_order a c
kind_order (or a b) (or c d) = ordering_then (kind_order a c) (kind_order b d)
kind_order (pair a b) (pair c d) = ordering_then (kind_order a c) (kind_order b d)
kind_order (list a) (list c) = kind_order a c
kind_order (set a) (set c) = kind_order a c
kind_order (map a b) (map c d) = ordering_then (kind_order a c) (kind_order b d)
kind_order (big_map a b) (big_map c d) = ordering_then (kind_order a c) (kind_order b d)
kind_order (lambda a b) (lambda c d) = ordering_then (kind_order a c) (kind_order b d)
kind_order (contract a) (contract c) = kind_order a c
kind_order (ticket a) (ticket c) = kind_order a c
kind_order a c = nat_cmp (kind_place a) (kind_place c)

abbrev pub identity_order : Identity → Identity → Ordering
identity_order = then_cmp (on (λ (i : Identity). i.issuer) (slice_cmp nat_cmp))
    (then_cmp (on (λ (i : Identity). i.kind) kind_order) (on (λ (i : Identity). i.content) order))

-- ---- it is lawful

abbrev lists : List ℕ → List ℕ → Ordering
lists = slice_cmp nat_cmp

-- a type's list, before r
abbrev spell : Kind → List ℕ → List ℕ
spell (simple s) r = simple_place s ∷ r
spell operation r = 14 ∷ r
spell (option a) r = 15 ∷ spell a r
spell (or a b) r = 16 ∷ spell a (spell b r)
spell (pair a b) r = 17 ∷ spell a (spell b r)
spell (list a) r = 18 ∷ spell a r
spell (set a) r = 19 ∷ spell a r
spell (map a b) r = 20 ∷ spell a (spell b r)
spell (big_map a b) r = 21 ∷ spell a (spell b r)
spell (lambda a b) r = 22 ∷ spell a (spell b r)
spell (contract a) r = 23 ∷ spell a r
spell (ticket a) r = 24 ∷ spell a r

simple_below : (s : Simple) → simple_place s < 14
simple_below s.Unit = omega arith
simple_below s.Never = omega arith
simple_below s.Bool = omega arith
simple_below s.Int = omega arith
simple_below s.Nat = omega arith
simple_below s.String = omega arith
simple_below s.Bytes = omega arith
simple_below s.Mutez = omega arith
simple_below s.Timestamp = omega arith
simple_below s.Key = omega arith
simple_below s.KeyHash = omega arith
simple_below s.Signature = omega arith
simple_below s.ChainId = omega arith
simple_below s.Address = omega arith

-- what comes behind two different places makes no difference
less : (m n : ℕ) (x y : Ordering) → m < n → ordering_then (nat_cmp m n) x ≡ ordering_then (nat_cmp m n) y
less m n x y h = ap (λ o. ordering_then o x) (sym (nat_cmp_is m n Less h)) ∙ ap (λ o. ordering_then o y) (nat_cmp_is m n Less h)

more : (m n : ℕ) (x y : Ordering) → n < m → ordering_then (nat_cmp m n) x ≡ ordering_then (nat_cmp m n) y
more m n x y h = ap (λ o. ordering_then o x) (sym (nat_cmp_is m n Greater h)) ∙ ap (λ o. ordering_then o y) (nat_cmp_is m n Greater h)

simple_less : (s : Simple) (n : ℕ) (x y : Ordering) → 14 ≤ n → ordering_then (nat_cmp (simple_place s) n) x ≡ ordering_then (nat_cmp (simple_place s) n) y
simple_less s n x y h = let b = simple_below s in less (simple_place s) n x y (omega arith)

simple_more : (s : Simple) (n : ℕ) (x y : Ordering) → 14 ≤ n → ordering_then (nat_cmp n (simple_place s)) x ≡ ordering_then (nat_cmp n (simple_place s)) y
simple_more s n x y h = let b = simple_below s in more n (simple_place s) x y (omega arith)

then_assoc : (o p q : Ordering) → ordering_then (ordering_then o p) q ≡ ordering_then o (ordering_then p q)
then_assoc Less p q = refl
then_assoc Equal p q = refl
then_assoc Greater p q = refl

-- two parts, one behind the other
joined : (o p l m n : Ordering) → n ≡ ordering_then o m → m ≡ ordering_then p l → n ≡ ordering_then (ordering_then o p) l
joined o p l m n e f = e ∙ ap (ordering_then o) f ∙ sym (then_assoc o p l)

spell_order : (a b : Kind) (q r : List ℕ) → lists (spell a q) (spell b r) ≡ ordering_then (kind_order a b) (lists q r)
spell_order (simple s) (simple t) q r = refl
spell_order (simple s) operation q r = refl
spell_order (simple s) (option b) q r = simple_less s 15 _ _ (omega arith)
spell_order (simple s) (or b d) q r = simple_less s 16 _ _ (omega arith)
spell_order (simple s) (pair b d) q r = simple_less s 17 _ _ (omega arith)
spell_order (simple s) (list b) q r = simple_less s 18 _ _ (omega arith)
spell_order (simple s) (set b) q r = simple_less s 19 _ _ (omega arith)
spell_order (simple s) (map b d) q r = simple_less s 20 _ _ (omega arith)
spell_order (simple s) (big_map b d) q r = simple_less s 21 _ _ (omega arith)
spell_order (simple s) (lambda b d) q r = simple_less s 22 _ _ (omega arith)
spell_order (simple s) (contract b) q r = simple_less s 23 _ _ (omega arith)
spell_order (simple s) (ticket b) q r = simple_less s 24 _ _ (omega arith)
spell_order operation (simple t) q r = refl
spell_order (option a) (simple t) q r = simple_more t 15 _ _ (omega arith)
spell_order (or a c) (simple t) q r = simple_more t 16 _ _ (omega arith)
spell_order (pair a c) (simple t) q r = simple_more t 17 _ _ (omega arith)
spell_order (list a) (simple t) q r = simple_more t 18 _ _ (omega arith)
spell_order (set a) (simple t) q r = simple_more t 19 _ _ (omega arith)
spell_order (map a c) (simple t) q r = simple_more t 20 _ _ (omega arith)
spell_order (big_map a c) (simple t) q r = simple_more t 21 _ _ (omega arith)
spell_order (lambda a c) (simple t) q r = simple_more t 22 _ _ (omega arith)
spell_order (contract a) (simple t) q r = simple_more t 23 _ _ (omega arith)
spell_order (ticket a) (simple t) q r = simple_more t 24 _ _ (omega arith)
spell_order operation operation q r = refl
spell_order (option a) (option b) q r = spell_order a b q r
spell_order (list a) (list b) q r = spell_order a b q r
spell_order (set a) (set b) q r = spell_order a b q r
spell_order (contract a) (contract b) q r = spell_order a b q r
spell_order (ticket a) (ticket b) q r = spell_order a b q r
spell_order (or a c) (or b d) q r = joined (kind_order a b) (kind_order c d) (lists q r) _ _ (spell_order a b (spell c q) (spell d r)) (spell_order c d q r)
spell_order (pair a c) (pair b d) q r = joined (kind_order a b) (kind_order c d) (lists q r) _ _ (spell_order a b (spell c q) (spell d r)) (spell_order c d q r)
spell_order (map a c) (map b d) q r = joined (kind_order a b) (kind_order c d) (lists q r) _ _ (spell_order a b (spell c q) (spell d r)) (spell_order c d q r)
spell_order (big_map a c) (big_map b d) q r = joined (kind_order a b) (kind_order c d) (lists q r) _ _ (spell_order a b (spell c q) (spell d r)) (spell_order c d q r)
spell_order (lambda a c) (lambda b d) q r = joined (kind_order a b) (kind_order c d) (lists q r) _ _ (spell_order a b (spell c q) (spell d r)) (spell_order c d q r)
spell_order _ _ q r = refl

ended : (o : Ordering) → ordering_then o Equal ≡ o
ended Less = refl
ended Equal = refl
ended Greater = refl

as_lists : (a b : Kind) → on (λ a. spell a []) lists a b ≡ kind_order a b
as_lists a b = spell_order a b [] [] ∙ ended (kind_order a b)

pub kind_lawful : IsTotalOrder kind_order
kind_lawful = subst IsTotalOrder (λ i a b. as_lists a b i) (on_total (λ a. spell a []) nat_list_cmp_total)

pub identity_lawful : IsTotalOrder identity_order
identity_lawful =
    then_total (on_total (λ (i : Identity). i.issuer) nat_list_cmp_total)
    (then_total (on_total (λ (i : Identity). i.kind) kind_lawful) (on_total (λ (i : Identity). i.content) order_lawful))
