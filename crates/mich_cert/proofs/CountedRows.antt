-- The tests of instructions with a count are the rules of the instructions.
use Rattle.std.proofs.Common.{◌≡◌, ℕ, zero, suc, ◌-◌, Bool, true, false, ◌&&◌, nat_le, Option, Some, None, List, [], ◌∷◌, ◌++◌, length, drop, refl, sym, ap, ◌∙◌, arith}
use Rattle.std.specs.Prelude.{slice_get, option_map, option_and_then, insert, remove}
use Rattle.std.proofs.lemmas.Bool.{leb-true, leb-false, le-leb, lt-leb}
use Rattle.rules_data.specs.types.Kind.{Kind}
use Rattle.rules_data.specs.types.Kind as k
use Rattle.rules_data.specs.types.Attributes.{duplicable}
use Rattle.rules_code.specs.instructions.Same.{same_kind, same_kinds}
use Rattle.rules_code.specs.instructions.Change.{after, makes, keeps, where_true}
use Rattle.rules_code.specs.instructions.Effect.{effect}
use Rattle.rules_code.specs.instructions.StackChanges.{comb, parts, part, with_part}
use Rattle.rules_code.specs.instructions.Straight.{on_stack, on_pairs}
use Rattle.rules_code.specs.instructions.Straight as i
use Rattle.mich_cert.specs.Counted.{drops, is_copied, dups, is_with, digs, IsNoPair, is_comb, pairs, is_part, gets, is_updated, updates}
use Rattle.mich_cert.specs.Leading.{leads}
use Rattle.mich_cert.proofs.SameTypes.{same_kind_symm, same_kinds_symm}

-- ---- tests

pub and_false : (q : Bool) → (q && false) ≡ false
and_false true = refl
and_false false = refl

and_assoc : (p q r : Bool) → (p && (q && r)) ≡ ((p && q) && r)
and_assoc true q r = refl
and_assoc false q r = refl

and_swap : (p q r : Bool) → (p && (q && r)) ≡ (q && (p && r))
and_swap true q r = refl
and_swap false q r = sym (and_false q)

and_both : {p q r s : Bool} → p ≡ q → r ≡ s → (p && r) ≡ (q && s)
and_both e f = λ i. e i && f i

pub more_le : (n m : ℕ) → nat_le (suc n) (suc m) ≡ nat_le n m
more_le n m = by (nat_le n m) refl
  where
    by : (q : Bool) → nat_le n m ≡ q → nat_le (suc n) (suc m) ≡ nat_le n m
    by true e = le-leb (suc n) (suc m) (let h = leb-true n m e in omega arith) ∙ sym e
    by false e = lt-leb (suc n) (suc m) (let h = leb-false n m e in omega arith) ∙ sym e

pub none_le : (n : ℕ) → nat_le zero n ≡ true
none_le n = le-leb zero n (omega arith)

pub too_many : (n : ℕ) → nat_le (suc n) zero ≡ false
too_many n = lt-leb (suc n) zero (omega arith)

-- ---- DROP

drops_is : (n : ℕ) (A B : List Kind) → drops n A B ≡ (nat_le n (length A) && same_kinds (drop n A) B)
drops_is zero A B = ap (λ q. q && same_kinds A B) (sym (none_le (length A)))
drops_is (suc n) (a ∷ A) B = drops_is n A B ∙ ap (λ q. q && same_kinds (drop n A) B) (sym (more_le n (length A)))
drops_is (suc n) [] B = ap (λ q. q && same_kinds [] B) (sym (too_many n))

kept_where : (q : Bool) (C B : List Kind) → (q && same_kinds C B) ≡ leads (option_map after (where_true q (keeps C))) B
kept_where true C B = refl
kept_where false C B = refl

pub drops_rule : (n : ℕ) (A B : List Kind) → drops n A B ≡ leads (effect (on_stack (i.drop n)) A) B
drops_rule n A B = drops_is n A B ∙ kept_where (nat_le n (length A)) (drop n A) B

-- ---- DUP

made_copy : (q : Bool) (a t : Kind) (S B : List Kind) → ((q && same_kind a t) && same_kinds S B) ≡ leads (option_map after (where_true q (makes a S))) (t ∷ B)
made_copy true a t S B = refl
made_copy false a t S B = refl

copied_is : (n : ℕ) (A S : List Kind) (t : Kind) (B : List Kind) →
    (is_copied n A t && same_kinds S B) ≡ leads (option_map after (option_and_then (λ a. where_true (duplicable a) (makes a S)) (slice_get A n))) (t ∷ B)
copied_is n [] S t B = refl
copied_is zero (a ∷ A) S t B = made_copy (duplicable a) a t S B
copied_is (suc n) (a ∷ A) S t B = copied_is n A S t B

copy_where : (q : Bool) (a : Kind) (S : List Kind) → false ≡ leads (option_map after (where_true q (makes a S))) []
copy_where true a S = refl
copy_where false a S = refl

no_copy : (o : Option Kind) (S : List Kind) → false ≡ leads (option_map after (option_and_then (λ a. where_true (duplicable a) (makes a S)) o)) []
no_copy None S = refl
no_copy (Some a) S = copy_where (duplicable a) a S

pub dups_rule : (n : ℕ) (A B : List Kind) → dups (n - 1) A B ≡ leads (effect (on_stack (i.dup n)) A) B
dups_rule n A [] = no_copy (slice_get A (n - 1)) A
dups_rule n A (t ∷ B) = copied_is (n - 1) A A t B

-- ---- DIG and DUG

dug_more : (o : Option Kind) (R B : List Kind) (a b t : Kind) →
    (same_kind a b && leads (option_map after (option_and_then (λ x. keeps (x ∷ R)) o)) (t ∷ B))
    ≡ leads (option_map after (option_and_then (λ x. keeps (x ∷ a ∷ R)) o)) (t ∷ b ∷ B)
dug_more None R B a b t = and_false (same_kind a b)
dug_more (Some x) R B a b t = and_swap (same_kind a b) (same_kind x t) (same_kinds R B)

dug_short : (o : Option Kind) (R : List Kind) (a t : Kind) → false ≡ leads (option_map after (option_and_then (λ x. keeps (x ∷ a ∷ R)) o)) (t ∷ [])
dug_short None R a t = refl
dug_short (Some x) R a t = sym (and_false (same_kind x t))

with_is : (n : ℕ) (t : Kind) (A B : List Kind) → is_with n t A B ≡ leads (option_map after (option_and_then (λ x. keeps (x ∷ remove A n)) (slice_get A n))) (t ∷ B)
with_is n t [] B = refl
with_is zero t (a ∷ A) B = refl
with_is (suc n) t (a ∷ A) [] = dug_short (slice_get A n) (remove A n) a t
with_is (suc n) t (a ∷ A) (b ∷ B) = ap (λ q. same_kind a b && q) (with_is n t A B) ∙ dug_more (slice_get A n) (remove A n) B a b t

no_dig : (o : Option Kind) (R : List Kind) → false ≡ leads (option_map after (option_and_then (λ x. keeps (x ∷ R)) o)) []
no_dig None R = refl
no_dig (Some x) R = refl

pub digs_rule : (n : ℕ) (A B : List Kind) → digs n A B ≡ leads (effect (on_stack (i.dig n)) A) B
digs_rule n A [] = no_dig (slice_get A n) (remove A n)
digs_rule n A (t ∷ B) = with_is n t A B

put_is : (n : ℕ) (a : Kind) (B A : List Kind) → is_with n a B A ≡ (nat_le n (length A) && same_kinds (insert A n a) B)
put_is zero a [] A = sym (and_false (nat_le zero (length A)))
put_is zero a (b ∷ B) A = and_both (same_kind_symm b a) (same_kinds_symm B A) ∙ ap (λ q. q && (same_kind a b && same_kinds A B)) (sym (none_le (length A)))
put_is (suc n) a [] [] = sym (and_false (nat_le (suc n) zero))
put_is (suc n) a [] (x ∷ A) = sym (and_false (nat_le (suc n) (suc (length A))))
put_is (suc n) a (b ∷ B) [] = ap (λ q. q && same_kinds (insert [] (suc n) a) (b ∷ B)) (sym (too_many n))
put_is (suc n) a (b ∷ B) (x ∷ A) =
    and_both (same_kind_symm b x) (put_is n a B A)
    ∙ and_swap (same_kind x b) (nat_le n (length A)) (same_kinds (insert A n a) B)
    ∙ ap (λ q. q && (same_kind x b && same_kinds (insert A n a) B)) (sym (more_le n (length A)))

pub dugs_rule : (n : ℕ) (A B : List Kind) → digs n B A ≡ leads (effect (on_stack (i.dug n)) A) B
dugs_rule n [] B = refl
dugs_rule n (a ∷ A) B = put_is n a B A ∙ kept_where (nat_le n (length A)) (insert A n a) B

-- ---- PAIR and UNPAIR

no_pair : (a d c : Kind) → IsNoPair c → same_kind (k.pair a d) c ≡ false
no_pair a d (k.pair x y) h = absurd h
no_pair a d c h = refl

comb_more : (o : Option Kind) (S B : List Kind) (a x y : Kind) →
    (same_kind a x && leads (option_map after (option_and_then (λ d. makes d S) o)) (y ∷ B))
    ≡ leads (option_map after (option_and_then (λ d. makes d S) (option_map (k.pair a) o))) (k.pair x y ∷ B)
comb_more None S B a x y = and_false (same_kind a x)
comb_more (Some d) S B a x y = and_assoc (same_kind a x) (same_kind d y) (same_kinds S B)

comb_other : (o : Option Kind) (S B : List Kind) (a c : Kind) → IsNoPair c →
    false ≡ leads (option_map after (option_and_then (λ d. makes d S) (option_map (k.pair a) o))) (c ∷ B)
comb_other None S B a c h = refl
comb_other (Some d) S B a c h = ap (λ q. q && same_kinds S B) (sym (no_pair a d c h))

comb_is : (m : ℕ) (a : Kind) (A : List Kind) (c : Kind) (B : List Kind) →
    is_comb m (a ∷ A) c B ≡ leads (option_map after (option_and_then (λ d. makes d (drop m A)) (comb m a A))) (c ∷ B)
comb_is zero a A c B = refl
comb_is (suc m) a [] (k.pair x y) B = and_false (same_kind a x)
comb_is (suc m) a [] c B = refl
comb_is (suc m) a (b ∷ A) (k.pair x y) B = ap (λ q. same_kind a x && q) (comb_is m b A y B) ∙ comb_more (comb m b A) (drop m A) B a x y
comb_is (suc m) a (b ∷ A) c B = comb_other (comb m b A) (drop m A) B a c tt

no_comb : (o : Option Kind) (S : List Kind) → false ≡ leads (option_map after (option_and_then (λ d. makes d S) o)) []
no_comb None S = refl
no_comb (Some d) S = refl

pub pairs_rule : (n : ℕ) (A B : List Kind) → pairs (n - 1) A B ≡ leads (effect (on_pairs (i.pair n)) A) B
pairs_rule n [] [] = refl
pairs_rule n [] (c ∷ B) = refl
pairs_rule n (a ∷ A) [] = no_comb (comb (n - 1) a A) (drop (n - 1) A)
pairs_rule n (a ∷ A) (c ∷ B) = comb_is (n - 1) a A c B

parts_more : (o : Option (List Kind)) (A B : List Kind) (b x : Kind) →
    (same_kind b x && leads (option_map (λ ps. ps ++ A) o) B) ≡ leads (option_map (λ ps. ps ++ A) (option_map (λ ps. x ∷ ps) o)) (b ∷ B)
parts_more None A B b x = and_false (same_kind b x)
parts_more (Some ps) A B b x = ap (λ q. q && same_kinds (ps ++ A) B) (same_kind_symm b x)

parts_short : (o : Option (List Kind)) (A : List Kind) (x : Kind) → false ≡ leads (option_map (λ ps. ps ++ A) (option_map (λ ps. x ∷ ps) o)) []
parts_short None A x = refl
parts_short (Some ps) A x = refl

parts_is : (m : ℕ) (B : List Kind) (a : Kind) (A : List Kind) → is_comb m B a A ≡ leads (option_map (λ ps. ps ++ A) (parts m a)) B
parts_is zero [] a A = refl
parts_is zero (b ∷ B) a A = and_both (same_kind_symm b a) (same_kinds_symm B A)
parts_is (suc m) [] (k.pair x y) A = parts_short (parts m y) A x
parts_is (suc m) [] a A = refl
parts_is (suc m) (b ∷ B) (k.pair x y) A = ap (λ q. same_kind b x && q) (parts_is m B y A) ∙ parts_more (parts m y) A B b x
parts_is (suc m) (b ∷ B) a A = refl

parts_after : (o : Option (List Kind)) (A B : List Kind) → leads (option_map (λ ps. ps ++ A) o) B ≡ leads (option_map after (option_map (λ ps. record { made = ps; kept = A }) o)) B
parts_after None A B = refl
parts_after (Some ps) A B = refl

pub unpairs_rule : (n : ℕ) (A B : List Kind) → pairs (n - 1) B A ≡ leads (effect (on_pairs (i.unpair n)) A) B
unpairs_rule n [] B = refl
unpairs_rule n (a ∷ A) B = parts_is (n - 1) B a A ∙ parts_after (parts (n - 1) a) A B

-- ---- GET and UPDATE

abbrev is_that : Option Kind → Kind → Bool
is_that None x = false
is_that (Some c) x = same_kind c x

made_that : (o : Option Kind) (A B : List Kind) (x : Kind) → (is_that o x && same_kinds A B) ≡ leads (option_map after (option_and_then (λ c. makes c A) o)) (x ∷ B)
made_that None A B x = refl
made_that (Some c) A B x = refl

part_is : (n : ℕ) (a x : Kind) → is_part n a x ≡ is_that (part n a) x
part_is zero a x = refl
part_is (suc zero) (k.pair a b) x = refl
part_is (suc (suc n)) (k.pair a b) x = part_is n b x
part_is (suc zero) a x = refl
part_is (suc (suc n)) a x = refl

pub gets_rule : (n : ℕ) (A B : List Kind) → gets n A B ≡ leads (effect (on_pairs (i.get_part n)) A) B
gets_rule n [] [] = refl
gets_rule n [] (x ∷ B) = refl
gets_rule n (a ∷ A) [] = no_comb (part n a) A
gets_rule n (a ∷ A) (x ∷ B) = ap (λ q. q && same_kinds A B) (part_is n a x) ∙ made_that (part n a) A B x

updated_more : (o : Option Kind) (a b d : Kind) → (same_kind a b && is_that o d) ≡ is_that (option_map (k.pair a) o) (k.pair b d)
updated_more None a b d = and_false (same_kind a b)
updated_more (Some c) a b d = refl

updated_other : (o : Option Kind) (a b : Kind) → IsNoPair b → false ≡ is_that (option_map (k.pair a) o) b
updated_other None a b h = refl
updated_other (Some c) a b h = sym (no_pair a c b h)

updated_is : (n : ℕ) (x a b : Kind) → is_updated n x a b ≡ is_that (with_part n x a) b
updated_is zero x a b = refl
updated_is (suc zero) x (k.pair a c) (k.pair b d) = refl
updated_is (suc zero) x (k.pair a c) b = refl
updated_is (suc zero) x a b = refl
updated_is (suc (suc n)) x (k.pair a c) (k.pair b d) = ap (λ q. same_kind a b && q) (updated_is n x c d) ∙ updated_more (with_part n x c) a b d
updated_is (suc (suc n)) x (k.pair a c) b = updated_other (with_part n x c) a b tt
updated_is (suc (suc n)) x a b = refl

pub updates_rule : (n : ℕ) (A B : List Kind) → updates n A B ≡ leads (effect (on_pairs (i.update_part n)) A) B
updates_rule n [] B = refl
updates_rule n (x ∷ []) B = refl
updates_rule n (x ∷ a ∷ A) [] = no_comb (with_part n x a) A
updates_rule n (x ∷ a ∷ A) (b ∷ B) = ap (λ q. q && same_kinds A B) (updated_is n x a b) ∙ made_that (with_part n x a) A B b
