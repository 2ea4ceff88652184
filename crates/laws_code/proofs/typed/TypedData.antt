-- The types that instructions on the stack, pairs and data make are types.
use Rattle.std.proofs.Common.{◌≡◌, ℕ, ◌-◌, zero, suc, nat_le, Bool, true, false, ◌&&◌, List, [], ◌∷◌, length, drop, Option, Some, None, refl, subst}
use Rattle.std.specs.Prelude.{slice_get, insert, remove, option_map, option_and_then}
use Rattle.rules_data.specs.types.Kind.{Kind}
use Rattle.rules_data.specs.types.Kind as k
use Rattle.rules_data.specs.types.Attributes.{comparable, passable, big_value, duplicable, packable, pushable}
use Rattle.rules_code.specs.instructions.Types as ty
use Rattle.rules_code.specs.instructions.Change.{Change, where_true}
use Rattle.rules_code.specs.instructions.StackChanges.{stack_change, comb, parts, part, with_part, pair_change}
use Rattle.rules_code.specs.instructions.DataChanges.{union_change, collection_change}
use Rattle.rules_code.specs.instructions.Straight.{Straight, StackRow, PairRow, UnionRow, CollectionRow, on_unions, on_collections, on_hashes, on_operations}
use Rattle.rules_code.specs.instructions.Straight as i
use Rattle.rules_code.specs.instructions.Same.{same_kind}
use Rattle.rules_data.specs.forms.Spelling.{is_entrypoint}
use Rattle.laws_data.specs.types.Laws.{IsWellFormed}
use Rattle.laws_code.specs.evaluation.Laws.{IsType}
use Rattle.laws_code.specs.stacks.Sound.{AllTypes}

-- ---- what a row carries

abbrev pub RowTypes : Straight → Type 0
RowTypes (on_unions (i.left b)) = IsWellFormed b
RowTypes (on_unions (i.right a)) = IsWellFormed a
RowTypes (on_unions (i.none a)) = IsWellFormed a
RowTypes (on_unions (i.nil a)) = IsWellFormed a
RowTypes (on_collections (i.empty_set a)) = (comparable a ≡ true) × IsWellFormed a
RowTypes (on_collections (i.empty_map a b)) = (comparable a ≡ true) × IsWellFormed a × IsWellFormed b
RowTypes (on_collections (i.empty_big_map a b)) = (comparable a ≡ true) × (big_value b ≡ true) × IsWellFormed a × IsWellFormed b
RowTypes (on_hashes (i.unpack a)) = (pushable a ≡ true) × IsWellFormed a
RowTypes (on_operations (i.contract name a)) = (passable a ≡ true) × IsWellFormed a × (is_entrypoint name ≡ true)
RowTypes (on_operations (i.view name a b)) = (packable b ≡ true) × IsWellFormed b
RowTypes r = Unit {0}

abbrev pub AllWell : List Kind → Type 0
AllWell [] = Unit {0}
AllWell (a ∷ A) = IsWellFormed a × AllWell A

-- what is made is well formed, and what is kept are types
abbrev pub ChangeTypes : Option Change → Type 0
ChangeTypes None = Unit {0}
ChangeTypes (Some c) = AllWell c.made × AllTypes c.kept

pub when : (b : Bool) (c : Option Change) → (b ≡ true → ChangeTypes c) → ChangeTypes (where_true b c)
when true c h = h refl
when false c h = tt

pub always : (b : Bool) (c : Option Change) → ChangeTypes c → ChangeTypes (where_true b c)
always true c h = h
always false c h = tt

pub on_kind : (o : Option Kind) (f : Kind → Option Change) → ((a : Kind) → o ≡ Some a → ChangeTypes (f a)) →
    ChangeTypes (option_and_then f o)
on_kind None f h = tt
on_kind (Some a) f h = h a refl

-- ---- the order of the stack

pub drop_types : (n : ℕ) (A : List Kind) → AllTypes A → AllTypes (drop n A)
drop_types zero A h = h
drop_types (suc n) [] h = tt
drop_types (suc n) (a ∷ A) h = drop_types n A h.1

pub get_type : (n : ℕ) (A : List Kind) (a : Kind) → AllTypes A → slice_get A n ≡ Some a → IsType a
get_type n [] a h e = absurd cc
get_type zero (b ∷ A) a h e = let f : b ≡ a = cc in subst IsType f h.0
get_type (suc n) (b ∷ A) a h e = get_type n A a h.1 e

pub remove_types : (n : ℕ) (A : List Kind) → AllTypes A → AllTypes (remove A n)
remove_types zero [] h = tt
remove_types zero (a ∷ A) h = h.1
remove_types (suc n) [] h = tt
remove_types (suc n) (a ∷ A) h = (h.0, remove_types n A h.1)

pub insert_types : (n : ℕ) (A : List Kind) (a : Kind) → IsType a → AllTypes A → AllTypes (insert A n a)
insert_types zero A a t h = (t, h)
insert_types (suc n) [] a t h = (t, tt)
insert_types (suc n) (b ∷ A) a t h = (h.0, insert_types n A a t h.1)

pub stack_types : (r : StackRow) (A : List Kind) → AllTypes A → ChangeTypes (stack_change r A)
stack_types (i.drop n) A h = always (nat_le n (length A)) _ (tt, drop_types n A h)
stack_types (i.dup n) A h = on_kind (slice_get A (n - 1)) _ (λ a e. always (duplicable a) _
    (((get_type (n - 1) A a h e).0, tt), h))
stack_types i.swap [] h = tt
stack_types i.swap (a ∷ []) h = tt
stack_types i.swap (a ∷ b ∷ A) h = (tt, (h.1.0, (h.0, h.1.1)))
stack_types (i.dig n) A h = on_kind (slice_get A n) _ (λ a e. (tt, (get_type n A a h e, remove_types n A h)))
stack_types (i.dug n) [] h = tt
stack_types (i.dug n) (a ∷ A) h = always (nat_le n (length A)) _ (tt, insert_types n A a h.0 h.1)
stack_types i.unit A h = ((tt, tt), h)
stack_types (i.cast t) [] h = tt
stack_types (i.cast t) (a ∷ A) h = always (same_kind a t) _ (tt, h)
stack_types i.rename [] h = tt
stack_types i.rename (a ∷ A) h = (tt, h)

-- ---- pairs and combs

pub comb_well : (n : ℕ) (a : Kind) (A : List Kind) (c : Kind) → IsWellFormed a → AllTypes A → comb n a A ≡ Some c → IsWellFormed c
comb_well zero a A c t h e = let f : a ≡ c = cc in subst IsWellFormed f t
comb_well (suc n) a [] c t h e = absurd cc
comb_well (suc n) a (b ∷ A) c t h e = by_rest (comb n b A) (λ x f. comb_well n b A x h.0.0 h.1 f) e
  where
    by_rest : (o : Option Kind) → ((x : Kind) → o ≡ Some x → IsWellFormed x) → option_map (k.pair a) o ≡ Some c → IsWellFormed c
    by_rest None g e = absurd cc
    by_rest (Some x) g e = let f : k.pair a x ≡ c = cc in subst IsWellFormed f (t, g x refl)

pub parts_well : (n : ℕ) (a : Kind) → IsWellFormed a → (ps : List Kind) → parts n a ≡ Some ps → AllWell ps
parts_well zero a t ps e = let f : a ∷ [] ≡ ps = cc in subst AllWell f (t, tt)
parts_well (suc n) (k.pair a b) t ps e = by_rest (parts n b) (λ x f. parts_well n b t.1 x f) e
  where
    by_rest : (o : Option (List Kind)) → ((x : List Kind) → o ≡ Some x → AllWell x) → option_map (λ qs. a ∷ qs) o ≡ Some ps →
        AllWell ps
    by_rest None g e = absurd cc
    by_rest (Some x) g e = let f : a ∷ x ≡ ps = cc in subst AllWell f (t.0, g x refl)
parts_well (suc n) _ t ps e = absurd cc

pub part_well : (n : ℕ) (a : Kind) → IsWellFormed a → (c : Kind) → part n a ≡ Some c → IsWellFormed c
part_well zero a t c e = let f : a ≡ c = cc in subst IsWellFormed f t
part_well (suc zero) (k.pair a b) t c e = let f : a ≡ c = cc in subst IsWellFormed f t.0
part_well (suc (suc n)) (k.pair a b) t c e = part_well n b t.1 c e
part_well (suc zero) _ t c e = absurd cc
part_well (suc (suc n)) _ t c e = absurd cc

pub with_well : (n : ℕ) (x a : Kind) → IsWellFormed x → IsWellFormed a → (c : Kind) → with_part n x a ≡ Some c → IsWellFormed c
with_well zero x a s t c e = let f : x ≡ c = cc in subst IsWellFormed f s
with_well (suc zero) x (k.pair a b) s t c e = let f : k.pair x b ≡ c = cc in subst IsWellFormed f (s, t.1)
with_well (suc (suc n)) x (k.pair a b) s t c e = by_rest (with_part n x b) (λ y f. with_well n x b s t.1 y f) e
  where
    by_rest : (o : Option Kind) → ((y : Kind) → o ≡ Some y → IsWellFormed y) → option_map (k.pair a) o ≡ Some c → IsWellFormed c
    by_rest None g e = absurd cc
    by_rest (Some y) g e = let f : k.pair a y ≡ c = cc in subst IsWellFormed f (t.0, g y refl)
with_well (suc zero) x _ s t c e = absurd cc
with_well (suc (suc n)) x _ s t c e = absurd cc

pub on_parts : (o : Option (List Kind)) (A : List Kind) → AllTypes A → ((ps : List Kind) → o ≡ Some ps → AllWell ps) →
    ChangeTypes (option_map (λ ps. record { made = ps; kept = A }) o)
on_parts None A h g = tt
on_parts (Some ps) A h g = (g ps refl, h)

pub pair_types : (r : PairRow) (A : List Kind) → AllTypes A → ChangeTypes (pair_change r A)
pair_types (i.pair n) (a ∷ A) h = on_kind (comb (n - 1) a A) _
    (λ c e. ((comb_well (n - 1) a A c h.0.0 h.1 e, tt), drop_types (n - 1) A h.1))
pair_types (i.unpair n) (a ∷ A) h = on_parts (parts (n - 1) a) A h.1 (λ ps e. parts_well (n - 1) a h.0.0 ps e)
pair_types i.car (k.pair a b ∷ A) h = ((h.0.0.0, tt), h.1)
pair_types i.cdr (k.pair a b ∷ A) h = ((h.0.0.1, tt), h.1)
pair_types (i.get_part n) (a ∷ A) h = on_kind (part n a) _ (λ c e. ((part_well n a h.0.0 c e, tt), h.1))
pair_types (i.update_part n) (x ∷ a ∷ A) h = on_kind (with_part n x a) _ (λ c e. ((with_well n x a h.0.0 h.1.0.0 c e, tt), h.1.1))
pair_types _ _ h = tt

-- ---- data

pub union_types : (r : UnionRow) (A : List Kind) → RowTypes (on_unions r) → AllTypes A → ChangeTypes (union_change r A)
union_types (i.left b) (a ∷ A) t h = (((h.0.0, t), tt), h.1)
union_types (i.right a) (b ∷ A) t h = (((t, h.0.0), tt), h.1)
union_types i.some (a ∷ A) t h = ((h.0.0, tt), h.1)
union_types (i.none a) A t h = ((t, tt), h)
union_types (i.nil a) A t h = ((t, tt), h)
union_types i.cons (a ∷ k.list b ∷ A) t h = always (same_kind a b) _ (tt, h.1)
union_types _ _ t h = tt

pub collection_types : (r : CollectionRow) (A : List Kind) → RowTypes (on_collections r) → AllTypes A →
    ChangeTypes (collection_change r A)
collection_types (i.empty_set a) A t h = ((t, tt), h)
collection_types (i.empty_map a b) A t h = ((t, tt), h)
collection_types (i.empty_big_map a b) A t h = ((t, tt), h)
collection_types i.size_list (k.list a ∷ A) t h = ((tt, tt), h.1)
collection_types i.size_set (k.set a ∷ A) t h = ((tt, tt), h.1)
collection_types i.size_map (k.map a b ∷ A) t h = ((tt, tt), h.1)
collection_types i.mem_set (j ∷ k.set a ∷ A) t h = always (same_kind j a) _ ((tt, tt), h.1.1)
collection_types i.mem_map (j ∷ k.map a b ∷ A) t h = always (same_kind j a) _ ((tt, tt), h.1.1)
collection_types i.mem_big_map (j ∷ k.big_map a b ∷ A) t h = always (same_kind j a) _ ((tt, tt), h.1.1)
collection_types i.get_map (j ∷ k.map a b ∷ A) t h = always (same_kind j a) _ (always (duplicable b) _ ((h.1.0.0.2, tt), h.1.1))
collection_types i.get_big_map (j ∷ k.big_map a b ∷ A) t h = always (same_kind j a) _
    (always (duplicable b) _ ((h.1.0.0.3, tt), h.1.1))
collection_types i.update_set (j ∷ ty.bool ∷ k.set a ∷ A) t h = always (same_kind j a) _ (tt, h.1.1)
collection_types i.update_map (j ∷ k.option w ∷ k.map a b ∷ A) t h = always (same_kind j a && same_kind w b) _ (tt, h.1.1)
collection_types i.update_big_map (j ∷ k.option w ∷ k.big_map a b ∷ A) t h = always (same_kind j a && same_kind w b) _ (tt, h.1.1)
collection_types i.get_and_update_map (j ∷ k.option w ∷ k.map a b ∷ A) t h = always (same_kind j a && same_kind w b) _
    ((h.1.1.0.0.2, tt), h.1.1)
collection_types i.get_and_update_big_map (j ∷ k.option w ∷ k.big_map a b ∷ A) t h = always (same_kind j a && same_kind w b) _
    ((h.1.1.0.0.3, tt), h.1.1)
collection_types _ _ t h = tt
