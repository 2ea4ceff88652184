-- A type is read alike at each location, but for the locations of its faults.
use Rattle.std.proofs.Common.{◌≡◌, ℕ, ◌+◌, Bool, true, false, nat_le, if◌then◌else◌, List, [], ◌∷◌, map, refl, ap, ◌∙◌, add_assoc}
use Rattle.rules_text.specs.nodes.Limits.{type_limit}
use Rattle.rules_text.specs.nodes.Tree.{Tree, int, str, bytes, prim, seq, Trees, none, more, size}
use Rattle.rules_data.specs.types.Kind.{Kind, nodes}
use Rattle.rules_data.specs.types.Kind as k
use Rattle.rules_data.specs.types.Reading.{Former, simple_type, operation_type, one_argument, two_arguments, pair_type, no_type, former_of_name, any_kind, asked_of_argument, of_argument, asked_of_first, asked_of_second, of_arguments, Read, good, bad, Part, part, with_part, on_good, paired, applied, typed, parts, Reading, a_type, bad_type, too_large, limited, type_at}
use Rattle.rules_code.specs.instructions.Arguments.{found, fault, with_attribute, type_argument}
use Rattle.mich_outline.specs.Answers.{found_from}

abbrev pub read_from : ℕ → Read → Read
read_from n (good a) = good a
read_from n (bad l) = bad (n + l)

abbrev part_from : ℕ → Part → Part
part_from n (part at r) = part (n + at) (read_from n r)

abbrev pub reading_from : ℕ → Reading → Reading
reading_from n (a_type a) = a_type a
reading_from n (bad_type l) = bad_type (n + l)
reading_from n too_large = too_large

with_part_from : (n : ℕ) (asked : Kind → Bool) (q : Part) (next after : Kind → Read) → ((a : Kind) → after a ≡ read_from n (next a)) →
    with_part asked (part_from n q) after ≡ read_from n (with_part asked q next)
with_part_from n asked (part at (good a)) next after h = by (asked a)
  where
    by : (b : Bool) → (if b then after a else bad (n + at)) ≡ read_from n (if b then next a else bad at)
    by true = h a
    by false = refl
with_part_from n asked (part at (bad l)) next after h = refl

on_good_from : (n : ℕ) (f : Kind → Kind) (r : Read) → on_good f (read_from n r) ≡ read_from n (on_good f r)
on_good_from n f (good a) = refl
on_good_from n f (bad l) = refl

paired_from : (n : ℕ) (q : Part) (qs : List Part) → paired (part_from n q) (map (part_from n) qs) ≡ read_from n (paired q qs)
paired_from n q [] = with_part_from n any_kind q good good (λ a. refl)
paired_from n q (r ∷ rs) =
    with_part_from n any_kind q (λ a. on_good (k.pair a) (paired r rs)) (λ a. on_good (k.pair a) (paired (part_from n r) (map (part_from n) rs)))
    (λ a. ap (on_good (k.pair a)) (paired_from n r rs) ∙ on_good_from n (k.pair a) (paired r rs))

applied_from : (n at : ℕ) (f : Former) (qs : List Part) → applied f (n + at) (map (part_from n) qs) ≡ read_from n (applied f at qs)
applied_from n at (simple_type s) [] = refl
applied_from n at (simple_type s) (q ∷ qs) = refl
applied_from n at operation_type [] = refl
applied_from n at operation_type (q ∷ qs) = refl
applied_from n at (one_argument f) [] = refl
applied_from n at (one_argument f) (q ∷ []) = with_part_from n (asked_of_argument f) q (λ a. good (of_argument f a)) (λ a. good (of_argument f a)) (λ a. refl)
applied_from n at (one_argument f) (q ∷ r ∷ qs) = refl
applied_from n at (two_arguments f) [] = refl
applied_from n at (two_arguments f) (q ∷ []) = refl
applied_from n at (two_arguments f) (q ∷ r ∷ []) =
    with_part_from n (asked_of_first f) q (λ a. with_part (asked_of_second f) r (λ b. good (of_arguments f a b)))
    (λ a. with_part (asked_of_second f) (part_from n r) (λ b. good (of_arguments f a b)))
    (λ a. with_part_from n (asked_of_second f) r (λ b. good (of_arguments f a b)) (λ b. good (of_arguments f a b)) (λ b. refl))
applied_from n at (two_arguments f) (q ∷ r ∷ u ∷ qs) = refl
applied_from n at pair_type [] = refl
applied_from n at pair_type (q ∷ []) = refl
applied_from n at pair_type (q ∷ r ∷ qs) = paired_from n q (r ∷ qs)
applied_from n at no_type [] = refl
applied_from n at no_type (q ∷ qs) = refl

mutual
  pub typed_from : (n at : ℕ) (t : Tree) → typed (n + at) t ≡ read_from n (typed at t)
  typed_from n at (int z) = refl
  typed_from n at (str s) = refl
  typed_from n at (bytes s) = refl
  typed_from n at (seq ts) = refl
  typed_from n at (prim name annots args) =
      ap (applied (former_of_name name) (n + at)) (ap (λ m. parts m args) (add_assoc n at 1) ∙ parts_from n (at + 1) args) ∙ applied_from n at (former_of_name name) (parts (at + 1) args)

  parts_from : (n at : ℕ) (ts : Trees) → parts (n + at) ts ≡ map (part_from n) (parts at ts)
  parts_from n at none = refl
  parts_from n at (more t ts) =
      let head : part (n + at) (typed (n + at) t) ≡ part (n + at) (read_from n (typed at t)) = ap (part (n + at)) (typed_from n at t) in
      let tail : parts (n + at + size t) ts ≡ map (part_from n) (parts (at + size t) ts) =
      ap (λ m. parts m ts) (add_assoc n at (size t)) ∙ parts_from n (at + size t) ts in
      ap (λ p. p ∷ parts (n + at + size t) ts) head ∙ ap (λ ps. part (n + at) (read_from n (typed at t)) ∷ ps) tail

limited_from : (n : ℕ) (r : Read) → limited (read_from n r) ≡ reading_from n (limited r)
limited_from n (good a) = by (nat_le (nodes a) type_limit)
  where
    by : (b : Bool) → (if b then a_type a else too_large) ≡ reading_from n (if b then a_type a else too_large)
    by true = refl
    by false = refl
limited_from n (bad l) = refl

-- a type at n locations further on
pub type_at_from : (n at : ℕ) (t : Tree) → type_at (n + at) t ≡ reading_from n (type_at at t)
type_at_from n at t = ap limited (typed_from n at t) ∙ limited_from n (typed at t)

-- ---- an argument at n locations further on

with_attribute_from : (n at : ℕ) (asked : Kind → Bool) (r : Reading) → with_attribute asked (n + at) (reading_from n r) ≡ found_from n (with_attribute asked at r)
with_attribute_from n at asked (a_type a) = by (asked a)
  where
    by : (b : Bool) → (if b then found a else fault (n + at)) ≡ found_from n (if b then found a else fault at)
    by true = refl
    by false = refl
with_attribute_from n at asked (bad_type l) = refl
with_attribute_from n at asked too_large = refl

pub argument_from : (n at : ℕ) (asked : Kind → Bool) (t : Tree) → type_argument asked (n + at) t ≡ found_from n (type_argument asked at t)
argument_from n at asked t = ap (with_attribute asked (n + at)) (type_at_from n at t) ∙ with_attribute_from n at asked _
