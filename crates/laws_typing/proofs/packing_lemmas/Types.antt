-- Each name in a node that is read as a type is a primitive's.
use Rattle.std.proofs.Common.{◌≡◌, ℕ, ◌+◌, Bool, true, false, cond, List, [], ◌∷◌, refl}
use Rattle.rules_text.specs.nodes.Tree.{Tree, int, str, bytes, prim, seq, Trees, none, more, size}
use Rattle.rules_data.specs.types.Kind.{Kind}
use Rattle.rules_data.specs.types.Reading.{Former, simple_type, operation_type, one_argument, two_arguments, pair_type, no_type, former_of_name, asked_of_first, Read, good, bad, Part, part, on_good, paired, applied, typed, parts, limited, Reading, a_type, bad_type, too_large, type_at}
use Rattle.rules_code.specs.instructions.Arguments.{found, with_attribute, type_argument}
use Rattle.laws_typing.specs.packing.Names.{HasCodes, HaveCodes}
use Rattle.laws_typing.proofs.packing_lemmas.Known.{of_former}

-- all arguments are types
abbrev AllGood : List Part → Type 0
AllGood [] = Unit {0}
AllGood (part l (good a) ∷ qs) = AllGood qs
AllGood (part l (bad m) ∷ qs) = ⊥

bad_if : (b : Bool) (l m : ℕ) (c : Kind) → cond b (bad l) (bad m) ≡ good c → ⊥
bad_if true l m c e = cc
bad_if false l m c e = cc

on_good_is : (f : Kind → Kind) (r : Read) (c : Kind) → on_good f r ≡ good c → (a : Kind) × (r ≡ good a)
on_good_is f (good a) c e = (a, refl)
on_good_is f (bad l) c e = absurd cc

paired_good : (q : Part) (qs : List Part) (c : Kind) → paired q qs ≡ good c → AllGood (q ∷ qs)
paired_good (part l (good a)) [] c e = tt
paired_good (part l (bad m)) [] c e = absurd cc
paired_good (part l (good a)) (r ∷ rs) c e = let g = on_good_is (Rattle.rules_data.specs.types.Kind.pair a) (paired r rs) c e in paired_good r rs g.0 g.1
paired_good (part l (bad m)) (r ∷ rs) c e = absurd cc

applied_good : (f : Former) (at : ℕ) (qs : List Part) (c : Kind) → applied f at qs ≡ good c → AllGood qs
applied_good (simple_type s) at [] c e = tt
applied_good (simple_type s) at (q ∷ qs) c e = absurd cc
applied_good operation_type at [] c e = tt
applied_good operation_type at (q ∷ qs) c e = absurd cc
applied_good (one_argument f) at [] c e = absurd cc
applied_good (one_argument f) at (part l (good a) ∷ []) c e = tt
applied_good (one_argument f) at (part l (bad m) ∷ []) c e = absurd cc
applied_good (one_argument f) at (q ∷ r ∷ rs) c e = absurd cc
applied_good (two_arguments f) at [] c e = absurd cc
applied_good (two_arguments f) at (q ∷ []) c e = absurd cc
applied_good (two_arguments f) at (part l (good a) ∷ part m (good b) ∷ []) c e = tt
applied_good (two_arguments f) at (part l (good a) ∷ part m (bad n) ∷ []) c e = bad_if (asked_of_first f a) n l c e
applied_good (two_arguments f) at (part l (bad n) ∷ r ∷ []) c e = absurd cc
applied_good (two_arguments f) at (q ∷ r ∷ t ∷ ts) c e = absurd cc
applied_good pair_type at [] c e = absurd cc
applied_good pair_type at (q ∷ []) c e = absurd cc
applied_good pair_type at (q ∷ r ∷ rs) c e = paired_good q (r ∷ rs) c e
applied_good no_type at qs c e = absurd cc

is_former : (f : Former) (at : ℕ) (qs : List Part) (c : Kind) → applied f at qs ≡ good c → f ≡ no_type → ⊥
is_former (simple_type s) at qs c e h = cc
is_former operation_type at qs c e h = cc
is_former (one_argument f) at qs c e h = cc
is_former (two_arguments f) at qs c e h = cc
is_former pair_type at qs c e h = cc
is_former no_type at qs c e h = absurd cc

-- the first argument, and those behind it
first_good : (at : ℕ) (t : Tree) (ts : Trees) (r : Read) → typed at t ≡ r → AllGood (part at r ∷ parts (at + size t) ts) →
    ((a : Kind) → typed at t ≡ good a → HasCodes t) → (AllGood (parts (at + size t) ts) → HaveCodes ts) → HaveCodes (more t ts)
first_good at t ts (good a) e h one rest = (one a e, rest h)
first_good at t ts (bad m) e h one rest = absurd h

mutual
  pub typed_codes : (at : ℕ) (t : Tree) (a : Kind) → typed at t ≡ good a → HasCodes t
  typed_codes at (int n) a e = absurd cc
  typed_codes at (str s) a e = absurd cc
  typed_codes at (bytes b) a e = absurd cc
  typed_codes at (seq ts) a e = absurd cc
  typed_codes at (prim name annots args) a e = (
    of_former name (former_of_name name) refl (is_former (former_of_name name) at (parts (at + 1) args) a e),
    parts_codes (at + 1) args (applied_good (former_of_name name) at (parts (at + 1) args) a e),
  )

  parts_codes : (at : ℕ) (ts : Trees) → AllGood (parts at ts) → HaveCodes ts
  parts_codes at none h = tt
  parts_codes at (more t ts) h = first_good at t ts (typed at t) refl h (typed_codes at t) (parts_codes (at + size t) ts)

limited_good : (at : ℕ) (t : Tree) (r : Read) (a : Kind) → typed at t ≡ r → limited r ≡ a_type a → HasCodes t
limited_good at t (good b) a e h = typed_codes at t b e
limited_good at t (bad l) a e h = absurd cc

pub type_codes : (at : ℕ) (t : Tree) (a : Kind) → type_at at t ≡ a_type a → HasCodes t
type_codes at t a e = limited_good at t (typed at t) a refl e

-- a type argument
pub argument_codes : (asked : Kind → Bool) (at : ℕ) (t : Tree) (a : Kind) → type_argument asked at t ≡ found a → HasCodes t
argument_codes asked at t a e = by (type_at at t) refl e
  where
    by : (r : Reading) → type_at at t ≡ r → with_attribute asked at r ≡ found a → HasCodes t
    by (a_type b) s e = type_codes at t b s
    by (bad_type l) s e = absurd cc
    by too_large s e = absurd cc
