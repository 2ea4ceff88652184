-- Names that mean something are names of primitives.
use Rattle.std.proofs.Common.{◌≡◌, ℕ, false, Option, Some, None, List, refl, sym}
use Rattle.std.specs.Prelude.{is_none, option_and_then}
use Rattle.rules_text.specs.nodes.Primitives.{code_of_name, primitive_of_code, primitive_of_name}
use Rattle.rules_text.specs.declared.nodes.Primitive.{Primitive}
use Rattle.rules_data.specs.types.Reading.{Former, no_type, former_of, former_of_name}
use Rattle.rules_data.specs.values.Literals.{Word, other_word, word_of, word_of_name}

-- a name with a code
abbrev pub IsKnown : List ℕ → Type 0
IsKnown name = is_none (code_of_name name) ≡ false

pub of_primitive : (name : List ℕ) (p : Primitive) → primitive_of_name name ≡ Some p → IsKnown name
unfolding primitive_of_name
of_primitive name p e = by (code_of_name name) e
  where
    by : (o : Option ℕ) → option_and_then primitive_of_code o ≡ Some p → is_none o ≡ false
    by None e = absurd cc
    by (Some c) e = refl

pub of_word : (name : List ℕ) (w : Word) → word_of_name name ≡ w → (w ≡ other_word → ⊥) → IsKnown name
unfolding word_of_name
of_word name w e other = by (primitive_of_name name) refl e
  where
    by : (o : Option Primitive) → primitive_of_name name ≡ o → word_of o ≡ w → IsKnown name
    by None s f = absurd (other (sym f))
    by (Some p) s f = of_primitive name p s

pub of_former : (name : List ℕ) (f : Former) → former_of_name name ≡ f → (f ≡ no_type → ⊥) → IsKnown name
unfolding former_of_name
of_former name f e other = by (primitive_of_name name) refl e
  where
    by : (o : Option Primitive) → primitive_of_name name ≡ o → former_of o ≡ f → IsKnown name
    by None s h = absurd (other (sym h))
    by (Some p) s h = of_primitive name p s
