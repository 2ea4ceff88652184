-- Laws of certificates (Michelson reference, "Typing").
use Rattle.std.specs.Prelude.{◌≡◌, ◌≤◌, ◌-◌, ℕ, List, [], ◌∷◌, length, slice_get}
use Rattle.rules_text.specs.nodes.Limits.{depth_limit, statement_limit}
use Rattle.rules_text.specs.nodes.Primitives.{primitive_of_name}
use Rattle.rules_text.specs.nodes.Tree.{Tree, prim, seq, Trees, depth}
use Rattle.rules_text.specs.text.Printed.{printed}
use Rattle.rules_data.specs.types.Kind.{Kind}
use Rattle.rules_code.specs.instructions.Context.{Context}
use Rattle.rules_code.specs.instructions.Arguments.{found}
use Rattle.rules_code.specs.instructions.Forms.{form_of}
use Rattle.rules_code.specs.typing.Scripts.{Script}
use Rattle.rules_code.specs.typing.Typing.{Typing, goes, fails, bad}
use Rattle.rules_code.specs.typing.Nodes.{script, tree_type, typing_of, typings}
use Rattle.rules_code.specs.certificates.Blocks.{Block, blocks, script_blocks}
use Rattle.rules_code.specs.certificates.Derivation.{Entry, before, end, failing, derivation}
use Rattle.laws_code.specs.stacks.Sound.{AllTypes}
use Rattle.rules_code.specs.certificates.Certificates.{certified, certifying, certified_node, IsValid}

-- what is certified is valid
abbrev pub CertificatesAreValid : Type 0
CertificatesAreValid = (t n : Tree) → certifying t ≡ certified n → IsValid n

-- typing accepts the script of a valid node, and the entries are its derivation
abbrev pub ValidScriptsAreTyped : Type 0
ValidScriptsAreTyped = (t : Tree) (es : List Entry) → IsValid (certified_node t es) → ((s : Script) × (script t ≡ found s)) × (es ≡ derivation t)

-- a script has one derivation
abbrev pub OneDerivation : Type 0
OneDerivation = (t : Tree) (es fs : List Entry) → IsValid (certified_node t es) → IsValid (certified_node t fs) → es ≡ fs

-- a certificate is within the levels and the length of a statement
abbrev pub CertificatesAreReadable : Type 0
CertificatesAreReadable = (t n : Tree) → certifying t ≡ certified n → (depth n ≤ depth_limit) × (length (printed n) ≤ statement_limit)

-- ---- blocks

abbrev pub IsTyped : Typing → Type 0
IsTyped (goes B) = Unit {0}
IsTyped fails = Unit {0}
IsTyped (bad l) = ⊥

-- the typing of a block that stands within nodes, from location 1 on
abbrev pub typing_in : Trees → Block → Typing
typing_in ts b = typing_of (slice_get (typings ts) (b.location - 1)) b.context b.stack

abbrev pub AllTyped : Trees → List Block → Type 0
AllTyped ts [] = Unit {0}
AllTyped ts (b ∷ bs) = IsTyped (typing_in ts b) × AllTyped ts bs

-- where typing accepts an instruction it accepts each block within it, from the stack that it begins with
abbrev pub BlocksAreTyped : Type 0
BlocksAreTyped = (name : List ℕ) (annots : List (List ℕ)) (ts : Trees) (c : Context) (A : List Kind) →
    IsTyped (tree_type (prim name annots ts) c A) → AllTyped ts (blocks (form_of (primitive_of_name name)) ts c A)

-- where typing accepts a script it accepts each of its blocks
abbrev pub ScriptBlocksAreTyped : Type 0
ScriptBlocksAreTyped = (ts : Trees) (s : Script) → script (seq ts) ≡ found s → AllTyped ts (script_blocks 0 (seq ts))

-- ---- types

-- each type is one that is read from some node
abbrev pub EntryHasTypes : Entry → Type 0
EntryHasTypes (before l A) = AllTypes A
EntryHasTypes (end l A) = AllTypes A
EntryHasTypes (failing l) = Unit {0}

abbrev pub EntriesHaveTypes : List Entry → Type 0
EntriesHaveTypes [] = Unit {0}
EntriesHaveTypes (e ∷ es) = EntryHasTypes e × EntriesHaveTypes es

-- the types of a derivation can be read again from their nodes
abbrev pub DerivationsHaveTypes : Type 0
DerivationsHaveTypes = (ts : Trees) (s : Script) → script (seq ts) ≡ found s → EntriesHaveTypes (derivation (seq ts))
