-- The derivation of a script's typing: for each block the stack before each of its instructions, followed by the entries
-- of the blocks within that instruction, and how the block ends (Michelson reference, "Typing"). Locations count in the
-- whole script.
use Rattle.std.specs.Prelude.{ℕ, ◌+◌, ◌-◌, List, [], ◌∷◌, ◌++◌, Option, Some, None, slice_get}
use Rattle.rules_text.specs.nodes.Tree.{Tree, prim, seq, Trees, none, more, size}
use Rattle.rules_text.specs.nodes.Primitives.{primitive_of_name}
use Rattle.rules_data.specs.types.Kind.{Kind}
use Rattle.rules_code.specs.instructions.Context.{Context}
use Rattle.rules_code.specs.instructions.Forms.{form_of}
use Rattle.rules_code.specs.typing.Typing.{Typing, goes, fails, bad}
use Rattle.rules_code.specs.typing.Nodes.{tree_type}
use Rattle.rules_code.specs.certificates.Blocks.{Block, blocks, script_blocks}

-- the stack before an instruction; the stack at the end of a block; or that the block fails
pub data Entry : Type 0 where
  before : ℕ → List Kind → Entry
  end : ℕ → List Kind → Entry
  failing : ℕ → Entry

-- the entries of a node, in a context and from a stack on
abbrev pub Teller : Type 0
Teller = Context → List Kind → List Entry

-- the entries behind an instruction of the block at a location
abbrev pub behind : ℕ → Typing → (List Kind → List Entry) → List Entry
behind block (goes B) next = next B
behind block fails next = failing block ∷ []
behind block (bad l) next = []

abbrev pub told_by : Option Teller → Teller
told_by (Some teller) c A = teller c A
told_by None c A = []

-- the entries of blocks, by those of the nodes from location 1 on
abbrev pub of_blocks : List Teller → List Block → List Entry
of_blocks tellers [] = []
of_blocks tellers (b ∷ bs) = told_by (slice_get tellers (b.location - 1)) b.context b.stack ++ of_blocks tellers bs

abbrev mutual
  -- the node at a location as an instruction
  pub tree_entries : Tree → ℕ → Teller
  tree_entries (prim name annots ts) at c A = before at A ∷ of_blocks (tellers ts (at + 1)) (blocks (form_of (primitive_of_name name)) ts c A)
  tree_entries (seq ts) at c A = before at A ∷ trees_entries ts at (at + 1) c A
  tree_entries t at c A = before at A ∷ []

  -- instructions of the block at a location, the first of them at another
  pub trees_entries : Trees → ℕ → ℕ → Teller
  trees_entries none block at c A = end block A ∷ []
  trees_entries (more t ts) block at c A =
      tree_entries t at c A ++ behind block (tree_type t c A) (λ B. trees_entries ts block (at + size t) c B)

  -- the node at a location as a block
  pub block_entries : Tree → ℕ → Teller
  block_entries (seq ts) at c A = trees_entries ts at (at + 1) c A
  block_entries t at c A = []

  -- nodes, the first of them at a location, and all nodes within them, each as a block, in pre-order
  pub tellers : Trees → ℕ → List Teller
  tellers none at = []
  tellers (more t ts) at = (λ c A. block_entries t at c A) ∷ inner_tellers t at ++ tellers ts (at + size t)

  pub inner_tellers : Tree → ℕ → List Teller
  inner_tellers (prim name annots ts) at = tellers ts (at + 1)
  inner_tellers (seq ts) at = tellers ts (at + 1)
  inner_tellers t at = []

-- the derivation of a script
abbrev pub derivation : Tree → List Entry
derivation t = of_blocks (inner_tellers t 0) (script_blocks 0 t)
