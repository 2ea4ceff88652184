-- What the walk over the entries of a certificate finds, by the typing of nodes and by their derivation.
use Rattle.std.specs.Prelude.{◌≡◌, ℕ, ◌+◌, ◌-◌, slice_get, ◌==◌, ◌&&◌, Bool, true, false, cond, List, [], ◌∷◌, Option, Some, None, option_map, option_and_then}
use Rattle.std.specs.List.{list_all}
use Rattle.rules_text.specs.declared.nodes.Primitive.{Primitive}
use Rattle.rules_text.specs.declared.nodes.Primitive.TheVariants as p
use Rattle.rules_text.specs.nodes.Primitives.{primitive_of_name}
use Rattle.rules_text.specs.nodes.Tree.{Tree, prim, seq, Trees, none, more, size}
use Rattle.rules_data.specs.types.Kind.{Kind}
use Rattle.rules_code.specs.instructions.Context.{Context, lambda}
use Rattle.rules_code.specs.instructions.Forms.{form_of}
use Rattle.rules_code.specs.instructions.Same.{same_kinds}
use Rattle.rules_code.specs.typing.Nodes.{tree_type, trees_type, named_type, bodies, script_in, typings, typing_of}
use Rattle.rules_code.specs.typing.Scripts.{is_small}
use Rattle.rules_code.specs.typing.Typing.{Typing, goes, fails, bad, shift}
use Rattle.rules_code.specs.certificates.Blocks.{blocks}
use Rattle.rules_code.specs.certificates.Derivation.{Entry, before, end, failing, of_blocks, tellers, trees_entries}
use Rattle.mich_cert.specs.Counted.{dips}
use Rattle.mich_cert.specs.Table as table
use Rattle.mich_cert.specs.Words.{Known, line}
use Rattle.mich_cert.specs.declared.words.Word.TheVariants as w

-- ---- entries

abbrev pub same_entry : Entry → Entry → Bool
same_entry (before l A) (before m B) = l == m && same_kinds A B
same_entry (end l A) (end m B) = l == m && same_kinds A B
same_entry (failing l) (failing m) = l == m
same_entry d e = false

-- the entries past these, where they begin with these
abbrev pub past : List Entry → List Entry → Option (List Entry)
past [] es = Some es
past (d ∷ ds) [] = None
past (d ∷ ds) (e ∷ es) = cond (same_entry d e) (past ds es) None

-- the stack that the first entry tells, if it tells one
abbrev pub told : List Entry → Option (List Kind)
told (before l A ∷ es) = Some A
told (end l A ∷ es) = Some A
told es = None

-- ---- ends

abbrev pub is_stack : List Kind → Option (List Kind) → Bool
is_stack A None = false
is_stack A (Some B) = same_kinds A B

abbrev pub is_no_stack : Option (List Kind) → Bool
is_no_stack None = true
is_no_stack (Some A) = false

-- a typing that ends with this stack, or fails where there is none
abbrev pub ends_so : Typing → Option (List Kind) → Bool
ends_so (goes B) o = is_stack B o
ends_so fails o = is_no_stack o
ends_so (bad l) o = false

-- how a block ends, and the entries past it
pub record Ended : Type 0 where
  pub ends : Option (List Kind)
  pub rest : List Entry

abbrev pub ended : Typing → Option (List Entry) → Option Ended
ended (goes B) r = option_map (λ es. record { ends = Some B; rest = es }) r
ended fails r = option_map (λ es. record { ends = None; rest = es }) r
ended (bad l) r = None

-- the same with the stack that it begins with
pub record Confirmed : Type 0 where
  pub begins : List Kind
  pub ends : Option (List Kind)
  pub rest : List Entry

abbrev pub confirmed : List Kind → Option Ended → Option Confirmed
confirmed A e = option_map (λ e. record { begins = A; ends = e.ends; rest = e.rest }) e

-- ---- blocks

-- the rest of the block at a location, whose next instruction is at another; or behind an instruction that fails
abbrev pub rest_of : Trees → ℕ → ℕ → Context → Bool → List Entry → Option Ended
rest_of ts block at c false es = option_and_then (λ A. ended (trees_type ts c A) (past (trees_entries ts block at c A) es)) (told es)
rest_of none block at c true es = ended fails (past (failing block ∷ []) es)
rest_of (more t ts) block at c true es = None

abbrev pub block_of : Trees → ℕ → Context → List Entry → Option Confirmed
block_of ts at c es = option_and_then (λ A. confirmed A (rest_of ts at (at + 1) c false es)) (told es)

-- the stack that the entry of an instruction at a location tells, and the entries behind it
abbrev pub own_entry : ℕ → List Entry → Option (List Kind × List Entry)
own_entry at (before l A ∷ es) = cond (at == l) (Some (A, es)) None
own_entry at es = None

-- the end of the block at a location, or of one that fails
abbrev pub last_entry : ℕ → Bool → List Entry → Option Ended
last_entry block false (end l B ∷ es) = cond (block == l) (Some record { ends = Some B; rest = es }) None
last_entry block true (failing l ∷ es) = cond (block == l) (Some record { ends = None; rest = es }) None
last_entry block q es = None

-- a node as a body
abbrev pub body_of : Tree → ℕ → Context → List Entry → Option Confirmed
body_of (seq ts) at c es = block_of ts at c es
body_of t at c es = None

-- ---- instructions

-- the entries of the blocks within an instruction
abbrev pub inner : Tree → ℕ → Context → List Kind → List Entry
inner (prim name annots ts) at c A = of_blocks (tellers ts (at + 1)) (blocks (form_of (primitive_of_name name)) ts c A)
inner (seq ts) at c A = trees_entries ts at (at + 1) c A
inner t at c A = []

-- the entries past an instruction on a stack, where the first of them tells the stack after it
abbrev pub leading : Typing → List Entry → Option (List Entry)
leading t es = cond (ends_so t (told es)) (Some es) None

abbrev pub step_of : Tree → ℕ → Context → List Kind → List Entry → Option (List Entry)
step_of t at c A es = option_and_then (leading (tree_type t c A)) (past (inner t at c A) es)

-- the same by the name of an instruction
abbrev pub typed_by : Option Primitive → List (List ℕ) → Trees → Context → List Kind → Typing
typed_by op annots ts c A =
    named_type op annots ts record {
      bodies = bodies ts 1;
      script = λ at. script_in ts at;
      typing_at = λ l c A. shift l (typing_of (slice_get (typings ts) (l - 1)) c A);
    } c A

abbrev pub inner_by : Option Primitive → Trees → ℕ → Context → List Kind → List Entry
inner_by op ts at c A = of_blocks (tellers ts (at + 1)) (blocks (form_of op) ts c A)

abbrev pub step_by : Option Primitive → List (List ℕ) → Trees → ℕ → Context → List Kind → List Entry → Option (List Entry)
step_by op annots ts at c A es = option_and_then (leading (typed_by op annots ts c A)) (past (inner_by op ts at c A) es)

-- ---- branches

-- a stack after two branches that end so, or none where both fail
abbrev pub joined : Option (List Kind) → Option (List Kind) → Option (List Kind) → Bool
joined (Some B) (Some C) o = same_kinds B C && is_stack B o
joined (Some B) None o = is_stack B o
joined None (Some C) o = is_stack C o
joined None None o = is_no_stack o

-- the walk over two branches, the first at a location
abbrev pub branch_walk : Primitive → Tree → Tree → ℕ → Context → List Kind → List Entry → Option (List Entry)
branch_walk op b d at c A es =
    option_and_then (λ x. option_and_then (λ y. cond (table.branch_begins op A x.begins y.begins && joined x.ends y.ends (told y.rest)) (Some y.rest) None) (body_of d (at + size b) c x.rest)) (body_of b at c es)

-- ---- sequences

-- the walk over a sequence as an instruction
abbrev pub sequence_walk : Trees → ℕ → Context → List Kind → List Entry → Option (List Entry)
sequence_walk ts at c A es = option_and_then (λ x. cond (same_kinds A x.begins && joined x.ends None (told x.rest)) (Some x.rest) None) (block_of ts at c es)

-- ---- loops

-- whether the body of a loop ends as it should, if it doesn't fail
abbrev pub loop_ends : Primitive → List Kind → Option (List Kind) → Bool
loop_ends op A None = true
loop_ends op A (Some E) = table.ends op A E

-- the walk over the body of a loop
abbrev pub loop_walk : Primitive → Tree → ℕ → Context → List Kind → List Entry → Option (List Entry)
loop_walk op b at c A es =
    option_and_then (λ x. option_and_then (λ L. cond (table.begins op A x.begins && loop_ends op A x.ends && table.leaves op A L) (Some x.rest) None) (told x.rest)) (body_of b at c es)

-- ---- DIP

-- the walk over the body of DIP, below so many types
abbrev pub dip_walk : ℕ → Tree → ℕ → Context → List Kind → List Entry → Option (List Entry)
dip_walk n b at c A es =
    option_and_then (λ x. option_and_then (λ E. option_and_then (λ D. cond (dips n A x.begins E D) (Some x.rest) None) (told x.rest)) x.ends) (body_of b at c es)

-- ---- the limit of types

-- the types of each stack are within the limit
abbrev pub AreSmall : List Entry → Type 0
AreSmall [] = Unit {0}
AreSmall (before l A ∷ es) = (list_all is_small A ≡ true) × AreSmall es
AreSmall (end l A ∷ es) = (list_all is_small A ≡ true) × AreSmall es
AreSmall (failing l ∷ es) = AreSmall es

-- ---- lambdas

-- the types of a lambda, as the open types of a line
abbrev pub arrow : Kind → Kind → Known
arrow a r = record { a = Some a; b = Some r; c = None }

abbrev pub call_begins : Bool → Kind → Kind → List Kind → Bool
call_begins false a r B = line [] (w.A ∷ []) (arrow a r) [] B
call_begins true a r B = line [] (w.A ∷ w.Lambda ∷ w.A ∷ w.B ∷ []) (arrow a r) [] B

-- whether the body of a lambda ends as it should, if it doesn't fail
abbrev pub call_ends : Kind → Kind → Option (List Kind) → Bool
call_ends a r None = true
call_ends a r (Some E) = line [] (w.B ∷ []) (arrow a r) [] E

-- the walk over the body of a lambda
abbrev pub lambda_walk : Bool → Kind → Kind → Tree → ℕ → List Kind → List Entry → Option (List Entry)
lambda_walk recursive a r b at A es =
    option_and_then (λ x. option_and_then (λ M. cond (call_begins recursive a r x.begins && call_ends a r x.ends && table.written p.OpLambda (arrow a r) A M) (Some x.rest) None) (told x.rest)) (body_of b at lambda es)

-- ---- MAP

abbrev pub map_walk : Tree → ℕ → Context → List Kind → List Entry → Option (List Entry)
map_walk b at c A es =
    option_and_then (λ x. option_and_then (λ E. option_and_then (λ D. cond (table.mapped A x.begins E D) (Some x.rest) None) (told x.rest)) x.ends) (body_of b at c es)
