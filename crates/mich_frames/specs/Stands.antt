-- Where a run with frames stands: the outcome of what is pending is the outcome of the whole, which is never stuck, and values
-- and tickets are as typed code leaves them.
use Rattle.std.specs.Prelude.{◌≡◌, ◌<◌, ◌≤◌, ◌+◌, ◌^◌, ℕ, List, ◌∷◌, Option, Some, None}
use Rattle.rules_text.specs.nodes.Limits.{block_limit}
use Rattle.rules_text.specs.nodes.Tree.{Tree, Trees, size}
use Rattle.rules_data.specs.types.Kind.{Kind}
use Rattle.rules_code.specs.instructions.Context.{Context}
use Rattle.rules_data.specs.values.Val.{Val}
use Rattle.rules_code.specs.typing.Nodes.{tree_type}
use Rattle.rules_code.specs.typing.Fits.{Leads}
use Rattle.rules_code.specs.evaluation.Operations.{Tally}
use Rattle.rules_code.specs.steps.Failure.{Failure, depth_limit}
use Rattle.rules_code.specs.evaluation.Outcome.{Outcome, failed, stuck, after}
use Rattle.rules_code.specs.evaluation.Evaluation.{tree_run, eval_task}
use Rattle.laws_code.specs.evaluation.Laws.{IsCharged}
use Rattle.mich_instr.specs.Code.{Code, Codes}
use Rattle.mich_instr.specs.Typed.{IsCode}
use Rattle.mich_frames.specs.Around.{Around, at}
use Rattle.mich_frames.specs.Pending.{Pending, depth_of, block_run, resume}
use Rattle.mich_frames.specs.Fine.{IsFine}
use Rattle.mich_frames.specs.Frames.{Frame, IsBlock, Rests}
use Rattle.mich_frames.specs.Frames as fr

-- what holds of the whole
pub record Runs (u : Around) (o : Outcome) : Type 0 where
  pub charged : IsCharged u.prices
  pub sound : o ≡ stuck → ⊥

-- A run with these frames, the last one first, in these surroundings, on these values, the top first, with this tally and so
-- many open blocks: the outcome of what is pending is o, and a stack that comes out has the types Z.
pub record StandsAt (fs : List Frame) (u : Around) (V : List Val) (m : Tally) (d : ℕ) (Z : List Kind) (o : Outcome) :
    Type 0 where
  pub runs : Runs u o
  pub pending : List Pending
  pub context : Context
  pub types : List Kind
  pub rests : Rests fs pending u context types Z
  pub depth : d ≡ depth_of pending
  pub same : resume pending (at u context) types V m ≡ o
  pub holds : IsFine u context pending types V m.issued m.changes

-- the same where this instruction comes first
pub record MeetsAt (i : Code) (fs : List Frame) (u : Around) (V : List Val) (m : Tally) (d : ℕ) (Z : List Kind) (o : Outcome) :
    Type 0 where
  pub runs : Runs u o
  pub pending : List Pending
  pub context : Context
  pub node : Tree
  pub types : List Kind
  pub next : List Kind
  pub fine : IsCode context node i types next
  pub typed : Leads (tree_type node context types) next
  pub small : size node < 2 ^ 32
  pub rests : Rests fs pending u context next Z
  pub depth : d ≡ depth_of pending
  pub same : after (tree_run eval_task node (at u context) (depth_of pending) types V m) (resume pending (at u context)) ≡ o
  pub holds : IsFine u context pending types V m.issued m.changes

-- the same where a block of this code comes first
pub record OpensAt (is : Codes) (fs : List Frame) (u : Around) (V : List Val) (m : Tally) (d : ℕ) (Z : List Kind) (o : Outcome) :
    Type 0 where
  pub runs : Runs u o
  pub pending : List Pending
  pub context : Context
  pub nodes : Trees
  pub types : List Kind
  pub next : List Kind
  pub fine : IsBlock context nodes is types next
  pub rests : Rests fs pending u context next Z
  pub depth : d ≡ depth_of pending
  pub same : after (block_run nodes (at u context) (depth_of pending) types V m) (resume pending (at u context)) ≡ o
  pub holds : IsFine u context pending types V m.issued m.changes

-- ---- how a part of a run ends

-- the run goes on, or it failed as the outcome says
abbrev pub ActsAt : Option Failure → List Frame → Around → List Val → Tally → ℕ → List Kind → Outcome → Type 0
ActsAt None fs u V m d Z o = StandsAt fs u V m d Z o
ActsAt (Some f) fs u V m d Z o = o ≡ failed f

-- a block is open, or there were too many
abbrev pub EntersAt : Option Failure → List Frame → ℕ → List Frame → ℕ → Codes → Type 0
EntersAt None fs d fs' d' is = (d < block_limit) × (d' ≡ d + 1) × (fs' ≡ fr.rest is ∷ fs)
EntersAt (Some f) fs d fs' d' is = (block_limit ≤ d) × (f ≡ depth_limit)
