-- What holds of a stack while code runs, and what a typing promises of what comes of it.
use Rattle.std.specs.Prelude.{◌≡◌, ◌≤◌, ◌<◌, ◌^◌, ℕ, ◌==◌, true, ℤ, pos, ◌+ℤ◌, ◌≤ℤ◌, List, [], ◌∷◌}
use Rattle.std.specs.List.{All, list_any}
use Rattle.rules_data.specs.types.Kind.{Kind}
use Rattle.rules_data.specs.values.Val.{Val}
use Rattle.rules_data.specs.values.Tickets.{Identity}
use Rattle.rules_code.specs.steps.Changes.{Change, minted_in}
use Rattle.rules_code.specs.typing.Typing.{Typing, Typer, goes, fails, bad}
use Rattle.rules_code.specs.typing.Fits.{Fits, AllFit}
use Rattle.rules_code.specs.evaluation.Surroundings.{Surroundings}
use Rattle.rules_code.specs.evaluation.Operations.{Operation, transfer, origination, event, Issued, Tally}
use Rattle.rules_code.specs.evaluation.Outcome.{Outcome, stack, failed, stuck, Run}
use Rattle.rules_code.specs.evaluation.Contracts.{Lookup, is_contract_of}
use Rattle.rules_text.specs.nodes.Tree.{size}
use Rattle.rules_data.specs.types.Kind.{contract}
use Rattle.rules_data.specs.types.Attributes.{pushable}
use Rattle.rules_code.specs.instructions.Arguments.{found}
use Rattle.rules_code.specs.typing.Scripts.{Script}
use Rattle.rules_code.specs.typing.Nodes.{script}
use Rattle.rules_world.specs.world.Forms.{IsChange}
use Rattle.laws_data.specs.types.Laws.{IsWellFormed}
use Rattle.laws_code.specs.evaluation.Laws.{known, IsGood, IsType, most_mutez, most_tickets, amount_on}

-- what a run sees of the world: its contracts, and what was minted before it
pub record Seen : Type 0 where
  pub contract_at : Lookup
  pub minted : Identity → ℤ

abbrev pub seen : Surroundings → Seen
seen e = record { contract_at = e.contract_at; minted = e.minted }

-- each type is one that is read from some node
abbrev pub AllTypes : List Kind → Type 0
AllTypes [] = Unit {0}
AllTypes (a ∷ A) = IsType a × AllTypes A

-- what was ever minted of an identity, where these are the changes of the run
abbrev pub total : Seen → List Change → Identity → ℤ
total e cs id = e.minted id +ℤ minted_in id cs

-- a stack of values in a run that goes well, where these operations were issued and these are the changes
pub record Sound (e : Seen) (is : List Issued) (cs : List Change) (A : List Kind) (V : List Val) : Type 0 where
  pub types : AllTypes A
  pub fit : AllFit (known e.contract_at is) A V
  pub below : (id : Identity) → amount_on id V ≤ℤ total e cs id
  pub most : (id : Identity) → total e cs id ≤ℤ most_tickets
  pub mints : (id : Identity) → pos 0 ≤ℤ minted_in id cs

-- what an operation hands over has its type, where some operations were issued
abbrev pub IsSoundIssue : Lookup → Operation → Type 0
IsSoundIssue l (transfer argument amount destination) =
    (a : Kind) × (is : List Issued) × (IsWellFormed (contract a)) × (is_contract_of l a destination ≡ true)
    × Fits (known l is) a argument × (amount ≤ most_mutez)
IsSoundIssue l (origination delegate amount t storage hash) =
    (s : Script) × (is : List Issued) × (script t ≡ found s) × (size t < 2 ^ 32)
    × Fits (known l is) s.storage storage × (amount ≤ most_mutez)
IsSoundIssue l (event tag a x) = (is : List Issued) × (pushable a ≡ true) × Fits (known l is) a x

-- operations do so, and changes of tickets have their form
abbrev pub IsWell : Seen → List Issued → List Change → Type 0
IsWell e is cs = All (λ i. IsSoundIssue e.contract_at i.operation) is × All IsChange cs

-- what came of such a stack: values that fit, on which there is no more of any ticket than there was and was minted
pub record After (e : Seen) (is : List Issued) (cs : List Change) (V : List Val) (B : List Kind) (W : List Val)
    (n : Tally) : Type 0 where
  pub fit : AllFit (known e.contract_at n.issued) B W
  pub grows : (i : ℕ) → list_any (λ j. j.number == i) is ≡ true → list_any (λ j. j.number == i) n.issued ≡ true
  pub tickets : (id : Identity) → (amount_on id W +ℤ total e cs id) ≤ℤ (amount_on id V +ℤ total e n.changes id)
  pub most : (id : Identity) → total e n.changes id ≤ℤ most_tickets
  pub mints : (id : Identity) → pos 0 ≤ℤ minted_in id n.changes
  pub well : IsWell e is cs → IsWell e n.issued n.changes

-- what a typing promises
abbrev pub KeepsFrom : Seen → List Issued → List Change → List Val → Typing → Outcome → Type 0
KeepsFrom e is cs V (goes B) (stack C W n) = (C ≡ B) × After e is cs V B W n
KeepsFrom e is cs V (goes B) (failed f) = Unit {0}
KeepsFrom e is cs V (goes B) stuck = ⊥
KeepsFrom e is cs V fails (stack C W n) = ⊥
KeepsFrom e is cs V fails (failed f) = Unit {0}
KeepsFrom e is cs V fails stuck = ⊥
KeepsFrom e is cs V (bad l) o = Unit {0}

-- a run keeps what a typing promises
abbrev pub SafeRun : Typer → Run → Type 0
SafeRun t r = (e : Surroundings) (d : ℕ) (A : List Kind) (V : List Val) (m : Tally) → IsGood e →
    Sound (seen e) m.issued m.changes A V →
    KeepsFrom (seen e) m.issued m.changes V (t e.context A) (r e d A V m)
