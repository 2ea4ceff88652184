-- Instructions on contracts and operations (Michelson reference, "Operations on contracts"; Octez documentation, "Smart
-- contract views").
use Rattle.std.specs.Prelude.{ℕ, pos, [], ◌∷◌, Option, Some, None, option_map}
use Rattle.rules_text.specs.nodes.Tree.{Tree}
use Rattle.rules_data.specs.forms.Spelling.{implicit_place, contract_place}
use Rattle.rules_data.specs.types.Kind.{Kind}
use Rattle.rules_data.specs.types.Kind as k
use Rattle.rules_code.specs.instructions.Straight.{OperationRow}
use Rattle.rules_code.specs.instructions.Straight as i
use Rattle.rules_code.specs.instructions.Context as place
use Rattle.rules_data.specs.values.Val.{Val, number, bytes, nothing, some, both}
use Rattle.rules_data.specs.values.Tickets.{tickets}
use Rattle.rules_code.specs.steps.Changes.{burns}
use Rattle.rules_code.specs.steps.Step.{optional}
use Rattle.rules_code.specs.steps.Environment.{Environment}
use Rattle.rules_code.specs.evaluation.Surroundings.{Surroundings}
use Rattle.rules_code.specs.evaluation.Operations.{Tally, transfer, event}
use Rattle.rules_code.specs.evaluation.Outcome.{stack, stuck, Go, Run, with_changes}
use Rattle.rules_code.specs.evaluation.Shapes.{on_top}
use Rattle.rules_code.specs.evaluation.Loops.{ending}
use Rattle.rules_code.specs.evaluation.Contracts.{contract_of, Viewed, viewed}
use Rattle.rules_code.specs.evaluation.Issuing.{issue}

-- ---- VIEW

-- a view reads of itself where it reads of the running contract elsewhere, and its caller is that contract
abbrev pub environment_in_view : Environment → Viewed → Environment
environment_in_view e w =
    record e { sender = contract_place e.own; own = w.hash; amount = 0; balance = w.contract.balance }

abbrev pub in_view : Surroundings → Viewed → Surroundings
in_view e w = record e { environment = environment_in_view e.environment w; context = place.view }

-- behind a view the gas and the counts go on, and what was issued and what changed is as before it
abbrev pub behind_view : Tally → Tally → Tally
behind_view m n = record n { issued = m.issued; changes = m.changes }

-- the view runs on the pair of its input and a copy of the storage; without one the input is discarded
abbrev pub view_run : (Tree → Run) → Surroundings → ℕ → Kind → Kind → Option Viewed → Val → Go
view_run again e d a b None x A V m = stack A (nothing ∷ V) (with_changes m (burns (tickets x)))
view_run again e d a b (Some w) x A V m =
    ending (again w.body (in_view e w) d (k.pair a w.storage ∷ []) (both x w.contract.storage ∷ []) m) (b ∷ [])
    (λ B W n. on_top B W (λ _ _ y _. stack A (some y ∷ V) (behind_view m n)))

-- ---- all

-- what an instruction does that was charged, where the types after it are given; `again` runs a node
abbrev pub operation_run : (Tree → Run) → OperationRow → Run
operation_run again i.address e d A (bytes b ∷ V) m = stack A (bytes b ∷ V) m
operation_run again i.implicit_account e d A (bytes key_hash ∷ V) m = stack A (bytes (implicit_place key_hash) ∷ V) m
operation_run again (i.contract name a) e d A (bytes b ∷ V) m =
    stack A (optional (option_map bytes (contract_of e.contract_at name a b)) ∷ V) m
operation_run again i.transfer_tokens e d A (x ∷ number (pos amount) ∷ bytes b ∷ V) m =
    issue (transfer x amount b) m (λ o m. stack A (o ∷ V) m)
operation_run again (i.emit tag a) e d A (x ∷ V) m = issue (event tag a x) m (λ o m. stack A (o ∷ V) m)
operation_run again (i.view name a b) e d A (x ∷ bytes address ∷ V) m =
    view_run again e d a b (viewed e.contract_at name a b address) x A V m
operation_run again row e d A V m = stuck
