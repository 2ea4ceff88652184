-- Tickets are linear (Octez "Tickets").
use Rattle.std.specs.Prelude.{◌≡◌, ℕ, ◌+ℤ◌, List, Some}
use Rattle.std.specs.List.{All}
use Rattle.rules_text.specs.nodes.Tree.{Tree}
use Rattle.rules_data.specs.types.Kind.{Kind}
use Rattle.rules_data.specs.values.Val.{Val}
use Rattle.rules_data.specs.values.Tickets.{Identity}
use Rattle.rules_code.specs.steps.Changes.{amount_in, minted_in, burnt_in}
use Rattle.rules_code.specs.steps.Environment.{Environment}
use Rattle.rules_code.specs.evaluation.Surroundings.{Contract, Surroundings}
use Rattle.rules_code.specs.evaluation.Operations.{Tally}
use Rattle.rules_code.specs.evaluation.Outcome.{Outcome, stack, failed, stuck}
use Rattle.rules_code.specs.evaluation.Evaluation.{eval}
use Rattle.rules_world.specs.world.World.{World, contract_at}
use Rattle.rules_world.specs.world.Outcomes.{Setting, Counts}
use Rattle.rules_world.specs.world.Targets.{Target, search, met}
use Rattle.rules_world.specs.world.Good.{FitsIn, IsGoodContract}
use Rattle.rules_world.specs.world.Runs.{Finished, finished, run_in}
use Rattle.laws_tickets.specs.totals.Agreement.{AllAgree, SeesAgreement}
use Rattle.laws_tickets.specs.totals.Totals.{amount_issued, total, AreNumbered}

-- ---- evaluation

-- the outcome leaves as much as there was
abbrev pub KeepsTotal : List Val → Tally → Outcome → Type 0
KeepsTotal V m (stack B W n) =
    AllAgree B W
    × (AreNumbered m.issued m.operations → AreNumbered n.issued n.operations)
    × ((id : Identity) → total id W n ≡ total id V m)
KeepsTotal V m (failed f) = Unit {0}
KeepsTotal V m stuck = Unit {0}

-- Whatever code does, it neither makes nor loses tickets but by minting and burning: through nested values, lambdas that are
-- called, loops, and views, whose own tickets are copies that end with them. No typing of the code is asked for.
abbrev pub EvaluationKeepsTotals : Type 0
EvaluationKeepsTotals = (t : Tree) (e : Surroundings) (d : ℕ) (A : List Kind) (V : List Val) (m : Tally) →
    SeesAgreement e → AllAgree A V → KeepsTotal V m (eval t e d A V m)

-- ---- runs

-- an entrypoint of a contract, in a world whose contracts are good, is called with an argument of its type
pub record IsCalled (w : World) (t : Target) (argument : Val) : Type 0 where
  pub contracts : All (IsGoodContract w) w.contracts
  pub found : search w t.hash t.entry.name ≡ met t
  pub fits : FitsIn w t.entry.kind argument

-- What the argument and the storage before a run hold of an identity, with what the run mints, is what the storage after it
-- and the operations that it returns hold, with what it burns.
abbrev pub TicketsAreLinear : Type 0
TicketsAreLinear = (e : Environment) (s : Setting) (w : World) (t : Target) (argument : Val) (gas : ℕ) (counts : Counts) →
    IsCalled w t argument →
    (f : Finished) (before after : Contract) →
    run_in e s w t argument gas counts ≡ finished f → contract_at w t.hash ≡ Some before → contract_at f.world t.hash ≡ Some after →
    (id : Identity) →
    amount_in id argument +ℤ amount_in id before.storage +ℤ minted_in id f.changes
    ≡ amount_in id after.storage +ℤ amount_issued id f.returned +ℤ burnt_in id f.changes
