-- Laws of the runs of contracts.
use Rattle.std.specs.Prelude.{◌≡◌, ◌≢◌, ◌≤◌, ◌<◌, ◌+◌, ◌^◌, ◌+ℤ◌, ℕ, ℤ, pos, true, List, [], ◌∷◌, Some}
use Rattle.rules_text.specs.nodes.Limits.{operation_limit, most_mutez}
use Rattle.rules_data.specs.declared.gas.Kind.{Kind}
use Rattle.rules_data.specs.gas.Prices.{price_of}
use Rattle.rules_data.specs.values.Val.{Val}
use Rattle.rules_data.specs.values.Tickets.{Identity}
use Rattle.rules_data.specs.forms.Spelling.{is_chain_id, is_key_hash, is_place}
use Rattle.rules_code.specs.steps.Changes.{minted_in, burnt_in, amount_in, amount_among}
use Rattle.rules_code.specs.steps.Environment.{Environment}
use Rattle.rules_code.specs.evaluation.Surroundings.{Contract}
use Rattle.rules_code.specs.evaluation.Operations.{Issued, operation_tickets}
use Rattle.rules_world.specs.world.World.{World, contract_at}
use Rattle.rules_world.specs.world.Outcomes.{Setting, Counts}
use Rattle.rules_world.specs.world.Targets.{Target, search, met}
use Rattle.rules_world.specs.world.Runs.{Finished, finished, run_stuck, run_in}
use Rattle.rules_world.specs.world.Forms.{is_moment}
use Rattle.rules_world.specs.world.Good.{FitsIn, MayRun}

-- what an environment says is in range
pub record IsEnvironment (e : Environment) : Type 0 where
  pub chain : is_chain_id e.chain ≡ true
  pub level : e.level < 2 ^ 32
  pub moment : is_moment e.moment ≡ true
  pub source : is_key_hash e.source ≡ true
  pub sender : is_place e.sender ≡ true
  pub amount : e.amount ≤ most_mutez
  pub balance : e.balance ≤ most_mutez

-- an entrypoint of a contract of a sound world is called with an argument of its type
pub record IsCall (e : Environment) (s : Setting) (w : World) (t : Target) (argument : Val) (counts : Counts) : Type 0 where
  pub costs : (kind : Kind) → 1 ≤ (price_of s.prices kind).base
  pub small : s.group < 2 ^ 64
  pub environment : IsEnvironment e
  pub own : e.own ≡ t.hash
  pub found : search w t.hash t.entry.name ≡ met t
  pub fits : FitsIn w t.entry.kind argument
  pub may : MayRun w argument
  pub operations : counts.operations ≤ operation_limit
  pub originations : counts.originations ≤ counts.operations + 1000

-- accepted code is never stuck
abbrev pub RunsEnd : Type 0
RunsEnd = (e : Environment) (s : Setting) (w : World) (t : Target) (argument : Val) (gas : ℕ) (counts : Counts) →
    IsCall e s w t argument counts → run_in e s w t argument gas counts ≢ run_stuck

-- the amount of tickets of an identity in operations
abbrev pub amount_returned : Identity → List Issued → ℤ
amount_returned id [] = pos 0
amount_returned id (i ∷ is) = amount_among id (operation_tickets i.operation) +ℤ amount_returned id is

-- Tickets are linear: what a run takes in, with what its contract had and what it mints, is what the contract has then, with what the
-- run hands on and what it burns.
abbrev pub RunsKeepTickets : Type 0
RunsKeepTickets = (e : Environment) (s : Setting) (w : World) (t : Target) (argument : Val) (gas : ℕ) (counts : Counts) →
    IsCall e s w t argument counts →
    (f : Finished) (before after : Contract) →
    run_in e s w t argument gas counts ≡ finished f → contract_at w t.hash ≡ Some before → contract_at f.world t.hash ≡ Some after →
    (id : Identity) →
    amount_in id argument +ℤ amount_in id before.storage +ℤ minted_in id f.changes
    ≡ amount_in id after.storage +ℤ amount_returned id f.returned +ℤ burnt_in id f.changes
