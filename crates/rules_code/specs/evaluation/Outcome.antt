-- How an evaluation ends, and what it is made of (Michelson reference, "Semantics").
use Rattle.std.specs.Prelude.{ℕ, suc, ◌-◌, nat_lt, nat_le, Bool, true, false, List, ◌++◌, Option, Some, None}
use Rattle.rules_text.specs.nodes.Limits.{block_limit}
use Rattle.rules_data.specs.declared.gas.Kind.{Kind as Priced}
use Rattle.rules_data.specs.gas.Prices.{Listed, cost}
use Rattle.rules_data.specs.types.Kind.{Kind}
use Rattle.rules_data.specs.values.Val.{Val}
use Rattle.rules_code.specs.steps.Failure.{Failure}
use Rattle.rules_code.specs.steps.Failure as f
use Rattle.rules_code.specs.steps.Changes.{Change}
use Rattle.rules_code.specs.steps.Step.{Step, done, fails, wrong}
use Rattle.rules_code.specs.evaluation.Surroundings.{Surroundings}
use Rattle.rules_code.specs.evaluation.Operations.{Tally}

-- the types and the values of the stack, with the tally; a failure; or a fault that typed code never has
pub data Outcome : Type 0 where
  stack : List Kind → List Val → Tally → Outcome
  failed : Failure → Outcome
  stuck : Outcome

-- from the types and the values of the stack, and the tally
abbrev pub Go : Type 0
Go = List Kind → List Val → Tally → Outcome

-- from what surrounds it and how many blocks are open
abbrev pub Run : Type 0
Run = Surroundings → ℕ → Go

-- what follows, where there is a stack
abbrev pub after : Outcome → Go → Outcome
after (stack A V m) go = go A V m
after (failed f) go = failed f
after stuck go = stuck

abbrev pub unless_stuck : {A : Type 0} → Option A → (A → Outcome) → Outcome
unless_stuck None go = stuck
unless_stuck (Some x) go = go x

abbrev pub only_if : Bool → Outcome → Outcome
only_if true o = o
only_if false o = stuck

-- ---- gas

abbrev pub with_gas : Bool → ℕ → Tally → (Tally → Outcome) → Outcome
with_gas true cost m go = go (record m { gas = m.gas - cost })
with_gas false cost m go = failed f.out_of_gas

-- what a kind costs at a weight is taken, where so much gas is left
abbrev pub charge : Listed → Priced → ℕ → Tally → (Tally → Outcome) → Outcome
charge prices kind weight m go = with_gas (nat_le (cost prices kind weight) m.gas) (cost prices kind weight) m go

-- ---- blocks

abbrev pub opened : Bool → Run → Run
opened true r e d A V m = r e (suc d) A V m
opened false r e d A V m = failed f.depth_limit

-- with one more open block, until it has ended
abbrev pub block : Run → Run
block r e d A V m = opened (nat_lt d block_limit) r e d A V m

-- ---- steps of straight-line instructions

abbrev pub with_changes : Tally → List Change → Tally
with_changes m changes = record m { changes = m.changes ++ changes }

-- the types after it are given, and its changes of tickets are told
abbrev pub finish : Step → List Kind → Tally → Outcome
finish (done V changes) B m = stack B V (with_changes m changes)
finish (fails f) B m = failed f
finish wrong B m = stuck
