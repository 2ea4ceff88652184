-- Operations that code issues (Michelson reference, "Operations on contracts"; Octez "operations", internal operations;
-- Octez "Tickets" for what they move).
use Rattle.std.specs.Prelude.{suc, nat_lt, Bool, true, false, [], ◌∷◌, ◌++◌}
use Rattle.rules_text.specs.nodes.Limits.{operation_limit}
use Rattle.rules_data.specs.values.Val.{Val}
use Rattle.rules_data.specs.values.Val as v
use Rattle.rules_code.specs.steps.Failure as f
use Rattle.rules_code.specs.evaluation.Operations.{Operation, Tally}
use Rattle.rules_code.specs.evaluation.Outcome.{Outcome, failed}

-- the tally with one more operation
abbrev pub with_operation : Tally → Operation → Tally
with_operation m operation =
    record m { operations = suc m.operations; issued = m.issued ++ record { number = m.operations; operation = operation } ∷ [] }

abbrev pub issued_where : Bool → Operation → Tally → (Val → Tally → Outcome) → Outcome
issued_where true operation m go = go (v.operation m.operations) (with_operation m operation)
issued_where false operation m go = failed f.too_many_operations

-- what follows with the value of an operation, its number, where so many may be issued
abbrev pub issue : Operation → Tally → (Val → Tally → Outcome) → Outcome
issue operation m go = issued_where (nat_lt m.operations operation_limit) operation m go

-- one more contract is made in the group
abbrev pub with_origination : Tally → Tally
with_origination m = record m { originations = suc m.originations }
