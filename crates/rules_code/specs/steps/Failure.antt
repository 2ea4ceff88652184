-- Why an operation fails (Michelson reference, "Semantics", the failures of instructions; Octez "operations", the
-- failures of manager operations; the limits of integers, blocks, lambdas and operations are this host's).
use Rattle.std.specs.Prelude.{ℕ}
use Rattle.rules_data.specs.types.Kind.{Kind}
use Rattle.rules_data.specs.values.Val.{Val}

-- the first nine can come from code, the others from the application of an operation; locations are those of the node
-- that was handed in
pub data Failure : Type 0 where
  -- FAILWITH on a value of this type
  failed_with : Kind → Val → Failure
  out_of_gas : Failure
  integer_limit : Failure
  mutez_overflow : Failure
  shift_limit : Failure
  size_limit : Failure
  depth_limit : Failure
  too_many_operations : Failure
  operation_replay : Failure
  no_contract : Failure
  no_entrypoint : Failure
  bad_parameter : (location : ℕ) → Failure
  balance_too_low : Failure
  empty_transaction : Failure
  ill_typed : (location : ℕ) → Failure
  bad_storage : (location : ℕ) → Failure
  unregistered_delegate : Failure
  ticket_short : Failure
  cannot_pay_burn : Failure
