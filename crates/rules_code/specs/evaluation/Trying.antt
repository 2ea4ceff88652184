-- How literals are tried while code runs: the bodies of lambdas are typed, and the contracts that are named must be there
-- (Michelson reference, UNPACK and the type of contracts).
use Rattle.std.specs.Prelude.{is_none}
use Rattle.rules_data.specs.values.Literals.{body, claim}
use Rattle.rules_code.specs.typing.Literals.{lambda_fault}
use Rattle.rules_code.specs.steps.Packing.{Trial}
use Rattle.rules_code.specs.evaluation.Surroundings.{Surroundings}
use Rattle.rules_code.specs.evaluation.Contracts.{is_contract_of}

abbrev pub trial : Surroundings → Trial
trial e (body location a r recursive t) = is_none (lambda_fault a r recursive t)
trial e (claim location address a) = is_contract_of e.contract_at a address
