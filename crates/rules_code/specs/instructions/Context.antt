-- Where an instruction stands (Michelson reference, SELF; Octez documentation, "Smart contract views").
use Rattle.std.specs.Prelude.{List}
use Rattle.rules_data.specs.types.Entrypoints.{Entry}

pub data Context : Type 0 where
  -- the code of a script, outside of lambdas, with the entrypoints of its parameter
  main : List Entry → Context
  -- the code of a view, outside of lambdas
  view : Context
  -- the body of a lambda
  lambda : Context
