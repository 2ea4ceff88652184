-- Instructions that read what surrounds the run (Michelson reference, "Operations on contracts" and "Special operations").
use Rattle.std.specs.Prelude.{pos, List, ◌∷◌}
use Rattle.rules_data.specs.forms.Spelling.{implicit_place, contract_place}
use Rattle.rules_data.specs.values.Val.{Val, number, bytes}
use Rattle.rules_code.specs.instructions.Straight.{EnvironmentRow}
use Rattle.rules_code.specs.instructions.Straight as i
use Rattle.rules_code.specs.steps.Environment.{Environment}
use Rattle.rules_code.specs.steps.Step.{Step, kept}

-- what an instruction reads; an address without an entrypoint is a place
abbrev pub reading : Environment → EnvironmentRow → Val
reading e i.amount = number (pos e.amount)
reading e i.balance = number (pos e.balance)
reading e i.sender = bytes e.sender
reading e i.source = bytes (implicit_place e.source)
reading e i.self_address = bytes (contract_place e.own)
reading e i.now = number e.moment
reading e i.level = number (pos e.level)
reading e i.chain_id = bytes e.chain

abbrev pub environment_step : Environment → EnvironmentRow → List Val → Step
environment_step e row V = kept (reading e row ∷ V)
