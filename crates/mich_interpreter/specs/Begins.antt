-- Where a run of code begins.
use Rattle.std.specs.Prelude.{List, []}
use Rattle.rules_data.specs.types.Kind.{Kind}
use Rattle.rules_code.specs.evaluation.Outcome.{Outcome}
use Rattle.mich_gas.specs.declared.costs.Costs.{Costs}
use Rattle.mich_instr.specs.View.{codes}
use Rattle.mich_instr.specs.declared.instr.Instr.{Instr}
use Rattle.mich_frames.specs.Stands.{OpensAt}
use Rattle.mich_interpreter.specs.View.{Beyond, tops, around, tally}
use Rattle.mich_state.specs.declared.state.State.{State}

-- A block of this code comes first, and nothing else: the outcome of the whole is o, and a stack that comes out has the types Z.
abbrev pub Opens : Beyond → Costs → List Instr → State → List Kind → Outcome → Type 0
Opens x costs code m Z o = OpensAt (codes code) [] (around x costs m) (tops x.sight m.stack) (tally x m) 0 Z o
