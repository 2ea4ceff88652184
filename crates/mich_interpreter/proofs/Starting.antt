-- Where a run begins.
use Rattle.std.proofs.Common.{◌≡◌, List, [], ◌∷◌, ◌++◌, sym, subst, lit<}
use Rattle.rules_data.specs.types.Kind.{Kind}
use Rattle.rules_code.specs.evaluation.Outcome.{Outcome}
use Rattle.mich_gas.specs.declared.costs.Costs.{Costs}
use Rattle.mich_instr.specs.View.{codes}
use Rattle.mich_instr.specs.declared.instr.Instr.{Instr}
use Rattle.mich_frames.specs.Frames as fr
use Rattle.mich_frames.specs.Stands.{StandsAt}
use Rattle.mich_frames.proofs.ForCallers.{enters}
use Rattle.mich_interpreter.specs.View.{Beyond, tops, frames, around, tally}
use Rattle.mich_interpreter.specs.Begins.{Opens}
use Rattle.mich_interpreter.specs.declared.frame.Frame.{Frame}
use Rattle.mich_state.specs.declared.state.State.{State}

pub run_begins : (x : Beyond) (costs : Costs) (code : List Instr) (m : State) (Z : List Kind) (o : Outcome) (gs : List Frame) → gs ≡ [] → Opens x costs code m Z o →
    StandsAt (fr.rest (codes code) ∷ frames x.sight gs ++ []) (around x costs m) (tops x.sight m.stack) (tally x m) 1 Z o
run_begins x costs code m Z o gs e h =
    subst (λ hs. StandsAt (fr.rest (codes code) ∷ frames x.sight hs ++ []) (around x costs m) (tops x.sight m.stack) (tally x m) 1 Z o) (sym e) (enters (lit< tt) h)
