-- Blocks that end, and what is next in a block.
use Rattle.std.proofs.Common.{◌≡◌, ◌<◌, ◌≤◌, ◌+◌, ◌-◌, List, ◌∷◌, ◌++◌, length, drop, Some, subst, arith}
use Rattle.std.specs.List.{slice_get}
use Rattle.std.proofs.lemmas.List.{drop_all}
use Rattle.rules_data.specs.types.Kind.{Kind}
use Rattle.rules_code.specs.evaluation.Outcome.{Outcome}
use Rattle.mich_gas.specs.declared.costs.Costs.{Costs}
use Rattle.mich_instr.specs.Code as made
use Rattle.mich_instr.specs.View.{code, codes}
use Rattle.mich_instr.specs.declared.instr.Instr.{Instr}
use Rattle.mich_frames.specs.Frames as fr
use Rattle.mich_frames.specs.Stands.{StandsAt}
use Rattle.mich_frames.proofs.ForCallers.{rest_depth, rest_ends, meets_next}
use Rattle.mich_interpreter.specs.View.{Beyond, tops, frames, around, tally}
use Rattle.mich_interpreter.specs.Ends.{Meets}
use Rattle.mich_interpreter.specs.Runs.{InBlock, Behind}
use Rattle.mich_interpreter.specs.declared.machine.Machine.{Machine}
use Rattle.mich_interpreter.proofs.Listed.{code_at}

module _ (x : Beyond) (costs : Costs) (gs : List fr.Frame) (Z : List Kind) (o : Outcome) (m : Machine) (h : InBlock x costs m gs Z o) where
  pub is_open : 0 < m.depth
  is_open = rest_depth h

  pub ends_behind : length m.block ≤ m.at → Behind x costs (record m { depth = m.depth - 1 }) gs Z o
  ends_behind le =
      let at_end : StandsAt (fr.rest made.none ∷ frames x.sight m.frames ++ gs) (around x costs m.state) (tops x.sight m.state.stack) (tally x m.state) m.depth Z o =
      subst (λ is. StandsAt (fr.rest (codes is) ∷ frames x.sight m.frames ++ gs) (around x costs m.state) (tops x.sight m.state.stack) (tally x m.state) m.depth Z o) (drop_all m.at m.block le) h in
      rest_ends (m.depth - 1) (let p = is_open in omega (arith, p)) at_end

  pub meets_at : (i : Instr) → m.at < length m.block → slice_get m.block m.at ≡ Some i →
      Meets (code i) x costs m.state (fr.rest (codes (drop (m.at + 1) m.block)) ∷ frames x.sight m.frames ++ gs) m.depth Z o
  meets_at i lt e =
      meets_next (subst (λ is. StandsAt (fr.rest is ∷ frames x.sight m.frames ++ gs) (around x costs m.state) (tops x.sight m.state.stack) (tally x m.state) m.depth Z o) (code_at m.block m.at i lt e) h)
