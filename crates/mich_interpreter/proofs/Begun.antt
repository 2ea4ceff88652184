-- Blocks that open.
use Rattle.std.proofs.Common.{◌≡◌, ◌≤◌, ◌+◌, ℕ, List, ◌∷◌, ◌++◌, drop, Option, sym, subst}
use Rattle.rules_text.specs.nodes.Limits.{block_limit}
use Rattle.rules_data.specs.types.Kind.{Kind}
use Rattle.rules_code.specs.evaluation.Outcome.{Outcome, failed}
use Rattle.rules_code.specs.steps.Failure as f
use Rattle.mich_gas.specs.declared.costs.Costs.{Costs}
use Rattle.mich_instr.specs.View.{codes}
use Rattle.mich_instr.specs.declared.instr.Instr.{Instr}
use Rattle.mich_frames.specs.Frames as fr
use Rattle.mich_frames.specs.Stands.{StandsAt, OpensAt}
use Rattle.mich_frames.proofs.ForCallers.{enters, too_deep}
use Rattle.mich_interpreter.specs.View.{Beyond, tops, frame, frames, around, tally}
use Rattle.mich_interpreter.specs.Ends.{over}
use Rattle.mich_interpreter.specs.Runs.{InBlock, HasActedIn, HasBegun, with_below, with_rest}
use Rattle.mich_interpreter.specs.declared.act.Act.TheVariants as a
use Rattle.mich_interpreter.specs.declared.frame.Frame.TheVariants as frame'
use Rattle.mich_interpreter.specs.declared.frame.Frame.{Frame}
use Rattle.mich_interpreter.specs.declared.machine.Machine.{Machine}
use Rattle.mich_state.specs.declared.state.State.{State}
use Rattle.mich_interpreter.proofs.Listed.{over_is, map_reverse}

module _ (x : Beyond) (costs : Costs) (gs : List fr.Frame) (Z : List Kind) (o : Outcome) where
  -- a block that is in front of frames
  abbrev pub OpensOver : List Instr → Option Frame → List Frame → State → ℕ → Type 0
  OpensOver body below fs s d = OpensAt (codes body) (over x.sight below (frames x.sight fs ++ gs)) (around x costs s) (tops x.sight s.stack) (tally x s) d Z o

  abbrev Placed : List Instr → ℕ → List Frame → State → ℕ → Type 0
  Placed block at fs s d = StandsAt (fr.rest (codes (drop at block)) ∷ frames x.sight fs ++ gs) (around x costs s) (tops x.sight s.stack) (tally x s) d Z o

  pub begun_in : (below : Option Frame) (body : List Instr) (fs : List Frame) (old new : Machine) (s : State) → HasBegun below body fs old new → new.state ≡ s →
      OpensOver body below fs s old.depth → InBlock x costs new gs Z o
  begun_in below body fs old new s h same opens =
      let base : StandsAt (fr.rest (codes body) ∷ over x.sight below (frames x.sight fs ++ gs)) (around x costs s) (tops x.sight s.stack) (tally x s) (old.depth + 1) Z o = enters h.few opens in
      let one : Placed body 0 (with_below fs below) s (old.depth + 1) =
      subst (λ hs. StandsAt (fr.rest (codes body) ∷ hs) (around x costs s) (tops x.sight s.stack) (tally x s) (old.depth + 1) Z o) (over_is x.sight fs gs below) base in
      let two : Placed new.block 0 (with_below fs below) s (old.depth + 1) = subst (λ b. Placed b 0 (with_below fs below) s (old.depth + 1)) (sym h.block) one in
      let three : Placed new.block new.at (with_below fs below) s (old.depth + 1) = subst (λ k. Placed new.block k (with_below fs below) s (old.depth + 1)) (sym h.at) two in
      let four : Placed new.block new.at new.frames s (old.depth + 1) = subst (λ hs. Placed new.block new.at hs s (old.depth + 1)) (sym h.frames) three in
      let five : Placed new.block new.at new.frames s new.depth = subst (λ n. Placed new.block new.at new.frames s n) (sym h.depth) four in
      subst (λ t. Placed new.block new.at new.frames t new.depth) (sym same) five

  pub begun_deep : (below : Option Frame) (body : List Instr) (fs : List Frame) (s : State) (d : ℕ) → block_limit ≤ d → OpensOver body below fs s d → o ≡ failed f.depth_limit
  begun_deep below body fs s d le opens = too_deep le opens

module _ (x : Beyond) (costs : Costs) (gs : List fr.Frame) (Z : List Kind) (o : Outcome) (below : Option Frame) (body : List Instr) (old : Machine) where
  rest_in : HasActedIn (a.Open below body) x costs old gs Z o → OpensOver x costs gs Z o body below (with_rest old) old.state old.depth
  rest_in h =
      subst (λ hs. OpensAt (codes body) (over x.sight below (hs ++ gs)) (around x costs old.state) (tops x.sight old.state.stack) (tally x old.state) old.depth Z o)
      (sym (map_reverse (frame x.sight) old.frames (frame'.Rest old.block old.at))) h

  -- a block that opens over the rest of the one that runs
  pub opens_inside : (new : Machine) → HasBegun below body (with_rest old) old new → new.state ≡ old.state → HasActedIn (a.Open below body) x costs old gs Z o → InBlock x costs new gs Z o
  opens_inside new h same acted = begun_in x costs gs Z o below body (with_rest old) old new old.state h same (rest_in acted)

  pub deep_inside : block_limit ≤ old.depth → HasActedIn (a.Open below body) x costs old gs Z o → o ≡ failed f.depth_limit
  deep_inside le acted = begun_deep x costs gs Z o below body (with_rest old) old.state old.depth le (rest_in acted)
