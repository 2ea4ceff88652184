-- Frames that are taken off.
use Rattle.std.proofs.Common.{◌≡◌, ◌-◌, ℕ, List, [], ◌∷◌, ◌++◌, length, Some, None, refl, sym, ap, ◌∙◌, subst, arith}
use Rattle.std.specs.Prelude.{slice_get}
use Rattle.rules_data.specs.types.Kind.{Kind}
use Rattle.rules_code.specs.evaluation.Outcome.{Outcome}
use Rattle.mich_gas.specs.declared.costs.Costs.{Costs}
use Rattle.mich_instr.specs.View.{codes}
use Rattle.mich_instr.specs.declared.instr.Instr.{Instr}
use Rattle.mich_frames.specs.Frames as fr
use Rattle.mich_frames.specs.Stands.{StandsAt, OpensAt}
use Rattle.mich_interpreter.specs.View.{Beyond, tops, frame, frames, around, tally}
use Rattle.mich_interpreter.specs.Ends.{Stands}
use Rattle.mich_interpreter.specs.Runs.{Behind, IsNoBlock}
use Rattle.mich_interpreter.specs.declared.frame.Frame.{Frame}
use Rattle.mich_interpreter.specs.declared.frame.Frame.TheVariants as f
use Rattle.mich_interpreter.specs.declared.machine.Machine.{Machine}
use Rattle.mich_state.specs.declared.state.State.{State}
use Rattle.mich_interpreter.proofs.Begun.{OpensOver}
use Rattle.mich_interpreter.proofs.Listed.{map_reverse}

-- a list with an element at its last place
module _ {X : Type 0} where
  got_last : (y : X) (ys : List X) (x : X) → slice_get (y ∷ ys) (length ys) ≡ Some x → (zs : List X) × (y ∷ ys ≡ zs ++ x ∷ [])
  got_last y [] x e = let same : y ≡ x = cc in ([], ap (λ z. z ∷ []) same)
  got_last y (z ∷ zs) x e = let r = got_last z zs x e in (y ∷ r.0, ap (λ l. y ∷ l) r.1)

  pub with_last : (ys : List X) (x : X) → slice_get ys (length ys - 1) ≡ Some x → (zs : List X) × (ys ≡ zs ++ x ∷ [])
  with_last [] x e = absurd cc
  with_last (y ∷ ys) x e =
      let n : length (y ∷ ys) - 1 ≡ length ys = omega arith in
      got_last y ys x (subst (λ k. slice_get (y ∷ ys) k ≡ Some x) n e)

module _ (x : Beyond) (costs : Costs) (gs : List fr.Frame) (Z : List Kind) (o : Outcome) (m : Machine) where
  -- a frame was on top
  pub on_top : (hs : List Frame) (top : Frame) → m.frames ≡ hs ++ top ∷ [] → Behind x costs m gs Z o → Stands top x costs m.state (frames x.sight hs ++ gs) m.depth Z o
  on_top hs top e h =
      subst (λ ks. StandsAt (ks ++ gs) (around x costs m.state) (tops x.sight m.state.stack) (tally x m.state) m.depth Z o)
      (ap (frames x.sight) e ∙ map_reverse (frame x.sight) hs top) h

  -- none was left
  pub at_end : m.frames ≡ [] → Behind x costs m gs Z o → StandsAt gs (around x costs m.state) (tops x.sight m.state.stack) (tally x m.state) m.depth Z o
  at_end e h =
      subst (λ ks. StandsAt (ks ++ gs) (around x costs m.state) (tops x.sight m.state.stack) (tally x m.state) m.depth Z o) (ap (frames x.sight) e) h

  -- a block opens over the frame that was on top, which stays there
  pub over_top : (hs : List Frame) (body : List Instr) (s : State) → m.frames ≡ hs ++ f.Turns body ∷ [] →
      OpensAt (codes body) (fr.turns (codes body) ∷ frames x.sight hs ++ gs) (around x costs s) (tops x.sight s.stack) (tally x s) m.depth Z o →
      OpensOver x costs gs Z o body None m.frames s m.depth
  over_top hs body s e h =
      subst (λ ks. OpensAt (codes body) (ks ++ gs) (around x costs s) (tops x.sight s.stack) (tally x s) m.depth Z o)
      (sym (ap (frames x.sight) e ∙ map_reverse (frame x.sight) hs (f.Turns body))) h

pub no_block : (frame : Frame) → ((block : List Instr) (at : ℕ) → frame ≡ f.Rest block at → ⊥) → IsNoBlock frame
no_block (f.Rest block at) never = never block at refl
no_block (f.Turns body) never = tt
no_block (f.LeftTurns body) never = tt
no_block (f.Each body items) never = tt
no_block (f.Making body making) never = tt
no_block (f.Under above) never = tt
no_block (f.Call below) never = tt
