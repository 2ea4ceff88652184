-- Refusals whose line was written, or a front of it.
use Rattle.std.proofs.Common.{◌≡◌, ℕ, List, [], ◌∷◌, Result, Ok, Err, IfOk, subst, arith}
use Rattle.rules_files.specs.commands.Lines.{refusal_line, file_fault_name}
use Rattle.rules_files.specs.commands.Replay.{FileFault, RefusedAt}
use Rattle.mich_replay.specs.Coming.{Closes}
use Rattle.mich_replay.specs.Output.{Output, RefusesWith, Writes, WritesFront}
use Rattle.mich_io.specs.declared.stop.Stop.{Stop}

-- a file is refused so
pub refusal_closes : (a b : Output) (name : List ℕ) (fault : FileFault) (at : ℕ) (r : Result ℕ Stop) → name ≡ file_fault_name fault → RefusesWith (refusal_line name at) a b r →
    Closes a b (RefusedAt fault at) r
refusal_closes a b name fault at (Ok status) e (is, p) = (is, subst (λ (n : List ℕ). Writes a b (refusal_line n at ∷ [])) e p)
refusal_closes a b name fault at (Err x) e p = subst (λ (n : List ℕ). WritesFront a b (refusal_line n at ∷ [])) e p

pub refusal_status : (line : List ℕ) (a b : Output) (r : Result ℕ Stop) → RefusesWith line a b r → IfOk r (λ status. status ≡ 2)
refusal_status line a b (Ok status) p = p.0
refusal_status line a b (Err x) p = tt

-- its status isn't 0
pub refusal_undone : (P : Type 0) (line : List ℕ) (a b : Output) (r : Result ℕ Stop) → RefusesWith line a b r → IfOk r (λ status. status ≡ 0 → P)
refusal_undone P line a b (Ok status) p = λ zero. absurd (two status p.0 zero) where
  two : (n : ℕ) → n ≡ 2 → n ≡ 0 → ⊥
  two n e f = omega (arith, e, f)
refusal_undone P line a b (Err x) p = tt
