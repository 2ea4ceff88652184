-- A run behind PACK, UNPACK or a hash.
use Rattle.std.proofs.Common.{◌≡◌, ◌≤◌, ◌-◌, ℕ, List, [], ap}
use Rattle.rules_text.specs.nodes.Tree.{Tree}
use Rattle.rules_data.specs.gas.Prices.{cost}
use Rattle.rules_data.specs.types.Kind.{Kind}
use Rattle.rules_code.specs.instructions.Straight.{HashRow, on_hashes}
use Rattle.rules_code.specs.steps.Costs.{hash_kind, hash_weight}
use Rattle.rules_code.specs.steps.Failure.{Failure}
use Rattle.rules_code.specs.steps.Packing.{Trial, hash_step}
use Rattle.rules_code.specs.steps.Step.{kept, fails}
use Rattle.rules_code.specs.evaluation.Outcome.{Outcome, failed, finish, with_changes}
use Rattle.rules_code.specs.evaluation.Surroundings.{Surroundings}
use Rattle.rules_code.specs.evaluation.Trying.{trial}
use Rattle.mich_frames.specs.Around.{at, less}
use Rattle.mich_frames.specs.Frames.{Frame}
use Rattle.mich_frames.specs.Stands.{StandsAt}
use Rattle.mich_frames.proofs.ForCallers.{row_acts, row_fails}
use Rattle.mich_gas.specs.declared.costs.Costs.{Costs}
use Rattle.mich_gas.specs.View.{listed}
use Rattle.mich_instr.specs.Code as made
use Rattle.mich_step.proofs.ForCallers.{tells_same}
use Rattle.mich_term.specs.declared.value.Value.{Value}
use Rattle.mich_interpreter.specs.View.{Beyond, tops, around, tally}
use Rattle.mich_interpreter.specs.Ends.{Meets}
use Rattle.mich_state.specs.declared.state.State.{State}
use Rattle.mich_interpreter.proofs.Told.{stands_told, later}

module _ (x : Beyond) (costs : Costs) (m : State) {fs : List Frame} {d : ℕ} {Z : List Kind} {o : Outcome} (r : HashRow) {app : Tree} (h : Meets (made.straight (on_hashes r) app) x costs m fs d Z o) where
  abbrev pub heavy : ℕ
  heavy = hash_weight r (tops x.sight m.stack)

  abbrev pub charged : ℕ
  charged = cost (listed costs) (hash_kind r) heavy

  module _ (pays : charged ≤ m.meter) where
    pub hash_stands : (stack : List Value) (meter : ℕ) → ((e : Surroundings) → hash_step (trial e) r (tops x.sight m.stack) ≡ kept (tops x.sight stack)) → meter ≡ m.meter - charged →
        StandsAt fs (around x costs (later x costs m stack meter m.ledger)) (tops x.sight stack) (tally x (later x costs m stack meter m.ledger)) d Z o
    hash_stands stack meter is paid =
        let n = less (around x costs m) (hash_kind r) heavy (tally x m) in
        stands_told x costs m stack meter m.ledger fs d Z o (hash_kind r) heavy [] (tells_same m.ledger) paid
        (row_acts (on_hashes r) h pays (tops x.sight stack) (with_changes n []) (λ c d B. ap (λ s. finish s B n) (is (at (around x costs m) c))))

    pub hash_failed : (f : Failure) → ((passes : Trial) → hash_step passes r (tops x.sight m.stack) ≡ fails f) → o ≡ failed f
    hash_failed f is =
        let n = less (around x costs m) (hash_kind r) heavy (tally x m) in
        row_fails (on_hashes r) h pays f (λ c d B. ap (λ s. finish s B n) (is (trial (at (around x costs m) c))))
