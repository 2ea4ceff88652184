-- A run behind UNPACK.
use Rattle.std.proofs.Common.{◌≡◌, ◌<◌, ◌≤◌, ◌^◌, ℕ, true, false, List, [], ◌∷◌, Option, Some, None, length, refl, sym, ap, ◌∙◌, subst, arith}
use Rattle.std.specs.Prelude.{IfSome, option_map}
use Rattle.std.proofs.lemmas.Bool.{leb-true}
use Rattle.rules_text.specs.nodes.Limits.{byte_limit}
use Rattle.rules_text.specs.nodes.Tree.{Tree}
use Rattle.rules_data.specs.declared.gas.Kind.TheVariants as g
use Rattle.rules_data.specs.gas.Prices.{cost}
use Rattle.rules_data.specs.types.Attributes.{pushable}
use Rattle.rules_data.specs.types.Kind.{Kind}
use Rattle.rules_code.specs.instructions.Types as t
use Rattle.rules_code.specs.instructions.Change.{Change}
use Rattle.rules_code.specs.instructions.OtherChanges.{hash_change}
use Rattle.rules_code.specs.instructions.Straight.{on_hashes}
use Rattle.rules_code.specs.instructions.Straight as i
use Rattle.rules_data.specs.values.Literals.{is_short}
use Rattle.rules_data.specs.values.Val.{Val, bytes}
use Rattle.rules_code.specs.typing.Fits.{Known, AllFit}
use Rattle.rules_code.specs.steps.Costs.{hash_weight}
use Rattle.rules_code.specs.steps.Failure as f
use Rattle.rules_code.specs.steps.Packing.{hash_step, unpacked}
use Rattle.rules_code.specs.steps.Step.{kept, optional}
use Rattle.rules_code.specs.evaluation.Outcome.{Outcome, failed}
use Rattle.rules_code.specs.evaluation.Surroundings.{Surroundings}
use Rattle.rules_code.specs.evaluation.Trying.{trial}
use Rattle.laws_code.specs.evaluation.Laws.{known}
use Rattle.laws_code.proofs.typed.ForCallers.{Taken}
use Rattle.mich_frames.specs.Frames.{Frame}
use Rattle.mich_frames.specs.Shapes.{HasBytes}
use Rattle.mich_frames.specs.Stands.{StandsAt}
use Rattle.mich_frames.proofs.ForCallers.{row_broke, row_taken}
use Rattle.mich_gas.specs.declared.costs.Costs.{Costs}
use Rattle.mich_gas.specs.View.{listed}
use Rattle.mich_data.specs.Whole.{IsWhole}
use Rattle.mich_store_steps.specs.hashes.Operands.{HasOperand}
use Rattle.mich_instr.specs.Code as made
use Rattle.mich_stack.specs.Views.{Sight, seen}
use Rattle.mich_term.specs.ValueView.{val}
use Rattle.mich_term.specs.declared.value.Value.{Value}
use Rattle.mich_literals.specs.unpacking.Unpacked.{IsUnpacked}
use Rattle.mich_interpreter.specs.Ends.{IsPaid, Meets}
use Rattle.mich_interpreter.specs.View.{Beyond, tops, around, tally}
use Rattle.mich_state.specs.declared.state.State.{State}
use Rattle.mich_interpreter.proofs.Hashed.{hash_stands}
use Rattle.mich_interpreter.proofs.Operands.{has_operand}
use Rattle.mich_interpreter.proofs.Pushed.{whole_is}
use Rattle.mich_interpreter.proofs.Told.{later}

-- ---- the value

seen_found : (a : Kind) (o : Option Value) → pushable a ≡ true → IfSome o (λ v. IsWhole a v) → (big : Sight) → option_map (seen big) o ≡ option_map val o
seen_found a None p h big = refl
seen_found a (Some v) p h big = ap Some (whole_is a v p h big)

-- what was unpacked is what the rules say, wherever the code runs
pub found_is : (a : Kind) (b : List ℕ) (o : Option Value) → pushable a ≡ true → IsUnpacked a b o → IfSome o (λ v. IsWhole a v) → (big : Sight) (e : Surroundings) →
    optional (option_map (seen big) o) ≡ optional (unpacked (trial e) a b)
found_is a b o p is whole big e = ap optional (seen_found a o p whole big ∙ sym (is (trial e) (λ l c r recursive t. refl)))

-- ---- the stack

bytes_first : (a : Kind) (V : List Val) → HasOperand (i.unpack a) V → HasBytes V
bytes_first a (bytes b ∷ V) h = tt
bytes_first a [] h = absurd h
bytes_first a (_ ∷ V) h = absurd h

-- bytes that fit are few
short_by : (w : Known) (a : Kind) (A : List Kind) (b : List ℕ) (W : List Val) (c : Change) → hash_change (i.unpack a) A ≡ Some c → AllFit w A (bytes b ∷ W) → is_short b ≡ true
short_by w a (t.bytes ∷ A) b W c e h = h.0
short_by w a _ b W c e h = absurd cc

module _ (x : Beyond) (costs : Costs) (m : State) {fs : List Frame} {d : ℕ} {Z : List Kind} {o : Outcome} (a : Kind) {app : Tree} (h : Meets (made.straight (on_hashes (i.unpack a)) app) x costs m fs d Z o) where
  taken : Taken (on_hashes (i.unpack a)) h.types h.next
  taken = row_taken h.fine h.holds.types

  pub unpack_pushable : pushable a ≡ true
  unpack_pushable = taken.carries.0

  pub bytes_on_top : HasBytes (tops x.sight m.stack)
  bytes_on_top = bytes_first a (tops x.sight m.stack) (has_operand x costs m (i.unpack a) h)

  module _ (b : List ℕ) (W : List Val) (top : tops x.sight m.stack ≡ bytes b ∷ W) where
    pub few_bytes : length b < 2 ^ 32
    few_bytes =
        let fits = subst (λ V. AllFit (known x.contract_at (tally x m).issued) h.types V) top h.holds.fits in
        let le : length b ≤ byte_limit = leb-true (length b) byte_limit (short_by (known x.contract_at (tally x m).issued) a h.types b W taken.effect taken.changes fits) in
        omega (arith, le)

    weighs : length b ≡ hash_weight (i.unpack a) (tops x.sight m.stack)
    weighs = ap (hash_weight (i.unpack a)) (sym top)

    pub unpack_broke : (meter : ℕ) → IsPaid false (listed costs) g.Unpack (length b) m.meter meter → o ≡ failed f.out_of_gas
    unpack_broke meter p = row_broke (on_hashes (i.unpack a)) h (subst (λ w. m.meter < cost (listed costs) g.Unpack w) weighs p)

    -- this value is in the place of the bytes
    pub unpack_stands : (y : Val) (stack : List Value) (meter : ℕ) → ((e : Surroundings) → y ≡ optional (unpacked (trial e) a b)) → tops x.sight stack ≡ y ∷ W →
        IsPaid true (listed costs) g.Unpack (length b) m.meter meter →
        StandsAt fs (around x costs (later x costs m stack meter m.ledger)) (tops x.sight stack) (tally x (later x costs m stack meter m.ledger)) d Z o
    unpack_stands y stack meter is put p =
        let q = subst (λ w. IsPaid true (listed costs) g.Unpack w m.meter meter) weighs p in
        hash_stands x costs m (i.unpack a) h q.0 stack meter
        (λ e. ap (hash_step (trial e) (i.unpack a)) top ∙ ap (λ z. kept (z ∷ W)) (sym (is e)) ∙ ap kept (sym put)) q.1
