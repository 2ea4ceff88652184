-- What PACK and the hashes find on a stack that fits its types.
use Rattle.std.proofs.Common.{◌≡◌, ℕ, Bool, true, false, List, [], ◌∷◌, Option, Some, refl}
use Rattle.rules_text.specs.nodes.Tree.{Tree}
use Rattle.rules_data.specs.declared.types.Simple.TheVariants as s
use Rattle.rules_data.specs.types.Attributes.{packable}
use Rattle.rules_data.specs.types.Kind.{Kind}
use Rattle.rules_code.specs.instructions.Types as t
use Rattle.rules_code.specs.instructions.Change.{Change, where_true}
use Rattle.rules_code.specs.instructions.OtherChanges.{hash_change}
use Rattle.rules_code.specs.instructions.Straight.{HashRow, on_hashes}
use Rattle.rules_code.specs.instructions.Straight as i
use Rattle.rules_data.specs.values.Forms.{has_simple_form}
use Rattle.rules_data.specs.values.Val.{Val, bytes}
use Rattle.rules_code.specs.typing.Fits.{Known, AllFit}
use Rattle.rules_code.specs.evaluation.Outcome.{Outcome}
use Rattle.laws_code.specs.evaluation.Laws.{known}
use Rattle.laws_typing.proofs.packing_lemmas.ForCallers.{fitting}
use Rattle.laws_code.proofs.typed.ForCallers.{Taken}
use Rattle.mich_frames.specs.Frames.{Frame}
use Rattle.mich_frames.proofs.ForCallers.{row_taken}
use Rattle.mich_gas.specs.declared.costs.Costs.{Costs}
use Rattle.mich_store_steps.specs.hashes.Operands.{HasOperand}
use Rattle.mich_instr.specs.Code as made
use Rattle.mich_stack.specs.Views.{Sight}
use Rattle.mich_interpreter.specs.View.{Beyond, tops}
use Rattle.mich_interpreter.specs.Ends.{Meets}
use Rattle.mich_interpreter.proofs.Plain.{packable_plain}
use Rattle.mich_state.specs.declared.state.State.{State}

where_holds : (b : Bool) (o : Option Change) (c : Change) → where_true b o ≡ Some c → b ≡ true
where_holds true o c e = refl
where_holds false o c e = absurd cc

-- bytes are on top
abbrev HasBytes : List Val → Type 0
HasBytes (bytes b ∷ V) = Unit {0}
HasBytes _ = ⊥

bytes_by : (x : Val) (V : List Val) → has_simple_form s.Bytes x ≡ true → HasBytes (x ∷ V)
bytes_by (bytes b) V h = tt
bytes_by _ V h = absurd cc

key_by : (x : Val) (V : List Val) → has_simple_form s.Key x ≡ true → HasBytes (x ∷ V)
key_by (bytes b) V h = tt
key_by _ V h = absurd cc

bytes_on_top : (w : Known) (A : List Kind) (V : List Val) → AllFit w (t.bytes ∷ A) V → HasBytes V
bytes_on_top w A [] h = absurd h
bytes_on_top w A (x ∷ V) h = bytes_by x V h.0

key_on_top : (w : Known) (A : List Kind) (V : List Val) → AllFit w (t.key ∷ A) V → HasBytes V
key_on_top w A [] h = absurd h
key_on_top w A (x ∷ V) h = key_by x V h.0

-- where bytes are asked for, bytes are on top
operand_by : (r : HashRow) (V : List Val) → HasBytes V → (r ≡ i.pack → ⊥) → HasOperand r V
operand_by i.pack V h e = absurd (e refl)
operand_by (i.unpack a) (bytes b ∷ V) h e = tt
operand_by i.blake2b (bytes b ∷ V) h e = tt
operand_by i.sha256 (bytes b ∷ V) h e = tt
operand_by i.sha512 (bytes b ∷ V) h e = tt
operand_by i.hash_key (bytes b ∷ V) h e = tt
operand_by r _ h e = absurd h

operand : (w : Known) (r : HashRow) (A : List Kind) (V : List Val) (c : Change) → hash_change r A ≡ Some c → AllFit w A V → HasOperand r V
operand w i.pack (a ∷ A) (x ∷ V) c e h =
    let p = where_holds (packable a) _ c e in (fitting w a x p h.0, packable_plain w a x p h.0)
operand w i.pack (a ∷ A) [] c e h = absurd h
operand w i.pack [] V c e h = absurd cc
operand w (i.unpack b) (t.bytes ∷ A) V c e h = operand_by (i.unpack b) V (bytes_on_top w A V h) (λ f. cc)
operand w (i.unpack b) _ V c e h = absurd cc
operand w i.blake2b (t.bytes ∷ A) V c e h = operand_by i.blake2b V (bytes_on_top w A V h) (λ f. cc)
operand w i.blake2b _ V c e h = absurd cc
operand w i.sha256 (t.bytes ∷ A) V c e h = operand_by i.sha256 V (bytes_on_top w A V h) (λ f. cc)
operand w i.sha256 _ V c e h = absurd cc
operand w i.sha512 (t.bytes ∷ A) V c e h = operand_by i.sha512 V (bytes_on_top w A V h) (λ f. cc)
operand w i.sha512 _ V c e h = absurd cc
operand w i.hash_key (t.key ∷ A) V c e h = operand_by i.hash_key V (key_on_top w A V h) (λ f. cc)
operand w i.hash_key _ V c e h = absurd cc

-- wherever such an instruction comes first
module _ (x : Beyond) (costs : Costs) (m : State) {fs : List Frame} {d : ℕ} {Z : List Kind} {o : Outcome} (r : HashRow) {app : Tree} (h : Meets (made.straight (on_hashes r) app) x costs m fs d Z o) where
  taken : Taken (on_hashes r) h.types h.next
  taken = row_taken h.fine h.holds.types

  pub has_operand : HasOperand r (tops x.sight m.stack)
  has_operand = operand (known x.contract_at (Rattle.mich_interpreter.specs.View.tally x m).issued) r h.types (tops x.sight m.stack) taken.effect taken.changes h.holds.fits

  pub some_operand : (big : Sight) × HasOperand r (tops big m.stack)
  some_operand = (x.sight, has_operand)
