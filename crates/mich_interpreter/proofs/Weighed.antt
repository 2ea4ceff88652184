-- What an instruction is weighed by stands on a stack that fits its types.
use Rattle.std.proofs.Common.{◌≡◌, ℕ, ℤ, true, List, [], ◌∷◌, Some, arith}
use Rattle.std.specs.Prelude.{◌≤ℤ◌, pos}
use Rattle.std.proofs.lemmas.Int.{ints}
use Rattle.rules_text.specs.nodes.Tree.{Tree}
use Rattle.rules_data.specs.declared.types.Simple.TheVariants as s
use Rattle.rules_data.specs.types.Kind.{Kind}
use Rattle.rules_data.specs.types.Kind as k
use Rattle.rules_code.specs.instructions.Types as t
use Rattle.rules_code.specs.instructions.Change.{Change}
use Rattle.rules_code.specs.instructions.DataChanges.{collection_change}
use Rattle.rules_code.specs.instructions.Effect.{change}
use Rattle.rules_code.specs.instructions.OtherChanges.{text_change}
use Rattle.rules_code.specs.instructions.Straight.{Straight, CollectionRow, TextRow, on_collections, on_text}
use Rattle.rules_code.specs.instructions.Straight as i
use Rattle.rules_data.specs.values.Forms.{has_simple_form}
use Rattle.rules_data.specs.values.Literals.{is_nat}
use Rattle.rules_data.specs.values.Val.{Val, Vals, number, text, bytes, list, table}
use Rattle.rules_code.specs.typing.Fits.{Known, AllFit}
use Rattle.rules_code.specs.evaluation.Outcome.{Outcome}
use Rattle.laws_code.specs.evaluation.Laws.{known}
use Rattle.mich_frames.proofs.operands.ForCallers.{row_suits}
use Rattle.laws_code.proofs.typed.ForCallers.{Taken}
use Rattle.mich_frames.specs.Frames.{Frame}
use Rattle.mich_frames.proofs.ForCallers.{row_taken}
use Rattle.mich_gas.specs.declared.costs.Costs.{Costs}
use Rattle.mich_instr.specs.Code as made
use Rattle.mich_step.specs.prices.Operands.{HasKey, HasText, HasOperands}
use Rattle.mich_stack.specs.Keys.{IsKeyOnTop}
use Rattle.mich_stack.specs.Views.{Sight}
use Rattle.mich_step.specs.Rule.{Suits}
use Rattle.mich_interpreter.specs.View.{Beyond, tops, tally}
use Rattle.mich_interpreter.specs.Ends.{Meets}
use Rattle.mich_state.specs.declared.state.State.{State}

-- ---- what stands on top, by its type

nat_low : (n : ℤ) → is_nat n ≡ true → pos 0 ≤ℤ n
nat_low n h = grind (arith, ints)

module _ (w : Known) (P : List Val → Type 0) (A : List Kind) where
  on_text_top : (V : List Val) → AllFit w (t.string ∷ A) V → ((b : List ℕ) (W : List Val) → AllFit w A W → P (text b ∷ W)) → P V
  on_text_top [] h f = absurd h
  on_text_top (x ∷ V) h f = by x h.0
    where
      by : (x : Val) → has_simple_form s.String x ≡ true → P (x ∷ V)
      by (text b) g = f b V h.1
      by x g = absurd cc

  on_bytes_top : (V : List Val) → AllFit w (t.bytes ∷ A) V → ((b : List ℕ) (W : List Val) → AllFit w A W → P (bytes b ∷ W)) → P V
  on_bytes_top [] h f = absurd h
  on_bytes_top (x ∷ V) h f = by x h.0
    where
      by : (x : Val) → has_simple_form s.Bytes x ≡ true → P (x ∷ V)
      by (bytes b) g = f b V h.1
      by x g = absurd cc

  on_nat_top : (V : List Val) → AllFit w (t.nat ∷ A) V → ((n : ℤ) (W : List Val) → pos 0 ≤ℤ n → AllFit w A W → P (number n ∷ W)) → P V
  on_nat_top [] h f = absurd h
  on_nat_top (x ∷ V) h f = by x h.0
    where
      by : (x : Val) → has_simple_form s.Nat x ≡ true → P (x ∷ V)
      by (number n) g = f n V (nat_low n g) h.1
      by x g = absurd cc

  on_list_top : (a : Kind) (V : List Val) → AllFit w (k.list a ∷ A) V → ((xs : Vals) (W : List Val) → P (list xs ∷ W)) → P V
  on_list_top a [] h f = absurd h
  on_list_top a (list xs ∷ V) h f = f xs V
  on_list_top a (x ∷ V) h f = absurd h.0

-- ---- what an instruction finds

module _ (w : Known) where
  has_key : (A : List Kind) (V : List Val) (c : Change) → collection_change i.get_map A ≡ Some c → IsKeyOnTop V → AllFit w A V → HasKey i.get_map V
  has_key (j ∷ k.map a b ∷ A) (x ∷ table ps ∷ V) c e key h = key
  has_key (j ∷ k.map a b ∷ A) (x ∷ y ∷ V) c e key h = absurd h.1.0
  has_key (j ∷ k.map a b ∷ A) (x ∷ []) c e key h = absurd h.1
  has_key (j ∷ k.map a b ∷ A) [] c e key h = absurd h
  has_key _ V c e key h = absurd cc

  has_keys : (r : CollectionRow) (A : List Kind) (V : List Val) (c : Change) → collection_change r A ≡ Some c → Suits (on_collections r) V → AllFit w A V → HasKey r V
  has_keys i.get_map A V c e key h = has_key A V c e key h
  has_keys _ A V c e key h = tt

  has_text : (r : TextRow) (A : List Kind) (V : List Val) (c : Change) → text_change r A ≡ Some c → AllFit w A V → HasText r V
  has_text i.concat_strings (t.string ∷ t.string ∷ A) V c e h =
      on_text_top w (HasText i.concat_strings) (t.string ∷ A) V h (λ s W g.
      on_text_top w (λ X. HasText i.concat_strings (text s ∷ X)) A W g (λ u X l. tt))
  has_text i.concat_strings _ V c e h = absurd cc
  has_text i.concat_bytes (t.bytes ∷ t.bytes ∷ A) V c e h =
      on_bytes_top w (HasText i.concat_bytes) (t.bytes ∷ A) V h (λ s W g.
      on_bytes_top w (λ X. HasText i.concat_bytes (bytes s ∷ X)) A W g (λ u X l. tt))
  has_text i.concat_bytes _ V c e h = absurd cc
  has_text i.concat_string_list (k.list t.string ∷ A) V c e h = on_list_top w (HasText i.concat_string_list) A t.string V h (λ xs W. tt)
  has_text i.concat_string_list _ V c e h = absurd cc
  has_text i.concat_bytes_list (k.list t.bytes ∷ A) V c e h = on_list_top w (HasText i.concat_bytes_list) A t.bytes V h (λ xs W. tt)
  has_text i.concat_bytes_list _ V c e h = absurd cc
  has_text i.slice_string (t.nat ∷ t.nat ∷ t.string ∷ A) V c e h =
      on_nat_top w (HasText i.slice_string) (t.nat ∷ t.string ∷ A) V h (λ m W p g.
      on_nat_top w (λ X. HasText i.slice_string (number m ∷ X)) (t.string ∷ A) W g (λ n X q l.
      on_text_top w (λ Y. HasText i.slice_string (number m ∷ number n ∷ Y)) A X l (λ s Y o. (p, q))))
  has_text i.slice_string _ V c e h = absurd cc
  has_text i.slice_bytes (t.nat ∷ t.nat ∷ t.bytes ∷ A) V c e h =
      on_nat_top w (HasText i.slice_bytes) (t.nat ∷ t.bytes ∷ A) V h (λ m W p g.
      on_nat_top w (λ X. HasText i.slice_bytes (number m ∷ X)) (t.bytes ∷ A) W g (λ n X q l.
      on_bytes_top w (λ Y. HasText i.slice_bytes (number m ∷ number n ∷ Y)) A X l (λ s Y o. (p, q))))
  has_text i.slice_bytes _ V c e h = absurd cc
  has_text i.size_string A V c e h = tt
  has_text i.size_bytes A V c e h = tt

  has_operands : (r : Straight) (A : List Kind) (V : List Val) (c : Change) → change r A ≡ Some c → Suits r V → AllFit w A V → HasOperands r V
  has_operands (on_collections r) A V c e suits h = has_keys r A V c e suits h
  has_operands (on_text r) A V c e suits h = has_text r A V c e h
  has_operands _ A V c e suits h = tt

-- wherever such an instruction comes first
module _ (x : Beyond) (costs : Costs) (m : State) {fs : List Frame} {d : ℕ} {Z : List Kind} {o : Outcome} (r : Straight) {app : Tree} (h : Meets (made.straight r app) x costs m fs d Z o) where
  taken : Taken r h.types h.next
  taken = row_taken h.fine h.holds.types

  pub some_operands : (big : Sight) × HasOperands r (tops big m.stack)
  some_operands = (x.sight, has_operands (known x.contract_at (tally x m).issued) r h.types (tops x.sight m.stack) taken.effect taken.changes (row_suits h) h.holds.fits)
