-- Amounts, addresses, delegates and literals where an instruction takes them, since values fit their types.
use Rattle.std.proofs.Common.{◌≡◌, ◌<◌, ◌+◌, ◌^◌, ℕ, true, is_some, List, [], ◌∷◌, drop, Option, Some, None, refl, ap, ◌∙◌, subst, arith}
use Rattle.std.specs.Prelude.{pos, negsuc}
use Rattle.std.proofs.lemmas.Bool.Decides.{nat_tests}
use Rattle.std.proofs.lemmas.Int.{ints}
use Rattle.rules_text.specs.nodes.Tree.{Tree, more, none, prim, size}
use Rattle.rules_data.specs.declared.types.Simple.{Simple}
use Rattle.rules_data.specs.declared.types.Simple.TheVariants as s
use Rattle.rules_data.specs.types.Kind.{Kind}
use Rattle.rules_data.specs.types.Kind as k
use Rattle.rules_code.specs.instructions.Change.{Change}
use Rattle.rules_code.specs.instructions.OtherChanges.{operation_change}
use Rattle.rules_code.specs.instructions.Straight.{on_operations}
use Rattle.rules_code.specs.instructions.Straight as i
use Rattle.rules_code.specs.instructions.Types as t
use Rattle.rules_data.specs.values.Forms.{has_simple_form}
use Rattle.rules_data.specs.values.Literals.{is_amount, on_value, read, simple_value}
use Rattle.rules_data.specs.values.Val.{Val}
use Rattle.rules_data.specs.values.Val as v
use Rattle.rules_code.specs.typing.Fits.{Known, Fits, AllFit}
use Rattle.rules_code.specs.evaluation.Given.{value_of}
use Rattle.rules_code.specs.evaluation.Operations.{Tally}
use Rattle.rules_code.specs.evaluation.Outcome.{Outcome}
use Rattle.laws_code.specs.evaluation.Laws.{known}
use Rattle.laws_code.proofs.typed.ForCallers.{Taken}
use Rattle.mich_instr.specs.Code.{Codes, ScriptCode}
use Rattle.mich_instr.specs.Code as made
use Rattle.mich_instr.specs.Typed.{is_create, is_push}
use Rattle.mich_frames.specs.Around.{Around}
use Rattle.mich_frames.specs.Frames.{Frame}
use Rattle.mich_frames.specs.Stands.{MeetsAt}
use Rattle.mich_frames.proofs.ForCallers.{push_holds, push_reads, FineCase, meets_fine, row_taken}
use Rattle.mich_interpreter.specs.Literals.{HoldsLiteral}
use Rattle.mich_interpreter.specs.Parts.{HasAddress, HasAmount, HasDelegate, IsSpelledKeyHash}
use Rattle.mich_interpreter.proofs.Located.{value_there}

-- ---- values of a type

amount_low : (n : ℕ) → is_amount (pos n) ≡ true → n < 2 ^ 64
amount_low n h = grind (arith, ints, nat_tests, h)

amount_by : (x : Val) (V : List Val) → has_simple_form s.Mutez x ≡ true → HasAmount (x ∷ V)
amount_by (v.number (pos n)) V h = amount_low n h
amount_by (v.number (negsuc n)) V h = absurd cc
amount_by _ V h = absurd cc

address_by : (x : Val) (V : List Val) → has_simple_form s.Address x ≡ true → HasAddress (x ∷ V)
address_by (v.bytes b) V h = h
address_by _ V h = absurd cc

contract_by : (w : Known) (a : Kind) (x : Val) (V : List Val) → Fits w (k.contract a) x → HasAddress (x ∷ V)
contract_by w a (v.bytes b) V h = h.0
contract_by w a _ V h = absurd h

key_hash_by : (x : Val) → has_simple_form s.KeyHash x ≡ true → IsSpelledKeyHash x
key_hash_by (v.bytes b) h = h
key_hash_by _ h = absurd cc

delegate_by : (w : Known) (x : Val) (V : List Val) → Fits w (k.option t.key_hash) x → HasDelegate (x ∷ V)
delegate_by w v.nothing V h = tt
delegate_by w (v.some x) V h = key_hash_by x h
delegate_by w _ V h = absurd h

-- ---- literals of a type without arguments

pub simple_there : (s : Simple) (a : Kind) (t : Tree) → a ≡ k.simple s → is_some (value_of (read a 0 t)) ≡ true → is_some (simple_value s t) ≡ true
simple_there s a t e h = by (simple_value s t) (subst (λ (b : Kind). is_some (value_of (read b 0 t)) ≡ true) e h)
  where
    by : (o : Option Val) → is_some (value_of (on_value 0 o)) ≡ true → is_some o ≡ true
    by (Some x) h = refl
    by None h = absurd cc

-- ---- stacks of types

transfer_operands : (w : Known) (A : List Kind) (V : List Val) (c : Change) → operation_change i.transfer_tokens A ≡ Some c → AllFit w A V → HasAmount (drop 1 V) × HasAddress (drop 2 V)
transfer_operands w (a ∷ t.mutez ∷ k.contract b ∷ A) (x ∷ y ∷ z ∷ V) c e h = (amount_by y (z ∷ V) h.1.0, contract_by w b z V h.1.1.0)
transfer_operands w (a ∷ t.mutez ∷ k.contract b ∷ A) (x ∷ y ∷ []) c e h = absurd h.1.1
transfer_operands w (a ∷ t.mutez ∷ k.contract b ∷ A) (x ∷ []) c e h = absurd h.1
transfer_operands w (a ∷ t.mutez ∷ k.contract b ∷ A) [] c e h = absurd h
transfer_operands w _ V c e h = absurd cc

contract_operand : (w : Known) (name : List ℕ) (a : Kind) (A : List Kind) (V : List Val) (c : Change) → operation_change (i.contract name a) A ≡ Some c → AllFit w A V → HasAddress V
contract_operand w name a (t.address ∷ A) (x ∷ V) c e h = address_by x V h.0
contract_operand w name a (t.address ∷ A) [] c e h = absurd h
contract_operand w name a _ V c e h = absurd cc

view_operand : (w : Known) (name : List ℕ) (a b : Kind) (A : List Kind) (V : List Val) (c : Change) → operation_change (i.view name a b) A ≡ Some c → AllFit w A V → HasAddress (drop 1 V)
view_operand w name a b (j ∷ t.address ∷ A) (x ∷ y ∷ V) c e h = address_by y V h.1.0
view_operand w name a b (j ∷ t.address ∷ A) (x ∷ []) c e h = absurd h.1
view_operand w name a b (j ∷ t.address ∷ A) [] c e h = absurd h
view_operand w name a b _ V c e h = absurd cc

origination_operands : (w : Known) (g : Kind) (A : List Kind) (V : List Val) → AllFit w (k.option t.key_hash ∷ t.mutez ∷ g ∷ A) V → HasDelegate V × HasAmount (drop 1 V)
origination_operands w g A (x ∷ y ∷ V) h = (delegate_by w x (y ∷ V) h.0, amount_by y V h.1.0)
origination_operands w g A (x ∷ []) h = absurd h.1
origination_operands w g A [] h = absurd h

-- ---- wherever the instruction comes first

module _ {fs : List Frame} {u : Around} {m : Tally} {d : ℕ} {Z : List Kind} {o : Outcome} {V : List Val} where
  pub transfer_takes : {app : Tree} → MeetsAt (made.straight (on_operations i.transfer_tokens) app) fs u V m d Z o → HasAmount (drop 1 V) × HasAddress (drop 2 V)
  transfer_takes h =
      let taken : Taken (on_operations i.transfer_tokens) h.types h.next = row_taken h.fine h.holds.types in
      transfer_operands (known u.contract_at m.issued) h.types V taken.effect taken.changes h.holds.fits

  pub contract_takes : {app : Tree} (name : List ℕ) (a : Kind) → MeetsAt (made.straight (on_operations (i.contract name a)) app) fs u V m d Z o → HasAddress V
  contract_takes name a h =
      let taken : Taken (on_operations (i.contract name a)) h.types h.next = row_taken h.fine h.holds.types in
      contract_operand (known u.contract_at m.issued) name a h.types V taken.effect taken.changes h.holds.fits

  pub view_takes : {app : Tree} (name : List ℕ) (a b : Kind) → MeetsAt (made.straight (on_operations (i.view name a b)) app) fs u V m d Z o → HasAddress (drop 1 V)
  view_takes name a b h =
      let taken : Taken (on_operations (i.view name a b)) h.types h.next = row_taken h.fine h.holds.types in
      view_operand (known u.contract_at m.issued) name a b h.types V taken.effect taken.changes h.holds.fits

  pub create_takes : (x : ScriptCode) → MeetsAt (made.create_contract x) fs u V m d Z o → HasDelegate V × HasAmount (drop 1 V)
  create_takes x h = meets_fine h (by x)
    where
      by : (x : ScriptCode) → FineCase (made.create_contract x) fs u V m d Z o (HasDelegate V × HasAmount (drop 1 V))
      by _ ps c _ _ _ (is_create {g = g} {A = A} form goes_is fine) rests depth same typed small holds = origination_operands (known u.contract_at m.issued) g A V holds.fits

  module _ (a : Kind) (w x : Tree) {is : Codes} (h : MeetsAt (made.push a w x is) fs u V m d Z o) where
    -- the literal of PUSH is within its node
    pub push_small : size x < 2 ^ 32
    push_small = meets_fine h (by a w x is)
      where
        within : (name : List ℕ) (annots : List (List ℕ)) (y x : Tree) → size (prim name annots (more y (more x none))) < 2 ^ 32 → size x < 2 ^ 32
        within name annots y x small = omega (arith, small)

        by : (a : Kind) (w x : Tree) (is : Codes) → FineCase (made.push a w x is) fs u V m d Z o (size x < 2 ^ 32)
        by _ _ x _ ps c _ _ _ (is_push {name = name} {annots = annots} {t = y} has_form found_is goes_is reads held) rests depth same typed small holds = within name annots y x small

    -- it is a literal of its type, wherever it stands
    pub push_literal : (at : ℕ) → is_some (value_of (read a at x)) ≡ true
    push_literal at = let r = push_reads a w x h in ap (λ (y : Option Val). is_some y) (value_there a at (1 + size w) x ∙ r.1)

    -- and these are the lambdas in it
    pub push_lambdas : HoldsLiteral (1 + size w) a x is
    push_lambdas = push_holds a w x h
