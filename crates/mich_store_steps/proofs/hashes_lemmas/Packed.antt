-- PACK on a stack whose top holds no big map, and so is seen alike by all.
use Rattle.std.proofs.Common.{◌≡◌, ℕ, ◌<◌, ◌≤◌, true, false, List, ◌∷◌, length, drop, sym, ap, ◌∙◌, subst, arith}
use Rattle.std.specs.Prelude.{nat_le, if◌then◌else◌}
use Rattle.std.proofs.lemmas.Bool.Decides.{nat_tests}
use Rattle.rules_text.specs.nodes.Limits.{byte_limit}
use Rattle.laws_typing.specs.packing.Names.{IsPackable}
use Rattle.mich_store_steps.specs.seen.Sights.{is_plain}
use Rattle.mich_store_steps.proofs.seen.ForCallers.{plain_tells, plain_seen}
use Rattle.rules_code.specs.instructions.Straight as i
use Rattle.rules_code.specs.steps.Costs.{hash_weight}
use Rattle.rules_code.specs.steps.Failure as why
use Rattle.rules_code.specs.steps.Packing.{Trial, packed, hash_step}
use Rattle.rules_code.specs.steps.Step.{kept, fails}
use Rattle.rules_data.specs.values.Val.{Val, Pairs, text, bytes}
use Rattle.mich_term.specs.ValueView.{val, value_step}
use Rattle.mich_term.specs.declared.value.Value.{Value, fold-roll-Value}
use Rattle.mich_term.specs.declared.value.Value.TheOpen.{Value-F}
use Rattle.mich_term.specs.declared.value.Value.TheVariants as value
use Rattle.mich_term.specs.declared.value.Value.TheVariants.{rolls-Bytes, rolls-Text}
use Rattle.mich_stack.specs.Views.{Sight, seen}
use Rattle.mich_store_steps.specs.hashes.Operands.{HasOperand}

pub all_alike : (big other : Sight) (x : Value) → is_plain (seen big x) ≡ true → seen other x ≡ val x
all_alike big other x h = plain_seen other x (plain_tells big x h)

pub packable_alike : (big : Sight) (x : Value) → is_plain (seen big x) ≡ true → IsPackable (seen big x) → IsPackable (val x)
packable_alike big x h p = subst IsPackable (all_alike big big x h) p

pub operand_here : (V : List Val) (v : Val) (W : List Val) → V ≡ v ∷ W → HasOperand i.pack V → IsPackable v × (is_plain v ≡ true)
operand_here V v W e h = subst (HasOperand i.pack) e h

within_is : (b : List ℕ) → length b ≤ byte_limit → nat_le (length b) byte_limit ≡ true
within_is b h = grind (arith, nat_tests)

over_is : (b : List ℕ) → byte_limit < length b → nat_le (length b) byte_limit ≡ false
over_is b h = grind (arith, nat_tests)

module _ (passes : Trial) (V : List Val) (v w : Val) (W : List Val) (e : V ≡ v ∷ W) (f : v ≡ w) where
  opens : hash_step passes i.pack V ≡ (if nat_le (length (packed w)) byte_limit then kept (bytes (packed w) ∷ W) else fails why.size_limit)
  opens = ap (hash_step passes i.pack) (e ∙ (λ j. f j ∷ W))

  pub pack_is : (b : List ℕ) (new : List Val) → b ≡ packed w → length (packed w) ≤ byte_limit → new ≡ bytes b ∷ drop 1 V → hash_step passes i.pack V ≡ kept new
  pack_is b new g l n =
      opens ∙ ap (λ c. if c then kept (bytes (packed w) ∷ W) else fails why.size_limit) (within_is (packed w) l)
      ∙ ap (λ c. kept (bytes c ∷ W)) (sym g) ∙ ap (λ X. kept (bytes b ∷ X)) (sym (ap (drop 1) e)) ∙ ap kept (sym n)

  pub pack_over : byte_limit < length (packed w) → hash_step passes i.pack V ≡ fails why.size_limit
  pack_over l = opens ∙ ap (λ c. if c then kept (bytes (packed w) ∷ W) else fails why.size_limit) (over_is (packed w) l)

pub pack_weighs : (V : List Val) (v w : Val) (W : List Val) → V ≡ v ∷ W → v ≡ w → hash_weight i.pack V ≡ length (packed w)
pack_weighs V v w W e f = ap (hash_weight i.pack) (e ∙ (λ j. f j ∷ W))

pub bytes_seen : (big : Sight) (b : List ℕ) → seen big (value.Bytes b) ≡ bytes b
bytes_seen big b = ap (seen big) (sym (rolls-Bytes b)) ∙ fold-roll-Value Val Pairs value_step big (Value-F.Bytes b)

pub text_seen : (big : Sight) (b : List ℕ) → seen big (value.Text b) ≡ text b
text_seen big b = ap (seen big) (sym (rolls-Text b)) ∙ fold-roll-Value Val Pairs value_step big (Value-F.Text b)

-- what is so of a stack with this value on top
pub with_top : (P : List Val → Type 0) (V : List Val) (v w : Val) (W : List Val) → V ≡ v ∷ W → v ≡ w → P (w ∷ W) → P V
with_top P V v w W e f h = subst P (sym (e ∙ (λ j. f j ∷ W))) h
