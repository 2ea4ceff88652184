-- What holds of the values that stand on a stack holds of the stack.
use Rattle.std.proofs.Common.{◌≡◌, Bool, ℕ, ℤ, List, ◌∷◌, sym, ap, ◌∙◌, subst}
use Rattle.rules_data.specs.values.Val.{Val, Pairs, truth, number, text, set}
use Rattle.mich_term.specs.View.{datums}
use Rattle.mich_term.specs.ValueView.{value_step}
use Rattle.mich_term.specs.declared.elements.Elements.{Elements}
use Rattle.mich_term.specs.declared.value.Value.{fold-roll-Value}
use Rattle.mich_term.specs.declared.value.Value.TheOpen.{Value-F}
use Rattle.mich_term.specs.declared.value.Value.TheVariants as value
use Rattle.mich_term.specs.declared.value.Value.TheVariants.{rolls-Bool, rolls-Number, rolls-Text, rolls-Set}
use Rattle.mich_stack.specs.Views.{Sight, seen}

module _ (big : Sight) where
  pub bool_seen : (b : Bool) → seen big (value.Bool b) ≡ truth b
  bool_seen b = ap (seen big) (sym (rolls-Bool b)) ∙ fold-roll-Value Val Pairs value_step big (Value-F.Bool b)

  pub number_seen : (n : ℤ) → seen big (value.Number n) ≡ number n
  number_seen n = ap (seen big) (sym (rolls-Number n)) ∙ fold-roll-Value Val Pairs value_step big (Value-F.Number n)

  pub text_seen : (s : List ℕ) → seen big (value.Text s) ≡ text s
  text_seen s = ap (seen big) (sym (rolls-Text s)) ∙ fold-roll-Value Val Pairs value_step big (Value-F.Text s)

  pub set_seen : (s : Elements) → seen big (value.Set s) ≡ set (datums s)
  set_seen s = ap (seen big) (sym (rolls-Set s)) ∙ fold-roll-Value Val Pairs value_step big (Value-F.Set s)

module _ (P : List Val → Type 0) (S : List Val) where
  pub holds_of_two : (a b x y : Val) (V : List Val) → S ≡ a ∷ b ∷ V → a ≡ x → b ≡ y → P (x ∷ y ∷ V) → P S
  holds_of_two a b x y V e d f p = subst P (sym (e ∙ (λ i. d i ∷ f i ∷ V))) p

  pub holds_of_three : (a b c x y z : Val) (V : List Val) → S ≡ a ∷ b ∷ c ∷ V → a ≡ x → b ≡ y → c ≡ z → P (x ∷ y ∷ z ∷ V) → P S
  holds_of_three a b c x y z V e d f g p = subst P (sym (e ∙ (λ i. d i ∷ f i ∷ g i ∷ V))) p
