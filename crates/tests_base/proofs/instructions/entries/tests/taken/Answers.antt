use Rattle.std.proofs.Common.{◌≡◌, ℤ, List, [], ◌∷◌, refl, sym, ap, ◌∙◌, subst}
use Rattle.rules_code.specs.instructions.Straight as i
use Rattle.rules_data.specs.values.Val.{Val, Pairs, number, nothing, big_table, is_comparable}
use Rattle.mich_stack.specs.Keys.{IsKeyOnTop}
use Rattle.mich_stack.specs.Views.{Sight, seen, values}
use Rattle.mich_stack.proofs.ForCallers.{number_seen}
use Rattle.mich_term.specs.ValueView.{value_step, big_step}
use Rattle.mich_term.specs.declared.value.Value.{Value, fold-roll-Value}
use Rattle.mich_term.specs.declared.value.Value.TheOpen.{Value-F}
use Rattle.mich_term.specs.declared.value.Value.TheVariants as v
use Rattle.mich_term.specs.declared.value.Value.TheVariants.{rolls-None}
use Rattle.mich_store_steps.specs.seen.Sights.{sight}
use Rattle.mich_store_steps.specs.big_maps.Operands.{IsBigMapThird}
use Rattle.tests_base.proofs.instructions.entries.tests.taken.Goals as goal

none_seen : (big : Sight) → seen big v.None ≡ nothing
none_seen big = ap (seen big) (sym rolls-None) ∙ fold-roll-Value Val Pairs value_step big Value-F.None

-- a number on no value on a big map
three : (big : Sight) (n : ℤ) (s t u : List Value) (ps : Pairs) → values big s ≡ big_table ps ∷ [] → values big t ≡ seen big v.None ∷ values big s
    → values big u ≡ seen big (v.Number n) ∷ values big t → values big u ≡ number n ∷ nothing ∷ big_table ps ∷ []
three big n s t u ps e f g = g ∙ (λ i. number_seen big n i ∷ f i) ∙ (λ i. number n ∷ none_seen big i ∷ e i)

pub big_map_step-requires-clause-key : goal.big_map_step-requires-clause-key
big_map_step-requires-clause-key c = subst IsKeyOnTop (sym (c.in_ok-push-2.ensures big_step)) (ap is_comparable (number_seen big_step _))

pub big_map_step-requires-clause-big_map : goal.big_map_step-requires-clause-big_map
big_map_step-requires-clause-big_map c =
    subst IsBigMapThird (sym (three (sight c.new_store-store.result.bases.present) _ c.in_ok-stack.stack c.push.new.stack c.push-2.new.stack _ c.in_ok-stack.ensures (c.in_ok-push.ensures _) (c.in_ok-push-2.ensures _))) (tt, ((tt, tt), refl))
