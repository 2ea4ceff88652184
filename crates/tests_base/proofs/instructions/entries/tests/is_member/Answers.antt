use Rattle.std.proofs.Common.{◌≡◌, ℤ, List, [], ◌∷◌, refl, sym, ap, ◌∙◌, subst}
use Rattle.rules_code.specs.instructions.Straight as i
use Rattle.rules_data.specs.values.Val.{Pairs, number, big_table, is_comparable}
use Rattle.mich_stack.specs.Keys.{IsKeyOnTop}
use Rattle.mich_stack.specs.Views.{Sight, seen, values}
use Rattle.mich_stack.proofs.ForCallers.{number_seen}
use Rattle.mich_term.specs.ValueView.{big_step}
use Rattle.mich_term.specs.declared.value.Value.{Value}
use Rattle.mich_term.specs.declared.value.Value.TheVariants as v
use Rattle.mich_store_steps.specs.seen.Sights.{sight}
use Rattle.mich_store_steps.specs.big_maps.Operands.{IsBigMapSecond}
use Rattle.tests_base.proofs.instructions.entries.tests.is_member.Goals as goal

-- a number on a big map
two : (big : Sight) (n : ℤ) (s t : List Value) (ps : Pairs) → values big s ≡ big_table ps ∷ [] → values big t ≡ seen big (v.Number n) ∷ values big s
    → values big t ≡ number n ∷ big_table ps ∷ []
two big n s t ps e f = f ∙ (λ i. number_seen big n i ∷ e i)

pub big_map_step-requires-clause-key : goal.big_map_step-requires-clause-key
big_map_step-requires-clause-key c = subst IsKeyOnTop (sym (c.in_ok-push.ensures big_step)) (ap is_comparable (number_seen big_step _))

pub big_map_step-requires-clause-big_map : goal.big_map_step-requires-clause-big_map
big_map_step-requires-clause-big_map c =
    subst IsBigMapSecond (sym (two (sight c.new_store-store.result.bases.present) _ c.in_ok-stack.stack c.push.new.stack _ c.in_ok-stack.ensures (c.in_ok-push.ensures _))) ((tt, tt), refl)
