use Rattle.std.proofs.Common.{◌≡◌, ℤ, List, [], ◌∷◌, refl, sym, ap, ◌∙◌, subst}
use Rattle.std.specs.Prelude.{pos}
use Rattle.rules_code.specs.instructions.Straight as i
use Rattle.rules_data.specs.values.Val.{Val, Pairs, number, some, big_table, no_pair, is_comparable}
use Rattle.rules_code.specs.steps.Changes.{Change}
use Rattle.rules_code.specs.steps.Collections.{collection_step}
use Rattle.rules_code.specs.steps.Step.{done}
use Rattle.mich_stack.specs.Keys.{IsKeyOnTop}
use Rattle.mich_stack.specs.Views.{Sight, seen, values}
use Rattle.mich_stack.proofs.ForCallers.{number_seen}
use Rattle.mich_term.specs.ValueView.{value_step, big_step}
use Rattle.mich_term.specs.declared.value.Value.{Value, fold-roll-Value}
use Rattle.mich_term.specs.declared.value.Value.TheOpen.{Value-F}
use Rattle.mich_term.specs.declared.value.Value.TheVariants as v
use Rattle.mich_term.specs.declared.value.Value.TheVariants.{rolls-Some}
use Rattle.mich_store_steps.specs.seen.Sights.{sight}
use Rattle.mich_store_steps.specs.big_maps.Operands.{IsBigMapThird}
use Rattle.tests_base.proofs.instructions.entries.tests.one_entry.Goals as goal

some_seen : (big : Sight) (x : Value) → seen big (v.Some x) ≡ some (seen big x)
some_seen big x = ap (seen big) (sym (rolls-Some x)) ∙ fold-roll-Value Val Pairs value_step big (Value-F.Some x)

-- a number on an option of a number on a big map
three : (big : Sight) (n m : ℤ) (x : Value) (s t u : List Value) (ps : Pairs) → x ≡ v.Number m → values big s ≡ big_table ps ∷ []
    → values big t ≡ seen big (v.Some x) ∷ values big s → values big u ≡ seen big (v.Number n) ∷ values big t → values big u ≡ number n ∷ some (number m) ∷ big_table ps ∷ []
three big n m x s t u ps h e f g =
    g ∙ (λ i. number_seen big n i ∷ f i) ∙ (λ i. number n ∷ (some_seen big x ∙ ap some (ap (seen big) h ∙ number_seen big m)) i ∷ e i)

done_same : (V W : List Val) (x y : List Change) → done V x ≡ done W y → V ≡ W
done_same V W x y e = cc

pub big_map_step-requires-clause-key : goal.big_map_step-requires-clause-key
big_map_step-requires-clause-key c = subst IsKeyOnTop (sym (c.in_ok-push-2.ensures big_step)) (ap is_comparable (number_seen big_step _))

pub big_map_step-requires-clause-big_map : goal.big_map_step-requires-clause-big_map
big_map_step-requires-clause-big_map c =
    subst IsBigMapThird (sym (three (sight c.args.store.now.bases.present) (pos 7) (pos 5) c.in_ok-new.field-0 c.in_ok-stack.stack c.push.new.stack c.push-2.new.stack no_pair c.in_ok-new.ensures c.in_ok-stack.ensures (c.in_ok-push.ensures _) (c.in_ok-push-2.ensures _))) (refl, (tt, refl))

pub returns : goal.returns
returns c =
    sym (done_same _ _ _ _
    (ap (collection_step i.update_big_map) (sym (three (sight c.args.store.now.bases.present) (pos 7) (pos 5) c.in_ok-new.field-0 c.in_ok-stack.stack c.push.new.stack c.push-2.new.stack no_pair c.in_ok-new.ensures c.in_ok-stack.ensures (c.in_ok-push.ensures _) (c.in_ok-push-2.ensures _)))
    ∙ c.in_ok-big_map_step.ensures))
