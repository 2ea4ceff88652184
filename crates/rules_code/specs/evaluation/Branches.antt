-- Branches, and what works under the top of the stack (Michelson reference, "Control structures", "Operations on booleans",
-- "Operations on optional values", "Operations on unions" and "Operations on lists").
use Rattle.std.specs.Prelude.{ℕ, Bool, true, false, ◌∷◌, ◌++◌}
use Rattle.rules_data.specs.declared.gas.Kind.{Kind as Priced}
use Rattle.rules_data.specs.declared.gas.Kind.TheVariants as g
use Rattle.rules_data.specs.types.Kind as k
use Rattle.rules_data.specs.values.Val as v
use Rattle.rules_code.specs.evaluation.Surroundings.{Surroundings}
use Rattle.rules_code.specs.evaluation.Operations.{Tally}
use Rattle.rules_code.specs.evaluation.Outcome.{Outcome, stack, Run, after, charge}
use Rattle.rules_code.specs.evaluation.Shapes.{on_truth, on_option, on_union, on_list, under}

-- an instruction without weight is charged, and what follows
abbrev pub paid : Surroundings → Priced → Tally → (Tally → Outcome) → Outcome
paid e kind m go = charge e.prices kind 0 m go

abbrev pub chosen : Bool → Run → Run → Run
chosen true r s = r
chosen false r s = s

abbrev pub if_run : Run → Run → Run
if_run r s e d A V m = on_truth A V (λ A b V. paid e g.If m (λ m. chosen b r s e d A V m))

abbrev pub if_none_run : Run → Run → Run
if_none_run r s e d A V m =
    on_option A V (λ A V. paid e g.IfNone m (λ m. r e d A V m)) (λ a A x V. paid e g.IfNone m (λ m. s e d (a ∷ A) (x ∷ V) m))

abbrev pub if_left_run : Run → Run → Run
if_left_run r s e d A V m =
    on_union A V
    (λ a b A x V. paid e g.IfLeft m (λ m. r e d (a ∷ A) (x ∷ V) m))
    (λ a b A x V. paid e g.IfLeft m (λ m. s e d (b ∷ A) (x ∷ V) m))

abbrev pub if_cons_run : Run → Run → Run
if_cons_run r s e d A V m =
    on_list A V
    (λ a A x xs V. paid e g.IfCons m (λ m. r e d (a ∷ k.list a ∷ A) (x ∷ v.list xs ∷ V) m))
    (λ A V. paid e g.IfCons m (λ m. s e d A V m))

-- what is above stays as it is
abbrev pub dip_run : ℕ → Run → Run
dip_run n r e d A V m =
    under n A V (λ above B taken W. paid e g.Dip m (λ m. after (r e d B W m) (λ B W m. stack (above ++ B) (taken ++ W) m)))
