-- Loops (Michelson reference, "Control structures", "Operations on unions", and those of ITER and MAP).
use Rattle.std.specs.Prelude.{Bool, true, false, List, [], ◌∷◌, ◌++◌, Option}
use Rattle.rules_data.specs.declared.gas.Kind.TheVariants as g
use Rattle.rules_data.specs.types.Kind.{Kind}
use Rattle.rules_data.specs.types.Kind as k
use Rattle.rules_code.specs.instructions.Types as t
use Rattle.rules_code.specs.instructions.Same.{same_kinds}
use Rattle.rules_data.specs.values.Val.{Val}
use Rattle.rules_code.specs.evaluation.Outcome.{Outcome, stack, Go, Run, after, unless_stuck, only_if}
use Rattle.rules_code.specs.evaluation.Shapes.{on_top, on_truth, on_union}
use Rattle.rules_code.specs.evaluation.Items.{items, mapped_items, with_items, rebuilt}
use Rattle.rules_code.specs.evaluation.Branches.{paid}

-- a body that must end with these types, and what follows it
abbrev pub ending : Outcome → List Kind → Go → Outcome
ending o B go = after o (λ C W m. only_if (same_kinds C B) (go C W m))

-- ---- LOOP and LOOP_LEFT; `again` does the further turns

abbrev pub turn_where : Bool → Run → Run → Run
turn_where true again r e d A V m = paid e g.Turn m (λ m. ending (r e d A V m) (t.bool ∷ A) (again e d))
turn_where false again r e d A V m = stack A V m

-- the body runs while the top is true
abbrev pub turns_run : Run → Run → Run
turns_run again r e d A V m = on_truth A V (λ A b V. turn_where b again r e d A V m)

-- the body runs while the top is a left value
abbrev pub left_turns_run : Run → Run → Run
left_turns_run again r e d A V m =
    on_union A V
    (λ a b A x V. paid e g.Turn m (λ m. ending (r e d (a ∷ A) (x ∷ V) m) (k.or a b ∷ A) (again e d)))
    (λ a b A x V. stack (b ∷ A) (x ∷ V) m)

-- the loop itself is charged before its first turn
abbrev pub loop_run : Run → Run
loop_run again e d A V m = on_truth A V (λ _ _ _. paid e g.Loop m (λ m. again e d A V m))

abbrev pub loop_left_run : Run → Run
loop_left_run again e d A V m =
    on_union A V
    (λ _ _ _ _ _. paid e g.LoopLeft m (λ m. again e d A V m))
    (λ _ _ _ _ _. paid e g.LoopLeft m (λ m. again e d A V m))

-- ---- ITER

-- the body runs on each item of a type, in order
abbrev pub each_run : Run → Kind → List Val → Run
each_run r a [] e d A V m = stack A V m
each_run r a (x ∷ xs) e d A V m =
    paid e g.Turn m (λ m. ending (r e d (a ∷ A) (x ∷ V) m) A (λ B W m. each_run r a xs e d B W m))

abbrev pub iter_run : Run → Run
iter_run r e d A V m =
    on_top A V (λ c A x V. unless_stuck (items c x) (λ i. paid e g.Iter m (λ m. each_run r i.kind i.values e d A V m)))

-- ---- MAP

-- The body makes of each item of one type a result of another, which stand in order behind those that there are; then a
-- collection holds the results in place of its items.
abbrev pub map_each_run : Run → Kind → Kind → (List Val → Val) → Kind → List Val → List Val → Run
map_each_run r a b made c ys [] e d A V m = stack (c ∷ A) (made ys ∷ V) m
map_each_run r a b made c ys (x ∷ xs) e d A V m =
    paid e g.Turn m (λ m. ending (r e d (a ∷ A) (x ∷ V) m) (b ∷ A) (λ B W m.
    on_top B W (λ _ B y W. map_each_run r a b made c (ys ++ y ∷ []) xs e d B W m)))

-- `result` tells the type of the results, by the type of the items and the types under the collection
abbrev pub map_run : (Kind → List Kind → Option Kind) → Run → Run
map_run result r e d A V m =
    on_top A V (λ c A x V. unless_stuck (mapped_items c x) (λ i. unless_stuck (result i.kind A) (λ b. paid e g.Map m (λ m.
    map_each_run r i.kind b (rebuilt x) (with_items c b) [] i.values e d A V m))))
