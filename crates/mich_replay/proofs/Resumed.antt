-- Files that go on from a good course: none of their groups is stuck.
use Rattle.std.proofs.Common.{◌≡◌, ◌≢◌, ◌≤◌, ◌<◌, ◌+◌, ◌^◌, ℕ, List, [], ◌∷◌, length, Some, None, refl, subst, arith}
use Rattle.std.specs.declared.option.Option.{Option}
use Rattle.std.specs.List.{AllByRecursion}
use Rattle.rules_text.specs.nodes.Tree.{size}
use Rattle.rules_files.specs.commands.Places.{Placed, AreStatements}
use Rattle.rules_files.specs.commands.Replay.{Run, going, stopped, stuck_run, continued, taken, run_one, run_all}
use Rattle.rules_files.specs.course.Course.{Course, Step, goes_on, stops, stuck_step, step_behind}
use Rattle.rules_files.specs.course.Ranges.{IsStatement}
use Rattle.rules_files.specs.statements.Statements.{Statement, form}
use Rattle.rules_world.specs.world.Receipts.{Receipt}
use Rattle.laws_files.specs.Laws.{IsGoodCourse, StaysGood, granted_by}
use Rattle.laws_files.proofs.ForCallers.{courses_stay_good, statements_are_small, statements_have_ranges}

-- a run has come to a good course with at most so many groups, or was stopped
abbrev GoesWell : ℕ → Run → Type 0
GoesWell most (going receipts (Some c)) = IsGoodCourse c × (c.groups ≤ most)
GoesWell most (going receipts None) = ⊥
GoesWell most (stopped receipts f place) = Unit {0}
GoesWell most stuck_run = ⊥

continued_well : (groups granted more most place : ℕ) (receipts : List Receipt) (x : Step) → groups ≤ most → StaysGood groups granted more x →
    GoesWell (most + 1) (continued receipts place x)
continued_well groups granted more most place receipts (goes_on c rs) few h = (h.0, omega (arith, few, h.1, h.3))
continued_well groups granted more most place receipts (stops why) few h = tt
continued_well groups granted more most place receipts stuck_step few h = absurd h

taken_well : (c : Course) (most place : ℕ) (receipts : List Receipt) (o : Option Statement) → ((s : Statement) → o ≡ Some s → IsStatement s) → most + 1 < 2 ^ 64 →
    IsGoodCourse c → c.groups ≤ most → GoesWell (most + 1) (taken receipts (Some c) place o)
taken_well c most place receipts (Some s) ranges room good few =
    continued_well c.groups c.world.granted (granted_by s) most place receipts (step_behind c s) few (courses_stay_good c s good (omega (arith, few, room)) (ranges s refl))
taken_well c most place receipts None ranges room good few = tt

one_well : (s : Placed) (most : ℕ) (r : Run) → size s.node < 2 ^ 32 → most + 1 < 2 ^ 64 → GoesWell most r → GoesWell (most + 1) (run_one r s)
one_well s most (going receipts (Some c)) small room h = taken_well c most s.place receipts (form s.node) (λ x e. statements_have_ranges s.node x e small) room h.0 h.1
one_well s most (going receipts None) small room h = absurd h
one_well s most (stopped receipts f place) small room h = tt
one_well s most stuck_run small room h = absurd h

all_well : (ss : List Placed) (most : ℕ) (r : Run) → AllByRecursion (λ s. size s.node < 2 ^ 32) ss → most + length ss < 2 ^ 64 → GoesWell most r →
    GoesWell (most + length ss) (run_all r ss)
all_well [] most r small room h = subst (λ (n : ℕ). GoesWell n r) (nothing most) h where
  nothing : (n : ℕ) → n ≡ n + 0
  nothing n = omega arith
all_well (s ∷ ss) most r small room h =
    let here = one_well s most r small.0 (omega (arith, room)) h in
    let counts : most + 1 + length ss ≡ most + length (s ∷ ss) = omega arith in
    subst (λ (n : ℕ). GoesWell n (run_all (run_one r s) ss)) counts (all_well ss (most + 1) (run_one r s) small.1 (omega (arith, room)) here)

pub resumed_are_not_stuck : (c : Course) → IsGoodCourse c → c.groups < 2 ^ 63 → (file : List ℕ) (ss : List Placed) (to : ℕ) → AreStatements file 0 ss to →
    run_all (going [] (Some c)) ss ≢ stuck_run
resumed_are_not_stuck c good few file ss to stand stuck =
    let s = statements_are_small file ss to stand in
    let count = s.count in
    let within = s.within in
    subst (GoesWell (c.groups + length ss)) stuck (all_well ss c.groups (going [] (Some c)) s.nodes (omega (arith, count, within, few)) (good, omega arith))
