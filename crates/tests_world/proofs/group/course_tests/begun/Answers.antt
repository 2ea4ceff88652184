use Rattle.std.proofs.Common.{Ok}
use Rattle.rules_files.specs.course.Course.{Course as PlainCourse, Step, goes_on, stops, stuck_step, BadOrder, BadCosts, RepeatedAccount, SupplyLimit, first_step}
use Rattle.mich_scenario.specs.View.{said}
use Rattle.mich_group.specs.course.Following.{Follows, Begins}
use Rattle.mich_group.specs.declared.course.course.Course.{Course}
use Rattle.tests_world.proofs.group.course_tests.begun.Goals as goal

-- a course that was begun follows one of the rules
followed : (step : Step) (c : Course) → Begins step (Ok c) → (p : PlainCourse) × Follows c p
followed (goes_on p receipts) c h = (p, h.0)
followed (stops BadOrder) c h = absurd h
followed (stops BadCosts) c h = absurd h
followed (stops RepeatedAccount) c h = absurd h
followed (stops SupplyLimit) c h = absurd h
followed stuck_step c h = absurd h

pub returns-in-Ok : goal.returns-in-Ok
returns-in-Ok c = followed (first_step (said c.in_ok-first.first)) _ c.in-Ok.ensures
