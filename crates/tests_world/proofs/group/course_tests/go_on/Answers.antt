use Rattle.std.proofs.Common.{Ok}
use Rattle.std.specs.declared.option.Option.{Option}
use Rattle.rules_files.specs.course.Course.{Course as PlainCourse, Step, goes_on, stops, stuck_step, BadOrder, BadCosts, RepeatedAccount, SupplyLimit, step_behind}
use Rattle.mich_ops.specs.declared.receipt.GroupReceipt.{GroupReceipt}
use Rattle.mich_scenario.specs.View.{said}
use Rattle.mich_group.specs.course.Following.{Follows, Goes}
use Rattle.mich_group.specs.declared.course.course.Course.{Course}
use Rattle.tests_world.proofs.group.course_tests.go_on.Goals as goal

-- a course that went on follows one of the rules
followed : (step : Step) (c : Course) (r : Option GroupReceipt) → Goes step c (Ok r) → (p : PlainCourse) × Follows c p
followed (goes_on p receipts) c r h = (p, h.0)
followed (stops BadOrder) c r h = absurd h
followed (stops BadCosts) c r h = absurd h
followed (stops RepeatedAccount) c r h = absurd h
followed (stops SupplyLimit) c r h = absurd h
followed stuck_step c r h = absurd h

pub returns-in-Ok : goal.returns-in-Ok
returns-in-Ok c =
    let f = c.requires.1 in
    followed (step_behind c.requires.0 (said c.in_ok-next.next)) _ _ (c.in-Ok.ensures.goes c.requires.0 f)
