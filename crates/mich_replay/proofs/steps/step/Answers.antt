use Rattle.std.proofs.Common.{Ok, subst}
use Rattle.std.specs.declared.option.Option.{Option}
use Rattle.rules_files.specs.commands.Replay.{step}
use Rattle.mich_ops.specs.declared.receipt.GroupReceipt.{GroupReceipt}
use Rattle.mich_scenario.specs.View.{said}
use Rattle.mich_replay.specs.Steps.{Leads}
use Rattle.mich_replay.proofs.Taking.{took_group}
use Rattle.mich_replay.proofs.steps.step.Goals as goal

pub returns-in-Ok-Some : goal.returns-in-Ok-Some
returns-in-Ok-Some c = λ groups receipts p h.
    let s = said c.args.statement.now in
    took_group groups receipts p c.args.course.now s h c.requires.room c.requires.ranges c.go_on.new.course c.args.place c.in-Ok-Some.receipt
    (subst (λ (o : Option GroupReceipt). Leads (step p s) c.go_on.new.course (Ok o)) c.in-Ok-Some.field-0-is (c.in-Ok-Some.ensures p h.follows))
