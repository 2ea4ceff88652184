use Rattle.std.proofs.Common.{sym, ap, ◌∙◌, subst}
use Rattle.std.specs.declared.option.Option.{Option}
use Rattle.rules_files.specs.commands.Replay.{taken}
use Rattle.rules_files.specs.statements.Statements.{Statement}
use Rattle.laws_files.proofs.ForCallers.{statements_have_ranges}
use Rattle.mich_base.specs.View.{tree}
use Rattle.mich_scenario.specs.View.{said}
use Rattle.mich_replay.specs.Steps.{IsTaken}
use Rattle.mich_replay.specs.Marks.{marked}
use Rattle.mich_replay.proofs.Marked.{marks_kept}
use Rattle.mich_replay.proofs.steps.take.Goals as goal

pub step-requires-clause-ranges : goal.step-requires-clause-ranges
step-requires-clause-ranges c = statements_have_ranges (tree c.args.node) (said c.in-Ok.statement) c.in-Ok.ensures c.requires.small

pub returns-in-Ok-clause-takes : goal.returns-in-Ok-clause-takes
returns-in-Ok-clause-takes c = λ groups receipts p h.
    subst (λ (o : Option Statement). IsTaken groups receipts c.args.place (taken receipts p c.args.place o) c.step.new.course c.step.result) (sym c.in-Ok.ensures)
    (c.step.ensures groups receipts p h)

pub returns-in-Ok-clause-marks : goal.returns-in-Ok-clause-marks
returns-in-Ok-clause-marks c = marks_kept c.step.result (c.add.ensures ∙ ap (marked c.args.progress.now.marks) (sym c.in-Ok.ensures))
