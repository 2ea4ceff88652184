use Rattle.std.proofs.Common.{rules, ◌<◌, ◌^◌}
use Rattle.rules_text.specs.nodes.Tree.{size}
use Rattle.laws_files.proofs.ForCallers.{statements_have_ranges}
use Rattle.mich_base.specs.View.{tree}
use Rattle.mich_scenario.specs.View.{said}
use Rattle.tests_world.proofs.group.statements.statement.Goals as goal

pub returns-in-Ok : goal.returns-in-Ok
returns-in-Ok c =
    let small : size (tree c.in_ok-placed.placed.node) < 2 ^ 32 = search rules in
    statements_have_ranges (tree c.in_ok-placed.placed.node) (said c.in-Ok.statement) c.in-Ok.ensures small
