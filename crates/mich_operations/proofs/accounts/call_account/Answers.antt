use Rattle.std.proofs.Common.{◌≡◌, Some, rules}
use Rattle.rules_data.specs.forms.Spelling.{default_name}
use Rattle.rules_data.specs.declared.types.Simple.TheVariants as simple
use Rattle.rules_data.specs.values.Literals.{simple_value}
use Rattle.rules_data.specs.values.Val.{unit}
use Rattle.rules_world.specs.world.Arguments.{node}
use Rattle.mich_base.specs.View.{tree}
use Rattle.mich_world.proofs.ForCallers.{world_same}
use Rattle.mich_operations.proofs.Paying.{to_default}
use Rattle.mich_operations.proofs.accounts.call_account.Goals as goal

pub returns-then-not-is_default-clause-keeps : goal.returns-then-not-is_default-clause-keeps
returns-then-not-is_default-clause-keeps c = world_same _

pub returns-in_err-is_unit-clause-keeps : goal.returns-in_err-is_unit-clause-keeps
returns-in_err-is_unit-clause-keeps c = world_same _

pub returns-then-not-branch-clause-keeps : goal.returns-then-not-branch-clause-keeps
returns-then-not-branch-clause-keeps c = world_same _

pub returns-clause-ends : goal.returns-clause-ends
returns-clause-ends c = λ w gas counts b.
    let named : c.args.entry.now ≡ default_name = search rules in
    let taken : simple_value simple.Unit (tree c.args.argument.now) ≡ Some unit = rw c.if-not-branch.false at c.in_ok-is_unit.ensures in
    to_default w c.args.source.now c.args.to.now c.args.entry.now c.args.amount (tree c.args.argument.now) c.args.world.now.store.bases.present gas counts
    c.pay_account.new.world c.pay_account.result named taken (c.pay_account.ensures.ends w (node (tree c.args.argument.now)) gas counts b)
