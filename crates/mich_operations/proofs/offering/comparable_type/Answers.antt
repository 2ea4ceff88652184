use Rattle.std.proofs.Common.{◌≡◌, nat_le, false, rules, sym}
use Rattle.rules_text.specs.nodes.Tree.{size}
use Rattle.mich_base.specs.View.{tree}
use Rattle.mich_operations.proofs.Offers.{none_larger}
use Rattle.mich_operations.proofs.offering.comparable_type.Goals as goal

pub returns-then-not-size_within : goal.returns-then-not-size_within
returns-then-not-size_within c =
    let over : nat_le (size (tree c.args.node.now)) 2000 ≡ false = search rules in
    sym (none_larger (tree c.args.node.now) over)
