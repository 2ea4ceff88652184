use Rattle.std.proofs.Common.{arith}
use Rattle.mich_literals.proofs.unpacking.unpacking.read_body.Goals as goal

pub read_node-requires-clause-small : goal.read_node-requires-clause-small
read_node-requires-clause-small c = omega (arith, c.in-Ok.ensures.nodes, c.requires.short)
