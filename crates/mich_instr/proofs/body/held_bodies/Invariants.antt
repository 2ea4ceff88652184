use Rattle.std.proofs.Common.{◌≡◌, ◌++◌, drop, map}
use Rattle.mich_base.specs.View.{tree}
use Rattle.mich_instr.specs.Body.{AllHeld, bodies_in}
use Rattle.mich_instr.specs.View.{codes}
use Rattle.mich_instr.proofs.body.held_bodies.Given as goal

abbrev pub invariant-loop-instr : goal.invariant-loop-instr
invariant-loop-instr l = record {
  found : map tree l.bodies ++ bodies_in (codes (drop l.instr-index l.instr-items)) ≡ bodies_in (codes l.lambdas);
  held : AllHeld (codes (drop l.instr-index l.instr-items));
}
