use Rattle.std.proofs.Common.{to_z}
use Rattle.std.specs.Int.{w128}
use Rattle.std.proofs.Math.Facts.{sfits_to_z}
use Rattle.mich_num.proofs.ReadBytes.{all_read, read_out}
use Rattle.mich_num.proofs.spelling.from_bytes.Goals as goal

pub returns-in-None : goal.returns-in-None
returns-in-None c = record {
  exact = read_out c.args.signed c.args.bytes.now c.loop-c.c-index (to_z w128 c.loop-c.value-bits) (λ i. (c.type_inv.bytes i).fits) c.loop-c.invariant c.loop-c-test.true c.in-None.ensures;
}

pub returns : goal.returns
returns c = record {
  exact = all_read c.args.signed c.args.bytes.now c.loop-c.c-index (to_z w128 c.loop-c.value-bits) (λ i. (c.type_inv.bytes i).fits) c.loop-c.invariant c.loop-c-test.false (sfits_to_z {w = w128} {n = c.loop-c.value-bits} c.loop-c.auto.value);
}
