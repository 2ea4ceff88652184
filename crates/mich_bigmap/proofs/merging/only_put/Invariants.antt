use Rattle.std.proofs.Common.{◌≡◌, ◌++◌, map}
use Rattle.std.specs.Prelude.{◌&&◌}
use Rattle.std.specs.Map.Iter.{deref_pair}
use Rattle.mich_bigmap.specs.Puts.{only_put}
use Rattle.mich_bigmap.proofs.merging.only_put.Given as goal

abbrev pub invariant-loop-key : goal.invariant-loop-key
invariant-loop-key l = record {
  same : (l.all && only_put l.key-iterator) ≡ only_put l.changes;
  place : map deref_pair l.yielded ++ l.key-iterator ≡ l.changes;
}
