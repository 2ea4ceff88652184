use Rattle.std.proofs.Common.{◌≡◌, ◌++◌, map, length}
use Rattle.std.specs.Prelude.{reverse}
use Rattle.mich_group.specs.Waiting.{sent_by}
use Rattle.mich_group.proofs.waiting.send.Given as goal

abbrev pub invariant-emitted : goal.invariant-emitted
invariant-emitted l = l.waiting ++ reverse (map (sent_by l.by) l.left) ≡ l.fn.waiting ++ reverse (map (sent_by l.by) l.fn.emitted)

abbrev pub decreases-emitted : goal.decreases-emitted
decreases-emitted l = length l.left
