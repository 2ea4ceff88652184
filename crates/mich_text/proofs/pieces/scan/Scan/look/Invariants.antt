use Rattle.std.proofs.Common.{◌-◌, length}
use Rattle.mich_text.specs.pieces.Scans.{IsScanned}
use Rattle.mich_text.proofs.pieces.scan.Scan.look.Given as goal

abbrev pub invariant-bytes : goal.invariant-bytes
invariant-bytes l = IsScanned l.held l.scan

abbrev pub decreases-bytes : goal.decreases-bytes
decreases-bytes l = length l.held - l.scan.seen
