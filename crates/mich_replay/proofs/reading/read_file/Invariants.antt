use Rattle.std.proofs.Common.{◌≤◌, ◌+◌, ◌-◌, ◌^◌, length}
use Rattle.std.specs.Io.KnownBytes.{Consumes}
use Rattle.rules_text.specs.streams.Known.{SameFiles}
use Rattle.mich_replay.proofs.reading.read_file.Given as goal

abbrev pub invariant-read : goal.invariant-read
invariant-read g l =
    let files = g.F.Files in
    record {
      later : files.faults l.fn.files ≤ files.faults l.files;
      same : SameFiles (files.lent l.fn.files) (files.lent l.files) (files.content l.fn.files) (files.content l.files);
      bytes : Consumes (files.content l.fn.files l.path) (files.left l.files) l.bytes.items;
      short : length l.bytes.items ≤ 1073741824 + 65536;
    }

abbrev pub decreases-read : goal.decreases-read
decreases-read g l = 2 ^ 63 - length l.bytes.items
