use Rattle.std.proofs.Common.{◌≤◌, take}
use Rattle.mich_replay.specs.Output.{Writes, output}
use Rattle.mich_replay.proofs.writing.write_lines.Given as goal

abbrev pub invariant-lines : goal.invariant-lines
invariant-lines g l =
    let sink = g.K.Sink in
    record {
      later : sink.faults l.fn.out ≤ sink.faults l.out;
      written : Writes (output (sink.written l.fn.out) (sink.handed l.fn.out)) (output (sink.written l.out) (sink.handed l.out)) (take l.line-index l.lines);
    }
