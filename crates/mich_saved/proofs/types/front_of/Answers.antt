use Rattle.std.proofs.Common.{sym, arith}
use Rattle.std.proofs.lemmas.List.{length-take, take_all}
use Rattle.rules_files.specs.snapshots.Reading.{content_nodes}
use Rattle.mich_saved.proofs.types.front_of.Goals as goal

pub returns-then-bytes : goal.returns-then-bytes
returns-then-bytes c = sym (take_all content_nodes c.args.bytes.now (omega arith))

pub slice_bounds-result-end : goal.slice_bounds-result-end
slice_bounds-result-end c = omega (arith, length-take content_nodes c.args.bytes.now)
