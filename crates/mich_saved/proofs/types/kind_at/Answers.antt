use Rattle.std.proofs.Common.{length, ap, arith}
use Rattle.std.proofs.lemmas.List.{length-take}
use Rattle.rules_files.specs.snapshots.Reading.{content_nodes}
use Rattle.mich_saved.proofs.types.kind_at.Goals as goal

pub split_at-requires : goal.split_at-requires
split_at-requires c = omega (arith, length-take content_nodes c.args.cursor.left.now, ap length c.front_of-front.ensures)
