use Rattle.std.proofs.Common.{◌∙◌}
use Rattle.mich_interpreter.proofs.Rising.{put_behind}
use Rattle.mich_interpreter.proofs.mapping.put_last.Goals as goal

pub returns : goal.returns
returns c = c.in_ok-insert.ensures.new ∙ put_behind c.args.table.now c.args.key c.args.value c.requires
