use Rattle.std.proofs.Common.{ap, ◌∙◌}
use Rattle.std.specs.List.{list_any}
use Rattle.mich_outline.proofs.Names.{is_named, any_inserted}
use Rattle.mich_outline.proofs.gathering.add_name.Goals as goal

pub returns-clause-added : goal.returns-clause-added
returns-clause-added c = λ q. ap (list_any (is_named q)) c.in_ok-insert.ensures.keys ∙ any_inserted q c.args.names.now.keys c.args.name
