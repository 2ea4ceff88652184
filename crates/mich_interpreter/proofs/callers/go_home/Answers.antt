use Rattle.std.proofs.Common.{sym, ◌∙◌}
use Rattle.mich_interpreter.proofs.Called.{home_first, home_none}
use Rattle.mich_interpreter.proofs.callers.go_home.Goals as goal

pub returns-in-Some : goal.returns-in-Some
returns-in-Some c = home_first c.args.callers c.pop.new.self c.in-Some.first c.args.state (sym c.truncate.ensures ∙ c.in-Some.ensures)

pub returns-in-None : goal.returns-in-None
returns-in-None c = home_none c.args.callers c.args.state (sym c.truncate.ensures ∙ c.in-None.ensures.0)
