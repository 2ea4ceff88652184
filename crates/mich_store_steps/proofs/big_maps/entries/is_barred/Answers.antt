use Rattle.std.proofs.Common.{sym, ◌∙◌}
use Rattle.mich_term.specs.ValueView.{val}
use Rattle.mich_term.proofs.ForCallers.{carries_none}
use Rattle.mich_store_steps.proofs.big_maps.entries.is_barred.Goals as goal

pub returns-then-is_some-clause-permitted : goal.returns-then-is_some-clause-permitted
returns-then-is_some-clause-permitted c = λ no s. carries_none (val c.args.value.now) (sym c.carries.ensures ∙ no)
