use Rattle.std.proofs.Common.{◌≡◌, drop, map}
use Rattle.rules_data.specs.types.Entrypoints.{find_entry}
use Rattle.mich_types.specs.Entered.{entry_of}
use Rattle.mich_types.proofs.parameter.find_entry.Given as goal

abbrev pub invariant-loop-candidate : goal.invariant-loop-candidate
invariant-loop-candidate l = find_entry l.fn.name (map entry_of (drop l.candidate-index l.candidate-items)) ≡ find_entry l.fn.name (map entry_of l.fn.entries)
