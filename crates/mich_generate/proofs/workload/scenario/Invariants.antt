use Rattle.std.proofs.Common.{◌≡◌, ◌++◌, ◌-◌}
use Rattle.rules_files.specs.workload.Workload.{calls, scenario}
use Rattle.mich_generate.proofs.workload.scenario.Given as goal

abbrev pub invariant-loop : goal.invariant-loop
invariant-loop l = l.text.items ++ calls (l.calls - l.counter) l.x ≡ scenario l.calls
