use Rattle.std.proofs.Common.{◌≡◌, ◌++◌}
use Rattle.rules_files.specs.snapshots.Spelling.{count_vals, eight, value_spellings}
use Rattle.mich_term.specs.View.{datums}
use Rattle.mich_snapshot.proofs.spelling.put_set.Given as goal

-- what was put, and the elements that are left
abbrev pub invariant-loop-element : goal.invariant-loop-element
invariant-loop-element l =
    l.out.items ++ value_spellings (datums l.element-iterator)
    ≡ l.fn.out.items ++ (eight (count_vals (datums l.elements)) ++ value_spellings (datums l.elements))
