use Rattle.std.proofs.Common.{◌≡◌, ◌++◌, drop}
use Rattle.rules_text.specs.text.Printed.{annotations_text}
use Rattle.mich_text.proofs.line.put_annotations.Given as goal

-- the line so far, and the annotations that are left
abbrev pub invariant-annotations : goal.invariant-annotations
invariant-annotations l = l.line.items ++ annotations_text (drop l.annotation-index l.annotation-items) ≡ l.fn.line.items ++ annotations_text l.annotations
