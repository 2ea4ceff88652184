use Rattle.std.proofs.Common.{◌≡◌, ◌+◌, length, drop}
use Rattle.rules_text.specs.text.Printed.{annotations_text}
use Rattle.mich_cert.proofs.telling.length.behind_annotations.Given as goal

abbrev pub invariant-loop-annotation : goal.invariant-loop-annotation
invariant-loop-annotation l = l.left + length (annotations_text l.annotations) ≡ l.fn.room + length (annotations_text (drop l.annotation-index l.annotation-items))
