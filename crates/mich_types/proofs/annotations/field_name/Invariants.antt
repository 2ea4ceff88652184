use Rattle.std.proofs.Common.{◌≡◌, drop}
use Rattle.rules_data.specs.types.Entrypoints.{field_name}
use Rattle.mich_types.proofs.annotations.field_name.Given as goal

abbrev pub invariant-loop-annot : goal.invariant-loop-annot
invariant-loop-annot l = field_name (drop l.annot-index l.annot-items) ≡ field_name l.fn.annots
