use Rattle.std.proofs.Common.{◌≡◌, ◌++◌, true, option_map}
use Rattle.std.specs.List.{list_all}
use Rattle.rules_text.specs.binary.Reading.{pieces, is_annotation}
use Rattle.mich_binary.specs.Pieces.{pieces_of}
use Rattle.mich_binary.proofs.PieceLaws.{cut_size}
use Rattle.mich_binary.proofs.fields.annotations_of.Given as goal

abbrev pub invariant-loop-left : goal.invariant-loop-left
invariant-loop-left l = record {
  parts : l.texts ++ pieces_of (option_map (λ b. b.now) l.left) ≡ pieces l.field.left.now;
  good : list_all is_annotation l.texts ≡ true;
}

abbrev pub decreases-loop-left : goal.decreases-loop-left
decreases-loop-left l = cut_size l.left
