use Rattle.std.proofs.Common.{◌≡◌, drop}
use Rattle.mich_frames.specs.Views.{code_named}
use Rattle.mich_instr.specs.View.{view_codes}
use Rattle.mich_interpreter.proofs.visits.named_view.Given as goal

abbrev pub invariant-loop-candidate : goal.invariant-loop-candidate
invariant-loop-candidate l = code_named l.fn.name (view_codes (drop l.candidate-index l.candidate-items)) ≡ code_named l.fn.name (view_codes l.fn.views)
