use Rattle.std.proofs.Common.{◌≡◌}
use Rattle.std.specs.Vec.Iter.{into_iter_items}
use Rattle.rules_files.specs.commands.Packs.{first_claim}
use Rattle.mich_data.specs.View.{all_pending}
use Rattle.mich_answers.proofs.packing.first_claim.Given as goal

abbrev pub invariant-loop-item : goal.invariant-loop-item
invariant-loop-item l = first_claim (all_pending (into_iter_items l.item-iterator)) ≡ first_claim (all_pending l.fn.pending)
