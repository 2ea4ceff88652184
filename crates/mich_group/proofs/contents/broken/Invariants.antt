use Rattle.std.proofs.Common.{◌≡◌, ◌∷◌, ◌++◌}
use Rattle.std.specs.Prelude.{replicate}
use Rattle.mich_ops.specs.declared.receipt.Status.TheVariants as status
use Rattle.mich_group.proofs.contents.broken.Given as goal

abbrev pub invariant-loop-back : goal.invariant-loop-back
invariant-loop-back l = record {
  row : l.statuses ≡ replicate l.back status.Backtracked;
  same : l.why ≡ l.fn.why;
}

abbrev pub invariant-loop-skip : goal.invariant-loop-skip
invariant-loop-skip l = l.statuses ≡ replicate l.before status.Backtracked ++ status.Failed l.count l.fn.why ∷ replicate l.skip status.Skipped
