use Rattle.std.proofs.Common.{◌≡◌, ℕ, [], ◌∷◌, ◌++◌, ap, ◌∙◌, arith}
use Rattle.std.specs.Prelude.{replicate}
use Rattle.mich_ops.specs.declared.receipt.Status.TheVariants as status
use Rattle.mich_group.proofs.contents.broken.Goals as goal

pub loop-skip-init : goal.loop-skip-init
loop-skip-init c =
    let all : c.loop-back.back ≡ c.args.before = omega arith in
    c.in_ok-push-2.ensures.pushed
    ∙ (λ i. (c.loop-back.invariant.row ∙ ap (λ (n : ℕ). replicate n status.Backtracked) all) i ++ status.Failed c.args.count (c.loop-back.invariant.same i) ∷ [])
