use Rattle.std.proofs.Common.{◌≡◌, ◌∷◌, [], Bool, cond, length, ap, ◌∙◌, arith}
use Rattle.std.proofs.lemmas.List.{length-append}
use Rattle.rules_world.specs.summary.Summary.{was_applied, has_failed}
use Rattle.mich_ops.specs.View.{receipt}
use Rattle.mich_replay.proofs.Counting.{applied_of, failed_of, at_most_one, few, more}
use Rattle.mich_replay.proofs.generating.with_group.Goals as goal

pub overflow_add-result-2 : goal.overflow_add-result-2
overflow_add-result-2 c =
    let q = c.requires in
    omega (arith, q.1.applied, few was_applied q.0, q.2, c.one_if.ensures, at_most_one c.is_applied.result)

pub overflow_add-result-3 : goal.overflow_add-result-3
overflow_add-result-3 c =
    let q = c.requires in
    omega (arith, q.1.failed, few has_failed q.0, q.2, c.one_if-2.ensures, at_most_one c.is_failed.result)

pub returns : goal.returns
returns c = λ receipts found a t.
    let some : length receipts ≡ 0 → ⊥ = λ e. omega (arith, e, a.groups, c.if-counts-eq0.false) in
    let told = receipt c.args.told.now in
    let applied : c.one_if.result ≡ cond (was_applied found) 1 0 = c.one_if.ensures ∙ ap (λ (b : Bool). cond b 1 0) (c.is_applied.ensures ∙ applied_of told found t) in
    let failed : c.one_if-2.result ≡ cond (has_failed found) 1 0 = c.one_if-2.ensures ∙ ap (λ (b : Bool). cond b 1 0) (c.is_failed.ensures ∙ failed_of told found t) in
    record {
      groups = omega (arith, a.groups, length-append receipts (found ∷ []));
      applied = omega (arith, a.applied, applied, more was_applied receipts found some);
      failed = omega (arith, a.failed, failed, more has_failed receipts found some);
    }
