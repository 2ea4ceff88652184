-- What FAILWITH fails with: it can be pushed, and is seen alike by all.
use Rattle.std.proofs.Common.{◌≡◌, ℕ, true, List, ◌∷◌, sym, ap, ◌∙◌}
use Rattle.rules_data.specs.types.Attributes.{pushable}
use Rattle.rules_data.specs.types.Kind.{Kind}
use Rattle.rules_code.specs.typing.Fits.{Fits}
use Rattle.rules_data.specs.values.Val.{Val}
use Rattle.rules_code.specs.evaluation.Operations.{Tally}
use Rattle.rules_code.specs.evaluation.Outcome.{Outcome, after}
use Rattle.laws_code.specs.evaluation.Laws.{known}
use Rattle.mich_store_steps.proofs.seen.ForCallers.{pushable_seen}
use Rattle.mich_term.specs.ValueView.{val}
use Rattle.mich_term.specs.declared.value.Value.{Value}
use Rattle.mich_stack.specs.Views.{Sight, seen}
use Rattle.mich_instr.specs.Code as made
use Rattle.mich_instr.specs.Typed.{is_failwith}
use Rattle.mich_frames.specs.Around.{Around, at}
use Rattle.mich_frames.specs.Frames.{Frame}
use Rattle.mich_frames.specs.Pending.{resume}
use Rattle.mich_frames.specs.Stands.{MeetsAt}
use Rattle.mich_frames.proofs.ForCallers.{FineCase, meets_fine, form_is, holds}

module _ {fs : List Frame} {u : Around} {m : Tally} {d : ℕ} {Z : List Kind} {o : Outcome} where
  fail_fits : {a : Kind} (x : Val) {W : List Val} → MeetsAt (made.failwith a) fs u (x ∷ W) m d Z o → (pushable a ≡ true) × Fits (known u.contract_at m.issued) a x
  fail_fits {a = a} x {W = W} h = meets_fine h by
    where
      by : FineCase (made.failwith a) fs u (x ∷ W) m d Z o ((pushable a ≡ true) × Fits (known u.contract_at m.issued) a x)
      by ps c _ _ _ (is_failwith {A = A} form) rests depth same typed small fine =
          (holds (resume ps (at u c)) o h.runs.sound (pushable a) _ (ap (λ p. after p (resume ps (at u c))) (sym (form_is _ _ _ _ _ _ _ _ m form)) ∙ same), fine.fits.0)

  pub fail_seen : {a : Kind} (big : Sight) (x : Value) {W : List Val} → MeetsAt (made.failwith a) fs u (seen big x ∷ W) m d Z o → seen big x ≡ val x
  fail_seen {a = a} big x h = let f = fail_fits (seen big x) h in pushable_seen (known u.contract_at m.issued) big a x f.0 f.1
