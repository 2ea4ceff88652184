-- What surrounds a run.
use Rattle.std.proofs.Common.{◌≡◌, ℕ, ◌^◌, ◌-◌, ◌<◌, true, List, length, refl, arith, pos}
use Rattle.std.specs.Prelude.{◌≤ℤ◌, neg_ℤ}
use Rattle.std.proofs.lemmas.Int.{ints}
use Rattle.std.proofs.lemmas.Bool.Decides.{nat_tests}
use Rattle.rules_data.specs.forms.Spelling.{implicit_place, contract_place, is_chain_id}
use Rattle.rules_data.specs.types.Kind.{Kind}
use Rattle.rules_code.specs.instructions.Types as ty
use Rattle.rules_code.specs.instructions.Change.{makes}
use Rattle.rules_code.specs.instructions.OtherChanges.{environment_kind}
use Rattle.rules_code.specs.instructions.Straight.{EnvironmentRow}
use Rattle.rules_code.specs.instructions.Straight as i
use Rattle.rules_data.specs.values.Val.{Val}
use Rattle.rules_data.specs.values.Val as v
use Rattle.rules_code.specs.steps.Environment.{Environment}
use Rattle.rules_code.specs.steps.Reading.{environment_step}
use Rattle.rules_code.specs.typing.Fits.{Known, AllFit}
use Rattle.laws_code.specs.evaluation.Laws.{IsGoodEnvironment}
use Rattle.laws_code.proofs.steps.Steps.{StepFits}
use Rattle.laws_code.proofs.steps.Ranges.{int_from, nat_from, amount_from}
use Rattle.laws_code.proofs.steps.Arithmetic.{gives}
use Rattle.laws_data.proofs.forms_lemmas.ForCallers.{place_address, implicit_is, contract_is}

four_bytes : (b : List ℕ) → length b ≡ 4 → is_chain_id b ≡ true
four_bytes b h = grind (arith, nat_tests)

pub environment_keeps : (w : Known) (e : Environment) → IsGoodEnvironment e →
    (r : EnvironmentRow) (A : List Kind) (V : List Val) → AllFit w A V →
    StepFits w V (makes (environment_kind r) A) (environment_step e r V)
environment_keeps w e g i.amount A V h = gives w V V ty.mutez A (v.number (pos e.amount)) (amount_from e.amount g.amount) h
    (λ id. refl) (λ id. omega (arith, ints))
environment_keeps w e g i.balance A V h = gives w V V ty.mutez A (v.number (pos e.balance)) (amount_from e.balance g.balance) h
    (λ id. refl) (λ id. omega (arith, ints))
environment_keeps w e g i.sender A V h = gives w V V ty.address A (v.bytes e.sender) (place_address e.sender g.sender) h
    (λ id. refl) (λ id. omega (arith, ints))
environment_keeps w e g i.source A V h = gives w V V ty.address A (v.bytes (implicit_place e.source))
    (place_address (implicit_place e.source) (implicit_is e.source g.source)) h (λ id. refl) (λ id. omega (arith, ints))
environment_keeps w e g i.self_address A V h = gives w V V ty.address A (v.bytes (contract_place e.own))
    (place_address (contract_place e.own) (contract_is e.own g.own)) h (λ id. refl) (λ id. omega (arith, ints))
environment_keeps w e g i.now A V h =
    let low : neg_ℤ (pos (2 ^ 63)) ≤ℤ e.moment = g.moment.0 in
    let high : e.moment ≤ℤ pos (2 ^ 63 - 1) = g.moment.1 in
    gives w V V ty.timestamp A (v.number e.moment) (int_from e.moment (omega (arith, ints)) (omega (arith, ints))) h
    (λ id. refl) (λ id. omega (arith, ints))
environment_keeps w e g i.level A V h =
    let low : e.level < 2 ^ 32 = g.level in
    gives w V V ty.nat A (v.number (pos e.level)) (nat_from (pos e.level) (omega (arith, ints)) (omega (arith, ints))) h
    (λ id. refl) (λ id. omega (arith, ints))
environment_keeps w e g i.chain_id A V h = gives w V V ty.chain_id A (v.bytes e.chain) (four_bytes e.chain g.chain) h
    (λ id. refl) (λ id. omega (arith, ints))
