use Rattle.std.proofs.Common.{sym, subst}
use Rattle.rules_code.specs.evaluation.Contracts.{viewed}
use Rattle.rules_data.specs.forms.Spelling.{spelled_address}
use Rattle.mich_base.specs.TypeView.{kind}
use Rattle.mich_forms.specs.Spelled.{place_bytes}
use Rattle.mich_forms.specs.declared.places.Place.{Place}
use Rattle.mich_interpreter.specs.Visits.{IsVisit}
use Rattle.mich_interpreter.proofs.visits.find_view.Goals as goal

pub returns-in-Implicit : goal.returns-in-Implicit
returns-in-Implicit c = λ x s.
    let a = kind c.args.input.now in
    let b = kind c.args.output.now in
    subst (λ (p : Place). IsVisit x a b (viewed x.contract_at c.args.name.now a b (spelled_address (place_bytes p) c.args.address.now.entrypoint)) c.visit_account.result) (sym c.in-Implicit.is) (c.visit_account.ensures x)

pub returns-in_ok-visit_hash-in-Contract : goal.returns-in_ok-visit_hash-in-Contract
returns-in_ok-visit_hash-in-Contract c = λ x s.
    let a = kind c.args.input.now in
    let b = kind c.args.output.now in
    subst (λ (p : Place). IsVisit x a b (viewed x.contract_at c.args.name.now a b (spelled_address (place_bytes p) c.args.address.now.entrypoint)) c.in_ok-visit_hash-in-Contract.field-0) (sym c.in-Contract.is) (c.in_ok-visit_hash-in-Contract.ensures x s)
