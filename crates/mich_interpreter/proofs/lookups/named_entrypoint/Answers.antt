use Rattle.std.proofs.Common.{◌≡◌, sym, subst}
use Rattle.std.specs.Prelude.{option_map}
use Rattle.rules_code.specs.evaluation.Contracts.{contract_of}
use Rattle.rules_data.specs.forms.Spelling.{spelled_address}
use Rattle.mich_base.specs.TypeView.{kind}
use Rattle.mich_forms.specs.Spelled.{place_bytes}
use Rattle.mich_forms.specs.declared.places.Place.{Place}
use Rattle.mich_interpreter.proofs.lookups.named_entrypoint.Goals as goal

pub returns-in-Implicit : goal.returns-in-Implicit
returns-in-Implicit c = λ at looks.
    subst (λ (p : Place). option_map (spelled_address (place_bytes p)) c.account_entrypoint.result ≡ contract_of at c.args.annotation (kind c.args.ty.now) (spelled_address (place_bytes p) c.args.of_address))
    (sym c.in-Implicit.is) (c.account_entrypoint.ensures at)

pub returns-in-Contract : goal.returns-in-Contract
returns-in-Contract c = λ at looks.
    subst (λ (p : Place). option_map (spelled_address (place_bytes p)) c.contract_entrypoint.result ≡ contract_of at c.args.annotation (kind c.args.ty.now) (spelled_address (place_bytes p) c.args.of_address))
    (sym c.in-Contract.is) (c.contract_entrypoint.ensures at looks)
