use Rattle.std.proofs.Common.{sym, ap, ◌∙◌}
use Rattle.rules_code.specs.evaluation.Contracts.{is_contract_of}
use Rattle.rules_data.specs.forms.Spelling.{spelled_address}
use Rattle.rules_world.specs.world.World.{contract_at}
use Rattle.mich_base.specs.TypeView.{kind}
use Rattle.mich_forms.specs.Spelled.{place_bytes}
use Rattle.mich_forms.specs.declared.places.Place.{Place}
use Rattle.mich_literals.proofs.arguments.literals.is_contract_of.Goals as goal

pub returns-in-Implicit : goal.returns-in-Implicit
returns-in-Implicit c = λ w s.
    c.account_takes.ensures (contract_at w)
    ∙ ap (λ (p : Place). is_contract_of (contract_at w) (kind c.args.ty.now) (spelled_address (place_bytes p) c.args.address.now.entrypoint)) (sym c.in-Implicit.is)
