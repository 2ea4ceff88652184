use Rattle.std.proofs.Common.{sym, ap, subst, ◌∙◌}
use Rattle.rules_files.specs.snapshots.Spelt.{IsIssuer}
use Rattle.mich_forms.specs.Spelled.{place_bytes}
use Rattle.mich_forms.specs.declared.places.Place.{Place}
use Rattle.mich_snapshot.specs.Holders.{is_issued}
use Rattle.mich_snapshot.proofs.Hashes.{issued, not_issuer}
use Rattle.mich_snapshot.proofs.holders.issuer_holds.Goals as goal

pub returns-in-Contract : goal.returns-in-Contract
returns-in-Contract c = λ cs are h.
    c.contains.ensures
    ∙ issued cs c.args.hashes.now.keys c.in-Contract.hash are (subst (λ (p : Place). IsIssuer (place_bytes p)) c.in-Contract.is h)
    ∙ ap (λ (p : Place). is_issued cs (place_bytes p)) (sym c.in-Contract.is)

pub returns-in-Implicit : goal.returns-in-Implicit
returns-in-Implicit c = λ cs are h. absurd (not_issuer _ (subst (λ (p : Place). IsIssuer (place_bytes p)) c.in-Implicit.is h))
