-- Entrypoints that are searched, and their arguments.
use Rattle.std.proofs.Common.{◌≡◌, ℕ, List, Some, None, ap, ◌∙◌}
use Rattle.std.specs.Prelude.{option_map}
use Rattle.rules_data.specs.types.Entrypoints.{Entry, find_entry}
use Rattle.rules_code.specs.steps.Failure.{no_contract, no_entrypoint}
use Rattle.rules_world.specs.world.Targets.{Target, met, missing, in_contract, in_script, search, with_entry}
use Rattle.rules_world.specs.world.World.{World as PlainWorld}
use Rattle.mich_world.proofs.simulation_lemmas.ForCallers.{contracts_agree}
use Rattle.mich_world.specs.Holders.{contract_at}
use Rattle.mich_world.specs.Standing.{StandsFor, plain}
use Rattle.mich_world.specs.World.{World}
use Rattle.mich_world.specs.declared.contract.Contract.{Contract}
use Rattle.mich_literals.specs.arguments.Arguments.{HasTypedScripts, entries_in}
use Rattle.mich_literals.proofs.arguments_lemmas.Entries.{read_so}

module _ (v : World) (w : PlainWorld) (hash name : List ℕ) (stands : StandsFor v w) where
  -- there is no such contract
  pub nobody : contract_at v.funds.present hash ≡ None → search w hash name ≡ missing no_contract
  nobody e = ap (in_contract hash name) (contracts_agree v w hash stands ∙ ap (option_map (plain v.store.bases.present)) e)

  module _ (typed : HasTypedScripts v) (k : Contract) (there : contract_at v.funds.present hash ≡ Some k) where
    entries_searched : search w hash name ≡ with_entry hash (read_so v hash k typed there).0 (find_entry name (entries_in k))
    entries_searched =
        let r = read_so v hash k typed there in
        ap (in_contract hash name) (contracts_agree v w hash stands ∙ ap (option_map (plain v.store.bases.present)) there)
        ∙ ap (in_script hash name) r.1
        ∙ ap (λ (es : List Entry). with_entry hash r.0 (find_entry name es)) r.2

    -- there is no such entrypoint
    pub nameless : find_entry name (entries_in k) ≡ None → search w hash name ≡ missing no_entrypoint
    nameless e = entries_searched ∙ ap (with_entry hash (read_so v hash k typed there).0) e

    -- it is there
    abbrev pub target : Entry → Target
    target e = record { hash = hash; script = (read_so v hash k typed there).0; entry = e }

    pub target_met : (e : Entry) → find_entry name (entries_in k) ≡ Some e → search w hash name ≡ met (target e)
    target_met e f = entries_searched ∙ ap (with_entry hash (read_so v hash k typed there).0) f
