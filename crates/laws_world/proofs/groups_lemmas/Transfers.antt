-- All transfers: those that a source orders, and those that a contract issues.
use Rattle.std.proofs.Common.{◌≡◌, ◌≤◌, ℕ, List, [], ◌∷◌, Bool, true, false, refl, sym, ap, ◌∙◌, pos}
use Rattle.std.specs.Str.{bytes_eq}
use Rattle.std.proofs.lemmas.Bool.{and_parts}
use Rattle.std.proofs.lemmas.List.Elements.{All-head}
use Rattle.rules_text.specs.nodes.Limits.{most_mutez}
use Rattle.rules_text.specs.nodes.Tree.{Tree}
use Rattle.rules_data.specs.forms.Spelling.{default_name, implicit_place, place_of, entrypoint_of, is_implicit, is_place}
use Rattle.rules_data.specs.declared.gas.Kind.TheVariants as price
use Rattle.rules_data.specs.values.Val.{Val}
use Rattle.rules_code.specs.instructions.Arguments.{Found, found, fault}
use Rattle.rules_code.specs.steps.Changes.{amount_among, amount_in}
use Rattle.rules_code.specs.evaluation.Operations.{transfer}
use Rattle.rules_code.specs.evaluation.Contracts.{is_taken_by_account, takes}
use Rattle.rules_world.specs.world.World.{World, contract_at}
use Rattle.rules_world.specs.world.Contents.{Call}
use Rattle.rules_world.specs.world.Outcomes.{Setting, Waiting, ordered, issued, Counts}
use Rattle.rules_world.specs.world.Targets.{Target}
use Rattle.rules_world.specs.world.Arguments.{literal_in}
use Rattle.rules_world.specs.world.Transfers.{delivered, transferred}
use Rattle.rules_world.specs.world.Application.{ordered_transaction, issued_transaction}
use Rattle.rules_world.specs.world.Forms.{AreDestination, IsSmall}
use Rattle.rules_world.specs.world.Good.{FitsIn, IsGoodWaiting, IsGoodOperation}
use Rattle.laws_world.specs.runs.Going.{IsSetting, IsGoing, KeepsGoing}
use Rattle.laws_world.proofs.groups_lemmas.Accounts.{account_keeps, unit_handed, value_handed}
use Rattle.laws_world.proofs.groups_lemmas.Calls.{IsArgument, contract_keeps}
use Rattle.laws_world.proofs.accounts.ForCallers.{literal_fits, literal_empty}
use Rattle.laws_world.proofs.runs.ForCallers.{address_takes, met_takes, keeps_charged}
use Rattle.laws_world.proofs.groups_lemmas.Taken.{IsTaken, taken_order, taken_transfer}

module _ (start : World) (s : Setting) (setting : IsSetting s) (contents : ℕ) (few : contents ≤ 1000) (w : World)
    (waiting : List Waiting) (counts : Counts) where
  -- ---- of a source

  source_place : is_place (implicit_place s.source) ≡ true
  source_place = let h = setting.source in rw h refl

  pub ordered_transfer_keeps : (amount : ℕ) (destination entrypoint : List ℕ) (argument : Tree) (gas : ℕ) →
      IsGoing start s.group contents w (ordered (Call amount destination entrypoint argument) ∷ waiting) counts →
      KeepsGoing start s contents waiting
      (transferred s w (ordered_transaction s amount destination entrypoint argument) gas counts)
  ordered_transfer_keeps amount destination entrypoint argument gas g =
      keeps_charged start s contents waiting s.prices price.Transfer gas _ (λ left. by left (is_implicit destination) refl)
    where
      action : (amount ≤ most_mutez) × AreDestination destination entrypoint × IsSmall argument
      action = All-head (IsGoodWaiting w) (ordered (Call amount destination entrypoint argument)) waiting g.good.waits

      taken : IsTaken start s.group contents w (λ id. pos 0) waiting counts
      taken = taken_order start s.group contents w waiting counts (Call amount destination entrypoint argument) g

      read : (e : is_implicit destination ≡ false) (target : Target) (x : Found Val) →
          literal_in w target.entry.kind argument ≡ x →
          IsArgument start s setting contents few w (ordered_transaction s amount destination entrypoint argument) waiting
          counts (λ id. pos 0) taken e source_place action.0 target x
      read e target (found x) i = (
        literal_fits w target.entry.kind argument x i action.2,
        λ id. sym
            (ap (amount_among id) (literal_empty w target.entry.kind argument x i)),
      )
      read e target (fault l) i = tt

      by : (left : ℕ) (b : Bool) → is_implicit destination ≡ b →
          KeepsGoing start s contents waiting (delivered b s w
          (ordered_transaction s amount destination entrypoint argument) left counts)
      by left true e = account_keeps start s contents w (ordered_transaction s amount destination entrypoint argument) waiting
          counts (λ id. pos 0) taken e left (λ h. unit_handed start s contents w
          (ordered_transaction s amount destination entrypoint argument) waiting counts (λ id. pos 0) taken e argument
          (λ id. refl))
      by left false e =
          contract_keeps start s setting contents few w (ordered_transaction s amount destination entrypoint argument) waiting
          counts (λ id. pos 0) taken e source_place action.0 left
          (λ target m hash named. read e target (literal_in w target.entry.kind argument) refl)

  -- ---- of a contract

  pub issued_transfer_keeps : (sender : List ℕ) (argument : Val) (amount : ℕ) (address : List ℕ) (gas : ℕ) →
      IsGoing start s.group contents w (issued sender (transfer argument amount address) ∷ waiting) counts →
      KeepsGoing start s contents waiting (transferred s w (issued_transaction sender argument amount address) gas counts)
  issued_transfer_keeps sender argument amount address gas g =
      keeps_charged start s contents waiting s.prices price.Transfer gas _ (λ left. by left (is_implicit (place_of address)) refl)
    where
      first : (is_place sender ≡ true) × IsGoodOperation w (transfer argument amount address)
      first = All-head (IsGoodWaiting w) (issued sender (transfer argument amount address)) waiting g.good.waits

      taken : IsTaken start s.group contents w (λ id. amount_in id argument) waiting counts
      taken = taken_transfer start s.group contents w waiting counts sender argument amount address g

      takes_it : takes (contract_at w) (place_of address) (entrypoint_of address) first.1.0 ≡ true
      takes_it = address_takes (contract_at w) first.1.0 address first.1.1

      by_account : (b : Bool) → b ≡ true → takes (contract_at w) (place_of address) (entrypoint_of address) first.1.0 ≡ true →
          is_implicit (place_of address) ≡ b → is_taken_by_account first.1.0 ≡ true
      by_account b t h e =
          let i : is_implicit (place_of address) ≡ true = e ∙ t in
          (and_parts (bytes_eq (entrypoint_of address) default_name) (is_taken_by_account first.1.0) (rw i at h)).1

      by : (left : ℕ) (b : Bool) → is_implicit (place_of address) ≡ b →
          KeepsGoing start s contents waiting (delivered b s w (issued_transaction sender argument amount address) left counts)
      by left true e =
          account_keeps start s contents w (issued_transaction sender argument amount address) waiting counts
          (λ id. amount_in id argument) taken e left
          (λ h. value_handed start s contents w (issued_transaction sender argument amount address) waiting counts
          (λ id. amount_in id argument) taken e first.1.0 argument (by_account true refl takes_it e) first.1.2 (λ id. refl))
      by left false e =
          contract_keeps start s setting contents few w (issued_transaction sender argument amount address) waiting counts
          (λ id. amount_in id argument) taken e first.0 first.1.3 left
          (λ target m hash named.
          let same : target.entry.kind ≡ first.1.0 = met_takes w target first.1.0 (place_of address)
          (entrypoint_of address) m e hash named takes_it in
          (Rattle.std.proofs.Common.subst (λ a. FitsIn w a argument) (sym same) first.1.2, λ id. refl))
