-- Calls of contracts that a source orders.
use Rattle.std.proofs.Common.{◌≡◌, ◌≤◌, ◌<◌, ◌^◌, ℕ, pos, true, List, Err, Result, refl, sym, ap, ◌∙◌, subst, is_some}
use Rattle.std.proofs.lemmas.List.Elements.{All-head}
use Rattle.rules_text.specs.nodes.Limits.{most_mutez}
use Rattle.rules_text.specs.nodes.Tree.{Tree, size}
use Rattle.rules_code.specs.evaluation.Contracts.{hash_in}
use Rattle.rules_data.specs.forms.Spelling.{contract_place, is_implicit}
use Rattle.rules_code.specs.instructions.Arguments.{Found, found}
use Rattle.rules_code.specs.steps.Changes.{amount_among}
use Rattle.rules_code.specs.steps.Failure.{Failure, no_contract, no_entrypoint, bad_parameter}
use Rattle.rules_data.specs.values.Val.{Val}
use Rattle.rules_world.specs.world.Application.{ordered_transaction}
use Rattle.rules_world.specs.world.Arguments.{node, literal_in}
use Rattle.rules_world.specs.world.Contents.{Call}
use Rattle.rules_world.specs.world.Forms.{AreDestination, IsSmall}
use Rattle.rules_world.specs.world.Good.{IsGoodWaiting}
use Rattle.rules_world.specs.world.Outcomes.{Setting, Waiting, ordered, Counts as PlainCounts}
use Rattle.rules_world.specs.world.Targets.{Search, met, missing, search, on_met}
use Rattle.rules_world.specs.world.Transfers.{Transaction, delivered, with_argument}
use Rattle.rules_world.specs.world.World.{World as PlainWorld, contract_at as plain_contract_at}
use Rattle.laws_world.proofs.accounts.ForCallers.{literal_fits, literal_empty}
use Rattle.laws_world.proofs.runs.ForCallers.{IsMet, Searched, searched, orderly_of}
use Rattle.laws_world.proofs.groups_lemmas.ForCallers.{called_call, taken_order}
use Rattle.mich_literals.specs.arguments.Arguments.{IsArgument}
use Rattle.mich_bigmap.specs.Bases.{Bases}
use Rattle.mich_bigmap.specs.Layers.{HasBases}
use Rattle.mich_bigmap.specs.Standing.{val_in}
use Rattle.mich_forms.specs.Spelled.{place_bytes}
use Rattle.mich_forms.specs.declared.places.Place.{Place}
use Rattle.mich_forms.specs.declared.places.Place.TheVariants as place
use Rattle.mich_state.specs.declared.state.Counts.{Counts}
use Rattle.mich_machine.specs.Calls.{counts_of}
use Rattle.mich_ops.specs.Told.{told}
use Rattle.mich_ops.specs.View.{failure}
use Rattle.mich_ops.specs.declared.failure.Failure.{Failure as Why}
use Rattle.mich_ops.specs.declared.failure.Failure.TheVariants as failures
use Rattle.mich_world.proofs.simulation_lemmas.ForCallers.{hash_of, place_length}
use Rattle.mich_term.specs.ValueView.{val}
use Rattle.mich_term.specs.declared.value.Value.{Value}
use Rattle.mich_world.specs.Holders.{contract_at}
use Rattle.mich_world.specs.World.{World}
use Rattle.mich_operations.specs.Calls.{covered, IsDue, ReadAs}
use Rattle.mich_operations.specs.Going.{Begins, EndsAs}
use Rattle.mich_operations.specs.Transfers.{transaction}
use Rattle.mich_operations.specs.declared.applied.Applied.{Applied}
use Rattle.mich_operations.specs.declared.applied.ApplyError.{ApplyError}
use Rattle.mich_operations.specs.declared.applied.ApplyError.TheVariants.{Failed, Memory}
use Rattle.mich_operations.proofs.Paying.{ends_along, ends_failed, source_place}
use Rattle.mich_operations.proofs.Ran.{there_in, ends_memory}
use Rattle.mich_operations.proofs.Whole.{whole_stands, whole_based}

module _ (v : World) (w : PlainWorld) (s : Setting) (amount : ℕ) (hash entry : List ℕ) (argument : Tree) (counts : PlainCounts)
    (b : Begins v w s (ordered (Call amount (contract_place hash) entry argument)) counts) where
  abbrev bs : Bases
  bs = v.store.bases.present

  abbrev op : Waiting
  op = ordered (Call amount (contract_place hash) entry argument)

  abbrev T : Transaction
  T = ordered_transaction s amount (contract_place hash) entry argument

  action : (amount ≤ most_mutez) × AreDestination (contract_place hash) entry × IsSmall argument
  action = All-head (IsGoodWaiting w) op b.next.behind b.next.going.good.waits

  pub small : size argument < 2 ^ 32
  small = action.2

  same_hash : hash_in (contract_place hash) ≡ hash
  same_hash = hash_of hash (place_length hash action.1.0)

  searched_so : (q : Search) → search w hash entry ≡ q → (gas : ℕ) (cs : PlainCounts) →
      delivered (is_implicit (contract_place hash)) s w T gas cs ≡ on_met q (λ target. with_argument (literal_in w target.entry.kind argument) s w T target gas cs)
  searched_so q e gas cs =
      ap (λ (h : List ℕ). on_met (search w h entry) (λ target. with_argument (literal_in w target.entry.kind argument) s w T target gas cs)) same_hash
      ∙ ap (λ (p : Search). on_met p (λ target. with_argument (literal_in w target.entry.kind argument) s w T target gas cs)) e

  -- ---- an argument

  module _ (x : Value) (h : IsArgument w hash entry argument x) where
    stands_is : val_in bs x ≡ val x
    stands_is = whole_stands bs h.target.entry.kind x h.whole h.formed

    pub based : HasBases bs x
    based = whole_based bs h.target.entry.kind x h.whole

    literal : literal_in w h.target.entry.kind argument ≡ found (val_in bs x)
    literal = h.literal ∙ ap found (sym stands_is)

    met_so : IsMet w h.target × (h.target.hash ≡ hash) × (h.target.entry.name ≡ entry)
    met_so = subst (Searched w hash entry) h.met (searched w (orderly_of w b.next.going.good.sound) hash entry)

    there : is_some (contract_at v.funds.present hash) ≡ true
    there =
        sym (there_in v w hash b.stands)
        ∙ ap (λ (q : List ℕ). is_some (plain_contract_at w q)) (sym met_so.1)
        ∙ ap is_some met_so.0.there

    pub due : IsDue v w s counts (place.Implicit s.source) hash entry amount x h.target
    due = record {
      stands = b.stands;
      form = b.next.going.good.sound.form;
      sender = source_place s.source b.next.setting.source;
      there = there;
      hash = met_so.1;
      named = met_so.2;
      call = λ enough.
          called_call b.next.start s b.next.setting b.next.contents b.next.few w T b.next.behind counts (λ id. pos 0)
          (taken_order b.next.start s.group b.next.contents w b.next.behind counts (Call amount (contract_place hash) entry argument) b.next.going)
          refl (source_place s.source b.next.setting.source) action.0 h.target (val_in bs x) met_so.0 (met_so.1 ∙ sym same_hash)
          (literal_fits w h.target.entry.kind argument (val_in bs x) literal action.2)
          (λ id. sym (ap (amount_among id) (literal_empty w h.target.entry.kind argument (val_in bs x) literal)))
          enough;
    }

    pub calls : (gas left : ℕ) (old new : Counts) (z : World) (r : Result Applied ApplyError) →
        EndsAs (covered s w (transaction (place.Implicit s.source) (place.Contract hash) entry amount (node argument)) h.target (val_in bs x) gas (counts_of old)) z left old new r →
        EndsAs (delivered (is_implicit (contract_place hash)) s w T gas (counts_of old)) z left old new r
    calls gas left old new z r k =
        ends_along (delivered (is_implicit (contract_place hash)) s w T gas (counts_of old))
        (covered s w (transaction (place.Implicit s.source) (place.Contract hash) entry amount (node argument)) h.target (val_in bs x) gas (counts_of old)) z left old new r
        (searched_so (met h.target) h.met gas (counts_of old)
        ∙ ap (λ (f : Found Val). with_argument f s w T h.target gas (counts_of old)) literal)
        k

  -- ---- no argument

  module _ (gas left : ℕ) (old new : Counts) (z : World) where
    abbrev Fails : Why → Type 0
    Fails f = EndsAs (delivered (is_implicit (contract_place hash)) s w T gas (counts_of old)) z left old new (Err (Failed f))

    lacking : (f : Why) (why : Failure) → search w hash entry ≡ missing why → failure f ≡ told why → Fails f
    lacking f why e h = ends_failed (delivered (is_implicit (contract_place hash)) s w T gas (counts_of old)) z left old new f why (searched_so (missing why) e gas (counts_of old)) h

    -- it fails as the argument does
    pub faults : (f : Why) → ReadAs w hash entry argument (Err (Failed f)) → Fails f
    faults failures.NoContract h = lacking failures.NoContract no_contract h refl
    faults failures.NoEntrypoint h = lacking failures.NoEntrypoint no_entrypoint h refl
    faults (failures.BadParameter l) h =
        ends_failed (delivered (is_implicit (contract_place hash)) s w T gas (counts_of old)) z left old new (failures.BadParameter l) (bad_parameter l)
        (searched_so (met h.0) h.1 gas (counts_of old) ∙ ap (λ (g : Found Val). with_argument g s w T h.0 gas (counts_of old)) h.2) refl
    faults _ h = absurd h

    pub refused : (e : ApplyError) → ReadAs w hash entry argument (Err e) → EndsAs (delivered (is_implicit (contract_place hash)) s w T gas (counts_of old)) z left old new (Err e)
    refused (Failed f) h = faults f h
    refused Memory h = ends_memory (delivered (is_implicit (contract_place hash)) s w T gas (counts_of old)) z left old new

-- the same of a place that is a contract
pub at_contract : (v : World) (w : PlainWorld) (s : Setting) (amount : ℕ) (hash entry : List ℕ) (argument : Tree) (counts : PlainCounts) (to : Place) → to ≡ place.Contract hash →
    Begins v w s (ordered (Call amount (place_bytes to) entry argument)) counts → Begins v w s (ordered (Call amount (contract_place hash) entry argument)) counts
at_contract v w s amount hash entry argument counts to e b = subst (λ (p : Place). Begins v w s (ordered (Call amount (place_bytes p) entry argument)) counts) e b

pub from_contract : (w : PlainWorld) (s : Setting) (amount : ℕ) (hash entry : List ℕ) (argument : Tree) (to : Place) (gas left : ℕ) (old new : Counts) (z : World) (r : Result Applied ApplyError) →
    to ≡ place.Contract hash →
    EndsAs (delivered (is_implicit (contract_place hash)) s w (ordered_transaction s amount (contract_place hash) entry argument) gas (counts_of old)) z left old new r →
    EndsAs (delivered (is_implicit (place_bytes to)) s w (ordered_transaction s amount (place_bytes to) entry argument) gas (counts_of old)) z left old new r
from_contract w s amount hash entry argument to gas left old new z r e h =
    subst (λ (p : Place). EndsAs (delivered (is_implicit (place_bytes p)) s w (ordered_transaction s amount (place_bytes p) entry argument) gas (counts_of old)) z left old new r) (sym e) h
