-- Operations that are applied in such worlds.
use Rattle.std.proofs.Common.{ℕ, ◌-◌, Bool, true, false, List, [], ◌∷◌, Option, Some, None, refl, sym, ◌∙◌, subst, ◌++◌, if◌then◌else◌}
use Rattle.std.specs.Prelude.{nat_lt, nat_le}
use Rattle.std.specs.Str.{bytes_eq}
use Rattle.rules_text.specs.nodes.Tree.{Tree}
use Rattle.rules_data.specs.declared.gas.Kind.{Kind as Priced}
use Rattle.rules_data.specs.declared.gas.Kind.TheVariants as price
use Rattle.rules_data.specs.forms.Spelling.{default_name, contract_place, implicit_place, is_implicit}
use Rattle.rules_data.specs.gas.Prices.{Listed, cost}
use Rattle.rules_data.specs.types.Kind as k
use Rattle.rules_data.specs.values.Tickets.{Held}
use Rattle.rules_data.specs.values.Val.{Val}
use Rattle.rules_code.specs.evaluation.Contracts.{hash_in}
use Rattle.rules_code.specs.evaluation.Operations.{transfer, origination, event}
use Rattle.rules_code.specs.instructions.Arguments.{Found, found, fault}
use Rattle.rules_code.specs.instructions.Same.{same_kind}
use Rattle.rules_code.specs.steps.Changes.{Change}
use Rattle.rules_code.specs.steps.Failure.{Failure, no_entrypoint}
use Rattle.rules_code.specs.typing.Nodes.{script}
use Rattle.rules_code.specs.typing.Scripts.{Script}
use Rattle.rules_world.specs.world.Application.{ordered_transaction, issued_transaction, apply}
use Rattle.rules_world.specs.world.Arguments.{literal_in, argument_in}
use Rattle.rules_world.specs.world.Balances.{balance_or_none, moved}
use Rattle.rules_world.specs.world.Contents.{Originate, Call, Give}
use Rattle.rules_world.specs.world.Gives.{offered, Gift, give_effect, is_short, as_value, given_to_account, give_account, given_to_contract, if_wanted, handed, with_offered}
use Rattle.rules_world.specs.world.Holdings.{debited}
use Rattle.rules_world.specs.world.Originations.{Founding, founded, founding_outcome, found_contract, one_more, founding_of, with_storage, with_script, unless_delegated}
use Rattle.rules_world.specs.world.Outcomes.{Waiting, ordered, issued, Counts, Outcome, failed, charged_by, charged}
use Rattle.rules_world.specs.world.Receipts.{Origination}
use Rattle.rules_world.specs.world.Runs.{run}
use Rattle.rules_world.specs.world.Targets.{Target, Search, met, missing, unreadable, search, on_met}
use Rattle.rules_world.specs.world.Transfers.{Transaction, transfer_effect, taken_by_account, account_failure, received, account_outcome, with_taken, to_account, called, if_covered, with_argument, delivered, transferred}
use Rattle.rules_world.specs.world.World.{World}
use Rattle.laws_commands.proofs.resuming_lemmas.worlds.Relogged.{log_stays, moved_passes, founded_passes, received_passes}
use Rattle.laws_commands.proofs.resuming_lemmas.worlds.Runs.{Pair, one, two, twin, Begins, AreAlike, growing_alike, run_alike}

module _ (p : Pair) where
  met_alike : (o : Search) (next other : Target → Outcome) → ((t : Target) → AreAlike p (next t) (other t)) →
      AreAlike p (on_met o next) (on_met o other)
  met_alike (met t) next other h = h t
  met_alike (missing f) next other h = refl
  met_alike unreadable next other h = tt

  charged_by_alike : (b : Bool) (left : ℕ) (next other : ℕ → Outcome) → ((left : ℕ) → AreAlike p (next left) (other left)) →
      AreAlike p (charged_by b left next) (charged_by b left other)
  charged_by_alike true left next other h = refl
  charged_by_alike false left next other h = h left

  charged_alike : (kind : Priced) (gas : ℕ) (next other : ℕ → Outcome) → ((left : ℕ) → AreAlike p (next left) (other left)) →
      AreAlike p (charged p.prices kind gas next) (charged p.others kind gas other)
  charged_alike kind gas next other h =
      subst (λ (q : Listed). AreAlike p (charged p.prices kind gas next) (charged q kind gas other)) p.same
      (charged_by_alike (nat_lt gas (cost p.prices kind 0)) (gas - cost p.prices kind 0) next other h)

  module _ (w : World) (more : List Change) (h : Begins p w more) (gas : ℕ) (counts : Counts) where
    -- ---- transfers

    account_outcome_alike : (o : Option Failure) (t : Transaction) (v : Val) →
        AreAlike p (account_outcome o w t v gas counts) (account_outcome o (twin p more w) t v gas counts)
    account_outcome_alike (Some f) t v = refl
    account_outcome_alike None t v = (
      more,
      log_stays (λ w. received w t v) (received_passes t v) w ∙ h,
      λ k. record {
        world = sym (received_passes t v (p.other ++ more) w) k;
        emitted = [];
        effects = transfer_effect t v [] ∷ [];
        gas = gas;
        counts = counts;
      },
    )

    taken_alike : (o : Option Val) (t : Transaction) → AreAlike p (with_taken o w t gas counts) (with_taken o (twin p more w) t gas counts)
    taken_alike (Some v) t = account_outcome_alike (account_failure w t v) t v
    taken_alike None t = refl

    to_account_alike : (t : Transaction) → AreAlike p (to_account w t gas counts) (to_account (twin p more w) t gas counts)
    to_account_alike t = by (bytes_eq t.entrypoint default_name) where
      by : (b : Bool) →
          AreAlike p (if b then with_taken (taken_by_account t.argument) w t gas counts else failed no_entrypoint)
          (if b then with_taken (taken_by_account t.argument) (twin p more w) t gas counts else failed no_entrypoint)
      by true = taken_alike (taken_by_account t.argument) t
      by false = refl

    called_alike : (t : Transaction) (target : Target) (v : Val) →
        AreAlike p (called (one p) w t target v gas counts) (called (two p) (twin p more w) t target v gas counts)
    called_alike t target v =
        subst (λ (x : World). AreAlike p (called (one p) w t target v gas counts)
        (run (two p) x (record { target = target; sender = t.sender; amount = t.amount; argument = v }) gas counts (transfer_effect t v)))
        (sym (moved_passes t.sender t.destination t.amount (p.other ++ more) w))
        (run_alike p (moved w t.sender t.destination t.amount) more
        (log_stays (λ w. moved w t.sender t.destination t.amount) (moved_passes t.sender t.destination t.amount) w ∙ h)
        (record { target = target; sender = t.sender; amount = t.amount; argument = v }) gas counts (transfer_effect t v))

    covered_alike : (b : Bool) (t : Transaction) (target : Target) (v : Val) →
        AreAlike p (if_covered b (one p) w t target v gas counts) (if_covered b (two p) (twin p more w) t target v gas counts)
    covered_alike true t target v = called_alike t target v
    covered_alike false t target v = refl

    argument_alike : (o : Found Val) (t : Transaction) (target : Target) →
        AreAlike p (with_argument o (one p) w t target gas counts) (with_argument o (two p) (twin p more w) t target gas counts)
    argument_alike (found v) t target = covered_alike (nat_le t.amount (balance_or_none w t.sender)) t target v
    argument_alike (fault l) t target = refl

    delivered_alike : (b : Bool) (t : Transaction) →
        AreAlike p (delivered b (one p) w t gas counts) (delivered b (two p) (twin p more w) t gas counts)
    delivered_alike true t = to_account_alike t
    delivered_alike false t =
        met_alike (search w (hash_in t.destination) t.entrypoint) _ _
        (λ target. argument_alike (argument_in w target.entry.kind t.argument) t target)

    -- ---- originations

    founding_alike : (b : Bool) (f : Founding) →
        AreAlike p (founding_outcome b w f gas counts) (founding_outcome b (twin p more w) f gas counts)
    founding_alike true f = refl
    founding_alike false f = (
      more,
      log_stays (λ w. founded w f) (founded_passes f) w ∙ h,
      λ k. record {
        world = sym (founded_passes f (p.other ++ more) w) k;
        emitted = [];
        effects = Origination f.sender (contract_place f.hash) f.balance ∷ [];
        gas = gas;
        counts = counts;
      },
    )

    found_alike : (f : Founding) → AreAlike p (found_contract (one p) w f gas counts) (found_contract (two p) (twin p more w) f gas counts)
    found_alike f = growing_alike p f.hash _ _ (founding_alike (nat_lt (balance_or_none w f.sender) f.balance) f)

    delegated_alike : (o : Option (List ℕ)) (f : Founding) →
        AreAlike p (unless_delegated (one p) o w f gas counts) (unless_delegated (two p) o (twin p more w) f gas counts)
    delegated_alike (Some d) f = refl
    delegated_alike None f = found_alike f

    -- ---- gifts

    account_given_alike : (b : Bool) (g : Gift) →
        AreAlike p (given_to_account b (one p) w g gas counts) (given_to_account b (two p) (twin p more w) g gas counts)
    account_given_alike true g = refl
    account_given_alike false g = (more, h, refl)

    give_account_alike : (g : Gift) → AreAlike p (give_account (one p) w g gas counts) (give_account (two p) (twin p more w) g gas counts)
    give_account_alike g = by (bytes_eq g.entrypoint default_name) where
      by : (b : Bool) →
          AreAlike p (if b then given_to_account (is_short (one p) w g) (one p) w g gas counts else failed no_entrypoint)
          (if b then given_to_account (is_short (one p) w g) (two p) (twin p more w) g gas counts else failed no_entrypoint)
      by true = account_given_alike (is_short (one p) w g) g
      by false = refl

    contract_given_alike : (b : Bool) (g : Gift) (target : Target) →
        AreAlike p (given_to_contract b (one p) w g target gas counts) (given_to_contract b (two p) (twin p more w) g target gas counts)
    contract_given_alike true g target = refl
    contract_given_alike false g target =
        run_alike p (debited w p.source g.ticket) more h
        (record { target = target; sender = implicit_place p.source; amount = 0; argument = as_value g.ticket }) gas counts
        (give_effect (one p) g)

    wanted_alike : (b : Bool) (g : Gift) (target : Target) →
        AreAlike p (if_wanted b (one p) w g target gas counts) (if_wanted b (two p) (twin p more w) g target gas counts)
    wanted_alike true g target = contract_given_alike (is_short (one p) w g) g target
    wanted_alike false g target = refl

    handed_alike : (b : Bool) (g : Gift) → AreAlike p (handed b (one p) w g gas counts) (handed b (two p) (twin p more w) g gas counts)
    handed_alike true g = give_account_alike g
    handed_alike false g =
        met_alike (search w (hash_in g.destination) g.entrypoint) _ _
        (λ target. wanted_alike (same_kind target.entry.kind (k.ticket g.ticket.kind)) g target)

    offered_alike : (o : Option Held) (destination entrypoint : List ℕ) →
        AreAlike p (with_offered o (one p) w destination entrypoint gas counts)
        (with_offered o (two p) (twin p more w) destination entrypoint gas counts)
    offered_alike (Some t) destination entrypoint =
        handed_alike (is_implicit destination) (record { ticket = t; destination = destination; entrypoint = entrypoint })
    offered_alike None destination entrypoint = refl

  module _ (w : World) (more : List Change) (h : Begins p w more) (gas : ℕ) where
    storage_alike : (o : Found Val) (counts : Counts) (balance : ℕ) (t : Tree) →
        AreAlike p (with_storage o (one p) w balance t gas counts) (with_storage o (two p) (twin p more w) balance t gas counts)
    storage_alike (found v) counts balance t = found_alike w more h gas (one_more counts) (founding_of (one p) counts balance t v)
    storage_alike (fault l) counts balance t = refl

    script_alike : (o : Found Script) (counts : Counts) (balance : ℕ) (t storage : Tree) →
        AreAlike p (with_script o (one p) w balance t storage gas counts)
        (with_script o (two p) (twin p more w) balance t storage gas counts)
    script_alike (found s) counts balance t storage = storage_alike (literal_in w s.storage storage) counts balance t
    script_alike (fault l) counts balance t storage = refl

  module _ (w : World) (more : List Change) (h : Begins p w more) where
    transferred_alike : (t : Transaction) (gas : ℕ) (counts : Counts) →
        AreAlike p (transferred (one p) w t gas counts) (transferred (two p) (twin p more w) t gas counts)
    transferred_alike t gas counts =
        charged_alike price.Transfer gas _ _ (λ left. delivered_alike w more h left counts (is_implicit t.destination) t)

    pub apply_alike : (op : Waiting) (gas : ℕ) (counts : Counts) →
        AreAlike p (apply (one p) w op gas counts) (apply (two p) (twin p more w) op gas counts)
    apply_alike (ordered (Originate balance t storage)) gas counts =
        charged_alike price.Origination gas _ _ (λ left. script_alike w more h left (script t) counts balance t storage)
    apply_alike (ordered (Call amount destination entrypoint argument)) gas counts =
        transferred_alike (ordered_transaction (one p) amount destination entrypoint argument) gas counts
    apply_alike (ordered (Give issuer kind content amount destination entrypoint)) gas counts =
        charged_alike price.Transfer gas _ _
        (λ left. offered_alike w more h left counts
        (offered (record { issuer = issuer; kind = kind; content = content; amount = amount })) destination entrypoint)
    apply_alike (issued sender (transfer argument amount destination)) gas counts =
        transferred_alike (issued_transaction sender argument amount destination) gas counts
    apply_alike (issued sender (origination delegate amount t storage hash)) gas counts =
        charged_alike price.Origination gas _ _
        (λ left. delegated_alike w more h left counts delegate
        (record { sender = sender; hash = hash; balance = amount; script = t; storage = storage }))
    apply_alike (issued sender (event tag a v)) gas counts =
        charged_alike price.Event gas _ _ (λ left. (more, h, refl))
