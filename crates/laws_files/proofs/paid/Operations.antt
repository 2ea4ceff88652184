-- Each operation leaves a paid world paid.
use Rattle.std.proofs.Common.{◌≡◌, ℕ, List, Bool, true, false, Some, None}
use Rattle.std.specs.Prelude.{nat_le, nat_lt, ◌-◌, if◌then◌else◌}
use Rattle.std.specs.declared.option.Option.{Option}
use Rattle.std.specs.Str.{bytes_eq}
use Rattle.rules_text.specs.nodes.Tree.{Tree}
use Rattle.rules_data.specs.declared.gas.Kind.{Kind as Priced}
use Rattle.rules_data.specs.declared.gas.Kind.TheVariants as price
use Rattle.rules_data.specs.forms.Spelling.{default_name, implicit_place, is_implicit, is_key_hash}
use Rattle.rules_data.specs.gas.Prices.{Listed, cost}
use Rattle.rules_data.specs.types.Kind as k
use Rattle.rules_data.specs.values.Tickets.{Held}
use Rattle.rules_data.specs.values.Val.{Val}
use Rattle.rules_code.specs.evaluation.Contracts.{hash_in}
use Rattle.rules_code.specs.evaluation.Operations.{transfer, origination, event}
use Rattle.rules_code.specs.instructions.Arguments.{Found, found, fault}
use Rattle.rules_code.specs.instructions.Same.{same_kind}
use Rattle.rules_code.specs.steps.Failure.{Failure}
use Rattle.rules_code.specs.typing.Nodes.{script}
use Rattle.rules_code.specs.typing.Scripts.{Script}
use Rattle.rules_world.specs.world.Application.{ordered_transaction, issued_transaction, apply}
use Rattle.rules_world.specs.world.Arguments.{argument_in, literal_in}
use Rattle.rules_world.specs.world.Balances.{balance_or_none, moved}
use Rattle.rules_world.specs.world.Contents.{Originate, Call, Give}
use Rattle.rules_world.specs.world.Gives.{Offer, offered, as_value, Gift, give_effect, is_short, given_to_account, given_to_contract, if_wanted, handed, with_offered, given}
use Rattle.rules_world.specs.world.Holdings.{credited, debited}
use Rattle.rules_world.specs.world.Originations.{Founding, founding_of, one_more, with_storage, with_script, originated, unless_delegated, originated_by_contract}
use Rattle.rules_world.specs.world.Outcomes.{Setting, Waiting, ordered, issued, Counts, Outcome, charged_by, charged}
use Rattle.rules_world.specs.world.Targets.{Target, Search, met, missing, unreadable, search, on_met}
use Rattle.rules_world.specs.world.Transfers.{Transaction, transfer_effect, taken_by_account, as_ticket, account_failure, with_ticket, received, account_outcome, with_taken, if_covered, with_argument, delivered, transferred}
use Rattle.rules_world.specs.world.World.{World, Account, with_account, key_hash_in}
use Rattle.laws_files.proofs.paid.Growing.{AppliesIn}
use Rattle.laws_files.proofs.paid.Moves.{IsPaidBy, moved_paid}
use Rattle.laws_files.proofs.paid.Runs.{run_paid, founding_paid}

-- ---- what outcomes share

module _ (P : World → Type 0) where
  charged_applies : (prices : Listed) (kind : Priced) (gas : ℕ) (next : ℕ → Outcome) → ((left : ℕ) → AppliesIn P (next left)) →
      AppliesIn P (charged prices kind gas next)
  charged_applies prices kind gas next h = by (nat_lt gas (cost prices kind 0))
    where
      by : (b : Bool) → AppliesIn P (charged_by b (gas - cost prices kind 0) next)
      by true = tt
      by false = h (gas - cost prices kind 0)

  met_applies : (q : Search) (next : Target → Outcome) → ((t : Target) → AppliesIn P (next t)) → AppliesIn P (on_met q next)
  met_applies (met t) next h = h t
  met_applies (missing failure) next h = tt
  met_applies unreadable next h = tt

-- accounts have no storage
account_paid : (r : Option ℕ) (w : World) (who : List ℕ) (a : Account) → IsPaidBy r w → IsPaidBy r (with_account w who a)
account_paid r w who a p = record { rate = p.rate; burn = p.burn; contracts = p.contracts }

credited_paid : (r : Option ℕ) (w : World) (who : List ℕ) (t : Held) → IsPaidBy r w → IsPaidBy r (credited w who t)
credited_paid r w who t p = account_paid r w who _ p

debited_paid : (r : Option ℕ) (w : World) (who : List ℕ) (t : Held) → IsPaidBy r w → IsPaidBy r (debited w who t)
debited_paid r w who t p = account_paid r w who _ p

module _ (r : Option ℕ) (s : Setting) (key : is_key_hash s.source ≡ true) (w : World) (p : IsPaidBy r w) where
  abbrev Keeps : Outcome → Type 0
  Keeps o = AppliesIn (IsPaidBy r) o

  -- ---- transfers

  module _ (t : Transaction) (counts : Counts) where
    received_paid : (v : Val) → IsPaidBy r (received w t v)
    received_paid v = by (as_ticket v)
      where
        by : (h : Option Held) → IsPaidBy r (with_ticket (moved w t.sender t.destination t.amount) (key_hash_in t.destination) h)
        by (Some h) = credited_paid r (moved w t.sender t.destination t.amount) (key_hash_in t.destination) h
            (moved_paid r w t.sender t.destination t.amount p)
        by None = moved_paid r w t.sender t.destination t.amount p

    outcome_paid : (f : Option Failure) (v : Val) (gas : ℕ) → Keeps (account_outcome f w t v gas counts)
    outcome_paid (Some failure) v gas = tt
    outcome_paid None v gas = received_paid v

    taken_paid : (v : Option Val) (gas : ℕ) → Keeps (with_taken v w t gas counts)
    taken_paid (Some v) gas = outcome_paid (account_failure w t v) v gas
    taken_paid None gas = tt

    covered_paid : (b : Bool) (target : Target) (v : Val) (gas : ℕ) → Keeps (if_covered b s w t target v gas counts)
    covered_paid true target v gas =
        run_paid r (moved w t.sender t.destination t.amount) (moved_paid r w t.sender t.destination t.amount p) s key
        (record { target = target; sender = t.sender; amount = t.amount; argument = v }) gas counts (transfer_effect t v)
    covered_paid false target v gas = tt

    argument_paid : (v : Found Val) (target : Target) (gas : ℕ) → Keeps (with_argument v s w t target gas counts)
    argument_paid (found v) target gas = covered_paid (nat_le t.amount (balance_or_none w t.sender)) target v gas
    argument_paid (fault location) target gas = tt

    delivered_paid : (b : Bool) (gas : ℕ) → Keeps (delivered b s w t gas counts)
    delivered_paid true gas = by (bytes_eq t.entrypoint default_name)
      where
        by : (b : Bool) → Keeps (if b then with_taken (taken_by_account t.argument) w t gas counts
            else Rattle.rules_world.specs.world.Outcomes.failed Rattle.rules_code.specs.steps.Failure.no_entrypoint)
        by true = taken_paid (taken_by_account t.argument) gas
        by false = tt
    delivered_paid false gas =
        met_applies (IsPaidBy r) (search w (hash_in t.destination) t.entrypoint) _
        (λ target. argument_paid (argument_in w target.entry.kind t.argument) target gas)

    transferred_paid : (gas : ℕ) → Keeps (transferred s w t gas counts)
    transferred_paid gas =
        charged_applies (IsPaidBy r) s.prices price.Transfer gas _ (λ left. delivered_paid (is_implicit t.destination) left)

  -- ---- gifts

  module _ (g : Gift) (gas : ℕ) (counts : Counts) where
    account_given_paid : (b : Bool) → Keeps (given_to_account b s w g gas counts)
    account_given_paid true = tt
    account_given_paid false =
        credited_paid r (debited w s.source g.ticket) (key_hash_in g.destination) g.ticket (debited_paid r w s.source g.ticket p)

    contract_given_paid : (b : Bool) (target : Target) → Keeps (given_to_contract b s w g target gas counts)
    contract_given_paid true target = tt
    contract_given_paid false target =
        run_paid r (debited w s.source g.ticket) (debited_paid r w s.source g.ticket p) s key
        (record { target = target; sender = implicit_place s.source; amount = 0; argument = as_value g.ticket })
        gas counts (give_effect s g)

    wanted_paid : (b : Bool) (target : Target) → Keeps (if_wanted b s w g target gas counts)
    wanted_paid true target = contract_given_paid (is_short s w g) target
    wanted_paid false target = tt

    handed_paid : (b : Bool) → Keeps (handed b s w g gas counts)
    handed_paid true = by (bytes_eq g.entrypoint default_name)
      where
        by : (b : Bool) → Keeps (if b then given_to_account (is_short s w g) s w g gas counts
            else Rattle.rules_world.specs.world.Outcomes.failed Rattle.rules_code.specs.steps.Failure.no_entrypoint)
        by true = account_given_paid (is_short s w g)
        by false = tt
    handed_paid false =
        met_applies (IsPaidBy r) (search w (hash_in g.destination) g.entrypoint) _
        (λ target. wanted_paid (same_kind target.entry.kind (k.ticket g.ticket.kind)) target)

  given_paid : (o : Offer) (destination entrypoint : List ℕ) (gas : ℕ) (counts : Counts) →
      Keeps (given s w o destination entrypoint gas counts)
  given_paid o destination entrypoint gas counts =
      charged_applies (IsPaidBy r) s.prices price.Transfer gas _ (λ left. by left (offered o))
    where
      by : (left : ℕ) (t : Option Held) → Keeps (with_offered t s w destination entrypoint left counts)
      by left (Some t) =
          handed_paid (record { ticket = t; destination = destination; entrypoint = entrypoint }) left counts (is_implicit destination)
      by left None = tt

  -- ---- originations

  storage_paid : (v : Found Val) (balance : ℕ) (t : Tree) (gas : ℕ) (counts : Counts) →
      Keeps (with_storage v s w balance t gas counts)
  storage_paid (found v) balance t gas counts = founding_paid r w p s key (founding_of s counts balance t v) gas (one_more counts)
  storage_paid (fault location) balance t gas counts = tt

  script_paid : (x : Found Script) (balance : ℕ) (t storage : Tree) (gas : ℕ) (counts : Counts) →
      Keeps (with_script x s w balance t storage gas counts)
  script_paid (found x) balance t storage gas counts = storage_paid (literal_in w x.storage storage) balance t gas counts
  script_paid (fault location) balance t storage gas counts = tt

  originated_paid : (balance : ℕ) (t storage : Tree) (gas : ℕ) (counts : Counts) →
      Keeps (originated s w balance t storage gas counts)
  originated_paid balance t storage gas counts =
      charged_applies (IsPaidBy r) s.prices price.Origination gas _ (λ left. script_paid (script t) balance t storage left counts)

  delegated_paid : (delegate : Option (List ℕ)) (f : Founding) (gas : ℕ) (counts : Counts) →
      Keeps (unless_delegated s delegate w f gas counts)
  delegated_paid (Some delegate) f gas counts = tt
  delegated_paid None f gas counts = founding_paid r w p s key f gas counts

  by_contract_paid : (delegate : Option (List ℕ)) (f : Founding) (gas : ℕ) (counts : Counts) →
      Keeps (originated_by_contract s w delegate f gas counts)
  by_contract_paid delegate f gas counts =
      charged_applies (IsPaidBy r) s.prices price.Origination gas _ (λ left. delegated_paid delegate f left counts)

  -- ---- all operations

  pub apply_paid : (op : Waiting) (gas : ℕ) (counts : Counts) → Keeps (apply s w op gas counts)
  apply_paid (ordered (Originate balance t storage)) gas counts = originated_paid balance t storage gas counts
  apply_paid (ordered (Call amount destination entrypoint argument)) gas counts =
      transferred_paid (ordered_transaction s amount destination entrypoint argument) counts gas
  apply_paid (ordered (Give issuer kind content amount destination entrypoint)) gas counts =
      given_paid (record { issuer = issuer; kind = kind; content = content; amount = amount }) destination entrypoint gas counts
  apply_paid (issued sender (transfer argument amount address)) gas counts =
      transferred_paid (issued_transaction sender argument amount address) counts gas
  apply_paid (issued sender (origination delegate amount t storage hash)) gas counts =
      by_contract_paid delegate (record { sender = sender; hash = hash; balance = amount; script = t; storage = storage }) gas counts
  apply_paid (issued sender (event tag a v)) gas counts =
      charged_applies (IsPaidBy r) s.prices price.Event gas _ (λ left. p)
