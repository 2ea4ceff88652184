-- Transfers to accounts.
use Rattle.std.proofs.Common.{◌≡◌, ◌≤◌, ℕ, List, [], Bool, true, false, Some, None, refl, sym, ap, ◌∙◌, ℤ, pos, ◌+ℤ◌, arith, is_none, ◌&&◌, ◌==◌}
use Rattle.std.specs.Prelude.{if◌then◌else◌, nat_lt, int_le}
use Rattle.std.specs.declared.option.Option.{Option}
use Rattle.std.specs.Str.{bytes_eq}
use Rattle.std.proofs.lemmas.Bool.{ltb-false}
use Rattle.std.proofs.lemmas.Int.{ints}
use Rattle.rules_text.specs.nodes.Tree.{Tree}
use Rattle.rules_data.specs.forms.Spelling.{default_name, is_implicit, is_key_hash}
use Rattle.rules_data.specs.declared.types.Simple.TheVariants as plain
use Rattle.rules_data.specs.types.Kind.{Kind}
use Rattle.rules_data.specs.types.Kind as k
use Rattle.rules_data.specs.values.Val.{Val}
use Rattle.rules_data.specs.values.Val as v
use Rattle.rules_data.specs.values.Tickets.{Identity, Held, tickets}
use Rattle.rules_data.specs.values.Literals.{simple_value}
use Rattle.rules_code.specs.steps.Changes.{identity_of, amount_of, amount_in}
use Rattle.rules_code.specs.steps.Failure.{Failure}
use Rattle.rules_code.specs.evaluation.Contracts.{is_taken_by_account}
use Rattle.rules_world.specs.world.World.{World, Account, account_or_none, contract_at, with_account, key_hash_in, identity_order}
use Rattle.rules_world.specs.world.Balances.{supply, balance_or_none, moved}
use Rattle.rules_world.specs.world.Holdings.{held, amount_held, with_amount, credited}
use Rattle.rules_world.specs.world.Outcomes.{Setting, Waiting, Counts}
use Rattle.rules_world.specs.world.Transfers.{Transaction, taken_by_account, as_ticket, account_failure, with_ticket, received, account_outcome, with_taken, to_account}
use Rattle.rules_world.specs.world.Forms.{IsTicket}
use Rattle.rules_world.specs.world.Good.{FitsIn}
use Rattle.laws_world.specs.runs.Going.{KeepsGoing}
use Rattle.laws_world.proofs.accounts.ForCallers.{ticket_positive, credited_held, with_amount_form, Extends, account_supply}
use Rattle.laws_tickets.proofs.totals.ForCallers.{IsBare, simple_bare}
use Rattle.laws_world.proofs.runs.ForCallers.{in_order, implicit_hash, moved_moves, moved_supply, IsOrderly, account_holdings, orderly_account, held_account, orderly_of}
use Rattle.laws_world.proofs.groups_lemmas.Taken.{IsTaken, taken_held}

-- ---- a ticket comes to an account

-- the world after something that moves mutez and adds so much of each identity to what is held
pub record IsReceived (w x : World) (more_held : Identity → ℤ) : Type 0 where
  pub orderly : IsOrderly x
  pub more : Extends (contract_at w) (contract_at x)
  pub none : (q : List ℕ) → contract_at w q ≡ None → contract_at x q ≡ None
  pub log : x.log ≡ w.log
  pub granted : x.granted ≡ w.granted
  pub mutez : supply x ≡ supply w
  pub tickets : (id : Identity) → held x id ≡ held w id +ℤ more_held id

same_balance : (a : Account) (id : Identity) (n : ℤ) → (with_amount a id n).balance ≡ a.balance
same_balance a id n = by (int_le n (pos 0))
  where
    by : (b : Bool) →
        (if b then record a {
          holdings = Rattle.std.specs.Map.remove_entry
              (Rattle.std.specs.BTreeMap.is_at (identity_order id)) a.holdings;
        }
        else record a { holdings = Rattle.std.specs.BTreeMap.insert_entry identity_order a.holdings id n }).balance ≡ a.balance
    by true = refl
    by false = refl

more_by : (x h old new m : ℤ) → x +ℤ old ≡ h +ℤ new → new ≡ old +ℤ m → x ≡ h +ℤ m
more_by x h old new m e f = omega (arith, ints, e, f)

-- an account's holdings are set, so that it has so much more of each
pub account_changed : (w : World) (who : List ℕ) (id : Identity) (n : ℤ) (more_held : Identity → ℤ) → IsOrderly w →
    is_key_hash who ≡ true → Rattle.rules_data.specs.forms.Spelling.is_place id.issuer ≡ true →
    ((j : Identity) → amount_held (with_amount (account_or_none w who) id n) j ≡ amount_held
    (account_or_none w who) j +ℤ more_held j) →
    IsReceived w (with_account w who (with_amount (account_or_none w who) id n)) more_held
account_changed w who id n more_held o key place amounts =
    let h = account_holdings w o who in
    let a = with_amount (account_or_none w who) id n in
    record {
      orderly = orderly_account w who a o key (with_amount_form (account_or_none w who) id n h place);
      more = λ hash c g. (c, g, refl);
      none = λ q g. g;
      log = refl;
      granted = refl;
      mutez = let set = account_supply w who a (in_order w o) in let same = same_balance (account_or_none w who) id n in
          omega (arith, set, same);
      tickets = λ j. more_by (held (with_account w who a) j) (held w j) (amount_held (account_or_none w who) j)
          (amount_held a j) (more_held j) (held_account w who a j o) (amounts j);
    }

pub credited_is : (w : World) (who : List ℕ) (t : Held) → IsOrderly w → is_key_hash who ≡ true → IsTicket t →
    IsReceived w (credited w who t) (λ id. amount_of id t)
credited_is w who t o key i =
    account_changed w who (identity_of t) (amount_held (account_or_none w who) (identity_of t) +ℤ t.amount)
    (λ id. amount_of id t) o key i.0
    (λ id. credited_held (account_or_none w who) t id (account_holdings w o who) (ticket_positive t i.1))

-- ---- what is received

abbrev pub IsTicketIn : Option Held → Type 0
IsTicketIn (Some t) = IsTicket t
IsTicketIn None = Unit {0}

abbrev pub amount_of_one : Identity → Option Held → ℤ
amount_of_one id (Some t) = amount_of id t
amount_of_one id None = pos 0

no_more : (x : ℤ) → x ≡ x +ℤ pos 0
no_more x = omega (arith, ints)

ticket_is : (w : World) (who : List ℕ) (t : Option Held) → IsOrderly w → is_key_hash who ≡ true → IsTicketIn t →
    IsReceived w (with_ticket w who t) (λ id. amount_of_one id t)
ticket_is w who (Some t) o key i = credited_is w who t o key i
ticket_is w who None o key i =
    record {
      orderly = o;
      more = λ hash c g. (c, g, refl);
      none = λ q g. g;
      log = refl;
      granted = refl;
      mutez = refl;
      tickets =
          λ id. no_more (held w id);
    }

received_is : (w : World) (t : Transaction) (x : Val) → IsOrderly w → is_implicit t.destination ≡ true →
    t.amount ≤ balance_or_none w t.sender → IsTicketIn (as_ticket x) →
    IsReceived w (received w t x) (λ id. amount_of_one id (as_ticket x))
received_is w t x o implicit enough i =
    let m = moved_moves w t.sender t.destination t.amount o in
    let y = moved w t.sender t.destination t.amount in
    let r = ticket_is y (key_hash_in t.destination) (as_ticket x) m.orderly (implicit_hash t.destination implicit) i in
    record {
      orderly = r.orderly;
      more = Rattle.laws_world.proofs.accounts.ForCallers.extends_trans (contract_at w) (contract_at y)
          (contract_at (received w t x)) m.more r.more;
      none = λ q g. r.none q (m.none q g);
      log = r.log ∙ m.log;
      granted = r.granted ∙ m.granted;
      mutez = r.mutez ∙ moved_supply w t.sender t.destination t.amount o enough (rw implicit tt);
      tickets = λ id. r.tickets id ∙ ap (λ z. z +ℤ amount_of_one id (as_ticket x)) (m.held id);
    }

-- ---- the transfer

module _ (start : World) (s : Setting) (contents : ℕ) (w : World) (t : Transaction) (waiting : List Waiting) (counts : Counts)
    (over : Identity → ℤ) (taken : IsTaken start s.group contents w over waiting counts)
    (implicit : is_implicit t.destination ≡ true) where
  abbrev pub IsHandedOver : Option Val → Type 0
  IsHandedOver None = Unit {0}
  IsHandedOver (Some x) = IsTicketIn (as_ticket x) × ((id : Identity) → over id ≡ amount_of_one id (as_ticket x))

  outcome_keeps : (x : Val) (gas : ℕ) (f : Option Failure) → account_failure w t x ≡ f → IsHandedOver (Some x) →
      KeepsGoing start s contents waiting (account_outcome f w t x gas counts)
  outcome_keeps x gas (Some failure) e h = tt
  outcome_keeps x gas None e h =
      let enough : t.amount ≤ balance_or_none w t.sender = by (t.amount == 0 && is_none (as_ticket x))
      (nat_lt (balance_or_none w t.sender) t.amount) refl e in
      let r = received_is w t x (orderly_of w taken.sound) implicit enough h.0 in
      taken_held start s.group contents w waiting counts over
      (received w t x) taken r.orderly r.more r.none r.log r.granted r.mutez
      (λ id. r.tickets id ∙ ap (λ z. held w id +ℤ z) (sym (h.1 id)))
    where
      by : (a b : Bool) → nat_lt (balance_or_none w t.sender) t.amount ≡ b →
          (if a then Some Rattle.rules_code.specs.steps.Failure.empty_transaction else if b then Some
          Rattle.rules_code.specs.steps.Failure.balance_too_low else None) ≡ None → t.amount ≤ balance_or_none w t.sender
      by true b e h = absurd cc
      by false true e h = absurd cc
      by false false e h = ltb-false (balance_or_none w t.sender) t.amount e

  taken_keeps : (o : Option Val) (gas : ℕ) → IsHandedOver o → KeepsGoing start s contents waiting (with_taken o w t gas counts)
  taken_keeps None gas h = tt
  taken_keeps (Some x) gas h = outcome_keeps x gas (account_failure w t x) refl h

  pub account_keeps : (gas : ℕ) → (bytes_eq t.entrypoint default_name ≡ true → IsHandedOver (taken_by_account t.argument)) →
      KeepsGoing start s contents waiting (to_account w t gas counts)
  account_keeps gas h = by (bytes_eq t.entrypoint default_name) h
    where
      by : (b : Bool) → (b ≡ true → IsHandedOver (taken_by_account t.argument)) →
          KeepsGoing start s contents waiting (if b then with_taken
          (taken_by_account t.argument) w t gas counts else Rattle.rules_world.specs.world.Outcomes.failed
          Rattle.rules_code.specs.steps.Failure.no_entrypoint)
      by true h = taken_keeps (taken_by_account t.argument) gas (h refl)
      by false h = tt

  -- what a source orders hands over nothing
  pub unit_handed : (u : Tree) → ((id : Identity) → over id ≡ pos 0) → IsHandedOver (simple_value plain.Unit u)
  unit_handed u e = by (simple_value plain.Unit u) (simple_bare plain.Unit u)
    where
      no_ticket : (x : Val) → tickets x ≡ [] → as_ticket x ≡ None
      no_ticket (v.ticket issuer kind content amount) h = absurd cc
      no_ticket _ h = refl

      by : (o : Option Val) → IsBare o → IsHandedOver o
      by None h = tt
      by (Some x) h = let n = no_ticket x h in rw n (tt, e)

  one_more : (x : ℤ) → x +ℤ pos 0 ≡ x
  one_more x = omega (arith, ints)

  -- what a contract issues hands over its argument
  pub value_handed : (a : Kind) (x : Val) → is_taken_by_account a ≡ true → FitsIn w a x →
      ((id : Identity) → over id ≡ amount_in id x) → IsHandedOver (Some x)
  value_handed (k.simple plain.Unit) v.unit i f e = (tt, e)
  value_handed (k.ticket a) (v.ticket issuer kind content amount) i f e = ((f.3, f.2), λ id. e id ∙ one_more _)
  value_handed (k.ticket a) x i f e = absurd f
  value_handed (k.simple plain.Unit) x i f e = absurd cc
  value_handed a x i f e = absurd cc
