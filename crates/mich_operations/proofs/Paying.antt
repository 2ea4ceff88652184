-- Transfers to accounts.
use Rattle.std.proofs.Common.{◌≡◌, ◌≢◌, ◌≤◌, ◌<◌, ◌-◌, ◌==◌, ◌&&◌, ◌||◌, ℕ, List, [], ◌∷◌, map, Bool, true, false, is_none, None, Some, refl, sym, ap, ◌∙◌, subst, arith, Ok, Err, Result}
use Rattle.std.specs.Prelude.{nat_lt, if◌then◌else◌}
use Rattle.std.specs.declared.option.Option.{Option}
use Rattle.std.specs.List.{AllByRecursion}
use Rattle.std.specs.Str.{bytes_eq}
use Rattle.std.proofs.lemmas.Bool.Decides.{nat_tests}
use Rattle.rules_data.specs.forms.Spelling.{default_name, spelled_address, implicit_place, is_implicit, is_key_hash, is_place}
use Rattle.rules_data.specs.declared.gas.Kind.{Kind}
use Rattle.rules_data.specs.gas.Prices.{Listed, cost}
use Rattle.rules_code.specs.steps.Failure.{Failure, empty_transaction, balance_too_low, no_entrypoint}
use Rattle.rules_data.specs.values.Canonical.{canonical}
use Rattle.rules_data.specs.values.Val.{Val, Pairs, unit}
use Rattle.rules_text.specs.nodes.Tree.{Tree}
use Rattle.rules_data.specs.declared.types.Simple.TheVariants as simple
use Rattle.rules_data.specs.values.Literals.{simple_value}
use Rattle.rules_world.specs.world.Application.{ordered_transaction}
use Rattle.rules_world.specs.world.Arguments.{Argument, node}
use Rattle.rules_world.specs.world.Contents.{Call}
use Rattle.rules_world.specs.world.Good.{IsGoodWaiting}
use Rattle.std.proofs.lemmas.List.Elements.{All-head}
use Rattle.mich_bigmap.specs.Bases.{Bases}
use Rattle.mich_bigmap.specs.Standing.{val_in, big_step_in}
use Rattle.mich_term.specs.ValueView.{value_step}
use Rattle.mich_term.specs.declared.value.Value.{fold-roll-Value}
use Rattle.mich_term.specs.declared.value.Value.TheOpen.{Value-F}
use Rattle.mich_term.specs.declared.value.Value.TheVariants as value
use Rattle.mich_term.specs.declared.value.Value.TheVariants.{rolls-Unit}
use Rattle.rules_world.specs.world.Balances.{balance_or_none}
use Rattle.rules_world.specs.world.Balances as rules
use Rattle.rules_world.specs.world.Receipts.{Transfer}
use Rattle.rules_world.specs.world.Outcomes.{Setting, ordered, Outcome, applied, failed, charged, charged_by, Counts as PlainCounts}
use Rattle.rules_world.specs.world.Transfers.{Transaction, as_ticket, account_failure, account_outcome, with_taken, to_account, received, with_ticket, delivered}
use Rattle.rules_world.specs.world.World.{World as PlainWorld, key_hash_in}
use Rattle.mich_forms.specs.Spelled.{place_bytes}
use Rattle.mich_base.specs.Counted.{IsNotEmpty}
use Rattle.mich_base.specs.View.{tree}
use Rattle.mich_base.specs.declared.node.Node.{Node}
use Rattle.mich_forms.specs.declared.places.Place.{Place}
use Rattle.mich_forms.specs.declared.places.Place.TheVariants as place
use Rattle.mich_machine.specs.Calls.{counts_of, IsHanded}
use Rattle.mich_state.specs.declared.state.Counts.{Counts}
use Rattle.mich_ops.specs.Told.{told}
use Rattle.mich_ops.specs.View.{failure, effect as effect_of}
use Rattle.mich_ops.specs.declared.failure.Failure.{Failure as Why}
use Rattle.mich_ops.specs.declared.receipt.Effect.TheVariants as effect
use Rattle.mich_world.specs.Holders.{may_receive, moved, balance_or_none as balance_in}
use Rattle.mich_world.specs.Standing.{StandsFor}
use Rattle.mich_world.specs.World.{World, with_funds}
use Rattle.mich_world.proofs.ForCallers.{balance_or_none_is, moves_agree}
use Rattle.mich_operations.specs.Going.{Begins, EndsAs, grown, issued_by}
use Rattle.mich_operations.specs.Transfers.{AreBetween, transaction}
use Rattle.mich_operations.specs.declared.applied.Applied.{Applied}
use Rattle.mich_operations.specs.declared.applied.ApplyError.{ApplyError}
use Rattle.mich_operations.specs.declared.applied.ApplyError.TheVariants.{Failed}

-- ---- outcomes that are one

pub ends_along : (o p : Outcome) (v : World) (gas : ℕ) (old new : Counts) (r : Result Applied ApplyError) → o ≡ p → EndsAs p v gas old new r → EndsAs o v gas old new r
ends_along o p v gas old new r e h = subst (λ o. EndsAs o v gas old new r) (sym e) h

pub ends_failed : (o : Outcome) (v : World) (gas : ℕ) (old new : Counts) (f : Why) (why : Failure) → o ≡ failed why → failure f ≡ told why → EndsAs o v gas old new (Err (Failed f))
ends_failed o v gas old new f why e h = ends_along o (failed why) v gas old new (Err (Failed f)) e h

-- ---- prices

pub charged_paid : (prices : Listed) (kind : Kind) (gas left : ℕ) (next : ℕ → Outcome) → nat_lt gas (cost prices kind 0) ≡ false → left ≡ gas - cost prices kind 0 →
    charged prices kind gas next ≡ next left
charged_paid prices kind gas left next h e = ap (λ b. charged_by b (gas - cost prices kind 0) next) h ∙ ap next (sym e)

-- ---- to an account

nonzero : (n : ℕ) → n ≢ 0 → (n == 0) ≡ false
nonzero n h = grind (arith, nat_tests)

pub below : (n m : ℕ) → n < m → nat_lt n m ≡ true
below n m h = grind (arith, nat_tests)

pub not_below : (n m : ℕ) → m ≤ n → nat_lt n m ≡ false
not_below n m h = grind (arith, nat_tests)

module _ (w : PlainWorld) (t : Transaction) (x : Val) where
  abbrev fails : Bool → Bool → Option Failure
  fails a b = if a then Some empty_transaction else if b then Some balance_too_low else None

  some_paid : t.amount ≢ 0 → ((t.amount == 0) && is_none (as_ticket x)) ≡ false
  some_paid h = ap (λ b. b && is_none (as_ticket x)) (nonzero t.amount h)

  pub low_fails : t.amount ≢ 0 → balance_or_none w t.sender < t.amount → account_failure w t x ≡ Some balance_too_low
  low_fails h low = λ i. fails (some_paid h i) (below (balance_or_none w t.sender) t.amount low i)

  pub none_fails : t.amount ≢ 0 → t.amount ≤ balance_or_none w t.sender → account_failure w t x ≡ None
  none_fails h enough = λ i. fails (some_paid h i) (not_below (balance_or_none w t.sender) t.amount enough i)

module _ (u : World) (w : PlainWorld) (from : Place) (to entry : List ℕ) (amount : ℕ) (argument : Argument) (x : Val) (gas : ℕ) (counts : Counts)
    (b : AreBetween u w from (place.Implicit to)) where
  abbrev t : Transaction
  t = transaction from (place.Implicit to) entry amount argument

  balance_here : balance_in u.funds.present from ≡ balance_or_none w t.sender
  balance_here = balance_or_none_is u.funds.present u.store.bases.present u.ledger.books.present w from b.stands.those b.sender

  pub pays_too_much : (v : World) (f : Why) → amount ≢ 0 → balance_in u.funds.present from < amount → failure f ≡ told balance_too_low →
      EndsAs (with_taken (Some x) w t gas (counts_of counts)) v gas counts counts (Err (Failed f))
  pays_too_much v f some low h =
      ends_failed _ v gas counts counts f balance_too_low
      (ap (λ o. account_outcome o w t x gas (counts_of counts)) (low_fails w t x some (subst (λ n. n < amount) balance_here low))) h

  pub pays : (v : World) (literal : Node) (a : Applied) → a.effect ≡ effect.Transfer from (record { place = place.Implicit to; entrypoint = entry }) amount literal [] → a.emitted ≡ [] → a.growth ≡ None → amount ≢ 0 → as_ticket x ≡ None → may_receive u.funds.present from ≡ true → amount ≤ balance_in u.funds.present from →
      v ≡ with_funds u v.funds → v.funds.present ≡ moved u.funds.present from (place.Implicit to) amount → tree literal ≡ canonical x →
      EndsAs (with_taken (Some x) w t gas (counts_of counts)) v gas counts counts
      (Ok a)
  pays v literal a done nothing alone some plain there enough e m printed = record {
    world = received w t x;
    stands = subst (λ o. StandsFor v (with_ticket (rules.moved w t.sender t.destination amount) (key_hash_in t.destination) o)) (sym plain)
        (moves_agree u v w from (place.Implicit to) amount b.stands b.form b.sender b.receiver there refl e m);
    same = ap (λ o. account_outcome o w t x gas (counts_of counts)) (none_fails w t x some (subst (λ n. amount ≤ n) balance_here enough))
        ∙ (λ i. applied (record {
          world = received w t x;
          emitted = map (issued_by v.store.bases.present a.by) (sym nothing i);
          effects = (ap (λ n. Transfer t.sender (spelled_address t.destination entry) amount n []) (sym printed) ∙ ap effect_of (sym done)) i ∷ grown (sym alone i);
          gas = gas;
          counts = counts_of counts;
        }));
    group = refl;
    handed = subst (AllByRecursion (IsHanded v.store.bases.present)) (sym nothing) tt;
    there = λ h. absurd (subst IsNotEmpty nothing h);
  }

-- ---- what a source orders

pub unit_in : (bs : Bases) → val_in bs value.Unit ≡ unit
unit_in bs = ap (val_in bs) (sym rolls-Unit) ∙ fold-roll-Value Val Pairs value_step (big_step_in bs) Value-F.Unit

-- an account takes `Unit` at its one entrypoint
pub to_default : (w : PlainWorld) (source to entry : List ℕ) (amount : ℕ) (argument : Tree) (bs : Bases) (gas : ℕ) (counts : Counts) (v : World) (r : Result Applied ApplyError) →
    entry ≡ default_name → simple_value simple.Unit argument ≡ Some unit →
    EndsAs (with_taken (Some (val_in bs value.Unit)) w (transaction (place.Implicit source) (place.Implicit to) entry amount (node argument)) gas (counts_of counts)) v gas counts counts r →
    EndsAs (to_account w (transaction (place.Implicit source) (place.Implicit to) entry amount (node argument)) gas (counts_of counts)) v gas counts counts r
to_default w source to entry amount argument bs gas counts v r named taken h =
    let t = transaction (place.Implicit source) (place.Implicit to) entry amount (node argument) in
    ends_along (to_account w t gas (counts_of counts)) (with_taken (Some (val_in bs value.Unit)) w t gas (counts_of counts)) v gas counts counts r
    (ap (λ (n : List ℕ). if bytes_eq n default_name then with_taken (simple_value simple.Unit argument) w t gas (counts_of counts) else failed no_entrypoint) named
    ∙ ap (λ (o : Option Val). with_taken o w t gas (counts_of counts)) (taken ∙ ap Some (sym (unit_in bs))))
    h

pub source_place : (source : List ℕ) → is_key_hash source ≡ true → is_place (implicit_place source) ≡ true
source_place source h = rw h refl

-- where a source calls an account
pub between : (v : World) (w : PlainWorld) (s : Setting) (amount : ℕ) (entry : List ℕ) (argument : Tree) (to : Place) (who : List ℕ) (counts : PlainCounts) → to ≡ place.Implicit who →
    Begins v w s (ordered (Call amount (place_bytes to) entry argument)) counts → AreBetween v w (place.Implicit s.source) (place.Implicit who)
between v w s amount entry argument to who counts e b = record {
  stands = b.stands;
  form = b.next.going.good.sound.form;
  sender = source_place s.source b.next.setting.source;
  receiver = subst (λ (p : Place). is_place (place_bytes p) ≡ true) e
      (All-head (IsGoodWaiting w) (ordered (Call amount (place_bytes to) entry argument)) b.next.behind b.next.going.good.waits).1.0;
}

pub or_false : (b : Bool) → (b || false) ≡ true → b ≡ true
or_false true h = refl
or_false false h = h

pub delivers : (s : Setting) (w : PlainWorld) (amount : ℕ) (entry : List ℕ) (argument : Tree) (to : Place) (who : List ℕ) (gas : ℕ) (counts : Counts) (v : World) (r : Result Applied ApplyError) →
    to ≡ place.Implicit who → is_place (place_bytes (place.Implicit who)) ≡ true →
    EndsAs (to_account w (transaction (place.Implicit s.source) (place.Implicit who) entry amount (node argument)) gas (counts_of counts)) v gas counts counts r →
    EndsAs (delivered (is_implicit (place_bytes to)) s w (ordered_transaction s amount (place_bytes to) entry argument) gas (counts_of counts)) v gas counts counts r
delivers s w amount entry argument to who gas counts v r e p h =
    let here : is_implicit (place_bytes (place.Implicit who)) ≡ true = or_false (is_implicit (place_bytes (place.Implicit who))) p in
    ends_along
    (delivered (is_implicit (place_bytes to)) s w (ordered_transaction s amount (place_bytes to) entry argument) gas (counts_of counts))
    (to_account w (transaction (place.Implicit s.source) (place.Implicit who) entry amount (node argument)) gas (counts_of counts)) v gas counts counts r
    (ap (λ (q : Place). delivered (is_implicit (place_bytes q)) s w (ordered_transaction s amount (place_bytes q) entry argument) gas (counts_of counts)) e
    ∙ ap (λ (b : Bool). delivered b s w (ordered_transaction s amount (implicit_place who) entry argument) gas (counts_of counts)) here)
    h
