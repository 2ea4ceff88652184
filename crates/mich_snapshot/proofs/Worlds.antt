-- A sound state stands for a good world in which nothing waits.
use Rattle.std.proofs.Common.{◌≡◌, ◌≤◌, ◌+◌, ◌^◌, ℕ, Bool, true, false, ◌&&◌, List, [], ◌∷◌, length, map, Option, Some, None, refl, sym, ap, subst, ◌∙◌, arith, eq-eqb}
use Rattle.std.specs.Prelude.{ℤ, pos, ◌-◌, ◌+ℤ◌, ◌-ℤ◌, ◌<ℤ◌, ◌≤ℤ◌, ◌==◌, nat_le, int_lt, ◌||◌, FitsSigned, if◌then◌else◌}
use Rattle.std.specs.Int.{w64, w128}
use Rattle.std.specs.List.{All, flat_map, list_all, sum_by}
use Rattle.std.proofs.lemmas.Bool.{and_parts}
use Rattle.std.proofs.lemmas.Int.{ints}
use Rattle.std.proofs.lemmas.List.Elements.{All-nil, All-cons, All-head, All-tail, All-append, All-weaker}
use Rattle.std.proofs.lemmas.List.Sums.{sum_by-cons}
use Rattle.rules_code.specs.evaluation.Surroundings.{Contract}
use Rattle.rules_code.specs.instructions.Arguments.{Found, found, fault}
use Rattle.rules_code.specs.steps.Changes.{minted, burnt, identity_of}
use Rattle.rules_code.specs.typing.Nodes.{script}
use Rattle.rules_code.specs.typing.Scripts.{Script}
use Rattle.rules_data.specs.declared.types.Simple.{Simple}
use Rattle.rules_data.specs.declared.types.Simple.TheVariants as s
use Rattle.rules_data.specs.forms.Spelling.{is_place}
use Rattle.rules_data.specs.types.Attributes.{comparable}
use Rattle.rules_data.specs.types.Kind.{Kind}
use Rattle.rules_data.specs.types.Kind as k
use Rattle.rules_data.specs.values.Forms.{is_ticket_amount}
use Rattle.rules_data.specs.values.Tickets.{Identity, tickets}
use Rattle.rules_data.specs.values.Val.{Val, is_comparable}
use Rattle.rules_data.specs.values.Val as v
use Rattle.rules_text.specs.nodes.Limits.{most_mutez}
use Rattle.rules_world.specs.world.Balances.{supply}
use Rattle.rules_world.specs.world.Forms.{IsAccount, IsChange, IsHolding, IsTwentyBytes, is_moment}
use Rattle.rules_world.specs.world.Good.{IsGood, IsGoodContract, IsGoodWaiting, Stores}
use Rattle.rules_world.specs.world.Holdings.{held, minted_ever, burnt_ever}
use Rattle.rules_world.specs.world.World.{Account}
use Rattle.rules_files.specs.snapshots.Course.{changes_of, ticket_of, world_of}
use Rattle.rules_files.specs.snapshots.Rules.{all_mutez, amount_there, are_sums, has_storage, has_total, is_account, is_contract, is_sound, is_total}
use Rattle.rules_files.specs.snapshots.Spelling.{account_spelling, contract_spelling, total_spelling}
use Rattle.rules_files.specs.snapshots.Spelt.{HasSimpleSpelling, HasSpelling, IsIssuer, IsSpelt, IsSpeltAccount, IsSpeltContract, IsSpeltHolding, IsSpeltTotal}
use Rattle.rules_files.specs.snapshots.State.{State, Total}
use Rattle.laws_data.proofs.binary_lemmas.ForCallers.{half_as_many}
use Rattle.laws_data.proofs.forms_lemmas.ForCallers.{contract_is}
use Rattle.laws_files.proofs.snapshots_lemmas.Fitting.{stored_fit}
use Rattle.laws_files.proofs.snapshots_lemmas.Sorted.{sound_are_in_order}
use Rattle.mich_snapshot.proofs.Alikes.{none_there, there_alike}
use Rattle.mich_snapshot.proofs.SoundParts.{IsSoundTotal, account_holdings, contract_parts, each_holds, sound_parts, total_parts}
use Rattle.mich_snapshot.proofs.Scripts.{storage_is}
use Rattle.mich_snapshot.proofs.Totals.{amount_or, burnt_is, first_alike, first_holds, minted_is, no_total, total_is}

-- ---- identities

issuer_place : (issuer : List ℕ) → IsIssuer issuer → is_place issuer ≡ true
issuer_place issuer h = ap is_place h.2 ∙ contract_is h.0 h.1

simple_comparable : (c : Simple) (x : Val) → HasSimpleSpelling c x → is_comparable x ≡ true
simple_comparable s.Unit v.unit h = refl
simple_comparable s.Bool (v.truth b) h = refl
simple_comparable s.Int (v.number n) h = refl
simple_comparable s.Nat (v.number n) h = refl
simple_comparable s.Mutez (v.number n) h = refl
simple_comparable s.Timestamp (v.number n) h = refl
simple_comparable s.String (v.text b) h = refl
simple_comparable s.Bytes (v.bytes b) h = refl
simple_comparable s.Key (v.bytes b) h = refl
simple_comparable s.KeyHash (v.bytes b) h = refl
simple_comparable s.Signature (v.bytes b) h = refl
simple_comparable s.ChainId (v.bytes b) h = refl
simple_comparable s.Address (v.bytes b) h = refl
simple_comparable c x h = absurd h

spelt_comparable : (a : Kind) (x : Val) → comparable a ≡ true → HasSpelling a x → is_comparable x ≡ true
spelt_comparable (k.simple c) x e h = simple_comparable c x h
spelt_comparable (k.option a) v.nothing e h = refl
spelt_comparable (k.option a) (v.some x) e h = spelt_comparable a x e h
spelt_comparable (k.or a b) (v.left x) e h = spelt_comparable a x (and_parts (comparable a) (comparable b) e).0 h
spelt_comparable (k.or a b) (v.right x) e h = spelt_comparable b x (and_parts (comparable a) (comparable b) e).1 h
spelt_comparable (k.pair a b) (v.both x y) e h =
    let parts = and_parts (comparable a) (comparable b) e in
    ap (λ t. t && is_comparable y) (spelt_comparable a x parts.0 h.0) ∙ spelt_comparable b y parts.1 h.1
spelt_comparable (k.list a) x e h = absurd cc
spelt_comparable (k.set a) x e h = absurd cc
spelt_comparable (k.map a b) x e h = absurd cc
spelt_comparable (k.big_map a b) x e h = absurd cc
spelt_comparable (k.lambda a b) x e h = absurd cc
spelt_comparable (k.ticket a) x e h = absurd cc
spelt_comparable a x e h = absurd h

-- ---- accounts and contracts

holdings_form : (hs : List (Identity × ℤ)) → All IsSpeltHolding hs → All (λ h. pos 0 <ℤ h.1) hs → All IsHolding hs
holdings_form [] spelt positive = All-nil IsHolding
holdings_form (h ∷ hs) spelt positive =
    All-cons IsHolding h hs (issuer_place h.0.issuer (All-head IsSpeltHolding h hs spelt).0.0, All-head (λ h. pos 0 <ℤ h.1) h hs positive)
    (holdings_form hs (All-tail IsSpeltHolding h hs spelt) (All-tail (λ h. pos 0 <ℤ h.1) h hs positive))

account_form : (s : State) (former : Option (List ℕ)) (a : List ℕ × Account) → IsSpeltAccount a → is_account s former a ≡ true → IsAccount a
account_form s former a spelt h =
    let sound = account_holdings s former a h in
    (spelt.0, holdings_form a.1.holdings spelt.3 sound.positive, sound.order)

pub stores : (s : State) (former : Option (List ℕ)) (c : List ℕ × Contract) → IsSpeltContract c → is_contract s former c ≡ true → IsGoodContract (world_of s) c
stores s former c spelt h = by (script c.1.script) refl (contract_parts s former c h).storage
  where
    by : (r : Found Script) → script c.1.script ≡ r → has_storage r c.1.storage ≡ true → Stores (world_of s) c.1.script c.1.storage
    by (fault l) e g = absurd cc
    by (found typed) e g =
        let told : Some spelt.4.0 ≡ Some typed.storage = sym spelt.4.1 ∙ storage_is c.1.script typed e in
        let same : spelt.4.0 ≡ typed.storage = cc in
        let spelling : HasSpelling typed.storage c.1.storage = subst (λ (a : Kind). HasSpelling a c.1.storage) same spelt.4.2 in
        (typed, e, omega (arith, half_as_many c.1.script, spelt.3.0), stored_fit (world_of s) typed.storage c.1.storage spelling g)

-- ---- tickets

moment_form : (n : ℤ) → FitsSigned w64 n → is_moment n ≡ true
moment_form n h = grind (arith, ints)

burnt_amount : (n : ℤ) → FitsSigned w128 n → int_lt (pos 0) n ≡ true → is_ticket_amount n ≡ true
burnt_amount n h e = grind (arith, ints)

total_changes : (s : State) (former : Option Identity) (t : Total) → IsSpeltTotal t → is_total s former t ≡ true → All IsChange (changes_of t)
total_changes s former t spelt h =
    let place = issuer_place t.identity.issuer spelt.0.0 in
    All-cons IsChange (minted (ticket_of t.identity t.minted)) _
    (place, (total_parts s former t h).minted, spelt_comparable t.identity.kind t.identity.content spelt.0.1 spelt.0.3)
    (by (int_lt (pos 0) t.burnt) refl place)
  where
    by : (b : Bool) → int_lt (pos 0) t.burnt ≡ b → is_place t.identity.issuer ≡ true → All IsChange (if b then burnt (ticket_of t.identity t.burnt) ∷ [] else [])
    by false e place = All-nil IsChange
    by true e place = All-cons IsChange (burnt (ticket_of t.identity t.burnt)) [] (place, burnt_amount t.burnt spelt.2 e) (All-nil IsChange)

all_changes : (ts : List Total) → All (λ t. All IsChange (changes_of t)) ts → All IsChange (flat_map changes_of ts)
all_changes [] all = All-nil IsChange
all_changes (t ∷ ts) all =
    All-append IsChange (changes_of t) (flat_map changes_of ts) (All-head (λ t. All IsChange (changes_of t)) t ts all) (all_changes ts (All-tail (λ t. All IsChange (changes_of t)) t ts all))

-- ---- mutez

pub mapped_sum : {X Y : Type 0} (f : Y → ℕ) (g : X → Y) (xs : List X) → sum_by f (map g xs) ≡ sum_by (λ x. f (g x)) xs
mapped_sum f g [] = refl
mapped_sum f g (x ∷ xs) = sum_by-cons f (g x) (map g xs) ∙ ap (λ n. f (g x) + n) (mapped_sum f g xs) ∙ sym (sum_by-cons (λ y. f (g y)) x xs)

supply_is : (s : State) → supply (world_of s) ≡ all_mutez s
supply_is s =
    let accounts = mapped_sum (λ (a : Account). a.balance) (λ (e : List ℕ × Account). e.1) s.accounts in
    let contracts = mapped_sum (λ (c : Contract). c.balance) (λ (e : List ℕ × Contract). e.1) s.contracts in
    λ i. accounts i + contracts i + s.fees + s.storage_burn

supply_within : (s : State) → are_sums s ≡ true → supply (world_of s) ≤ most_mutez
supply_within s h =
    let within = (and_parts (nat_le (all_mutez s) most_mutez) (s.pays || s.storage_burn == 0) h).0 in
    subst (λ (n : ℕ). n ≤ most_mutez) (sym (supply_is s)) (least (all_mutez s) most_mutez within)
  where
    least : (n m : ℕ) → nat_le n m ≡ true → n ≤ m
    least n m e = grind arith

-- ---- the world

abbrev HasTotals : State → List ℕ × Account → Type 0
HasTotals s a = All (λ h. has_total s h.0 ≡ true) a.1.holdings

abbrev HasTotalsStored : State → List ℕ × Contract → Type 0
HasTotalsStored s c = list_all (λ t. has_total s (identity_of t)) (tickets c.1.storage) ≡ true

-- what is held of a ticket is what was minted less what was burnt
balanced : (s : State) (id : Identity) → All (IsSoundTotal s) s.tickets → All (HasTotals s) s.accounts → All (HasTotalsStored s) s.contracts
    → amount_there s id ≡ amount_or (λ t. t.minted) (first_alike id s.tickets) -ℤ amount_or (λ t. t.burnt) (first_alike id s.tickets)
balanced s id totals accounts contracts = by (first_alike id s.tickets) refl
  where
    by : (o : Option Total) → first_alike id s.tickets ≡ o → amount_there s id ≡ amount_or (λ t. t.minted) o -ℤ amount_or (λ t. t.burnt) o
    by None e = none_there s id (no_total id s.tickets e) accounts contracts
    by (Some t) e =
        let found = first_holds id (IsSoundTotal s) s.tickets totals t e in
        there_alike s id t.identity found.1 ∙ found.0.there

minted_within : (s : State) (id : Identity) → All (IsSoundTotal s) s.tickets → amount_or (λ t. t.minted) (first_alike id s.tickets) ≤ℤ pos (2 ^ 127 - 1)
minted_within s id totals = by (first_alike id s.tickets) refl
  where
    within : (n : ℤ) → is_ticket_amount n ≡ true → n ≤ℤ pos (2 ^ 127 - 1)
    within n h = grind (arith, ints)

    by : (o : Option Total) → first_alike id s.tickets ≡ o → amount_or (λ t. t.minted) o ≤ℤ pos (2 ^ 127 - 1)
    by None e = omega (arith, ints)
    by (Some t) e = within t.minted (first_holds id (IsSoundTotal s) s.tickets totals t e).0.minted

nothing_waits : (a b c : ℤ) → a ≡ b -ℤ c → a +ℤ pos 0 ≡ b -ℤ c
nothing_waits a b c h = omega (arith, ints)

pub sound_worlds_are_good : (s : State) → IsSpelt s → is_sound s ≡ true → IsGood (world_of s) []
sound_worlds_are_good s spelt sound =
    let order = sound_are_in_order s sound in
    let parts = sound_parts s sound in
    let totals : All (IsSoundTotal s) s.tickets =
    each_holds total_spelling (is_total s) (λ t. t.identity) IsSpeltTotal (IsSoundTotal s) (λ former t _ h. total_parts s former t h) None s.tickets spelt.tickets.1 parts.tickets in
    let changes : All (λ t. All IsChange (changes_of t)) s.tickets =
    each_holds total_spelling (is_total s) (λ t. t.identity) IsSpeltTotal (λ t. All IsChange (changes_of t)) (total_changes s) None s.tickets spelt.tickets.1 parts.tickets in
    let accounts : All (HasTotals s) s.accounts =
    each_holds account_spelling (is_account s) (λ a. a.0) IsSpeltAccount (HasTotals s) (λ former a _ h. (account_holdings s former a h).totals) None s.accounts spelt.accounts.1 parts.accounts in
    let contracts : All (HasTotalsStored s) s.contracts =
    each_holds contract_spelling (is_contract s) (λ c. c.0) IsSpeltContract (HasTotalsStored s) (λ former c _ h. (contract_parts s former c h).totals) None s.contracts spelt.contracts.1 parts.contracts in
    let minted : (id : Identity) → minted_ever (world_of s) id ≡ amount_or (λ t. t.minted) (first_alike id s.tickets) =
    λ id. minted_is id s.tickets ∙ total_is id (λ t. t.minted) s.tickets order.2 in
    let burnt : (id : Identity) → burnt_ever (world_of s) id ≡ amount_or (λ t. t.burnt) (first_alike id s.tickets) =
    λ id. burnt_is id s.tickets (All-weaker (IsSoundTotal s) (λ t. pos 0 ≤ℤ t.burnt) (λ t h. h.burnt) s.tickets totals) ∙ total_is id (λ t. t.burnt) s.tickets order.2 in
    record {
      sound = record {
        form = record {
          chain = eq-eqb (length s.chain) 4 spelt.chain;
          level = spelt.level;
          moment = moment_form s.moment spelt.moment;
          accounts = each_holds account_spelling (is_account s) (λ a. a.0) IsSpeltAccount IsAccount (account_form s) None s.accounts spelt.accounts.1 parts.accounts;
          accounts_in_order = order.0;
          contracts = All-weaker IsSpeltContract IsTwentyBytes (λ c h. h.0) s.contracts spelt.contracts.1;
          contracts_in_order = order.1;
          log = all_changes s.tickets changes;
        };
        contracts = each_holds contract_spelling (is_contract s) (λ c. c.0) IsSpeltContract (IsGoodContract (world_of s)) (stores s) None s.contracts spelt.contracts.1 parts.contracts;
        minted = λ id. subst (λ (n : ℤ). n ≤ℤ pos (2 ^ 127 - 1)) (sym (minted id)) (minted_within s id totals);
        mutez = supply_within s parts.sums;
      };
      waits = All-nil (IsGoodWaiting (world_of s));
      tickets = λ id.
          nothing_waits (held (world_of s) id) (minted_ever (world_of s) id) (burnt_ever (world_of s) id)
          (balanced s id totals accounts contracts ∙ (λ i. sym (minted id) i -ℤ sym (burnt id) i));
    }
