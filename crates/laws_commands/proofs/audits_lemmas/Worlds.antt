-- A world behind receipts is told.
use Rattle.std.proofs.Common.{◌≡◌, ◌≤◌, ℕ, Bool, true, is_some, List, [], ◌∷◌, map, sym, subst, arith}
use Rattle.std.specs.Prelude.{ℤ, pos, ◌+ℤ◌, ◌-ℤ◌, ◌<ℤ◌, ◌≤ℤ◌, ◌^◌, ◌-◌, unsigned_abs}
use Rattle.std.specs.List.{All, AllByRecursion}
use Rattle.std.specs.declared.cmp.Ordering.{Ordering}
use Rattle.std.specs.declared.cmp.Ordering.TheVariants.{Less, Equal, Greater}
use Rattle.std.specs.Ordering.{match_ordering}
use Rattle.std.proofs.lemmas.Int.{ints}
use Rattle.std.proofs.lemmas.Bool.Decides.{nat_tests}
use Rattle.std.proofs.lemmas.List.Elements.{All-head, All-tail}
use Rattle.rules_text.specs.nodes.Limits.{most_mutez}
use Rattle.rules_data.specs.forms.Spelling.{is_place}
use Rattle.rules_data.specs.values.Forms.{is_ticket_amount}
use Rattle.rules_data.specs.values.Val.{is_comparable}
use Rattle.rules_data.specs.values.Tickets.{Identity}
use Rattle.rules_code.specs.evaluation.Surroundings.{Contract}
use Rattle.rules_code.specs.steps.Changes.{Change, minted, burnt}
use Rattle.rules_code.specs.steps.Changes as changes
use Rattle.rules_world.specs.world.Receipts.{Receipt}
use Rattle.rules_world.specs.world.World.{World, Account, identity_order}
use Rattle.rules_world.specs.world.Forms.{IsAccount, IsHolding, IsChange}
use Rattle.rules_world.specs.world.Balances.{supply}
use Rattle.rules_world.specs.world.Good.{IsGoodContract, known_with}
use Rattle.rules_world.specs.world.Holdings.{held, minted_ever, burnt_ever, identities, with_identity}
use Rattle.rules_audit.specs.Fields.{Sort, Part}
use Rattle.rules_audit.specs.Fields as fields
use Rattle.rules_audit.specs.Verdicts.{all_mutez, all_parts, total}
use Rattle.laws_world.proofs.runs.ForCallers.{script_code}
use Rattle.laws_commands.specs.audits.FileLogs.{receipts_changes}
use Rattle.laws_commands.specs.audits.ToldLines.{identity_of, change_part, holding_part, account_line, contract_line}
use Rattle.laws_commands.specs.audits.Receipts.{IsAmount}
use Rattle.laws_commands.specs.audits.States.{IsToldHolding, IsToldAccount, IsToldContract, IsToldTicket}
use Rattle.laws_commands.specs.audits.Totals.{IsBehind, parts_of}
use Rattle.laws_commands.specs.audits.Runs.{WorldsAreTold}
use Rattle.laws_commands.proofs.audits_lemmas.Follows.{ArePlain, identities_plain}
use Rattle.laws_commands.proofs.audits_lemmas.Judged.{IsOfTicket, own_amount, balance, three_of_tickets}
use Rattle.laws_commands.proofs.audits_lemmas.Supply.{accounts_mutez, contracts_mutez}
use Rattle.laws_commands.proofs.audits_lemmas.Tickets.{fitting_tells}
use Rattle.laws_commands.proofs.audits_lemmas.Totals.{totals_told, three, parts_three}
use Rattle.laws_commands.proofs.common.Lists.{all_first, all_second}

-- ---- mutez

within_mutez : (n : ℕ) → n ≤ most_mutez → IsAmount n
within_mutez n h = omega (arith, h)

accounts_within : (most : ℕ) (xs : List (List ℕ × Account)) → all_mutez (map account_line xs) ≤ most → AllByRecursion (λ a. a.1.balance ≤ most) xs
accounts_within most [] h = tt
accounts_within most (x ∷ xs) h = (omega (arith, h), accounts_within most xs (omega (arith, h)))

contracts_within : (most : ℕ) (rated : Bool) (xs : List (List ℕ × Contract)) → all_mutez (map (contract_line rated) xs) ≤ most → AllByRecursion (λ c. c.1.balance ≤ most) xs
contracts_within most rated [] h = tt
contracts_within most rated (x ∷ xs) h = (omega (arith, h), contracts_within most rated xs (omega (arith, h)))

-- ---- tickets

abbrev most : ℕ
most = 2 ^ 127 - 1

within : (m b h : ℕ) (M B H : ℤ) → pos m ≡ M → pos b ≡ B → pos h ≡ H → H +ℤ pos 0 ≡ M -ℤ B → M ≤ℤ pos (2 ^ 127 - 1) → (m ≤ 2 ^ 127 - 1) × (b ≤ 2 ^ 127 - 1) × (h ≤ 2 ^ 127 - 1)
within m b h M B H e f g k l = (omega (arith, ints, e, l), omega (arith, ints, e, f, g, k, l), omega (arith, ints, e, f, g, k, l))

totals_within : (rs : List Receipt) (w : World) (id : Identity) → IsBehind rs w → is_comparable id.content ≡ true → (s : Sort) → total s (identity_of id) (parts_of rs w) ≤ most
totals_within rs w id h c s = by (totals_told rs w id h c) s
  where
    by : (pos (total Sort.minted (identity_of id) (parts_of rs w)) ≡ minted_ever w id) × (pos (total Sort.burnt (identity_of id) (parts_of rs w)) ≡ burnt_ever w id)
        × (pos (total Sort.held (identity_of id) (parts_of rs w)) ≡ held w id) → (s : Sort) → total s (identity_of id) (parts_of rs w) ≤ most
    by t Sort.minted = (within _ _ _ _ _ _ t.0 t.1 t.2 (balance rs w id h) (h.good.sound.minted id)).0
    by t Sort.burnt = (within _ _ _ _ _ _ t.0 t.1 t.2 (balance rs w id h) (h.good.sound.minted id)).1
    by t Sort.held = (within _ _ _ _ _ _ t.0 t.1 t.2 (balance rs w id h) (h.good.sound.minted id)).2

-- each part is within the whole
parts_within : (rs : List Receipt) (w : World) → IsBehind rs w → (ps : List Part) → AllByRecursion IsOfTicket ps →
    ((s : Sort) (i : fields.Identity) → total s i ps ≤ total s i (parts_of rs w)) → AllByRecursion (λ p. p.amount ≤ most) ps
parts_within rs w h [] o le = tt
parts_within rs w h (p ∷ ps) o le =
    let own = own_amount p in
    let whole = le p.sort p.identity in
    let top : total p.sort p.identity (parts_of rs w) ≤ most =
    subst (λ i. total p.sort i (parts_of rs w) ≤ most) (sym o.0.2) (totals_within rs w o.0.0 h o.0.1 p.sort) in
    (omega (arith, own, whole, top), parts_within rs w h ps o.1 (λ s i. let l = le s i in omega (arith, l)))

is_amount : (n : ℤ) → pos 0 <ℤ n → unsigned_abs n ≤ most → is_ticket_amount n ≡ true
is_amount n p h = by n p h
  where
    under : (m : ℕ) → pos 0 <ℤ ℤ.negsuc m → ⊥
    under m h = omega (arith, ints)

    positive : (m : ℕ) → pos 0 <ℤ pos m → m ≤ 2 ^ 127 - 1 → is_ticket_amount (pos m) ≡ true
    positive m p h = grind (arith, nat_tests, ints)

    by : (n : ℤ) → pos 0 <ℤ n → unsigned_abs n ≤ most → is_ticket_amount n ≡ true
    by (pos m) p h = positive m p h
    by (ℤ.negsuc m) p h = absurd (under m p)

holdings_are_told : (hs : List (Identity × ℤ)) → All IsHolding hs → AllByRecursion (λ p. p.amount ≤ most) (map holding_part hs) → AllByRecursion IsToldHolding hs
holdings_are_told [] f h = tt
holdings_are_told (x ∷ hs) f h =
    let form = All-head IsHolding x hs f in
    ((form.0, is_amount x.1 form.1 h.0), holdings_are_told hs (All-tail IsHolding x hs f) h.1)

accounts_are_told : (xs : List (List ℕ × Account)) → All IsAccount xs → AllByRecursion (λ a. a.1.balance ≤ most_mutez) xs →
    AllByRecursion (λ p. p.amount ≤ most) (all_parts (map account_line xs)) → AllByRecursion IsToldAccount xs
accounts_are_told [] f m h = tt
accounts_are_told (x ∷ xs) f m h =
    let form = All-head IsAccount x xs f in (
      (within_mutez x.1.balance m.0, holdings_are_told x.1.holdings form.1 (all_first _ (map holding_part x.1.holdings) _ h)),
      accounts_are_told xs (All-tail IsAccount x xs f) m.1 (all_second _ (map holding_part x.1.holdings) _ h),
    )

contracts_are_told : (w : World) (xs : List (List ℕ × Contract)) → All (IsGoodContract w) xs → AllByRecursion (λ c. c.1.balance ≤ most_mutez) xs → AllByRecursion IsToldContract xs
contracts_are_told w [] f m = tt
contracts_are_told w (x ∷ xs) f m =
    let stores = All-head (IsGoodContract w) x xs f in (
      (within_mutez x.1.balance m.0, fitting_tells (known_with w []) stores.0.storage x.1.storage (script_code x.1.script stores.0 stores.1).formed stores.3),
      contracts_are_told w xs (All-tail (IsGoodContract w) x xs f) m.1,
    )

-- ---- the tickets that were minted

abbrev HavePlaces : List Identity → Type 0
HavePlaces is = AllByRecursion (λ i. is_place i.issuer ≡ true) is

with_place : (i : Identity) (is : List Identity) → is_place i.issuer ≡ true → HavePlaces is → HavePlaces (with_identity i is)
with_place i [] c p = (c, tt)
with_place i (j ∷ is) c p = by (identity_order i j) (with_place i is c p.1)
  where
    by : (o : Ordering) → HavePlaces (with_identity i is) → HavePlaces (match_ordering o (i ∷ j ∷ is) (j ∷ is) (j ∷ with_identity i is))
    by Less h = (c, p)
    by Equal h = p
    by Greater h = (p.0, h)

have_places : (cs : List Change) → All IsChange cs → HavePlaces (identities cs)
have_places [] h = tt
have_places (minted t ∷ cs) h =
    with_place (changes.identity_of t) (identities cs) (All-head IsChange (minted t) cs h).0 (have_places cs (All-tail IsChange (minted t) cs h))
have_places (burnt t ∷ cs) h = have_places cs (All-tail IsChange (burnt t) cs h)

tickets_are_told : (rs : List Receipt) (w : World) → IsBehind rs w → (ids : List Identity) → ArePlain ids → HavePlaces ids → AllByRecursion (IsToldTicket w) ids
tickets_are_told rs w h [] c p = tt
tickets_are_told rs w h (id ∷ ids) c p =
    let t = totals_told rs w id h c.0 in
    let b = totals_within rs w id h c.0 in (
      (p.0, (_, sym t.0, b Sort.minted), (_, sym t.1, b Sort.burnt), (_, sym t.2, b Sort.held)),
      tickets_are_told rs w h ids c.1 p.1,
    )

-- ---- worlds

pub worlds_told : WorldsAreTold
worlds_told rs w h =
    let parts = parts_within rs w h (parts_of rs w) (subst (AllByRecursion IsOfTicket) (sym (parts_three rs w)) (three_of_tickets rs w h)) (λ s i. omega arith) in
    let threes : AllByRecursion (λ p. p.amount ≤ most) (three rs w) = subst (AllByRecursion (λ p. p.amount ≤ most)) (parts_three rs w) parts in
    let states = all_second _ (map change_part (receipts_changes rs)) _ threes in
    let mutez = h.good.sound.mutez in
    let a = accounts_mutez w.accounts in
    let c = contracts_mutez (is_some w.rate) w.contracts in
    record {
      accounts = accounts_are_told w.accounts h.good.sound.form.accounts (accounts_within most_mutez w.accounts (omega (arith, mutez, a, c)))
          (all_first _ (all_parts (map account_line w.accounts)) _ states);
      contracts = contracts_are_told w w.contracts h.good.sound.contracts (contracts_within most_mutez (is_some w.rate) w.contracts (omega (arith, mutez, a, c)));
      tickets = tickets_are_told rs w h (identities w.log) (identities_plain w.log h.plain.log) (have_places w.log h.good.sound.form.log);
      fees = within_mutez w.fees (omega (arith, mutez));
      storage_burn = within_mutez w.storage_burn (omega (arith, mutez));
      supply = within_mutez (supply w) mutez;
    }
