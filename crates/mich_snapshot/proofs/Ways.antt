-- Accounts, contracts and tickets are tried one by one.
use Rattle.std.proofs.Common.{◌≡◌, ℕ, ◌+◌, length, Bool, true, false, List, [], ◌∷◌, ◌++◌, map, Option, Some, None, refl, sym, ap, subst, ◌∙◌}
use Rattle.std.specs.Prelude.{Ok, Err, ◌||◌}
use Rattle.std.specs.List.{All, AllByRecursion, list_any}
use Rattle.std.proofs.lemmas.List.Elements.{All-head, All-tail}
use Rattle.rules_code.specs.evaluation.Surroundings.{Contract}
use Rattle.rules_code.specs.steps.Changes.{is_alike}
use Rattle.rules_data.specs.values.Tickets.{Identity}
use Rattle.rules_world.specs.world.World.{Account}
use Rattle.rules_files.specs.snapshots.Rules.{has_total, is_account, is_contract, is_total, parts_of}
use Rattle.rules_files.specs.snapshots.Spelling.{account_spelling, contract_spelling, total_spelling}
use Rattle.rules_files.specs.snapshots.Spelt.{IsIssuer, IsSpeltTotal}
use Rattle.rules_files.specs.snapshots.State.{State, Total}
use Rattle.laws_code.proofs.stacks.ForCallers.{alike_itself}
use Rattle.mich_saved.specs.KeptStates.{IsKeptContract}
use Rattle.mich_saved.specs.Shown.{account, contract, total}
use Rattle.mich_saved.specs.Sound.{EachAt, IsSame}
use Rattle.mich_saved.specs.declared.errors.LoadError.{LoadError}
use Rattle.mich_saved.specs.declared.parts.ReadAccount.{ReadAccount}
use Rattle.mich_saved.specs.declared.parts.ReadContract.{ReadContract}
use Rattle.mich_saved.specs.declared.parts.ReadTotal.{ReadTotal}
use Rattle.mich_term.specs.TicketView.{identity}
use Rattle.mich_term.specs.declared.ticket.TicketId.{TicketId}
use Rattle.mich_tickets.specs.declared.totals.Totals.{Totals}
use Rattle.mich_world.specs.Restoring.{account_of, contract_of}
use Rattle.mich_world.specs.declared.restoring.SavedAccount.{SavedAccount}
use Rattle.mich_world.specs.declared.restoring.SavedContract.{SavedContract}
use Rattle.mich_snapshot.specs.Holders.{AreAccounts, AreContracts, TriesAccount, TriesContract, total_of}
use Rattle.mich_snapshot.specs.Sums.{AreFound, Sums, more_account, more_contract}
use Rattle.mich_snapshot.specs.Tried.{Tries, TriesPart}
use Rattle.mich_snapshot.proofs.Walks.{OnWay, ends, goes_on, next_is, starts, stops}

-- what is so of each is so with one more
pub all_pushed : {A : Type 0} (P : A → Type 0) (xs ys : List A) (x : A) → ys ≡ xs ++ x ∷ [] → AllByRecursion P xs → P x → AllByRecursion P ys
all_pushed P xs ys x e all p = subst (AllByRecursion P) (sym e) (go xs all)
  where
    go : (zs : List _) → AllByRecursion P zs → AllByRecursion P (zs ++ x ∷ [])
    go [] h = (p, tt)
    go (z ∷ zs) h = (h.0, go zs h.1)

-- ---- accounts

abbrev account_key : List ℕ × Account → List ℕ
account_key a = a.0

abbrev SameAccount : List ℕ × Account → List ℕ × Account → Type 0
SameAccount a b = a ≡ b

pub record AccountsOnWay (s : State) (found : Identity → ℕ) (place : ℕ) (former : Option (List ℕ)) (rest : List ReadAccount) (saved : List SavedAccount) (es : Sums) : Type 0 where
  pub here : ℕ
  pub left : List (List ℕ × Account)
  pub now : Identity → ℕ
  pub way : OnWay account_spelling (is_account s) account_key SameAccount account_of more_account place s.accounts found former (map account rest) saved here left now
  pub sums : AreFound s now es

pub accounts_start : (s : State) (found : Identity → ℕ) (place : ℕ) (accounts : List ReadAccount) (es : Sums) → AreFound s found es
    → EachAt IsSame account_spelling place s.accounts (map account accounts) → AccountsOnWay s found place None accounts [] es
accounts_start s found place accounts es h each = record {
  here = place;
  left = s.accounts;
  now = found;
  way = starts account_spelling (is_account s) account_key SameAccount account_of more_account place s.accounts found (map account accounts) each;
  sums = h;
}

pub accounts_go : (s : State) (found : Identity → ℕ) (place : ℕ) (former : Option (List ℕ)) (x : ReadAccount) (rest : List ReadAccount) (saved after : List SavedAccount) (z : SavedAccount)
    (es fs : Sums) → AccountsOnWay s found place former (x ∷ rest) saved es
    → ((f : Identity → ℕ) → AreFound s f es → TriesAccount s f former x.place (account x).1 fs (Ok z)) → after ≡ saved ++ z ∷ []
    → AccountsOnWay s found place (Some x.who) rest after fs
accounts_go s found place former x rest saved after z es fs w tries pushed =
    let n = next_is account_spelling (is_account s) account_key SameAccount account_of more_account place s.accounts found former (account x) (map account rest) saved w.here w.left w.now w.way in
    let tried : TriesAccount s w.now former x.place n.x fs (Ok z) =
    subst (λ (a : List ℕ × Account). TriesAccount s w.now former x.place a fs (Ok z)) (sym n.is) (tries w.now w.sums) in
    record {
      here = _;
      left = n.xs;
      now = more_account w.now n.x;
      way = subst
          (λ (a : List ℕ × Account). OnWay account_spelling (is_account s) account_key SameAccount account_of more_account place s.accounts found (Some a.0) (map account rest) after
          (x.place + length (account_spelling n.x)) n.xs (more_account w.now n.x))
          n.is
          (goes_on account_spelling (is_account s) account_key SameAccount account_of more_account place s.accounts found former (account x) (map account rest) saved after w.now z n
          tried.0 tried.1.0 pushed);
      sums = tried.1.1;
    }

pub accounts_stop : (Y : Type 0) (s : State) (found : Identity → ℕ) (place : ℕ) (former : Option (List ℕ)) (x : ReadAccount) (rest : List ReadAccount) (saved : List SavedAccount) (es fs : Sums)
    (e : LoadError) → AccountsOnWay s found place former (x ∷ rest) saved es → ((f : Identity → ℕ) → AreFound s f es → TriesAccount s f former x.place (account x).1 fs (Err e))
    → Tries {A = Y} place (parts_of account_spelling (is_account s) (λ a. a.0) None s.accounts) (Err e)
accounts_stop Y s found place former x rest saved es fs e w tries =
    let n = next_is account_spelling (is_account s) account_key SameAccount account_of more_account place s.accounts found former (account x) (map account rest) saved w.here w.left w.now w.way in
    stops account_spelling (is_account s) account_key SameAccount account_of more_account Y (λ saved. (account_of saved ≡ n.x) × AreFound s (more_account w.now n.x) fs) place s.accounts found former
    (account x) (map account rest) saved w.now e n
    (subst (λ (a : List ℕ × Account). TriesAccount s w.now former x.place a fs (Err e)) (sym n.is) (tries w.now w.sums))

pub accounts_end : (s : State) (found : Identity → ℕ) (place : ℕ) (former : Option (List ℕ)) (saved : List SavedAccount) (es : Sums) → AccountsOnWay s found place former [] saved es
    → Tries place (parts_of account_spelling (is_account s) (λ a. a.0) None s.accounts) (Ok saved) × AreAccounts s found s.accounts es (Ok saved)
accounts_end s found place former saved es w =
    let done = ends account_spelling (is_account s) account_key SameAccount account_of more_account place s.accounts found former saved w.here w.left w.now w.way in
    (done.faults, (done.same, subst (λ (f : Identity → ℕ). AreFound s f es) (sym done.adds) w.sums))

-- ---- contracts

abbrev contract_key : List ℕ × Contract → List ℕ
contract_key c = c.0

pub record ContractsOnWay (s : State) (found : Identity → ℕ) (place : ℕ) (former : Option (List ℕ)) (rest : List ReadContract) (saved : List SavedContract) (es : Sums) : Type 0 where
  pub here : ℕ
  pub left : List (List ℕ × Contract)
  pub now : Identity → ℕ
  pub way : OnWay contract_spelling (is_contract s) contract_key IsKeptContract contract_of more_contract place s.contracts found former (map contract rest) saved here left now
  pub sums : AreFound s now es

pub contracts_start : (s : State) (found : Identity → ℕ) (place : ℕ) (contracts : List ReadContract) (es : Sums) → AreFound s found es
    → EachAt IsKeptContract contract_spelling place s.contracts (map contract contracts) → ContractsOnWay s found place None contracts [] es
contracts_start s found place contracts es h each = record {
  here = place;
  left = s.contracts;
  now = found;
  way = starts contract_spelling (is_contract s) contract_key IsKeptContract contract_of more_contract place s.contracts found (map contract contracts) each;
  sums = h;
}

pub contracts_go : (s : State) (found : Identity → ℕ) (place : ℕ) (former : Option (List ℕ)) (x : ReadContract) (rest : List ReadContract) (saved after : List SavedContract) (z : SavedContract)
    (es fs : Sums) → ContractsOnWay s found place former (x ∷ rest) saved es
    → ((f : Identity → ℕ) (c : List ℕ × Contract) → AreFound s f es → IsKeptContract c (contract x).1 → TriesContract s f former x.place c fs (Ok z)) → after ≡ saved ++ z ∷ []
    → ContractsOnWay s found place (Some x.hash) rest after fs
contracts_go s found place former x rest saved after z es fs w tries pushed =
    let n = next_is contract_spelling (is_contract s) contract_key IsKeptContract contract_of more_contract place s.contracts found former (contract x) (map contract rest) saved w.here w.left w.now w.way in
    let tried = tries w.now n.x w.sums n.is in
    record {
      here = x.place + length (contract_spelling n.x);
      left = n.xs;
      now = more_contract w.now n.x;
      way = subst
          (λ (k : List ℕ). OnWay contract_spelling (is_contract s) contract_key IsKeptContract contract_of more_contract place s.contracts found (Some k) (map contract rest) after
          (x.place + length (contract_spelling n.x)) n.xs (more_contract w.now n.x))
          n.is.hash
          (goes_on contract_spelling (is_contract s) contract_key IsKeptContract contract_of more_contract place s.contracts found former (contract x) (map contract rest) saved after w.now z n
          tried.0 tried.1.0 pushed);
      sums = tried.1.1;
    }

pub contracts_stop : (Y : Type 0) (s : State) (found : Identity → ℕ) (place : ℕ) (former : Option (List ℕ)) (x : ReadContract) (rest : List ReadContract) (saved : List SavedContract) (es fs : Sums)
    (e : LoadError) → ContractsOnWay s found place former (x ∷ rest) saved es
    → ((f : Identity → ℕ) (c : List ℕ × Contract) → AreFound s f es → IsKeptContract c (contract x).1 → TriesContract s f former x.place c fs (Err e))
    → Tries {A = Y} place (parts_of contract_spelling (is_contract s) (λ c. c.0) None s.contracts) (Err e)
contracts_stop Y s found place former x rest saved es fs e w tries =
    let n = next_is contract_spelling (is_contract s) contract_key IsKeptContract contract_of more_contract place s.contracts found former (contract x) (map contract rest) saved w.here w.left w.now w.way in
    stops contract_spelling (is_contract s) contract_key IsKeptContract contract_of more_contract Y (λ saved. (contract_of saved ≡ n.x) × AreFound s (more_contract w.now n.x) fs) place s.contracts found former
    (contract x) (map contract rest) saved w.now e n (tries w.now n.x w.sums n.is)

pub contracts_end : (s : State) (found : Identity → ℕ) (place : ℕ) (former : Option (List ℕ)) (saved : List SavedContract) (es : Sums) → ContractsOnWay s found place former [] saved es
    → Tries place (parts_of contract_spelling (is_contract s) (λ c. c.0) None s.contracts) (Ok saved) × AreContracts s found s.contracts es (Ok saved)
contracts_end s found place former saved es w =
    let done = ends contract_spelling (is_contract s) contract_key IsKeptContract contract_of more_contract place s.contracts found former saved w.here w.left w.now w.way in
    (done.faults, (done.same, subst (λ (f : Identity → ℕ). AreFound s f es) (sym done.adds) w.sums))

-- ---- tickets

abbrev total_key : Total → Identity
total_key t = t.identity

-- a total that has a spelling is this one
abbrev SpeltTotal : Total → Total → Type 0
SpeltTotal t u = (t ≡ u) × IsSpeltTotal t

-- nothing is found any more
abbrev no_more : ℕ → Total → ℕ
no_more n t = n

pub record TotalsOnWay (s : State) (place : ℕ) (former : Option Identity) (rest : List ReadTotal) (saved : List (TicketId × Totals)) : Type 0 where
  pub here : ℕ
  pub left : List Total
  pub now : ℕ
  pub way : OnWay total_spelling (is_total s) total_key SpeltTotal total_of no_more place s.tickets 0 former (map total rest) saved here left now

each_spelt : (place : ℕ) (ts : List Total) (us : List (ℕ × Total)) → All IsSpeltTotal ts → EachAt IsSame total_spelling place ts us → EachAt SpeltTotal total_spelling place ts us
each_spelt place [] [] all h = tt
each_spelt place (t ∷ ts) (u ∷ us) all h =
    (h.0, (h.1, All-head IsSpeltTotal t ts all), each_spelt (place + length (total_spelling t)) ts us (All-tail IsSpeltTotal t ts all) h.2)
each_spelt place [] (u ∷ us) all h = absurd h
each_spelt place (t ∷ ts) [] all h = absurd h

pub totals_start : (s : State) (place : ℕ) (totals : List ReadTotal) → All IsSpeltTotal s.tickets → EachAt IsSame total_spelling place s.tickets (map total totals)
    → TotalsOnWay s place None totals []
totals_start s place totals spelt each = record {
  here = place;
  left = s.tickets;
  now = 0;
  way = starts total_spelling (is_total s) total_key SpeltTotal total_of no_more place s.tickets 0 (map total totals) (each_spelt place s.tickets (map total totals) spelt each);
}

any_behind : {A : Type 0} (p : A → Bool) (xs : List A) (x : A) (ys : List A) → p x ≡ true → list_any p (xs ++ x ∷ ys) ≡ true
any_behind p [] x ys h = ap (λ b. b || list_any p ys) h
any_behind p (z ∷ zs) x ys h = by (p z) (any_behind p zs x ys h)
  where
    by : (b : Bool) → list_any p (zs ++ x ∷ ys) ≡ true → b || list_any p (zs ++ x ∷ ys) ≡ true
    by true g = refl
    by false g = g

-- what is so of the total that is tried next
pub record NextTotal (s : State) (t : Total) : Type 0 where
  pub there : has_total s t.identity ≡ true
  pub issuer : IsIssuer t.identity.issuer

pub totals_next : (s : State) (place : ℕ) (former : Option Identity) (x : ReadTotal) (rest : List ReadTotal) (saved : List (TicketId × Totals))
    → TotalsOnWay s place former (x ∷ rest) saved → NextTotal s (total x).1
totals_next s place former x rest saved w =
    let n = next_is total_spelling (is_total s) total_key SpeltTotal total_of no_more place s.tickets 0 former (total x) (map total rest) saved w.here w.left w.now w.way in
    let there : has_total s n.x.identity ≡ true =
    ap (list_any (λ (u : Total). is_alike u.identity n.x.identity)) (sym n.way.same)
    ∙ any_behind (λ (u : Total). is_alike u.identity n.x.identity) (map total_of saved) n.x n.xs (alike_itself n.x.identity) in
    subst (NextTotal s) n.is.0 (record { there = there; issuer = n.is.1.0.0 })

pub totals_go : (s : State) (place : ℕ) (former : Option Identity) (x : ReadTotal) (rest : List ReadTotal) (saved after : List (TicketId × Totals)) (z : TicketId × Totals)
    → TotalsOnWay s place former (x ∷ rest) saved → TriesPart (is_total s former (total x).1) x.place (λ t. total_of t ≡ (total x).1) (Ok z) → after ≡ saved ++ z ∷ []
    → TotalsOnWay s place (Some (identity x.id)) rest after
totals_go s place former x rest saved after z w tried pushed =
    let n = next_is total_spelling (is_total s) total_key SpeltTotal total_of no_more place s.tickets 0 former (total x) (map total rest) saved w.here w.left w.now w.way in
    record {
      here = _;
      left = n.xs;
      now = w.now;
      way = subst
          (λ (t : Total). OnWay total_spelling (is_total s) total_key SpeltTotal total_of no_more place s.tickets 0 (Some t.identity) (map total rest) after
          (x.place + length (total_spelling n.x)) n.xs w.now)
          n.is.0
          (goes_on total_spelling (is_total s) total_key SpeltTotal total_of no_more place s.tickets 0 former (total x) (map total rest) saved after w.now z n
          (ap (is_total s former) n.is.0 ∙ tried.0) (tried.1 ∙ sym n.is.0) pushed);
    }

pub totals_stop : (Y : Type 0) (s : State) (place : ℕ) (former : Option Identity) (x : ReadTotal) (rest : List ReadTotal) (saved : List (TicketId × Totals)) (e : LoadError)
    → TotalsOnWay s place former (x ∷ rest) saved → TriesPart (is_total s former (total x).1) x.place (λ t. total_of t ≡ (total x).1) (Err e)
    → Tries {A = Y} place (parts_of total_spelling (is_total s) (λ t. t.identity) None s.tickets) (Err e)
totals_stop Y s place former x rest saved e w tried =
    let n = next_is total_spelling (is_total s) total_key SpeltTotal total_of no_more place s.tickets 0 former (total x) (map total rest) saved w.here w.left w.now w.way in
    stops total_spelling (is_total s) total_key SpeltTotal total_of no_more Y (λ t. total_of t ≡ n.x) place s.tickets 0 former (total x) (map total rest) saved w.now e n
    (subst (λ (t : Total). TriesPart (is_total s former t) x.place (λ z. total_of z ≡ t) (Err e)) (sym n.is.0) tried)

pub totals_end : (s : State) (place : ℕ) (former : Option Identity) (saved : List (TicketId × Totals)) → TotalsOnWay s place former [] saved
    → Tries place (parts_of total_spelling (is_total s) (λ t. t.identity) None s.tickets) (Ok saved) × (map total_of saved ≡ s.tickets)
totals_end s place former saved w =
    let done = ends total_spelling (is_total s) total_key SpeltTotal total_of no_more place s.tickets 0 former saved w.here w.left w.now w.way in
    (done.faults, done.same)
