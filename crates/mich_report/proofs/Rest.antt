-- The world that a world at rest stands for, and what is written of it.
use Rattle.std.proofs.Common.{◌≡◌, true, cond, ℕ, ℤ, pos, List, [], ◌∷◌, ◌++◌, map, Some, None, refl, sym, ap, ◌∙◌, append_assoc, append-nil, drop, length, ◌≤◌, subst, arith}
use Rattle.std.specs.Prelude.{◌||◌, ◌<ℤ◌, ◌≤ℤ◌, ◌-ℤ◌, ◌+ℤ◌, codes, option_map, unwrap_or}
use Rattle.std.specs.declared.option.Option.{Option}
use Rattle.std.specs.declared.cmp.Ordering.TheVariants.{Less, Greater}
use Rattle.std.specs.Ordering.{nat_cmp, is_eq, ordering_reverse}
use Rattle.std.specs.Cmp.Lexicographic.{slice_cmp}
use Rattle.std.specs.BTreeMap.{is_at}
use Rattle.std.specs.List.{All, AllByRecursion, flat_map}
use Rattle.std.specs.List.Sorted.{IsStrictlySortedBy}
use Rattle.std.specs.Map.{lookup, keys_of}
use Rattle.std.proofs.Math.ListN.{drop_of_length-le}
use Rattle.std.proofs.lemmas.Cmp.{nat_list_cmp_total, tied_itself}
use Rattle.std.proofs.lemmas.Int.{ints}
use Rattle.std.proofs.lemmas.List.Elements.{All-head, All-tail}
use Rattle.std.proofs.lemmas.Map.Keys.{sorted_head, sorted_tail}
use Rattle.std.proofs.lemmas.Map.Lookups.{exact_bytes}
use Rattle.std.proofs.lemmas.Map.Made.{lookup-map_values}
use Rattle.rules_text.specs.nodes.Tree.{Tree, int}
use Rattle.rules_code.specs.evaluation.Contracts.{hash_in}
use Rattle.rules_data.specs.forms.Spelling.{implicit_place, is_contract, is_key_hash, is_place}
use Rattle.rules_world.specs.lines.Nodes.{account_node, burn_nodes, contract_node, line, number, over, state_nodes, ticket_fields, ticket_node}
use Rattle.rules_data.specs.values.Tickets.{Identity}
use Rattle.rules_world.specs.world.Balances.{supply}
use Rattle.rules_world.specs.world.Forms.{IsWorld, IsAccount, IsHolding}
use Rattle.rules_world.specs.world.Holdings.{amount_held, held, held_by, held_by_account, held_by_contract, minted_ever, burnt_ever, identities}
use Rattle.rules_world.specs.world.World.{World as PlainWorld, Account, account_at as plain_account_at, contract_at as plain_contract_at, account_or_none}
use Rattle.laws_world.proofs.accounts.ForCallers.{minted_positive, burnt_positive, all_found, equal_of, AreHoldings, held_positive}
use Rattle.laws_world.specs.lines.Laws.{AreInOrder, amount_told, told}
use Rattle.laws_world.proofs.lines_lemmas.ForCallers.{amount_is_told, told_in_order}
use Rattle.mich_bigmap.specs.Bases.{Bases}
use Rattle.mich_term.specs.TicketView.{identity}
use Rattle.mich_term.specs.declared.ticket.TicketId.{TicketId}
use Rattle.mich_tickets.specs.Books.{Books}
use Rattle.mich_tickets.specs.Lines.{by_identity, line_of}
use Rattle.mich_tickets.specs.Sums.{totals_on, minted_of, burnt_of, held_of, held_on}
use Rattle.mich_tickets.specs.declared.line.Line.{Line}
use Rattle.mich_world.proofs.ForCallers.{total_is}
use Rattle.mich_world.specs.Holders.{Holders, account_at, contract_at, total}
use Rattle.mich_world.specs.Standing.{purse, plain, contract_in, StandsFor}
use Rattle.mich_world.specs.World.{World}
use Rattle.mich_world.specs.declared.contract.Contract.{Contract}
use Rattle.mich_report.specs.Amounts.{Amounts, Purses, amount_in, by_print, held_in, held_of_line, minted_of_line, seen, settled}
use Rattle.mich_report.specs.State.{IsAtRest, Gathers, AreTotals, ticket_of}
use Rattle.mich_report.proofs.Written.{one_list}
use Rattle.mich_report.proofs.Walks.{lines_settled, written_line}

-- all of a list is done
pub ended : {X Y : Type 0} (f : List X → List Y) (done whole : List Y) (i : ℕ) (items : List X) → f [] ≡ []
    → done ++ f (drop i items) ≡ whole → length items ≤ i → done ≡ whole
ended {X} {Y} f done whole i items none h past =
    sym (append-nil done) ∙ ap (λ (t : List Y). done ++ t) (sym none) ∙ ap (λ (xs : List X). done ++ f xs) (sym (drop_of_length-le items past)) ∙ h

-- ---- keys that are found

weaker : {X : Type 0} (x : List ℕ × X) (whole es : List (List ℕ × X)) → AllByRecursion (λ y. slice_cmp nat_cmp x.0 y ≡ Less) (keys_of es)
    → AllByRecursion (λ e. lookup (is_at (slice_cmp nat_cmp e.0)) whole ≡ Some e.1) es
    → AllByRecursion (λ e. lookup (is_at (slice_cmp nat_cmp e.0)) (x ∷ whole) ≡ Some e.1) es
weaker x whole [] less h = tt
weaker {X} x whole (e ∷ es) less h =
    let more : slice_cmp nat_cmp e.0 x.0 ≡ Greater = nat_list_cmp_total.antisymm e.0 x.0 ∙ ap ordering_reverse less.0 in
    (ap (λ r. cond (is_eq r) (Some x.1) (lookup (is_at (slice_cmp nat_cmp e.0)) whole)) more ∙ h.0, weaker x whole es less.1 h.1)

-- each of the entries in order is found by its key
pub each_found : {X : Type 0} (es : List (List ℕ × X)) → IsStrictlySortedBy (slice_cmp nat_cmp) (keys_of es)
    → AllByRecursion (λ e. lookup (is_at (slice_cmp nat_cmp e.0)) es ≡ Some e.1) es
each_found [] sorted = tt
each_found {X} (e ∷ es) sorted = (
  ap (λ r. cond (is_eq r) (Some e.1) (lookup (is_at (slice_cmp nat_cmp e.0)) es)) (tied_itself nat_list_cmp_total e.0),
  weaker e es es (sorted_head (slice_cmp nat_cmp) e.0 (keys_of es) sorted) (each_found es (sorted_tail (slice_cmp nat_cmp) e.0 (keys_of es) sorted)),
)

-- a node for what is found at a key
abbrev pub one_node : {X : Type 0} → (X → Tree) → Option X → List Tree
one_node f None = []
one_node f (Some x) = f x ∷ []

-- the nodes of all keys are those of all entries
keys_nodes : {X Y : Type 0} (whole : List ℕ → Option X) (f : List ℕ → X → Tree) (g : List ℕ × Y → Tree) (h : Y → X) (es : List (List ℕ × Y))
    → AllByRecursion (λ e. whole e.0 ≡ Some (h e.1)) es → AllByRecursion (λ e. f e.0 (h e.1) ≡ g e) es
    → flat_map (λ k. one_node (f k) (whole k)) (keys_of es) ≡ map g es
keys_nodes whole f g h [] there same = refl
keys_nodes {X} whole f g h (e ∷ es) there same =
    ap (λ (o : Option X). one_node (f e.0) o ++ flat_map (λ k. one_node (f k) (whole k)) (keys_of es)) there.0
    ∙ ap (λ (t : Tree). t ∷ flat_map (λ k. one_node (f k) (whole k)) (keys_of es)) same.0
    ∙ ap (λ (ts : List Tree). g e ∷ ts) (keys_nodes whole f g h es there.1 same.1)

-- one more is done: it is there, or it isn't
module _ {X : Type 0} (f : List ℕ → X → Tree) (g : List ℕ → Option X) where
  pub found_more : (done new whole : List (List ℕ)) (ks rest : List (List ℕ)) (k : List ℕ) (x : X) → ks ≡ k ∷ rest
      → done ++ map line (flat_map (λ q. one_node (f q) (g q)) ks) ≡ whole → g k ≡ Some x → new ≡ done ++ line (f k x) ∷ []
      → new ++ map line (flat_map (λ q. one_node (f q) (g q)) rest) ≡ whole
  found_more done new whole ks rest k x first h there p =
      ap (λ (t : List (List ℕ)). t ++ map line (flat_map (λ q. one_node (f q) (g q)) rest)) p
      ∙ append_assoc done (line (f k x) ∷ []) (map line (flat_map (λ q. one_node (f q) (g q)) rest))
      ∙ ap (λ (o : Option X). done ++ map line (one_node (f k) o ++ flat_map (λ q. one_node (f q) (g q)) rest)) (sym there)
      ∙ ap (λ (qs : List (List ℕ)). done ++ map line (flat_map (λ q. one_node (f q) (g q)) qs)) (sym first)
      ∙ h

  pub none_more : (done new whole : List (List ℕ)) (ks rest : List (List ℕ)) (k : List ℕ) → ks ≡ k ∷ rest
      → done ++ map line (flat_map (λ q. one_node (f q) (g q)) ks) ≡ whole → g k ≡ None → new ≡ done
      → new ++ map line (flat_map (λ q. one_node (f q) (g q)) rest) ≡ whole
  none_more done new whole ks rest k first h there p =
      ap (λ (t : List (List ℕ)). t ++ map line (flat_map (λ q. one_node (f q) (g q)) rest)) p
      ∙ ap (λ (o : Option X). done ++ map line (one_node (f k) o ++ flat_map (λ q. one_node (f q) (g q)) rest)) (sym there)
      ∙ ap (λ (qs : List (List ℕ)). done ++ map line (flat_map (λ q. one_node (f q) (g q)) qs)) (sym first)
      ∙ h

-- ---- contracts

-- the nodes of the contracts of these keys
abbrev pub contracts_nodes : Bases → Holders → List (List ℕ) → List Tree
contracts_nodes bs h keys = flat_map (λ hash. one_node (λ c. contract_node h.rate (hash, plain bs c)) (contract_at h hash)) keys

pub keys_in : (bs : Bases) (cs : List (List ℕ × Contract)) → keys_of (map (contract_in bs) cs) ≡ keys_of cs
keys_in bs [] = refl
keys_in bs (c ∷ cs) = ap (λ (ks : List (List ℕ)). c.0 ∷ ks) (keys_in bs cs)

contracts_same : (bs : Bases) (rate : Option ℕ) (cs : List (List ℕ × Contract)) →
    AllByRecursion (λ c. contract_node rate (c.0, plain bs c.1) ≡ contract_node rate (contract_in bs c)) cs
contracts_same bs rate [] = tt
contracts_same bs rate (c ∷ cs) = (refl, contracts_same bs rate cs)

map_map : {X Y : Type 0} (f : Y → Tree) (g : X → Y) (xs : List X) → map (λ x. f (g x)) xs ≡ map f (map g xs)
map_map f g [] = refl
map_map f g (x ∷ xs) = ap (λ (ts : List Tree). f (g x) ∷ ts) (map_map f g xs)

pub all_contracts : (v : World) (w : PlainWorld) → IsAtRest v w
    → contracts_nodes v.store.bases.present v.funds.present (keys_of v.funds.present.contracts) ≡ map (contract_node w.rate) w.contracts
all_contracts v w r =
    keys_nodes (contract_at v.funds.present) (λ hash c. contract_node rate (hash, plain bs c)) (λ c. contract_node rate (contract_in bs c)) (λ c. c) v.funds.present.contracts
    (each_found v.funds.present.contracts sorted) (contracts_same bs rate v.funds.present.contracts)
    ∙ map_map (contract_node rate) (contract_in bs) v.funds.present.contracts
    ∙ (λ i. map (contract_node (sym r.stands.those.rate i)) (sym r.stands.those.contracts i))
  where
    bs : Bases
    bs = v.store.bases.present

    rate : Option ℕ
    rate = v.funds.present.rate

    sorted : IsStrictlySortedBy (slice_cmp nat_cmp) (keys_of v.funds.present.contracts)
    sorted = subst (IsStrictlySortedBy (slice_cmp nat_cmp)) (ap keys_of r.stands.those.contracts ∙ keys_in bs v.funds.present.contracts)
        r.good.sound.form.contracts_in_order

-- ---- accounts

-- an account that is there, with what it holds
abbrev pub account_seen : PlainWorld → List ℕ → ℕ → Tree
account_seen w who balance = account_node (who, record { balance = balance; holdings = (account_or_none w who).holdings })

abbrev pub accounts_nodes : PlainWorld → Holders → List (List ℕ) → List Tree
accounts_nodes w h keys = flat_map (λ who. one_node (account_seen w who) (account_at h who)) keys

pub keys_purse : (as' : List (List ℕ × Account)) → keys_of (map purse as') ≡ keys_of as'
keys_purse [] = refl
keys_purse (a ∷ as') = ap (λ (ks : List (List ℕ)). a.0 ∷ ks) (keys_purse as')

balance_found : (v : World) (w : PlainWorld) (who : List ℕ) → StandsFor v w
    → account_at v.funds.present who ≡ option_map (λ (a : Account). a.balance) (plain_account_at w who)
balance_found v w who s =
    ap (λ (es : List (List ℕ × ℕ)). lookup (is_at (slice_cmp nat_cmp who)) es) (sym s.those.accounts)
    ∙ lookup-map_values (λ (a : Account). a.balance) (is_at (slice_cmp nat_cmp who)) w.accounts

pub balances : (v : World) (w : PlainWorld) → StandsFor v w → (as' : List (List ℕ × Account))
    → AllByRecursion (λ a. plain_account_at w a.0 ≡ Some a.1) as' → AllByRecursion (λ a. account_at v.funds.present a.0 ≡ Some a.1.balance) as'
balances v w s [] h = tt
balances v w s (a ∷ as') h =
    (balance_found v w a.0 s ∙ ap (option_map (λ (x : Account). x.balance)) h.0, balances v w s as' h.1)

accounts_same : (w : PlainWorld) (as' : List (List ℕ × Account)) → AllByRecursion (λ a. plain_account_at w a.0 ≡ Some a.1) as'
    → AllByRecursion (λ a. account_seen w a.0 a.1.balance ≡ account_node a) as'
accounts_same w [] h = tt
accounts_same w (a ∷ as') h =
    (ap (λ (o : Option Account). account_node (a.0, record { balance = a.1.balance; holdings = (unwrap_or o (record { balance = 0; holdings = [] })).holdings })) h.0, accounts_same w as' h.1)

pub all_accounts : (v : World) (w : PlainWorld) → IsAtRest v w
    → accounts_nodes w v.funds.present (keys_of v.funds.present.accounts) ≡ map account_node w.accounts
all_accounts v w r =
    let found = each_found w.accounts r.good.sound.form.accounts_in_order in
    ap (accounts_nodes w v.funds.present) (ap keys_of (sym r.stands.those.accounts) ∙ keys_purse w.accounts)
    ∙ keys_nodes (account_at v.funds.present) (account_seen w) account_node (λ (a : Account). a.balance) w.accounts
    (balances v w r.stands w.accounts found) (accounts_same w w.accounts found)

-- ---- what accounts hold

waiting_none : (h m b z : ℤ) → z ≡ pos 0 → h +ℤ z ≡ m -ℤ b → h ≡ m -ℤ b
waiting_none h m b z n e = omega (arith, ints)

all_positive : (hs : List (Identity × ℤ)) → All IsHolding hs → AllByRecursion (λ e. pos 0 <ℤ e.1) hs
all_positive [] h = tt
all_positive (e ∷ hs) h = ((All-head IsHolding e hs h).1, all_positive hs (All-tail IsHolding e hs h))

in_order : (a : Account) → AreHoldings a → AreInOrder a.holdings
in_order a h = record { order = h.order; positive = all_positive a.holdings h.forms }

found_bytes : (q k : List ℕ) → is_at (slice_cmp nat_cmp q) k ≡ true → q ≡ k
found_bytes q k h = exact_bytes q k (equal_of (slice_cmp nat_cmp q k) h)

account_form : (w : PlainWorld) (who : List ℕ) (a : Account) → IsWorld w → plain_account_at w who ≡ Some a → (is_key_hash who ≡ true) × AreHoldings a
account_form w who a form there =
    let f = all_found (is_at (slice_cmp nat_cmp who)) IsAccount w.accounts a form.accounts there in
    (subst (λ (k : List ℕ). is_key_hash k ≡ true) (sym (found_bytes who f.0 f.2)) f.1.0, record { forms = f.1.1; order = f.1.2 })

-- the place of an account
implicit_key : (who : List ℕ) → is_key_hash who ≡ true → is_place (implicit_place who) ≡ true
implicit_key who h = ap (λ b. b || is_contract (implicit_place who)) h

held_there : (w : PlainWorld) (who : List ℕ) (a : Account) (j : Identity) → is_key_hash who ≡ true → plain_account_at w who ≡ Some a
    → held_by w j (implicit_place who) ≡ amount_held a j
held_there w who a j key there =
    ap (λ b. cond b (held_by_account (plain_account_at w who) j) (held_by_contract (plain_contract_at w (hash_in (implicit_place who))) j)) key
    ∙ ap (λ (o : Option Account). held_by_account o j) there

line_amount : (o : List ℕ) (x : Option Line) → held_on (implicit_place o) x ≡ elim x as (λ _. ℤ) [ None ↦ pos 0 | Some l ↦ held_of_line o l ]
line_amount o None = refl
line_amount o (Some l) = refl

line_minted : (x : Option Line) → (totals_on x).minted ≡ elim x as (λ _. ℤ) [ None ↦ pos 0 | Some l ↦ minted_of_line l ]
line_minted None = refl
line_minted (Some l) = refl

pub record IsPurse (ps : Purses) (who : List ℕ) (holdings : List (Identity × ℤ)) : Type 0 where
  pub order : AreInOrder holdings
  pub same : (j : Identity) → held_in ps who j ≡ amount_told j holdings

inverted : {X Y : Type 0} (f : X → Y) (o : Option X) (y : Y) → option_map f o ≡ Some y → (x : X) × (o ≡ Some x)
inverted f None y h = absurd cc
inverted f (Some x) y h = (x, refl)

pub account_purse : (v : World) (w : PlainWorld) (ps : Purses) (who : List ℕ) (balance : ℕ) → IsAtRest v w → Gathers v.ledger.books.present.lines ps
    → account_at v.funds.present who ≡ Some balance → IsPurse ps who (account_or_none w who).holdings
account_purse v w ps who balance r g there =
    let a = inverted (λ (x : Account). x.balance) (plain_account_at w who) balance (sym (balance_found v w who r.stands) ∙ there) in
    subst (λ (x : Account). IsPurse ps who x.holdings) (sym (ap (λ (o : Option Account). unwrap_or o (record { balance = 0; holdings = [] })) a.1)) (of a.0 a.1)
  where
    of : (a : Account) → plain_account_at w who ≡ Some a → IsPurse ps who a.holdings
    of a e =
        let f = account_form w who a r.good.sound.form e in
        record {
          order = in_order a f.1;
          same = λ j.
              let law : held_of v.ledger.books.present j (implicit_place who) ≡ amount_held a j
              = r.stands.those.held j (implicit_place who) (implicit_key who f.0) ∙ held_there w who a j f.0 e in
              let o = line_of j v.ledger.books.present.lines in
              g.1 who j
              ∙ lines_settled (held_of_line who) j v.ledger.books.present.lines (pos 0) g.0
              ∙ written_line (held_of_line who) o (amount_held a j) (held_positive a j f.1) (sym law ∙ line_amount who o);
        }

-- ---- tickets

pub totals_positive : (v : World) (w : PlainWorld) → IsAtRest v w → AreTotals v.ledger.books.present
totals_positive v w r = λ j. (
  subst (λ (n : ℤ). pos 0 ≤ℤ n) (sym (r.stands.those.minted j)) (minted_positive j w.log r.good.sound.form.log),
  subst (λ (n : ℤ). pos 0 ≤ℤ n) (sym (r.stands.those.burnt j)) (burnt_positive j w.log r.good.sound.form.log),
)

-- what was minted and not burnt is held
pub held_rest : (v : World) (w : PlainWorld) → IsAtRest v w → (j : Identity) → minted_of v.ledger.books.present j -ℤ burnt_of v.ledger.books.present j ≡ held w j
held_rest v w r j =
    let left : held w j ≡ minted_ever w j -ℤ burnt_ever w j = waiting_none (held w j) (minted_ever w j) (burnt_ever w j) (pos 0) refl (r.good.tickets j) in
    ap (λ x. x -ℤ burnt_of v.ledger.books.present j) (r.stands.those.minted j) ∙ ap (λ x. minted_ever w j -ℤ x) (r.stands.those.burnt j) ∙ sym left

ticket_same : (v : World) (w : PlainWorld) → IsAtRest v w → (j : Identity) (n : ℤ) → ticket_of v.ledger.books.present (j, n) ≡ ticket_node w j
ticket_same v w r j n =
    let m = r.stands.those.minted j in
    let b = r.stands.those.burnt j in
    λ i. over (codes "Tickets") (ticket_fields j.issuer j.kind j.content ++ int (m i) ∷ int (b i) ∷ int (held_rest v w r j i) ∷ [])

tickets_same : (v : World) (w : PlainWorld) → IsAtRest v w → (ids : List Identity)
    → map (ticket_of v.ledger.books.present) (map (λ j. (j, minted_ever w j)) ids) ≡ map (ticket_node w) ids
tickets_same v w r [] = refl
tickets_same v w r (j ∷ ids) = λ i. ticket_same v w r j (minted_ever w j) i ∷ tickets_same v w r ids i

-- what is minted by the ledger's lines is what the world tells
pub entries_told : (v : World) (w : PlainWorld) (es : Amounts) → IsAtRest v w → IsStrictlySortedBy by_identity (keys_of v.ledger.books.present.lines)
    → ((j : Identity) → amount_in j es ≡ settled minted_of_line j v.ledger.books.present.lines (pos 0))
    → IsStrictlySortedBy by_print (keys_of es) → AllByRecursion (λ e. pos 0 <ℤ e.1) es
    → map seen es ≡ told w
entries_told v w es r lines same sorted positive = one_list (told w) es (told_in_order w r.good.sound.form) sorted positive amounts
  where
    amounts : (j : Identity) → amount_in j es ≡ amount_told j (told w)
    amounts j =
        let o = line_of j v.ledger.books.present.lines in
        same j
        ∙ lines_settled minted_of_line j v.ledger.books.present.lines (pos 0) lines
        ∙ written_line minted_of_line o (minted_ever w j) (minted_positive j w.log r.good.sound.form.log) (sym (r.stands.those.minted j) ∙ line_minted o)
        ∙ sym (amount_is_told w r.good.sound.form j)

pub all_tickets : (v : World) (w : PlainWorld) (es : Amounts) → IsAtRest v w → IsStrictlySortedBy by_identity (keys_of v.ledger.books.present.lines)
    → ((j : Identity) → amount_in j es ≡ settled minted_of_line j v.ledger.books.present.lines (pos 0))
    → IsStrictlySortedBy by_print (keys_of es) → AllByRecursion (λ e. pos 0 <ℤ e.1) es
    → map (ticket_of v.ledger.books.present) (map seen es) ≡ map (ticket_node w) (identities w.log)
all_tickets v w es r lines same sorted positive =
    ap (map (ticket_of v.ledger.books.present)) (entries_told v w es r lines same sorted positive) ∙ tickets_same v w r (identities w.log)

-- the line of one more
pub ticket_more : (b : Books) (lines new whole : List (List ℕ)) (t : List ℕ) (id : TicketId) (n : ℤ) (iter rest : Amounts)
    → new ≡ lines ++ t ∷ [] → t ≡ line (ticket_of b (identity id, n)) → iter ≡ (id, n) ∷ rest
    → lines ++ map line (map (ticket_of b) (map seen iter)) ≡ whole → new ++ map line (map (ticket_of b) (map seen rest)) ≡ whole
ticket_more b lines new whole t id n iter rest p e f h =
    ap (λ (x : List (List ℕ)). x ++ map line (map (ticket_of b) (map seen rest))) (p ∙ ap (λ (y : List ℕ). lines ++ y ∷ []) e)
    ∙ append_assoc lines (line (ticket_of b (identity id, n)) ∷ []) (map line (map (ticket_of b) (map seen rest)))
    ∙ ap (λ (es : Amounts). lines ++ map line (map (ticket_of b) (map seen es))) (sym f)
    ∙ h

-- ---- all lines

map_append : (f : Tree → List ℕ) (xs ys : List Tree) → map f xs ++ map f ys ≡ map f (xs ++ ys)
map_append f [] ys = refl
map_append f (x ∷ xs) ys = ap (λ (ts : List (List ℕ)). f x ∷ ts) (map_append f xs ys)

-- all balances, fees and burns
pub total_same : (v : World) (w : PlainWorld) → StandsFor v w → total v.funds.present ≡ supply w
total_same v w s = total_is v.funds.present v.store.bases.present v.ledger.books.present w s.those

pub all_lines : (v : World) (w : PlainWorld) (tickets : List Tree) (a b c d : List (List ℕ)) → IsAtRest v w
    → a ≡ map line (map account_node w.accounts) → b ≡ a ++ map line (map (contract_node w.rate) w.contracts) → c ≡ b ++ map line tickets
    → tickets ≡ map (ticket_node w) (identities w.log)
    → d ≡ c ++ map line (over (codes "Fees") (number v.funds.present.fees ∷ [])
    ∷ (burn_nodes v.funds.present.rate v.funds.present.storage_burn ++ over (codes "Supply") (number (total v.funds.present) ∷ []) ∷ []))
    → d ≡ map line (state_nodes w)
all_lines v w tickets a b c d r ea eb ec et ed =
    ed
    ∙ ap (λ x. x ++ map line here) (ec ∙ ap (λ x. x ++ map line tickets) (eb ∙ ap (λ x. x ++ map line contracts) ea))
    ∙ append_assoc (map line accounts ++ map line contracts) (map line tickets) (map line here)
    ∙ append_assoc (map line accounts) (map line contracts) (map line tickets ++ map line here)
    ∙ ap (λ x. map line accounts ++ (map line contracts ++ x)) (map_append line tickets here)
    ∙ ap (λ x. map line accounts ++ x) (map_append line contracts (tickets ++ here))
    ∙ map_append line accounts (contracts ++ (tickets ++ here))
    ∙ (λ i. map line (accounts ++ (contracts ++ (et i ++ sums (sym r.stands.those.rate i) (sym r.stands.those.fees i) (sym r.stands.those.storage_burn i) (total_same v w r.stands i)))))
  where
    accounts : List Tree
    accounts = map account_node w.accounts

    contracts : List Tree
    contracts = map (contract_node w.rate) w.contracts

    sums : Option ℕ → ℕ → ℕ → ℕ → List Tree
    sums rate fees burn all = over (codes "Fees") (number fees ∷ []) ∷ (burn_nodes rate burn ++ over (codes "Supply") (number all ∷ []) ∷ [])

    here : List Tree
    here = sums v.funds.present.rate v.funds.present.fees v.funds.present.storage_burn (total v.funds.present)

-- ---- one text

abbrev pub joined : List (List ℕ) → List ℕ
joined ts = flat_map (λ t. t) ts

pub joined_lines : (ns : List Tree) → joined (map line ns) ≡ flat_map line ns
joined_lines [] = refl
joined_lines (n ∷ ns) = ap (λ t. line n ++ t) (joined_lines ns)
