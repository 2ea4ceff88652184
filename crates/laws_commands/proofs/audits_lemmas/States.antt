-- The lines of a world at its end are told.
use Rattle.std.proofs.Common.{◌≡◌, ℕ, ◌≤◌, Bool, true, false, ◌&&◌, Option, Some, None, is_some, List, [], ◌∷◌, ◌++◌, map, refl, sym, ap, ◌∙◌, arith}
use Rattle.std.specs.Prelude.{ℤ, pos, nat_le, ◌^◌, ◌-◌, codes, unsigned_abs}
use Rattle.std.specs.List.{AllByRecursion}
use Rattle.std.proofs.lemmas.Bool.Decides.{nat_tests}
use Rattle.std.proofs.lemmas.List.{map-append}
use Rattle.rules_text.specs.nodes.Tree.{Tree, int, seq, trees_of}
use Rattle.rules_data.specs.values.Canonical.{canonical}
use Rattle.rules_data.specs.values.Tickets as values
use Rattle.rules_code.specs.evaluation.Surroundings.{Contract}
use Rattle.rules_world.specs.world.World.{World, Account}
use Rattle.rules_world.specs.world.Holdings.{held, minted_ever, burnt_ever, identities}
use Rattle.rules_world.specs.world.Balances.{supply}
use Rattle.rules_world.specs.lines.Nodes.{held_node, account_node, burn_nodes, contract_node, ticket_node, over, number}
use Rattle.rules_audit.specs.Fields.{◌>>=◌, only_if, named, Part, part, identity, amount_from, each, holding_by, holdings_of}
use Rattle.rules_audit.specs.Fields as fields
use Rattle.rules_audit.specs.Lines.{Line, account, contract, tickets, line_of, contract_with}
use Rattle.rules_audit.specs.Lines as lines
use Rattle.laws_commands.specs.audits.ToldLines.{holding_part, identity_of, account_line, contract_line, ticket_line, burn_lines, end_lines}
use Rattle.laws_commands.specs.audits.Receipts.{IsAmount}
use Rattle.laws_commands.specs.audits.States.{IsToldHolding, IsToldAccount, IsToldContract, IsCount, IsToldTicket, IsToldWorld, StateLinesAreTold}
use Rattle.laws_commands.proofs.audits_lemmas.Tickets.{amount_read, issuer_read}

amount_is : (n : ℕ) → IsAmount n → amount_from 0 (int (pos n)) ≡ Some n
amount_is n h = ap (λ b. only_if b n) (both n h)
  where
    both : (n : ℕ) → n ≤ 2 ^ 127 - 1 → nat_le 0 n && nat_le n (2 ^ 127 - 1) ≡ true
    both n h = grind (arith, nat_tests)

count_is : (z : ℤ) → IsCount z → amount_from 0 (int z) ≡ Some (unsigned_abs z)
count_is z h = ap (λ z. amount_from 0 (int z)) h.1 ∙ amount_is h.0 h.2 ∙ ap (λ z. Some (unsigned_abs z)) (sym h.1)

-- ---- accounts

holding_read : (h : values.Identity × ℤ) → IsToldHolding h → named holding_by (held_node h) ≡ Some (holding_part h ∷ [])
holding_read h g =
    ap (λ b. only_if b (int h.1) >>= λ n. amount_from 1 n >>= λ n. Some (part fields.held (identity_of h.0) n ∷ [])) (issuer_read h.0.issuer g.0)
    ∙ ap (λ o. o >>= λ n. Some (part fields.held (identity_of h.0) n ∷ [])) (amount_read h.1 g.1)

holdings_read : (hs : List (values.Identity × ℤ)) → AllByRecursion IsToldHolding hs → each (named holding_by) (trees_of (map held_node hs)) ≡ Some (map holding_part hs)
holdings_read [] g = refl
holdings_read (h ∷ hs) g =
    ap (λ o. o >>= λ ps. each (named holding_by) (trees_of (map held_node hs)) >>= λ qs. Some (ps ++ qs)) (holding_read h g.0)
    ∙ ap (λ o. o >>= λ qs. Some (holding_part h ∷ qs)) (holdings_read hs g.1)

account_read : (a : List ℕ × Account) → IsToldAccount a → line_of (account_node a) ≡ Some (account_line a)
account_read a g =
    ap (λ o. o >>= λ n. holdings_of (seq (trees_of (map held_node a.1.holdings))) >>= λ ps. Some (account n ps)) (amount_is a.1.balance g.0)
    ∙ ap (λ o. o >>= λ ps. Some (account a.1.balance ps)) (holdings_read a.1.holdings g.1)

contract_with_read : (rated : Bool) (c : List ℕ × Contract) → IsToldContract c → contract_with (int (pos c.1.balance)) (canonical c.1.storage) rated ≡ Some (contract_line rated c)
contract_with_read rated c g =
    ap (λ o. o >>= λ n. fields.tickets_in (canonical c.1.storage) >>= λ ps. Some (contract n ps rated)) (amount_is c.1.balance g.0)
    ∙ ap (λ o. o >>= λ ps. Some (contract c.1.balance ps rated)) g.1

contract_read : (rate : Option ℕ) (c : List ℕ × Contract) → IsToldContract c → line_of (contract_node rate c) ≡ Some (contract_line (is_some rate) c)
contract_read (Some rate) c g = contract_with_read true c g
contract_read None c g = contract_with_read false c g

ticket_read : (w : World) (id : values.Identity) → IsToldTicket w id → line_of (ticket_node w id) ≡ Some (ticket_line w id)
ticket_read w id g =
    let m : ℤ = minted_ever w id in
    let b : ℤ = burnt_ever w id in
    let h : ℤ = held w id in
    ap (λ t. only_if t (int m) >>= λ m. amount_from 0 m >>= λ m. amount_from 0 (int b) >>= λ b. amount_from 0 (int h) >>= λ h. Some (tickets (identity_of id) m b h)) (issuer_read id.issuer g.0)
    ∙ ap (λ o. o >>= λ m. amount_from 0 (int b) >>= λ b. amount_from 0 (int h) >>= λ h. Some (tickets (identity_of id) m b h)) (count_is m g.1)
    ∙ ap (λ o. o >>= λ b. amount_from 0 (int h) >>= λ h. Some (tickets (identity_of id) (unsigned_abs m) b h)) (count_is b g.2)
    ∙ ap (λ o. o >>= λ h. Some (tickets (identity_of id) (unsigned_abs m) (unsigned_abs b) h)) (count_is h g.3)

fees_read : (n : ℕ) → IsAmount n → line_of (over (codes "Fees") (number n ∷ [])) ≡ Some (lines.fees n)
fees_read n h = ap (λ o. o >>= λ n. Some (lines.fees n)) (amount_is n h)

burn_read : (n : ℕ) → IsAmount n → line_of (over (codes "StorageBurn") (number n ∷ [])) ≡ Some (lines.storage_burn n)
burn_read n h = ap (λ o. o >>= λ n. Some (lines.storage_burn n)) (amount_is n h)

supply_read : (n : ℕ) → IsAmount n → line_of (over (codes "Supply") (number n ∷ [])) ≡ Some (lines.supply n)
supply_read n h = ap (λ o. o >>= λ n. Some (lines.supply n)) (amount_is n h)

-- ---- all lines

abbrev are_some : List Line → List (Option Line)
are_some ls = map (λ l. Some l) ls

each_read : {X : Type 0} (P : X → Type 0) (node : X → Tree) (told : X → Line) → ((x : X) → P x → line_of (node x) ≡ Some (told x)) →
    (xs : List X) → AllByRecursion P xs → map line_of (map node xs) ≡ are_some (map told xs)
each_read P node told one [] h = refl
each_read P node told one (x ∷ xs) h =
    let head = one x h.0 in let tail = each_read P node told one xs h.1 in λ i. head i ∷ tail i

then_read : (ns ms : List Tree) (ls ks : List Line) → map line_of ns ≡ are_some ls → map line_of ms ≡ are_some ks → map line_of (ns ++ ms) ≡ are_some (ls ++ ks)
then_read ns ms ls ks e g =
    map-append line_of ns ms ∙ ap (λ xs. xs ++ map line_of ms) e ∙ ap (λ ys. are_some ls ++ ys) g ∙ sym (map-append (λ l. Some l) ls ks)

end_read : (w : World) → IsToldWorld w →
    map line_of (over (codes "Fees") (number w.fees ∷ []) ∷ (burn_nodes w.rate w.storage_burn ++ over (codes "Supply") (number (supply w) ∷ []) ∷ [])) ≡ are_some (end_lines w)
end_read w h = by w.rate
  where
    by : (rate : Option ℕ) → map line_of (over (codes "Fees") (number w.fees ∷ []) ∷ (burn_nodes rate w.storage_burn ++ over (codes "Supply") (number (supply w) ∷ []) ∷ []))
        ≡ are_some (lines.fees w.fees ∷ (burn_lines rate w.storage_burn ++ lines.supply (supply w) ∷ []))
    by (Some rate) =
        let a = fees_read w.fees h.fees in
        let b = burn_read w.storage_burn h.storage_burn in
        let c = supply_read (supply w) h.supply in λ i. a i ∷ b i ∷ c i ∷ []
    by None = let a = fees_read w.fees h.fees in let b = supply_read (supply w) h.supply in λ i. a i ∷ b i ∷ []

pub state_told : StateLinesAreTold
state_told w h =
    then_read (map account_node w.accounts) _ (map account_line w.accounts) _ (each_read IsToldAccount account_node account_line account_read w.accounts h.accounts)
    (then_read (map (contract_node w.rate) w.contracts) _ (map (contract_line (is_some w.rate)) w.contracts) _
    (each_read IsToldContract (contract_node w.rate) (contract_line (is_some w.rate)) (contract_read w.rate) w.contracts h.contracts)
    (then_read (map (ticket_node w) (identities w.log)) _ (map (ticket_line w) (identities w.log)) _
    (each_read (IsToldTicket w) (ticket_node w) (ticket_line w) (ticket_read w) (identities w.log) h.tickets) (end_read w h)))
