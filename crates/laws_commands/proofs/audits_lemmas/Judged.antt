-- The lines that are told of a run agree.
use Rattle.std.proofs.Common.{◌≡◌, ◌≤◌, ◌+◌, ℕ, Bool, true, false, cond, ◌||◌, Option, Some, None, is_some, List, [], ◌∷◌, ◌++◌, map, refl, sym, ap, ◌∙◌, subst, arith}
use Rattle.std.specs.Prelude.{ℤ, pos, ◌+ℤ◌, ◌-ℤ◌, ◌<ℤ◌, unsigned_abs, unwrap_or}
use Rattle.std.specs.List.{All, AllByRecursion, list_all, list_any}
use Rattle.std.specs.BTreeMap.{is_at}
use Rattle.std.specs.Map.{lookup}
use Rattle.std.proofs.lemmas.Bool.{and_from}
use Rattle.std.proofs.lemmas.Bool.Decides.{Decides-eqb}
use Rattle.std.proofs.lemmas.Int.{ints}
use Rattle.std.proofs.lemmas.List.Elements.{All-head, All-tail}
use Rattle.std.proofs.lemmas.List.Folds.{list_any-append}
use Rattle.rules_data.specs.values.Val.{is_comparable}
use Rattle.rules_data.specs.values.Tickets.{Identity, Held, tickets}
use Rattle.rules_code.specs.evaluation.Surroundings.{Contract}
use Rattle.rules_code.specs.steps.Changes.{Change, minted, burnt}
use Rattle.rules_code.specs.steps.Changes as changes
use Rattle.rules_world.specs.world.Receipts.{Receipt}
use Rattle.rules_world.specs.world.World.{World, Account, identity_order}
use Rattle.rules_world.specs.world.Balances.{supply}
use Rattle.rules_world.specs.world.Forms.{IsAccount, IsHolding, IsTicket, IsChange}
use Rattle.rules_world.specs.world.Good.{IsGoodContract, known_with}
use Rattle.rules_world.specs.world.Holdings.{held, minted_ever, burnt_ever, identities}
use Rattle.rules_audit.specs.Fields.{Sort, Part}
use Rattle.rules_audit.specs.Fields as fields
use Rattle.rules_audit.specs.Form.{same_identity, is_of}
use Rattle.rules_audit.specs.Lines.{Line}
use Rattle.rules_audit.specs.Lines as lines
use Rattle.rules_audit.specs.Verdicts.{all_parts, same_sort, total, ticket_agrees, first_wrong, has_line, unless_wrong, differs_supply, differs_missing, verdict, agrees}
use Rattle.rules_audit.specs.Verdicts as verdicts
use Rattle.laws_world.proofs.accounts.ForCallers.{alike_equal, ticket_positive}
use Rattle.laws_code.proofs.stacks.ForCallers.{tickets_good}
use Rattle.laws_world.proofs.lines_lemmas.ForCallers.{amount_is_told}
use Rattle.laws_commands.specs.audits.Told.{told}
use Rattle.laws_commands.specs.audits.FileLogs.{receipts_changes}
use Rattle.laws_commands.specs.audits.ToldLines.{identity_of, change_part, holding_part, group_lines, account_line, contract_line, ticket_line, burn_lines, end_lines, told_lines}
use Rattle.laws_commands.specs.audits.Follows.{ticket_in, IsPlain}
use Rattle.laws_commands.specs.audits.Totals.{IsBehind, parts_of}
use Rattle.laws_commands.specs.audits.Judged.{TicketLinesAgree, TicketsHaveLines, ToldLinesAgree}
use Rattle.laws_commands.proofs.audits_lemmas.Identities.{nodes_tell}
use Rattle.laws_commands.proofs.audits_lemmas.Follows.{ArePlain, identities_plain}
use Rattle.mich_audit.proofs.Same.{identity_same}
use Rattle.laws_commands.proofs.audits_lemmas.Supply.{supply_told}
use Rattle.laws_commands.proofs.audits_lemmas.Totals.{totals_told, three, parts_three}
use Rattle.laws_commands.proofs.common.Lists.{all_append}

-- ---- the lines of tickets

abbrev LineAgrees : List Part → Line → Type 0
LineAgrees ps (lines.tickets id m b h) = ticket_agrees ps id m b h ≡ true
LineAgrees ps l = Unit {0}

none_wrong : (ps : List Part) (k : ℕ) (ls : List Line) → AllByRecursion (LineAgrees ps) ls → first_wrong ps k ls ≡ None
none_wrong ps k [] h = refl
none_wrong ps k (lines.tickets id m b n ∷ ls) h = ap (λ t. cond t (first_wrong ps (k + 1) ls) (Some k)) h.0 ∙ none_wrong ps (k + 1) ls h.1
none_wrong ps k (lines.group n xs ∷ ls) h = none_wrong ps k ls h.1
none_wrong ps k (lines.account n xs ∷ ls) h = none_wrong ps k ls h.1
none_wrong ps k (lines.contract n xs f ∷ ls) h = none_wrong ps k ls h.1
none_wrong ps k (lines.fees n ∷ ls) h = none_wrong ps k ls h.1
none_wrong ps k (lines.storage_burn n ∷ ls) h = none_wrong ps k ls h.1
none_wrong ps k (lines.supply n ∷ ls) h = none_wrong ps k ls h.1

groups_agree : (ps : List Part) (n : ℕ) (rs : List Receipt) → AllByRecursion (LineAgrees ps) (group_lines n rs)
groups_agree ps n [] = tt
groups_agree ps n (r ∷ rs) = (tt, groups_agree ps (n + 1) rs)

accounts_agree : (ps : List Part) (xs : List (List ℕ × Account)) → AllByRecursion (LineAgrees ps) (map account_line xs)
accounts_agree ps [] = tt
accounts_agree ps (x ∷ xs) = (tt, accounts_agree ps xs)

contracts_agree : (ps : List Part) (rated : Bool) (xs : List (List ℕ × Contract)) → AllByRecursion (LineAgrees ps) (map (contract_line rated) xs)
contracts_agree ps rated [] = tt
contracts_agree ps rated (x ∷ xs) = (tt, contracts_agree ps rated xs)

end_agrees : (ps : List Part) (w : World) → AllByRecursion (LineAgrees ps) (end_lines w)
end_agrees ps w = by w.rate
  where
    by : (rate : Option ℕ) → AllByRecursion (LineAgrees ps) (lines.fees w.fees ∷ (burn_lines rate w.storage_burn ++ lines.supply (supply w) ∷ []))
    by (Some rate) = (tt, (tt, (tt, tt)))
    by None = (tt, (tt, tt))

-- what was minted is held or was burnt
pub balance : (rs : List Receipt) (w : World) (id : Identity) → IsBehind rs w → held w id +ℤ pos 0 ≡ minted_ever w id -ℤ burnt_ever w id
balance rs w id h = h.good.tickets id

sums_agree : (m b h : ℕ) (M B H : ℤ) → pos m ≡ M → pos b ≡ B → pos h ≡ H → H +ℤ pos 0 ≡ M -ℤ B → m ≡ h + b
sums_agree m b h M B H e f g k = omega (arith, ints, e, f, g, k)

one_agrees : (rs : List Receipt) (w : World) (id : Identity) → IsBehind rs w → is_comparable id.content ≡ true → LineAgrees (parts_of rs w) (ticket_line w id)
one_agrees rs w id h c =
    let t = totals_told rs w id h c in
    let m : unsigned_abs (minted_ever w id) ≡ total Sort.minted (identity_of id) (parts_of rs w) = ap unsigned_abs (sym t.0) in
    let b : unsigned_abs (burnt_ever w id) ≡ total Sort.burnt (identity_of id) (parts_of rs w) = ap unsigned_abs (sym t.1) in
    let n : unsigned_abs (held w id) ≡ total Sort.held (identity_of id) (parts_of rs w) = ap unsigned_abs (sym t.2) in
    let all : unsigned_abs (minted_ever w id) ≡ unsigned_abs (held w id) + unsigned_abs (burnt_ever w id) =
    m ∙ sums_agree _ _ _ _ _ _ t.0 t.1 t.2 (balance rs w id h) ∙ ap (λ k. k + total Sort.burnt (identity_of id) (parts_of rs w)) (sym n) ∙ ap (λ k. unsigned_abs (held w id) + k) (sym b) in
    and_from _ _ ((Decides-eqb _ _).1 m) (and_from _ _ ((Decides-eqb _ _).1 b) (and_from _ _ ((Decides-eqb _ _).1 n) ((Decides-eqb _ _).1 all)))

tickets_agree : (rs : List Receipt) (w : World) → IsBehind rs w → (ids : List Identity) → ArePlain ids → AllByRecursion (LineAgrees (parts_of rs w)) (map (ticket_line w) ids)
tickets_agree rs w h [] p = tt
tickets_agree rs w h (id ∷ ids) p = (one_agrees rs w id h p.0, tickets_agree rs w h ids p.1)

pub lines_agree : TicketLinesAgree
lines_agree rs w h =
    let ps : List Part = parts_of rs w in
    none_wrong ps 1 (told_lines rs w)
    (all_append (LineAgrees ps) (group_lines 1 rs) _ (groups_agree ps 1 rs)
    (all_append (LineAgrees ps) (map account_line w.accounts) _ (accounts_agree ps w.accounts)
    (all_append (LineAgrees ps) (map (contract_line (is_some w.rate)) w.contracts) _ (contracts_agree ps (is_some w.rate) w.contracts)
    (all_append (LineAgrees ps) (map (ticket_line w) (identities w.log)) (end_lines w) (tickets_agree rs w h (identities w.log) (identities_plain w.log h.plain.log)) (end_agrees ps w)))))

-- ---- each ticket has a line

among_minted : (id : Identity) (w : World) (is : List Identity) → pos 0 <ℤ unwrap_or (lookup (is_at (identity_order id)) (map (λ j. (j, minted_ever w j)) is)) (pos 0) →
    list_any (is_at (identity_order id)) is ≡ true
among_minted id w [] h = absurd (nothing h)
  where
    nothing : pos 0 <ℤ pos 0 → ⊥
    nothing h = omega (arith, ints)
among_minted id w (i ∷ is) h = by (λ g. among_minted id w is g) (is_at (identity_order id) i) h
  where
    by : (pos 0 <ℤ unwrap_or (lookup (is_at (identity_order id)) (map (λ j. (j, minted_ever w j)) is)) (pos 0) → list_any (is_at (identity_order id)) is ≡ true) →
        (b : Bool) → pos 0 <ℤ unwrap_or (cond b (Some (minted_ever w i)) (lookup (is_at (identity_order id)) (map (λ j. (j, minted_ever w j)) is))) (pos 0) →
        (b || list_any (is_at (identity_order id)) is) ≡ true
    by again true h = refl
    by again false h = again h

lines_among : (id : Identity) (w : World) (is : List Identity) → is_comparable id.content ≡ true → ArePlain is →
    list_any (is_of (identity_of id)) (map (ticket_line w) is) ≡ list_any (is_at (identity_order id)) is
lines_among id w [] c p = refl
lines_among id w (i ∷ is) c p =
    let head : same_identity (identity_of id) (identity_of i) ≡ is_at (identity_order id) i = nodes_tell id i c p.0 ∙ alike_equal id i in
    let tail = lines_among id w is c p.1 in λ k. head k || tail k

later : (p : Line → Bool) (xs ys : List Line) → list_any p ys ≡ true → list_any p (xs ++ ys) ≡ true
later p xs ys h = list_any-append p xs ys ∙ ap (λ b. list_any p xs || b) h ∙ last (list_any p xs)
  where
    last : (b : Bool) → (b || true) ≡ true
    last true = refl
    last false = refl

sooner : (p : Line → Bool) (xs ys : List Line) → list_any p xs ≡ true → list_any p (xs ++ ys) ≡ true
sooner p xs ys h = list_any-append p xs ys ∙ ap (λ b. b || list_any p ys) h

minted_has_line : (rs : List Receipt) (w : World) (id : Identity) → IsBehind rs w → is_comparable id.content ≡ true → pos 0 <ℤ minted_ever w id →
    list_any (is_of (identity_of id)) (told_lines rs w) ≡ true
minted_has_line rs w id h c m =
    let among = among_minted id w (identities w.log) (subst (λ n. pos 0 <ℤ n) (sym (amount_is_told w h.good.sound.form id)) m) in
    later _ (group_lines 1 rs) _
    (later _ (map account_line w.accounts) _
    (later _ (map (contract_line (is_some w.rate)) w.contracts) _
    (sooner _ (map (ticket_line w) (identities w.log)) (end_lines w) (lines_among id w (identities w.log) c (identities_plain w.log h.plain.log) ∙ among))))

-- something was minted of what something is told of
minted_of : (rs : List Receipt) (w : World) (id : Identity) → IsBehind rs w → is_comparable id.content ≡ true → (s : Sort) → 1 ≤ total s (identity_of id) (parts_of rs w) → pos 0 <ℤ minted_ever w id
minted_of rs w id h c s n = by (totals_told rs w id h c) s n
  where
    one : (m b k : ℕ) (M B H : ℤ) → pos m ≡ M → pos b ≡ B → pos k ≡ H → H +ℤ pos 0 ≡ M -ℤ B → 1 ≤ m + b + k → pos 0 <ℤ M
    one m b k M B H e f g l n = omega (arith, ints, e, f, g, l, n)

    by : (pos (total Sort.minted (identity_of id) (parts_of rs w)) ≡ minted_ever w id) × (pos (total Sort.burnt (identity_of id) (parts_of rs w)) ≡ burnt_ever w id)
        × (pos (total Sort.held (identity_of id) (parts_of rs w)) ≡ held w id) → (s : Sort) → 1 ≤ total s (identity_of id) (parts_of rs w) → pos 0 <ℤ minted_ever w id
    by t Sort.minted n = one (total Sort.minted (identity_of id) (parts_of rs w)) _ _ _ _ _ t.0 t.1 t.2 (balance rs w id h) (omega (arith, n))
    by t Sort.burnt n = one _ (total Sort.burnt (identity_of id) (parts_of rs w)) _ _ _ _ t.0 t.1 t.2 (balance rs w id h) (omega (arith, n))
    by t Sort.held n = one _ _ (total Sort.held (identity_of id) (parts_of rs w)) _ _ _ t.0 t.1 t.2 (balance rs w id h) (omega (arith, n))

-- a part tells something of a ticket with a comparable content
abbrev pub IsOfTicket : Part → Type 0
IsOfTicket p = (id : Identity) × (is_comparable id.content ≡ true) × (p.identity ≡ identity_of id) × (1 ≤ p.amount)

pub own_amount : (p : Part) → verdicts.amount_of p.sort p.identity p ≡ p.amount
own_amount p = ap (λ b. cond b p.amount 0) (and_from _ _ (itself p.sort) (identity_same p.identity))
  where
    itself : (s : Sort) → same_sort s s ≡ true
    itself Sort.minted = refl
    itself Sort.burnt = refl
    itself Sort.held = refl

all_have : (rs : List Receipt) (w : World) → IsBehind rs w → (ps : List Part) → AllByRecursion IsOfTicket ps →
    ((s : Sort) (i : fields.Identity) → total s i ps ≤ total s i (parts_of rs w)) → list_all (has_line (told_lines rs w)) ps ≡ true
all_have rs w h [] o le = refl
all_have rs w h (p ∷ ps) o le =
    let id : Identity = o.0.0 in
    let own = own_amount p in
    let whole = le p.sort p.identity in
    let least = o.0.3 in
    let some : 1 ≤ total p.sort p.identity (parts_of rs w) = omega (arith, own, whole, least) in
    let more : 1 ≤ total p.sort (identity_of id) (parts_of rs w) = subst (λ i. 1 ≤ total p.sort i (parts_of rs w)) o.0.2 some in
    let here : list_any (is_of p.identity) (told_lines rs w) ≡ true =
    ap (λ i. list_any (is_of i) (told_lines rs w)) o.0.2 ∙ minted_has_line rs w id h o.0.1 (minted_of rs w id h o.0.1 p.sort more) in
    and_from (has_line (told_lines rs w) p) (list_all (has_line (told_lines rs w)) ps) here
    (all_have rs w h ps o.1 (λ s i. let l = le s i in omega (arith, l)))

abs_least : (a : ℤ) → pos 0 <ℤ a → 1 ≤ unsigned_abs a
abs_least a h = by a h
  where
    under : (m : ℕ) → pos 0 <ℤ ℤ.negsuc m → ⊥
    under m h = omega (arith, ints)

    by : (a : ℤ) → pos 0 <ℤ a → 1 ≤ unsigned_abs a
    by (pos m) h = omega (arith, ints)
    by (ℤ.negsuc m) h = absurd (under m h)

changes_of_tickets : (cs : List Change) → AllByRecursion (λ c. IsPlain (ticket_in c)) cs → All IsChange cs → AllByRecursion IsOfTicket (map change_part cs)
changes_of_tickets [] p f = tt
changes_of_tickets (minted t ∷ cs) p f =
    ((changes.identity_of t, p.0, refl, abs_least t.amount (ticket_positive t (All-head IsChange (minted t) cs f).1)), changes_of_tickets cs p.1 (All-tail IsChange (minted t) cs f))
changes_of_tickets (burnt t ∷ cs) p f =
    ((changes.identity_of t, p.0, refl, abs_least t.amount (ticket_positive t (All-head IsChange (burnt t) cs f).1)), changes_of_tickets cs p.1 (All-tail IsChange (burnt t) cs f))

holdings_of_tickets : (hs : List (Identity × ℤ)) → AllByRecursion (λ h. is_comparable h.0.content ≡ true) hs → All IsHolding hs → AllByRecursion IsOfTicket (map holding_part hs)
holdings_of_tickets [] p f = tt
holdings_of_tickets (h ∷ hs) p f = ((h.0, p.0, refl, abs_least h.1 (All-head IsHolding h hs f).1), holdings_of_tickets hs p.1 (All-tail IsHolding h hs f))

stored_of_tickets : (ts : List Held) → AllByRecursion IsPlain ts → All IsTicket ts → AllByRecursion IsOfTicket (map told ts)
stored_of_tickets [] p f = tt
stored_of_tickets (t ∷ ts) p f =
    ((changes.identity_of t, p.0, refl, abs_least t.amount (ticket_positive t (All-head IsTicket t ts f).1)), stored_of_tickets ts p.1 (All-tail IsTicket t ts f))

accounts_of_tickets : (xs : List (List ℕ × Account)) → AllByRecursion (λ a. AllByRecursion (λ h. is_comparable h.0.content ≡ true) a.1.holdings) xs → All IsAccount xs →
    AllByRecursion IsOfTicket (all_parts (map account_line xs))
accounts_of_tickets [] p f = tt
accounts_of_tickets (x ∷ xs) p f =
    all_append IsOfTicket (map holding_part x.1.holdings) _ (holdings_of_tickets x.1.holdings p.0 (All-head IsAccount x xs f).1) (accounts_of_tickets xs p.1 (All-tail IsAccount x xs f))

contracts_of_tickets : (w : World) (rated : Bool) (xs : List (List ℕ × Contract)) → AllByRecursion (λ c. AllByRecursion IsPlain (tickets c.1.storage)) xs → All (IsGoodContract w) xs →
    AllByRecursion IsOfTicket (all_parts (map (contract_line rated) xs))
contracts_of_tickets w rated [] p f = tt
contracts_of_tickets w rated (x ∷ xs) p f =
    let stores = All-head (IsGoodContract w) x xs f in
    all_append IsOfTicket (map told (tickets x.1.storage)) _ (stored_of_tickets (tickets x.1.storage) p.0 (tickets_good (known_with w []) stores.0.storage x.1.storage stores.3))
    (contracts_of_tickets w rated xs p.1 (All-tail (IsGoodContract w) x xs f))

pub three_of_tickets : (rs : List Receipt) (w : World) → IsBehind rs w → AllByRecursion IsOfTicket (three rs w)
three_of_tickets rs w h =
    all_append IsOfTicket (map change_part (receipts_changes rs)) _
    (changes_of_tickets (receipts_changes rs) (subst (λ cs. AllByRecursion (λ c. IsPlain (ticket_in c)) cs) h.log h.plain.log) (subst (λ cs. All IsChange cs) h.log h.good.sound.form.log))
    (all_append IsOfTicket (all_parts (map account_line w.accounts)) _ (accounts_of_tickets w.accounts h.plain.accounts h.good.sound.form.accounts)
    (contracts_of_tickets w (is_some w.rate) w.contracts h.plain.contracts h.good.sound.contracts))

pub have_lines : TicketsHaveLines
have_lines rs w h =
    all_have rs w h (parts_of rs w) (subst (AllByRecursion IsOfTicket) (sym (parts_three rs w)) (three_of_tickets rs w h)) (λ s i. omega arith)

-- ---- the verdict

pub told_agree : ToldLinesAgree
told_agree rs w h =
    ap (λ b. cond b (unless_wrong (first_wrong (parts_of rs w) 1 (told_lines rs w)) (told_lines rs w)) differs_supply) (supply_told rs w h.burns).1
    ∙ ap (λ o. unless_wrong o (told_lines rs w)) (lines_agree rs w h)
    ∙ ap (λ b. cond b agrees differs_missing) (have_lines rs w h)
