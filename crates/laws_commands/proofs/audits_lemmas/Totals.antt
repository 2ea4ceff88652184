-- What is told of a ticket, all together.
use Rattle.std.proofs.Common.{◌≡◌, ◌+◌, ℕ, Bool, true, false, cond, ◌&&◌, Option, Some, None, is_some, List, [], ◌∷◌, ◌++◌, map, refl, sym, ap, ◌∙◌, subst, append_assoc, arith}
use Rattle.std.specs.Prelude.{ℤ, pos, negsuc, ◌+ℤ◌, ◌<ℤ◌, unsigned_abs, unwrap_or}
use Rattle.std.specs.List.{All, AllByRecursion}
use Rattle.std.specs.declared.cmp.Ordering.TheVariants.{Less, Equal}
use Rattle.std.specs.Ordering.{is_eq}
use Rattle.std.specs.BTreeMap.{is_at}
use Rattle.std.specs.Map.{lookup, keys_of}
use Rattle.std.specs.List.Sorted.{IsStrictlySortedBy}
use Rattle.std.proofs.lemmas.Int.{ints}
use Rattle.std.proofs.lemmas.List.{map-append, append-nil}
use Rattle.std.proofs.lemmas.List.Elements.{All-head, All-tail}
use Rattle.rules_data.specs.values.Val.{is_comparable}
use Rattle.rules_data.specs.values.Tickets.{Identity, Held, tickets}
use Rattle.rules_code.specs.evaluation.Surroundings.{Contract}
use Rattle.rules_code.specs.steps.Changes.{Change, minted, burnt, is_alike, amount_of, amount_among, minted_in, burnt_in}
use Rattle.rules_code.specs.steps.Changes as changes
use Rattle.rules_world.specs.world.Receipts.{Receipt}
use Rattle.rules_world.specs.world.World.{World, Account, identity_order}
use Rattle.rules_world.specs.world.Balances.{supply}
use Rattle.rules_world.specs.world.Forms.{IsWorld, IsAccount, IsHolding, IsTicket, IsChange}
use Rattle.rules_world.specs.world.Good.{IsGoodContract, known_with}
use Rattle.rules_world.specs.world.Holdings.{held_by_accounts, held_by_contracts, identities}
use Rattle.rules_audit.specs.Fields.{Sort, Part}
use Rattle.rules_audit.specs.Fields as fields
use Rattle.rules_audit.specs.Form.{same_identity}
use Rattle.rules_audit.specs.Lines.{Line}
use Rattle.rules_audit.specs.Lines as lines
use Rattle.rules_audit.specs.Verdicts.{all_parts, parts_in, same_sort, total}
use Rattle.rules_audit.specs.Verdicts as verdicts
use Rattle.laws_world.proofs.accounts.ForCallers.{alike_equal, identity_total, equal_of, ticket_positive}
use Rattle.laws_code.proofs.stacks.ForCallers.{tickets_good}
use Rattle.laws_commands.specs.audits.Told.{told}
use Rattle.laws_commands.specs.audits.Changes.{receipt_changes}
use Rattle.laws_commands.specs.audits.FileLogs.{receipts_changes}
use Rattle.laws_commands.specs.audits.ToldLines.{identity_of, change_part, holding_part, group_lines, account_line, contract_line, ticket_line, burn_lines, end_lines}
use Rattle.laws_commands.specs.audits.Follows.{ticket_in, IsPlain}
use Rattle.laws_commands.specs.audits.Totals.{parts_of, TotalsAreTold}
use Rattle.laws_commands.proofs.audits_lemmas.Identities.{nodes_tell}
use Rattle.laws_commands.proofs.audits_lemmas.Follows.{head_below, tail_sorted}

-- ---- sums

pub total_append : (s : Sort) (i : fields.Identity) (ps qs : List Part) → total s i (ps ++ qs) ≡ total s i ps + total s i qs
total_append s i [] qs = omega arith
total_append s i (p ∷ ps) qs = let e = total_append s i ps qs in omega (arith, e)

below : (m : ℕ) → pos 0 <ℤ negsuc m → ⊥
below m h = omega (arith, ints)

abs_positive : (n : ℤ) → pos 0 <ℤ n → pos (unsigned_abs n) ≡ n
abs_positive n h = by n h
  where
    by : (n : ℤ) → pos 0 <ℤ n → pos (unsigned_abs n) ≡ n
    by (pos m) h = refl
    by (negsuc m) h = absurd (below m h)

sum_of : (m n : ℕ) (a b : ℤ) → pos m ≡ a → pos n ≡ b → pos (m + n) ≡ a +ℤ b
sum_of m n a b e g = omega (arith, ints, e, g)

none_of : (n : ℕ) (b : ℤ) → pos n ≡ b → pos (0 + n) ≡ b
none_of n b e = omega (arith, ints, e)

-- what one part tells of a ticket
one_amount : (id : Identity) (j : Identity) (a : ℤ) → is_comparable id.content ≡ true → is_comparable j.content ≡ true → pos 0 <ℤ a →
    pos (cond (same_identity (identity_of id) (identity_of j)) (unsigned_abs a) 0) ≡ cond (is_alike id j) a (pos 0)
one_amount id j a c d h = ap (λ b. pos (cond b (unsigned_abs a) 0)) (nodes_tell id j c d) ∙ by (is_alike id j)
  where
    by : (b : Bool) → pos (cond b (unsigned_abs a) 0) ≡ cond b a (pos 0)
    by true = abs_positive a h
    by false = refl

-- ---- changes

minted_total : (id : Identity) (cs : List Change) → is_comparable id.content ≡ true → AllByRecursion (λ c. IsPlain (ticket_in c)) cs → All IsChange cs →
    pos (total Sort.minted (identity_of id) (map change_part cs)) ≡ minted_in id cs
minted_total id [] c p f = refl
minted_total id (minted t ∷ cs) c p f =
    sum_of (cond (same_identity (identity_of id) (identity_of (changes.identity_of t))) (unsigned_abs t.amount) 0) _ _ _
    (one_amount id (changes.identity_of t) t.amount c p.0 (ticket_positive t (All-head IsChange (minted t) cs f).1))
    (minted_total id cs c p.1 (All-tail IsChange (minted t) cs f))
minted_total id (burnt t ∷ cs) c p f = none_of _ _ (minted_total id cs c p.1 (All-tail IsChange (burnt t) cs f))

burnt_total : (id : Identity) (cs : List Change) → is_comparable id.content ≡ true → AllByRecursion (λ c. IsPlain (ticket_in c)) cs → All IsChange cs →
    pos (total Sort.burnt (identity_of id) (map change_part cs)) ≡ burnt_in id cs
burnt_total id [] c p f = refl
burnt_total id (burnt t ∷ cs) c p f =
    sum_of (cond (same_identity (identity_of id) (identity_of (changes.identity_of t))) (unsigned_abs t.amount) 0) _ _ _
    (one_amount id (changes.identity_of t) t.amount c p.0 (ticket_positive t (All-head IsChange (burnt t) cs f).1))
    (burnt_total id cs c p.1 (All-tail IsChange (burnt t) cs f))
burnt_total id (minted t ∷ cs) c p f = none_of _ _ (burnt_total id cs c p.1 (All-tail IsChange (minted t) cs f))

-- nothing is told of another sort
none_held : (i : fields.Identity) (cs : List Change) → total Sort.held i (map change_part cs) ≡ 0
none_held i [] = refl
none_held i (minted t ∷ cs) = let e = none_held i cs in omega (arith, e)
none_held i (burnt t ∷ cs) = let e = none_held i cs in omega (arith, e)

-- ---- holdings

-- what is level with one that is below all is among none of them
none_level : (id i : Identity) (hs : List (Identity × ℤ)) → identity_order id i ≡ Equal → AllByRecursion (λ j. identity_order i j ≡ Less) (keys_of hs) →
    unwrap_or (lookup (is_at (identity_order id)) hs) (pos 0) ≡ pos 0
none_level id i [] e h = refl
none_level id i (x ∷ hs) e h =
    ap (λ r. unwrap_or (cond (is_eq r) (Some x.1) (lookup (is_at (identity_order id)) hs)) (pos 0)) (identity_total.congr id i x.0 e ∙ h.0)
    ∙ none_level id i hs e h.1

holdings_total : (id : Identity) (hs : List (Identity × ℤ)) → is_comparable id.content ≡ true → AllByRecursion (λ h. is_comparable h.0.content ≡ true) hs →
    All IsHolding hs → IsStrictlySortedBy identity_order (keys_of hs) →
    pos (total Sort.held (identity_of id) (map holding_part hs)) ≡ unwrap_or (lookup (is_at (identity_order id)) hs) (pos 0)
holdings_total id [] c p f s = refl
holdings_total id (h ∷ hs) c p f s =
    sum_of (cond (same_identity (identity_of id) (identity_of h.0)) (unsigned_abs h.1) 0) _ _ _
    (one_amount id h.0 h.1 c p.0 (All-head IsHolding h hs f).1)
    (holdings_total id hs c p.1 (All-tail IsHolding h hs f) (tail_sorted h.0 (keys_of hs) s))
    ∙ ap (λ b. cond b h.1 (pos 0) +ℤ unwrap_or (lookup (is_at (identity_order id)) hs) (pos 0)) (alike_equal id h.0)
    ∙ by (is_at (identity_order id) h.0) refl
  where
    alone : (a b : ℤ) → b ≡ pos 0 → a +ℤ b ≡ a
    alone a b e = omega (arith, ints, e)

    other : (b : ℤ) → pos 0 +ℤ b ≡ b
    other b = omega (arith, ints)

    by : (b : Bool) → is_at (identity_order id) h.0 ≡ b → cond b h.1 (pos 0) +ℤ unwrap_or (lookup (is_at (identity_order id)) hs) (pos 0)
        ≡ unwrap_or (cond b (Some h.1) (lookup (is_at (identity_order id)) hs)) (pos 0)
    by true e = alone h.1 _ (none_level id h.0 hs (equal_of (identity_order id h.0) e) (head_below h.0 (keys_of hs) s))
    by false e = other _

none_changed_by_holdings : (s : Sort) (i : fields.Identity) (hs : List (Identity × ℤ)) → same_sort s Sort.held ≡ false → total s i (map holding_part hs) ≡ 0
none_changed_by_holdings s i [] e = refl
none_changed_by_holdings s i (h ∷ hs) e =
    let here : verdicts.amount_of s i (holding_part h) ≡ 0 = ap (λ b. cond (b && same_identity i (identity_of h.0)) (unsigned_abs h.1) 0) e in
    let rest = none_changed_by_holdings s i hs e in omega (arith, here, rest)

-- ---- stored tickets

stored_total : (id : Identity) (ts : List Held) → is_comparable id.content ≡ true → AllByRecursion IsPlain ts → All IsTicket ts →
    pos (total Sort.held (identity_of id) (map told ts)) ≡ amount_among id ts
stored_total id [] c p f = refl
stored_total id (t ∷ ts) c p f =
    sum_of (cond (same_identity (identity_of id) (identity_of (changes.identity_of t))) (unsigned_abs t.amount) 0) _ _ _
    (one_amount id (changes.identity_of t) t.amount c p.0 (ticket_positive t (All-head IsTicket t ts f).1))
    (stored_total id ts c p.1 (All-tail IsTicket t ts f))

none_changed_by_stored : (s : Sort) (i : fields.Identity) (ts : List Held) → same_sort s Sort.held ≡ false → total s i (map told ts) ≡ 0
none_changed_by_stored s i [] e = refl
none_changed_by_stored s i (t ∷ ts) e =
    let here : verdicts.amount_of s i (told t) ≡ 0 = ap (λ b. cond (b && same_identity i (identity_of (changes.identity_of t))) (unsigned_abs t.amount) 0) e in
    let rest = none_changed_by_stored s i ts e in omega (arith, here, rest)

-- ---- lines

pub parts_append : (ls ks : List Line) → all_parts (ls ++ ks) ≡ all_parts ls ++ all_parts ks
parts_append [] ks = refl
parts_append (l ∷ ls) ks = ap (λ ps. parts_in l ++ ps) (parts_append ls ks) ∙ sym (append_assoc (parts_in l) (all_parts ls) (all_parts ks))

pub group_parts : (n : ℕ) (rs : List Receipt) → all_parts (group_lines n rs) ≡ map change_part (receipts_changes rs)
group_parts n [] = refl
group_parts n (r ∷ rs) =
    ap (λ ps. map change_part (receipt_changes r) ++ ps) (group_parts (n + 1) rs) ∙ sym (map-append change_part (receipt_changes r) (receipts_changes rs))

pub no_parts : (w : World) (ids : List Identity) → all_parts (map (ticket_line w) ids) ≡ []
no_parts w [] = refl
no_parts w (id ∷ ids) = no_parts w ids

pub end_parts : (w : World) → all_parts (end_lines w) ≡ []
end_parts w = by w.rate
  where
    by : (rate : Option ℕ) → all_parts (lines.fees w.fees ∷ (burn_lines rate w.storage_burn ++ lines.supply (supply w) ∷ [])) ≡ []
    by (Some rate) = refl
    by None = refl

-- the parts of changes, accounts and contracts
abbrev pub three : List Receipt → World → List Part
three rs w = map change_part (receipts_changes rs) ++ (all_parts (map account_line w.accounts) ++ all_parts (map (contract_line (is_some w.rate)) w.contracts))

pub parts_three : (rs : List Receipt) (w : World) → parts_of rs w ≡ three rs w
parts_three rs w =
    parts_append (group_lines 1 rs) _
    ∙ ap (λ ps. ps ++ all_parts (map account_line w.accounts ++ (map (contract_line (is_some w.rate)) w.contracts ++ (map (ticket_line w) (identities w.log) ++ end_lines w)))) (group_parts 1 rs)
    ∙ ap (λ ps. map change_part (receipts_changes rs) ++ ps)
    (parts_append (map account_line w.accounts) _
    ∙ ap (λ ps. all_parts (map account_line w.accounts) ++ ps)
    (parts_append (map (contract_line (is_some w.rate)) w.contracts) _
    ∙ ap (λ ps. all_parts (map (contract_line (is_some w.rate)) w.contracts) ++ ps) (parts_append (map (ticket_line w) (identities w.log)) (end_lines w)
    ∙ ap (λ ps. ps ++ all_parts (end_lines w)) (no_parts w (identities w.log)) ∙ end_parts w)
    ∙ append-nil (all_parts (map (contract_line (is_some w.rate)) w.contracts))))

accounts_total : (id : Identity) (xs : List (List ℕ × Account)) → is_comparable id.content ≡ true →
    AllByRecursion (λ a. AllByRecursion (λ h. is_comparable h.0.content ≡ true) a.1.holdings) xs → All IsAccount xs →
    pos (total Sort.held (identity_of id) (all_parts (map account_line xs))) ≡ held_by_accounts id xs
accounts_total id [] c p f = refl
accounts_total id (x ∷ xs) c p f =
    let form = All-head IsAccount x xs f in
    ap pos (total_append Sort.held (identity_of id) (map holding_part x.1.holdings) (all_parts (map account_line xs)))
    ∙ sum_of (total Sort.held (identity_of id) (map holding_part x.1.holdings)) _ _ _ (holdings_total id x.1.holdings c p.0 form.1 form.2)
    (accounts_total id xs c p.1 (All-tail IsAccount x xs f))

contracts_total : (id : Identity) (w : World) (rated : Bool) (xs : List (List ℕ × Contract)) → is_comparable id.content ≡ true →
    AllByRecursion (λ c. AllByRecursion IsPlain (tickets c.1.storage)) xs → All (IsGoodContract w) xs →
    pos (total Sort.held (identity_of id) (all_parts (map (contract_line rated) xs))) ≡ held_by_contracts id xs
contracts_total id w rated [] c p f = refl
contracts_total id w rated (x ∷ xs) c p f =
    let stores = All-head (IsGoodContract w) x xs f in
    ap pos (total_append Sort.held (identity_of id) (map told (tickets x.1.storage)) (all_parts (map (contract_line rated) xs)))
    ∙ sum_of (total Sort.held (identity_of id) (map told (tickets x.1.storage))) _ _ _
    (stored_total id (tickets x.1.storage) c p.0 (tickets_good (known_with w []) stores.0.storage x.1.storage stores.3))
    (contracts_total id w rated xs c p.1 (All-tail (IsGoodContract w) x xs f))

accounts_none : (s : Sort) (i : fields.Identity) (xs : List (List ℕ × Account)) → same_sort s Sort.held ≡ false → total s i (all_parts (map account_line xs)) ≡ 0
accounts_none s i [] e = refl
accounts_none s i (x ∷ xs) e =
    let both = total_append s i (map holding_part x.1.holdings) (all_parts (map account_line xs)) in
    let here = none_changed_by_holdings s i x.1.holdings e in
    let rest = accounts_none s i xs e in omega (arith, both, here, rest)

contracts_none : (s : Sort) (i : fields.Identity) (rated : Bool) (xs : List (List ℕ × Contract)) → same_sort s Sort.held ≡ false → total s i (all_parts (map (contract_line rated) xs)) ≡ 0
contracts_none s i rated [] e = refl
contracts_none s i rated (x ∷ xs) e =
    let both = total_append s i (map told (tickets x.1.storage)) (all_parts (map (contract_line rated) xs)) in
    let here = none_changed_by_stored s i (tickets x.1.storage) e in
    let rest = contracts_none s i rated xs e in omega (arith, both, here, rest)

-- ---- all together

total_three : (s : Sort) (i : fields.Identity) (rs : List Receipt) (w : World) →
    total s i (parts_of rs w)
    ≡ total s i (map change_part (receipts_changes rs)) + (total s i (all_parts (map account_line w.accounts)) + total s i (all_parts (map (contract_line (is_some w.rate)) w.contracts)))
total_three s i rs w =
    ap (total s i) (parts_three rs w)
    ∙ total_append s i (map change_part (receipts_changes rs)) _
    ∙ ap (λ n. total s i (map change_part (receipts_changes rs)) + n) (total_append s i (all_parts (map account_line w.accounts)) (all_parts (map (contract_line (is_some w.rate)) w.contracts)))

first_alone : (n a b c : ℕ) (z : ℤ) → n ≡ a + (b + c) → b ≡ 0 → c ≡ 0 → pos a ≡ z → pos n ≡ z
first_alone n a b c z e f g h = ap pos (omega (arith, e, f, g)) ∙ h

pub totals_told : TotalsAreTold
totals_told rs w id h c =
    let i = identity_of id in
    let form : IsWorld w = h.good.sound.form in
    let plain = subst (λ cs. AllByRecursion (λ c. IsPlain (ticket_in c)) cs) h.log h.plain.log in
    let changed = subst (λ cs. All IsChange cs) h.log form.log in (
      first_alone _ (total Sort.minted i (map change_part (receipts_changes rs))) _ _ _ (total_three Sort.minted i rs w) (accounts_none Sort.minted i w.accounts refl)
          (contracts_none Sort.minted i (is_some w.rate) w.contracts refl) (minted_total id (receipts_changes rs) c plain changed ∙ ap (minted_in id) (sym h.log)),
      first_alone _ (total Sort.burnt i (map change_part (receipts_changes rs))) _ _ _ (total_three Sort.burnt i rs w) (accounts_none Sort.burnt i w.accounts refl)
          (contracts_none Sort.burnt i (is_some w.rate) w.contracts refl) (burnt_total id (receipts_changes rs) c plain changed ∙ ap (burnt_in id) (sym h.log)),
      ap pos (total_three Sort.held i rs w ∙ ap (λ n. n + (total Sort.held i (all_parts (map account_line w.accounts)) + total Sort.held i (all_parts (map (contract_line (is_some w.rate)) w.contracts)))) (none_held i (receipts_changes rs)))
          ∙ none_of _ _ (sum_of (total Sort.held i (all_parts (map account_line w.accounts))) _ _ _ (accounts_total id w.accounts c h.plain.accounts form.accounts)
          (contracts_total id w (is_some w.rate) w.contracts c h.plain.contracts h.good.sound.contracts)),
    )
