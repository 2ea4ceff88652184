-- The state of a course whose world can be kept is sound and has a spelling.
use Rattle.std.proofs.Common.{◌≡◌, ◌≤◌, ◌<◌, ◌^◌, ◌+◌, ◌-◌, ◌⊎◌, inl, inr, ℕ, Bool, true, false, cond, ◌&&◌, ◌||◌, nat_le, List, [], ◌∷◌, ◌++◌, map, length, take, drop, Option, Some, None, is_some, unwrap_or, refl, sym, ap, ◌∙◌, subst, ℤ, pos, ◌-ℤ◌, ◌<ℤ◌, ◌≤ℤ◌, arith}
use Rattle.std.specs.Prelude.{◌==◌, int_le, int_lt, replicate, not, if◌then◌else◌, FitsSigned}
use Rattle.std.specs.Int.{w64, w128, from_be_bytes}
use Rattle.std.specs.List.{All, AllByRecursion, list_all, list_any, sum_by}
use Rattle.std.specs.List.Sorted.{IsStrictlySortedBy}
use Rattle.std.specs.Map.{lookup, keys_of}
use Rattle.std.specs.BTreeMap.{is_at}
use Rattle.std.specs.Ordering.{nat_cmp, int_eq}
use Rattle.std.specs.Cmp.Lexicographic.{slice_cmp}
use Rattle.std.specs.Str.{bytes_eq}
use Rattle.std.proofs.lemmas.Bool.{eqb-true, and_from, or_left, or_right}
use Rattle.std.proofs.lemmas.Bool.Decides.{nat_tests, Decides-eqb}
use Rattle.std.proofs.lemmas.Int.{ints}
use Rattle.std.proofs.lemmas.Nat.{from_be_bytes-to_be_bytes_8}
use Rattle.std.proofs.lemmas.Slice.Eq.{bytes_eq-Decides}
use Rattle.rules_text.specs.nodes.Limits.{most_mutez, most_level, most_rate}
use Rattle.rules_data.specs.gas.Prices.{Listed, nothing_listed}
use Rattle.rules_data.specs.values.Forms.{is_ticket_amount}
use Rattle.rules_data.specs.values.Tickets.{Identity, Held, tickets}
use Rattle.rules_code.specs.instructions.Arguments.{Found, found}
use Rattle.rules_code.specs.steps.Changes.{identity_of}
use Rattle.rules_code.specs.typing.Nodes.{script}
use Rattle.rules_code.specs.typing.Scripts.{Script}
use Rattle.rules_code.specs.evaluation.Contracts.{hash_in}
use Rattle.rules_code.specs.evaluation.Surroundings.{Contract}
use Rattle.rules_world.specs.world.World.{World, Account, identity_order}
use Rattle.rules_world.specs.world.Balances.{supply}
use Rattle.rules_world.specs.world.Growth.{size_of}
use Rattle.rules_world.specs.world.Holdings.{minted_ever, burnt_ever, identities}
use Rattle.rules_world.specs.world.Forms.{is_moment, IsAccount, IsHolding, IsTwentyBytes}
use Rattle.rules_world.specs.world.Good.{known_with, IsGoodContract, IsGood}
use Rattle.rules_files.specs.statements.Statements.{Statement}
use Rattle.rules_files.specs.course.Course.{Course}
use Rattle.rules_files.specs.snapshots.State.{State, Total}
use Rattle.rules_files.specs.snapshots.Spelling.{account_spelling, contract_spelling, total_spelling, state_spelling}
use Rattle.rules_files.specs.snapshots.Course.{is_costs, is_start, total_of, all_prices, state_of}
use Rattle.rules_files.specs.snapshots.Loading.{is_long, nodes_in}
use Rattle.rules_files.specs.snapshots.Reading.{snapshot_limit}
use Rattle.rules_files.specs.snapshots.Rules.{byte_order, is_above, is_standard, is_stored, has_begun, is_head, are_costs, all_mutez, are_sums, has_total, amount_there, is_content, are_holdings, is_account, is_hash, has_storage, is_paid, is_contract, is_total, Part, counted_parts, is_sound}
use Rattle.rules_files.specs.snapshots.Spelt.{IsEight, IsIssuer, IsIdentity, IsSpeltHolding, IsSpeltAccount, IsSpeltContract, IsSpeltTotal, IsSpelt}
use Rattle.laws_files.specs.Laws.{HasPaid}
use Rattle.laws_files.proofs.snapshots_lemmas.Values.{hash_is}
use Rattle.laws_world.proofs.lines_lemmas.ForCallers.{told_in_order}
use Rattle.laws_world.proofs.runs.ForCallers.{contract_length, orderly_of, found_same, script_code}
use Rattle.laws_commands.specs.reached.Kept.{IsPast, IsKeptContract, IsKeptIdentity, IsKept}
use Rattle.laws_commands.proofs.reached_lemmas.Courses.{IsRate, IsBehind}
use Rattle.laws_commands.proofs.reached_lemmas.Lengths.{few_accounts, few_contracts, few_tickets, few_holdings, storage_short, nodes_short}
use Rattle.laws_commands.proofs.reached_lemmas.Lists.{each_in, each_among, all_of, here, all_unmapped, all_mapped, all_pass, one_within, sum_over}
use Rattle.laws_commands.proofs.reached_lemmas.Marks.{Tracks}
use Rattle.laws_commands.proofs.reached_lemmas.Parts.{HoldsAbove, parts_hold, hold_both, four, IsHeldWell, holdings_hold}
use Rattle.laws_commands.proofs.reached_lemmas.Prices.{prices_hold, prices_spelt, prices_counted, standard}
use Rattle.laws_commands.proofs.reached_lemmas.ScriptCodes.{script_codes}
use Rattle.laws_commands.proofs.reached_lemmas.Scripts.{storage_is}
use Rattle.laws_commands.proofs.reached_lemmas.Tickets.{holding_minted, holding_most, ticket_minted, totalled, minted_known, all_minted, minted_amount, held_sum, burnt_least, burnt_most}
use Rattle.laws_commands.proofs.reached_lemmas.Trees.{node_is}
use Rattle.laws_commands.proofs.reached_lemmas.Values.{ticket_fits, compared_spelt, stored, spelt}
use Rattle.laws_commands.proofs.common.Numbers.{rises}
use Rattle.laws_commands.proofs.common.Lists.{both_all}

-- ---- tests of numbers

pub five : (a b c d e : Bool) → a ≡ true → b ≡ true → c ≡ true → d ≡ true → e ≡ true → a && b && c && d && e ≡ true
five a b c d e p q r s t = and_from (a && b && c && d) e (four a b c d p q r s) t

six : (a b c d e f : Bool) → a ≡ true → b ≡ true → c ≡ true → d ≡ true → e ≡ true → f ≡ true → a && b && c && d && e && f ≡ true
six a b c d e f p q r s t u = and_from (a && b && c && d && e) f (five a b c d e p q r s t) u

le_test : (n m : ℕ) → n ≤ m → nat_le n m ≡ true
le_test n m h = grind (arith, nat_tests)

zero_test : (n : ℕ) → n ≡ 0 → (n == 0) ≡ true
zero_test n h = (Decides-eqb n 0).1 h

positive_test : (n : ℤ) → pos 0 <ℤ n → int_lt (pos 0) n ≡ true
positive_test n h = grind (arith, ints)

least_test : (n : ℤ) → pos 0 ≤ℤ n → int_le (pos 0) n ≡ true
least_test n h = grind (arith, ints)

same_test : (n m : ℤ) → n ≡ m → int_eq n m ≡ true
same_test n m h = subst (λ k. int_eq n k ≡ true) h (itself n)
  where
    itself : (k : ℤ) → int_eq k k ≡ true
    itself k = grind (arith, ints)

bytes_same : (xs ys : List ℕ) → xs ≡ ys → bytes_eq xs ys ≡ true
bytes_same xs ys h = (bytes_eq-Decides xs ys).1 h

burnt_fits : (n : ℤ) → pos 0 ≤ℤ n → n ≤ℤ pos (2 ^ 127 - 1) → FitsSigned w128 n
burnt_fits n h g = omega (arith, ints)

moment_fits : (n : ℤ) → is_moment n ≡ true → FitsSigned w64 n
moment_fits n h = grind (arith, ints)

-- ---- mutez

record Mutez (w : World) : Type 0 where
  accounts : sum_by (λ a. a.1.balance) w.accounts ≤ most_mutez
  contracts : sum_by (λ c. c.1.balance) w.contracts ≤ most_mutez
  fees : w.fees ≤ most_mutez
  burn : w.storage_burn ≤ most_mutez
  all : sum_by (λ a. a.1.balance) w.accounts + sum_by (λ c. c.1.balance) w.contracts + w.fees + w.storage_burn ≤ most_mutez

mutez_of : (w : World) → supply w ≤ most_mutez → Mutez w
mutez_of w h =
    let a = sum_over (λ (e : List ℕ × Account). e.1) (λ account. account.balance) w.accounts in
    let c = sum_over (λ (e : List ℕ × Contract). e.1) (λ contract. contract.balance) w.contracts in
    record {
      accounts = omega (arith, a, c, h);
      contracts = omega (arith, a, c, h);
      fees = omega (arith, a, c, h);
      burn = omega (arith, a, c, h);
      all = omega (arith, a, c, h);
    }

small_mutez : (n : ℕ) → n ≤ most_mutez → IsEight n
small_mutez n h = omega (arith, h)

-- ---- hashes

past_hash : (s : State) (hash : List ℕ) → s.groups < 2 ^ 64 → IsPast s.groups hash → is_hash s hash ≡ true
past_hash s hash few p =
    let number : from_be_bytes w64 (take 8 hash) ≡ p.0 =
    ap (λ (h : List ℕ). from_be_bytes w64 (take 8 h)) p.4 ∙ from_be_bytes-to_be_bytes_8 p.0 (below p.0 s.groups p.3 few) in
    and_from (nat_le 1 (from_be_bytes w64 (take 8 hash)) && nat_le (from_be_bytes w64 (take 8 hash)) s.groups) (bytes_eq (drop 12 hash) (replicate 8 0))
    (and_from (nat_le 1 (from_be_bytes w64 (take 8 hash))) (nat_le (from_be_bytes w64 (take 8 hash)) s.groups)
    (subst (λ (n : ℕ). nat_le 1 n ≡ true) (sym number) (le_test 1 p.0 p.2))
    (subst (λ (n : ℕ). nat_le n s.groups ≡ true) (sym number) (le_test p.0 s.groups p.3)))
    (bytes_same (drop 12 hash) (replicate 8 0) (ap (λ (h : List ℕ). drop 12 h) p.4))
  where
    below : (a b : ℕ) → a ≤ b → b < 2 ^ 64 → a < 2 ^ 64
    below a b h g = omega (arith, h, g)

-- ---- contracts that are there

there_any : (hash : List ℕ) (c : Contract) (es : List (List ℕ × Contract)) → lookup (is_at (slice_cmp nat_cmp hash)) es ≡ Some c →
    list_any (λ c. bytes_eq c.0 hash) es ≡ true
there_any hash c [] e = absurd cc
there_any hash c (x ∷ es) e = by (is_at (slice_cmp nat_cmp hash) x.0) refl e (λ f. there_any hash c es f)
  where
    by : (b : Bool) → is_at (slice_cmp nat_cmp hash) x.0 ≡ b → cond b (Some x.1) (lookup (is_at (slice_cmp nat_cmp hash)) es) ≡ Some c →
        (lookup (is_at (slice_cmp nat_cmp hash)) es ≡ Some c → list_any (λ c. bytes_eq c.0 hash) es ≡ true) →
        (bytes_eq x.0 hash || list_any (λ c. bytes_eq c.0 hash) es) ≡ true
    by true t f rest = or_left (bytes_eq x.0 hash) (list_any (λ c. bytes_eq c.0 hash) es) (bytes_same x.0 hash (sym (found_same hash x.0 t)))
    by false t f rest = or_right (bytes_eq x.0 hash) (list_any (λ c. bytes_eq c.0 hash) es) (rest f)

-- ---- a course

module _ (ss : List Statement) (c : Course) (behind : IsBehind c) (kept : IsKept c.groups c.world)
    (marks : Tracks (list_any is_costs ss) (list_any is_start ss) c)
    (text : length (state_spelling (state_of ss c)) ≤ snapshot_limit) (nodes_fit : list_any is_long (nodes_in (state_of ss c)) ≡ false) where
  abbrev w : World
  w = c.world

  abbrev s : State
  s = state_of ss c

  good : IsGood w []
  good = behind.good.whole.good

  mutez : Mutez w
  mutez = mutez_of w good.sound.mutez

  few_groups : c.groups < 2 ^ 64
  few_groups = let h = behind.groups in omega (arith, h)

  -- ---- tickets

  known_identity : (id : Identity) → pos 0 <ℤ minted_ever w id → IsKeptIdentity w id
  known_identity id p = minted_known w good kept.log id p

  issuer_of : (id : Identity) → IsKeptIdentity w id → IsIssuer id.issuer
  issuer_of id k = (k.0.0, contract_length w (orderly_of w good.sound) k.0.0 k.0.2.0 k.0.2.1, k.0.1)

  identity_spelt : (id : Identity) → IsKeptIdentity w id → IsIdentity id
  identity_spelt id k = (issuer_of id k, k.1, k.2, compared_spelt id.kind id.content k.1 k.3)

  issuer_there : (id : Identity) → IsKeptIdentity w id → list_any (λ c. bytes_eq c.0 (hash_in id.issuer)) w.contracts ≡ true
  issuer_there id k =
      let is : hash_in id.issuer ≡ k.0.0 = ap hash_in k.0.1 ∙ hash_is k.0.0 (contract_length w (orderly_of w good.sound) k.0.0 k.0.2.0 k.0.2.1) in
      subst (λ (h : List ℕ). list_any (λ c. bytes_eq c.0 h) w.contracts ≡ true) (sym is) (there_any k.0.0 k.0.2.0 w.contracts k.0.2.1)

  -- ---- the head, the costs and the sums

  rate_within : (o : Option ℕ) → IsRate o → nat_le (unwrap_or o 0) (if is_some o then most_rate else 0) ≡ true
  rate_within None h = refl
  rate_within (Some rate) h = le_test rate most_rate h

  rate_small : (o : Option ℕ) → IsRate o → IsEight (unwrap_or o 0)
  rate_small None h = omega arith
  rate_small (Some rate) h = omega (arith, h)

  nothing_begun : (groups : ℕ) (as' : List (List ℕ × Account)) (cs : List (List ℕ × Contract)) → groups ≡ 0 → as' ≡ [] → cs ≡ [] →
      not (nat_le 1 groups || nat_le 1 (length as') || nat_le 1 (length cs)) ≡ true
  nothing_begun groups as' cs g a h =
      subst (λ (n : ℕ). not (nat_le 1 n || nat_le 1 (length as') || nat_le 1 (length cs)) ≡ true) (sym g)
      (subst (λ (es : List (List ℕ × Account)). not (nat_le 1 0 || nat_le 1 (length es) || nat_le 1 (length cs)) ≡ true) (sym a)
      (subst (λ (es : List (List ℕ × Contract)). not (nat_le 1 0 || nat_le 1 0 || nat_le 1 (length es)) ≡ true) (sym h) refl))

  started_holds : (list_any is_start ss || not (has_begun s)) ≡ true
  started_holds = by marks.begun
    where
      by : (list_any is_start ss ≡ true) ⊎ ((c.groups ≡ 0) × (w.accounts ≡ []) × (w.contracts ≡ [])) → (list_any is_start ss || not (has_begun s)) ≡ true
      by (inl e) = or_left (list_any is_start ss) (not (has_begun s)) e
      by (inr e) = or_right (list_any is_start ss) (not (has_begun s)) (nothing_begun c.groups w.accounts w.contracts e.0 e.1 e.2)

  costs_hold : (list_any is_costs ss || list_all is_standard (all_prices c.prices)) ≡ true
  costs_hold = by marks.standard
    where
      by : (list_any is_costs ss ≡ true) ⊎ (c.prices ≡ nothing_listed) → (list_any is_costs ss || list_all is_standard (all_prices c.prices)) ≡ true
      by (inl e) = or_left (list_any is_costs ss) (list_all is_standard (all_prices c.prices)) e
      by (inr e) =
          or_right (list_any is_costs ss) (list_all is_standard (all_prices c.prices))
          (subst (λ (l : Listed). list_all is_standard (all_prices l) ≡ true) (sym e) standard)

  head_holds : is_head s ≡ true
  head_holds =
      five (nat_le w.level most_level) (nat_le c.groups (2 ^ 63 - 1)) (nat_le (unwrap_or w.rate 0) (if is_some w.rate then most_rate else 0))
      (list_any is_start ss || not (has_begun s)) (list_any is_costs ss || list_all is_standard (all_prices c.prices))
      (le_test w.level most_level kept.level) (le_test c.groups (2 ^ 63 - 1) behind.groups) (rate_within w.rate behind.rate) started_holds costs_hold

  burn_holds : (is_some w.rate || (w.storage_burn == 0)) ≡ true
  burn_holds = by w.rate behind.paid.paid.burn
    where
      by : (o : Option ℕ) → (o ≡ None → w.storage_burn ≡ 0) → (is_some o || (w.storage_burn == 0)) ≡ true
      by (Some rate) h = refl
      by None h = zero_test w.storage_burn (h refl)

  sums_hold : are_sums s ≡ true
  sums_hold = and_from (nat_le (all_mutez s) most_mutez) (is_some w.rate || (w.storage_burn == 0)) (le_test (all_mutez s) most_mutez mutez.all) burn_holds

  -- ---- accounts

  account_form : (before after : List (List ℕ × Account)) (a : List ℕ × Account) → w.accounts ≡ before ++ (a ∷ after) → IsAccount a
  account_form before after a e = here IsAccount w.accounts before after a e good.sound.form.accounts

  holdings_well : (before after : List (List ℕ × Account)) (a : List ℕ × Account) → w.accounts ≡ before ++ (a ∷ after) →
      AllByRecursion (IsHeldWell s) a.1.holdings
  holdings_well before after a e =
      each_among (IsHeldWell s) a.1.holdings (λ first rest h f.
      let p = holding_minted w good before after a e first rest h f in
      let k = known_identity h.0 p in
      let form = here IsHolding a.1.holdings first rest h f (account_form before after a e).1 in
      (positive_test h.1 form.1, k.3, totalled w good h.0 p))

  accounts_hold : AllByRecursion (HoldsAbove byte_order account_spelling (is_account s) (λ a. a.0)) w.accounts
  accounts_hold = each_among (HoldsAbove byte_order account_spelling (is_account s) (λ a. a.0)) w.accounts (λ before after a e former above.
      and_from (is_above byte_order former a.0) (are_holdings s None a.1.holdings) above
      (holdings_hold s a.1.holdings (account_form before after a e).2 (holdings_well before after a e)))

  amount_fits : (n : ℤ) → pos 0 <ℤ n → n ≤ℤ pos (2 ^ 127 - 1) → FitsSigned w128 n
  amount_fits n h g = omega (arith, ints)

  held_fits : (before after : List (List ℕ × Account)) (a : List ℕ × Account) → w.accounts ≡ before ++ (a ∷ after) → All IsSpeltHolding a.1.holdings
  held_fits before after a e =
      each_in IsSpeltHolding a.1.holdings (λ first rest h f. (
        identity_spelt h.0 (known_identity h.0 (holding_minted w good before after a e first rest h f)),
        amount_fits h.1 (here IsHolding a.1.holdings first rest h f (account_form before after a e).1).1 (holding_most w good before after a e first rest h f),
      ))

  accounts_spelt : All IsSpeltAccount w.accounts
  accounts_spelt = each_in IsSpeltAccount w.accounts (λ before after a e. (
    (account_form before after a e).0,
    small_mutez a.1.balance (rises a.1.balance (sum_by (λ (a : List ℕ × Account). a.1.balance) w.accounts) most_mutez
        (subst (λ (es : List (List ℕ × Account)). a.1.balance ≤ sum_by (λ (a : List ℕ × Account). a.1.balance) es) (sym e)
        (one_within (λ (a : List ℕ × Account). a.1.balance) before after a)) mutez.accounts),
    few_holdings s text before after a e,
    held_fits before after a e,
  ))

  -- ---- contracts

  contract_kept : (before after : List (List ℕ × Contract)) (d : List ℕ × Contract) → w.contracts ≡ before ++ (d ∷ after) → IsKeptContract c.groups d
  contract_kept before after d e = here (IsKeptContract c.groups) w.contracts before after d e kept.contracts

  contract_good : (before after : List (List ℕ × Contract)) (d : List ℕ × Contract) → w.contracts ≡ before ++ (d ∷ after) → IsGoodContract w d
  contract_good before after d e = here (IsGoodContract w) w.contracts before after d e good.sound.contracts

  storage_holds : (d : List ℕ × Contract) (x : Script) → script d.1.script ≡ found x → is_stored x.storage d.1.storage ≡ true →
      has_storage (script d.1.script) d.1.storage ≡ true
  storage_holds d x e h = ap (λ (f : Found Script). has_storage f d.1.storage) e ∙ h

  paid_holds : (before after : List (List ℕ × Contract)) (d : List ℕ × Contract) → w.contracts ≡ before ++ (d ∷ after) → is_paid s.pays d.1 ≡ true
  paid_holds before after d e =
      by w.rate (here (λ (d : List ℕ × Contract). HasPaid w.rate d.1) w.contracts before after d e
      (all_unmapped (HasPaid w.rate) (λ (d : List ℕ × Contract). d.1) w.contracts behind.paid.paid.contracts))
    where
      by : (o : Option ℕ) → HasPaid o d.1 → is_paid (is_some o) d.1 ≡ true
      by (Some rate) h = le_test (size_of d.1) d.1.paid h
      by None h = zero_test d.1.paid h

  tickets_minted : (before after : List (List ℕ × Contract)) (d : List ℕ × Contract) → w.contracts ≡ before ++ (d ∷ after) →
      AllByRecursion (λ (t : Held). pos 0 <ℤ minted_ever w (identity_of t)) (tickets d.1.storage)
  tickets_minted before after d e =
      each_among (λ (t : Held). pos 0 <ℤ minted_ever w (identity_of t)) (tickets d.1.storage)
      (λ first rest t f. ticket_minted w good before after d e first rest t f)

  is_stored_well : (d : List ℕ × Contract) → (g : IsGoodContract w d) → is_stored g.0.storage d.1.storage ≡ true
  is_stored_well d g =
      let code = script_code d.1.script g.0 g.1 in
      stored (known_with w []) g.0.storage d.1.storage code.stored code.formed g.3

  contracts_hold : AllByRecursion (HoldsAbove byte_order contract_spelling (is_contract s) (λ d. d.0)) w.contracts
  contracts_hold = each_among (HoldsAbove byte_order contract_spelling (is_contract s) (λ d. d.0)) w.contracts (λ before after d e former above.
      let g = contract_good before after d e in
      five (is_above byte_order former d.0) (is_hash s d.0) (has_storage (script d.1.script) d.1.storage) (is_paid s.pays d.1)
      (list_all (λ t. has_total s (identity_of t)) (tickets d.1.storage)) above
      (past_hash s d.0 few_groups (contract_kept before after d e).0)
      (storage_holds d g.0 g.1 (is_stored_well d g)) (paid_holds before after d e)
      (all_pass (λ t. has_total s (identity_of t)) (tickets d.1.storage)
      (both_all (λ (t : Held). pos 0 <ℤ minted_ever w (identity_of t)) (λ t. has_total s (identity_of t) ≡ true) (tickets d.1.storage)
      (tickets_minted before after d e) (λ t p. totalled w good (identity_of t) p))))

  contracts_spelt : All IsSpeltContract w.contracts
  contracts_spelt = each_in IsSpeltContract w.contracts (λ before after d e.
      let g = contract_good before after d e in
      let k = contract_kept before after d e in
      let short = nodes_short s nodes_fit before after d e in
      let code = script_code d.1.script g.0 g.1 in (
        here IsTwentyBytes w.contracts before after d e good.sound.form.contracts,
        small_mutez d.1.balance (rises d.1.balance (sum_by (λ (d : List ℕ × Contract). d.1.balance) w.contracts) most_mutez
            (subst (λ (es : List (List ℕ × Contract)). d.1.balance ≤ sum_by (λ (d : List ℕ × Contract). d.1.balance) es) (sym e)
            (one_within (λ (d : List ℕ × Contract). d.1.balance) before after d)) mutez.contracts),
        k.4,
        node_is d.1.script k.1 (script_codes d.1.script g.0 g.1) short.0,
        (
          g.0.storage,
          storage_is d.1.script g.0 g.1,
          spelt g.0.storage d.1.storage code.formed (is_stored_well d g) k.3 k.2 short.1
              (both_all (λ (t : Held). pos 0 <ℤ minted_ever w (identity_of t)) (λ (t : Held). IsIssuer t.issuer) (tickets d.1.storage)
              (tickets_minted before after d e) (λ t p. issuer_of (identity_of t) (known_identity (identity_of t) p)))
              (storage_short s text before after d e),
        ),
      ))

  -- ---- totals

  total_holds : (j : Identity) → pos 0 <ℤ minted_ever w j → HoldsAbove identity_order total_spelling (is_total s) (λ t. t.identity) (total_of w j)
  total_holds j p former above =
      let k = known_identity j p in
      six (is_above identity_order former j) (is_content j) (list_any (λ c. bytes_eq c.0 (hash_in j.issuer)) w.contracts) (is_ticket_amount (minted_ever w j))
      (int_le (pos 0) (burnt_ever w j)) (int_eq (amount_there s j) (minted_ever w j -ℤ burnt_ever w j)) above k.3 (issuer_there j k)
      (minted_amount w good j p) (least_test (burnt_ever w j) (burnt_least w good j))
      (same_test (amount_there s j) (minted_ever w j -ℤ burnt_ever w j) (held_sum w good j))

  totals_hold : AllByRecursion (HoldsAbove identity_order total_spelling (is_total s) (λ t. t.identity)) s.tickets
  totals_hold =
      all_mapped (HoldsAbove identity_order total_spelling (is_total s) (λ t. t.identity)) (total_of w) (identities w.log)
      (both_all (λ j. pos 0 <ℤ minted_ever w j) (λ j. HoldsAbove identity_order total_spelling (is_total s) (λ t. t.identity) (total_of w j)) (identities w.log)
      (all_minted w good) total_holds)

  totals_spelt : All IsSpeltTotal s.tickets
  totals_spelt =
      all_of IsSpeltTotal s.tickets
      (all_mapped IsSpeltTotal (total_of w) (identities w.log)
      (both_all (λ j. pos 0 <ℤ minted_ever w j) (λ j. IsSpeltTotal (total_of w j)) (identities w.log) (all_minted w good) (λ j p. (
        identity_spelt j (known_identity j p),
        ticket_fits (minted_ever w j) (minted_amount w good j p),
        burnt_fits (burnt_ever w j) (burnt_least w good j) (burnt_most w good j),
      ))))

  keys_same : (f : Identity → ℤ) (js : List Identity) → keys_of (map (λ j. (j, f j)) js) ≡ js
  keys_same f [] = refl
  keys_same f (j ∷ js) = ap (λ (ks : List Identity). j ∷ ks) (keys_same f js)

  totals_same : (js : List Identity) → map (λ (t : Total). t.identity) (map (total_of w) js) ≡ js
  totals_same [] = refl
  totals_same (j ∷ js) = ap (λ (ks : List Identity). j ∷ ks) (totals_same js)

  totals_sorted : IsStrictlySortedBy identity_order (map (λ (t : Total). t.identity) s.tickets)
  totals_sorted =
      subst (λ (js : List Identity). IsStrictlySortedBy identity_order js) (keys_same (minted_ever w) (identities w.log) ∙ sym (totals_same (identities w.log)))
      (told_in_order w good.sound.form).order

  -- ---- the whole

  pub sound : is_sound s ≡ true
  sound =
      let A = counted_parts account_spelling (is_account s) (λ a. a.0) s.accounts in
      let C = counted_parts contract_spelling (is_contract s) (λ d. d.0) s.contracts in
      let T = counted_parts total_spelling (is_total s) (λ t. t.identity) s.tickets in
      and_from (is_head s) (are_costs s && (are_sums s && list_all (λ (p : Part). p.holds) (A ++ (C ++ T)))) head_holds
      (and_from (are_costs s) (are_sums s && list_all (λ (p : Part). p.holds) (A ++ (C ++ T))) (prices_hold c.prices marks.priced)
      (and_from (are_sums s) (list_all (λ (p : Part). p.holds) (A ++ (C ++ T))) sums_hold
      (hold_both A (C ++ T)
      (parts_hold byte_order account_spelling (is_account s) (λ a. a.0) w.accounts good.sound.form.accounts_in_order accounts_hold)
      (hold_both C T
      (parts_hold byte_order contract_spelling (is_contract s) (λ d. d.0) w.contracts good.sound.form.contracts_in_order contracts_hold)
      (parts_hold identity_order total_spelling (is_total s) (λ t. t.identity) s.tickets totals_sorted totals_hold)))))

  pub has_spelling : IsSpelt s
  has_spelling = record {
    chain = eqb-true (length w.chain) 4 good.sound.form.chain;
    level = good.sound.form.level;
    moment = moment_fits w.moment good.sound.form.moment;
    rate = rate_small w.rate behind.rate;
    groups = few_groups;
    prices = (prices_counted c.prices, prices_spelt c.prices marks.priced);
    fees = small_mutez w.fees mutez.fees;
    storage_burn = small_mutez w.storage_burn mutez.burn;
    accounts = (few_accounts s text, accounts_spelt);
    contracts = (few_contracts s text, contracts_spelt);
    tickets = (few_tickets s text, totals_spelt);
  }
