-- Tickets of a world that can be kept: each that is held or stored was minted, and is one of a contract.
use Rattle.std.proofs.Common.{◌≡◌, ◌^◌, ◌-◌, ℕ, Bool, true, false, cond, ◌||◌, List, [], ◌∷◌, ◌++◌, map, Option, Some, refl, sym, ap, ◌∙◌, subst, ℤ, pos, ◌+ℤ◌, ◌-ℤ◌, ◌<ℤ◌, ◌≤ℤ◌, unwrap_or, arith}
use Rattle.std.specs.Prelude.{if◌then◌else◌}
use Rattle.std.specs.List.{All, AllByRecursion, list_any}
use Rattle.std.specs.Ordering.{is_eq, ordering_reverse}
use Rattle.std.specs.declared.cmp.Ordering.{Ordering}
use Rattle.std.specs.declared.cmp.Ordering.TheVariants.{Less, Equal, Greater}
use Rattle.std.specs.BTreeMap.{is_at}
use Rattle.std.specs.Map.{lookup, keys_of}
use Rattle.std.specs.List.Sorted.{IsStrictlySortedBy}
use Rattle.std.proofs.lemmas.Cmp.{tied_itself}
use Rattle.std.proofs.lemmas.Int.{ints}
use Rattle.std.proofs.lemmas.List.Elements.{All-head, All-tail}
use Rattle.std.proofs.lemmas.Bool.{or_left, or_right}
use Rattle.rules_data.specs.values.Forms.{is_ticket_amount}
use Rattle.rules_data.specs.values.Val.{is_comparable}
use Rattle.rules_data.specs.values.Tickets.{Identity, Held, tickets}
use Rattle.rules_code.specs.steps.Changes.{Change, minted, burnt, is_alike, identity_of, amount_of, amount_among, amount_in, minted_in}
use Rattle.rules_code.specs.evaluation.Surroundings.{Contract}
use Rattle.rules_world.specs.world.World.{World, Account, identity_order}
use Rattle.rules_world.specs.world.Holdings.{amount_held, held_by_accounts, held_by_contracts, held, minted_ever, burnt_ever, identities}
use Rattle.rules_world.specs.world.Forms.{IsAccount, IsHolding, IsChange, IsTicket}
use Rattle.rules_world.specs.world.Good.{known_with, IsGoodContract, IsGood}
use Rattle.rules_files.specs.snapshots.Course.{total_of}
use Rattle.laws_code.proofs.stacks.ForCallers.{tickets_good}
use Rattle.laws_world.proofs.accounts.ForCallers.{alike_equal, equal_of, identity_total, burnt_positive, ticket_positive, among_positive, in_positive, held_positive}
use Rattle.laws_world.proofs.lines_lemmas.ForCallers.{all_exact, amount_is_told, told_in_order}
use Rattle.laws_commands.specs.reached.Kept.{IsKeptIdentity, IsKeptChange}
use Rattle.laws_commands.proofs.reached_lemmas.Lists.{here}
use Rattle.laws_commands.proofs.audits_lemmas.Identities.{alike_itself}

-- ---- tickets that are alike

abbrev first_of : Identity → List (Identity × ℤ) → Identity
first_of id [] = id
first_of id (e ∷ es) = e.0

alike_is : (i j : Identity) → is_comparable j.content ≡ true → is_alike i j ≡ true → i ≡ j
alike_is i j c h =
    let equal : identity_order i j ≡ Equal = equal_of (identity_order i j) (sym (alike_equal i j) ∙ h) in
    let same : (i, pos 1) ∷ [] ≡ (j, pos 1) ∷ [] = all_exact ((i, pos 1) ∷ []) ((j, pos 1) ∷ []) (c, tt) (equal, refl, tt) in
    ap (first_of i) same

alike_back : (i j : Identity) → is_alike i j ≡ true → is_alike j i ≡ true
alike_back i j h =
    let equal : identity_order i j ≡ Equal = equal_of (identity_order i j) (sym (alike_equal i j) ∙ h) in
    alike_equal j i ∙ ap is_eq (identity_total.antisymm j i ∙ ap ordering_reverse equal)

-- ---- what was minted

none_minted : (n : ℤ) → pos 0 <ℤ (pos 0 +ℤ n) → pos 0 <ℤ n
none_minted n h = omega (arith, ints)

known : (w : World) (id : Identity) (cs : List Change) → All IsChange cs → AllByRecursion (IsKeptChange w) cs → pos 0 <ℤ minted_in id cs →
    IsKeptIdentity w id
known w id [] all kept p = absurd (omega (arith, ints))
known w id (burnt t ∷ cs) all kept p = known w id cs (All-tail IsChange (burnt t) cs all) kept.1 p
known w id (minted t ∷ cs) all kept p =
    by (is_alike id (identity_of t)) refl p (λ q. known w id cs (All-tail IsChange (minted t) cs all) kept.1 q)
  where
    by : (b : Bool) → is_alike id (identity_of t) ≡ b → pos 0 <ℤ ((if b then t.amount else pos 0) +ℤ minted_in id cs) →
        (pos 0 <ℤ minted_in id cs → IsKeptIdentity w id) → IsKeptIdentity w id
    by true e q rest = subst (IsKeptIdentity w) (sym (alike_is id (identity_of t) (All-head IsChange (minted t) cs all).2 e)) kept.0
    by false e q rest = rest (none_minted (minted_in id cs) q)

-- ---- what is held

more_held : (a b c : ℤ) → a ≤ℤ b → pos 0 ≤ℤ c → a ≤ℤ (c +ℤ b)
more_held a b c h g = omega (arith, ints)

first_held : (a b : ℤ) → pos 0 ≤ℤ b → a ≤ℤ (a +ℤ b)
first_held a b h = omega (arith, ints)

pub sum_positive : (a b : ℤ) → pos 0 ≤ℤ a → pos 0 ≤ℤ b → pos 0 ≤ℤ (a +ℤ b)
sum_positive a b h g = omega (arith, ints)

of_account : (id : Identity) (a : List ℕ × Account) → IsAccount a → pos 0 ≤ℤ amount_held a.1 id
of_account id a i = held_positive a.1 id (record { forms = i.1; order = i.2 })

accounts_positive : (id : Identity) (es : List (List ℕ × Account)) → All IsAccount es → pos 0 ≤ℤ held_by_accounts id es
accounts_positive id [] h = omega (arith, ints)
accounts_positive id (a ∷ es) h =
    sum_positive (amount_held a.1 id) (held_by_accounts id es) (of_account id a (All-head IsAccount a es h))
    (accounts_positive id es (All-tail IsAccount a es h))

account_within : (id : Identity) (before behind : List (List ℕ × Account)) (a : List ℕ × Account) → All IsAccount (before ++ (a ∷ behind)) →
    amount_held a.1 id ≤ℤ held_by_accounts id (before ++ (a ∷ behind))
account_within id [] behind a h =
    first_held (amount_held a.1 id) (held_by_accounts id behind) (accounts_positive id behind (All-tail IsAccount a behind h))
account_within id (e ∷ before) behind a h =
    more_held (amount_held a.1 id) (held_by_accounts id (before ++ (a ∷ behind))) (amount_held e.1 id)
    (account_within id before behind a (All-tail IsAccount e (before ++ (a ∷ behind)) h)) (of_account id e (All-head IsAccount e (before ++ (a ∷ behind)) h))

module _ (w : World) where
  stored_positive : (id : Identity) (c : List ℕ × Contract) → IsGoodContract w c → pos 0 ≤ℤ amount_in id c.1.storage
  stored_positive id c h = in_positive id (known_with w []) h.0.storage c.1.storage h.3

  contracts_positive : (id : Identity) (cs : List (List ℕ × Contract)) → All (IsGoodContract w) cs → pos 0 ≤ℤ held_by_contracts id cs
  contracts_positive id [] h = omega (arith, ints)
  contracts_positive id (c ∷ cs) h =
      sum_positive (amount_in id c.1.storage) (held_by_contracts id cs) (stored_positive id c (All-head (IsGoodContract w) c cs h))
      (contracts_positive id cs (All-tail (IsGoodContract w) c cs h))

  contract_within : (id : Identity) (before behind : List (List ℕ × Contract)) (c : List ℕ × Contract) → All (IsGoodContract w) (before ++ (c ∷ behind)) →
      amount_in id c.1.storage ≤ℤ held_by_contracts id (before ++ (c ∷ behind))
  contract_within id [] behind c h =
      first_held (amount_in id c.1.storage) (held_by_contracts id behind) (contracts_positive id behind (All-tail (IsGoodContract w) c behind h))
  contract_within id (e ∷ before) behind c h =
      more_held (amount_in id c.1.storage) (held_by_contracts id (before ++ (c ∷ behind))) (amount_in id e.1.storage)
      (contract_within id before behind c (All-tail (IsGoodContract w) e (before ++ (c ∷ behind)) h))
      (stored_positive id e (All-head (IsGoodContract w) e (before ++ (c ∷ behind)) h))

-- a holding is found among holdings
holding_found : (before behind : List (Identity × ℤ)) (h : Identity × ℤ) → All IsHolding (before ++ (h ∷ behind)) →
    pos 0 <ℤ unwrap_or (lookup (is_at (identity_order h.0)) (before ++ (h ∷ behind))) (pos 0)
holding_found [] behind h all = by (is_at (identity_order h.0) h.0) (ap is_eq (tied_itself identity_total h.0))
  where
    by : (b : Bool) → b ≡ true → pos 0 <ℤ unwrap_or (cond b (Some h.1) (lookup (is_at (identity_order h.0)) behind)) (pos 0)
    by true e = (All-head IsHolding h behind all).1
    by false e = absurd cc
holding_found (e ∷ before) behind h all =
    by (is_at (identity_order h.0) e.0) (holding_found before behind h (All-tail IsHolding e (before ++ (h ∷ behind)) all))
  where
    by : (b : Bool) → pos 0 <ℤ unwrap_or (lookup (is_at (identity_order h.0)) (before ++ (h ∷ behind))) (pos 0) →
        pos 0 <ℤ unwrap_or (cond b (Some e.1) (lookup (is_at (identity_order h.0)) (before ++ (h ∷ behind)))) (pos 0)
    by true r = (All-head IsHolding e (before ++ (h ∷ behind)) all).1
    by false r = r

key_at : (k : Identity) (before behind : List (Identity × ℤ)) (h : Identity × ℤ) →
    AllByRecursion (λ y. identity_order k y ≡ Less) (keys_of (before ++ (h ∷ behind))) → identity_order k h.0 ≡ Less
key_at k [] behind h all = all.0
key_at k (e ∷ before) behind h all = key_at k before behind h all.1

-- and with its own amount
holding_exact : (before behind : List (Identity × ℤ)) (h : Identity × ℤ) → IsStrictlySortedBy identity_order (keys_of (before ++ (h ∷ behind))) →
    lookup (is_at (identity_order h.0)) (before ++ (h ∷ behind)) ≡ Some h.1
unfolding IsStrictlySortedBy
holding_exact [] behind h sorted =
    ap (λ (r : Ordering). cond (is_eq r) (Some h.1) (lookup (is_at (identity_order h.0)) behind)) (tied_itself identity_total h.0)
holding_exact (e ∷ before) behind h sorted =
    let above : identity_order h.0 e.0 ≡ Greater =
    identity_total.antisymm h.0 e.0 ∙ ap ordering_reverse (key_at e.0 before behind h sorted.0) in
    ap (λ (r : Ordering). cond (is_eq r) (Some e.1) (lookup (is_at (identity_order h.0)) (before ++ (h ∷ behind)))) above
    ∙ holding_exact before behind h sorted.1

-- a ticket is counted among tickets
one_of : (id : Identity) (t : Held) → IsTicket t → pos 0 ≤ℤ amount_of id t
one_of id t i = by (is_alike id (identity_of t))
  where
    by : (b : Bool) → pos 0 ≤ℤ (if b then t.amount else pos 0)
    by true = let p : pos 0 <ℤ t.amount = ticket_positive t i.1 in omega (arith, ints)
    by false = omega (arith, ints)

itself_of : (t : Held) → IsTicket t → pos 0 <ℤ amount_of (identity_of t) t
itself_of t i = by (is_alike (identity_of t) (identity_of t)) (alike_itself (identity_of t))
  where
    by : (b : Bool) → b ≡ true → pos 0 <ℤ (if b then t.amount else pos 0)
    by true e = ticket_positive t i.1
    by false e = absurd cc

more_positive : (a b : ℤ) → pos 0 <ℤ a → pos 0 ≤ℤ b → pos 0 <ℤ (a +ℤ b)
more_positive a b h g = omega (arith, ints)

later_positive : (a b : ℤ) → pos 0 ≤ℤ a → pos 0 <ℤ b → pos 0 <ℤ (a +ℤ b)
later_positive a b h g = omega (arith, ints)

ticket_found : (before behind : List Held) (t : Held) → All IsTicket (before ++ (t ∷ behind)) → pos 0 <ℤ amount_among (identity_of t) (before ++ (t ∷ behind))
ticket_found [] behind t h =
    more_positive (amount_of (identity_of t) t) (amount_among (identity_of t) behind) (itself_of t (All-head IsTicket t behind h))
    (among_positive (identity_of t) behind (All-tail IsTicket t behind h))
ticket_found (u ∷ before) behind t h =
    later_positive (amount_of (identity_of t) u) (amount_among (identity_of t) (before ++ (t ∷ behind)))
    (one_of (identity_of t) u (All-head IsTicket u (before ++ (t ∷ behind)) h)) (ticket_found before behind t (All-tail IsTicket u (before ++ (t ∷ behind)) h))

-- ---- in a good world

held_minted : (h m b : ℤ) → h +ℤ pos 0 ≡ m -ℤ b → pos 0 ≤ℤ b → pos 0 <ℤ h → pos 0 <ℤ m
held_minted h m b e p q = omega (arith, ints, e, p, q)

up_to : (a b : ℤ) → pos 0 <ℤ a → a ≤ℤ b → pos 0 <ℤ b
up_to a b h g = omega (arith, ints)

left_of : (a b : ℤ) → pos 0 <ℤ a → pos 0 ≤ℤ b → pos 0 <ℤ (a +ℤ b)
left_of a b h g = omega (arith, ints)

any_lookup : (w : World) (id : Identity) (js : List Identity) →
    pos 0 <ℤ unwrap_or (lookup (is_at (identity_order id)) (map (λ j. (j, minted_ever w j)) js)) (pos 0) →
    list_any (λ t. is_alike t.identity id) (map (total_of w) js) ≡ true
any_lookup w id [] p = absurd (omega (arith, ints))
any_lookup w id (j ∷ js) p = by (is_at (identity_order id) j) refl p (λ q. any_lookup w id js q)
  where
    by : (b : Bool) → is_at (identity_order id) j ≡ b →
        pos 0 <ℤ unwrap_or (cond b (Some (minted_ever w j)) (lookup (is_at (identity_order id)) (map (λ j. (j, minted_ever w j)) js))) (pos 0) →
        (pos 0 <ℤ unwrap_or (lookup (is_at (identity_order id)) (map (λ j. (j, minted_ever w j)) js)) (pos 0) →
        list_any (λ t. is_alike t.identity id) (map (total_of w) js) ≡ true) →
        (is_alike j id || list_any (λ t. is_alike t.identity id) (map (total_of w) js)) ≡ true
    by true e q rest =
        or_left (is_alike j id) (list_any (λ t. is_alike t.identity id) (map (total_of w) js)) (alike_back id j (alike_equal id j ∙ e))
    by false e q rest = or_right (is_alike j id) (list_any (λ t. is_alike t.identity id) (map (total_of w) js)) (rest q)

module _ (w : World) (g : IsGood w []) where
  burnt_some : (id : Identity) → pos 0 ≤ℤ burnt_ever w id
  burnt_some id = burnt_positive id w.log g.sound.form.log

  pub holding_minted : (before behind : List (List ℕ × Account)) (a : List ℕ × Account) → w.accounts ≡ before ++ (a ∷ behind) →
      (first rest : List (Identity × ℤ)) (h : Identity × ℤ) → a.1.holdings ≡ first ++ (h ∷ rest) → pos 0 <ℤ minted_ever w h.0
  holding_minted before behind a e first rest h f =
      let accounts : All IsAccount (before ++ (a ∷ behind)) = subst (All IsAccount) e g.sound.form.accounts in
      let own : IsAccount a = here IsAccount w.accounts before behind a e g.sound.form.accounts in
      let some : pos 0 <ℤ amount_held a.1 h.0 =
      subst (λ (es : List (Identity × ℤ)). pos 0 <ℤ unwrap_or (lookup (is_at (identity_order h.0)) es) (pos 0)) (sym f)
      (holding_found first rest h (subst (All IsHolding) f own.1)) in
      let sum : pos 0 <ℤ held_by_accounts h.0 w.accounts =
      subst (λ (es : List (List ℕ × Account)). pos 0 <ℤ held_by_accounts h.0 es) (sym e)
      (up_to (amount_held a.1 h.0) (held_by_accounts h.0 (before ++ (a ∷ behind))) some (account_within h.0 before behind a accounts)) in
      held_minted (held w h.0) (minted_ever w h.0) (burnt_ever w h.0) (g.tickets h.0) (burnt_some h.0)
      (left_of (held_by_accounts h.0 w.accounts) (held_by_contracts h.0 w.contracts) sum (contracts_positive w h.0 w.contracts g.sound.contracts))

  part_most : (n a c m b : ℤ) → n ≤ℤ a → pos 0 ≤ℤ c → a +ℤ c ≡ m -ℤ b → pos 0 ≤ℤ b → m ≤ℤ pos (2 ^ 127 - 1) → n ≤ℤ pos (2 ^ 127 - 1)
  part_most n a c m b h p e q r = omega (arith, ints, h, p, e, q, r)

  nothing_waits : (id : Identity) → held w id ≡ minted_ever w id -ℤ burnt_ever w id
  nothing_waits id = more (held w id) ∙ g.tickets id
    where
      more : (n : ℤ) → n ≡ n +ℤ pos 0
      more n = omega (arith, ints)

  pub holding_most : (before behind : List (List ℕ × Account)) (a : List ℕ × Account) → w.accounts ≡ before ++ (a ∷ behind) →
      (first rest : List (Identity × ℤ)) (h : Identity × ℤ) → a.1.holdings ≡ first ++ (h ∷ rest) → h.1 ≤ℤ pos (2 ^ 127 - 1)
  holding_most before behind a e first rest h f =
      let accounts : All IsAccount (before ++ (a ∷ behind)) = subst (All IsAccount) e g.sound.form.accounts in
      let own : IsAccount a = here IsAccount w.accounts before behind a e g.sound.form.accounts in
      let exact : amount_held a.1 h.0 ≡ h.1 =
      ap (λ (es : List (Identity × ℤ)). unwrap_or (lookup (is_at (identity_order h.0)) es) (pos 0)) f
      ∙ ap (λ (o : Option ℤ). unwrap_or o (pos 0))
      (holding_exact first rest h (subst (λ (es : List (Identity × ℤ)). IsStrictlySortedBy identity_order (keys_of es)) f own.2)) in
      let within : h.1 ≤ℤ held_by_accounts h.0 w.accounts =
      subst (λ (n : ℤ). n ≤ℤ held_by_accounts h.0 w.accounts) exact
      (subst (λ (es : List (List ℕ × Account)). amount_held a.1 h.0 ≤ℤ held_by_accounts h.0 es) (sym e) (account_within h.0 before behind a accounts)) in
      part_most h.1 (held_by_accounts h.0 w.accounts) (held_by_contracts h.0 w.contracts) (minted_ever w h.0) (burnt_ever w h.0) within
      (contracts_positive w h.0 w.contracts g.sound.contracts) (nothing_waits h.0) (burnt_some h.0) (g.sound.minted h.0)

  pub ticket_minted : (before behind : List (List ℕ × Contract)) (c : List ℕ × Contract) → w.contracts ≡ before ++ (c ∷ behind) →
      (first rest : List Held) (t : Held) → tickets c.1.storage ≡ first ++ (t ∷ rest) → pos 0 <ℤ minted_ever w (identity_of t)
  ticket_minted before behind c e first rest t f =
      let id = identity_of t in
      let contracts : All (IsGoodContract w) (before ++ (c ∷ behind)) = subst (All (IsGoodContract w)) e g.sound.contracts in
      let own : IsGoodContract w c = here (IsGoodContract w) w.contracts before behind c e g.sound.contracts in
      let forms : All IsTicket (tickets c.1.storage) = tickets_good (known_with w []) own.0.storage c.1.storage own.3 in
      let some : pos 0 <ℤ amount_in id c.1.storage =
      subst (λ (ts : List Held). pos 0 <ℤ amount_among id ts) (sym f) (ticket_found first rest t (subst (All IsTicket) f forms)) in
      let sum : pos 0 <ℤ held_by_contracts id w.contracts =
      subst (λ (cs : List (List ℕ × Contract)). pos 0 <ℤ held_by_contracts id cs) (sym e)
      (up_to (amount_in id c.1.storage) (held_by_contracts id (before ++ (c ∷ behind))) some (contract_within w id before behind c contracts)) in
      held_minted (held w id) (minted_ever w id) (burnt_ever w id) (g.tickets id) (burnt_some id)
      (later_positive (held_by_accounts id w.accounts) (held_by_contracts id w.contracts) (accounts_positive id w.accounts g.sound.form.accounts) sum)

  -- what was minted has a total
  pub totalled : (id : Identity) → pos 0 <ℤ minted_ever w id → list_any (λ t. is_alike t.identity id) (map (total_of w) (identities w.log)) ≡ true
  totalled id p = any_lookup w id (identities w.log) (subst (λ n. pos 0 <ℤ n) (sym (amount_is_told w g.sound.form id)) p)

  pub minted_known : AllByRecursion (IsKeptChange w) w.log → (id : Identity) → pos 0 <ℤ minted_ever w id → IsKeptIdentity w id
  minted_known kept id p = known w id w.log g.sound.form.log kept p

  -- ---- totals

  pub total_minted : (js : List Identity) → AllByRecursion (λ (e : Identity × ℤ). pos 0 <ℤ e.1) (map (λ j. (j, minted_ever w j)) js) →
      AllByRecursion (λ j. pos 0 <ℤ minted_ever w j) js
  total_minted [] h = tt
  total_minted (j ∷ js) h = (h.0, total_minted js h.1)

  pub all_minted : AllByRecursion (λ j. pos 0 <ℤ minted_ever w j) (identities w.log)
  all_minted = total_minted (identities w.log) (told_in_order w g.sound.form).positive

  amount_within : (n : ℤ) → pos 0 <ℤ n → n ≤ℤ pos (2 ^ 127 - 1) → is_ticket_amount n ≡ true
  amount_within n p q = grind (arith, ints)

  pub minted_amount : (id : Identity) → pos 0 <ℤ minted_ever w id → is_ticket_amount (minted_ever w id) ≡ true
  minted_amount id p = amount_within (minted_ever w id) p (g.sound.minted id)

  pub held_sum : (id : Identity) → held w id ≡ minted_ever w id -ℤ burnt_ever w id
  held_sum id = nothing_waits id

  pub burnt_least : (id : Identity) → pos 0 ≤ℤ burnt_ever w id
  burnt_least id = burnt_some id

  below : (h m b : ℤ) → h ≡ m -ℤ b → pos 0 ≤ℤ h → m ≤ℤ pos (2 ^ 127 - 1) → b ≤ℤ pos (2 ^ 127 - 1)
  below h m b e p q = omega (arith, ints, e, p, q)

  pub burnt_most : (id : Identity) → burnt_ever w id ≤ℤ pos (2 ^ 127 - 1)
  burnt_most id =
      below (held w id) (minted_ever w id) (burnt_ever w id) (held_sum id)
      (sum_positive (held_by_accounts id w.accounts) (held_by_contracts id w.contracts) (accounts_positive id w.accounts g.sound.form.accounts)
      (contracts_positive w id w.contracts g.sound.contracts)) (g.sound.minted id)
