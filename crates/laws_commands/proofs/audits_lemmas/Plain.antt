-- Where what was minted has comparable contents, all tickets have.
use Rattle.std.proofs.Common.{◌≡◌, ℕ, Bool, true, false, cond, Some, List, [], ◌∷◌, refl, sym, subst, arith}
use Rattle.std.specs.Prelude.{ℤ, pos, ◌+ℤ◌, ◌-ℤ◌, ◌<ℤ◌, ◌≤ℤ◌, unwrap_or}
use Rattle.std.specs.List.{All, AllByRecursion}
use Rattle.std.specs.BTreeMap.{is_at}
use Rattle.std.specs.Map.{lookup}
use Rattle.std.specs.Ordering.{is_eq}
use Rattle.std.proofs.lemmas.Cmp.{tied_itself}
use Rattle.std.proofs.lemmas.Int.{ints}
use Rattle.std.proofs.lemmas.List.Elements.{All-head, All-tail}
use Rattle.rules_data.specs.values.Val.{is_comparable}
use Rattle.rules_data.specs.values.Tickets.{Identity, Held, tickets}
use Rattle.rules_code.specs.evaluation.Surroundings.{Contract}
use Rattle.rules_code.specs.steps.Changes.{Change, minted, burnt, is_alike, identity_of, amount_of, amount_among, minted_in, burnt_in}
use Rattle.rules_world.specs.world.World.{World, Account, identity_order}
use Rattle.rules_world.specs.world.Forms.{IsAccount, IsHolding, IsTicket, IsChange}
use Rattle.rules_world.specs.world.Good.{IsGood, IsGoodContract, known_with}
use Rattle.rules_world.specs.world.Holdings.{amount_held, held_by_accounts, held_by_contracts, minted_ever, burnt_ever}
use Rattle.laws_world.proofs.accounts.ForCallers.{burnt_positive, held_positive, identity_total, ticket_positive, among_positive}
use Rattle.laws_code.proofs.stacks.ForCallers.{tickets_good}
use Rattle.laws_commands.specs.audits.Follows.{ticket_in, IsPlain, IsPlainWorld}
use Rattle.laws_commands.specs.audits.Agreement.{RunsAgree}
use Rattle.laws_commands.specs.audits.Plain.{IsPlainMint, PlainMintsSuffice, MintedRunsAgree}
use Rattle.laws_commands.proofs.audits_lemmas.Goods.{files_end_good, plain_runs_agree}
use Rattle.laws_commands.proofs.audits_lemmas.Identities.{alike_one, alike_itself}

-- ---- sums

nothing : pos 0 <ℤ pos 0 → ⊥
nothing h = omega (arith, ints)

first_more : (a b : ℤ) → pos 0 <ℤ a → pos 0 ≤ℤ b → pos 0 <ℤ (a +ℤ b)
first_more a b h g = omega (arith, ints, h, g)

second_more : (a b : ℤ) → pos 0 ≤ℤ a → pos 0 <ℤ b → pos 0 <ℤ (a +ℤ b)
second_more a b h g = omega (arith, ints, h, g)

both_least : (a b : ℤ) → pos 0 ≤ℤ a → pos 0 ≤ℤ b → pos 0 ≤ℤ (a +ℤ b)
both_least a b h g = omega (arith, ints, h, g)

without_first : (b : ℤ) → pos 0 <ℤ (pos 0 +ℤ b) → pos 0 <ℤ b
without_first b h = omega (arith, ints, h)

-- ---- what was minted

minted_plain : (id : Identity) (cs : List Change) → AllByRecursion IsPlainMint cs → pos 0 <ℤ minted_in id cs → is_comparable id.content ≡ true
minted_plain id [] p h = absurd (nothing h)
minted_plain id (burnt t ∷ cs) p h = minted_plain id cs p.1 h
minted_plain id (minted t ∷ cs) p h = by (λ g. minted_plain id cs p.1 g) (is_alike id (identity_of t)) refl h
  where
    by : (pos 0 <ℤ minted_in id cs → is_comparable id.content ≡ true) → (b : Bool) → is_alike id (identity_of t) ≡ b → pos 0 <ℤ (cond b t.amount (pos 0) +ℤ minted_in id cs) →
        is_comparable id.content ≡ true
    by again true e h = subst (λ (i : Identity). is_comparable i.content ≡ true) (sym (alike_one id (identity_of t) p.0 e)) p.0
    by again false e h = again (without_first (minted_in id cs) h)

-- ---- amounts

amount_least : (id : Identity) (t : Held) → IsTicket t → pos 0 ≤ℤ amount_of id t
amount_least id t h = by (is_alike id (identity_of t)) (ticket_positive t h.1)
  where
    by : (b : Bool) → pos 0 <ℤ t.amount → pos 0 ≤ℤ cond b t.amount (pos 0)
    by true p = omega (arith, ints, p)
    by false p = omega (arith, ints)

own_amount : (t : Held) → IsTicket t → pos 0 <ℤ amount_of (identity_of t) t
own_amount t h = subst (λ b. pos 0 <ℤ cond b t.amount (pos 0)) (sym (alike_itself (identity_of t))) (ticket_positive t h.1)

-- of what there is some, the content is comparable
abbrev Suffices : (Identity → ℤ) → Type 0
Suffices f = (id : Identity) → pos 0 <ℤ f id → is_comparable id.content ≡ true

-- ---- the log

log_plain : (cs : List Change) → Suffices (λ id. burnt_in id cs) → AllByRecursion IsPlainMint cs → All IsChange cs → AllByRecursion (λ c. IsPlain (ticket_in c)) cs
log_plain [] f p h = tt
log_plain (minted t ∷ cs) f p h = (p.0, log_plain cs f p.1 (All-tail IsChange (minted t) cs h))
log_plain (burnt t ∷ cs) f p h =
    let form : IsTicket t = All-head IsChange (burnt t) cs h in
    let rest = All-tail IsChange (burnt t) cs h in (
      f (identity_of t) (first_more (amount_of (identity_of t) t) (burnt_in (identity_of t) cs) (own_amount t form) (burnt_positive (identity_of t) cs rest)),
      log_plain cs (λ id g. f id (second_more (amount_of id t) (burnt_in id cs) (amount_least id t form) g)) p.1 rest,
    )

-- ---- accounts

holdings_plain : (hs : List (Identity × ℤ)) → All IsHolding hs → Suffices (λ id. unwrap_or (lookup (is_at (identity_order id)) hs) (pos 0)) →
    AllByRecursion (λ h. is_comparable h.0.content ≡ true) hs
holdings_plain [] h f = tt
holdings_plain (x ∷ hs) h f = (
  f x.0 (subst (λ r. pos 0 <ℤ unwrap_or (cond (is_eq r) (Some x.1) (lookup (is_at (identity_order x.0)) hs)) (pos 0)) (sym (tied_itself identity_total x.0)) (All-head IsHolding x hs h).1),
  holdings_plain hs (All-tail IsHolding x hs h) (λ id g. f id (by id (is_at (identity_order id) x.0) g)),
)
  where
    by : (id : Identity) (b : Bool) → pos 0 <ℤ unwrap_or (lookup (is_at (identity_order id)) hs) (pos 0) →
        pos 0 <ℤ unwrap_or (cond b (Some x.1) (lookup (is_at (identity_order id)) hs)) (pos 0)
    by id true g = (All-head IsHolding x hs h).1
    by id false g = g

account_least : (id : Identity) (x : List ℕ × Account) → IsAccount x → pos 0 ≤ℤ amount_held x.1 id
account_least id x h = held_positive x.1 id (record { forms = h.1; order = h.2 })

accounts_least : (id : Identity) (xs : List (List ℕ × Account)) → All IsAccount xs → pos 0 ≤ℤ held_by_accounts id xs
accounts_least id [] h = omega (arith, ints)
accounts_least id (x ∷ xs) h =
    both_least (amount_held x.1 id) (held_by_accounts id xs) (account_least id x (All-head IsAccount x xs h)) (accounts_least id xs (All-tail IsAccount x xs h))

accounts_plain : (xs : List (List ℕ × Account)) → All IsAccount xs → Suffices (λ id. held_by_accounts id xs) →
    AllByRecursion (λ a. AllByRecursion (λ h. is_comparable h.0.content ≡ true) a.1.holdings) xs
accounts_plain [] h f = tt
accounts_plain (x ∷ xs) h f =
    let form = All-head IsAccount x xs h in
    let rest = All-tail IsAccount x xs h in (
      holdings_plain x.1.holdings form.1 (λ id g. f id (first_more (amount_held x.1 id) (held_by_accounts id xs) g (accounts_least id xs rest))),
      accounts_plain xs rest (λ id g. f id (second_more (amount_held x.1 id) (held_by_accounts id xs) (account_least id x form) g)),
    )

-- ---- contracts

stored_plain : (ts : List Held) → All IsTicket ts → Suffices (λ id. amount_among id ts) → AllByRecursion IsPlain ts
stored_plain [] h f = tt
stored_plain (t ∷ ts) h f =
    let form = All-head IsTicket t ts h in
    let rest = All-tail IsTicket t ts h in (
      f (identity_of t) (first_more (amount_of (identity_of t) t) (amount_among (identity_of t) ts) (own_amount t form) (among_positive (identity_of t) ts rest)),
      stored_plain ts rest (λ id g. f id (second_more (amount_of id t) (amount_among id ts) (amount_least id t form) g)),
    )

module _ (w : World) where
  stored_good : (x : List ℕ × Contract) → IsGoodContract w x → All IsTicket (tickets x.1.storage)
  stored_good x h = tickets_good (known_with w []) h.0.storage x.1.storage h.3

  contracts_least : (id : Identity) (xs : List (List ℕ × Contract)) → All (IsGoodContract w) xs → pos 0 ≤ℤ held_by_contracts id xs
  contracts_least id [] h = omega (arith, ints)
  contracts_least id (x ∷ xs) h =
      both_least (amount_among id (tickets x.1.storage)) (held_by_contracts id xs) (among_positive id (tickets x.1.storage) (stored_good x (All-head (IsGoodContract w) x xs h)))
      (contracts_least id xs (All-tail (IsGoodContract w) x xs h))

  contracts_plain : (xs : List (List ℕ × Contract)) → All (IsGoodContract w) xs → Suffices (λ id. held_by_contracts id xs) →
      AllByRecursion (λ c. AllByRecursion IsPlain (tickets c.1.storage)) xs
  contracts_plain [] h f = tt
  contracts_plain (x ∷ xs) h f =
      let form = stored_good x (All-head (IsGoodContract w) x xs h) in
      let rest = All-tail (IsGoodContract w) x xs h in (
        stored_plain (tickets x.1.storage) form (λ id g. f id (first_more (amount_among id (tickets x.1.storage)) (held_by_contracts id xs) g (contracts_least id xs rest))),
        contracts_plain xs rest (λ id g. f id (second_more (amount_among id (tickets x.1.storage)) (held_by_contracts id xs) (among_positive id (tickets x.1.storage) form) g)),
      )

-- ---- worlds

balanced : (a c m b : ℤ) → a +ℤ c +ℤ pos 0 ≡ m -ℤ b → pos 0 ≤ℤ a → pos 0 ≤ℤ c → pos 0 ≤ℤ b → pos 0 <ℤ (a +ℤ c +ℤ b) → pos 0 <ℤ m
balanced a c m b e h g k l = omega (arith, ints, e, h, g, k, l)

first_of : (a c b : ℤ) → pos 0 <ℤ a → pos 0 ≤ℤ c → pos 0 ≤ℤ b → pos 0 <ℤ (a +ℤ c +ℤ b)
first_of a c b h g k = omega (arith, ints, h, g, k)

second_of : (a c b : ℤ) → pos 0 ≤ℤ a → pos 0 <ℤ c → pos 0 ≤ℤ b → pos 0 <ℤ (a +ℤ c +ℤ b)
second_of a c b h g k = omega (arith, ints, h, g, k)

third_of : (a c b : ℤ) → pos 0 ≤ℤ a → pos 0 ≤ℤ c → pos 0 <ℤ b → pos 0 <ℤ (a +ℤ c +ℤ b)
third_of a c b h g k = omega (arith, ints, h, g, k)

module _ (w : World) (g : IsGood w []) (p : AllByRecursion IsPlainMint w.log) where
  a_least : (id : Identity) → pos 0 ≤ℤ held_by_accounts id w.accounts
  a_least id = accounts_least id w.accounts g.sound.form.accounts

  c_least : (id : Identity) → pos 0 ≤ℤ held_by_contracts id w.contracts
  c_least id = contracts_least w id w.contracts g.sound.contracts

  b_least : (id : Identity) → pos 0 ≤ℤ burnt_ever w id
  b_least id = burnt_positive id w.log g.sound.form.log

  any_plain : (id : Identity) → pos 0 <ℤ (held_by_accounts id w.accounts +ℤ held_by_contracts id w.contracts +ℤ burnt_ever w id) → is_comparable id.content ≡ true
  any_plain id h =
      minted_plain id w.log p
      (balanced (held_by_accounts id w.accounts) (held_by_contracts id w.contracts) (minted_ever w id) (burnt_ever w id) (g.tickets id) (a_least id) (c_least id) (b_least id) h)

  world_plain : IsPlainWorld w
  world_plain = record {
    log = log_plain w.log (λ id h. any_plain id (third_of (held_by_accounts id w.accounts) (held_by_contracts id w.contracts) (burnt_ever w id) (a_least id) (c_least id) h)) p g.sound.form.log;
    accounts = accounts_plain w.accounts g.sound.form.accounts
        (λ id h. any_plain id (first_of (held_by_accounts id w.accounts) (held_by_contracts id w.contracts) (burnt_ever w id) h (c_least id) (b_least id)));
    contracts = contracts_plain w w.contracts g.sound.contracts
        (λ id h. any_plain id (second_of (held_by_accounts id w.accounts) (held_by_contracts id w.contracts) (burnt_ever w id) (a_least id) h (b_least id)));
  }

pub plain_mints : PlainMintsSuffice
plain_mints w g p = world_plain w g p

pub minted_runs_agree : MintedRunsAgree
minted_runs_agree file done w r g p written short =
    plain_runs_agree file done w r g (world_plain w (files_end_good file done w r g).0.good p) written short

pub mints_plain : (cs : List Change) → All IsChange cs → AllByRecursion IsPlainMint cs
mints_plain [] h = tt
mints_plain (minted t ∷ cs) h = ((All-head IsChange (minted t) cs h).2, mints_plain cs (All-tail IsChange (minted t) cs h))
mints_plain (burnt t ∷ cs) h = (tt, mints_plain cs (All-tail IsChange (burnt t) cs h))

pub runs_agree : RunsAgree
runs_agree file done w r g written short =
    minted_runs_agree file done w r g (mints_plain w.log (files_end_good file done w r g).0.good.sound.form.log) written short
