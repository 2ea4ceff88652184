-- A state is read where it is kept, and fails where it is, at one place.
use Rattle.std.proofs.Common.{◌≡◌, ℕ, zero, suc, ℤ, Bool, true, false, cond, nat_eq, ltb, List, ◌∷◌, length, Option, Some, None, Result, Ok, Err, refl, sym, subst, ◌∙◌}
use Rattle.std.specs.Int.{w32, w64}
use Rattle.rules_text.specs.nodes.Tree.{Tree}
use Rattle.rules_text.specs.binary.Reading.{Spot}
use Rattle.rules_data.specs.gas.Kinds.{kinds_by_name}
use Rattle.rules_data.specs.gas.Prices.{Price}
use Rattle.rules_data.specs.types.Kind.{Kind}
use Rattle.rules_data.specs.values.Val.{Val}
use Rattle.rules_code.specs.evaluation.Surroundings.{Contract}
use Rattle.rules_world.specs.world.World.{Account}
use Rattle.rules_files.specs.snapshots.State.{State, Total}
use Rattle.rules_files.specs.snapshots.Reading.{Reader, ◌>>=◌, taken, number_at, signed_at, mark_at, node_at, value_at, storage_kind, storage_by, parts_at, counted_at, magic_of, profile_of, price_at, account_at, contract_at, total_at, state_at, snapshot_limit, whole, read}
use Rattle.mich_saved.specs.Kept.{kept_at}
use Rattle.mich_saved.specs.Sound.{Agree, IsKept, Each}
use Rattle.mich_saved.specs.Parts.{placed, KeptContract, kept_storage_by, kept_contract_at, Head, moment_at, head_at, KeptState, kept_state_at, kept_whole, kept_read}
use Rattle.mich_saved.specs.KeptStates.{IsKeptAccount, IsKeptContract, IsPlacedContract, IsKeptTotal, IsKeptState, AreRead, IsReadAs}
use Rattle.mich_saved.specs.Results.{Gives}
use Rattle.mich_saved.specs.Whole.{state}
use Rattle.mich_saved.specs.declared.errors.LoadError.{LoadError}
use Rattle.mich_saved.specs.declared.errors.LoadError.TheVariants as errors
use Rattle.mich_saved.specs.declared.reading.ReadState.{ReadState}
use Rattle.mich_saved.proofs.Links.{then_agree, same_then, keeps}

-- ---- parts one behind the other

module _ {A B : Type 0} (R : A → B → Type 0) (part : Reader A) (kept : Reader B) (agrees : (s : Spot) → Agree R (part s) (kept s)) where
  parts_agree : (n : ℕ) (s : Spot) → Agree (Each R) (parts_at part n s) (parts_at kept n s)
  parts_agree zero s = (refl, tt)
  parts_agree (suc n) s =
      then_agree R (Each R) (part s) (kept s) (λ (x : A × Spot). parts_at part n x.1 >>= λ (xs : List A × Spot). Ok (x.0 ∷ xs.0, xs.1))
      (λ (y : B × Spot). parts_at kept n y.1 >>= λ (ys : List B × Spot). Ok (y.0 ∷ ys.0, ys.1)) (agrees s)
      (λ x y r h. then_agree (Each R) (Each R) (parts_at part n r) (parts_at kept n r) (λ (xs : List A × Spot). Ok (x ∷ xs.0, xs.1)) (λ (ys : List B × Spot). Ok (y ∷ ys.0, ys.1)) (parts_agree n r)
      (λ xs ys t l. (refl, (h, l))))

  counted_agree : (s : Spot) → Agree (Each R) (counted_at part s) (counted_at kept s)
  counted_agree s = same_then (Each R) (number_at w64 s) (λ (n : ℕ × Spot). parts_at part n.0 n.1) (λ (n : ℕ × Spot). parts_at kept n.0 n.1) (λ n. parts_agree n.0 n.1)

placed_agrees : {A B : Type 0} (R : A → B → Type 0) (place : ℕ) (x : Result (A × Spot) ℕ) (y : Result (B × Spot) ℕ) → Agree R x y
    → Agree (λ (a : A) (b : ℕ × B). R a b.1) x (y >>= λ (b : B × Spot). Ok ((place, b.0), b.1))
placed_agrees R place (Ok x) (Ok y) h = h
placed_agrees R place (Err p) (Err q) h = h
placed_agrees R place (Ok x) (Err q) h = absurd h
placed_agrees R place (Err p) (Ok y) h = absurd h

agrees_itself : {A : Type 0} (x : Result (A × Spot) ℕ) → Agree (λ (a b : A). a ≡ b) x x
agrees_itself (Ok x) = (refl, refl)
agrees_itself (Err p) = refl

pub account_agrees : (s : Spot) → Agree IsKeptAccount (account_at s) (placed account_at s)
account_agrees s = placed_agrees (λ (a b : List ℕ × Account). a ≡ b) s.place (account_at s) (account_at s) (agrees_itself (account_at s))

pub total_agrees : (s : Spot) → Agree IsKeptTotal (total_at s) (placed total_at s)
total_agrees s = placed_agrees (λ (a b : Total). a ≡ b) s.place (total_at s) (total_at s) (agrees_itself (total_at s))

-- ---- contracts

abbrev MadeContract : List ℕ → ℕ → ℕ → Tree → Val × Spot → Result ((List ℕ × Contract) × Spot) ℕ
MadeContract hash balance paid script x = Ok ((hash, record { balance = balance; paid = paid; script = script; storage = x.0 }), x.1)

abbrev MadeKept : List ℕ → ℕ → ℕ → Tree → Option Val × Spot → Result ((List ℕ × KeptContract) × Spot) ℕ
MadeKept hash balance paid script x = Ok ((hash, record { balance = balance; paid = paid; script = script; storage = x.0 }), x.1)

storage_agrees : (hash : List ℕ) (balance paid : ℕ) (script : Tree) (place : ℕ) (s : Spot) (o : Option Kind) → storage_kind script ≡ o
    → Agree IsKeptContract (storage_by o place s >>= MadeContract hash balance paid script) (kept_storage_by o place s >>= MadeKept hash balance paid script)
storage_agrees hash balance paid script place s None e = refl
storage_agrees hash balance paid script place s (Some a) e =
    then_agree (IsKept a) IsKeptContract (value_at a s) (kept_at a s) (MadeContract hash balance paid script) (MadeKept hash balance paid script) (keeps a s)
    (λ x y r h. (refl, record { hash = refl; balance = refl; paid = refl; script = refl; storage = (a, e, h) }))

pub contract_agrees : (s : Spot) → Agree IsKeptContract (contract_at s) (kept_contract_at s)
unfolding contract_at kept_contract_at
contract_agrees s =
    same_then IsKeptContract (taken 20 s) _ _ (λ hash.
    same_then IsKeptContract (number_at w64 hash.1) _ _ (λ balance.
    same_then IsKeptContract (number_at w64 balance.1) _ _ (λ paid.
    same_then IsKeptContract (node_at paid.1) _ _ (λ script.
    storage_agrees hash.0 balance.0 paid.0 script.0 paid.1.place script.1 (storage_kind script.0) refl))))

placed_contract_agrees : (s : Spot) → Agree IsPlacedContract (contract_at s) (placed kept_contract_at s)
placed_contract_agrees s = placed_agrees IsKeptContract s.place (contract_at s) (kept_contract_at s) (contract_agrees s)

-- ---- the head is read in two steps

regroup : {A B C : Type 0} (r : Result A ℕ) (f : A → Result B ℕ) (g : B → Result C ℕ) → ((r >>= f) >>= g) ≡ (r >>= λ (x : A). (f x >>= g))
regroup (Ok x) f g = refl
regroup (Err p) f g = refl

bind_same : {A B : Type 0} (r : Result A ℕ) (f g : A → Result B ℕ) → ((x : A) → f x ≡ g x) → (r >>= f) ≡ (r >>= g)
bind_same (Ok x) f g h = h x
bind_same (Err p) f g h = refl

module _ {C : Type 0} where
  moment_then : (s : Spot) (next : (List ℕ × ℕ × ℤ) × Spot → Result C ℕ) → (moment_at s >>= next) ≡ (taken 8 s >>= λ (first : List ℕ × Spot). magic_of s.place first >>= λ (head : Spot).
      taken 4 head >>= λ (chain : List ℕ × Spot). number_at w32 chain.1 >>= λ (level : ℕ × Spot). signed_at w64 level.1 >>= λ (moment : ℤ × Spot). next ((chain.0, level.0, moment.0), moment.1))
  unfolding moment_at
  moment_then s next =
      regroup (taken 8 s) _ next ∙ bind_same (taken 8 s) _ _ (λ first.
      regroup (magic_of s.place first) _ next ∙ bind_same (magic_of s.place first) _ _ (λ head.
      regroup (taken 4 head) _ next ∙ bind_same (taken 4 head) _ _ (λ chain.
      regroup (number_at w32 chain.1) _ next ∙ bind_same (number_at w32 chain.1) _ _ (λ level.
      regroup (signed_at w64 level.1) _ next))))

  head_then : (s : Spot) (next : Head × Spot → Result C ℕ) → (head_at s >>= next) ≡ (moment_at s >>= λ (moment : (List ℕ × ℕ × ℤ) × Spot).
      profile_of moment.1.place moment.1.left >>= λ (pays : Bool × Spot). number_at w64 pays.1 >>= λ (rate : ℕ × Spot). number_at w64 rate.1 >>= λ (groups : ℕ × Spot).
      mark_at groups.1 >>= λ (costs : Bool × Spot). mark_at costs.1 >>= λ (started : Bool × Spot).
      next (record { chain = moment.0.0; level = moment.0.1; moment = moment.0.2; pays = pays.0; rate = rate.0; groups = groups.0; costs_stood = costs.0; started = started.0 }, started.1))
  unfolding head_at
  head_then s next =
      regroup (moment_at s) _ next ∙ bind_same (moment_at s) _ _ (λ moment.
      regroup (profile_of moment.1.place moment.1.left) _ next ∙ bind_same (profile_of moment.1.place moment.1.left) _ _ (λ pays.
      regroup (number_at w64 pays.1) _ next ∙ bind_same (number_at w64 pays.1) _ _ (λ rate.
      regroup (number_at w64 rate.1) _ next ∙ bind_same (number_at w64 rate.1) _ _ (λ groups.
      regroup (mark_at groups.1) _ next ∙ bind_same (mark_at groups.1) _ _ (λ costs.
      regroup (mark_at costs.1) _ next)))))

-- ---- states

abbrev pub state_with : Head → List Price → ℕ → ℕ → List (List ℕ × Account) → List (List ℕ × Contract) → List Total → State
state_with h prices fees burn accounts contracts tickets = record {
  chain = h.chain;
  level = h.level;
  moment = h.moment;
  pays = h.pays;
  rate = h.rate;
  groups = h.groups;
  costs_stood = h.costs_stood;
  started = h.started;
  prices = prices;
  fees = fees;
  storage_burn = burn;
  accounts = accounts;
  contracts = contracts;
  tickets = tickets;
}

abbrev pub behind_head : Head × Spot → Result (State × Spot) ℕ
behind_head h =
    parts_at price_at (length kinds_by_name) h.1 >>= λ (prices : List Price × Spot). number_at w64 prices.1 >>= λ (fees : ℕ × Spot). number_at w64 fees.1 >>= λ (burn : ℕ × Spot).
    counted_at account_at burn.1 >>= λ (accounts : List (List ℕ × Account) × Spot). counted_at contract_at accounts.1 >>= λ (contracts : List (List ℕ × Contract) × Spot).
    counted_at total_at contracts.1 >>= λ (tickets : List Total × Spot). Ok (state_with h.0 prices.0 fees.0 burn.0 accounts.0 contracts.0 tickets.0, tickets.1)

pub state_is : (s : Spot) → state_at s ≡ (head_at s >>= behind_head)
unfolding state_at
state_is s = sym (head_then s behind_head ∙ moment_then s _)

state_agrees : (s : Spot) → Agree IsKeptState (state_at s) (kept_state_at s)
unfolding kept_state_at
state_agrees s = subst (λ (r : Result (State × Spot) ℕ). Agree IsKeptState r (kept_state_at s)) (sym (state_is s)) (
    same_then IsKeptState (head_at s) behind_head _ (λ h.
    same_then IsKeptState (parts_at price_at (length kinds_by_name) h.1) _ _ (λ prices.
    same_then IsKeptState (number_at w64 prices.1) _ _ (λ fees.
    same_then IsKeptState (number_at w64 fees.1) _ _ (λ burn.
    then_agree (Each IsKeptAccount) IsKeptState (counted_at account_at burn.1) (counted_at (placed account_at) burn.1) _ _ (counted_agree IsKeptAccount account_at (placed account_at) account_agrees burn.1) (λ a ka r1 ha.
    then_agree (Each IsPlacedContract) IsKeptState (counted_at contract_at r1) (counted_at (placed kept_contract_at) r1) _ _ (counted_agree IsPlacedContract contract_at (placed kept_contract_at) placed_contract_agrees r1) (λ c kc r2 hc.
    then_agree (Each IsKeptTotal) IsKeptState (counted_at total_at r2) (counted_at (placed total_at) r2) _ _ (counted_agree IsKeptTotal total_at (placed total_at) total_agrees r2) (λ t kt r3 ht.
    (refl, record { head = refl; prices = refl; fees = refl; storage_burn = refl; accounts = ha; contracts = hc; tickets = ht })))))))))

whole_agrees : (x : Result (State × Spot) ℕ) (y : Result (KeptState × Spot) ℕ) → Agree IsKeptState x y → AreRead (x >>= λ (s : State × Spot). whole s) (y >>= λ (s : KeptState × Spot). kept_whole s)
whole_agrees (Ok x) (Ok y) h =
    let by : (b : Bool) → AreRead (cond b (Ok x.0) (Err x.1.place)) (cond b (Ok y.0) (Err x.1.place)) = λ b. elim b as (λ (w : Bool). AreRead (cond w (Ok x.0) (Err x.1.place)) (cond w (Ok y.0) (Err x.1.place))) [ true ↦ h.1 | false ↦ refl ] in
    subst (λ (s : Spot). AreRead (whole x) (kept_whole (y.0, s))) h.0 (by (nat_eq (length x.1.left) 0))
whole_agrees (Err p) (Err q) h = h
whole_agrees (Ok x) (Err q) h = absurd h
whole_agrees (Err p) (Ok y) h = absurd h

limit_agrees : (b : Bool) (x : Result State ℕ) (y : Result KeptState ℕ) → AreRead x y → AreRead (cond b (Err snapshot_limit) x) (cond b (Err snapshot_limit) y)
limit_agrees true x y h = refl
limit_agrees false x y h = h

-- bytes are read as a state where one is kept of them, and the first fault is at one place
pub are_read : (bs : List ℕ) → AreRead (read bs) (kept_read bs)
unfolding read kept_read
are_read bs =
    limit_agrees (ltb snapshot_limit (length bs)) _ _ (whole_agrees (state_at (record { place = 0; left = bs })) (kept_state_at (record { place = 0; left = bs })) (state_agrees (record { place = 0; left = bs })))

as_read : (r : Result State ℕ) (x : ReadState) → AreRead r (Ok (state x)) → IsReadAs r (Ok x)
as_read (Ok s) x h = h
as_read (Err p) x h = absurd h

as_failed : (r : Result State ℕ) (place : ℕ) → AreRead r (Err place) → IsReadAs r (Err (errors.BadForm place))
as_failed (Ok s) place h = absurd h
as_failed (Err p) place h = h

after_memory : (r : Result State ℕ) → IsReadAs r (Err errors.Memory)
after_memory (Ok s) = tt
after_memory (Err p) = tt

-- what was kept tells what is read
pub read_as : (r : Result State ℕ) (kept : Result KeptState ℕ) (x : Result ReadState LoadError) → AreRead r kept → Gives state x kept → IsReadAs r x
read_as r kept (Ok x) h g = as_read r x (subst (AreRead r) g h)
read_as r kept (Err errors.Memory) h g = after_memory r
read_as r kept (Err (errors.BadForm place)) h g = as_failed r place (subst (AreRead r) g h)
read_as r kept (Err (errors.Unsound place)) h g = absurd g
