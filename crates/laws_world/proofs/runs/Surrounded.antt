-- What a run begins with in a good world.
use Rattle.std.proofs.Common.{◌≡◌, ◌-◌, ◌^◌, ℕ, List, [], ◌∷◌, length, Bool, true, false, Some, refl, sym, ap, ◌∙◌, subst, ℤ, pos, ◌+ℤ◌, ◌-ℤ◌, ◌≤ℤ◌, arith}
use Rattle.std.specs.Ordering.{nat_cmp}
use Rattle.std.specs.Cmp.Lexicographic.{slice_cmp}
use Rattle.std.specs.List.{All}
use Rattle.std.proofs.lemmas.Int.{ints}
use Rattle.std.proofs.lemmas.List.Elements.{All-nil, All-cons, All-head, All-tail, All-weaker}
use Rattle.rules_data.specs.types.Kind.{Kind}
use Rattle.rules_data.specs.types.Kind as k
use Rattle.rules_data.specs.values.Val.{Val}
use Rattle.rules_data.specs.values.Val as v
use Rattle.rules_data.specs.values.Tickets.{Identity, tickets}
use Rattle.rules_code.specs.instructions.Arguments.{found}
use Rattle.rules_code.specs.typing.Fits.{Known, Fits}
use Rattle.rules_code.specs.typing.Scripts.{Script, Outline}
use Rattle.rules_code.specs.typing.Nodes.{outline}
use Rattle.rules_code.specs.steps.Changes.{amount_among, amount_in}
use Rattle.rules_code.specs.steps.Environment.{Environment}
use Rattle.rules_code.specs.evaluation.Surroundings.{Contract, Surroundings}
use Rattle.rules_world.specs.world.World.{World, Account, contract_at, with_contract}
use Rattle.rules_world.specs.world.Holdings.{held, held_by_accounts, held_by_contracts, amount_held, minted_ever, burnt_ever}
use Rattle.rules_world.specs.world.Outcomes.{Setting, Counts}
use Rattle.rules_world.specs.world.Targets.{Target, Search, met, search, wrapped}
use Rattle.rules_world.specs.world.Runs.{surroundings_of, tally_of, type_before, value_before}
use Rattle.rules_world.specs.world.RunLaws.{IsCall}
use Rattle.rules_world.specs.world.Forms.{IsAccount}
use Rattle.rules_world.specs.world.Good.{known_with, FitsIn, IsGoodContract, IsSound}
use Rattle.laws_code.specs.evaluation.Laws.{IsGood, IsType, Stands}
use Rattle.laws_tickets.proofs.totals.ForCallers.{LeadsTo, EntriesLead, found_leads, outline_typed}
use Rattle.laws_world.proofs.accounts.ForCallers.{in_both, in_positive, minted_positive, burnt_positive, all_insert, one_in, held_positive, contract_supply, environment_good}
use Rattle.laws_world.proofs.runs.Codes.{script_code}
use Rattle.laws_world.proofs.runs.Moves.{in_order}
use Rattle.laws_world.proofs.runs.Scripts.{script_is, IsMet, Searched, searched, script_one}
use Rattle.laws_world.proofs.runs.Steps.{orderly_of}
use Rattle.laws_world.proofs.runs.Worlds.{IsOrderly, contract_stores, contract_length, held_contract}

-- ---- what is held is not below nothing

sum_positive : (a b : ℤ) → pos 0 ≤ℤ a → pos 0 ≤ℤ b → pos 0 ≤ℤ (a +ℤ b)
sum_positive a b h g = omega (arith, ints)

accounts_positive : (id : Identity) (es : List (List ℕ × Account)) → All IsAccount es → pos 0 ≤ℤ held_by_accounts id es
accounts_positive id [] h = omega (arith, ints)
accounts_positive id (a ∷ es) h =
    let i = All-head IsAccount a es h in
    sum_positive (amount_held a.1 id) (held_by_accounts id es) (held_positive a.1 id (record { forms = i.1; order = i.2 }))
    (accounts_positive id es (All-tail IsAccount a es h))

abbrev IsPositive : Identity → List ℕ × Contract → Type 0
IsPositive id c = pos 0 ≤ℤ amount_in id c.1.storage

contracts_positive : (id : Identity) (cs : List (List ℕ × Contract)) → All (IsPositive id) cs → pos 0 ≤ℤ held_by_contracts id cs
contracts_positive id [] h = omega (arith, ints)
contracts_positive id (c ∷ cs) h =
    sum_positive (amount_in id c.1.storage) (held_by_contracts id cs) (All-head (IsPositive id) c cs h)
    (contracts_positive id cs (All-tail (IsPositive id) c cs h))

good_positive : (w : World) (id : Identity) (c : List ℕ × Contract) → IsGoodContract w c → IsPositive id c
good_positive w id c h = in_positive id (known_with w []) h.0.storage c.1.storage h.3

part_of : (x h a : ℤ) → x +ℤ a ≡ h +ℤ pos 0 → pos 0 ≤ℤ x → a ≤ℤ h
part_of x h a e p = omega (arith, ints, e, p)

-- a contract holds no more than is held
pub held_within : (w : World) (hash : List ℕ) (c : Contract) (id : Identity) → IsOrderly w → contract_at w hash ≡ Some c →
    amount_in id c.storage ≤ℤ held w id
held_within w hash c id o there =
    let d : Contract = record c { storage = v.unit } in
    let set : held (with_contract w hash d) id +ℤ amount_in id c.storage ≡ held w id +ℤ pos 0 =
    ap (λ o. held (with_contract w hash d) id +ℤ one_in (λ (c : Contract). amount_in id c.storage) o) (sym there)
    ∙ held_contract w hash d id o in
    let zero : pos 0 ≤ℤ pos 0 = omega (arith, ints) in
    let all : All (IsPositive id) (with_contract w hash d).contracts =
    all_insert (slice_cmp nat_cmp) (IsPositive id) hash d zero (λ e f same. zero) w.contracts
    (All-weaker (IsGoodContract w) (IsPositive id) (good_positive w id) w.contracts o.contracts) in
    part_of (held (with_contract w hash d) id) (held w id) (amount_in id c.storage) set
    (sum_positive (held_by_accounts id w.accounts) (held_by_contracts id (with_contract w hash d).contracts)
    (accounts_positive id w.accounts o.form.accounts) (contracts_positive id (with_contract w hash d).contracts all))

-- ---- the argument

-- of an entrypoint as one of the whole parameter
wrapped_fits : (w : Known) (path : List Bool) (a b : Kind) (x : Val) → LeadsTo path a b → Fits w b x → Fits w a (wrapped path x)
wrapped_fits w [] a b x h g = subst (λ c. Fits w c x) (sym h) g
wrapped_fits w (false ∷ path) (k.or l r) b x h g = wrapped_fits w path l b x h g
wrapped_fits w (true ∷ path) (k.or l r) b x h g = wrapped_fits w path r b x h g
wrapped_fits w (false ∷ path) _ b x h g = absurd h
wrapped_fits w (true ∷ path) _ b x h g = absurd h

wrapped_tickets : (path : List Bool) (x : Val) → tickets (wrapped path x) ≡ tickets x
wrapped_tickets [] x = refl
wrapped_tickets (false ∷ path) x = wrapped_tickets path x
wrapped_tickets (true ∷ path) x = wrapped_tickets path x

-- ---- the run

module _ (e : Environment) (s : Setting) (w : World) (t : Target) (argument : Val) (counts : Counts)
    (call : IsCall e s w t argument counts) where
  sound : IsSound w
  sound = call.may.sound

  pub orderly : IsOrderly w
  orderly = orderly_of w call.may.sound

  pub is_met : IsMet w t
  is_met = by (search w t.hash t.entry.name) call.found (searched w orderly t.hash t.entry.name)
    where
      by : (q : Search) → q ≡ met t → Searched w t.hash t.entry.name q → IsMet w t
      by (met u) e h = let same : u ≡ t = cc in subst (IsMet w) same h.0
      by (Rattle.rules_world.specs.world.Targets.missing f) e h = absurd cc
      by Rattle.rules_world.specs.world.Targets.unreadable e h = absurd h

  within_sum : (h a m b x : ℤ) → (h +ℤ a) ≤ℤ (m -ℤ b) → pos 0 ≤ℤ b → (x +ℤ a) ≤ℤ (h +ℤ a) → (a +ℤ x) ≤ℤ m
  within_sum h a m b x e p q = omega (arith, ints, e, p, q)

  -- an argument with a storage holds no more than was minted
  handed_within : (hash : List ℕ) (c : Contract) → contract_at w hash ≡ Some c → (id : Identity) →
      (amount_in id argument +ℤ amount_in id c.storage) ≤ℤ minted_ever w id
  handed_within hash c there id =
      let part : amount_in id c.storage ≤ℤ held w id = held_within w hash c id orderly there in
      let more : (amount_in id c.storage +ℤ amount_in id argument) ≤ℤ (held w id +ℤ amount_in id argument) = omega
      (arith, ints, part) in
      within_sum (held w id) (amount_in id argument) (minted_ever w id) (burnt_ever w id) (amount_in id c.storage)
      (call.may.tickets id) (burnt_positive id w.log call.may.sound.form.log) more

  storage_within : (hash : List ℕ) (c : Contract) → contract_at w hash ≡ Some c → (id : Identity) →
      amount_in id c.storage ≤ℤ minted_ever w id
  storage_within hash c there id =
      let both = handed_within hash c there id in
      let p : pos 0 ≤ℤ amount_in id argument = in_positive id (known_with w []) t.entry.kind argument call.fits in
      omega (arith, ints, both, p)

  abbrev S : Surroundings
  S = surroundings_of e s w t

  pub good : IsGood S
  good = record {
    environment = environment_good e call.environment (ap length call.own
        ∙ contract_length w orderly t.hash is_met.contract is_met.there);
    group = call.small;
    own = (is_met.contract, ap (contract_at w) call.own ∙ is_met.there, (t.script, is_met.read, refl));
    contracts = λ hash c there.
        let stores = contract_stores w orderly hash c there in
        record {
          reading = stores.0;
          is_script = stores.1;
          small = stores.2;
          fits = stores.3;
          balance = let set = contract_supply w hash (record c { balance = 0 }) c (in_order w orderly) there in
              let most = call.may.sound.mutez in omega (arith, set, most);
          tickets = storage_within hash c there;
        };
    minted = λ id. minted_positive id w.log call.may.sound.form.log;
  }

  typed : (o : Outline) → outline is_met.contract.script ≡ found o → t.script.parameter ≡ o.parameter →
      t.script.entries ≡ o.entries → t.script.storage ≡ o.storage →
      Rattle.laws_data.specs.types.Laws.IsWellFormed t.script.parameter × Rattle.laws_data.specs.types.Laws.IsWellFormed
      t.script.storage × EntriesLead t.script.parameter t.script.entries
  typed o outlined p es st =
      let i = outline_typed is_met.contract.script o outlined in (
        subst Rattle.laws_data.specs.types.Laws.IsWellFormed (sym p) i.parameter,
        subst Rattle.laws_data.specs.types.Laws.IsWellFormed (sym st) i.storage,
        subst (λ es. EntriesLead t.script.parameter es) (sym es) (subst (λ a. EntriesLead a o.entries) (sym p) i.entries),
      )

  pub of_script : Rattle.laws_data.specs.types.Laws.IsWellFormed t.script.parameter ×
      Rattle.laws_data.specs.types.Laws.IsWellFormed t.script.storage × EntriesLead t.script.parameter t.script.entries
  of_script =
      let i = script_is is_met.contract.script t.script is_met.read in
      typed i.of i.outlined (ap (λ (s : Script). s.parameter) i.is) (ap (λ (s : Script). s.entries) i.is)
      (ap (λ (s : Script). s.storage) i.is)

  argument_fits : FitsIn w t.script.parameter (wrapped t.entry.path argument)
  argument_fits =
      wrapped_fits (known_with w []) t.entry.path t.script.parameter t.entry.kind argument
      (found_leads t.script.parameter t.entry.name t.script.entries t.entry of_script.2 is_met.entry) call.fits

  storage_fits : FitsIn w t.script.storage is_met.contract.storage
  storage_fits =
      let stores = contract_stores w orderly t.hash is_met.contract is_met.there in
      subst (λ (s : Script). FitsIn w s.storage is_met.contract.storage)
      (script_one is_met.contract.script stores.0 t.script stores.1 is_met.read) stores.3

  pub before_amount : (id : Identity) → amount_in id (value_before t argument is_met.contract) ≡ amount_in id argument +ℤ amount_in
      id is_met.contract.storage
  before_amount id =
      in_both id (wrapped t.entry.path argument) is_met.contract.storage
      ∙ ap (λ ts. amount_among id ts +ℤ amount_in id is_met.contract.storage) (wrapped_tickets t.entry.path argument)

  on_one : (a m : ℤ) → a ≤ℤ m → (a +ℤ pos 0) ≤ℤ (m +ℤ pos 0)
  on_one a m h = omega (arith, ints, h)

  as_most : (m : ℤ) → m ≤ℤ pos (2 ^ 127 - 1) → (m +ℤ pos 0) ≤ℤ pos (2 ^ 127 - 1)
  as_most m h = omega (arith, ints, h)

  -- the stack of one value on which the code begins
  pub stands : (gas : ℕ) → Stands S (tally_of gas counts) (type_before t.script ∷ [])
      (value_before t argument is_met.contract ∷ [])
  stands gas =
      let code = script_code is_met.contract.script t.script is_met.read in
      record {
        good = good;
        tally = record {
          operations = call.operations;
          originations = call.originations;
          mints = λ id. omega (arith, ints);
        };
        types = All-cons IsType (type_before t.script) [] ((of_script.0, of_script.1), code.limit) (All-nil IsType);
        fit = ((argument_fits, storage_fits), tt);
        tickets = λ id. (
          as_most (minted_ever w id) (call.may.sound.minted id),
          on_one (amount_in id (value_before t argument is_met.contract)) (minted_ever w id)
              (subst (λ z. z ≤ℤ minted_ever w id) (sym (before_amount id))
              (handed_within t.hash is_met.contract is_met.there id)),
        );
      }
