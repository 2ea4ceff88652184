-- Operations make lists longer by one item at most for each unit of gas.
use Rattle.std.proofs.Common.{◌≡◌, ◌≤◌, ◌<◌, ◌+◌, ◌-◌, ℕ, Bool, true, false, cond, List, [], ◌∷◌, length, Option, Some, None, refl, subst, arith}
use Rattle.std.specs.Prelude.{nat_lt, ◌==◌, option_map, if◌then◌else◌}
use Rattle.std.specs.List.{All, AllByRecursion, find}
use Rattle.std.specs.Ordering.{nat_cmp}
use Rattle.std.specs.Cmp.Lexicographic.{slice_cmp}
use Rattle.std.specs.BTreeMap.{is_at}
use Rattle.std.specs.Map.{values_of}
use Rattle.std.specs.Option.{IfSome}
use Rattle.std.proofs.lemmas.List.Elements.{All-nil, All-cons, All-head, All-tail}
use Rattle.std.proofs.lemmas.Map.Views.{All-values-insert_entry, IfSome-lookup_from_All}
use Rattle.rules_text.specs.nodes.Limits.{byte_limit}
use Rattle.rules_text.specs.nodes.Tree.{Tree, size}
use Rattle.rules_data.specs.declared.gas.Kind.{Kind as Priced}
use Rattle.rules_data.specs.forms.Spelling.{implicit_place, contract_place, is_implicit}
use Rattle.rules_data.specs.gas.Prices.{Listed, cost}
use Rattle.rules_data.specs.types.Kind.{Kind}
use Rattle.rules_data.specs.values.Tickets.{Held}
use Rattle.rules_data.specs.values.Val.{Val, Vals}
use Rattle.rules_data.specs.values.Val as v
use Rattle.rules_data.specs.values.Literals.{Pending, Literal, good, bad, read, claims}
use Rattle.rules_code.specs.instructions.Arguments.{Found, found, fault}
use Rattle.rules_code.specs.steps.Changes.{Change}
use Rattle.rules_code.specs.steps.Environment.{Environment}
use Rattle.rules_code.specs.typing.Literals.{checked, of_reading, fault_of_bodies}
use Rattle.rules_code.specs.typing.Nodes.{script}
use Rattle.rules_code.specs.evaluation.Contracts.{hash_in}
use Rattle.rules_code.specs.evaluation.Evaluation.{eval}
use Rattle.rules_code.specs.evaluation.Operations.{Issued, Tally}
use Rattle.rules_code.specs.evaluation.Outcome as code
use Rattle.rules_code.specs.evaluation.Surroundings.{Contract, Surroundings}
use Rattle.rules_world.specs.world.Arguments.{Argument, node, value, false_claim, unless_false, with_claims, argument_in, literal_in}
use Rattle.rules_world.specs.world.Balances.{balance_or_none, with_balance, with_account_balance, with_contract_balance, with_less, moved, fee_taken}
use Rattle.rules_world.specs.world.Contents.{Action, Originate, Call, Give}
use Rattle.rules_world.specs.world.Growth.{Burn, burn_of, with_paid, paid_for, burnt_from, unless_short, burning, growing}
use Rattle.rules_world.specs.world.Holdings.{credited, debited}
use Rattle.rules_world.specs.world.Originations.{Founding, founding_outcome, found_contract}
use Rattle.rules_world.specs.world.Outcomes.{Setting, Waiting, ordered, issued, Counts, Outcome, applied, failed, stuck, charged_by, charged}
use Rattle.rules_world.specs.world.Receipts.{Effect}
use Rattle.rules_world.specs.world.Runs.{Call as Called, environment_of, surroundings_of, tally_of, type_before, value_before, type_after, Returned, numbers_in, returned, has_twice, with_issued, issued_with, Ended, finished, run_failed, run_stuck, finished_with, unless_twice, with_returned, behind_code, outcome_of, run_of, run_in, waiting_of, with_effect, run}
use Rattle.rules_world.specs.world.Targets.{wrapped}
use Rattle.rules_world.specs.world.World.{World, Account, contract_at, with_account, with_contract, key_hash_in}
use Rattle.laws_code.specs.evaluation.Laws.{IsCharged}
use Rattle.laws_commands.specs.reached.Counted.{ListsWithin, StackWithin, OperationWithin, IssuedWithin, ContractWithin, Ends}
use Rattle.laws_commands.proofs.reached_lemmas.Literals.{literals_are_counted}
use Rattle.laws_commands.proofs.reached_lemmas.Steps.{place_length}
use Rattle.laws_commands.proofs.reached_lemmas.Outcomes.{same_gas, less_room, roomy, more_contract, more_operation, ends_ending}
use Rattle.laws_commands.proofs.reached_lemmas.Evaluation.{runs_are_counted}
use Rattle.laws_commands.proofs.common.Numbers.{rises}

-- ---- worlds

pub record WorldWithin (n : ℕ) (w : World) : Type 0 where
  pub chain : length w.chain ≤ 4
  pub contracts : All (ContractWithin n) (values_of w.contracts)

module _ (n : ℕ) where
  pub one_within : (w : World) (hash : List ℕ) (c : Contract) → WorldWithin n w → contract_at w hash ≡ Some c → ContractWithin n c
  one_within w hash c p there =
      subst (λ o. IfSome o (ContractWithin n)) there (IfSome-lookup_from_All (ContractWithin n) (is_at
      (slice_cmp nat_cmp hash)) w.contracts p.contracts)

  set_within : (w : World) (hash : List ℕ) (c : Contract) → WorldWithin n w → ContractWithin n c → WorldWithin n (with_contract w hash c)
  set_within w hash c p h = record {
    chain = p.chain;
    contracts = All-values-insert_entry (slice_cmp nat_cmp) hash c (ContractWithin n) w.contracts p.contracts h;
  }

  balance_within : (w : World) (place : List ℕ) (mutez : ℕ) → WorldWithin n w → WorldWithin n (with_balance w place mutez)
  balance_within w place mutez p = by (is_implicit place) (contract_at w (hash_in place)) refl
    where
      by : (b : Bool) (o : Option Contract) → contract_at w (hash_in place) ≡ o →
          WorldWithin n (if b then with_account_balance w (key_hash_in place) mutez else with_contract_balance w (hash_in place) mutez o)
      by true o e = record { chain = p.chain; contracts = p.contracts }
      by false (Some c) e = set_within w (hash_in place) (record c { balance = mutez }) p (one_within w (hash_in place) c p e)
      by false None e = p

  less_within : (w : World) (place : List ℕ) (mutez : ℕ) → WorldWithin n w → WorldWithin n (with_less w place mutez)
  less_within w place mutez p = balance_within w place (balance_or_none w place - mutez) p

  pub moved_within : (w : World) (from to : List ℕ) (mutez : ℕ) → WorldWithin n w → WorldWithin n (moved w from to mutez)
  moved_within w from to mutez p =
      balance_within (with_less w from mutez) to (balance_or_none (with_less w from mutez) to + mutez) (less_within w from mutez p)

  pub fee_within : (w : World) (from : List ℕ) (fee : ℕ) → WorldWithin n w → WorldWithin n (fee_taken w from fee)
  fee_within w from fee p = let less = less_within w from fee p in record { chain = less.chain; contracts = less.contracts }

  burnt_within : (w : World) (from : List ℕ) (mutez : ℕ) → WorldWithin n w → WorldWithin n (burnt_from w from mutez)
  burnt_within w from mutez p = let less = less_within w from mutez p in record { chain = less.chain; contracts = less.contracts }

  paid_within : (w : World) (hash : List ℕ) (bytes : ℕ) → WorldWithin n w → WorldWithin n (paid_for w hash bytes)
  paid_within w hash bytes p = by (contract_at w hash) refl
    where
      by : (o : Option Contract) → contract_at w hash ≡ o → WorldWithin n (with_paid w hash bytes o)
      by (Some c) e = set_within w hash (record c { paid = c.paid + bytes }) p (one_within w hash c p e)
      by None e = p

  account_within : (w : World) (who : List ℕ) (a : Account) → WorldWithin n w → WorldWithin n (with_account w who a)
  account_within w who a p = record { chain = p.chain; contracts = p.contracts }

  pub credited_within : (w : World) (who : List ℕ) (t : Held) → WorldWithin n w → WorldWithin n (credited w who t)
  credited_within w who t p = account_within w who _ p

  pub debited_within : (w : World) (who : List ℕ) (t : Held) → WorldWithin n w → WorldWithin n (debited w who t)
  debited_within w who t p = account_within w who _ p

pub all_contracts : (P Q : Contract → Type 0) → ((c : Contract) → P c → Q c) → (cs : List Contract) → All P cs → All Q cs
all_contracts P Q f [] h = All-nil Q
all_contracts P Q f (c ∷ cs) h = All-cons Q c cs (f c (All-head P c cs h)) (all_contracts P Q f cs (All-tail P c cs h))

pub more_world : (n l : ℕ) (w : World) → n ≤ l → WorldWithin n w → WorldWithin l w
more_world n l w le p = record {
  chain = p.chain;
  contracts = all_contracts (ContractWithin n) (ContractWithin l) (λ c h. more_contract n l c le h) (values_of w.contracts) p.contracts;
}

-- ---- what waits

abbrev pub ActionWithin : ℕ → Action → Type 0
ActionWithin n (Originate balance script storage) = (size script ≤ n) × (size storage ≤ n)
ActionWithin n (Call amount destination entrypoint argument) = size argument ≤ n
ActionWithin n (Give issuer kind content amount destination entrypoint) = (length issuer ≤ n) × (size content ≤ n)

abbrev pub WaitingWithin : ℕ → Waiting → Type 0
WaitingWithin n (ordered action) = ActionWithin n action
WaitingWithin n (issued sender o) = (length sender ≤ n) × OperationWithin n o

more_action : (n l : ℕ) (a : Action) → n ≤ l → ActionWithin n a → ActionWithin l a
more_action n l (Originate balance script storage) le h = (rises (size script) n l h.0 le, rises (size storage) n l h.1 le)
more_action n l (Call amount destination entrypoint argument) le h = rises (size argument) n l h le
more_action n l (Give issuer kind content amount destination entrypoint) le h = (
  rises (length issuer) n l h.0 le,
  rises
      (size content) n l h.1 le,
)

more_waiting_one : (n l : ℕ) (x : Waiting) → n ≤ l → WaitingWithin n x → WaitingWithin l x
more_waiting_one n l (ordered action) le h = more_action n l action le h
more_waiting_one n l (issued sender o) le h = (rises (length sender) n l h.0 le, more_operation n l o le h.1)

pub more_waiting : (n l : ℕ) (xs : List Waiting) → n ≤ l → AllByRecursion (WaitingWithin n) xs → AllByRecursion (WaitingWithin l) xs
more_waiting n l [] le h = tt
more_waiting n l (x ∷ xs) le h = (more_waiting_one n l x le h.0, more_waiting n l xs le h.1)

-- ---- literals

abbrev pub FoundWithin : ℕ → Found Val → Type 0
FoundWithin n (found x) = ListsWithin n x
FoundWithin n (fault l) = Unit {0}

pub literal_within : (n : ℕ) (w : World) (a : Kind) (t : Tree) → byte_limit ≤ n → size t ≤ n → FoundWithin n (literal_in w a t)
literal_within n w a t big few = by (read a 0 t) refl
  where
    claimed : (o : Option ℕ) (x : Val) → ListsWithin n x → FoundWithin n (unless_false o x)
    claimed (Some l) x h = tt
    claimed None x h = h

    tried : (o : Option ℕ) (x : Val) (ps : List Pending) → ListsWithin n x → FoundWithin n (with_claims w (checked x ps o))
    tried (Some l) x ps h = tt
    tried None x ps h = claimed (false_claim w (claims ps)) x h

    by : (l : Literal Val) → read a 0 t ≡ l → FoundWithin n (with_claims w (of_reading l))
    by (good x ps) e = tried (fault_of_bodies ps) x ps (literals_are_counted n a 0 t x ps few big e)
    by (bad l) e = tt

abbrev pub ArgumentWithin : ℕ → Argument → Type 0
ArgumentWithin n (node t) = size t ≤ n
ArgumentWithin n (value x) = ListsWithin n x

pub argument_within : (n : ℕ) (w : World) (a : Kind) (x : Argument) → byte_limit ≤ n → ArgumentWithin n x →
    FoundWithin n (argument_in w a x)
argument_within n w a (node t) big h = literal_within n w a t big h
argument_within n w a (value x) big h = h

wrapped_within : (n : ℕ) (path : List Bool) (x : Val) → ListsWithin n x → ListsWithin n (wrapped path x)
wrapped_within n [] x h = h
wrapped_within n (false ∷ path) x h = wrapped_within n path x h
wrapped_within n (true ∷ path) x h = wrapped_within n path x h

-- ---- the end of a run

abbrev ReturnedIf : ℕ → Option Returned → Type 0
ReturnedIf n None = Unit {0}
ReturnedIf n (Some r) = ListsWithin n r.storage

returned_within : (n : ℕ) (V : List Val) → StackWithin n V → ReturnedIf n (returned V)
returned_within n (v.both (v.list xs) storage ∷ []) h = by (numbers_in xs)
  where
    by : (o : Option (List ℕ)) → ReturnedIf n (option_map (λ ns. record { numbers = ns; storage = storage }) o)
    by (Some ns) = h.0.1
    by None = tt
returned_within n _ h = tt

abbrev IssuedIf : ℕ → Option Issued → Type 0
IssuedIf n None = Unit {0}
IssuedIf n (Some i) = OperationWithin n i.operation

abbrev AllIssuedIf : ℕ → Option (List Issued) → Type 0
AllIssuedIf n None = Unit {0}
AllIssuedIf n (Some is) = IssuedWithin n is

found_issued : (n : ℕ) (test : Issued → Bool) (is : List Issued) → IssuedWithin n is → IssuedIf n (find test is)
found_issued n test [] h = tt
found_issued n test (i ∷ is) h = by (test i) (found_issued n test is h.1)
  where
    by : (b : Bool) → IssuedIf n (find test is) → IssuedIf n (cond b (Some i) (find test is))
    by true r = h.0
    by false r = r

both_issued : (n : ℕ) (o : Option Issued) (os : Option (List Issued)) → IssuedIf n o → AllIssuedIf n os → AllIssuedIf n (with_issued o os)
both_issued n (Some i) (Some is) h g = (h, g)
both_issued n None os h g = tt
both_issued n (Some i) None h g = tt

picked : (n : ℕ) (is : List Issued) (ns : List ℕ) → IssuedWithin n is → AllIssuedIf n (issued_with is ns)
picked n is [] h = tt
picked n is (m ∷ ns) h =
    both_issued n (find (λ i. i.number == m) is) (issued_with is ns) (found_issued n (λ i. i.number == m) is h) (picked n is ns h)

waiting_within : (n : ℕ) (sender : List ℕ) (is : List Issued) → length sender ≤ n → IssuedWithin n is →
    AllByRecursion (WaitingWithin n) (waiting_of sender is)
waiting_within n sender [] h g = tt
waiting_within n sender (i ∷ is) h g = ((h, g.0), waiting_within n sender is h g.1)

small_place : (hash : List ℕ) (n : ℕ) → length hash ≤ 20 → byte_limit ≤ n → length (contract_place hash) ≤ n
small_place hash n h big = rises (length (contract_place hash)) byte_limit n (place_length hash h) big

module _ (most : ℕ) where
  -- with no more gas than this
  abbrev pub Leaves : ℕ → Outcome → Type 0
  Leaves g (applied a) = (a.gas ≤ g) × WorldWithin (most - a.gas) a.world × AllByRecursion (WaitingWithin (most - a.gas)) a.emitted
  Leaves g (failed failure) = Unit {0}
  Leaves g stuck = Unit {0}

  abbrev EndsIn : ℕ → Ended → Type 0
  EndsIn g (finished f) = (f.gas ≤ g) × WorldWithin (most - f.gas) f.world × IssuedWithin (most - f.gas) f.returned
  EndsIn g (run_failed failure) = Unit {0}
  EndsIn g run_stuck = Unit {0}

  weaker : (g h : ℕ) (o : Outcome) → g ≤ h → Leaves g o → Leaves h o
  weaker g h (applied a) le x = (rises a.gas g h x.0 le, x.1, x.2)
  weaker g h (failed failure) le x = tt
  weaker g h stuck le x = tt

  pub leaves_charged : (prices : Listed) (kind : Priced) (g : ℕ) (next : ℕ → Outcome) → ((left : ℕ) → left ≤ g →
      Leaves left (next left)) → Leaves g (charged prices kind g next)
  leaves_charged prices kind g next h = by (nat_lt g (cost prices kind 0))
    where
      less : g - cost prices kind 0 ≤ g
      less = omega arith

      by : (b : Bool) → Leaves g (charged_by b (g - cost prices kind 0) next)
      by true = tt
      by false = weaker (g - cost prices kind 0) g (next (g - cost prices kind 0)) less (h (g - cost prices kind 0) less)

  leaves_growing : (s : Setting) (hash : List ℕ) (g : ℕ) (o : Outcome) → Leaves g o → Leaves g (growing s hash o)
  leaves_growing s hash g (applied a) h = by (burn_of a.world hash)
    where
      short : (q : Bool) (b : Burn) → Leaves g (unless_short q (implicit_place s.source) hash b a)
      short true b = tt
      short false b = (
        h.0,
        paid_within (most - a.gas) (burnt_from a.world (implicit_place s.source) b.mutez) hash b.bytes
            (burnt_within (most - a.gas) a.world (implicit_place s.source) b.mutez h.1),
        h.2,
      )

      by : (o : Option Burn) → Leaves g (burning o (implicit_place s.source) hash a)
      by (Some b) = short (nat_lt (balance_or_none a.world (implicit_place s.source)) b.mutez) b
      by None = h
  leaves_growing s hash g (failed failure) h = tt
  leaves_growing s hash g stuck h = tt

  -- ---- a run

  module _ (w : World) (hash : List ℕ) (c : Contract) (g : ℕ) (p : WorldWithin (most - g) w) (within : ContractWithin (most - g) c) where
    finished_ends : (storage : Val) (changes : List Change) (m : Tally) (o : Option (List Issued)) → m.gas ≤ g →
        ListsWithin (most - m.gas) storage →
        AllIssuedIf (most - m.gas) o → EndsIn g (finished_with w hash c storage changes m o)
    finished_ends storage changes m (Some is) le h i =
        let room = less_room most m.gas g le in
        let set = set_within (most - m.gas) w hash (record c { storage = storage }) (more_world (most - g) (most - m.gas) w room p)
        (rises (size c.script) (most - g) (most - m.gas) within.0 room, h) in
        (le, record { chain = set.chain; contracts = set.contracts }, i)
    finished_ends storage changes m None le h i = tt

    once_ends : (b : Bool) (m : Tally) (x : Returned) → m.gas ≤ g → ListsWithin (most - m.gas) x.storage →
        IssuedWithin (most - m.gas) m.issued →
        EndsIn g (unless_twice b w hash c m x)
    once_ends true m x le h i = tt
    once_ends false m x le h i = finished_ends x.storage _ m (issued_with m.issued x.numbers) le h (picked
        (most - m.gas) m.issued x.numbers i)

    returned_ends : (m : Tally) (o : Option Returned) → m.gas ≤ g → ReturnedIf (most - m.gas) o → IssuedWithin (most - m.gas) m.issued →
        EndsIn g (with_returned w hash c m o)
    returned_ends m (Some x) le h i = once_ends (has_twice x.numbers) m x le h i
    returned_ends m None le h i = tt

    code_ends : (o : code.Outcome) → Ends most g o → EndsIn g (behind_code w hash c o)
    code_ends (code.stack A V m) h = returned_ends m (returned V) h.0 (returned_within (most - m.gas) V h.1) h.2
    code_ends (code.failed failure) h = tt
    code_ends code.stuck h = tt

  effect_leaves : (hash : List ℕ) (effect : List Change → Effect) (g : ℕ) (o : Ended) → length hash ≤ 20 → byte_limit + g ≤ most →
      EndsIn g o → Leaves g (with_effect hash effect o)
  effect_leaves hash effect g (finished f) short room h = (
    h.0,
    h.1,
    waiting_within (most - f.gas) (contract_place hash) f.returned (small_place hash (most - f.gas) short
        (left_room f.gas g byte_limit h.0 room)) h.2,
  )
    where
      left_room : (a g b : ℕ) → a ≤ g → b + g ≤ most → b ≤ most - a
      left_room a g b le f = omega (arith, le, f)
  effect_leaves hash effect g (run_failed failure) short room h = tt
  effect_leaves hash effect g run_stuck short room h = tt

  module _ (s : Setting) (prices : IsCharged s.prices) (key : length s.source ≤ 21) (w : World) (g : ℕ) (room : byte_limit + g ≤ most)
      (p : WorldWithin (most - g) w) where
    big : byte_limit ≤ most - g
    big = roomy most byte_limit g room

    source_few : (a n : ℕ) → a ≤ 21 → byte_limit ≤ n → a < n
    source_few a n h f = omega (arith, h, f)

    chain_few : (a n : ℕ) → a ≤ 4 → byte_limit ≤ n → a ≤ n
    chain_few a n h f = omega (arith, h, f)

    pub leaves_run : (c : Called) (counts : Counts) (effect : List Change → Effect) → length c.sender ≤ most - g →
        length c.target.hash ≤ 20 →
        ListsWithin (most - g) c.argument → size c.target.script.code ≤ most - g →
        Leaves g (run s w c g counts effect)
    leaves_run c counts effect sent short argument small =
        leaves_growing s c.target.hash g _ (effect_leaves c.target.hash effect g (run_in e s w c.target c.argument g counts) short room
        (by (contract_at w c.target.hash) refl))
      where
        e : Environment
        e = environment_of s w c

        by : (o : Option Contract) → contract_at w c.target.hash ≡ o → EndsIn g (run_of o e s w c.target c.argument g counts)
        by (Some x) there =
            let within = one_within (most - g) w c.target.hash x p there in
            let m : Tally = tally_of g counts in
            let around : Surroundings = surroundings_of e s w c.target in
            code_ends w c.target.hash x g p within (outcome_of e s w c.target c.argument x m)
            (ends_ending most g (eval c.target.script.code around 0 (type_before c.target.script ∷ [])
            (value_before c.target c.argument x ∷ []) m)
            (type_after c.target.script ∷ []) code.stack
            (runs_are_counted most c.target.script.code around 0 (type_before c.target.script ∷ [])
            (value_before c.target c.argument x ∷ []) m (record {
              charged = prices;
              room = room;
              environment = record {
                chain = chain_few (length w.chain) (most - g) p.chain big;
                source = source_few (length s.source) (most - g) key big;
                sender = sent;
                own = short;
              };
              contracts = λ hash d at. one_within (most - g) w hash d p at;
              values = ((wrapped_within (most - g) c.target.entry.path c.argument argument, within.1), tt);
              issued = tt;
            }) small)
            (λ B V i le h is. (same_gas i.gas, h, is)))
        by None there = tt

    pub leaves_founding : (f : Founding) (counts : Counts) → size f.script ≤ most - g → ListsWithin (most - g) f.storage →
        Leaves g (found_contract s w f g counts)
    leaves_founding f counts few h = leaves_growing s f.hash g _ (by (nat_lt (balance_or_none w f.sender) f.balance))
      where
        by : (b : Bool) → Leaves g (founding_outcome b w f g counts)
        by true = tt
        by false = (
          same_gas g,
          set_within (most - g) (with_less w f.sender f.balance) f.hash
              (record { balance = f.balance; paid = 0; script = f.script; storage = f.storage })
              (less_within (most - g) w f.sender f.balance p) (few, h),
          tt,
        )
