-- Transfers to contracts, and what is left by the run of a contract.
use Rattle.std.proofs.Common.{◌≡◌, ◌≤◌, ◌+◌, ◌-◌, ◌^◌, ℕ, List, [], ◌∷◌, ◌++◌, length, get_or, Bool, true, false, Some, refl, sym, ap, ◌∙◌, subst, ℤ, pos, ◌+ℤ◌, ◌-ℤ◌, ◌≤ℤ◌, arith, length-append}
use Rattle.std.specs.Prelude.{nat_le}
use Rattle.std.proofs.lemmas.Bool.{leb-true}
use Rattle.std.proofs.lemmas.Int.{ints}
use Rattle.std.proofs.lemmas.List.Elements.{All-weaker}
use Rattle.rules_text.specs.nodes.Limits.{most_mutez}
use Rattle.rules_data.specs.forms.Spelling.{contract_place, is_implicit, is_place}
use Rattle.rules_data.specs.values.Val.{Val}
use Rattle.rules_data.specs.values.Tickets.{Identity}
use Rattle.rules_code.specs.typing.Nodes.{script}
use Rattle.rules_code.specs.instructions.Arguments.{Found, found, fault}
use Rattle.rules_code.specs.steps.Changes.{Change, amount_in, minted_in, burnt_in}
use Rattle.rules_code.specs.evaluation.Surroundings.{Contract}
use Rattle.rules_code.specs.evaluation.Contracts.{hash_in}
use Rattle.rules_world.specs.world.World.{World, contract_at, with_contract}
use Rattle.rules_world.specs.world.Balances.{supply, balance_or_none, moved}
use Rattle.rules_world.specs.world.Holdings.{held, minted_ever, burnt_ever}
use Rattle.rules_world.specs.world.Receipts.{Effect}
use Rattle.rules_world.specs.world.Outcomes.{Setting, Waiting, Counts}
use Rattle.rules_world.specs.world.Targets.{Target, Search, met, missing, unreadable, search, on_met}
use Rattle.rules_world.specs.world.Arguments.{argument_in}
use Rattle.rules_world.specs.world.Runs.{Call, environment_of, Finished, Ended, finished, run_failed, run_stuck, kept, run_in, waiting_of, with_effect, run}
use Rattle.rules_world.specs.world.RunLaws.{IsCall, amount_returned}
use Rattle.rules_world.specs.world.Transfers.{Transaction, transfer_effect, called, if_covered, with_argument, to_contract}
use Rattle.rules_world.specs.world.Good.{FitsIn, Stores, IsGoodOperation, amount_waiting}
use Rattle.laws_world.specs.operations.Fresh.{made_by_issued, made_by_waiting}
use Rattle.laws_world.specs.runs.Going.{IsSetting, IsGoing, KeepsGoing}
use Rattle.laws_world.specs.runs.RunEnds.{IsFinished, EndsWell}
use Rattle.laws_world.proofs.runs.ForCallers.{runs_end_well, in_order, moved_moves, moved_supply, IsMet, met_again, met_more, Searched, searched, waiting_positive, emitted_amount, emitted_good, emitted_orders, IsOrderly, contract_stores, contract_length, extends_replaced, none_replaced, orderly_contract, orderly_log, held_contract, orderly_of, sound_again, kept_then, kept_moved}
use Rattle.laws_world.proofs.accounts.ForCallers.{minted_append, burnt_append, one_in, Extends, fits_in_more, operation_more, all_waiting_more, IsOwner, contract_supply}
use Rattle.laws_world.proofs.operations.ForCallers.{fresh_emitted, made_emitted}
use Rattle.laws_world.proofs.groups_lemmas.Taken.{IsTaken, taken_on, balance_within}
use Rattle.laws_world.proofs.groups_lemmas.Growth.{growing_keeps}

-- ---- places of contracts

last_is : (h : List ℕ) (x : ℕ) → get_or (h ++ x ∷ []) (length h) 0 ≡ x
last_is [] x = refl
last_is (y ∷ h) x = last_is h x

place_of_twenty : (n : ℕ) (h : List ℕ) → length h ≡ n → get_or (h ++ 0 ∷ []) n 0 ≡ 0
place_of_twenty n h e = ap (λ n. get_or (h ++ 0 ∷ []) n 0) (sym e) ∙ last_is h 0

pub contract_is : (hash : List ℕ) → length hash ≡ 20 → is_place (contract_place hash) ≡ true
contract_is hash twenty =
    let long : length (hash ++ 0 ∷ []) ≡ 21 = length-append hash (0 ∷ []) ∙ ap (λ n. n + 1) twenty in
    let last = place_of_twenty 20 hash twenty in
    rw (long, last) refl

-- ---- what a run leaves

module _ (start : World) (s : Setting) (contents : ℕ) (few : contents ≤ 1000) (w : World) (t : Target) (argument : Val)
    (waiting : List Waiting) (counts : Counts) (taken : IsTaken start s.group contents w
    (λ id. amount_in id argument) waiting counts)
    (is_met : IsMet w t) (f : Finished) (is : IsFinished s w t argument counts f) where
  o : IsOrderly w
  o = orderly_of w taken.sound

  abbrev d : Contract
  d = record is.before { storage = is.storage }

  abbrev x : World
  x = with_contract w t.hash d

  more : Extends (contract_at w) (contract_at x)
  more = extends_replaced w t.hash d is.before is.there refl

  stores : Stores w d.script d.storage
  stores =
      let one : Some is_met.contract ≡ Some is.before = sym is_met.there ∙ is.there in
      let same : is_met.contract ≡ is.before = cc in (
        t.script,
        ap (λ (c : Contract). script c.script) (sym same)
            ∙ is_met.read,
        (contract_stores w o t.hash is.before is.there).2,
        is.fits,
      )

  orderly : IsOrderly (kept w t.hash is.before is.storage f.changes)
  orderly = orderly_log x f.changes (orderly_contract w t.hash d o (contract_length w o t.hash is.before is.there) more stores)
      is.changes

  run_sum : (hx hw st old arg m r b rest M B : ℤ) → hx +ℤ old ≡ hw +ℤ st → hw +ℤ (arg +ℤ rest) ≡ M -ℤ B →
      arg +ℤ old +ℤ m ≡ st +ℤ r +ℤ b → hx +ℤ (r +ℤ rest) ≡ M +ℤ m -ℤ (B +ℤ b)
  run_sum hx hw st old arg m r b rest M B e g h = omega (arith, ints, e, g, h)

  held_after : (id : Identity) → held x id +ℤ amount_in id is.before.storage ≡ held w id +ℤ amount_in id is.storage
  held_after id = ap (λ o. held x id +ℤ one_in (λ (c : Contract). amount_in id c.storage) o) (sym is.there)
      ∙ held_contract w t.hash d id o

  pub finished_keeps : IsGoing start s.group contents f.world (waiting_of (contract_place t.hash) f.returned ++ waiting) f.counts
  finished_keeps = subst (λ y. IsGoing start s.group contents y
      (waiting_of (contract_place t.hash) f.returned ++ waiting) f.counts) (sym is.world) (
      record {
        good = record {
          sound = sound_again w (kept w t.hash is.before is.storage f.changes) taken.sound orderly
              (λ id. subst (λ z. z ≤ℤ pos (2 ^ 127 - 1)) (sym (minted_append id w.log f.changes)) (is.minted id)) mutez;
          waits = emitted_good (kept w t.hash is.before is.storage f.changes) (contract_place t.hash) f.returned waiting
              (contract_is t.hash (contract_length w o t.hash is.before is.there))
              (All-weaker (λ i. IsGoodOperation w i.operation)
              (λ i. IsGoodOperation (kept w t.hash is.before is.storage f.changes) i.operation)
              (λ i h. operation_more w (kept w t.hash is.before is.storage f.changes) more i.operation h) f.returned
              is.returned)
              (all_waiting_more w (kept w t.hash is.before is.storage f.changes) more waiting taken.waits);
          tickets = λ id. rw (
            minted_append id w.log f.changes,
            burnt_append id w.log f.changes,
            emitted_amount id
                (contract_place t.hash) f.returned waiting,
          )
              (run_sum (held x id) (held w id) (amount_in id is.storage) (amount_in id is.before.storage)
              (amount_in id argument) (minted_in id f.changes) (amount_returned id f.returned) (burnt_in id f.changes)
              (amount_waiting id waiting) (minted_ever w id) (burnt_ever w id) (held_after id) (taken.tickets id)
              (is.tickets id));
        };
        operations = is.operations;
        originations = rw (emitted_orders (contract_place t.hash) f.returned waiting)
            (let a = taken.originations in let b = is.originations in omega arith);
        fresh = rw (made_emitted (contract_place t.hash) f.returned waiting)
            (fresh_emitted s.group w (kept w t.hash is.before is.storage f.changes) counts.originations f.counts.originations
            (made_by_issued f.returned) (made_by_waiting waiting) is.grows
            (let a = taken.originations in let b = is.originations in let c = is.operations in omega arith)
            (none_replaced w t.hash d is.before is.there) is.new taken.fresh);
        kept = kept_then s.group start w (kept w t.hash is.before is.storage f.changes) taken.kept
            (kept_moved s.group w (kept w t.hash is.before is.storage f.changes) mutez refl
            (none_replaced w t.hash d is.before is.there));
      }
      )
    where
      mutez : supply (kept w t.hash is.before is.storage f.changes) ≡ supply w
      mutez = let set = contract_supply w t.hash d is.before (in_order w o) is.there in omega (arith, set)

-- ---- a run

module _ (start : World) (s : Setting) (setting : IsSetting s) (contents : ℕ) (few : contents ≤ 1000) where
  -- the call of an entrypoint of a contract on an argument of its type, while the other operations wait
  pub run_called : (w : World) (c : Call) (waiting : List Waiting) (counts : Counts) →
      IsTaken start s.group contents w (λ id. amount_in id c.argument) waiting counts →
      IsMet w c.target → FitsIn w c.target.entry.kind c.argument → is_place c.sender ≡ true → c.amount ≤ most_mutez →
      IsCall (environment_of s w c) s w c.target c.argument counts
  run_called w c waiting counts taken is_met fits sender amount = record {
    costs = setting.costs;
    small = setting.small;
    environment = record {
      chain = taken.sound.form.chain;
      level = taken.sound.form.level;
      moment = taken.sound.form.moment;
      source = setting.source;
      sender = sender;
      amount = amount;
      balance = let within = balance_within w (contract_place c.target.hash) (in_order w (orderly_of w taken.sound)) in
          let most = taken.sound.mutez in omega (arith, within, most);
    };
    own = refl;
    found = met_again w c.target is_met;
    fits = fits;
    may = record {
      sound = taken.sound;
      tickets = λ id. handed (held w id) (amount_in id c.argument) (amount_waiting id waiting) _ (taken.tickets id)
          (waiting_positive id w waiting taken.waits);
    };
    operations = taken.operations;
    originations = let a = taken.originations in omega arith;
  }
    where
      handed : (h a r b : ℤ) → h +ℤ (a +ℤ r) ≡ b → pos 0 ≤ℤ r → (h +ℤ a) ≤ℤ b
      handed h a r b e p = omega (arith, ints, e, p)

  pub run_keeps : (w : World) (c : Call) (gas : ℕ) (waiting : List Waiting) (counts : Counts) (effect : List Change → Effect) →
      IsTaken start s.group contents w (λ id. amount_in id c.argument) waiting counts →
      IsMet w c.target → FitsIn w c.target.entry.kind c.argument → is_place c.sender ≡ true → c.amount ≤ most_mutez →
      KeepsGoing start s contents waiting (run s w c gas counts effect)
  run_keeps w c gas waiting counts effect taken is_met fits sender amount =
      growing_keeps start s contents c.target.hash waiting
      (with_effect c.target.hash effect (run_in (environment_of s w c) s w c.target c.argument gas counts))
      (by (run_in (environment_of s w c) s w c.target c.argument gas counts)
      (runs_end_well (environment_of s w c) s w c.target c.argument gas counts
      (run_called w c waiting counts taken is_met fits sender amount)))
    where
      by : (e : Ended) → EndsWell s w c.target c.argument counts e →
          KeepsGoing start s contents waiting (with_effect c.target.hash effect e)
      by (finished f) h = finished_keeps start s contents few w c.target c.argument waiting counts taken is_met f h
      by (run_failed failure) h = tt
      by run_stuck h = h

  -- ---- a transfer

  module _ (w : World) (t : Transaction) (waiting : List Waiting) (counts : Counts) (over : Identity → ℤ)
      (taken : IsTaken start s.group contents w over waiting counts) (implicit : is_implicit t.destination ≡ false)
      (sender : is_place t.sender ≡ true) (small : t.amount ≤ most_mutez) where
    module _ (target : Target) (x : Val) (m : IsMet w target) (hash : target.hash ≡ hash_in t.destination)
        (fits : FitsIn w target.entry.kind x) (e : (id : Identity) → over id ≡ amount_in id x)
        (enough : t.amount ≤ balance_or_none w t.sender) where
      -- the world with the mutez at the contract, and the call there
      abbrev y : World
      y = moved w t.sender t.destination t.amount

      abbrev c : Call
      c = record { target = target; sender = t.sender; amount = t.amount; argument = x }

      moves_taken : IsTaken start s.group contents y (λ id. amount_in id x) waiting counts
      moves_taken =
          let o = orderly_of w taken.sound in
          let moves = moved_moves w t.sender t.destination t.amount o in
          let owner : IsOwner w t.destination (is_implicit t.destination) = rw implicit
          (m.contract, ap (contract_at w) (sym hash) ∙ m.there) in
          let mutez = moved_supply w t.sender t.destination t.amount o enough owner in
          taken_on start s.group contents w waiting counts over
          (λ id. amount_in id x) y taken moves.orderly moves.more moves.none moves.log moves.granted mutez
          (λ id. ap (λ z. z +ℤ amount_in id x) (moves.held id) ∙ ap (λ z. held w id +ℤ z) (sym (e id)))

      abbrev contracts_stay : Extends (contract_at w) (contract_at y)
      contracts_stay = (moved_moves w t.sender t.destination t.amount (orderly_of w taken.sound)).more

      pub called_call : IsCall (environment_of s y c) s y target x counts
      called_call = run_called y c waiting counts moves_taken (met_more w y target contracts_stay m)
          (fits_in_more w y contracts_stay target.entry.kind x fits) sender small

      pub called_keeps : (gas : ℕ) → KeepsGoing start s contents waiting (called s w t target x gas counts)
      called_keeps gas = run_keeps y c gas waiting counts (transfer_effect t x) moves_taken (met_more w y target contracts_stay m)
          (fits_in_more w y contracts_stay target.entry.kind x fits) sender small

    abbrev pub IsArgument : Target → Found Val → Type 0
    IsArgument target (found x) = FitsIn w target.entry.kind x × ((id : Identity) → over id ≡ amount_in id x)
    IsArgument target (fault l) = Unit {0}

    argument_keeps : (target : Target) (gas : ℕ) (x : Found Val) → IsMet w target → target.hash ≡ hash_in t.destination →
        IsArgument target x → KeepsGoing start s contents waiting (with_argument x s w t target gas counts)
    argument_keeps target gas (found x) m hash h = by (nat_le t.amount (balance_or_none w t.sender)) refl
      where
        by : (b : Bool) → nat_le t.amount (balance_or_none w t.sender) ≡ b →
            KeepsGoing start s contents waiting (if_covered b s w t target x gas counts)
        by true e = called_keeps target x m hash h.0 h.1 (leb-true t.amount (balance_or_none w t.sender) e) gas
        by false e = tt
    argument_keeps target gas (fault l) m hash h = tt

    pub contract_keeps : (gas : ℕ) → ((target : Target) → IsMet w target → target.hash ≡ hash_in t.destination →
        target.entry.name ≡ t.entrypoint → IsArgument target (argument_in w target.entry.kind t.argument)) →
        KeepsGoing start s contents waiting (to_contract s w t gas counts)
    contract_keeps gas h = by (search w (hash_in t.destination) t.entrypoint)
        (searched w (orderly_of w taken.sound) (hash_in t.destination) t.entrypoint)
      where
        by : (q : Search) → Searched w (hash_in t.destination) t.entrypoint q →
            KeepsGoing start s contents waiting
            (on_met q (λ target. with_argument (argument_in w target.entry.kind t.argument) s w t target gas counts))
        by (met target) g = argument_keeps target gas (argument_in w target.entry.kind t.argument) g.0 g.1 (h target g.0 g.1 g.2)
        by (missing f) g = tt
        by unreadable g = g
