-- What holds of a world while an operation that waited is applied.
use Rattle.std.proofs.Common.{◌≡◌, ◌≤◌, ◌+◌, ℕ, List, ◌∷◌, Bool, true, false, Some, None, refl, ℤ, pos, ◌+ℤ◌, ◌-ℤ◌, arith}
use Rattle.std.specs.declared.option.Option.{Option}
use Rattle.std.specs.List.{All}
use Rattle.std.proofs.lemmas.Int.{ints}
use Rattle.std.proofs.lemmas.List.Elements.{All-tail}
use Rattle.rules_text.specs.nodes.Limits.{operation_limit}
use Rattle.rules_data.specs.values.Val.{Val}
use Rattle.rules_data.specs.values.Tickets.{Identity, tickets}
use Rattle.rules_code.specs.steps.Changes.{amount_in}
use Rattle.rules_code.specs.evaluation.Surroundings.{Contract}
use Rattle.rules_code.specs.evaluation.Contracts.{hash_in}
use Rattle.rules_code.specs.evaluation.Operations.{transfer}
use Rattle.rules_data.specs.forms.Spelling.{is_implicit}
use Rattle.rules_world.specs.world.World.{World, contract_at}
use Rattle.rules_world.specs.world.Contents.{Action}
use Rattle.rules_world.specs.world.Balances.{supply, balance_or_none}
use Rattle.rules_world.specs.world.Holdings.{held, minted_ever, burnt_ever}
use Rattle.rules_world.specs.world.Outcomes.{Waiting, ordered, issued, Counts}
use Rattle.rules_world.specs.world.Good.{IsSound, IsGoodWaiting, amount_waiting}
use Rattle.laws_world.specs.operations.Fresh.{made_by_waiting, IsFresh}
use Rattle.laws_world.specs.runs.Going.{orders, IsGoing, IsKept}
use Rattle.laws_world.proofs.accounts.ForCallers.{Extends, all_waiting_more, InOrder, set_balance, nobody}
use Rattle.laws_world.proofs.runs.ForCallers.{IsOrderly, sound_again, minted_again, kept_then, kept_moved}
use Rattle.laws_world.proofs.operations.ForCallers.{fresh_step}

-- an operation that hands over so much of each identity is applied, before others that wait
pub record IsTaken (start : World) (group contents : ℕ) (w : World) (over : Identity → ℤ) (waiting : List Waiting)
    (counts : Counts) : Type 0 where
  pub sound : IsSound w
  pub waits : All (IsGoodWaiting w) waiting
  pub tickets : (id : Identity) → held w id +ℤ (over id +ℤ amount_waiting id waiting) ≡ minted_ever w id -ℤ burnt_ever w id
  pub operations : counts.operations ≤ operation_limit
  pub originations : counts.originations + orders waiting ≤ counts.operations + contents
  pub fresh : IsFresh group counts.originations w (made_by_waiting waiting)
  pub kept : IsKept group start w

none_over : (h a b : ℤ) → h +ℤ a ≡ b → h +ℤ (pos 0 +ℤ a) ≡ b
none_over h a b e = omega (arith, ints, e)

module _ (start : World) (group contents : ℕ) (w : World) (waiting : List Waiting) (counts : Counts) where
  -- an operation has handed over all
  pub taken_going : IsGoing start group contents w waiting counts → IsTaken start group contents w (λ id. pos 0) waiting counts
  taken_going g = record {
    sound = g.good.sound;
    waits = g.good.waits;
    tickets = λ id. none_over (held w id) (amount_waiting id waiting) _ (g.good.tickets id);
    operations = g.operations;
    originations = g.originations;
    fresh = g.fresh;
    kept = g.kept;
  }

  pub taken_order : (action : Action) → IsGoing start group contents w (ordered action ∷ waiting) counts →
      IsTaken start group contents w (λ id. pos 0) waiting counts
  taken_order action g = record {
    sound = g.good.sound;
    waits = All-tail (IsGoodWaiting w) (ordered action) waiting g.good.waits;
    tickets = λ id. none_over (held w id) (amount_waiting id waiting) _ (g.good.tickets id);
    operations = g.operations;
    originations = let b = g.originations in omega arith;
    fresh = g.fresh;
    kept = g.kept;
  }

  pub taken_transfer : (sender : List ℕ) (argument : Val) (amount : ℕ) (destination : List ℕ) →
      IsGoing start group contents w (issued sender (transfer argument amount destination) ∷ waiting) counts →
      IsTaken start group contents w (λ id. amount_in id argument) waiting counts
  taken_transfer sender argument amount destination g = record {
    sound = g.good.sound;
    waits = All-tail (IsGoodWaiting w) (issued sender (transfer argument amount destination)) waiting g.good.waits;
    tickets = g.good.tickets;
    operations = g.operations;
    originations = g.originations;
    fresh = g.fresh;
    kept = g.kept;
  }

  over_held : (x h o a b : ℤ) → x ≡ h +ℤ o → h +ℤ (o +ℤ a) ≡ b → x +ℤ a ≡ b
  over_held x h o a b e f = omega (arith, ints, e, f)

  -- what was handed over is held then, and nothing is emitted
  pub taken_held : (over : Identity → ℤ) (x : World) → IsTaken start group contents w over waiting counts → IsOrderly x →
      Extends (contract_at w) (contract_at x) →
      ((q : List ℕ) → contract_at w q ≡ None → contract_at x q ≡ None) → x.log ≡ w.log → x.granted ≡ w.granted →
      supply x ≡ supply w → ((id : Identity) → held x id ≡ held w id +ℤ over id) →
      IsGoing start group contents x waiting counts
  taken_held over x t o more none log granted mutez tickets = record {
    good = record {
      sound = sound_again w x t.sound o (minted_again w x t.sound log) mutez;
      waits = all_waiting_more w x more waiting t.waits;
      tickets = λ id. rw log (over_held (held x id) (held w id) (over id) (amount_waiting id waiting) _ (tickets id)
          (t.tickets id));
    };
    operations = t.operations;
    originations = t.originations;
    fresh = fresh_step group w x counts.originations (made_by_waiting waiting) none t.fresh;
    kept = kept_then group start w x t.kept (kept_moved group w x mutez granted none);
  }

  over_on : (h x o p a b : ℤ) → x +ℤ p ≡ h +ℤ o → h +ℤ (o +ℤ a) ≡ b → x +ℤ (p +ℤ a) ≡ b
  over_on h x o p a b e f = omega (arith, ints, e, f)

  -- the world moves on while the operation is applied
  pub taken_on : (over next : Identity → ℤ) (x : World) → IsTaken start group contents w over waiting counts → IsOrderly x →
      Extends (contract_at w) (contract_at x) →
      ((q : List ℕ) → contract_at w q ≡ None → contract_at x q ≡ None) → x.log ≡ w.log → x.granted ≡ w.granted →
      supply x ≡ supply w → ((id : Identity) → held x id +ℤ next id ≡ held w id +ℤ over id) →
      IsTaken start group contents x next waiting counts
  taken_on over next x t o more none log granted mutez tickets = record {
    sound = sound_again w x t.sound o (minted_again w x t.sound log) mutez;
    waits = all_waiting_more w x more waiting t.waits;
    tickets = λ id. rw log (over_on (held w id) (held x id) (over id) (next id) (amount_waiting id waiting) _ (tickets id)
        (t.tickets id));
    operations = t.operations;
    originations = t.originations;
    fresh = fresh_step group w x counts.originations (made_by_waiting waiting) none t.fresh;
    kept = kept_then group start w x t.kept (kept_moved group w x mutez granted none);
  }

-- nobody has more than there is
pub balance_within : (w : World) (place : List ℕ) → InOrder w → balance_or_none w place ≤ supply w
balance_within w place order = by (is_implicit place) (contract_at w (hash_in place)) refl refl
  where
    by : (b : Bool) (o : Option Contract) → is_implicit place ≡ b → contract_at w (hash_in place) ≡ o →
        balance_or_none w place ≤ supply w
    by true o is at = let set = set_balance w place 0 true is order tt in omega (arith, set)
    by false (Some c) is at = let set = set_balance w place 0 false is order (c, at) in omega (arith, set)
    by false None is at = let n = (nobody w place 0 is at).1 in omega (arith, n)
