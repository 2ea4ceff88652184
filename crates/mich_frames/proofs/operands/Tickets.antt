-- The tickets on a stack of typed code that runs: their amounts are positive, and with what was burnt they are within what was minted.
use Rattle.std.proofs.Common.{◌≡◌, ◌^◌, ◌-◌, true, List, [], ◌∷◌, arith}
use Rattle.std.specs.Prelude.{ℤ, pos, ◌+ℤ◌, ◌≤ℤ◌, ◌<ℤ◌, int_le}
use Rattle.std.specs.List.{All, AllByRecursion, flat_map}
use Rattle.std.proofs.lemmas.Bool.{and_parts}
use Rattle.std.proofs.lemmas.Int.{ints}
use Rattle.std.proofs.lemmas.List.Elements.{All-head, All-tail}
use Rattle.rules_data.specs.types.Kind.{Kind}
use Rattle.rules_code.specs.instructions.Context.{Context}
use Rattle.rules_data.specs.values.Val.{Val}
use Rattle.rules_data.specs.values.Tickets.{Identity, Held, tickets}
use Rattle.rules_data.specs.values.Forms.{is_ticket_amount}
use Rattle.rules_code.specs.steps.Changes.{Change, amount_among}
use Rattle.rules_code.specs.evaluation.Contracts.{Lookup}
use Rattle.rules_code.specs.evaluation.Operations.{Operation, transfer, origination, event, Issued, operation_tickets}
use Rattle.rules_world.specs.world.Forms.{IsTicket}
use Rattle.laws_code.specs.evaluation.Laws.{known, amount_on, amount_issued}
use Rattle.laws_code.specs.stacks.Sound.{IsSoundIssue}
use Rattle.laws_code.proofs.stacks.ForCallers.{positive, stack_good}
use Rattle.laws_tickets.proofs.held.ForCallers.{on_same}
use Rattle.laws_tickets.specs.totals.Totals as ticket
use Rattle.mich_tickets.specs.Limits.{IsPositive}
use Rattle.mich_frames.specs.Around.{Around}
use Rattle.mich_frames.specs.Pending.{Pending}
use Rattle.mich_frames.specs.Fine.{stock, minted_by, burnt_by, IsFine}
use Rattle.mich_frames.proofs.ForCallers.{stock_positive}

-- ---- operations

pub operation_positive : (id : Identity) (l : Lookup) (op : Operation) → IsSoundIssue l op → pos 0 ≤ℤ amount_among id (operation_tickets op)
operation_positive id l (transfer argument amount destination) h = positive id (known l h.1) h.0 argument h.4
operation_positive id l (origination delegate amount t storage hash) h = positive id (known l h.1) h.0.storage storage h.4
operation_positive id l (event tag a x) h = positive id (known l h.0) a x h.2

pub issued_positive : (id : Identity) (l : Lookup) (is : List Issued) → All (λ i. IsSoundIssue l i.operation) is → pos 0 ≤ℤ amount_issued id is
issued_positive id l [] h = omega (arith, ints)
issued_positive id l (i ∷ is) h =
    let one = operation_positive id l i.operation (All-head (λ (i : Issued). IsSoundIssue l i.operation) i is h) in
    let others = issued_positive id l is (All-tail (λ (i : Issued). IsSoundIssue l i.operation) i is h) in
    omega (arith, ints, one, others)

-- ---- the stack

amount_positive : (n : ℤ) → is_ticket_amount n ≡ true → pos 0 <ℤ n
amount_positive n h = let low : int_le (pos 1) n ≡ true = (and_parts (int_le (pos 1) n) (int_le n (pos (2 ^ 127 - 1))) h).0 in grind (arith, ints)

pub all_positive : (ts : List Held) → All IsTicket ts → AllByRecursion IsPositive ts
all_positive [] h = tt
all_positive (t ∷ ts) h = (amount_positive t.amount (All-head IsTicket t ts h).1, all_positive ts (All-tail IsTicket t ts h))

held_within : (v s i b m v' : ℤ) → v' ≡ v → pos 0 ≤ℤ s → pos 0 ≤ℤ i → (v +ℤ s +ℤ i +ℤ b) ≤ℤ m → (b +ℤ v') ≤ℤ m
held_within v s i b m v' e h g l = omega (arith, ints, e, h, g, l)

all_within : (v s i b m v' : ℤ) → v' ≡ v → pos 0 ≤ℤ s → (v +ℤ s +ℤ i +ℤ b) ≤ℤ m → (b +ℤ i +ℤ v') ≤ℤ m
all_within v s i b m v' e h l = omega (arith, ints, e, h, l)

module _ {u : Around} {c : Context} {ps : List Pending} {A : List Kind} {V : List Val} {is : List Issued} {cs : List Change} (h : IsFine u c ps A V is cs) where
  pub tickets_positive : AllByRecursion IsPositive (flat_map tickets V)
  tickets_positive = all_positive (flat_map tickets V) (stack_good (known u.contract_at is) A V h.fits)

  -- the same with those that issued operations have
  pub tickets_handed : (id : Identity) → (burnt_by u cs id +ℤ amount_issued id is +ℤ amount_among id (flat_map tickets V)) ≤ℤ minted_by u cs id
  tickets_handed id =
      all_within (amount_on id V) (stock id ps) (amount_issued id is) (burnt_by u cs id) (minted_by u cs id) (ticket.amount_on id V) (on_same id V)
      (stock_positive id (known u.contract_at is) ps h.pending) (h.within id)
