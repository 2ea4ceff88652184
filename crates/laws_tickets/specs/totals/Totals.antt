-- What there is of the tickets of an identity (Octez "Tickets").
use Rattle.std.specs.Prelude.{◌≡◌, ◌<◌, ◌==◌, ℕ, false, ℤ, ◌+ℤ◌, ◌-ℤ◌, List, [], ◌∷◌}
use Rattle.std.specs.List.{AllByRecursion, flat_map}
use Rattle.rules_data.specs.values.Val.{Val}
use Rattle.rules_data.specs.values.Tickets.{Identity, Held, tickets}
use Rattle.rules_code.specs.steps.Changes.{amount_among, minted_in, burnt_in}
use Rattle.rules_code.specs.evaluation.Operations.{Issued, Tally, operation_tickets}

-- the tickets that operations have with them, in order of issue
abbrev pub issued_tickets : List Issued → List Held
issued_tickets issued = flat_map (λ i. operation_tickets i.operation) issued

-- the amount in the values of a stack
abbrev pub amount_on : Identity → List Val → ℤ
amount_on id V = amount_among id (flat_map tickets V)

-- the amount in the operations that were issued
abbrev pub amount_issued : Identity → List Issued → ℤ
amount_issued id issued = amount_among id (issued_tickets issued)

-- what issued operations have with them and what was burnt, less what was minted
abbrev pub told : Identity → Tally → ℤ
told id m = amount_issued id m.issued +ℤ burnt_in id m.changes -ℤ minted_in id m.changes

-- that, and what is on the stack
abbrev pub total : Identity → List Val → Tally → ℤ
total id V m = amount_on id V +ℤ told id m

-- the numbers of operations are below a count, and each is another than those behind it
abbrev pub AreNumbered : List Issued → ℕ → Type 0
AreNumbered [] count = Unit {0}
AreNumbered (i ∷ issued) count = (i.number < count) × AllByRecursion (λ j. (j.number == i.number) ≡ false) issued × AreNumbered issued count
