-- The plain frames, values and counts that those of the code stand for.
use Rattle.std.specs.Prelude.{ℕ, ℤ, ◌+ℤ◌, ◌-ℤ◌, List, ◌++◌, map, reverse, drop, Option, ◌≡◌, take}
use Rattle.rules_data.specs.values.Val.{Val}
use Rattle.rules_data.specs.values.Tickets.{Identity}
use Rattle.rules_code.specs.evaluation.Surroundings.{Contract}
use Rattle.rules_code.specs.evaluation.Operations.{Tally}
use Rattle.rules_code.specs.evaluation.Operations as rules
use Rattle.laws_code.specs.evaluation.Laws.{amount_issued}
use Rattle.mich_gas.specs.declared.costs.Costs.{Costs}
use Rattle.mich_gas.specs.View.{listed}
use Rattle.mich_term.specs.declared.value.Value.{Value}
use Rattle.mich_stack.specs.Views.{Sight, seen}
use Rattle.mich_instr.specs.View.{codes}
use Rattle.mich_frames.specs.Around.{Around}
use Rattle.mich_frames.specs.Frames as fr
use Rattle.rules_code.specs.steps.Changes.{Change, minted_in, burnt_in}
use Rattle.mich_step.specs.Shown.{ShowsTickets}
use Rattle.mich_step.specs.Views.{environment}
use Rattle.mich_tickets.specs.Books.{State as Ledger}
use Rattle.mich_tickets.specs.Effects.{change}
use Rattle.mich_tickets.specs.Sums.{minted_of, burnt_of}
use Rattle.mich_ops.specs.declared.issued.Issued.{Issued}
use Rattle.mich_interpreter.specs.Issues.{issued_by}
use Rattle.mich_interpreter.specs.Items.{items_left}
use Rattle.mich_interpreter.specs.Made.{making_of}
use Rattle.mich_interpreter.specs.declared.frame.Frame.{Frame}
use Rattle.mich_interpreter.specs.declared.frame.Frame.TheVariants as f
use Rattle.mich_state.specs.declared.state.State.{State}

-- the operations that were issued, and the changes, before the view that runs; outside views there are none
pub record Before : Type 0 where
  pub issued : List rules.Issued
  pub changes : List Change

-- what a run sees that its own state doesn't hold: a sight of big maps, which shows in each the tickets that lie in it, the
-- contracts, and what was before
pub record Beyond : Type 0 where
  pub sight : Sight
  pub shows : (vs : List Value) → ShowsTickets sight vs
  pub contract_at : List ℕ → Option Contract
  pub before : Before

-- a stack of values, whose last element is on top, as it is written: the top first
abbrev pub tops : Sight → List Value → List Val
tops big vs = map (seen big) (reverse vs)

-- so many values are taken from the top of a stack, and the others are left, however big maps are seen
abbrev pub AreTaken : ℕ → List Value → List Value → List Value → Type 0
AreTaken count old above new = (big : Sight) → (tops big above ≡ take count (tops big old)) × (tops big new ≡ drop count (tops big old))

abbrev pub frame : Sight → Frame → fr.Frame
frame big (f.Rest block at) = fr.rest (codes (drop at block))
frame big (f.Turns body) = fr.turns (codes body)
frame big (f.LeftTurns body) = fr.left_turns (codes body)
frame big (f.Each body items) = fr.each (codes body) (items_left big items)
frame big (f.Making body making) = making_of big (codes body) making
frame big (f.Under above) = fr.under (tops big above)
frame big (f.Call below) = fr.call (tops big below)

-- frames, the last one first
abbrev pub frames : Sight → List Frame → List fr.Frame
frames big fs = map (frame big) (reverse fs)

-- all operations that were issued by now, and all changes
abbrev pub all_issued : Sight → Before → List Issued → List rules.Issued
all_issued big b is = b.issued ++ map (issued_by big) is

abbrev pub all_changes : Before → Ledger → List Change
all_changes b l = b.changes ++ map change l.changes

-- what was minted of an identity before all these changes, and what was burnt; a view begins with nothing burnt or handed over
abbrev pub minted_before : Before → Ledger → Identity → ℤ
minted_before b l id = minted_of l.books.present id -ℤ minted_in id (all_changes b l)

abbrev pub burnt_before : Before → Ledger → Identity → ℤ
burnt_before b l id = burnt_of l.books.present id -ℤ (amount_issued id b.issued +ℤ burnt_in id (all_changes b l))

abbrev pub around : Beyond → Costs → State → Around
around x costs m = record {
  environment = environment m.env;
  group = m.counts.group;
  prices = listed costs;
  contract_at = x.contract_at;
  minted = minted_before x.before m.ledger;
  burnt = burnt_before x.before m.ledger;
}

-- the ledger lists the changes of the run
abbrev pub tally : Beyond → State → Tally
tally x m = record {
  gas = m.meter;
  operations = m.counts.issued;
  originations = m.counts.originated;
  issued = all_issued x.sight x.before m.issued;
  changes = all_changes x.before m.ledger;
}
