-- Callers of views: the frames that they stand for, and what was before the views that they called. The first one is outermost.
use Rattle.std.specs.Prelude.{◌≡◌, ◌≤◌, ◌<◌, ◌+◌, ◌++◌, ℤ, Bool, true, false, List, [], ◌∷◌, drop}
use Rattle.rules_text.specs.nodes.Limits.{block_limit}
use Rattle.rules_data.specs.types.Kind.{Kind}
use Rattle.rules_data.specs.values.Tickets.{Identity}
use Rattle.rules_data.specs.values.Val.{some}
use Rattle.rules_code.specs.evaluation.Outcome.{Outcome}
use Rattle.mich_gas.specs.declared.costs.Costs.{Costs}
use Rattle.mich_frames.specs.Frames as fr
use Rattle.mich_instr.specs.View.{codes}
use Rattle.mich_stack.specs.Views.{Sight, seen}
use Rattle.mich_step.specs.Views.{environment}
use Rattle.mich_term.specs.declared.value.Value.{Value}
use Rattle.mich_tickets.specs.Books.{fresh, State as Ledger}
use Rattle.mich_tickets.specs.Viewed.{viewed_books}
use Rattle.mich_interpreter.specs.Runs.{InBlock}
use Rattle.mich_interpreter.specs.Sees.{Sees}
use Rattle.mich_interpreter.specs.View.{Before, Beyond, all_changes, all_issued, burnt_before, frames, minted_before, tops}
use Rattle.mich_interpreter.specs.declared.act.View.{View}
use Rattle.mich_interpreter.specs.declared.callers.Caller.{Caller}
use Rattle.mich_interpreter.specs.declared.machine.Machine.{Machine}
use Rattle.mich_state.specs.declared.state.State.{State}
use Rattle.mich_world.specs.World.{World}

-- what was before the view that a caller called
abbrev pub within : Sight → Before → Caller → Before
within big b c = record { issued = all_issued big b c.issued; changes = all_changes b c.ledger }

abbrev pub inside : Sight → Before → List Caller → Before
inside big b [] = b
inside big b (c ∷ cs) = inside big (within big b c) cs

-- the view's frame, and the caller's, over those below
abbrev pub frames_of : Sight → Before → Caller → List fr.Frame → List fr.Frame
frames_of big b c gs =
    fr.viewing (environment c.env) (burnt_before b c.ledger) (all_issued big b c.issued) (all_changes b c.ledger) (tops big c.below)
    ∷ fr.rest (codes (drop c.at c.block)) ∷ frames big c.frames ++ gs

abbrev pub called : Sight → Before → List Caller → List fr.Frame → List fr.Frame
called big b [] gs = gs
called big b (c ∷ cs) gs = called big (within big b c) cs (frames_of big b c gs)

-- what a run sees in the view that the last of them called
abbrev pub in_call : Beyond → List Caller → Beyond
in_call x cs = record { sight = x.sight; shows = x.shows; contract_at = x.contract_at; before = inside x.sight x.before cs }

-- the run is in its block, in that view
abbrev pub InCall : Beyond → Costs → Machine → List Caller → List Kind → Outcome → Type 0
InCall x costs m cs Z o = InBlock (in_call x cs) costs m (called x.sight x.before cs []) Z o

abbrev pub SomeCall : World → Costs → Machine → List Caller → Type 0
SomeCall v costs m cs = (x : Beyond) × (Z : List Kind) × (o : Outcome) × InCall x costs m cs Z o × Sees v x

-- where a run begins, in a world that it sees
abbrev pub SomeStart : World → Costs → Machine → Type 0
SomeStart v costs m = SomeCall v costs m []

-- in the view that runs, and for each caller, this was minted before the run
abbrev pub MintedAt : (Identity → ℤ) → Sight → Before → List Caller → Ledger → Type 0
MintedAt f big b [] l = minted_before b l ≡ f
MintedAt f big b (c ∷ cs) l = (minted_before b c.ledger ≡ f) × MintedAt f big (within big b c) cs l

-- a state with the ledger and the operations of the first caller
abbrev pub home : List Caller → State → State
home [] m = m
home (c ∷ cs) m = record m { ledger = c.ledger; issued = c.issued }

-- ---- a view that opens and ends

abbrev pub caller_of : Machine → Caller
caller_of m = record {
  block = m.block;
  at = m.at;
  frames = m.frames;
  env = m.state.env;
  ledger = m.state.ledger;
  issued = m.state.issued;
  below = m.state.stack;
}

abbrev pub entered : View → Machine → Machine
entered w m = record {
  state = record {
    stack = w.value ∷ [];
    meter = m.state.meter;
    counts = m.state.counts;
    env = w.env;
    ledger = fresh (viewed_books m.state.ledger.books.present);
    issued = [];
  };
  block = w.code;
  at = 0;
  frames = [];
  depth = m.depth + 1;
}

pub record HasEntered (w : View) (old : Machine) (cs : List Caller) (new : Machine) (ds : List Caller) : Type 0 where
  pub few : old.depth < block_limit
  pub machine : new ≡ entered w old
  pub callers : ds ≡ cs ++ caller_of old ∷ []

-- a view is open, or there are too many blocks
abbrev pub IsEntered : Bool → View → Machine → List Caller → Machine → List Caller → Type 0
IsEntered true w old cs new ds = HasEntered w old cs new ds
IsEntered false w old cs new ds = (block_limit ≤ old.depth) × (new ≡ old) × (ds ≡ cs)

-- the caller goes on with this stack
abbrev pub back_to : Caller → List Value → Machine → Machine
back_to c stack m = record {
  state = record { stack = stack; meter = m.state.meter; counts = m.state.counts; env = c.env; ledger = c.ledger; issued = c.issued };
  block = c.block;
  at = c.at;
  frames = c.frames;
  depth = m.depth;
}

-- an option of what the view gives is on top of it
pub record IsBack (c : Caller) (old new : Machine) : Type 0 where
  pub value : Value
  pub rest : List Value
  pub given : (big : Sight) → tops big old.state.stack ≡ seen big value ∷ tops big rest
  pub stack : List Value
  pub machine : new ≡ back_to c stack old
  pub taken : (big : Sight) → tops big stack ≡ some (seen big value) ∷ tops big c.below
