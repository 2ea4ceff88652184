-- How a straight-line instruction ends on the values of the stack, whose top stands first.
use Rattle.std.specs.Prelude.{Bool, List, [], Option, Some, None, Result, Ok, Err, if◌then◌else◌}
use Rattle.std.specs.List.{flat_map}
use Rattle.rules_data.specs.numbers.Limits.{Limit, integer_limit, mutez_overflow, shift_limit}
use Rattle.rules_data.specs.values.Val.{Val, nothing, some}
use Rattle.rules_data.specs.values.Tickets.{tickets}
use Rattle.rules_code.specs.steps.Failure.{Failure}
use Rattle.rules_code.specs.steps.Failure as f
use Rattle.rules_code.specs.steps.Changes.{Change, burns}

-- the values after it, with the tickets that it made and discarded; a failure; or values that don't fit
pub data Step : Type 0 where
  done : List Val → List Change → Step
  fails : Failure → Step
  wrong : Step

-- nothing is discarded
abbrev pub kept : List Val → Step
kept V = done V []

-- each ticket in what is discarded is burnt, in order (Octez "Tickets")
abbrev pub discarding : List Val → List Val → Step
discarding gone V = done V (burns (flat_map tickets gone))

-- ---- what may not be there

abbrev pub on_some : {A : Type 0} → Option A → (A → Step) → Step
on_some (Some x) go = go x
on_some None go = wrong

abbrev pub where_true : Bool → Step → Step
where_true b s = if b then s else wrong

-- an optional value
abbrev pub optional : Option Val → Val
optional (Some v) = some v
optional None = nothing

-- ---- numbers with limits

abbrev pub past_limit : Limit → Failure
past_limit integer_limit = f.integer_limit
past_limit mutez_overflow = f.mutez_overflow
past_limit shift_limit = f.shift_limit

-- what is within the limits, or a failure
abbrev pub within_limit : {A : Type 0} → Result A Limit → (A → Step) → Step
within_limit (Ok x) go = go x
within_limit (Err limit) go = fails (past_limit limit)
