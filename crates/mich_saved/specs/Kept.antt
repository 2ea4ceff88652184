-- What is kept of the values that are read: nothing of a value in which a set or a map is out of order, as no value of the code
-- stands for it. Reading goes on behind it all the same.
use Rattle.std.specs.Prelude.{ℕ, zero, suc, Bool, true, false, Option, Some, None, Ok, if◌then◌else◌}
use Rattle.std.specs.Option.{option_map}
use Rattle.std.specs.Int.{w64}
use Rattle.rules_data.specs.types.Kind.{Kind}
use Rattle.rules_data.specs.types.Kind as k
use Rattle.rules_data.specs.values.Val.{Val, Vals, no_val, more_vals, Pairs, no_pair, more_pairs}
use Rattle.rules_data.specs.values.Val as v
use Rattle.rules_files.specs.snapshots.Reading.{Reader, ◌>>=◌, number_at, mark_at, vals_at, simple_at, nothing_at, lambda_at, ticket_at, value_at}
use Rattle.rules_files.specs.snapshots.Rules.{are_increasing, keys}

-- all that is read is kept
abbrev pub all_kept : Reader Val → Reader (Option Val)
all_kept part s = do
  x ← part s
  Ok (Some x.0, x.1)

-- what is made of a part, where the part is kept
abbrev pub made_kept : (Val → Val) → Reader (Option Val) → Reader (Option Val)
made_kept made part s = do
  x ← part s
  Ok (option_map made x.0, x.1)

abbrev pub option_kept_by : Reader (Option Val) → Bool → Reader (Option Val)
option_kept_by part false s = Ok (Some v.nothing, s)
option_kept_by part true s = made_kept v.some part s

abbrev pub option_kept_at : Reader (Option Val) → Reader (Option Val)
option_kept_at part s = do
  m ← mark_at s
  option_kept_by part m.0 m.1

abbrev pub or_kept_by : Reader (Option Val) → Reader (Option Val) → Bool → Reader (Option Val)
or_kept_by part other false s = made_kept v.left part s
or_kept_by part other true s = made_kept v.right other s

abbrev pub or_kept_at : Reader (Option Val) → Reader (Option Val) → Reader (Option Val)
or_kept_at part other s = do
  m ← mark_at s
  or_kept_by part other m.0 m.1

abbrev pub both_kept : Option Val → Option Val → Option Val
both_kept (Some x) (Some y) = Some (v.both x y)
both_kept x y = None

abbrev pub both_kept_at : Reader (Option Val) → Reader (Option Val) → Reader (Option Val)
both_kept_at first second s = do
  x ← first s
  y ← second x.1
  Ok (both_kept x.0 y.0, y.1)

-- an item before others
abbrev pub item_kept : Option Val → Option Vals → Option Vals
item_kept (Some x) (Some xs) = Some (more_vals x xs)
item_kept x xs = None

abbrev pub items_kept_at : Reader (Option Val) → ℕ → Reader (Option Vals)
items_kept_at item zero s = Ok (Some no_val, s)
items_kept_at item (suc n) s = do
  x ← item s
  xs ← items_kept_at item n x.1
  Ok (item_kept x.0 xs.0, xs.1)

abbrev pub list_kept_at : Reader (Option Val) → Reader (Option Val)
list_kept_at item s = do
  n ← number_at w64 s
  xs ← items_kept_at item n.0 n.1
  Ok (option_map v.list xs.0, xs.1)

-- elements are comparable, so that each is kept
abbrev pub set_kept : Vals → Option Val
set_kept xs = if are_increasing xs then Some (v.set xs) else None

abbrev pub set_kept_at : Reader Val → Reader (Option Val)
set_kept_at item s = do
  n ← number_at w64 s
  xs ← vals_at item n.0 n.1
  Ok (set_kept xs.0, xs.1)

-- an entry before others; keys are comparable
abbrev pub entry_kept : Val → Option Val → Option Pairs → Option Pairs
entry_kept x (Some y) (Some es) = Some (more_pairs x y es)
entry_kept x y es = None

abbrev pub pairs_kept_at : Reader Val → Reader (Option Val) → ℕ → Reader (Option Pairs)
pairs_kept_at key value zero s = Ok (Some no_pair, s)
pairs_kept_at key value (suc n) s = do
  x ← key s
  y ← value x.1
  es ← pairs_kept_at key value n y.1
  Ok (entry_kept x.0 y.0 es.0, es.1)

abbrev pub in_order : (Pairs → Val) → Option Pairs → Option Val
in_order made None = None
in_order made (Some es) = if are_increasing (keys es) then Some (made es) else None

abbrev pub entries_kept_at : (Pairs → Val) → Reader Val → Reader (Option Val) → Reader (Option Val)
entries_kept_at made key value s = do
  n ← number_at w64 s
  es ← pairs_kept_at key value n.0 n.1
  Ok (in_order made es.0, es.1)

abbrev pub kept_at : Kind → Reader (Option Val)
kept_at (k.simple s) = all_kept (simple_at s)
kept_at k.operation = all_kept nothing_at
kept_at (k.option a) = option_kept_at (kept_at a)
kept_at (k.or a b) = or_kept_at (kept_at a) (kept_at b)
kept_at (k.pair a b) = both_kept_at (kept_at a) (kept_at b)
kept_at (k.list a) = list_kept_at (kept_at a)
kept_at (k.set a) = set_kept_at (value_at a)
kept_at (k.map a b) = entries_kept_at v.table (value_at a) (kept_at b)
kept_at (k.big_map a b) = entries_kept_at v.big_table (value_at a) (kept_at b)
kept_at (k.lambda a b) = all_kept lambda_at
kept_at (k.contract a) = all_kept nothing_at
kept_at (k.ticket a) = all_kept (ticket_at a (value_at a))
