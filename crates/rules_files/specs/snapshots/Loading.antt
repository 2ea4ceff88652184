-- What the bytes of a snapshot are loaded as, and when a state is saved.
use Rattle.std.specs.Prelude.{ℕ, nat_lt, Bool, List, [], ◌∷◌, ◌++◌, length, Option, Some, None, Result, Ok, Err, if◌then◌else◌}
use Rattle.std.specs.List.{list_any, flat_map}
use Rattle.rules_text.specs.nodes.Limits.{encoded_limit}
use Rattle.rules_text.specs.nodes.Tree.{Tree}
use Rattle.rules_text.specs.binary.Spelling.{spelling}
use Rattle.rules_data.specs.values.Val.{Val, Vals, no_val, more_vals, Pairs, no_pair, more_pairs}
use Rattle.rules_data.specs.values.Val as v
use Rattle.rules_files.specs.snapshots.State.{State}
use Rattle.rules_files.specs.snapshots.Spelling.{state_spelling}
use Rattle.rules_files.specs.snapshots.Reading.{read}
use Rattle.rules_files.specs.snapshots.Rules.{parts, first_fault}

-- ---- loading

-- bytes that spell no state, with the place of the first field that can't be read, or of the first byte behind the last field;
-- or a state that isn't sound, with the place of the first part whose rules fail
pub data LoadFault : Type 0 where
  BadForm : (place : ℕ) → LoadFault
  Unsound : (place : ℕ) → LoadFault

abbrev pub judged : State → Option ℕ → Result State LoadFault
judged s None = Ok s
judged s (Some place) = Err (Unsound place)

abbrev pub of_read : Result State ℕ → Result State LoadFault
of_read (Ok s) = judged s (first_fault 0 (parts s))
of_read (Err place) = Err (BadForm place)

abbrev pub loaded : List ℕ → Result State LoadFault
loaded bs = of_read (read bs)

-- ---- saving

abbrev mutual
  -- the bodies of the lambdas in a value
  pub bodies : Val → List Tree
  bodies (v.some x) = bodies x
  bodies (v.left x) = bodies x
  bodies (v.right x) = bodies x
  bodies (v.both x y) = bodies x ++ bodies y
  bodies (v.list xs) = all_bodies xs
  bodies (v.table es) = entry_bodies es
  bodies (v.big_table es) = entry_bodies es
  bodies (v.lambda t recursive) = t ∷ []
  bodies x = []

  pub all_bodies : Vals → List Tree
  all_bodies no_val = []
  all_bodies (more_vals x xs) = bodies x ++ all_bodies xs

  pub entry_bodies : Pairs → List Tree
  entry_bodies no_pair = []
  entry_bodies (more_pairs x y es) = bodies y ++ entry_bodies es

-- a binary form is longer than an encoded node may be
abbrev pub is_long : Tree → Bool
is_long t = nat_lt encoded_limit (length (spelling t))

-- the scripts of a state, each with the lambdas in its contract's storage
abbrev pub nodes_in : State → List Tree
nodes_in s = flat_map (λ c. c.1.script ∷ bodies c.1.storage) s.contracts

-- the bytes of a state; none where a script or a lambda is too long
abbrev pub saved : State → Option (List ℕ)
saved s = if list_any is_long (nodes_in s) then None else Some (state_spelling s)
