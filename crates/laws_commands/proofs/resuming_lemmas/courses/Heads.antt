-- A course is at its head where no table of prices stood, and no account, block or group.
use Rattle.std.proofs.Common.{◌≡◌, ℕ, Bool, true, false, not, ◌||◌, ◌&&◌, List, [], ◌∷◌, ◌++◌, Option, Some, None, refl, sym, ap, ◌∙◌, subst, if◌then◌else◌}
use Rattle.std.specs.Prelude.{Result, Ok, Err, ℤ, is_none, ◌+◌}
use Rattle.std.specs.List.{list_any}
use Rattle.rules_text.specs.nodes.Tree.{Tree}
use Rattle.rules_data.specs.gas.Prices.{Listed}
use Rattle.rules_data.specs.gas.Tables.{table_of}
use Rattle.rules_world.specs.world.Balances.{Grant, Granted, Repeated, TooMuch, granted_to}
use Rattle.rules_world.specs.world.Groups.{Settled, group}
use Rattle.rules_world.specs.world.Receipts.{Receipt}
use Rattle.rules_files.specs.statements.Statements.{Statement, Chain, Profile, Costs, Account, Block, Group, form}
use Rattle.rules_files.specs.course.Course.{Course, Step, goes_on, stops, stuck_step, with_rate, profile_step, with_prices, costs_step, granting, is_later, timed, block_step, numbered, group_step, step_behind, first_step}
use Rattle.rules_files.specs.course.Course as course
use Rattle.rules_files.specs.commands.Places.{Placed}
use Rattle.rules_files.specs.commands.Replay.{FileFault, Run, going, stopped, stuck_run, step, continued, taken, run_all}
use Rattle.rules_files.specs.commands.Snapshots.{as_list, statements_of}
use Rattle.rules_files.specs.snapshots.Course.{is_costs, is_start}

-- whether one of these statements is a table of prices, an account, a block or a group
abbrev pub is_mark : Statement → Bool
is_mark s = is_costs s || is_start s

abbrev Heads : Bool → Step → Type 0
Heads m (goes_on c told) = c.at_head ≡ not m
Heads m (stops why) = Unit {0}
Heads m stuck_step = Unit {0}

abbrev IsAtHead : Bool → Option Course → Type 0
IsAtHead m None = m ≡ false
IsAtHead m (Some c) = c.at_head ≡ not m

none_more : (m : Bool) → m ≡ (m || false)
none_more true = refl
none_more false = refl

marked : (m : Bool) → false ≡ not (m || true)
marked true = refl
marked false = refl

module _ (m : Bool) (c : Course) (h : c.at_head ≡ not m) where
  profile_heads : (rate : ℕ) → Heads (m || false) (profile_step c rate)
  profile_heads rate = by (c.at_head && is_none c.world.rate) where
    by : (b : Bool) → Heads (m || false) (if b then goes_on (with_rate c rate) [] else stops course.BadOrder)
    by true = h ∙ ap not (none_more m)
    by false = tt

  priced_heads : (r : Result Listed ℕ) → Heads (m || true) (with_prices c r)
  priced_heads (Ok prices) = marked m
  priced_heads (Err l) = tt

  costs_heads : (b : Bool) (table : Tree) → Heads (m || true) (costs_step b c table)
  costs_heads true table = priced_heads (table_of table)
  costs_heads false table = tt

  grant_heads : (g : Grant) → Heads (m || true) (granting c g)
  grant_heads (Granted w) = marked m
  grant_heads Repeated = tt
  grant_heads TooMuch = tt

  block_heads : (level : ℕ) (moment : ℤ) → Heads (m || true) (block_step c level moment)
  block_heads level moment = by (is_later c.world level moment) where
    by : (b : Bool) → Heads (m || true) (if b then goes_on (timed c level moment) [] else stops course.BadOrder)
    by true = marked m
    by false = tt

  numbered_heads : (o : Option Settled) → Heads (m || true) (numbered c o)
  numbered_heads (Some s) = marked m
  numbered_heads None = tt

  behind_heads : (s : Statement) → Heads (m || is_mark s) (step_behind c s)
  behind_heads (Chain id level moment) = tt
  behind_heads (Profile rate) = profile_heads rate
  behind_heads (Costs table) = costs_heads c.at_head table
  behind_heads (Account who mutez) = grant_heads (granted_to c.world who mutez)
  behind_heads (Block level moment) = block_heads level moment
  behind_heads (Group source contents) = numbered_heads (group c.prices (c.groups + 1) source contents c.world)

first_heads : (s : Statement) → Heads (is_mark s) (first_step s)
first_heads (Chain id level moment) = refl
first_heads (Profile rate) = tt
first_heads (Costs table) = tt
first_heads (Account who mutez) = tt
first_heads (Block level moment) = tt
first_heads (Group source contents) = tt

step_heads : (m : Bool) (c : Option Course) (s : Statement) → IsAtHead m c → Heads (m || is_mark s) (step c s)
step_heads m None s h = subst (λ (m : Bool). Heads (m || is_mark s) (first_step s)) (sym h) (first_heads s)
step_heads m (Some c) s h = behind_heads m c h s

-- ---- runs

abbrev RunHeads : Bool → Run → Type 0
RunHeads m (going receipts c) = IsAtHead m c
RunHeads m (stopped receipts f place) = Unit {0}
RunHeads m stuck_run = Unit {0}

continued_heads : (m : Bool) (receipts : List Receipt) (place : ℕ) (x : Step) → Heads m x → RunHeads m (continued receipts place x)
continued_heads m receipts place (goes_on c told) h = h
continued_heads m receipts place (stops why) h = tt
continued_heads m receipts place stuck_step h = tt

abbrev is_marked : List Statement → Bool
is_marked ss = list_any is_costs ss || list_any is_start ss

or_more : (m a b x y : Bool) → ((m || (a || b)) || (x || y)) ≡ (m || ((a || x) || (b || y)))
or_more true a b x y = refl
or_more false true b x y = refl
or_more false false true true y = refl
or_more false false true false y = refl
or_more false false false x y = refl

one_heads : (m : Bool) (receipts : List Receipt) (c : Option Course) (place : ℕ) (o : Option Statement) (rest : List Placed) →
    IsAtHead m c →
    ((n : Bool) (r : Run) → RunHeads n r → RunHeads (n || is_marked (statements_of rest)) (run_all r rest)) →
    RunHeads (m || is_marked (as_list o ++ statements_of rest)) (run_all (taken receipts c place o) rest)
one_heads m receipts c place (Some s) rest h on =
    subst (λ (n : Bool). RunHeads n (run_all (taken receipts c place (Some s)) rest))
    (or_more m (is_costs s) (is_start s) (list_any is_costs (statements_of rest)) (list_any is_start (statements_of rest)))
    (on (m || is_mark s) (continued receipts place (step c s))
    (continued_heads (m || is_mark s) receipts place (step c s) (step_heads m c s h)))
one_heads m receipts c place None rest h on = on m (taken receipts c place None) tt

stopped_heads : (m : Bool) (receipts : List Receipt) (f : FileFault) (place : ℕ) (ss : List Placed) →
    RunHeads m (run_all (stopped receipts f place) ss)
stopped_heads m receipts f place [] = tt
stopped_heads m receipts f place (s ∷ ss) = stopped_heads m receipts f place ss

stuck_heads : (m : Bool) (ss : List Placed) → RunHeads m (run_all stuck_run ss)
stuck_heads m [] = tt
stuck_heads m (s ∷ ss) = stuck_heads m ss

all_heads : (ss : List Placed) (m : Bool) (r : Run) → RunHeads m r → RunHeads (m || is_marked (statements_of ss)) (run_all r ss)
all_heads [] m r h = subst (λ (n : Bool). RunHeads n r) (none_more m) h
all_heads (s ∷ ss) m (going receipts c) h = one_heads m receipts c s.place (form s.node) ss h (λ n r g. all_heads ss n r g)
all_heads (s ∷ ss) m (stopped receipts f place) h = stopped_heads (m || is_marked (statements_of (s ∷ ss))) receipts f place ss
all_heads (s ∷ ss) m stuck_run h = stuck_heads (m || is_marked (statements_of (s ∷ ss))) ss

-- where statements of a file leave off
pub head_is : (ss : List Placed) (receipts : List Receipt) (c : Course) → run_all (going [] None) ss ≡ going receipts (Some c) →
    c.at_head ≡ not (list_any is_costs (statements_of ss) || list_any is_start (statements_of ss))
head_is ss receipts c e = subst (RunHeads (is_marked (statements_of ss))) e (all_heads ss false (going [] None) refl)
