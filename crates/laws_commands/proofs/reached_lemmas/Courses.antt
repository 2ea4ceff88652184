-- The course of a file is good and paid, its rate is in its range, and it had no more groups than there are statements.
use Rattle.std.proofs.Common.{◌≡◌, ◌≢◌, ◌≤◌, ◌<◌, ◌+◌, ◌^◌, ◌-◌, ◌&&◌, ℕ, Bool, true, false, cond, nat_le, List, [], ◌∷◌, length, take, Some, None, Ok, Err, is_some, refl, sym, ◌∙◌, subst, arith}
use Rattle.std.specs.Prelude.{ℤ, Result, is_none}
use Rattle.std.specs.declared.option.Option.{Option}
use Rattle.std.specs.List.{AllByRecursion}
use Rattle.std.specs.Int.{w64, to_be_bytes}
use Rattle.std.proofs.lemmas.List.{length-append}
use Rattle.std.proofs.lemmas.List.Elements.{All-nil}
use Rattle.rules_text.specs.nodes.Limits.{most_rate, most_mutez}
use Rattle.rules_text.specs.nodes.Tree.{Tree, size}
use Rattle.rules_data.specs.gas.Prices.{Listed}
use Rattle.rules_data.specs.gas.Tables.{table_of}
use Rattle.rules_world.specs.world.World.{account_at}
use Rattle.rules_world.specs.world.Balances.{Granted, Repeated, TooMuch, endowed}
use Rattle.rules_world.specs.world.Contents.{Content}
use Rattle.rules_world.specs.world.Good.{IsNewGroup}
use Rattle.rules_world.specs.world.Groups.{Settled, group}
use Rattle.laws_world.proofs.groups_lemmas.ForCallers.{groups_keep_whole}
use Rattle.rules_files.specs.course.Course.{Course, Step, goes_on, stops, stuck_step, first_step, step_behind, with_rate, with_prices, costs_step, granting, is_later, timed, numbered, BadOrder}
use Rattle.rules_files.specs.course.Ranges.{IsStatement}
use Rattle.rules_files.specs.commands.Places.{Placed, AreStatements}
use Rattle.rules_files.specs.commands.Replay.{Run, going, stopped, stuck_run, step, continued, taken, run_one, run_all}
use Rattle.rules_files.specs.statements.Statements.{Statement, Chain, Profile, Costs, Account, Block, Group, form}
use Rattle.rules_world.specs.world.Receipts.{Receipt}
use Rattle.laws_files.specs.Files.{granted_by, granted_in}
use Rattle.laws_files.specs.Laws as course
use Rattle.laws_files.specs.Laws.{IsGoodCourse, StaysGood, IsPaidCourse, StaysPaid}
use Rattle.laws_files.proofs.ForCallers.{statements_have_ranges, statements_are_small, courses_begin_good, courses_stay_good, courses_begin_paid, courses_stay_paid}
use Rattle.laws_files.proofs.paid.Groups.{SettlesPaid, group_paid}
use Rattle.laws_files.proofs.paid.Moves.{paid_by}
use Rattle.laws_commands.proofs.reached_lemmas.Marks.{IsRanged, form_ranged}
use Rattle.laws_commands.proofs.common.Files.{may_settle}

-- ---- runs

-- behind so many groups and so much granted mutez
abbrev pub IsGoodIf : ℕ → ℕ → Option Course → Type 0
IsGoodIf groups granted None = (groups ≡ 0) × (granted ≡ 0)
IsGoodIf groups granted (Some c) = IsGoodCourse c × (c.groups ≡ groups) × (c.world.granted ≡ granted)

abbrev pub IsPaidIf : Option Course → Type 0
IsPaidIf None = Unit {0}
IsPaidIf (Some c) = IsPaidCourse c

abbrev pub IsRate : Option ℕ → Type 0
IsRate None = Unit {0}
IsRate (Some rate) = rate ≤ most_rate

-- the rate is in its range, and no contract is of group 0
abbrev pub IsRated : Course → Type 0
IsRated c = IsRate c.world.rate × IsNewGroup 0 c.world

abbrev pub IsRatedIf : Option Course → Type 0
IsRatedIf None = Unit {0}
IsRatedIf (Some c) = IsRated c

abbrev StaysRated : Step → Type 0
StaysRated (goes_on c receipts) = IsRated c
StaysRated (stops why) = Unit {0}
StaysRated stuck_step = Unit {0}

-- a run behind statements that granted so much, and that are at most so many
abbrev pub Stays : ℕ → ℕ → Run → Type 0
Stays granted most (going receipts c) = IsGoodIf (length receipts) granted c × IsPaidIf c × IsRatedIf c × (length receipts ≤ most)
Stays granted most (stopped receipts f place) = Unit {0}
Stays granted most stuck_run = ⊥

-- a step of a statement from a good course
stepped : (groups granted : ℕ) (c : Option Course) (s : Statement) → IsGoodIf groups granted c → groups + 1 < 2 ^ 64 → IsStatement s →
    StaysGood groups granted (course.granted_by s) (step c s)
stepped groups granted None s h few i =
    subst (λ (n : ℕ). StaysGood n granted (course.granted_by s) (step None s)) (sym h.0)
    (subst (λ (n : ℕ). StaysGood 0 n (course.granted_by s) (step None s)) (sym h.1) (courses_begin_good s i))
stepped groups granted (Some c) s h few i =
    subst (λ (n : ℕ). StaysGood n granted (course.granted_by s) (step (Some c) s)) h.1
    (subst (λ (n : ℕ). StaysGood c.groups n (course.granted_by s) (step (Some c) s)) h.2
    (courses_stay_good c s h.0 (subst (λ (n : ℕ). n + 1 < 2 ^ 64) (sym h.1) few) i))

-- and from a paid one
paid_step : (c : Option Course) (s : Statement) → IsPaidIf c → IsStatement s → StaysPaid (step c s)
paid_step None s p i = courses_begin_paid s
paid_step (Some c) s p i = courses_stay_paid c s p i

-- and the rate stays in its range
first_rated : (s : Statement) → StaysRated (first_step s)
first_rated (Chain id level moment) = (tt, All-nil (λ c. ¬ (take 8 c.0 ≡ to_be_bytes w64 0)))
first_rated (Profile rate) = tt
first_rated (Costs table) = tt
first_rated (Account who mutez) = tt
first_rated (Block level moment) = tt
first_rated (Group source contents) = tt

module _ (c : Course) (h : IsRated c) where
  profile_rated : (rate : ℕ) (b : Bool) → rate ≤ most_rate → StaysRated (cond b (goes_on (with_rate c rate) []) (stops BadOrder))
  profile_rated rate true i = (i, h.1)
  profile_rated rate false i = tt

  prices_rated : (r : Result Listed ℕ) → StaysRated (with_prices c r)
  prices_rated (Ok prices) = h
  prices_rated (Err location) = tt

  costs_rated : (b : Bool) (table : Tree) → StaysRated (costs_step b c table)
  costs_rated true table = prices_rated (table_of table)
  costs_rated false table = tt

  grant_rated : (who : List ℕ) (mutez : ℕ) (a b : Bool) → IsNewGroup 0 (endowed c.world who mutez) →
      StaysRated (granting c (cond a Repeated (cond b (Granted (endowed c.world who mutez)) TooMuch)))
  grant_rated who mutez true b n = tt
  grant_rated who mutez false true n = (h.0, n)
  grant_rated who mutez false false n = tt

  block_rated : (level : ℕ) (moment : ℤ) (b : Bool) → StaysRated (cond b (goes_on (timed c level moment) []) (stops BadOrder))
  block_rated level moment true = h
  block_rated level moment false = tt

  settled_rated : (o : Option Settled) → SettlesPaid c.world.rate o → ((s : Settled) → o ≡ Some s → IsNewGroup 0 s.world) → StaysRated (numbered c o)
  settled_rated (Some s) p n = (subst IsRate (sym p.rate) h.0, n s refl)
  settled_rated None p n = tt

  not_zero : 0 ≢ c.groups + 1
  not_zero e = omega arith

  zero_small : 0 < 2 ^ 64
  zero_small = omega arith

  after_group : (source : List ℕ) (contents : List Content) (s : Settled) → IsGoodCourse c → c.groups + 1 < 2 ^ 64 →
      IsStatement (Group source contents) → group c.prices (c.groups + 1) source contents c.world ≡ Some s → IsNewGroup 0 s.world
  after_group source contents s g few i e =
      (groups_keep_whole c.prices (c.groups + 1) source contents c.world s (may_settle c source contents g few i) e g.whole.mutez).1 0 zero_small not_zero h.1

  -- an account is no contract
  step_rated : (s : Statement) → IsPaidCourse c → IsGoodCourse c → c.groups + 1 < 2 ^ 64 → IsStatement s → IsRanged s → StaysRated (step_behind c s)
  step_rated (Chain id level moment) p g few i r = tt
  step_rated (Profile rate) p g few i r = profile_rated rate (c.at_head && is_none c.world.rate) r
  step_rated (Costs table) p g few i r = costs_rated c.at_head table
  step_rated (Account who mutez) p g few i r = grant_rated who mutez (is_some (account_at c.world who)) (nat_le (c.world.granted + mutez) most_mutez) h.1
  step_rated (Block level moment) p g few i r = block_rated level moment (is_later c.world level moment)
  step_rated (Group source contents) p g few i r =
      settled_rated (group c.prices (c.groups + 1) source contents c.world)
      (group_paid c.world.rate c.prices (c.groups + 1) source contents c.world i.0 (paid_by c.world p.paid))
      (λ s e. after_group source contents s g few i e)

rated_step : (groups granted : ℕ) (c : Option Course) (s : Statement) → IsGoodIf groups granted c → IsPaidIf c → IsRatedIf c → groups + 1 < 2 ^ 64 →
    IsStatement s → IsRanged s → StaysRated (step c s)
rated_step groups granted None s g p h few i r = first_rated s
rated_step groups granted (Some c) s g p h few i r = step_rated c h s p g.0 (subst (λ (n : ℕ). n + 1 < 2 ^ 64) (sym g.1) few) i r

continued_stays : (receipts : List Receipt) (place granted more most : ℕ) (x : Step) → StaysGood (length receipts) granted more x → StaysPaid x →
    StaysRated x →
    length receipts ≤ most → Stays (granted + more) (most + 1) (continued receipts place x)
continued_stays receipts place granted more most (goes_on q rs) h p r few =
    ((h.0, h.1 ∙ sym (length-append receipts rs), h.2), p, r, omega (arith, length-append receipts rs, h.3, few))
continued_stays receipts place granted more most (stops why) h p r few = tt
continued_stays receipts place granted more most stuck_step h p r few = absurd h

taken_stays : (receipts : List Receipt) (c : Option Course) (place granted most : ℕ) (o : Option Statement) →
    ((s : Statement) → o ≡ Some s → IsStatement s × IsRanged s) → Stays granted most (going receipts c) → most + 1 < 2 ^ 64 →
    Stays (granted + granted_by o) (most + 1) (taken receipts c place o)
taken_stays receipts c place granted most (Some s) ranges h room =
    continued_stays receipts place granted (course.granted_by s) most (step c s)
    (stepped (length receipts) granted c s h.0 (omega (arith, h.3, room)) (ranges s refl).0) (paid_step c s h.1 (ranges s refl).0)
    (rated_step (length receipts) granted c s h.0 h.1 h.2 (omega (arith, h.3, room)) (ranges s refl).0 (ranges s refl).1) h.3
taken_stays receipts c place granted most None ranges h room = tt

pub one_stays : (s : Placed) (granted most : ℕ) (r : Run) → size s.node < 2 ^ 32 → most + 1 < 2 ^ 64 → Stays granted most r →
    Stays (granted + granted_by (form s.node)) (most + 1) (run_one r s)
one_stays s granted most (going receipts c) small room h =
    taken_stays receipts c s.place granted most (form s.node) (λ x e. (statements_have_ranges s.node x e small, form_ranged s.node x e)) h room
one_stays s granted most (stopped receipts f place) small room h = tt
one_stays s granted most stuck_run small room h = absurd h

all_stay : (ss : List Placed) (granted most : ℕ) (r : Run) → AllByRecursion (λ s. size s.node < 2 ^ 32) ss → most + length ss < 2 ^ 64 →
    Stays granted most r → Stays (granted + granted_in ss) (most + length ss) (run_all r ss)
all_stay [] granted most r small room h =
    let same : granted ≡ granted + 0 = omega arith in
    let count : most ≡ most + 0 = omega arith in
    subst (λ (n : ℕ). Stays n (most + 0) r) same (subst (λ (n : ℕ). Stays granted n r) count h)
all_stay (s ∷ ss) granted most r small room h =
    let here = one_stays s granted most r small.0 (omega (arith, room)) h in
    let rest = all_stay ss (granted + granted_by (form s.node)) (most + 1) (run_one r s) small.1 (omega (arith, room)) here in
    let sums : granted + granted_by (form s.node) + granted_in ss ≡ granted + (granted_by (form s.node) + granted_in ss) = omega arith in
    let counts : most + 1 + length ss ≡ most + length (s ∷ ss) = omega arith in
    subst (λ (n : ℕ). Stays n (most + length (s ∷ ss)) (run_all (run_one r s) ss)) sums
    (subst (λ (n : ℕ). Stays (granted + granted_by (form s.node) + granted_in ss) n (run_all (run_one r s) ss)) counts rest)

-- ---- files

file_stays : (file : List ℕ) (ss : List Placed) (to : ℕ) → AreStatements file 0 ss to →
    Stays (0 + granted_in ss) (0 + length ss) (run_all (going [] None) ss)
file_stays file ss to stand =
    let s = statements_are_small file ss to stand in
    all_stay ss 0 0 (going [] None) s.nodes (omega (arith, s.count, s.within)) ((refl, refl), tt, tt, omega arith)

-- what is known of the course behind the statements of a file
pub record IsBehind (c : Course) : Type 0 where
  pub good : IsGoodCourse c
  pub paid : IsPaidCourse c
  pub rate : IsRate c.world.rate
  pub zero : IsNewGroup 0 c.world
  pub groups : c.groups ≤ 2 ^ 63 - 1

pub courses_are_behind : (file : List ℕ) (ss : List Placed) (to : ℕ) (receipts : List Receipt) (c : Course) → AreStatements file 0 ss to →
    run_all (going [] None) ss ≡ going receipts (Some c) → IsBehind c
courses_are_behind file ss to receipts c stand runs =
    let h : Stays (0 + granted_in ss) (0 + length ss) (going receipts (Some c)) =
    subst (Stays (0 + granted_in ss) (0 + length ss)) runs (file_stays file ss to stand) in
    let few = statements_are_small file ss to stand in
    record { good = h.0.0; paid = h.1; rate = h.2.0; zero = h.2.1; groups = omega (arith, h.0.1, h.3, few.count, few.within) }

-- the statements of a file lead to a good course, whose groups are counted
pub good_behind : (file : List ℕ) (ss : List Placed) (to : ℕ) (receipts : List Receipt) (c : Course) → AreStatements file 0 ss to →
    run_all (going [] None) ss ≡ going receipts (Some c) → IsGoodCourse c × (c.groups ≡ length receipts)
good_behind file ss to receipts c stand runs =
    let h : Stays (0 + granted_in ss) (0 + length ss) (going receipts (Some c)) =
    subst (Stays (0 + granted_in ss) (0 + length ss)) runs (file_stays file ss to stand) in
    (h.0.0, h.0.1)
