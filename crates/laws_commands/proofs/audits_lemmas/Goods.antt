-- What a file comes to is in order.
use Rattle.std.proofs.Common.{◌≡◌, ◌<◌, ◌+◌, ◌^◌, ℕ, Bool, true, false, cond, Option, Some, None, List, [], length, refl, sym, ap, ◌∙◌, subst, arith}
use Rattle.std.specs.Prelude.{Result, Ok, Err, ℤ, ◌&&◌, nat_le, is_none, is_some}
use Rattle.std.specs.List.{AllByRecursion}
use Rattle.std.proofs.lemmas.List.{length-append}
use Rattle.rules_text.specs.nodes.Limits.{most_mutez}
use Rattle.rules_text.specs.nodes.Tree.{Tree, size}
use Rattle.rules_data.specs.gas.Prices.{Listed}
use Rattle.rules_data.specs.gas.Tables.{table_of}
use Rattle.rules_files.specs.statements.Statements.{Statement, Chain, Profile, Costs, Account, Block, Group}
use Rattle.rules_world.specs.world.Receipts.{Receipt}
use Rattle.rules_world.specs.world.World.{account_at}
use Rattle.rules_world.specs.world.Balances.{Granted, Repeated, TooMuch, endowed}
use Rattle.rules_world.specs.world.Groups.{Settled, group}
use Rattle.rules_files.specs.course.Course.{Course, Step, goes_on, stops, stuck_step, with_rate, with_prices, costs_step, granting, is_later, timed, numbered, step_behind, first_step}
use Rattle.rules_files.specs.course.Ranges.{IsStatement}
use Rattle.rules_files.specs.commands.Replay.{step}
use Rattle.laws_files.specs.Laws.{IsGoodCourse, StaysGood, granted_by}
use Rattle.laws_files.proofs.ForCallers.{statements_have_ranges, statements_are_small, courses_begin_good, courses_stay_good}
use Rattle.laws_world.specs.runs.Worlds.{IsWhole}
use Rattle.laws_commands.specs.audits.Receipts.{IsReceipt}
use Rattle.laws_commands.specs.audits.Files.{FilesEndGood, PlainRunsAgree}
use Rattle.laws_commands.proofs.audits_lemmas.Amounts.{receipts_have_ranges}
use Rattle.laws_commands.proofs.audits_lemmas.Runs.{good_runs_agree}
use Rattle.laws_commands.proofs.common.Files.{may_settle, Counted, Keeps, counted, along_file}
use Rattle.laws_commands.proofs.common.Lists.{all_append}

-- ---- one statement

abbrev IsInOrder : List Receipt → Option Course → Type 0
IsInOrder rs None = rs ≡ []
IsInOrder rs (Some c) = IsGoodCourse c × (c.groups ≡ length rs) × AllByRecursion IsReceipt rs

abbrev HasRanges : Step → Type 0
HasRanges (goes_on c more) = AllByRecursion IsReceipt more
HasRanges (stops why) = Unit {0}
HasRanges stuck_step = Unit {0}

ranged_prices : (c : Course) (r : Result Listed ℕ) → HasRanges (with_prices c r)
ranged_prices c (Ok prices) = tt
ranged_prices c (Err location) = tt

ranged_costs : (b : Bool) (c : Course) (table : Tree) → HasRanges (costs_step b c table)
ranged_costs true c table = ranged_prices c (table_of table)
ranged_costs false c table = tt

ranged_profile : (c : Course) (rate : ℕ) (b : Bool) → HasRanges (cond b (goes_on (with_rate c rate) []) (stops Rattle.rules_files.specs.course.Course.BadOrder))
ranged_profile c rate true = tt
ranged_profile c rate false = tt

ranged_grant : (c : Course) (who : List ℕ) (mutez : ℕ) (a b : Bool) → HasRanges (granting c (cond a Repeated (cond b (Granted (endowed c.world who mutez)) TooMuch)))
ranged_grant c who mutez true b = tt
ranged_grant c who mutez false true = tt
ranged_grant c who mutez false false = tt

ranged_block : (c : Course) (level : ℕ) (moment : ℤ) (b : Bool) → HasRanges (cond b (goes_on (timed c level moment) []) (stops Rattle.rules_files.specs.course.Course.BadOrder))
ranged_block c level moment true = tt
ranged_block c level moment false = tt

ranged_group : (c : Course) (o : Option Settled) → ((s : Settled) → o ≡ Some s → IsReceipt s.receipt) → HasRanges (numbered c o)
ranged_group c (Some s) h = (h s refl, tt)
ranged_group c None h = tt

ranged_step : (c : Course) (s : Statement) → IsGoodCourse c → c.groups + 1 < 2 ^ 64 → IsStatement s → HasRanges (step_behind c s)
ranged_step c (Chain id level moment) g few i = tt
ranged_step c (Profile rate) g few i = ranged_profile c rate (c.at_head && is_none c.world.rate)
ranged_step c (Costs table) g few i = ranged_costs c.at_head c table
ranged_step c (Account who mutez) g few i = ranged_grant c who mutez (is_some (account_at c.world who)) (nat_le (c.world.granted + mutez) most_mutez)
ranged_step c (Block level moment) g few i = ranged_block c level moment (is_later c.world level moment)
ranged_step c (Group source contents) g few i =
    ranged_group c (group c.prices (c.groups + 1) source contents c.world)
    (λ s e. receipts_have_ranges c.prices (c.groups + 1) source contents c.world s (may_settle c source contents g few i) e)

ranged_first : (s : Statement) → HasRanges (first_step s)
ranged_first (Chain id level moment) = tt
ranged_first (Profile rate) = tt
ranged_first (Costs table) = tt
ranged_first (Account who mutez) = tt
ranged_first (Block level moment) = tt
ranged_first (Group source contents) = tt

keeps : (rs : List Receipt) (groups granted more : ℕ) (x : Step) → groups ≡ length rs → AllByRecursion IsReceipt rs → StaysGood groups granted more x → HasRanges x → Keeps IsInOrder rs x
keeps rs groups granted more (goes_on c receipts) e h g r =
    ((g.0, g.1 ∙ ap (λ n. n + length receipts) e ∙ sym (length-append rs receipts), all_append IsReceipt rs receipts h r), g.3)
keeps rs groups granted more (stops why) e h g r = tt
keeps rs groups granted more stuck_step e h g r = tt

one_keeps : (rs : List Receipt) (o : Option Course) (s : Statement) → IsInOrder rs o → length rs + 1 < 2 ^ 64 → IsStatement s → Keeps IsInOrder rs (step o s)
one_keeps rs (Some c) s h few i =
    let room : c.groups + 1 < 2 ^ 64 = subst (λ (n : ℕ). n + 1 < 2 ^ 64) (sym h.1) few in
    keeps rs c.groups c.world.granted (granted_by s) (step_behind c s) h.1 h.2 (courses_stay_good c s h.0 room i) (ranged_step c s h.0 room i)
one_keeps rs None s h few i =
    subst (λ (rs : List Receipt). Keeps IsInOrder rs (first_step s)) (sym h) (keeps [] 0 0 (granted_by s) (first_step s) refl tt (courses_begin_good s i) (ranged_first s))

-- ---- files

pub files_end_good : FilesEndGood
files_end_good file done w r g =
    let small = statements_are_small file r.statements r.to r.stand in
    let end = along_file (Counted IsInOrder) (λ s. size s.node < 2 ^ 32)
    (λ n rs o s x fine e few h. counted IsInOrder n rs (step o x)
    (one_keeps rs o x h.0 (let le = h.1 in omega (arith, le, few)) (statements_have_ranges s.node x e fine)) h.1)
    (refl, omega arith) file done w r small.nodes g in
    (subst IsWhole (sym end.is) end.holds.0.0.whole, end.holds.0.2)

pub plain_runs_agree : PlainRunsAgree
plain_runs_agree file done w r g plain written short =
    let e = files_end_good file done w r g in
    good_runs_agree file done w r g e.0.good plain e.1 written short
