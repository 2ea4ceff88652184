-- What a file comes to can be written.
use Rattle.std.proofs.Common.{◌≡◌, ◌≤◌, ◌<◌, ◌+◌, ◌^◌, ℕ, ℤ, Bool, true, false, cond, Option, Some, None, List, [], ◌∷◌, length, refl, sym, ap, ◌∙◌, subst, arith}
use Rattle.std.specs.Prelude.{Result, Ok, Err, ◌&&◌, nat_le, is_none, is_some}
use Rattle.std.specs.List.{AllByRecursion}
use Rattle.std.proofs.lemmas.List.{length-append}
use Rattle.std.proofs.lemmas.List.Elements.{All-nil}
use Rattle.rules_text.specs.nodes.Limits.{most_mutez, most_level}
use Rattle.rules_text.specs.nodes.Tree.{Tree, size}
use Rattle.rules_text.specs.text.Text.{IsNode}
use Rattle.rules_data.specs.gas.Prices.{Listed}
use Rattle.rules_data.specs.gas.Tables.{table_of}
use Rattle.rules_files.specs.statements.Statements.{Statement, Chain, Profile, Costs, Account, Block, Group}
use Rattle.rules_world.specs.world.Receipts.{Receipt}
use Rattle.rules_world.specs.world.World.{World, account_at}
use Rattle.rules_world.specs.world.Balances.{Granted, Repeated, TooMuch, endowed}
use Rattle.rules_world.specs.world.Groups.{Settled, group}
use Rattle.rules_files.specs.course.Course.{Course, Step, goes_on, stops, stuck_step, with_rate, with_prices, costs_step, granting, is_later, timed, numbered, step_behind, first_step, BadOrder}
use Rattle.rules_files.specs.course.Ranges.{IsStatement}
use Rattle.rules_files.specs.commands.Places.{Placed, AreStatements}
use Rattle.rules_files.specs.commands.Replay.{Replay, State, step, IsReplay}
use Rattle.laws_files.specs.Laws.{IsGoodCourse, StaysGood, granted_by}
use Rattle.laws_files.proofs.ForCallers.{statements_have_ranges, statements_are_small, courses_begin_good, courses_stay_good}
use Rattle.laws_commands.specs.written.Written.{HasForm}
use Rattle.laws_commands.specs.written.Worlds.{IsWrittenAccount, IsWrittenAt, IsWrittenWorld, IsWrittenReceipt, IsWrittenStatement}
use Rattle.laws_commands.proofs.written_lemmas.worlds.Worlds.{endowed_written}
use Rattle.laws_commands.proofs.written_lemmas.worlds.Groups.{group_written}
use Rattle.laws_commands.proofs.written_lemmas.files.Statements.{form_written}
use Rattle.laws_commands.proofs.common.Files.{may_settle, Counted, Keeps, counted, along_file}
use Rattle.laws_commands.proofs.common.Lists.{all_append}

-- ---- one statement

abbrev IsInOrder : List Receipt → Option Course → Type 0
IsInOrder rs None = rs ≡ []
IsInOrder rs (Some c) = IsGoodCourse c × (c.groups ≡ length rs) × IsWrittenWorld c.world × AllByRecursion IsWrittenReceipt rs

abbrev Leaves : Step → Type 0
Leaves (goes_on c more) = IsWrittenWorld c.world × AllByRecursion IsWrittenReceipt more
Leaves (stops why) = Unit {0}
Leaves stuck_step = Unit {0}

leaves_prices : (c : Course) (r : Result Listed ℕ) → IsWrittenWorld c.world → Leaves (with_prices c r)
leaves_prices c (Ok prices) h = (h, tt)
leaves_prices c (Err location) h = tt

leaves_costs : (b : Bool) (c : Course) (table : Tree) → IsWrittenWorld c.world → Leaves (costs_step b c table)
leaves_costs true c table h = leaves_prices c (table_of table) h
leaves_costs false c table h = tt

leaves_profile : (c : Course) (rate : ℕ) (b : Bool) → IsWrittenWorld c.world →
    Leaves (cond b (goes_on (with_rate c rate) []) (stops BadOrder))
leaves_profile c rate true h = (record { chain = h.chain; level = h.level; accounts = h.accounts; contracts = h.contracts; log = h.log; issuers = h.issuers }, tt)
leaves_profile c rate false h = tt

leaves_grant : (c : Course) (who : List ℕ) (mutez : ℕ) (a b : Bool) → IsWrittenWorld (endowed c.world who mutez) →
    Leaves (granting c (cond a Repeated (cond b (Granted (endowed c.world who mutez)) TooMuch)))
leaves_grant c who mutez true b h = tt
leaves_grant c who mutez false true h = (h, tt)
leaves_grant c who mutez false false h = tt

leaves_block : (c : Course) (level : ℕ) (moment : ℤ) (b : Bool) → level ≤ most_level → IsWrittenWorld c.world →
    Leaves (cond b (goes_on (timed c level moment) []) (stops BadOrder))
leaves_block c level moment true few h = (record { chain = h.chain; level = few; accounts = h.accounts; contracts = h.contracts; log = h.log; issuers = h.issuers }, tt)
leaves_block c level moment false few h = tt

leaves_group : (c : Course) (o : Option Settled) → ((s : Settled) → o ≡ Some s → IsWrittenWorld s.world × IsWrittenReceipt s.receipt) →
    Leaves (numbered c o)
leaves_group c (Some s) h = let i = h s refl in (i.0, (i.1, tt))
leaves_group c None h = tt

leaves_step : (c : Course) (s : Statement) → IsGoodCourse c → c.groups + 1 < 2 ^ 64 → IsStatement s → IsWrittenStatement s →
    IsWrittenWorld c.world → Leaves (step_behind c s)
leaves_step c (Chain id level moment) g few i f h = tt
leaves_step c (Profile rate) g few i f h = leaves_profile c rate (c.at_head && is_none c.world.rate) h
leaves_step c (Costs table) g few i f h = leaves_costs c.at_head c table h
leaves_step c (Account who mutez) g few i f h =
    leaves_grant c who mutez (is_some (account_at c.world who)) (nat_le (c.world.granted + mutez) most_mutez)
    (endowed_written c.world who mutez h f)
leaves_step c (Block level moment) g few i f h = leaves_block c level moment (is_later c.world level moment) f h
leaves_step c (Group source contents) g few i f h =
    leaves_group c (group c.prices (c.groups + 1) source contents c.world)
    (λ s e. group_written c.prices (c.groups + 1) source contents c.world s (may_settle c source contents g few i) f.0 f.1 h e)

leaves_first : (s : Statement) → IsWrittenStatement s → Leaves (first_step s)
leaves_first (Chain id level moment) f = (
  record {
    chain = f.0;
    level = f.1;
    accounts = All-nil IsWrittenAccount;
    contracts = All-nil IsWrittenAt;
    log = tt;
    issuers = tt;
  },
  tt,
)
leaves_first (Profile rate) f = tt
leaves_first (Costs table) f = tt
leaves_first (Account who mutez) f = tt
leaves_first (Block level moment) f = tt
leaves_first (Group source contents) f = tt

keeps : (rs : List Receipt) (groups granted more : ℕ) (x : Step) → groups ≡ length rs → AllByRecursion IsWrittenReceipt rs →
    StaysGood groups granted more x → Leaves x → Keeps IsInOrder rs x
keeps rs groups granted more (goes_on c receipts) e h g r = (
  (g.0, g.1 ∙ ap (λ n. n + length receipts) e ∙ sym (length-append rs receipts), r.0, all_append IsWrittenReceipt rs receipts h r.1),
  g.3,
)
keeps rs groups granted more (stops why) e h g r = tt
keeps rs groups granted more stuck_step e h g r = tt

one_keeps : (rs : List Receipt) (o : Option Course) (s : Statement) → IsInOrder rs o → length rs + 1 < 2 ^ 64 → IsStatement s →
    IsWrittenStatement s → Keeps IsInOrder rs (step o s)
one_keeps rs (Some c) s h few i f =
    let room : c.groups + 1 < 2 ^ 64 = subst (λ (n : ℕ). n + 1 < 2 ^ 64) (sym h.1) few in
    keeps rs c.groups c.world.granted (granted_by s) (step_behind c s) h.1 h.3 (courses_stay_good c s h.0 room i)
    (leaves_step c s h.0 room i f h.2)
one_keeps rs None s h few i f =
    subst (λ (rs : List Receipt). Keeps IsInOrder rs (first_step s)) (sym h)
    (keeps [] 0 0 (granted_by s) (first_step s) refl tt (courses_begin_good s i) (leaves_first s f))

-- ---- files

-- a node of a text
abbrev IsFine : Placed → Type 0
IsFine s = HasForm s.node × (size s.node < 2 ^ 32)

abbrev EndsWritten : Replay → World → Type 0
EndsWritten done w = IsWrittenWorld w × AllByRecursion IsWrittenReceipt done.receipts × (length done.receipts < 2 ^ 64)

-- each node of a text can be written
module _ (forms : (before : ℕ) (text : List ℕ) (tree : Tree) (start end : ℕ) → IsNode before text tree start end → HasForm tree) where
  all_fine : (file : List ℕ) (place : ℕ) (ss : List Placed) (to : ℕ) → AreStatements file place ss to →
      AllByRecursion (λ s. size s.node < 2 ^ 32) ss → AllByRecursion IsFine ss
  all_fine file place [] to h small = tt
  all_fine file place (s ∷ ss) to h small = ((forms _ _ s.node h.1.0 h.1.1 h.1.2, small.0), all_fine file h.0 ss to h.2 small.1)

  pub files_end_written : (file : List ℕ) (done : Replay) (w : World) → IsReplay file done → done.ending ≡ State w → EndsWritten done w
  files_end_written file done w r g =
      let small = statements_are_small file r.statements r.to r.stand in
      let end = along_file (Counted IsInOrder) IsFine
      (λ n rs o s x fine e few h. counted IsInOrder n rs (step o x)
      (one_keeps rs o x h.0 (let le = h.1 in omega (arith, le, few)) (statements_have_ranges s.node x e fine.1) (form_written s.node x fine.0 e)) h.1)
      (refl, omega arith) file done w r (all_fine file 0 r.statements r.to r.stand small.nodes) g in
      let le = end.holds.1 in
      let few = end.few in
      (subst IsWrittenWorld (sym end.is) end.holds.0.2, end.holds.0.3, omega (arith, le, few))
