-- The log of the world at a file's end is what its receipts tell.
use Rattle.std.proofs.Common.{◌≡◌, ℕ, Bool, true, false, cond, Option, Some, None, List, [], ◌∷◌, ◌++◌, refl, sym, ap, ◌∙◌, subst, append_assoc}
use Rattle.std.proofs.lemmas.List.{append-nil}
use Rattle.std.specs.Prelude.{Result, Ok, Err, ℤ, ◌+◌, ◌&&◌, nat_le, is_none, is_some}
use Rattle.rules_text.specs.nodes.Tree.{Tree}
use Rattle.rules_text.specs.nodes.Limits.{most_mutez}
use Rattle.rules_data.specs.gas.Prices.{Listed}
use Rattle.rules_data.specs.gas.Tables.{table_of}
use Rattle.rules_files.specs.statements.Statements.{Statement, Chain, Profile, Costs, Account, Block, Group}
use Rattle.rules_world.specs.world.Receipts.{Receipt}
use Rattle.rules_world.specs.world.World.{World, account_at}
use Rattle.rules_world.specs.world.Balances.{Granted, Repeated, TooMuch, endowed}
use Rattle.rules_world.specs.world.Groups.{Settled, group}
use Rattle.rules_files.specs.course.Course.{Course, Step, goes_on, stops, stuck_step, with_rate, with_prices, costs_step, granting, is_later, timed, numbered, step_behind, first_step}
use Rattle.rules_files.specs.commands.Replay.{step, Replay, IsReplay, State}
use Rattle.laws_commands.specs.audits.Changes.{BurnsAtRate, KeepsBurn, receipt_changes}
use Rattle.laws_commands.specs.audits.FileLogs.{receipts_changes, FilesBurnAtRate, FilesTellChanges}
use Rattle.laws_commands.proofs.audits_lemmas.Logs.{groups_keep_burn, receipts_tell}
use Rattle.laws_commands.proofs.common.Files.{Behind, along_file, AtEnd}
use Rattle.laws_commands.proofs.common.Steps.{any_all}

pub changes_append : (rs ss : List Receipt) → receipts_changes (rs ++ ss) ≡ receipts_changes rs ++ receipts_changes ss
changes_append [] ss = refl
changes_append (r ∷ rs) ss = ap (λ cs. receipt_changes r ++ cs) (changes_append rs ss) ∙ sym (append_assoc (receipt_changes r) (receipts_changes rs) (receipts_changes ss))

abbrev LogIs : List Receipt → Option Course → Type 0
LogIs rs (Some c) = (c.world.log ≡ receipts_changes rs) × BurnsAtRate c.world
LogIs rs None = rs ≡ []

-- a step adds to the log of a world what its receipts tell, and burns nothing where there is no rate
abbrev Adding : World → Step → Type 0
Adding w (goes_on c more) = (c.world.log ≡ w.log ++ receipts_changes more) × (BurnsAtRate w → BurnsAtRate c.world)
Adding w (stops why) = Unit {0}
Adding w stuck_step = Unit {0}

profile_adds : (c : Course) (rate : ℕ) (b : Bool) → Adding c.world (cond b (goes_on (with_rate c rate) []) (stops Rattle.rules_files.specs.course.Course.BadOrder))
profile_adds c rate true = (sym (append-nil c.world.log), λ z e. absurd (rated rate e))
  where
    rated : (rate : ℕ) → Some rate ≡ None → ⊥
    rated rate e = absurd cc
profile_adds c rate false = tt

prices_add : (c : Course) (r : Result Listed ℕ) → Adding c.world (with_prices c r)
prices_add c (Ok prices) = (sym (append-nil c.world.log), λ z. z)
prices_add c (Err location) = tt

costs_add : (b : Bool) (c : Course) (table : Tree) → Adding c.world (costs_step b c table)
costs_add true c table = prices_add c (table_of table)
costs_add false c table = tt

grant_adds : (c : Course) (who : List ℕ) (mutez : ℕ) (a b : Bool) → Adding c.world (granting c (cond a Repeated (cond b (Granted (endowed c.world who mutez)) TooMuch)))
grant_adds c who mutez true b = tt
grant_adds c who mutez false true = (sym (append-nil c.world.log), λ z. z)
grant_adds c who mutez false false = tt

block_adds : (c : Course) (level : ℕ) (moment : ℤ) (b : Bool) → Adding c.world (cond b (goes_on (timed c level moment) []) (stops Rattle.rules_files.specs.course.Course.BadOrder))
block_adds c level moment true = (sym (append-nil c.world.log), λ z. z)
block_adds c level moment false = tt

group_adds : (c : Course) (o : Option Settled) → ((s : Settled) → o ≡ Some s → s.world.log ≡ c.world.log ++ receipt_changes s.receipt) →
    ((s : Settled) → o ≡ Some s → KeepsBurn c.world s.world) → Adding c.world (numbered c o)
group_adds c (Some s) h k =
    let kept = k s refl in
    (h s refl ∙ ap (λ cs. c.world.log ++ cs) (sym (append-nil (receipt_changes s.receipt))), λ z e. kept.1 (sym kept.0 ∙ e) ∙ z (sym kept.0 ∙ e))
group_adds c None h k = tt

behind_adds : (c : Course) (s : Statement) → Adding c.world (step_behind c s)
behind_adds c (Chain id level moment) = tt
behind_adds c (Profile rate) = profile_adds c rate (c.at_head && is_none c.world.rate)
behind_adds c (Costs table) = costs_add c.at_head c table
behind_adds c (Account who mutez) = grant_adds c who mutez (is_some (account_at c.world who)) (nat_le (c.world.granted + mutez) most_mutez)
behind_adds c (Block level moment) = block_adds c level moment (is_later c.world level moment)
behind_adds c (Group source contents) =
    group_adds c (group c.prices (c.groups + 1) source contents c.world) (λ s e. receipts_tell c.prices (c.groups + 1) source contents c.world s e)
    (λ s e. groups_keep_burn c.prices (c.groups + 1) source contents c.world s e)

added : (rs : List Receipt) (w : World) (s : Step) → w.log ≡ receipts_changes rs → BurnsAtRate w → Adding w s → Behind LogIs rs s
added rs w (goes_on c more) e z h = (h.0 ∙ ap (λ l. l ++ receipts_changes more) e ∙ sym (changes_append rs more), h.1 z)
added rs w (stops why) e z h = tt
added rs w stuck_step e z h = tt

first_adds : (s : Statement) → Behind LogIs [] (first_step s)
first_adds (Chain id level moment) = (refl, λ e. refl)
first_adds (Profile rate) = tt
first_adds (Costs table) = tt
first_adds (Account who mutez) = tt
first_adds (Block level moment) = tt
first_adds (Group source contents) = tt

one_adds : (rs : List Receipt) (o : Option Course) (s : Statement) → LogIs rs o → Behind LogIs rs (step o s)
one_adds rs (Some c) s h = added rs c.world (step_behind c s) h.0 h.1 (behind_adds c s)
one_adds rs None s h = subst (λ rs. Behind LogIs rs (first_step s)) (sym h) (first_adds s)

log_at_end : (file : List ℕ) (done : Replay) (w : World) → IsReplay file done → done.ending ≡ State w → AtEnd (λ n. LogIs) done w
log_at_end file done w r g =
    along_file (λ n. LogIs) (λ s. Unit {0}) (λ n rs o s x fine e few h. one_adds rs o x h) refl file done w r (any_all r.statements) g

pub files_tell : FilesTellChanges
files_tell file done w r g =
    let end = log_at_end file done w r g in
    ap (λ (w : World). w.log) end.is ∙ end.holds.0

pub files_burn : FilesBurnAtRate
files_burn file done w r g =
    let end = log_at_end file done w r g in
    subst BurnsAtRate (sym end.is) end.holds.1
