-- What a course tells of the statements that stood before it.
use Rattle.std.proofs.Common.{◌≡◌, ◌≤◌, ◌+◌, ◌⊎◌, inl, inr, ◌&&◌, ◌||◌, ℕ, ℤ, pos, nat_le, Bool, true, false, cond, List, [], ◌∷◌, ◌++◌, codes, Some, None, Ok, Err, refl, sym, subst, is_some}
use Rattle.std.specs.declared.option.Option.{Option}
use Rattle.std.specs.Prelude.{Result, is_none}
use Rattle.std.specs.Option.{option_map}
use Rattle.std.specs.List.{list_any}
use Rattle.std.specs.Str.{bytes_eq}
use Rattle.rules_text.specs.nodes.Limits.{most_mutez, most_level, most_rate}
use Rattle.rules_text.specs.nodes.Tree.{Tree, int, str, bytes, prim, seq}
use Rattle.rules_data.specs.gas.Prices.{Listed, nothing_listed}
use Rattle.rules_data.specs.gas.Tables.{table_of}
use Rattle.rules_data.specs.forms.Spelling.{is_chain_id, is_key_hash}
use Rattle.rules_world.specs.world.Balances.{Granted, Repeated, TooMuch, endowed}
use Rattle.rules_world.specs.world.Groups.{Settled, group}
use Rattle.rules_world.specs.world.Receipts.{Receipt}
use Rattle.rules_world.specs.world.World.{World, account_at}
use Rattle.rules_files.specs.statements.Statements.{Statement, Chain, Profile, Costs, Account, Block, Group, within, number_of, moment_of, bytes_of, nodes_of, named, contents_of, chain_of, profile_of, costs_of, account_of, block_of, group_of, statement_by, form}
use Rattle.rules_files.specs.statements.Statements as statements
use Rattle.rules_files.specs.course.Course.{Course, Step, goes_on, stops, stuck_step, with_rate, with_prices, costs_step, granting, is_later, timed, numbered, step_behind, first_step, BadOrder}
use Rattle.rules_files.specs.commands.Places.{Placed}
use Rattle.rules_files.specs.commands.Replay.{FileFault, BadStatement, Run, going, stopped, stuck_run, step, continued, taken, run_all}
use Rattle.rules_files.specs.commands.Snapshots.{as_list, statements_of}
use Rattle.rules_files.specs.snapshots.Course.{is_costs, is_start}
use Rattle.laws_commands.proofs.reached_lemmas.Prices.{ArePriced, nothing_priced, table_priced}
use Rattle.laws_commands.proofs.written_lemmas.files.Statements.{then_has, any_then, either_has, number_has}
use Rattle.laws_commands.proofs.common.Lists.{OnSome}

-- ---- the ranges of levels and rates

-- levels below 2^31 and rates within their limit
abbrev pub IsRanged : Statement → Type 0
IsRanged (Chain id level moment) = level ≤ most_level
IsRanged (Profile rate) = rate ≤ most_rate
IsRanged (Block level moment) = level ≤ most_level
IsRanged s = Unit {0}

chain_has : (ts : List Tree) → OnSome IsRanged (chain_of ts)
chain_has (id ∷ level ∷ moment ∷ []) =
    any_then IsRanged (bytes_of is_chain_id id) _ (λ id.
    then_has (λ n. n ≤ most_level) IsRanged (number_of most_level level) _ (number_has most_level level)
    (λ level h. any_then IsRanged (moment_of moment) (λ moment. Some (Chain id level moment)) (λ moment. h)))
chain_has _ = tt

profile_has : (ts : List Tree) → OnSome IsRanged (profile_of ts)
profile_has (profile ∷ rate ∷ []) =
    any_then IsRanged (within (pos 2) (pos 2) profile) _ (λ p. by (number_of most_rate rate) (number_has most_rate rate))
  where
    by : (o : Option ℕ) → OnSome (λ n. n ≤ most_rate) o → OnSome IsRanged (option_map Profile o)
    by (Some n) h = h
    by None h = tt
profile_has _ = tt

costs_has : (ts : List Tree) → OnSome IsRanged (costs_of ts)
costs_has (table ∷ []) = by (statements.table_of table)
  where
    by : (o : Option Tree) → OnSome IsRanged (option_map Costs o)
    by (Some n) = tt
    by None = tt
costs_has _ = tt

account_has : (ts : List Tree) → OnSome IsRanged (account_of ts)
account_has (who ∷ mutez ∷ []) =
    any_then IsRanged (bytes_of is_key_hash who) _ (λ who. any_then IsRanged (number_of most_mutez mutez) (λ mutez. Some (Account who mutez)) (λ mutez. tt))
account_has _ = tt

block_has : (ts : List Tree) → OnSome IsRanged (block_of ts)
block_has (level ∷ moment ∷ []) =
    then_has (λ n. n ≤ most_level) IsRanged (number_of most_level level) _ (number_has most_level level)
    (λ level h. any_then IsRanged (moment_of moment) (λ moment. Some (Block level moment)) (λ moment. h))
block_has _ = tt

group_has : (ts : List Tree) → OnSome IsRanged (group_of ts)
group_has (source ∷ contents ∷ []) =
    any_then IsRanged (bytes_of is_key_hash source) _ (λ source. any_then IsRanged (contents_of contents) (λ contents. Some (Group source contents)) (λ cs. tt))
group_has _ = tt

statement_has : (name : List ℕ) (ts : List Tree) → OnSome IsRanged (statement_by name ts)
statement_has name ts =
    either_has IsRanged (bytes_eq name (codes "Chain")) _ _ (chain_has ts)
    (either_has IsRanged (bytes_eq name (codes "Profile")) _ _ (profile_has ts)
    (either_has IsRanged (bytes_eq name (codes "Costs")) _ _ (costs_has ts)
    (either_has IsRanged (bytes_eq name (codes "Account")) _ _ (account_has ts)
    (either_has IsRanged (bytes_eq name (codes "Block")) _ _ (block_has ts)
    (either_has IsRanged (bytes_eq name (codes "Group")) (group_of ts) None (group_has ts) tt)))))

named_has : (t : Tree) → OnSome IsRanged (named statement_by t)
named_has (prim name [] ts) = statement_has name (nodes_of ts)
named_has (prim name (a ∷ annots) ts) = tt
named_has (int n) = tt
named_has (str s) = tt
named_has (bytes b) = tt
named_has (seq ts) = tt

pub form_ranged : (t : Tree) (s : Statement) → form t ≡ Some s → IsRanged s
form_ranged t s e = let h : OnSome IsRanged (Some s) = subst (OnSome IsRanged) e (named_has t) in h

-- ---- the marks

-- with these marks: whether a table of prices stood, and whether an account, a block or a group did
pub record Tracks (costs started : Bool) (c : Course) : Type 0 where
  pub priced : ArePriced c.prices
  pub standard : (costs ≡ true) ⊎ (c.prices ≡ nothing_listed)
  pub begun : (started ≡ true) ⊎ ((c.groups ≡ 0) × (c.world.accounts ≡ []) × (c.world.contracts ≡ []))

abbrev TracksStep : Bool → Bool → Step → Type 0
TracksStep a b (goes_on c receipts) = Tracks a b c
TracksStep a b (stops why) = Unit {0}
TracksStep a b stuck_step = Unit {0}

first_tracks : (s : Statement) → TracksStep (is_costs s) (is_start s) (first_step s)
first_tracks (Chain id level moment) = record { priced = nothing_priced; standard = inr refl; begun = inr (refl, refl, refl) }
first_tracks (Profile rate) = tt
first_tracks (Costs table) = tt
first_tracks (Account who mutez) = tt
first_tracks (Block level moment) = tt
first_tracks (Group source contents) = tt

or_true : (a : Bool) → (a || true) ≡ true
or_true true = refl
or_true false = refl

or_false : (a : Bool) → (a || false) ≡ a
or_false true = refl
or_false false = refl

module _ (a b : Bool) (c : Course) (h : Tracks a b c) where
  -- with another world and more groups behind an account, a block or a group
  onward : (w : World) (groups : ℕ) → Tracks (a || false) (b || true) (record c { world = w; groups = groups; at_head = false })
  onward w groups = record {
    priced = h.priced;
    standard = subst (λ x. (x ≡ true) ⊎ (c.prices ≡ nothing_listed)) (sym (or_false a)) h.standard;
    begun = inl (or_true b);
  }

  profiled : (rate : ℕ) (t : Bool) → TracksStep (a || false) (b || false) (cond t (goes_on (with_rate c rate) []) (stops BadOrder))
  profiled rate true = record {
    priced = h.priced;
    standard = subst (λ x. (x ≡ true) ⊎ (c.prices ≡ nothing_listed)) (sym (or_false a)) h.standard;
    begun = subst (λ x. (x ≡ true) ⊎ ((c.groups ≡ 0) × (c.world.accounts ≡ []) × (c.world.contracts ≡ []))) (sym (or_false b)) h.begun;
  }
  profiled rate false = tt

  listed : (table : Tree) (r : Result Listed ℕ) → table_of table ≡ r → TracksStep (a || true) (b || false) (with_prices c r)
  listed table (Ok prices) e = record {
    priced = table_priced table prices e;
    standard = inl (or_true a);
    begun = subst (λ x. (x ≡ true) ⊎ ((c.groups ≡ 0) × (c.world.accounts ≡ []) × (c.world.contracts ≡ []))) (sym (or_false b)) h.begun;
  }
  listed table (Err location) e = tt

  costs_tracks : (t : Bool) (table : Tree) → TracksStep (a || true) (b || false) (costs_step t c table)
  costs_tracks true table = listed table (table_of table) refl
  costs_tracks false table = tt

  grant_tracks : (who : List ℕ) (mutez : ℕ) (x y : Bool) →
      TracksStep (a || false) (b || true) (granting c (cond x Repeated (cond y (Granted (endowed c.world who mutez)) TooMuch)))
  grant_tracks who mutez true y = tt
  grant_tracks who mutez false true = onward (endowed c.world who mutez) c.groups
  grant_tracks who mutez false false = tt

  block_tracks : (level : ℕ) (moment : ℤ) (t : Bool) → TracksStep (a || false) (b || true) (cond t (goes_on (timed c level moment) []) (stops BadOrder))
  block_tracks level moment true = onward (record (c.world) { level = level; moment = moment }) c.groups
  block_tracks level moment false = tt

  group_tracks : (o : Option Settled) → TracksStep (a || false) (b || true) (numbered c o)
  group_tracks (Some s) = onward s.world (c.groups + 1)
  group_tracks None = tt

  step_tracks : (s : Statement) → TracksStep (a || is_costs s) (b || is_start s) (step_behind c s)
  step_tracks (Chain id level moment) = tt
  step_tracks (Profile rate) = profiled rate (c.at_head && is_none c.world.rate)
  step_tracks (Costs table) = costs_tracks c.at_head table
  step_tracks (Account who mutez) = grant_tracks who mutez (is_some (account_at c.world who)) (nat_le (c.world.granted + mutez) most_mutez)
  step_tracks (Block level moment) = block_tracks level moment (is_later c.world level moment)
  step_tracks (Group source contents) = group_tracks (group c.prices (c.groups + 1) source contents c.world)

-- ---- all statements

any_first : (a b : Bool) (x : Bool) → ((a || x) || b) ≡ (a || (x || b))
any_first true b x = refl
any_first false b x = refl

-- nothing stands before the first statement
abbrev Fresh : Bool → Bool → Option Course → Type 0
Fresh a b None = (a ≡ false) × (b ≡ false)
Fresh a b (Some c) = Tracks a b c

abbrev FreshRun : Bool → Bool → Run → Type 0
FreshRun a b (going receipts c) = Fresh a b c
FreshRun a b (stopped receipts f place) = Unit {0}
FreshRun a b stuck_run = Unit {0}

fresh_step : (a b : Bool) (c : Option Course) (s : Statement) → Fresh a b c → TracksStep (a || is_costs s) (b || is_start s) (step c s)
fresh_step a b None s h =
    subst (λ x. TracksStep (x || is_costs s) (b || is_start s) (first_step s)) (sym h.0)
    (subst (λ x. TracksStep (false || is_costs s) (x || is_start s) (first_step s)) (sym h.1) (first_tracks s))
fresh_step a b (Some c) s h = step_tracks a b c h s

continued_fresh : (a b : Bool) (receipts : List Receipt) (place : ℕ) (x : Step) → TracksStep a b x → FreshRun a b (continued receipts place x)
continued_fresh a b receipts place (goes_on c more) h = h
continued_fresh a b receipts place (stops why) h = tt
continued_fresh a b receipts place stuck_step h = tt

stopped_stays : (a b : Bool) (receipts : List Receipt) (f : FileFault) (place : ℕ) (ss : List Placed) →
    FreshRun a b (run_all (stopped receipts f place) ss)
stopped_stays a b receipts f place [] = tt
stopped_stays a b receipts f place (s ∷ ss) = stopped_stays a b receipts f place ss

stuck_stays : (a b : Bool) (ss : List Placed) → FreshRun a b (run_all stuck_run ss)
stuck_stays a b [] = tt
stuck_stays a b (s ∷ ss) = stuck_stays a b ss

all_track : (ss : List Placed) (a b : Bool) (r : Run) → FreshRun a b r →
    FreshRun (a || list_any is_costs (statements_of ss)) (b || list_any is_start (statements_of ss)) (run_all r ss)
all_track [] a b r h = subst (λ x. FreshRun x (b || false) r) (sym (or_false a)) (subst (λ x. FreshRun a x r) (sym (or_false b)) h)
all_track (s ∷ ss) a b (stopped receipts f place) h = stopped_stays _ _ receipts f place ss
all_track (s ∷ ss) a b stuck_run h = stuck_stays _ _ ss
all_track (s ∷ ss) a b (going receipts c) h = by (form s.node) (λ x y r i. all_track ss x y r i)
  where
    by : (o : Option Statement) →
        ((x y : Bool) (r : Run) → FreshRun x y r →
        FreshRun (x || list_any is_costs (statements_of ss)) (y || list_any is_start (statements_of ss)) (run_all r ss)) →
        FreshRun (a || list_any is_costs (as_list o ++ statements_of ss)) (b || list_any is_start (as_list o ++ statements_of ss))
        (run_all (taken receipts c s.place o) ss)
    by None again = stopped_stays _ _ receipts BadStatement s.place ss
    by (Some x) again =
        let rest = again (a || is_costs x) (b || is_start x) (continued receipts s.place (step c x))
        (continued_fresh (a || is_costs x) (b || is_start x) receipts s.place (step c x) (fresh_step a b c x h)) in
        subst (λ y. FreshRun y (b || (is_start x || list_any is_start (statements_of ss))) (run_all (continued receipts s.place (step c x)) ss))
        (any_first a (list_any is_costs (statements_of ss)) (is_costs x))
        (subst (λ y. FreshRun ((a || is_costs x) || list_any is_costs (statements_of ss)) y (run_all (continued receipts s.place (step c x)) ss))
        (any_first b (list_any is_start (statements_of ss)) (is_start x)) rest)

-- the marks of a file's statements are those of its course
pub courses_track : (ss : List Placed) (receipts : List Receipt) (c : Course) → run_all (going [] None) ss ≡ going receipts (Some c) →
    Tracks (list_any is_costs (statements_of ss)) (list_any is_start (statements_of ss)) c
courses_track ss receipts c e =
    let h : FreshRun (list_any is_costs (statements_of ss)) (list_any is_start (statements_of ss)) (going receipts (Some c)) =
    subst (FreshRun (list_any is_costs (statements_of ss)) (list_any is_start (statements_of ss))) e (all_track ss false false (going [] None) (refl, refl)) in
    h
