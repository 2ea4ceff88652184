-- Courses that differ only in what the logs of their worlds begin with, and in tables that list the same prices.
use Rattle.std.proofs.Common.{◌≡◌, ℕ, ◌+◌, Bool, true, false, List, [], ◌∷◌, ◌++◌, map, Option, Some, None, refl, ap, ◌∙◌, subst, append_assoc, ◌&&◌, is_some, if◌then◌else◌}
use Rattle.std.specs.Prelude.{Result, Ok, Err, ℤ, nat_le, is_none}
use Rattle.rules_text.specs.nodes.Limits.{most_mutez}
use Rattle.rules_text.specs.nodes.Tree.{Tree}
use Rattle.rules_data.specs.gas.Prices.{Listed}
use Rattle.rules_data.specs.gas.Tables.{table_of}
use Rattle.rules_code.specs.steps.Changes.{Change}
use Rattle.rules_world.specs.world.Balances.{Granted, Repeated, TooMuch, granted_to, endowed}
use Rattle.rules_world.specs.world.Groups.{Settled, group}
use Rattle.rules_world.specs.world.Receipts.{Receipt}
use Rattle.rules_world.specs.world.World.{account_at}
use Rattle.rules_files.specs.statements.Statements.{Statement, Chain, Profile, Costs, Account, Block, Group, form}
use Rattle.rules_files.specs.course.Course.{Course, Step, goes_on, stops, stuck_step, with_rate, profile_step, with_prices, costs_step, granting, is_later, timed, block_step, numbered, group_step, step_behind}
use Rattle.rules_files.specs.course.Course as course
use Rattle.rules_files.specs.commands.Places.{Placed}
use Rattle.rules_files.specs.commands.Replay.{fault_of, Run, going, stopped, stuck_run, continued, taken, run_one, run_all}
use Rattle.laws_commands.proofs.resuming_lemmas.prices.Plain.{plain}
use Rattle.laws_commands.proofs.resuming_lemmas.logs.Told.{AreAlikeLogs}
use Rattle.laws_commands.proofs.resuming_lemmas.worlds.Relogged.{relogged}
use Rattle.laws_commands.proofs.resuming_lemmas.worlds.Runs.{Pair}
use Rattle.laws_commands.proofs.resuming_lemmas.worlds.Groups.{AreAlikeSettled, group_alike}

module _ (first other : List Change) (logs : AreAlikeLogs first other) where
  pub record AreTwins (c d : Course) : Type 0 where
    pub more : List Change
    pub begins : c.world.log ≡ first ++ more
    pub world : relogged (other ++ more) c.world ≡ d.world
    pub prices : plain c.prices ≡ plain d.prices
    pub groups : c.groups ≡ d.groups
    pub at_head : c.at_head ≡ d.at_head

  -- ---- steps

  abbrev AreAlikeSteps : Step → Step → Type 0
  AreAlikeSteps (goes_on c told) (goes_on d same) = AreTwins c d × (told ≡ same)
  AreAlikeSteps (stops why) (stops same) = why ≡ same
  AreAlikeSteps stuck_step stuck_step = Unit {0}
  AreAlikeSteps step same = ⊥

  module _ (c : Course) (more : List Change) (begins : c.world.log ≡ first ++ more) (prices : Listed)
      (same : plain c.prices ≡ plain prices) where
    abbrev twin : Course
    twin = record { world = relogged (other ++ more) c.world; prices = prices; groups = c.groups; at_head = c.at_head }

    profile_alike : (rate : ℕ) → AreAlikeSteps (profile_step c rate) (profile_step twin rate)
    profile_alike rate = by (c.at_head && is_none c.world.rate) where
      by : (b : Bool) →
          AreAlikeSteps (if b then goes_on (with_rate c rate) [] else stops course.BadOrder)
          (if b then goes_on (with_rate twin rate) [] else stops course.BadOrder)
      by true = (record { more = more; begins = begins; world = refl; prices = same; groups = refl; at_head = refl }, refl)
      by false = refl

    priced_alike : (r : Result Listed ℕ) → AreAlikeSteps (with_prices c r) (with_prices twin r)
    priced_alike (Ok listed) = (record { more = more; begins = begins; world = refl; prices = refl; groups = refl; at_head = refl }, refl)
    priced_alike (Err l) = refl

    costs_alike : (b : Bool) (table : Tree) → AreAlikeSteps (costs_step b c table) (costs_step b twin table)
    costs_alike true table = priced_alike (table_of table)
    costs_alike false table = refl

    grant_alike : (who : List ℕ) (mutez : ℕ) →
        AreAlikeSteps (granting c (granted_to c.world who mutez)) (granting twin (granted_to twin.world who mutez))
    grant_alike who mutez = by (is_some (account_at c.world who)) (nat_le (c.world.granted + mutez) most_mutez) where
      by : (there few : Bool) →
          AreAlikeSteps (granting c (if there then Repeated else if few then Granted (endowed c.world who mutez) else TooMuch))
          (granting twin (if there then Repeated else if few then Granted (endowed twin.world who mutez) else TooMuch))
      by true few = refl
      by false true = (record { more = more; begins = begins; world = refl; prices = same; groups = refl; at_head = refl }, refl)
      by false false = refl

    block_alike : (level : ℕ) (moment : ℤ) → AreAlikeSteps (block_step c level moment) (block_step twin level moment)
    block_alike level moment = by (is_later c.world level moment) where
      by : (b : Bool) →
          AreAlikeSteps (if b then goes_on (timed c level moment) [] else stops course.BadOrder)
          (if b then goes_on (timed twin level moment) [] else stops course.BadOrder)
      by true = (record { more = more; begins = begins; world = refl; prices = same; groups = refl; at_head = refl }, refl)
      by false = refl

    abbrev pair : List ℕ → Pair
    pair source = record {
      group = c.groups + 1;
      source = source;
      first = first;
      other = other;
      prices = c.prices;
      others = prices;
      minted = logs.minted;
      same = same;
    }

    numbered_alike : (source : List ℕ) (o q : Option Settled) → AreAlikeSettled (pair source) o q →
        AreAlikeSteps (numbered c o) (numbered twin q)
    numbered_alike source (Some a) (Some b) h =
        subst (λ (b : Settled). AreAlikeSteps (numbered c (Some a)) (numbered twin (Some b))) h.2
        (record { more = h.0; begins = h.1; world = refl; prices = same; groups = refl; at_head = refl }, refl)
    numbered_alike source None None h = tt
    numbered_alike source o q h = absurd h

    twin_alike : (s : Statement) → AreAlikeSteps (step_behind c s) (step_behind twin s)
    twin_alike (Chain id level moment) = refl
    twin_alike (Profile rate) = profile_alike rate
    twin_alike (Costs table) = costs_alike c.at_head table
    twin_alike (Account who mutez) = grant_alike who mutez
    twin_alike (Block level moment) = block_alike level moment
    twin_alike (Group source contents) =
        numbered_alike source (group c.prices (c.groups + 1) source contents c.world)
        (group prices (c.groups + 1) source contents twin.world)
        (group_alike (pair source) contents c.world more begins)

  step_alike : (c d : Course) (s : Statement) → AreTwins c d → AreAlikeSteps (step_behind c s) (step_behind d s)
  step_alike c d s t =
      subst (λ (d : Course). AreAlikeSteps (step_behind c s) (step_behind d s))
      (λ k. record { world = t.world k; prices = d.prices; groups = t.groups k; at_head = t.at_head k })
      (twin_alike c t.more t.begins d.prices t.prices s)

  -- ---- runs: one behind receipts and bytes, the other alone

  module _ (before : List Receipt) (size : ℕ) where
    abbrev pub AreAlikeRuns : Run → Run → Type 0
    AreAlikeRuns (going rs (Some c)) (going ts (Some d)) = (rs ≡ before ++ ts) × AreTwins c d
    AreAlikeRuns (stopped rs f place) (stopped ts g here) = (rs ≡ before ++ ts) × (f ≡ g) × (place ≡ size + here)
    AreAlikeRuns stuck_run stuck_run = Unit {0}
    AreAlikeRuns r q = ⊥

    abbrev pub behind : Placed → Placed
    behind s = record { place = size + s.place; node = s.node }

    continued_alike : (rs ts : List Receipt) (place : ℕ) (x y : Step) → rs ≡ before ++ ts → AreAlikeSteps x y →
        AreAlikeRuns (continued rs (size + place) x) (continued ts place y)
    continued_alike rs ts place (goes_on c told) (goes_on d same) e h =
        ((λ k. e k ++ h.1 k) ∙ append_assoc before ts same, h.0)
    continued_alike rs ts place (stops why) (stops same) e h = (e, ap fault_of h, refl)
    continued_alike rs ts place stuck_step stuck_step e h = tt
    continued_alike rs ts place x y e h = absurd h

    taken_alike : (rs ts : List Receipt) (c d : Course) (place : ℕ) (o : Option Statement) → rs ≡ before ++ ts → AreTwins c d →
        AreAlikeRuns (taken rs (Some c) (size + place) o) (taken ts (Some d) place o)
    taken_alike rs ts c d place (Some s) e h = continued_alike rs ts place (step_behind c s) (step_behind d s) e (step_alike c d s h)
    taken_alike rs ts c d place None e h = (e, refl, refl)

    one_alike : (r q : Run) (s : Placed) → AreAlikeRuns r q → AreAlikeRuns (run_one r (behind s)) (run_one q s)
    one_alike (going rs (Some c)) (going ts (Some d)) s h = taken_alike rs ts c d s.place (form s.node) h.0 h.1
    one_alike (stopped rs f place) (stopped ts g here) s h = h
    one_alike stuck_run stuck_run s h = tt
    one_alike r q s h = absurd h

    pub runs_alike : (ss : List Placed) (r q : Run) → AreAlikeRuns r q → AreAlikeRuns (run_all r (map behind ss)) (run_all q ss)
    runs_alike [] r q h = h
    runs_alike (s ∷ ss) r q h = runs_alike ss (run_one r (behind s)) (run_one q s) (one_alike r q s h)
