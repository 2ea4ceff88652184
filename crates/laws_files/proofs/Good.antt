-- Good courses stay good.
use Rattle.std.proofs.Common.{◌≡◌, ◌≢◌, ◌≤◌, ◌<◌, ◌+◌, ◌^◌, ℕ, ℤ, Bool, true, false, List, [], Some, None, Ok, Err, refl, sym, ap, ◌∙◌, subst, arith, is_some, IsSome, ◌&&◌, if◌then◌else◌}
use Rattle.std.specs.Prelude.{Result, nat_le, is_none}
use Rattle.std.specs.declared.option.Option.{Option}
use Rattle.rules_text.specs.nodes.Limits.{most_mutez}
use Rattle.rules_text.specs.nodes.Tree.{Tree}
use Rattle.rules_data.specs.gas.Prices.{Listed}
use Rattle.rules_data.specs.gas.Tables.{table_of}
use Rattle.rules_data.specs.forms.Spelling.{is_key_hash}
use Rattle.rules_files.specs.course.Course.{Course, goes_on, stops, with_rate, profile_step, timed, is_later, with_prices, costs_step, granting, block_step, numbered}
use Rattle.rules_files.specs.course.Ranges.{IsStatement}
use Rattle.rules_files.specs.statements.Statements.{Chain, Profile, Costs, Account, Block, Group}
use Rattle.rules_world.specs.world.Balances.{Grant, Granted, Repeated, TooMuch, granted_to, endowed}
use Rattle.rules_world.specs.world.Contents.{Content}
use Rattle.rules_world.specs.world.Forms.{is_moment}
use Rattle.rules_world.specs.world.Groups.{Settled, group}
use Rattle.rules_world.specs.world.Laws.{IsGroup}
use Rattle.rules_world.specs.world.World.{World, account_at}
use Rattle.laws_world.specs.runs.Worlds.{IsWhole}
use Rattle.laws_world.proofs.groups_lemmas.ForCallers.{grants_keep_good, groups_keep_whole, new_worlds_are_good, groups_settle, groups_conserve_mutez}
use Rattle.laws_files.specs.Laws.{IsGoodCourse, StaysGood, CoursesBeginGood, CoursesStayGood}
use Rattle.laws_files.proofs.Charged.{nothing_charged, table_charged}

-- ---- the beginning

pub courses_begin_good : CoursesBeginGood
courses_begin_good (Chain id level moment) s =
    let whole = new_worlds_are_good id level moment s.0 s.1 s.2 in
    (record { whole = whole.0; charged = nothing_charged; new = λ number more small. whole.1 number }, refl, refl, none)
  where
    none : 0 ≤ 1
    none = omega arith
courses_begin_good (Profile rate) s = tt
courses_begin_good (Costs table) s = tt
courses_begin_good (Account who mutez) s = tt
courses_begin_good (Block level moment) s = tt
courses_begin_good (Group source contents) s = tt

-- ---- each statement

module _ (c : Course) (g : IsGoodCourse c) where
  nothing_more : (n : ℕ) → n ≡ n + 0
  nothing_more n = omega arith

  none : 0 ≤ 1
  none = omega arith

  one : 1 ≤ 1
  one = omega arith

  priced : (table : Tree) (r : Result Listed ℕ) → table_of table ≡ r → StaysGood c.groups c.world.granted 0 (with_prices c r)
  priced table (Ok prices) e =
      (record { whole = g.whole; charged = table_charged table prices e; new = g.new }, nothing_more c.groups, nothing_more c.world.granted, none)
  priced table (Err location) e = tt

  costs_good : (b : Bool) (table : Tree) → StaysGood c.groups c.world.granted 0 (costs_step b c table)
  costs_good true table = priced table (table_of table) refl
  costs_good false table = tt

  endowed_more : (w : World) (who : List ℕ) (mutez : ℕ) → granted_to c.world who mutez ≡ Granted w → w.granted ≡ c.world.granted + mutez
  endowed_more w who mutez e = by (is_some (account_at c.world who)) (nat_le (c.world.granted + mutez) most_mutez) e
    where
      by : (there few : Bool) → (if there then Repeated else if few then Granted (endowed c.world who mutez) else TooMuch) ≡ Granted w →
          w.granted ≡ c.world.granted + mutez
      by true few h = absurd cc
      by false true h = let same : w ≡ endowed c.world who mutez = cc in ap (λ (v : World). v.granted) same
      by false false h = absurd cc

  grant_good : (who : List ℕ) (mutez : ℕ) (x : Grant) → is_key_hash who ≡ true → granted_to c.world who mutez ≡ x →
      StaysGood c.groups c.world.granted mutez (granting c x)
  grant_good who mutez (Granted w) key e =
      let kept = grants_keep_good c.world w who mutez key g.whole e in (
        record { whole = kept.0; charged = g.charged; new = λ number more small. kept.1 number (g.new number more small) },
        nothing_more c.groups,
        endowed_more w who mutez e,
        none,
      )
  grant_good who mutez Repeated key e = tt
  grant_good who mutez TooMuch key e = tt

  timed_whole : (level : ℕ) (moment : ℤ) → level < 2 ^ 32 → is_moment moment ≡ true → IsWhole (record (c.world) { level = level; moment = moment })
  timed_whole level moment l m = record {
    good = record {
      sound = record {
        form = record {
          chain = g.whole.good.sound.form.chain;
          level = l;
          moment = m;
          accounts = g.whole.good.sound.form.accounts;
          accounts_in_order = g.whole.good.sound.form.accounts_in_order;
          contracts = g.whole.good.sound.form.contracts;
          contracts_in_order = g.whole.good.sound.form.contracts_in_order;
          log = g.whole.good.sound.form.log;
        };
        contracts = g.whole.good.sound.contracts;
        minted = g.whole.good.sound.minted;
        mutez = g.whole.good.sound.mutez;
      };
      waits = g.whole.good.waits;
      tickets = g.whole.good.tickets;
    };
    mutez = g.whole.mutez;
  }

  rated_whole : (rate : ℕ) → IsWhole (record (c.world) { rate = Some rate })
  rated_whole rate = record {
    good = record {
      sound = record {
        form = record {
          chain = g.whole.good.sound.form.chain;
          level = g.whole.good.sound.form.level;
          moment = g.whole.good.sound.form.moment;
          accounts = g.whole.good.sound.form.accounts;
          accounts_in_order = g.whole.good.sound.form.accounts_in_order;
          contracts = g.whole.good.sound.form.contracts;
          contracts_in_order = g.whole.good.sound.form.contracts_in_order;
          log = g.whole.good.sound.form.log;
        };
        contracts = g.whole.good.sound.contracts;
        minted = g.whole.good.sound.minted;
        mutez = g.whole.good.sound.mutez;
      };
      waits = g.whole.good.waits;
      tickets = g.whole.good.tickets;
    };
    mutez = g.whole.mutez;
  }

  profile_good : (rate : ℕ) → StaysGood c.groups c.world.granted 0 (profile_step c rate)
  profile_good rate = by (c.at_head && is_none c.world.rate)
    where
      by : (b : Bool) → StaysGood c.groups c.world.granted 0 (if b then goes_on (with_rate c rate) [] else stops Rattle.rules_files.specs.course.Course.BadOrder)
      by true = (record { whole = rated_whole rate; charged = g.charged; new = g.new }, nothing_more c.groups, nothing_more c.world.granted, none)
      by false = tt

  block_good : (level : ℕ) (moment : ℤ) → level < 2 ^ 32 → is_moment moment ≡ true →
      StaysGood c.groups c.world.granted 0 (block_step c level moment)
  block_good level moment l m = by (is_later c.world level moment)
    where
      by : (b : Bool) → StaysGood c.groups c.world.granted 0 (if b then goes_on (timed c level moment) [] else stops Rattle.rules_files.specs.course.Course.BadOrder)
      by true = (record { whole = timed_whole level moment l m; charged = g.charged; new = g.new }, nothing_more c.groups, nothing_more c.world.granted, none)
      by false = tt

  may_settle : (source : List ℕ) (contents : List Content) → c.groups + 1 < 2 ^ 64 → IsStatement (Group source contents) →
      IsGroup c.prices (c.groups + 1) source contents c.world
  may_settle source contents few s = record {
    costs = g.charged;
    small = few;
    key_hash = s.0;
    forms = s.1;
    few = s.2;
    good = g.whole.good;
    new = g.new (c.groups + 1) (omega arith) few;
  }

  other_number : (n : ℕ) → c.groups + 1 < n → n ≢ c.groups + 1
  other_number n more same = omega arith

  later : (n : ℕ) → c.groups + 1 < n → c.groups < n
  later n more = omega arith

  group_good : (source : List ℕ) (contents : List Content) (o : Option Settled) → IsGroup c.prices (c.groups + 1) source contents c.world →
      group c.prices (c.groups + 1) source contents c.world ≡ o → StaysGood c.groups c.world.granted 0 (numbered c o)
  group_good source contents (Some settled) may e =
      let kept = groups_keep_whole c.prices (c.groups + 1) source contents c.world settled may e g.whole.mutez in
      let supplies = groups_conserve_mutez c.prices (c.groups + 1) source contents c.world settled may e in (
        record {
          whole = kept.0;
          charged = g.charged;
          new = λ number more small. kept.1 number small (other_number number more) (g.new number (later number more) small);
        },
        refl,
        sym kept.0.mutez ∙ supplies ∙ g.whole.mutez ∙ nothing_more c.world.granted,
        one,
      )
  group_good source contents None may e =
      let no : false ≡ true = subst (λ (o : Option Settled). IsSome o) e (groups_settle c.prices (c.groups + 1) source contents c.world may) in
      absurd cc

pub courses_stay_good : CoursesStayGood
courses_stay_good c (Chain id level moment) g few s = tt
courses_stay_good c (Profile rate) g few s = profile_good c g rate
courses_stay_good c (Costs table) g few s = costs_good c g c.at_head table
courses_stay_good c (Account who mutez) g few s = grant_good c g who mutez (granted_to c.world who mutez) s.0 refl
courses_stay_good c (Block level moment) g few s = block_good c g level moment s.0 s.1
courses_stay_good c (Group source contents) g few s =
    group_good c g source contents (group c.prices (c.groups + 1) source contents c.world) (may_settle c g source contents few s) refl
