-- Paid courses stay paid.
use Rattle.std.proofs.Common.{◌≡◌, ℕ, ◌+◌, ℤ, Bool, true, false, ◌&&◌, List, [], Some, None, Ok, Err, refl, sym, subst, is_some, if◌then◌else◌}
use Rattle.std.specs.Prelude.{Result, nat_le, is_none}
use Rattle.std.specs.declared.option.Option.{Option}
use Rattle.std.specs.List.{All}
use Rattle.std.specs.Map.{values_of}
use Rattle.std.proofs.lemmas.List.Elements.{All-nil}
use Rattle.std.proofs.lemmas.Bool.{and_parts}
use Rattle.rules_text.specs.nodes.Limits.{most_mutez}
use Rattle.rules_text.specs.nodes.Tree.{Tree}
use Rattle.rules_data.specs.gas.Prices.{Listed}
use Rattle.rules_data.specs.gas.Tables.{table_of}
use Rattle.rules_files.specs.course.Course.{Course, goes_on, stops, with_rate, profile_step, timed, is_later, with_prices, costs_step, granting, block_step, numbered}
use Rattle.rules_files.specs.course.Course as course
use Rattle.rules_files.specs.statements.Statements.{Chain, Profile, Costs, Account, Block, Group}
use Rattle.rules_world.specs.world.Balances.{Granted, Repeated, TooMuch, granted_to, endowed}
use Rattle.rules_world.specs.world.Groups.{Settled, group}
use Rattle.rules_world.specs.world.World.{account_at}
use Rattle.laws_files.specs.Laws.{HasPaid, IsPaidCourse, StaysPaid, CoursesBeginPaid, CoursesStayPaid}
use Rattle.laws_files.proofs.paid.Groups.{SettlesPaid, group_paid}
use Rattle.laws_files.proofs.paid.Moves.{paid_by, is_paid}

pub courses_begin_paid : CoursesBeginPaid
courses_begin_paid (Chain id level moment) = record {
  paid = record { contracts = All-nil (HasPaid None); burn = λ none. refl };
  head = λ first. refl;
}
courses_begin_paid (Profile rate) = tt
courses_begin_paid (Costs table) = tt
courses_begin_paid (Account who mutez) = tt
courses_begin_paid (Block level moment) = tt
courses_begin_paid (Group source contents) = tt

module _ (c : Course) (p : IsPaidCourse c) where
  no_head : {A : Type 0} → false ≡ true → A
  no_head e = absurd cc

  -- a profile stands where there is no contract yet
  rated : (rate : ℕ) → c.at_head ≡ true → IsPaidCourse (with_rate c rate)
  rated rate first = record {
    paid = record {
      contracts = subst (λ es. All (HasPaid (Some rate)) (values_of es)) (sym (p.head first)) (All-nil (HasPaid (Some rate)));
      burn = λ none. absurd cc;
    };
    head = p.head;
  }

  profile_paid : (rate : ℕ) → StaysPaid (profile_step c rate)
  profile_paid rate = by (c.at_head && is_none c.world.rate) refl
    where
      by : (b : Bool) → (c.at_head && is_none c.world.rate) ≡ b →
          StaysPaid (if b then goes_on (with_rate c rate) [] else stops course.BadOrder)
      by true e = rated rate (and_parts c.at_head (is_none c.world.rate) e).0
      by false e = tt

  priced : (x : Result Listed ℕ) → StaysPaid (with_prices c x)
  priced (Ok prices) = record { paid = p.paid; head = no_head }
  priced (Err location) = tt

  costs_paid : (b : Bool) (table : Tree) → StaysPaid (costs_step b c table)
  costs_paid true table = priced (table_of table)
  costs_paid false table = tt

  grant_paid : (who : List ℕ) (mutez : ℕ) → StaysPaid (granting c (granted_to c.world who mutez))
  grant_paid who mutez = by (is_some (account_at c.world who)) (nat_le (c.world.granted + mutez) most_mutez)
    where
      by : (there few : Bool) →
          StaysPaid (granting c (if there then Repeated else if few then Granted (endowed c.world who mutez) else TooMuch))
      by true few = tt
      by false true = record { paid = record { contracts = p.paid.contracts; burn = p.paid.burn }; head = no_head }
      by false false = tt

  block_paid : (level : ℕ) (moment : ℤ) → StaysPaid (block_step c level moment)
  block_paid level moment = by (is_later c.world level moment)
    where
      by : (b : Bool) → StaysPaid (if b then goes_on (timed c level moment) [] else stops course.BadOrder)
      by true = record { paid = record { contracts = p.paid.contracts; burn = p.paid.burn }; head = no_head }
      by false = tt

  numbered_paid : (o : Option Settled) → SettlesPaid c.world.rate o → StaysPaid (numbered c o)
  numbered_paid (Some settled) h = record { paid = is_paid c.world.rate settled.world h; head = no_head }
  numbered_paid None h = tt

pub courses_stay_paid : CoursesStayPaid
courses_stay_paid c (Chain id level moment) p s = tt
courses_stay_paid c (Profile rate) p s = profile_paid c p rate
courses_stay_paid c (Costs table) p s = costs_paid c p c.at_head table
courses_stay_paid c (Account who mutez) p s = grant_paid c p who mutez
courses_stay_paid c (Block level moment) p s = block_paid c p level moment
courses_stay_paid c (Group source contents) p s =
    numbered_paid c p (group c.prices (c.groups + 1) source contents c.world)
    (group_paid c.world.rate c.prices (c.groups + 1) source contents c.world s.0 (paid_by c.world p.paid))
