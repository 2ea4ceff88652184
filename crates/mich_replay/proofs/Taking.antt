-- What a statement leads to, and what is told of it.
use Rattle.std.proofs.Common.{◌≡◌, ◌+◌, ◌<◌, ◌^◌, ℕ, List, [], ◌∷◌, length, map, Option, Some, None, Ok, Err, refl, sym, ap, ◌∙◌, subst, arith}
use Rattle.std.proofs.lemmas.List.{length-append}
use Rattle.rules_files.specs.course.Course.{Course as PlainCourse, Step, goes_on, stops, stuck_step, BadOrder, BadCosts, RepeatedAccount, SupplyLimit, first_step, step_behind}
use Rattle.rules_files.specs.course.Ranges.{IsStatement}
use Rattle.rules_files.specs.commands.Replay.{step, continued}
use Rattle.rules_files.specs.statements.Statements.{Statement}
use Rattle.rules_world.specs.world.Receipts.{Receipt}
use Rattle.laws_files.specs.Laws.{IsGoodCourse, StaysGood, granted_by}
use Rattle.laws_files.proofs.ForCallers.{courses_begin_good, courses_stay_good}
use Rattle.mich_group.specs.course.Following.{Follows, Goes, Begins, told}
use Rattle.mich_group.specs.declared.course.course.Course.{Course}
use Rattle.mich_group.specs.declared.course.error.CourseError.TheVariants as error
use Rattle.mich_ops.specs.Told.{ToldReceipt, told_receipt}
use Rattle.mich_ops.specs.View.{receipt}
use Rattle.mich_ops.specs.declared.receipt.GroupReceipt.{GroupReceipt}
use Rattle.mich_replay.specs.Steps.{FollowsIf, HasRoom, IsTaken, Leads, Stands, groups_of}
use Rattle.mich_replay.specs.declared.steps.Event.TheVariants as event

-- ---- refusals

pub repeated : (s : Step) (c : Option Course) → Leads s c (Err error.RepeatedAccount) → s ≡ stops RepeatedAccount
repeated (goes_on p rs) (Some c) h = absurd h
repeated (stops BadOrder) (Some c) h = absurd h
repeated (stops BadCosts) (Some c) h = absurd h
repeated (stops RepeatedAccount) (Some c) h = refl
repeated (stops SupplyLimit) (Some c) h = absurd h
repeated stuck_step (Some c) h = absurd h
repeated (goes_on p rs) None h = absurd h
repeated (stops BadOrder) None h = absurd h
repeated (stops BadCosts) None h = absurd h
repeated (stops RepeatedAccount) None h = absurd h
repeated (stops SupplyLimit) None h = absurd h
repeated stuck_step None h = absurd h

-- ---- the first statement

pub begun : (s : Step) (c : Course) → Begins s (Ok c) → Goes s c (Ok None)
begun (goes_on p rs) c h = (h.0, sym (ap (map told_receipt) h.1))
begun (stops BadOrder) c h = absurd h
begun (stops BadCosts) c h = absurd h
begun (stops RepeatedAccount) c h = absurd h
begun (stops SupplyLimit) c h = absurd h
begun stuck_step c h = absurd h

-- ---- how many groups there were

good : {c : Course} {p : PlainCourse} → Follows c p → IsGoodCourse p
good f = record { whole = f.whole; charged = f.charged; new = f.new }

counted_in : (groups granted more : ℕ) (s : Step) (q : PlainCourse) (rs : List Receipt) → StaysGood groups granted more s → s ≡ goes_on q rs →
    q.groups ≡ groups + length rs
counted_in groups granted more s q rs h e =
    let kept : StaysGood groups granted more (goes_on q rs) = subst (StaysGood groups granted more) e h in
    kept.1

counted : (c : Option Course) (p : Option PlainCourse) (s : Statement) (q : PlainCourse) (rs : List Receipt) → FollowsIf c p → HasRoom c → IsStatement s →
    step p s ≡ goes_on q rs → q.groups ≡ groups_of c + length rs
counted None None s q rs f room i e = counted_in 0 0 (granted_by s) (first_step s) q rs (courses_begin_good s i) e
counted (Some c) (Some p) s q rs f room i e =
    counted_in p.groups p.world.granted (granted_by s) (step_behind p s) q rs
    (courses_stay_good p s (good f) (subst (λ (n : ℕ). n + 1 < 2 ^ 64) f.groups room) i) e
    ∙ ap (λ (n : ℕ). n + length rs) (sym f.groups)
counted None (Some p) s q rs f room i e = absurd f
counted (Some c) None s q rs f room i e = absurd f

-- ---- a statement that goes on

-- what the rules lead to, where the code goes on
pub record Led (s : Step) (c : Option Course) (r : Option GroupReceipt) : Type 0 where
  pub course : PlainCourse
  pub receipts : List Receipt
  pub is : s ≡ goes_on course receipts
  pub follows : FollowsIf c (Some course)
  pub told : told r ≡ map told_receipt receipts

pub led : (s : Step) (c : Option Course) (r : Option GroupReceipt) → Leads s c (Ok r) → Led s c r
led (goes_on p rs) (Some c) r h = record { course = p; receipts = rs; is = refl; follows = h.0; told = h.1 }
led (stops BadOrder) (Some c) r h = absurd h
led (stops BadCosts) (Some c) r h = absurd h
led (stops RepeatedAccount) (Some c) r h = absurd h
led (stops SupplyLimit) (Some c) r h = absurd h
led stuck_step (Some c) r h = absurd h
led s None r h = absurd h

groups_followed : (c : Option Course) (q : PlainCourse) → FollowsIf c (Some q) → groups_of c ≡ q.groups
groups_followed (Some c) q f = f.groups
groups_followed None q f = absurd f

one_told : (t : ToldReceipt) (rs : List Receipt) → t ∷ [] ≡ map told_receipt rs → (r : Receipt) × (rs ≡ r ∷ []) × (told_receipt r ≡ t)
one_told t [] e = absurd cc
one_told t (r ∷ []) e = let same : t ≡ told_receipt r = cc in (r, refl, sym same)
one_told t (r ∷ s ∷ rs) e = absurd cc

module _ (groups : ℕ) (receipts : List Receipt) (p : Option PlainCourse) (old : Option Course) (s : Statement) (stands : Stands groups receipts p old) (room : HasRoom old) (ranges : IsStatement s) where
  -- a group
  pub took_group : (new : Option Course) (place : ℕ) (r : GroupReceipt) → Leads (step p s) new (Ok (Some r)) →
      IsTaken groups receipts place (continued receipts place (step p s)) new (Ok (event.Group r))
  took_group new place r h =
      let l = led (step p s) new (Some r) h in
      let one = one_told (receipt r) l.receipts l.told in
      let is : step p s ≡ goes_on l.course (one.0 ∷ []) = l.is ∙ ap (goes_on l.course) one.1 in
      let count = counted old p s l.course (one.0 ∷ []) stands.follows room ranges is in
      rw is (
        one.0,
        one.2,
        refl,
        record {
          follows = l.follows;
          count = omega (arith, groups_followed new l.course l.follows, count, stands.count, length-append receipts (one.0 ∷ []));
        },
      )
