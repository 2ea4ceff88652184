-- What holds along a file and where it ends, and what its groups may settle.
use Rattle.std.proofs.Common.{◌<◌, ◌+◌, ◌^◌, ℕ, List, arith, ◌≤◌, Option, Some, None, [], ◌∷◌, ◌++◌, length, inl, inr, refl, sym, ap, ◌∙◌, subst, ◌≡◌}
use Rattle.std.specs.List.{AllByRecursion}
use Rattle.std.proofs.lemmas.List.{length-append}
use Rattle.laws_files.proofs.ForCallers.{statements_are_small}
use Rattle.rules_world.specs.world.Receipts.{Receipt}
use Rattle.rules_files.specs.commands.Places.{Placed}
use Rattle.rules_files.specs.statements.Statements.{Group, Statement, form}
use Rattle.rules_world.specs.world.Laws.{IsGroup}
use Rattle.rules_world.specs.world.World.{World}
use Rattle.rules_world.specs.world.Contents.{Content}
use Rattle.rules_files.specs.course.Course.{Course, Step, goes_on, stops, stuck_step}
use Rattle.rules_files.specs.course.Ranges.{IsStatement}
use Rattle.rules_files.specs.commands.Replay.{Ending, State, RefusedAt, Replay, step, Run, going, stopped, stuck_run, continued, taken, run_one, run_all, ending_of, Closes, IsReplay}
use Rattle.laws_files.specs.Laws.{IsGoodCourse}

-- behind a step
abbrev pub Behind : (List Receipt → Option Course → Type 0) → List Receipt → Step → Type 0
Behind P rs (goes_on c more) = P (rs ++ more) (Some c)
Behind P rs (stops why) = Unit {0}
Behind P rs stuck_step = Unit {0}

abbrev pub Along : (List Receipt → Option Course → Type 0) → Run → Type 0
Along P (going rs o) = P rs o
Along P (stopped rs f place) = Unit {0}
Along P stuck_run = Unit {0}

-- what holds where a file ends, behind so many statements
pub record AtEnd (P : ℕ → List Receipt → Option Course → Type 0) (done : Replay) (w : World) : Type 0 where
  pub count : ℕ
  pub few : count < 2 ^ 64
  pub course : Course
  pub is : w ≡ course.world
  pub holds : P count done.receipts (Some course)

abbrev world_or : World → Ending → World
world_or v (State w) = w
world_or v (RefusedAt f place) = v

abbrev is_state : Ending → Type 0
is_state (State w) = Unit {0}
is_state (RefusedAt f place) = ⊥

-- from what one statement does, where its node is fine
module _ (P : ℕ → List Receipt → Option Course → Type 0) (Fine : Placed → Type 0)
    (one : (n : ℕ) (rs : List Receipt) (o : Option Course) (s : Placed) (x : Statement) → Fine s → form s.node ≡ Some x →
    n + 1 < 2 ^ 64 → P n rs o → Behind (P (n + 1)) rs (step o x)) where
  continued_along : (n : ℕ) (rs : List Receipt) (place : ℕ) (x : Step) → Behind (P n) rs x → Along (P n) (continued rs place x)
  continued_along n rs place (goes_on c more) h = h
  continued_along n rs place (stops why) h = tt
  continued_along n rs place stuck_step h = tt

  taken_along : (n : ℕ) (rs : List Receipt) (o : Option Course) (s : Placed) (f : Option Statement) → Fine s → form s.node ≡ f →
      n + 1 < 2 ^ 64 → P n rs o → Along (P (n + 1)) (taken rs o s.place f)
  taken_along n rs o s (Some x) fine e few h = continued_along (n + 1) rs s.place (step o x) (one n rs o s x fine e few h)
  taken_along n rs o s None fine e few h = tt

  one_along : (n : ℕ) (r : Run) (s : Placed) → Fine s → n + 1 < 2 ^ 64 → Along (P n) r → Along (P (n + 1)) (run_one r s)
  one_along n (going rs o) s fine few h = taken_along n rs o s (form s.node) fine refl few h
  one_along n (stopped rs f place) s fine few h = tt
  one_along n stuck_run s fine few h = tt

  all_along : (n : ℕ) (r : Run) (ss : List Placed) → AllByRecursion Fine ss → n + length ss < 2 ^ 64 → Along (P n) r →
      Along (P (n + length ss)) (run_all r ss)
  all_along n r [] fine few h = let same : n ≡ n + 0 = omega arith in subst (λ (n : ℕ). Along (P n) r) same h
  all_along n r (s ∷ ss) fine few h =
      let rest = all_along (n + 1) (run_one r s) ss fine.1 (omega (arith, few)) (one_along n r s fine.0 (omega (arith, few)) h) in
      let counts : n + 1 + length ss ≡ n + length (s ∷ ss) = omega arith in
      subst (λ (n : ℕ). Along (P n) (run_all (run_one r s) ss)) counts rest

  module _ (n : ℕ) (few : n < 2 ^ 64) (done : Replay) (w : World) (g : done.ending ≡ State w) where
    ends : (size : ℕ) (rs : List Receipt) (o : Option Course) → done ≡ record { receipts = rs; ending = ending_of size o } → P n rs o →
        AtEnd P done w
    ends size rs (Some c) e h = record {
      count = n;
      few = few;
      course = c;
      is = ap (world_or w) (sym g ∙ ap (λ (d : Replay). d.ending) e);
      holds = subst (λ (d : Replay). P n d.receipts (Some c)) (sym e) h;
    }
    ends size rs None e h = absurd (subst is_state (sym g ∙ ap (λ (d : Replay). d.ending) e) tt)

    closed : (file : List ℕ) (to : ℕ) (r : Run) → Closes file to r done → Along (P n) r → AtEnd P done w
    closed file to (going rs o) (inl c) h = ends (length file) rs o c.1 h
    closed file to (going rs o) (inr c) h = absurd (subst is_state (sym g ∙ ap (λ (d : Replay). d.ending) c.3) tt)
    closed file to (stopped rs f place) c h = absurd (subst is_state (sym g ∙ ap (λ (d : Replay). d.ending) c) tt)
    closed file to stuck_run c h = absurd c

  pub along_file : P 0 [] None → (file : List ℕ) (done : Replay) (w : World) (r : IsReplay file done) → AllByRecursion Fine r.statements →
      done.ending ≡ State w → AtEnd P done w
  along_file base file done w r fine g =
      let s = statements_are_small file r.statements r.to r.stand in
      let few : 0 + length r.statements < 2 ^ 64 = omega (arith, s.count, s.within) in
      closed (0 + length r.statements) few done w g file r.to (run_all (going [] None) r.statements) r.closes
      (all_along 0 (going [] None) r.statements fine few base)

-- each statement has one receipt at most
module _ (Q : List Receipt → Option Course → Type 0) where
  abbrev pub Counted : ℕ → List Receipt → Option Course → Type 0
  Counted n rs o = Q rs o × (length rs ≤ n)

  abbrev pub Keeps : List Receipt → Step → Type 0
  Keeps rs (goes_on c more) = Q (rs ++ more) (Some c) × (length more ≤ 1)
  Keeps rs (stops why) = Unit {0}
  Keeps rs stuck_step = Unit {0}

  pub counted : (n : ℕ) (rs : List Receipt) (x : Step) → Keeps rs x → length rs ≤ n → Behind (Counted (n + 1)) rs x
  counted n rs (goes_on c more) h le = (h.0, omega (arith, length-append rs more, h.1, le))
  counted n rs (stops why) h le = tt
  counted n rs stuck_step h le = tt

pub may_settle : (c : Course) (source : List ℕ) (contents : List Content) → IsGoodCourse c → c.groups + 1 < 2 ^ 64 → IsStatement (Group source contents) →
    IsGroup c.prices (c.groups + 1) source contents c.world
may_settle c source contents g few s = record {
  costs = g.charged;
  small = few;
  key_hash = s.0;
  forms = s.1;
  few = s.2;
  good = g.whole.good;
  new = g.new (c.groups + 1) (omega arith) few;
}
