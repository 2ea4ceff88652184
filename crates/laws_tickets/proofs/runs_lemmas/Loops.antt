-- Loops: LOOP, LOOP_LEFT and ITER.
use Rattle.std.proofs.Common.{◌≡◌, ℕ, ◌≤◌, Bool, true, false, List, [], ◌∷◌, ◌++◌, Option, Some, None, refl, sym, ap, ◌∙◌, subst, arith}
use Rattle.std.specs.Prelude.{ℤ, ◌+ℤ◌}
use Rattle.std.specs.List.{flat_map}
use Rattle.std.proofs.Math.IntN.{+ℤ_idl}
use Rattle.std.proofs.lemmas.Int.{ints}
use Rattle.rules_data.specs.declared.gas.Kind.TheVariants as g
use Rattle.rules_data.specs.types.Kind.{Kind}
use Rattle.rules_data.specs.types.Kind as k
use Rattle.rules_data.specs.types.Attributes.{comparable}
use Rattle.rules_code.specs.instructions.Types as t
use Rattle.rules_data.specs.values.Val.{Val, Vals, no_val, more_vals, Pairs, no_pair, more_pairs}
use Rattle.rules_data.specs.values.Val as v
use Rattle.rules_data.specs.values.Tickets.{Identity, tickets, all_tickets, pair_tickets}
use Rattle.rules_data.specs.values.Forms.{AllHave, AllEntriesHave}
use Rattle.rules_code.specs.steps.Changes.{amount_among, amount_in}
use Rattle.rules_code.specs.evaluation.Surroundings.{Surroundings}
use Rattle.rules_code.specs.evaluation.Operations.{Tally}
use Rattle.rules_code.specs.evaluation.Outcome.{Run}
use Rattle.rules_code.specs.evaluation.Items.{Items, elements, entries, items}
use Rattle.rules_code.specs.evaluation.Loops.{turn_where, turns_run, left_turns_run, loop_run, loop_left_run, each_run, iter_run}
use Rattle.laws_tickets.specs.totals.Agreement.{Agrees, AllAgree, SeesAgreement}
use Rattle.laws_tickets.specs.totals.Totals.{amount_on, told, total, AreNumbered}
use Rattle.laws_tickets.proofs.totals.ForCallers.{on_cons, nothing_compared}
use Rattle.laws_tickets.proofs.runs_lemmas.Stands.{Aim, Keeps, KeepsRun, here, stands_here, keeps_ending, keeps_unless, keeps_paid}
use Rattle.laws_tickets.proofs.runs_lemmas.Shapes.{keeps_top, keeps_truth, keeps_union}

-- ---- LOOP and LOOP_LEFT

keeps_turn : (b : Bool) (again r : Run) → KeepsRun again → KeepsRun r → KeepsRun (turn_where b again r)
keeps_turn true again r h i e d A V m p sees s =
    keeps_paid p p A V e g.Turn m _ s (λ n j. keeps_ending p p _ (t.bool ∷ A) _ (i e d A V n p sees j)
    (λ C W l same c. h e d C W l p sees c))
keeps_turn false again r h i e d A V m p sees s = s

pub keeps_turns : (again r : Run) → KeepsRun again → KeepsRun r → KeepsRun (turns_run again r)
keeps_turns again r h i e d A V m p sees s = keeps_truth p p A V m _ s (λ B b W j. keeps_turn b again r h i e d B W m p sees j)

pub keeps_left_turns : (again r : Run) → KeepsRun again → KeepsRun r → KeepsRun (left_turns_run again r)
keeps_left_turns again r h i e d A V m p sees s =
    keeps_union p p A V m _ _ s
    (λ a b B x W same j. keeps_paid p p (a ∷ B) (x ∷ W) e g.Turn m _ j
    (λ n l. keeps_ending p p _ (k.or a b ∷ B) _ (i e d (a ∷ B) (x ∷ W) n p sees l) (λ C U o f c. h e d C U o p sees c)))
    (λ a b B x W same j. j)

pub keeps_loop : (again : Run) → KeepsRun again → KeepsRun (loop_run again)
keeps_loop again h e d A V m p sees s =
    keeps_truth p p A V m _ s (λ B b W j. keeps_paid p p A V e g.Loop m _ s (λ n l. h e d A V n p sees l))

pub keeps_loop_left : (again : Run) → KeepsRun again → KeepsRun (loop_left_run again)
keeps_loop_left again h e d A V m p sees s =
    keeps_union p p A V m _ _ s
    (λ a b B x W same j. keeps_paid p p A V e g.LoopLeft m _ s (λ n l. h e d A V n p sees l))
    (λ a b B x W same j. keeps_paid p p A V e g.LoopLeft m _ s (λ n l. h e d A V n p sees l))

-- ---- items

-- each of some values agrees with a type
abbrev pub EachAgrees : Kind → List Val → Type 0
EachAgrees a [] = Unit {0}
EachAgrees a (x ∷ xs) = Agrees a x × EachAgrees a xs

pub elements_agree : (a : Kind) (xs : Vals) → AllHave (Agrees a) xs → EachAgrees a (elements xs)
elements_agree a no_val h = tt
elements_agree a (more_vals x xs) h = (h.0, elements_agree a xs h.1)

pub elements_hold : (xs : Vals) → flat_map tickets (elements xs) ≡ all_tickets xs
elements_hold no_val = refl
elements_hold (more_vals x xs) = ap (λ ts. tickets x ++ ts) (elements_hold xs)

elements_bare : (a : Kind) (xs : Vals) → comparable a ≡ true → AllHave (Agrees a) xs → flat_map tickets (elements xs) ≡ []
elements_bare a no_val c h = refl
elements_bare a (more_vals x xs) c h =
    ap (λ ts. ts ++ flat_map tickets (elements xs)) (nothing_compared a x c h.0) ∙ elements_bare a xs c h.1

pub entries_agree : (a b : Kind) (es : Pairs) → AllEntriesHave (Agrees a) (Agrees b) es → EachAgrees (k.pair a b) (entries es)
entries_agree a b no_pair h = tt
entries_agree a b (more_pairs x y es) h = ((h.0, h.1), entries_agree a b es h.2)

pub entries_hold : (a b : Kind) (es : Pairs) → comparable a ≡ true → AllEntriesHave (Agrees a) (Agrees b) es →
    flat_map tickets (entries es) ≡ pair_tickets es
entries_hold a b no_pair c h = refl
entries_hold a b (more_pairs x y es) c h =
    ap (λ ts. (ts ++ tickets y) ++ flat_map tickets (entries es)) (nothing_compared a x c h.0) ∙ ap (λ ts. tickets y ++ ts)
    (entries_hold a b es c h.2)

-- what a collection is gone through by
pub record AreItems (i : Items) (x : Val) : Type 0 where
  pub agree : EachAgrees i.kind i.values
  pub same : flat_map tickets i.values ≡ tickets x

abbrev pub IfItems : Option Items → Val → Type 0
IfItems None x = Unit {0}
IfItems (Some i) x = AreItems i x

items_are : (a : Kind) (x : Val) → Agrees a x → IfItems (items a x) x
items_are (k.list a) (v.list xs) h = record { agree = elements_agree a xs h; same = elements_hold xs }
items_are (k.set a) (v.set xs) h = record { agree = elements_agree a xs h.1; same = elements_bare a xs h.0 h.1 }
items_are (k.map a b) (v.table es) h = record { agree = entries_agree a b es h.1; same = entries_hold a b es h.0 h.1 }
items_are _ _ h = tt

item_is : (o : Option Items) (x : Val) (i : Items) → IfItems o x → o ≡ Some i → AreItems i x
item_is (Some j) x i h e = let f : j ≡ i = cc in subst (λ z. AreItems z x) f h
item_is None x i h e = absurd cc

-- ---- ITER

-- values that wait, with a stack
pub record Waits (p : Aim) (a : Kind) (xs : List Val) (A : List Kind) (V : List Val) (m : Tally) : Type 0 where
  pub each : EachAgrees a xs
  pub agree : AllAgree A V
  pub same : (id : Identity) → amount_on id xs +ℤ total id V m ≡ p.amounts id
  pub numbers : AreNumbered p.issued p.least → AreNumbered m.issued m.operations
  pub many : p.least ≤ m.operations

next_sum : (x xs v m : ℤ) → xs +ℤ (x +ℤ v +ℤ m) ≡ x +ℤ xs +ℤ (v +ℤ m)
next_sum x xs v m = omega (arith, ints)

-- the first of the values that wait comes onto the stack
pub next_total : (id : Identity) (x : Val) (xs V : List Val) (m : Tally) →
    amount_on id xs +ℤ total id (x ∷ V) m ≡ amount_on id (x ∷ xs) +ℤ total id V m
next_total id x xs V m =
    ap (λ z. amount_on id xs +ℤ (z +ℤ told id m)) (on_cons id x V) ∙ next_sum (amount_in id x) (amount_on id xs) (amount_on id V)
    (told id m)
    ∙ ap (λ z. z +ℤ total id V m) (sym (on_cons id x xs))

keeps_each : (r : Run) → KeepsRun r →
    (a : Kind) (xs : List Val) (e : Surroundings) (d : ℕ) (A : List Kind) (V : List Val) (m : Tally) (p : Aim) →
    SeesAgreement e → Waits p a xs A V m → Keeps p (each_run r a xs e d A V m)
keeps_each r h a [] e d A V m p sees w =
    record { agree = w.agree; same = λ id. sym (+ℤ_idl (total id V m)) ∙ w.same id; numbers = w.numbers; many = w.many }
keeps_each r h a (x ∷ xs) e d A V m p sees w =
    keeps_paid (here (x ∷ V) m) p (a ∷ A) (x ∷ V) e g.Turn m _ (stands_here (a ∷ A) (x ∷ V) m (w.each.0, w.agree)) (λ n s.
    keeps_ending (here (x ∷ V) m) p _ A _ (h e d (a ∷ A) (x ∷ V) n (here (x ∷ V) m) sees s) (λ B W j f c.
    keeps_each r h a xs e d B W j p sees (record {
      each = w.each.1;
      agree = c.agree;
      same = λ id. ap (λ z. amount_on id xs +ℤ z) (c.same id) ∙ next_total id x xs V m ∙ w.same id;
      numbers = λ i. c.numbers (w.numbers i);
      many = omega (arith, w.many, c.many);
    })))

begin_sum : (x y v m : ℤ) → x ≡ y → x +ℤ (v +ℤ m) ≡ y +ℤ v +ℤ m
begin_sum x y v m e = omega (arith, ints)

pub begin_total : (id : Identity) (xs : List Val) (x : Val) (V : List Val) (m : Tally) → flat_map tickets xs ≡ tickets x →
    amount_on id xs +ℤ total id V m ≡ total id (x ∷ V) m
begin_total id xs x V m e =
    begin_sum (amount_on id xs) (amount_in id x) (amount_on id V) (told id m) (ap (amount_among id) e) ∙ ap (λ z. z +ℤ told id m)
    (sym (on_cons id x V))

pub keeps_iter : (r : Run) → KeepsRun r → KeepsRun (iter_run r)
keeps_iter r h e d A V m p sees s =
    keeps_top p p A V m _ s (λ c B x W f. keeps_unless p (items c x) _ (λ i z.
    let w = item_is (items c x) x i (items_are c x f.agree.0) z in
    keeps_paid p p (c ∷ B) (x ∷ W) e g.Iter m _ f (λ n j. keeps_each r h i.kind i.values e d B W n p sees (record {
      each = w.agree;
      agree = j.agree.1;
      same = λ id. begin_total id i.values x W n w.same ∙ j.same id;
      numbers = j.numbers;
      many = j.many;
    }))))
