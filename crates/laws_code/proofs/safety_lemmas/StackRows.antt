-- The order of the stack.
use Rattle.std.proofs.Common.{◌≡◌, ℕ, zero, suc, ◌-◌, nat_le, Bool, true, false, List, [], ◌∷◌, length, take, drop, Option, Some, None, refl, sym, ap, subst, arith, pos}
use Rattle.std.specs.Prelude.{◌≤ℤ◌, slice_get, insert, remove, option_and_then}
use Rattle.std.specs.List.{flat_map}
use Rattle.std.proofs.lemmas.Int.{ints}
use Rattle.rules_data.specs.types.Kind.{Kind}
use Rattle.rules_data.specs.types.Attributes.{duplicable}
use Rattle.rules_code.specs.instructions.Same.{same_kind}
use Rattle.rules_code.specs.instructions.Change.{makes, keeps, where_true}
use Rattle.rules_code.specs.instructions.StackChanges.{stack_change}
use Rattle.rules_code.specs.instructions.Straight.{StackRow}
use Rattle.rules_code.specs.instructions.Straight as i
use Rattle.rules_data.specs.values.Val.{Val}
use Rattle.rules_data.specs.values.Tickets.{Identity, tickets}
use Rattle.rules_code.specs.steps.Changes.{amount_in}
use Rattle.rules_code.specs.steps.Step.{kept, discarding, on_some}
use Rattle.rules_code.specs.steps.Step as step
use Rattle.rules_code.specs.steps.Stack.{stack_step}
use Rattle.rules_code.specs.typing.Fits.{Known, Fits, AllFit}
use Rattle.laws_code.specs.evaluation.Laws.{amount_on}
use Rattle.laws_code.proofs.stacks.ForCallers.{positive, no_amount, taken_good}
use Rattle.laws_code.proofs.control.ForCallers.{fit_drop, fit_length}
use Rattle.laws_code.proofs.steps.ForCallers.{quiet_none, quiet_burns, RowStep, StepFits}

-- ---- the order of the stack

pub record Got (w : Known) (V : List Val) (n : ℕ) (a : Kind) : Type 0 where
  pub value : Val
  pub get : slice_get V n ≡ Some value
  pub fits : Fits w a value

pub got : (w : Known) (n : ℕ) (A : List Kind) (V : List Val) (a : Kind) → AllFit w A V → slice_get A n ≡ Some a → Got w V n a
got w n [] V a h e = absurd cc
got w zero (b ∷ A) (x ∷ V) a h e = let f : b ≡ a = cc in record { value = x; get = refl; fits = subst (λ c. Fits w c x) f h.0 }
got w (suc n) (b ∷ A) (x ∷ V) a h e = let g = got w n A V a h.1 e in record { value = g.value; get = g.get; fits = g.fits }
got w n (b ∷ A) [] a h e = absurd h

pub remove_fit : (w : Known) (n : ℕ) (A : List Kind) (V : List Val) → AllFit w A V → AllFit w (remove A n) (remove V n)
remove_fit w zero [] [] h = tt
remove_fit w zero (a ∷ A) (x ∷ V) h = h.1
remove_fit w (suc n) [] [] h = tt
remove_fit w (suc n) (a ∷ A) (x ∷ V) h = (h.0, remove_fit w n A V h.1)
remove_fit w n _ _ h = absurd h

pub remove_amount : (id : Identity) (n : ℕ) (V : List Val) (x : Val) → slice_get V n ≡ Some x →
    amount_on id (x ∷ remove V n) ≡ amount_on id V
remove_amount id n [] x e = absurd cc
remove_amount id zero (y ∷ V) x e = let f : y ≡ x = cc in ap (λ z. amount_on id (z ∷ V)) (sym f)
remove_amount id (suc n) (y ∷ V) x e = let h : amount_on id (x ∷ remove V n) ≡ amount_on id V = remove_amount id n V x e in
    omega (arith, ints)

pub insert_fit : (w : Known) (n : ℕ) (A : List Kind) (V : List Val) (a : Kind) (x : Val) → Fits w a x → AllFit w A V →
    AllFit w (insert A n a) (insert V n x)
insert_fit w zero A V a x f h = (f, h)
insert_fit w (suc n) [] [] a x f h = (f, tt)
insert_fit w (suc n) (b ∷ A) (y ∷ V) a x f h = (h.0, insert_fit w n A V a x f h.1)
insert_fit w (suc n) _ _ a x f h = absurd h

pub insert_amount : (id : Identity) (n : ℕ) (V : List Val) (x : Val) → amount_on id (insert V n x) ≡ amount_on id (x ∷ V)
insert_amount id zero V x = refl
insert_amount id (suc n) [] x = refl
insert_amount id (suc n) (y ∷ V) x = let h : amount_on id (insert V n x) ≡ amount_on id (x ∷ V) = insert_amount id n V x in
    omega (arith, ints)

pub drop_amount : (id : Identity) (w : Known) (n : ℕ) (A : List Kind) (V : List Val) → AllFit w A V →
    amount_on id (drop n V) ≤ℤ amount_on id V
drop_amount id w zero A V h = omega (arith, ints)
drop_amount id w (suc n) [] [] h = omega (arith, ints)
drop_amount id w (suc n) (a ∷ A) (x ∷ V) h =
    let p : pos 0 ≤ℤ amount_in id x = positive id w a x h.0 in
    let q : amount_on id (drop n V) ≤ℤ amount_on id V = drop_amount id w n A V h.1 in
    omega (arith, ints)
drop_amount id w (suc n) _ _ h = absurd h

module _ (w : Known) where
  pub drops : (n : ℕ) (A : List Kind) (V : List Val) → AllFit w A V → (x y : Bool) → x ≡ y →
      StepFits w V (where_true x (keeps (drop n A))) (step.where_true y (discarding (take n V) (drop n V)))
  drops n A V h false y e = tt
  drops n A V h true true e = (
    fit_drop w n A V h,
    (λ id. drop_amount id w n A V h),
    quiet_burns (flat_map tickets (take n V)) (taken_good w n A V h),
  )
  drops n A V h true false e = absurd cc

  pub copies : (n : ℕ) (A : List Kind) (V : List Val) → AllFit w A V → (o : Option Kind) → slice_get A n ≡ o →
      StepFits w V (option_and_then (λ a. where_true (duplicable a) (makes a A)) o) (on_some (slice_get V n) (λ x. kept (x ∷ V)))
  copies n A V h None e = tt
  copies n A V h (Some a) e = by_test (duplicable a) refl
    where
      g : Got w V n a
      g = got w n A V a h e

      by_test : (b : Bool) → duplicable a ≡ b → StepFits w V (where_true b (makes a A))
          (on_some (slice_get V n) (λ x. kept (x ∷ V)))
      by_test false q = tt
      by_test true q =
          subst (λ o. RowStep w V (a ∷ A) (on_some o (λ x. kept (x ∷ V)))) (sym g.get) (
            (g.fits, h),
            (λ id. let p : amount_in id g.value ≡ pos 0 = no_amount id w a g.value q g.fits in
                omega (arith, ints)),
            quiet_none,
          )

  pub digs : (n : ℕ) (A : List Kind) (V : List Val) → AllFit w A V → (o : Option Kind) → slice_get A n ≡ o →
      StepFits w V (option_and_then (λ a. keeps (a ∷ remove A n)) o) (on_some (slice_get V n) (λ x. kept (x ∷ remove V n)))
  digs n A V h None e = tt
  digs n A V h (Some a) e =
      let g : Got w V n a = got w n A V a h e in
      subst (λ o. RowStep w V (a ∷ remove A n) (on_some o (λ x. kept (x ∷ remove V n)))) (sym g.get) (
        (g.fits, remove_fit w n A V h),
        (λ id. let p : amount_on id (g.value ∷ remove V n) ≡ amount_on id V =
            remove_amount id n V g.value g.get in omega (arith, ints)),
        quiet_none,
      )

  pub dugs : (n : ℕ) (a : Kind) (A : List Kind) (x : Val) (V : List Val) → AllFit w (a ∷ A) (x ∷ V) → (p q : Bool) → p ≡ q →
      StepFits w (x ∷ V) (where_true p (keeps (insert A n a))) (step.where_true q (kept (insert V n x)))
  dugs n a A x V h false q e = tt
  dugs n a A x V h true true e = (
    insert_fit w n A V a x h.0 h.1,
    (λ id. let p : amount_on id (insert V n x) ≡ amount_on id (x ∷ V) = insert_amount id n V x in omega (arith, ints)),
    quiet_none,
  )
  dugs n a A x V h true false e = absurd cc

  pub casts : (b : Bool) (a : Kind) (A : List Kind) (x : Val) (V : List Val) → AllFit w (a ∷ A) (x ∷ V) →
      StepFits w (x ∷ V) (where_true b (keeps (a ∷ A))) (kept (x ∷ V))
  casts true a A x V h = (h, (λ id. omega (arith, ints)), quiet_none)
  casts false a A x V h = tt

  pub stack_keeps : (r : StackRow) (A : List Kind) (V : List Val) → AllFit w A V →
      StepFits w V (stack_change r A) (stack_step r V)
  stack_keeps (i.drop n) A V h = drops n A V h (nat_le n (length A)) (nat_le n (length V)) (ap (nat_le n) (fit_length w A V h))
  stack_keeps (i.dup n) A V h = copies (n - 1) A V h (slice_get A (n - 1)) refl
  stack_keeps i.swap (a ∷ b ∷ A) (x ∷ y ∷ V) h = ((h.1.0, (h.0, h.1.1)), (λ id. omega (arith, ints)), quiet_none)
  stack_keeps i.swap (a ∷ b ∷ A) (x ∷ []) h = absurd h.1
  stack_keeps i.swap (a ∷ b ∷ A) [] h = absurd h
  stack_keeps i.swap (a ∷ []) V h = tt
  stack_keeps i.swap [] V h = tt
  stack_keeps (i.dig n) A V h = digs n A V h (slice_get A n) refl
  stack_keeps (i.dug n) (a ∷ A) (x ∷ V) h = dugs n a A x V h (nat_le n (length A)) (nat_le n (length V))
      (ap (nat_le n) (fit_length w A V h.1))
  stack_keeps (i.dug n) (a ∷ A) [] h = absurd h
  stack_keeps (i.dug n) [] V h = tt
  stack_keeps i.unit A V h = ((refl, h), (λ id. omega (arith, ints)), quiet_none)
  stack_keeps (i.cast t) (a ∷ A) (x ∷ V) h = casts (same_kind a t) a A x V h
  stack_keeps (i.cast t) (a ∷ A) [] h = absurd h
  stack_keeps (i.cast t) [] V h = tt
  stack_keeps i.rename (a ∷ A) (x ∷ V) h = (h, (λ id. omega (arith, ints)), quiet_none)
  stack_keeps i.rename (a ∷ A) [] h = absurd h
  stack_keeps i.rename [] V h = tt
