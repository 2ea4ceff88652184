-- Branches, what works under the top of the stack, and loops over truth values and unions.
use Rattle.std.proofs.Common.{◌≡◌, ℕ, zero, suc, pos, ap, nat_lt, nat_le, Bool, true, false, ◌&&◌, List, [], ◌∷◌, ◌++◌, length, take, drop, refl, subst, arith}
use Rattle.std.specs.Prelude.{◌≤ℤ◌, if◌then◌else◌}
use Rattle.std.proofs.lemmas.Int.{ints}
use Rattle.std.proofs.lemmas.List.{take-append-drop}
use Rattle.rules_text.specs.nodes.Limits.{block_limit}
use Rattle.rules_data.specs.declared.gas.Kind.TheVariants as price
use Rattle.rules_data.specs.types.Kind.{Kind}
use Rattle.rules_data.specs.types.Kind as k
use Rattle.rules_code.specs.instructions.Types as ty
use Rattle.rules_data.specs.values.Val.{Val}
use Rattle.rules_data.specs.values.Val as v
use Rattle.rules_data.specs.values.Tickets.{Identity}
use Rattle.rules_code.specs.typing.Typing.{Typer, goes, bad, join, ends, under, shift}
use Rattle.rules_code.specs.typing.Fits.{Known, AllFit}
use Rattle.rules_code.specs.typing.Stacks as asked
use Rattle.rules_code.specs.typing.Acts.{dip_type}
use Rattle.rules_code.specs.evaluation.Surroundings.{Surroundings}
use Rattle.rules_code.specs.evaluation.Operations.{Tally}
use Rattle.rules_code.specs.evaluation.Outcome.{stack, Run, after, only_if, opened, block}
use Rattle.rules_code.specs.evaluation.Branches.{paid, chosen, if_run, if_none_run, if_left_run, if_cons_run, dip_run}
use Rattle.rules_code.specs.evaluation.Loops.{turn_where, turns_run, left_turns_run, loop_run, loop_left_run}
use Rattle.laws_code.specs.evaluation.Laws.{known, IsGood, amount_on}
use Rattle.laws_code.specs.stacks.Sound.{seen, AllTypes, Sound, KeepsFrom, SafeRun}
use Rattle.laws_code.proofs.stacks.ForCallers.{on-append, on_positive, keeps_failed, sound_after, after_still, keeps_ends, keeps_end, ends_shift, keeps_first, keeps_second, keeps_under, sound_with, keeps_charge, bool_type, safe_truth, safe_option, safe_union, safe_list}

pub safe_block : (t : Typer) (r : Run) → SafeRun t r → SafeRun t (block r)
safe_block t r s e d A V m g so = by_test (nat_lt d block_limit)
  where
    by_test : (b : Bool) → KeepsFrom (seen e) m.issued m.changes V (t e.context A) (opened b r e d A V m)
    by_test true = s e (suc d) A V m g so
    by_test false = keeps_failed (seen e) m.issued m.changes V (t e.context A) _

-- ---- branches

module _ (b c : Typer) (r s : Run) (sr : SafeRun b r) (ss : SafeRun c s) (e : Surroundings) (d : ℕ) (A : List Kind)
    (V : List Val) (m : Tally) (g : IsGood e) (so : Sound (seen e) m.issued m.changes A V) where
  one_of : (x : Bool) (A : List Kind) (V : List Val) (m : Tally) → Sound (seen e) m.issued m.changes A V →
      KeepsFrom (seen e) m.issued m.changes V (join (b e.context A) (c e.context A)) (chosen x r s e d A V m)
  one_of true A V m so = keeps_first (seen e) m.issued m.changes V _ _ _ (sr e d A V m g so)
  one_of false A V m so = keeps_second (seen e) m.issued m.changes V _ _ _ (ss e d A V m g so)

  pub safe_if : KeepsFrom (seen e) m.issued m.changes V (asked.on_bool A (λ A. join (b e.context A) (c e.context A)))
      (if_run r s e d A V m)
  safe_if = safe_truth (seen e) m.issued m.changes A V _ _ so
      (λ A x V so. keeps_charge (seen e) m V _ e.prices _ 0 _ (λ h. one_of x A V (record m { gas = h }) so))

  pub safe_if_none : KeepsFrom (seen e) m.issued m.changes V (asked.on_option A
      (λ a A. join (b e.context A) (c e.context (a ∷ A)))) (if_none_run r s e d A V m)
  safe_if_none =
      safe_option (seen e) m.issued m.changes A V _ _ _ so
      (λ a A V so. keeps_charge (seen e) m V _ e.prices _ 0 _
      (λ h. keeps_first (seen e) m.issued m.changes V _ _ _ (sr e d A V (record m { gas = h }) g so)))
      (λ a A x V so. keeps_charge (seen e) m (x ∷ V) _ e.prices _ 0 _
      (λ h. keeps_second (seen e) m.issued m.changes (x ∷ V) _ _ _ (ss e d (a ∷ A) (x ∷ V) (record m { gas = h }) g so)))

  pub safe_if_left : KeepsFrom (seen e) m.issued m.changes V (asked.on_or A
      (λ x y A. join (b e.context (x ∷ A)) (c e.context (y ∷ A)))) (if_left_run r s e d A V m)
  safe_if_left =
      safe_union (seen e) m.issued m.changes A V _ _ _ so
      (λ a a' A x V _ so. keeps_charge (seen e) m (x ∷ V) _ e.prices _ 0 _
      (λ h. keeps_first (seen e) m.issued m.changes (x ∷ V) _ _ _ (sr e d (a ∷ A) (x ∷ V) (record m { gas = h }) g so)))
      (λ a a' A x V _ so. keeps_charge (seen e) m (x ∷ V) _ e.prices _ 0 _
      (λ h. keeps_second (seen e) m.issued m.changes (x ∷ V) _ _ _ (ss e d (a' ∷ A) (x ∷ V) (record m { gas = h }) g so)))

  pub safe_if_cons : KeepsFrom (seen e) m.issued m.changes V (asked.on_list A
      (λ a A. join (b e.context (a ∷ k.list a ∷ A)) (c e.context A))) (if_cons_run r s e d A V m)
  safe_if_cons =
      safe_list (seen e) m.issued m.changes A V _ _ _ so
      (λ a A x xs V so. keeps_charge (seen e) m (x ∷ v.list xs ∷ V) _ e.prices _ 0 _
      (λ h. keeps_first (seen e) m.issued m.changes (x ∷ v.list xs ∷ V) _ _ _
      (sr e d (a ∷ k.list a ∷ A) (x ∷ v.list xs ∷ V) (record m { gas = h }) g so)))
      (λ a A V so. keeps_charge (seen e) m V _ e.prices _ 0 _
      (λ h. keeps_second (seen e) m.issued m.changes V _ _ _ (ss e d A V (record m { gas = h }) g so)))

-- ---- under the top

fit_take : (w : Known) (n : ℕ) (A : List Kind) (V : List Val) → AllFit w A V → AllFit w (take n A) (take n V)
fit_take w zero A V h = tt
fit_take w (suc n) [] [] h = tt
fit_take w (suc n) (a ∷ A) (x ∷ V) h = (h.0, fit_take w n A V h.1)
fit_take w (suc n) _ _ h = absurd h

pub fit_drop : (w : Known) (n : ℕ) (A : List Kind) (V : List Val) → AllFit w A V → AllFit w (drop n A) (drop n V)
fit_drop w zero A V h = h
fit_drop w (suc n) [] [] h = tt
fit_drop w (suc n) (a ∷ A) (x ∷ V) h = fit_drop w n A V h.1
fit_drop w (suc n) _ _ h = absurd h

pub fit_length : (w : Known) (A : List Kind) (V : List Val) → AllFit w A V → length A ≡ length V
fit_length w [] [] h = refl
fit_length w (a ∷ A) (x ∷ V) h = let i : length A ≡ length V = fit_length w A V h.1 in omega arith
fit_length w _ _ h = absurd h

pub types_drop : (n : ℕ) (A : List Kind) → AllTypes A → AllTypes (drop n A)
types_drop zero A h = h
types_drop (suc n) [] h = tt
types_drop (suc n) (a ∷ A) h = types_drop n A h.1

module _ (b : Typer) (r : Run) (sr : SafeRun b r) (e : Surroundings) (d : ℕ) (g : IsGood e) where
  below_top : (n : ℕ) (A : List Kind) (V : List Val) (m : Tally) → Sound (seen e) m.issued m.changes A V →
      KeepsFrom (seen e) m.issued m.changes V (under (take n A) (b e.context (drop n A)))
      (after (r e d (drop n A) (drop n V) m) (λ B W m. stack (take n A ++ B) (take n V ++ W) m))
  below_top n A V m so =
      let K : Known = known e.contract_at m.issued in
      let above : AllFit K (take n A) (take n V) = fit_take K n A V so.fit in
      let whole : take n V ++ drop n V ≡ V = take-append-drop n V in
      let le : (id : Identity) → amount_on id (drop n V) ≤ℤ amount_on id V = λ id.
      let p : pos 0 ≤ℤ amount_on id (take n V) = on_positive id K (take n A) (take n V) above in
      let q : amount_on id (take n V ++ drop n V) ≡ amount_on id V = ap (amount_on id) whole in
      omega (arith, ints, on-append id (take n V) (drop n V)) in
      let low : Sound (seen e) m.issued m.changes (drop n A) (drop n V) = sound_with A (drop n A) V (drop n V) so
      (types_drop n A so.types) (fit_drop K n A V so.fit) le in
      let kept : KeepsFrom (seen e) m.issued m.changes (take n V ++ drop n V) (under (take n A) (b e.context (drop n A)))
      (after (r e d (drop n A) (drop n V) m) (λ B W m. stack (take n A ++ B) (take n V ++ W) m)) =
      keeps_under (seen e) m.issued m.changes (take n A) (take n V) (drop n V) (b e.context (drop n A))
      (r e d (drop n A) (drop n V) m) above (sr e d (drop n A) (drop n V) m g low) in
      subst (λ X. KeepsFrom (seen e) m.issued m.changes X (under (take n A) (b e.context (drop n A)))
      (after (r e d (drop n A) (drop n V) m) (λ B W m. stack (take n A ++ B) (take n V ++ W) m))) whole kept

  pub safe_dip : (n : ℕ) (A : List Kind) (V : List Val) (m : Tally) → Sound (seen e) m.issued m.changes A V →
      KeepsFrom (seen e) m.issued m.changes V (dip_type n b e.context A) (dip_run n r e d A V m)
  safe_dip n A V m so = by_test (nat_le n (length A)) (nat_le n (length V))
      (ap (nat_le n) (fit_length (known e.contract_at m.issued) A V so.fit))
    where
      by_test : (x y : Bool) → x ≡ y → KeepsFrom (seen e) m.issued m.changes V
          (if x then under (take n A) (b e.context (drop n A)) else bad 0)
          (only_if (x && y)
          (paid e price.Dip m (λ m. after (r e d (drop n A) (drop n V) m)
          (λ B W m. stack (take n A ++ B) (take n V ++ W) m))))
      by_test false y q = tt
      by_test true true q = keeps_charge (seen e) m V _ e.prices _ 0 _ (λ h. below_top n A V (record m { gas = h }) so)
      by_test true false q = absurd cc

-- ---- loops

-- the typing of the further turns of a loop
abbrev pub turns_type : Typer → Typer
turns_type b c A = asked.on_bool A (λ A. ends (b c A) (ty.bool ∷ A) (goes A))

abbrev pub left_turns_type : Typer → Typer
left_turns_type b c A = asked.on_or A (λ x y A. ends (b c (x ∷ A)) (k.or x y ∷ A) (goes (y ∷ A)))

module _ (b : Typer) (again r : Run) (sr : SafeRun b r) where
  turn : SafeRun (turns_type b) again → (e : Surroundings) (d : ℕ) (A : List Kind) (x : Bool) (V : List Val) (m : Tally) →
      IsGood e → Sound (seen e) m.issued m.changes A V →
      KeepsFrom (seen e) m.issued m.changes V (ends (b e.context A) (ty.bool ∷ A) (goes A)) (turn_where x again r e d A V m)
  turn sa e d A true V m g so =
      keeps_charge (seen e) m V _ e.prices _ 0 _ (λ h. keeps_ends (seen e) m.issued m.changes [] V (b e.context A)
      (ty.bool ∷ A) (goes A) (r e d A V (record m { gas = h })) (again e d)
      (sr e d A V (record m { gas = h }) g so)
      (λ W n a. sa e d (ty.bool ∷ A) W n g (sound_after A (ty.bool ∷ A) W n so (bool_type, so.types) a)))
  turn sa e d A false V m g so = keeps_end (seen e) m.issued m.changes V (b e.context A) (ty.bool ∷ A) A V m
      (after_still A A V m so so.fit (λ id. omega (arith, ints)))

  pub safe_turns : SafeRun (turns_type b) again → SafeRun (turns_type b) (turns_run again r)
  safe_turns sa e d A V m g so = safe_truth (seen e) m.issued m.changes A V _ _ so (λ A x V so. turn sa e d A x V m g so)

  pub safe_left_turns : SafeRun (left_turns_type b) again → SafeRun (left_turns_type b) (left_turns_run again r)
  safe_left_turns sa e d A V m g so =
      safe_union (seen e) m.issued m.changes A V _ _ _ so
      (λ x y A v V ty so. keeps_charge (seen e) m (v ∷ V) _ e.prices _ 0 _
      (λ h. keeps_ends (seen e) m.issued m.changes [] (v ∷ V) (b e.context (x ∷ A)) (k.or x y ∷ A) (goes (y ∷ A))
      (r e d (x ∷ A) (v ∷ V) (record m { gas = h })) (again e d)
      (sr e d (x ∷ A) (v ∷ V) (record m { gas = h }) g so)
      (λ W n a. sa e d (k.or x y ∷ A) W n g (sound_after (x ∷ A) (k.or x y ∷ A) W n so (ty, so.types.1) a))))
      (λ x y A v V ty so. keeps_end (seen e) m.issued m.changes (v ∷ V) (b e.context (x ∷ A)) (k.or x y ∷ A) (y ∷ A) (v ∷ V) m
      (after_still (y ∷ A) (y ∷ A) (v ∷ V) m so so.fit (λ id. omega (arith, ints))))

-- the loop itself, whose body stands at a location
module _ (at : ℕ) (b : Typer) (again : Run) where
  pub safe_loop : SafeRun (turns_type b) again → SafeRun (λ c A. asked.on_bool A
      (λ A. ends (shift at (b c A)) (ty.bool ∷ A) (goes A))) (loop_run again)
  safe_loop sa e d (ty.bool ∷ A) (v.truth x ∷ V) m g so =
      keeps_charge (seen e) m (v.truth x ∷ V) _ e.prices _ 0 _
      (λ h. ends_shift (seen e) m.issued m.changes at (v.truth x ∷ V) (b e.context A) (ty.bool ∷ A) (goes A) _
      (sa e d (ty.bool ∷ A) (v.truth x ∷ V) (record m { gas = h }) g so))
  safe_loop sa e d (ty.bool ∷ A) [] m g so = absurd so.fit
  safe_loop sa e d (ty.bool ∷ A) (x ∷ V) m g so = let h = so.fit.0 in absurd cc
  safe_loop sa e d A V m g so = tt

  pub safe_loop_left : SafeRun (left_turns_type b) again → SafeRun
      (λ c A. asked.on_or A (λ x y A. ends (shift at (b c (x ∷ A))) (k.or x y ∷ A) (goes (y ∷ A)))) (loop_left_run again)
  safe_loop_left sa e d (k.or x y ∷ A) (v.left z ∷ V) m g so =
      keeps_charge (seen e) m (v.left z ∷ V) _ e.prices _ 0 _
      (λ h. ends_shift (seen e) m.issued m.changes at (v.left z ∷ V) (b e.context (x ∷ A)) (k.or x y ∷ A) (goes (y ∷ A)) _
      (sa e d (k.or x y ∷ A) (v.left z ∷ V) (record m { gas = h }) g so))
  safe_loop_left sa e d (k.or x y ∷ A) (v.right z ∷ V) m g so =
      keeps_charge (seen e) m (v.right z ∷ V) _ e.prices _ 0 _
      (λ h. ends_shift (seen e) m.issued m.changes at (v.right z ∷ V) (b e.context (x ∷ A)) (k.or x y ∷ A) (goes (y ∷ A)) _
      (sa e d (k.or x y ∷ A) (v.right z ∷ V) (record m { gas = h }) g so))
  safe_loop_left sa e d (k.or x y ∷ A) [] m g so = absurd so.fit
  safe_loop_left sa e d (k.or x y ∷ A) (z ∷ V) m g so = absurd so.fit.0
  safe_loop_left sa e d A V m g so = tt
