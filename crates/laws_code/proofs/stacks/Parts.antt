-- Types of parts, and stacks of the shapes that instructions with bodies ask for.
use Rattle.std.proofs.Common.{◌≤◌, Bool, List, [], ◌∷◌, arith}
use Rattle.std.specs.Prelude.{◌≤ℤ◌}
use Rattle.std.proofs.lemmas.Int.{ints}
use Rattle.rules_text.specs.nodes.Limits.{type_limit}
use Rattle.rules_data.specs.types.Kind.{Kind, nodes}
use Rattle.rules_data.specs.types.Kind as k
use Rattle.rules_code.specs.instructions.Types as ty
use Rattle.rules_data.specs.values.Val.{Val, Vals, no_val, more_vals}
use Rattle.rules_data.specs.values.Val as v
use Rattle.rules_data.specs.values.Tickets.{Identity, tickets, all_tickets}
use Rattle.rules_code.specs.steps.Changes.{Change}
use Rattle.rules_code.specs.typing.Typing.{Typing}
use Rattle.rules_code.specs.typing.Stacks as asked
use Rattle.rules_code.specs.evaluation.Operations.{Issued}
use Rattle.rules_code.specs.evaluation.Outcome.{Outcome}
use Rattle.rules_code.specs.evaluation.Shapes.{on_truth, on_option, on_union, on_list}
use Rattle.laws_code.specs.evaluation.Laws.{IsType, amount_on}
use Rattle.laws_code.specs.stacks.Sound.{Seen, Sound, KeepsFrom}
use Rattle.laws_data.proofs.amounts.ForCallers.{among_append}
use Rattle.laws_code.proofs.stacks.Kept.{keeps_from}
use Rattle.laws_code.proofs.stacks.Paid.{sound_with, sound_pop, keeps_pop}

pub bool_type : IsType ty.bool
bool_type = (tt, omega arith)

pub type_option : (a : Kind) → IsType (k.option a) → IsType a
type_option a h = let n : nodes (k.option a) ≤ type_limit = h.1 in (h.0, omega arith)

pub type_list : (a : Kind) → IsType (k.list a) → IsType a
type_list a h = let n : nodes (k.list a) ≤ type_limit = h.1 in (h.0, omega arith)

pub type_left : (a b : Kind) → IsType (k.or a b) → IsType a
type_left a b h = let n : nodes (k.or a b) ≤ type_limit = h.1 in (h.0.0, omega arith)

pub type_right : (a b : Kind) → IsType (k.or a b) → IsType b
type_right a b h = let n : nodes (k.or a b) ≤ type_limit = h.1 in (h.0.1, omega arith)

pub type_first : (a b : Kind) → IsType (k.pair a b) → IsType a
type_first a b h = let n : nodes (k.pair a b) ≤ type_limit = h.1 in (h.0.0, omega arith)

pub type_argument : (a b : Kind) → IsType (k.lambda a b) → IsType a
type_argument a b h = let n : nodes (k.lambda a b) ≤ type_limit = h.1 in (h.0.0, omega arith)

pub type_result : (a b : Kind) → IsType (k.lambda a b) → IsType b
type_result a b h = let n : nodes (k.lambda a b) ≤ type_limit = h.1 in (h.0.1, omega arith)

pub type_element : (a : Kind) → IsType (k.set a) → IsType a
type_element a h = let n : nodes (k.set a) ≤ type_limit = h.1 in (h.0.1, omega arith)

pub type_entry : (a b : Kind) → IsType (k.map a b) → IsType (k.pair a b)
type_entry a b h = let n : nodes (k.map a b) ≤ type_limit = h.1 in ((h.0.1, h.0.2), omega arith)

-- ---- shapes

module _ (e : Seen) (is : List Issued) (cs : List Change) where
  pub safe_truth : (A : List Kind) (V : List Val) (t : List Kind → Typing) (l : List Kind → Bool → List Val → Outcome) →
      Sound e is cs A V →
      ((A : List Kind) (b : Bool) (V : List Val) → Sound e is cs A V → KeepsFrom e is cs V (t A) (l A b V)) →
      KeepsFrom e is cs V (asked.on_bool A t) (on_truth A V l)
  safe_truth (ty.bool ∷ A) (v.truth b ∷ V) t l s k = keeps_pop e is cs ty.bool A (v.truth b) V s (t A) (l A b V)
      (k A b V (sound_pop e is cs ty.bool A (v.truth b) V s))
  safe_truth (ty.bool ∷ A) [] t l s k = absurd s.fit
  safe_truth (ty.bool ∷ A) (x ∷ V) t l s k = let h = s.fit.0 in absurd cc
  safe_truth A V t l s k = tt

  pub safe_option : (A : List Kind) (V : List Val) (t : Kind → List Kind → Typing) (l : List Kind → List Val → Outcome)
      (p : Kind → List Kind → Val → List Val → Outcome) → Sound e is cs A V →
      ((a : Kind) (A : List Kind) (V : List Val) → Sound e is cs A V → KeepsFrom e is cs V (t a A) (l A V)) →
      ((a : Kind) (A : List Kind) (x : Val) (V : List Val) → Sound e is cs (a ∷ A) (x ∷ V) →
      KeepsFrom e is cs (x ∷ V) (t a A) (p a A x V)) →
      KeepsFrom e is cs V (asked.on_option A t) (on_option A V l p)
  safe_option (k.option a ∷ A) (v.nothing ∷ V) t l p s h i = keeps_pop e is cs (k.option a) A v.nothing V s (t a A) (l A V)
      (h a A V (sound_pop e is cs (k.option a) A v.nothing V s))
  safe_option (k.option a ∷ A) (v.some x ∷ V) t l p s h i =
      let same : (id : Identity) → amount_on id (x ∷ V) ≤ℤ amount_on id (v.some x ∷ V) = λ id. omega (arith, ints) in
      keeps_from e is cs (x ∷ V) (v.some x ∷ V) (t a A) (p a A x V) same
      (i a A x V (sound_with (k.option a ∷ A) (a ∷ A) (v.some x ∷ V) (x ∷ V) s (type_option a s.types.0, s.types.1)
      (s.fit.0, s.fit.1) same))
  safe_option (k.option a ∷ A) [] t l p s h i = absurd s.fit
  safe_option (k.option a ∷ A) (x ∷ V) t l p s h i = absurd s.fit.0
  safe_option A V t l p s h i = tt

  pub safe_union : (A : List Kind) (V : List Val) (t : Kind → Kind → List Kind → Typing)
      (l p : Kind → Kind → List Kind → Val → List Val → Outcome) → Sound e is cs A V →
      ((a b : Kind) (A : List Kind) (x : Val) (V : List Val) → IsType (k.or a b) → Sound e is cs (a ∷ A) (x ∷ V) →
      KeepsFrom e is cs (x ∷ V) (t a b A) (l a b A x V)) →
      ((a b : Kind) (A : List Kind) (x : Val) (V : List Val) → IsType (k.or a b) → Sound e is cs (b ∷ A) (x ∷ V) →
      KeepsFrom e is cs (x ∷ V) (t a b A) (p a b A x V)) →
      KeepsFrom e is cs V (asked.on_or A t) (on_union A V l p)
  safe_union (k.or a b ∷ A) (v.left x ∷ V) t l p s h i =
      let same : (id : Identity) → amount_on id (x ∷ V) ≤ℤ amount_on id (v.left x ∷ V) = λ id. omega (arith, ints) in
      keeps_from e is cs (x ∷ V) (v.left x ∷ V) (t a b A) (l a b A x V) same
      (h a b A x V s.types.0 (sound_with (k.or a b ∷ A) (a ∷ A) (v.left x ∷ V) (x ∷ V) s (type_left a b s.types.0, s.types.1)
      (s.fit.0, s.fit.1) same))
  safe_union (k.or a b ∷ A) (v.right x ∷ V) t l p s h i =
      let same : (id : Identity) → amount_on id (x ∷ V) ≤ℤ amount_on id (v.right x ∷ V) = λ id. omega (arith, ints) in
      keeps_from e is cs (x ∷ V) (v.right x ∷ V) (t a b A) (p a b A x V) same
      (i a b A x V s.types.0 (sound_with (k.or a b ∷ A) (b ∷ A) (v.right x ∷ V) (x ∷ V) s (type_right a b s.types.0, s.types.1)
      (s.fit.0, s.fit.1) same))
  safe_union (k.or a b ∷ A) [] t l p s h i = absurd s.fit
  safe_union (k.or a b ∷ A) (x ∷ V) t l p s h i = absurd s.fit.0
  safe_union A V t l p s h i = tt

  pub safe_list : (A : List Kind) (V : List Val) (t : Kind → List Kind → Typing)
      (l : Kind → List Kind → Val → Vals → List Val → Outcome) (p : List Kind → List Val → Outcome) → Sound e is cs A V →
      ((a : Kind) (A : List Kind) (x : Val) (xs : Vals) (V : List Val) → Sound e is cs (a ∷ k.list a ∷ A) (x ∷ v.list xs ∷ V) →
      KeepsFrom e is cs (x ∷ v.list xs ∷ V) (t a A) (l a A x xs V)) →
      ((a : Kind) (A : List Kind) (V : List Val) → Sound e is cs A V → KeepsFrom e is cs V (t a A) (p A V)) →
      KeepsFrom e is cs V (asked.on_list A t) (on_list A V l p)
  safe_list (k.list a ∷ A) (v.list (more_vals x xs) ∷ V) t l p s h i =
      let same : (id : Identity) → amount_on id (x ∷ v.list xs ∷ V) ≤ℤ amount_on id (v.list (more_vals x xs) ∷ V) = λ id. omega
      (arith, ints, among_append id (tickets x) (all_tickets xs)) in
      keeps_from e is cs (x ∷ v.list xs ∷ V) (v.list (more_vals x xs) ∷ V) (t a A) (l a A x xs V) same
      (h a A x xs V (sound_with (k.list a ∷ A) (a ∷ k.list a ∷ A) (v.list (more_vals x xs) ∷ V) (x ∷ v.list xs ∷ V) s
      (type_list a s.types.0, (s.types.0, s.types.1)) (s.fit.0.0, (s.fit.0.1, s.fit.1)) same))
  safe_list (k.list a ∷ A) (v.list no_val ∷ V) t l p s h i = keeps_pop e is cs (k.list a) A (v.list no_val) V s (t a A) (p A V)
      (i a A V (sound_pop e is cs (k.list a) A (v.list no_val) V s))
  safe_list (k.list a ∷ A) [] t l p s h i = absurd s.fit
  safe_list (k.list a ∷ A) (x ∷ V) t l p s h i = absurd s.fit.0
  safe_list A V t l p s h i = tt
