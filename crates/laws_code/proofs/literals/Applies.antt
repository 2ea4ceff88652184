-- APPLY.
use Rattle.std.proofs.Common.{◌≡◌, ℕ, ◌≤◌, nat_le, Bool, true, false, ◌&&◌, List, [], ◌∷◌, refl, sym, subst, arith, pos}
use Rattle.std.specs.Prelude.{◌≤ℤ◌, if◌then◌else◌}
use Rattle.std.proofs.lemmas.Int.{ints}
use Rattle.std.proofs.lemmas.Bool.{leb-true}
use Rattle.rules_text.specs.nodes.Limits.{applied_size, applied_depth}
use Rattle.rules_text.specs.nodes.Tree.{Tree, seq, Trees, size, depth}
use Rattle.rules_data.specs.declared.gas.Kind.TheVariants as g
use Rattle.rules_data.specs.types.Kind.{Kind}
use Rattle.rules_data.specs.types.Kind as k
use Rattle.rules_data.specs.types.Attributes.{pushable}
use Rattle.rules_code.specs.instructions.Same.{same_kind}
use Rattle.rules_data.specs.values.Val.{Val}
use Rattle.rules_data.specs.values.Val as v
use Rattle.rules_data.specs.values.Forms.{IsSequence}
use Rattle.rules_data.specs.values.Weight.{weight}
use Rattle.rules_code.specs.steps.Changes.{amount_in}
use Rattle.rules_code.specs.typing.Typing.{goes}
use Rattle.rules_code.specs.typing.Typing as typing
use Rattle.rules_code.specs.typing.Stacks as asked
use Rattle.rules_code.specs.evaluation.Surroundings.{Surroundings}
use Rattle.rules_code.specs.evaluation.Operations.{Tally}
use Rattle.rules_code.specs.evaluation.Outcome.{stack, only_if, charge}
use Rattle.rules_code.specs.evaluation.Calls.{applied, shallow_enough, small_enough, within_bounds, apply_run}
use Rattle.laws_code.specs.evaluation.Laws.{known}
use Rattle.laws_code.specs.stacks.Sound.{seen, Sound, KeepsFrom, SafeRun}
use Rattle.laws_code.proofs.stacks.ForCallers.{positive, after_still, keeps_charge}
use Rattle.laws_data.proofs.types_lemmas.ForCallers.{same_kind_true}
use Rattle.laws_code.proofs.literals.Applied.{applied_leads}

applied_sequence : (a b r : Kind) (x : Val) (t : Tree) (q : Bool) → IsSequence (applied a b r x t q)
applied_sequence a b r x t true = tt
applied_sequence a b r x t false = tt

module _ (e : Surroundings) (m : Tally) (a b r : Kind) (A : List Kind) (x : Val) (ts : Trees) (q : Bool) (V : List Val)
    (p : pushable a ≡ true)
    (so : Sound (seen e) m.issued m.changes (a ∷ k.lambda (k.pair a b) r ∷ A) (x ∷ v.lambda (seq ts) q ∷ V)) where
  abbrev the_body : Tree
  the_body = applied a b r x (seq ts) q

  bounded : (h : ℕ) (s d : Bool) → nat_le (size the_body) applied_size ≡ s → nat_le (depth the_body) applied_depth ≡ d →
      KeepsFrom (seen e) m.issued m.changes (x ∷ v.lambda (seq ts) q ∷ V) (goes (k.lambda b r ∷ A))
      (small_enough s the_body (λ t. stack (k.lambda b r ∷ A) (v.lambda t false ∷ V) (record m { gas = h })))
  bounded h false d es ed = tt
  bounded h true d es ed = by_depth (nat_le (depth the_body) applied_depth)
    where
      by_depth : (d : Bool) → KeepsFrom (seen e) m.issued m.changes (x ∷ v.lambda (seq ts) q ∷ V) (goes (k.lambda b r ∷ A))
          (shallow_enough d the_body (λ t. stack (k.lambda b r ∷ A) (v.lambda t false ∷ V) (record m { gas = h })))
      by_depth false = tt
      by_depth true =
          let l : size the_body ≤ applied_size = leb-true (size the_body) applied_size es in (
            refl,
            after_still (a ∷ k.lambda (k.pair a b) r ∷ A) (k.lambda b r ∷ A) (v.lambda the_body false ∷ V)
                (record m { gas = h }) so (
                  (
                    applied_sequence a b r x (seq ts) q,
                    omega arith,
                    applied_leads
                        (known e.contract_at m.issued) a b r x ts p so.types.1.0 so.fit.0 q so.fit.1.0.2,
                  ),
                  so.fit.1.1,
                )
                (λ id. let z : pos 0 ≤ℤ amount_in id x = positive id (known e.contract_at m.issued) a x so.fit.0 in
                omega (arith, ints)),
          )

  captured : KeepsFrom (seen e) m.issued m.changes (x ∷ v.lambda (seq ts) q ∷ V) (goes (k.lambda b r ∷ A))
      (charge e.prices g.Apply (weight x) m (λ m.
      within_bounds (applied a b r x (seq ts) q) (λ t. stack (k.lambda b r ∷ A) (v.lambda t false ∷ V) m)))
  captured =
      keeps_charge (seen e) m (x ∷ v.lambda (seq ts) q ∷ V) (goes (k.lambda b r ∷ A)) e.prices g.Apply (weight x)
      (λ m. within_bounds (applied a b r x (seq ts) q) (λ t. stack (k.lambda b r ∷ A) (v.lambda t false ∷ V) m))
      (λ h. bounded h (nat_le (size the_body) applied_size) (nat_le (depth the_body) applied_depth) refl refl)

pub applies : SafeRun (λ c A. asked.on_captured A (λ b r A. goes (k.lambda b r ∷ A))) apply_run
applies e d (a ∷ k.lambda (k.pair c b) r ∷ A) (x ∷ v.lambda (seq ts) q ∷ V) m gd so = by_kind (same_kind a c) refl
  where
    by_push : (s : Bool) → pushable a ≡ s → Sound (seen e) m.issued m.changes (a ∷ k.lambda (k.pair a b) r ∷ A)
        (x ∷ v.lambda (seq ts) q ∷ V) →
        KeepsFrom (seen e) m.issued m.changes (x ∷ v.lambda (seq ts) q ∷ V) (if s then goes (k.lambda b r ∷ A) else typing.bad 0)
        (only_if s
        (charge e.prices g.Apply (weight x) m (λ m. within_bounds (applied a b r x (seq ts) q)
        (λ t. stack (k.lambda b r ∷ A) (v.lambda t false ∷ V) m))))
    by_push true p so = captured e m a b r A x ts q V p so
    by_push false p so = tt

    by_kind : (s : Bool) → same_kind a c ≡ s → KeepsFrom (seen e) m.issued m.changes (x ∷ v.lambda (seq ts) q ∷ V)
        (if s && pushable a then goes (k.lambda b r ∷ A) else typing.bad 0)
        (only_if s
        (only_if (pushable a) (charge e.prices g.Apply (weight x) m
        (λ m. within_bounds (applied a b r x (seq ts) q) (λ t. stack (k.lambda b r ∷ A) (v.lambda t false ∷ V) m)))))
    by_kind true h = by_push (pushable a) refl
        (subst (λ z. Sound (seen e) m.issued m.changes (a ∷ k.lambda (k.pair z b) r ∷ A) (x ∷ v.lambda (seq ts) q ∷ V))
        (sym (same_kind_true a c h)) so)
    by_kind false h = tt
applies e d (a ∷ k.lambda (k.pair c b) r ∷ A) (x ∷ v.lambda t q ∷ V) m gd so = absurd so.fit.1.0.0
applies e d (a ∷ k.lambda (k.pair c b) r ∷ A) (x ∷ y ∷ V) m gd so = absurd so.fit.1.0
applies e d (a ∷ k.lambda (k.pair c b) r ∷ A) (x ∷ []) m gd so = absurd so.fit.1
applies e d (a ∷ k.lambda (k.pair c b) r ∷ A) [] m gd so = absurd so.fit
applies e d A V m gd so = tt
