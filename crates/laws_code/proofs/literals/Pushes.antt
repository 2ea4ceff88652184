-- PUSH.
use Rattle.std.proofs.Common.{◌≡◌, ℕ, ◌+◌, ◌<◌, ◌^◌, true, List, ◌∷◌, Option, Some, None, refl, sym, subst, arith, pos}
use Rattle.std.proofs.lemmas.Int.{ints}
use Rattle.rules_text.specs.nodes.Tree.{Trees, none, more, size, sizes}
use Rattle.rules_text.specs.declared.nodes.Primitive.{Primitive}
use Rattle.rules_data.specs.declared.gas.Kind.TheVariants as g
use Rattle.rules_data.specs.types.Kind.{Kind}
use Rattle.rules_data.specs.types.Attributes.{pushable}
use Rattle.rules_code.specs.instructions.Arguments.{Found, found, fault, and_then, type_argument}
use Rattle.rules_code.specs.instructions.Control.{Pushed, push_of}
use Rattle.rules_code.specs.instructions.Forms as f
use Rattle.rules_data.specs.values.Val.{Val}
use Rattle.rules_data.specs.values.Literals.{Literal, good, bad, read}
use Rattle.rules_data.specs.values.Weight.{weight}
use Rattle.rules_code.specs.typing.Typing.{goes}
use Rattle.rules_code.specs.typing.Typing as typing
use Rattle.rules_code.specs.typing.Literals.{fault_of_bodies, checked, of_reading}
use Rattle.rules_code.specs.typing.Fits.{Fits}
use Rattle.rules_code.specs.evaluation.Surroundings.{Surroundings}
use Rattle.rules_code.specs.evaluation.Operations.{Tally}
use Rattle.rules_code.specs.evaluation.Outcome.{stack, unless_stuck, charge}
use Rattle.rules_code.specs.evaluation.Given.{on_found, on_goes, value_of, push_run}
use Rattle.laws_typing.proofs.literals_lemmas.ForCallers.{fit, all_pushed}
use Rattle.rules_code.specs.steps.Changes.{amount_in}
use Rattle.laws_code.specs.evaluation.Laws.{known}
use Rattle.laws_code.specs.stacks.Sound.{seen, Sound, KeepsFrom, SafeRun}
use Rattle.laws_code.proofs.stacks.ForCallers.{no_amount, pushable_duplicable, after_still, keeps_charge}
use Rattle.laws_code.proofs.typed.ForCallers.{FoundHas, IsRead, argument_read}
use Rattle.laws_code.proofs.literals.Claims.{pushed_claims}
use Rattle.laws_code.proofs.control.ForCallers.{act_typer}

-- ---- PUSH

abbrev PushedSmall : Pushed → Type 0
PushedSmall p = (pushable p.kind ≡ true) × (size p.literal < 2 ^ 32)

abbrev HasFound : Found Pushed → Type 0
HasFound (found p) = PushedSmall p
HasFound (fault l) = Unit {0}

push_small : (ts : Trees) → sizes ts < 2 ^ 32 → HasFound (push_of ts)
push_small none h = tt
push_small (more t none) h = tt
push_small (more t (more x none)) h = by_type (type_argument pushable 1 t) (argument_read pushable 1 t)
  where
    by_type : (a : Found Kind) → FoundHas (IsRead pushable) a →
        HasFound (and_then a (λ a. found record { kind = a; location = 1 + size t; literal = x }))
    by_type (found a) g = (g.0, omega arith)
    by_type (fault l) g = tt
push_small (more t (more x (more y ts))) h = tt

module _ (e : Surroundings) (d : ℕ) (A : List Kind) (V : List Val) (m : Tally) (so : Sound (seen e) m.issued m.changes A V) where
  pushed_value : (p : Pushed) → PushedSmall p → (r : Literal Val) → read p.kind p.location p.literal ≡ r →
      KeepsFrom (seen e) m.issued m.changes V (typing.on_found (of_reading r) (λ x. goes (p.kind ∷ A)))
      (unless_stuck (value_of r) (λ x. on_goes (typing.on_found (of_reading r) (λ x. goes (p.kind ∷ A)))
      (λ B. charge e.prices g.Push (weight x) m (λ m. stack B (x ∷ V) m))))
  pushed_value p h (bad l) same = tt
  pushed_value p h (good x ps) same = by_fault (fault_of_bodies ps) refl
    where
      by_fault : (o : Option ℕ) → fault_of_bodies ps ≡ o → KeepsFrom (seen e) m.issued m.changes V
          (typing.on_found (checked x ps o) (λ x. goes (p.kind ∷ A)))
          (on_goes (typing.on_found (checked x ps o) (λ x. goes (p.kind ∷ A)))
          (λ B. charge e.prices g.Push (weight x) m (λ m. stack B (x ∷ V) m)))
      by_fault (Some l) q = tt
      by_fault None q =
          let fx : Fits (known e.contract_at m.issued) p.kind x = fit
          (known e.contract_at m.issued) p.kind p.location p.literal x ps same q
          (pushed_claims (known e.contract_at m.issued) p.kind p.location p.literal x ps h.0 same) h.1 in
          keeps_charge (seen e) m V (goes (p.kind ∷ A)) e.prices g.Push (weight x) (λ m. stack (p.kind ∷ A) (x ∷ V) m)
          (λ i. (
            refl,
            after_still A (p.kind ∷ A) (x ∷ V) (record m { gas = i }) so (fx, so.fit)
                (λ id. let z : amount_in id x ≡ pos 0 = no_amount id (known e.contract_at m.issued) p.kind x
                (pushable_duplicable p.kind h.0) fx in omega (arith, ints)),
          ))

  pushed_found : (q : Found Pushed) → HasFound q →
      KeepsFrom (seen e) m.issued m.changes V (typing.on_found q
      (λ p. typing.on_found (of_reading (read p.kind p.location p.literal)) (λ x. goes (p.kind ∷ A))))
      (on_found q (λ p. unless_stuck (value_of (read p.kind p.location p.literal))
      (λ x. on_goes
      (typing.on_found q (λ p. typing.on_found (of_reading (read p.kind p.location p.literal)) (λ x. goes (p.kind ∷ A))))
      (λ B. charge e.prices g.Push (weight x) m (λ m. stack B (x ∷ V) m)))))
  pushed_found (found p) h = pushed_value p h (read p.kind p.location p.literal) refl
  pushed_found (fault l) h = tt

pub pushes : (name : Option Primitive) (annots : List (List ℕ)) (ts : Trees) → sizes ts < 2 ^ 32 →
    SafeRun (act_typer f.push name annots ts) (λ e d A V m. push_run ts (act_typer f.push name annots ts e.context A) e d A V m)
pushes name annots ts small e d A V m gd so =
    subst (λ T. KeepsFrom (seen e) m.issued m.changes V T (push_run ts T e d A V m)) (sym (all_pushed ts A))
    (pushed_found e d A V m so (push_of ts) (push_small ts small))
