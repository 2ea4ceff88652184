-- What is still to be tried, one after another.
use Rattle.std.proofs.Common.{◌≡◌, ℕ, Bool, true, false, List, [], ◌∷◌, Option, Some, None, refl, sym, ap, ◌∙◌, subst}
use Rattle.std.specs.Prelude.{◌&&◌, is_none}
use Rattle.rules_text.specs.nodes.Tree.{Tree}
use Rattle.rules_data.specs.types.Kind.{Kind}
use Rattle.rules_code.specs.instructions.Context as place
use Rattle.rules_code.specs.instructions.Control.{call_kinds}
use Rattle.rules_data.specs.values.Literals.{Pending, body, claim}
use Rattle.rules_code.specs.typing.Typing.{shift}
use Rattle.rules_code.specs.typing.Bodies.{body_fault, first_fault}
use Rattle.rules_code.specs.typing.Nodes.{tree_type}
use Rattle.rules_code.specs.typing.Literals.{fault_of_bodies, lambda_fault}
use Rattle.mich_data.specs.View.{all_pending, pending}
use Rattle.mich_data.specs.declared.pending.Pending.{Pending as Item}
use Rattle.mich_literals.specs.unpacking.Pending.{AreBodies}
use Rattle.mich_literals.proofs.unpacking_lemmas.Tried.{fault_anywhere}

-- the first of them, and the rest
firsts : (p : Pending) (ps : List Pending) → AreBodies (p ∷ ps) → AreBodies (p ∷ []) × AreBodies ps
firsts (body l a r b t) ps h = ((h.0, h.1, tt), h.2)
firsts (claim l b a) ps h = (tt, h)

alone : (o p : Option ℕ) → is_none (first_fault o p) ≡ (is_none (first_fault o None) && is_none p)
alone None p = refl
alone (Some l) p = refl

one_fault : (p : Pending) (ps : List Pending) → is_none (fault_of_bodies (p ∷ ps)) ≡ (is_none (fault_of_bodies (p ∷ [])) && is_none (fault_of_bodies ps))
one_fault (body l a r b t) ps = alone (body_fault l (shift l (tree_type t place.lambda (call_kinds a r b))) r) (fault_of_bodies ps)
one_fault (claim l b a) ps = refl

first_of : (o : Option ℕ) → is_none o ≡ is_none (first_fault o None)
first_of None = refl
first_of (Some l) = refl

-- whether a body has a fault doesn't depend on where it stands
pub body_alone : (l : ℕ) (a r : Kind) (b : Bool) (t : Tree) → is_none (lambda_fault a r b t) ≡ is_none (fault_of_bodies (body l a r b t ∷ []))
body_alone l a r b t =
    let T = tree_type t place.lambda (call_kinds a r b) in
    fault_anywhere l T r ∙ first_of (body_fault l (shift l T) r)

module _ (items rest : List Item) (p : Item) (e : items ≡ p ∷ rest) where
  pub bodies_here : AreBodies (all_pending items) → AreBodies (pending p ∷ []) × AreBodies (all_pending rest)
  bodies_here h = firsts (pending p) (all_pending rest) (subst (λ (xs : List Item). AreBodies (all_pending xs)) e h)

  split : is_none (fault_of_bodies (all_pending items)) ≡ (is_none (fault_of_bodies (pending p ∷ [])) && is_none (fault_of_bodies (all_pending rest)))
  split = ap (λ (xs : List Item). is_none (fault_of_bodies (all_pending xs))) e ∙ one_fault (pending p) (all_pending rest)

  pub passes_on : (w : Bool) → is_none (fault_of_bodies (all_pending items)) ≡ w → true ≡ is_none (fault_of_bodies (pending p ∷ [])) → is_none (fault_of_bodies (all_pending rest)) ≡ w
  passes_on w h g = ap (λ b. b && is_none (fault_of_bodies (all_pending rest))) g ∙ sym split ∙ h

  pub fails_here : (w : Bool) → is_none (fault_of_bodies (all_pending items)) ≡ w → false ≡ is_none (fault_of_bodies (pending p ∷ [])) → false ≡ w
  fails_here w h g = ap (λ b. b && is_none (fault_of_bodies (all_pending rest))) g ∙ sym split ∙ h

pub all_passed : (items : List Item) (w : Bool) → items ≡ [] → is_none (fault_of_bodies (all_pending items)) ≡ w → true ≡ w
all_passed items w e h = ap (λ (xs : List Item). is_none (fault_of_bodies (all_pending xs))) (sym e) ∙ h
