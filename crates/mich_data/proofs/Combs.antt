-- The parts of a pair, read one by one.
use Rattle.std.proofs.Common.{◌≡◌, ℕ, ◌+◌, ◌<◌, List, [], ◌∷◌, length, refl, sym, ap, ◌∙◌, subst, arith}
use Rattle.rules_text.specs.nodes.Tree.{Trees, size}
use Rattle.rules_data.specs.values.Val.{Val, both}
use Rattle.rules_data.specs.values.Literals.{Pending, Literal, good, with_pending, and_then, mapped, Reader, read_parts}
use Rattle.mich_base.specs.View.{tree, trees}
use Rattle.mich_base.specs.declared.node.Node.{Node}
use Rattle.mich_data.specs.declared.error.ValueError.{ValueError}
use Rattle.mich_data.specs.Answers.{IsFault}
use Rattle.mich_data.proofs.Steps.{mapped_good, fault_mapped, then_good, fault_then}

-- how the parts behind the first are read, at a location
abbrev Behind : Type 0
Behind = ℕ → Literal Val

module _ (r q : Reader) (rest : ℕ → Trees → Literal Val) (whole at : ℕ) (a : Node) where
  two_are : (ns : List Node) (b : Node) → ns ≡ a ∷ b ∷ [] →
      read_parts r q rest whole at (trees ns) ≡ and_then (r at (tree a)) (λ x. mapped (both x) (q (at + size (tree a)) (tree b)))
  two_are ns b e = ap (λ l. read_parts r q rest whole at (trees l)) e

  shown : (us : List Node) → 1 < length us →
      read_parts r q rest whole at (trees (a ∷ us)) ≡ and_then (r at (tree a)) (λ x. mapped (both x) (rest (at + size (tree a)) (trees us)))
  shown [] h = let no : ⊥ = omega (arith, h) in absurd no
  shown (b ∷ []) h = let no : ⊥ = omega (arith, h) in absurd no
  shown (b ∷ d ∷ ds) h = refl

  more_are : (ns us : List Node) → ns ≡ a ∷ us → 1 < length us →
      read_parts r q rest whole at (trees ns) ≡ and_then (r at (tree a)) (λ x. mapped (both x) (rest (at + size (tree a)) (trees us)))
  more_are ns us e h = ap (λ l. read_parts r q rest whole at (trees l)) e ∙ shown us h

module _ (first : Literal Val) (behind : Behind) (here : ℕ) (ps : List Pending) where
  first_fault : (e : ValueError) → IsFault (with_pending ps first) e → IsFault (with_pending ps (and_then first (λ x. mapped (both x) (behind here)))) e
  first_fault e h = fault_then first (λ x. mapped (both x) (behind here)) ps e h

  behind_is : (x : Val) (next : ℕ) (qs : List Pending) → with_pending ps first ≡ good x qs → next ≡ here →
      with_pending ps (and_then first (λ z. mapped (both z) (behind here))) ≡ with_pending qs (mapped (both x) (behind next))
  behind_is x next qs f g = then_good first (λ z. mapped (both z) (behind here)) x ps qs f ∙ ap (λ j. with_pending qs (mapped (both x) (behind j))) (sym g)

  behind_fault : (x : Val) (next : ℕ) (qs : List Pending) (e : ValueError) → with_pending ps first ≡ good x qs → next ≡ here → IsFault (with_pending qs (behind next)) e →
      IsFault (with_pending ps (and_then first (λ z. mapped (both z) (behind here)))) e
  behind_fault x next qs e f g h = subst (λ l. IsFault l e) (sym (behind_is x next qs f g)) (fault_mapped (both x) (behind next) qs e h)

  both_good : (x y : Val) (next : ℕ) (qs rs : List Pending) → with_pending ps first ≡ good x qs → next ≡ here → with_pending qs (behind next) ≡ good y rs →
      with_pending ps (and_then first (λ z. mapped (both z) (behind here))) ≡ good (both x y) rs
  both_good x y next qs rs f g h = behind_is x next qs f g ∙ mapped_good (both x) (behind next) y qs rs h

module _ (r q : Reader) (rest : ℕ → Trees → Literal Val) (whole at : ℕ) (ns : List Node) (a : Node) (ps : List Pending) where
  pub two_last_fault : (b : Node) (x : Val) (next : ℕ) (qs : List Pending) (e : ValueError) → ns ≡ a ∷ b ∷ [] → with_pending ps (r at (tree a)) ≡ good x qs → next ≡ at + size (tree a) →
      IsFault (with_pending qs (q next (tree b))) e → IsFault (with_pending ps (read_parts r q rest whole at (trees ns))) e
  two_last_fault b x next qs e s f g h =
      subst (λ l. IsFault (with_pending ps l) e) (sym (two_are r q rest whole at a ns b s)) (behind_fault (r at (tree a)) (λ j. q j (tree b)) (at + size (tree a)) ps x next qs e f g h)

  pub two_good : (b : Node) (x y : Val) (next : ℕ) (qs rs : List Pending) → ns ≡ a ∷ b ∷ [] → with_pending ps (r at (tree a)) ≡ good x qs → next ≡ at + size (tree a) →
      with_pending qs (q next (tree b)) ≡ good y rs → with_pending ps (read_parts r q rest whole at (trees ns)) ≡ good (both x y) rs
  two_good b x y next qs rs s f g h =
      ap (with_pending ps) (two_are r q rest whole at a ns b s) ∙ both_good (r at (tree a)) (λ j. q j (tree b)) (at + size (tree a)) ps x y next qs rs f g h

  pub more_first_fault : (us : List Node) (e : ValueError) → ns ≡ a ∷ us → 1 < length us → IsFault (with_pending ps (r at (tree a))) e →
      IsFault (with_pending ps (read_parts r q rest whole at (trees ns))) e
  more_first_fault us e s w h =
      subst (λ l. IsFault (with_pending ps l) e) (sym (more_are r q rest whole at a ns us s w)) (first_fault (r at (tree a)) (λ j. rest j (trees us)) (at + size (tree a)) ps e h)

  pub more_last_fault : (us : List Node) (x : Val) (next : ℕ) (qs : List Pending) (e : ValueError) → ns ≡ a ∷ us → 1 < length us → with_pending ps (r at (tree a)) ≡ good x qs →
      next ≡ at + size (tree a) → IsFault (with_pending qs (rest next (trees us))) e → IsFault (with_pending ps (read_parts r q rest whole at (trees ns))) e
  more_last_fault us x next qs e s w f g h =
      subst (λ l. IsFault (with_pending ps l) e) (sym (more_are r q rest whole at a ns us s w)) (behind_fault (r at (tree a)) (λ j. rest j (trees us)) (at + size (tree a)) ps x next qs e f g h)

  pub more_good : (us : List Node) (x y : Val) (next : ℕ) (qs rs : List Pending) → ns ≡ a ∷ us → 1 < length us → with_pending ps (r at (tree a)) ≡ good x qs → next ≡ at + size (tree a) →
      with_pending qs (rest next (trees us)) ≡ good y rs → with_pending ps (read_parts r q rest whole at (trees ns)) ≡ good (both x y) rs
  more_good us x y next qs rs s w f g h =
      ap (with_pending ps) (more_are r q rest whole at a ns us s w) ∙ both_good (r at (tree a)) (λ j. rest j (trees us)) (at + size (tree a)) ps x y next qs rs f g h
