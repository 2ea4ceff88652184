-- How a literal is read part by part, with what is still to be tried put behind what is there.
use Rattle.std.proofs.Common.{◌≡◌, ℕ, List, [], ◌++◌, refl, sym, ap, ◌∙◌, subst, append_assoc, Result}
use Rattle.rules_text.specs.nodes.Tree.{Tree, Trees}
use Rattle.rules_data.specs.types.Kind.{Kind}
use Rattle.rules_data.specs.values.Literals.{Pending, Literal, good, bad, with_pending, and_then, mapped, read, read_rest}
use Rattle.mich_data.specs.declared.error.ValueError.{ValueError}
use Rattle.mich_data.specs.declared.error.ValueError.TheVariants as error
use Rattle.mich_data.specs.declared.reading.Reading.{Reading}
use Rattle.mich_term.specs.declared.value.Value.{Value}
use Rattle.mich_data.specs.Answers.{IsFault, IsFound, AreFound}

module _ {A : Type 0} where
  twice : (ps qs : List Pending) (r : Literal A) → with_pending ps (with_pending qs r) ≡ with_pending (ps ++ qs) r
  twice ps qs (good x rs) = ap (good x) (sym (append_assoc ps qs rs))
  twice ps qs (bad l) = refl

  same_value : (x y : A) (ps qs : List Pending) → good x ps ≡ good y qs → x ≡ y
  same_value x y ps qs e = cc

  same_pending : (x y : A) (ps qs : List Pending) → good x ps ≡ good y qs → ps ≡ qs
  same_pending x y ps qs e = cc

  pub with_none : (r : Literal A) → with_pending [] r ≡ r
  with_none (good x ps) = refl
  with_none (bad l) = refl

  pub with_nothing : (ps : List Pending) (r : Literal A) → ps ≡ [] → r ≡ with_pending ps r
  with_nothing ps r e = sym (with_none r) ∙ ap (λ qs. with_pending qs r) (sym e)

module _ {A B : Type 0} where
  -- ---- a part that is read

  pub mapped_good : (f : A → B) (r : Literal A) (x : A) (ps qs : List Pending) → with_pending ps r ≡ good x qs → with_pending ps (mapped f r) ≡ good (f x) qs
  mapped_good f (good y rs) x ps qs e = ap (mapped f) e
  mapped_good f (bad l) x ps qs e = absurd cc

  pub mapped_bad : (f : A → B) (r : Literal A) (l : ℕ) (ps : List Pending) → with_pending ps r ≡ bad l → with_pending ps (mapped f r) ≡ bad l
  mapped_bad f (good y rs) l ps e = absurd cc
  mapped_bad f (bad m) l ps e = cc

  pub fault_mapped : (f : A → B) (r : Literal A) (ps : List Pending) (e : ValueError) → IsFault (with_pending ps r) e → IsFault (with_pending ps (mapped f r)) e
  fault_mapped f r ps (error.NotOfType l) h = mapped_bad f r l ps h
  fault_mapped f r ps error.Memory h = tt

  -- ---- a part, and what stands behind it

  pub then_good : (r : Literal A) (next : A → Literal B) (x : A) (ps qs : List Pending) → with_pending ps r ≡ good x qs → with_pending ps (and_then r next) ≡ with_pending qs (next x)
  then_good (good y rs) next x ps qs e =
      twice ps rs (next y) ∙ ap (λ z. with_pending (ps ++ rs) (next z)) (same_value y x (ps ++ rs) qs e) ∙ ap (λ l. with_pending l (next x)) (same_pending y x (ps ++ rs) qs e)
  then_good (bad l) next x ps qs e = absurd cc

  pub then_bad : (r : Literal A) (next : A → Literal B) (l : ℕ) (ps : List Pending) → with_pending ps r ≡ bad l → with_pending ps (and_then r next) ≡ bad l
  then_bad (good y rs) next l ps e = absurd cc
  then_bad (bad m) next l ps e = cc

  pub fault_then : (r : Literal A) (next : A → Literal B) (ps : List Pending) (e : ValueError) → IsFault (with_pending ps r) e → IsFault (with_pending ps (and_then r next)) e
  fault_then r next ps (error.NotOfType l) h = then_bad r next l ps h
  fault_then r next ps error.Memory h = tt

-- ---- a type that is known

pub at_kind : (a b : Kind) (t : Tree) (old new : Reading) (answer : Result Value ValueError) → a ≡ b →
    IsFound (read b) t old new answer → IsFound (read a) t old new answer
at_kind a b t old new answer e h = subst (λ x. IsFound (read x) t old new answer) (sym e) h

pub rest_at_kind : (a b : Kind) (whole : ℕ) (ts : Trees) (old new : Reading) (answer : Result Value ValueError) → a ≡ b →
    AreFound (read_rest b whole) ts old new answer → AreFound (read_rest a whole) ts old new answer
rest_at_kind a b whole ts old new answer e h = subst (λ x. AreFound (read_rest x whole) ts old new answer) (sym e) h
