-- A literal whose bodies are tried.
use Rattle.std.proofs.Common.{◌≡◌, ℕ, Bool, true, false, List, [], ◌∷◌, Option, Some, None, refl, sym, ap, ◌∙◌, subst}
use Rattle.std.specs.Prelude.{◌&&◌, if◌then◌else◌, is_none}
use Rattle.std.specs.List.{list_all}
use Rattle.rules_text.specs.nodes.Tree.{Tree}
use Rattle.rules_data.specs.types.Kind.{Kind}
use Rattle.rules_data.specs.types.Attributes.{pushable}
use Rattle.rules_data.specs.values.Val.{Val}
use Rattle.rules_data.specs.values.Literals.{Literal, Pending, body, claim, good, bad, read, bodies, claims}
use Rattle.rules_code.specs.instructions.Context as place
use Rattle.rules_code.specs.instructions.Control.{call_kinds}
use Rattle.rules_code.specs.instructions.Same.{same_kinds}
use Rattle.rules_code.specs.typing.Typing.{Typing, goes, fails, shift}
use Rattle.rules_code.specs.typing.Typing as typing
use Rattle.rules_code.specs.typing.Bodies.{body_fault, first_fault}
use Rattle.rules_code.specs.typing.Fits.{Known}
use Rattle.rules_code.specs.typing.Literals.{fault_of_bodies}
use Rattle.rules_code.specs.typing.Nodes.{tree_type}
use Rattle.rules_code.specs.steps.Packing.{Trial, tried}
use Rattle.laws_typing.specs.literals.Laws.{AllClaimed}
use Rattle.laws_code.proofs.literals.ForCallers.{pushed_claims}
use Rattle.mich_check.specs.Pending.{HasValue}
use Rattle.mich_literals.specs.unpacking.Pending.{unless}
use Rattle.mich_literals.specs.unpacking.Unpacked.{TriesBodies}

-- ---- the bodies

one_fault : (b : Bool) (m l : ℕ) → is_none (if b then None else Some m) ≡ is_none (if b then None else Some l)
one_fault true m l = refl
one_fault false m l = refl

-- whether a body has a fault doesn't depend on where it stands
pub fault_anywhere : (l : ℕ) (t : Typing) (r : Kind) → is_none (body_fault 0 t r) ≡ is_none (body_fault l (shift l t) r)
fault_anywhere l (goes B) r = one_fault (same_kinds B (r ∷ [])) 0 l
fault_anywhere l fails r = refl
fault_anywhere l (typing.bad m) r = refl

first_none : (o p : Option ℕ) → (is_none o && is_none p) ≡ is_none (first_fault o p)
first_none None p = refl
first_none (Some l) p = refl

module _ (passes : Trial) (tries : TriesBodies passes) where
  bodies_pass : (ps : List Pending) → list_all passes (bodies ps) ≡ is_none (fault_of_bodies ps)
  bodies_pass [] = refl
  bodies_pass (body l a r recursive t ∷ ps) =
      let o : Option ℕ = body_fault l (shift l (tree_type t place.lambda (call_kinds a r recursive))) r in
      ap (λ b. b && list_all passes (bodies ps)) (tries l a r recursive t ∙ fault_anywhere l (tree_type t place.lambda (call_kinds a r recursive)) r)
      ∙ ap (λ b. is_none o && b) (bodies_pass ps)
      ∙ first_none o (fault_of_bodies ps)
  bodies_pass (claim l b a ∷ ps) = bodies_pass ps

  -- ---- no claims

  abbrev nothing : Known
  nothing = record { is_contract = λ b a. ⊥; is_issued = λ n. ⊥ }

  no_claims : (ps : List Pending) → AllClaimed nothing ps → list_all passes (claims ps) ≡ true
  no_claims [] h = refl
  no_claims (body l a r recursive t ∷ ps) h = no_claims ps h
  no_claims (claim l b a ∷ ps) h = absurd h.0

  -- ---- the whole

  both : (b c : Bool) → c ≡ true → (b && c) ≡ b
  both true c h = h
  both false c h = refl

  by_fault : (x : Val) (o : Option ℕ) → (if is_none o then Some x else None) ≡ unless o x
  by_fault x None = refl
  by_fault x (Some l) = refl

  good_tried : (x : Val) (ps : List Pending) → AllClaimed nothing ps → tried passes (good x ps) ≡ unless (fault_of_bodies ps) x
  good_tried x ps h =
      ap (λ b. if b then Some x else None) (both (list_all passes (bodies ps)) (list_all passes (claims ps)) (no_claims ps h) ∙ bodies_pass ps)
      ∙ by_fault x (fault_of_bodies ps)

  module _ (a : Kind) (pushes : pushable a ≡ true) (t : Tree) where
    pub value_tried : (x : Val) (ps : List Pending) → read a 0 t ≡ good x ps → tried passes (read a 0 t) ≡ unless (fault_of_bodies ps) x
    value_tried x ps e = ap (tried passes) e ∙ good_tried x ps (pushed_claims nothing a 0 t x ps pushes e)

    pub none_tried : (l : ℕ) → read a 0 t ≡ bad l → tried passes (read a 0 t) ≡ None
    none_tried l e = ap (tried passes) e

-- ---- a value, unless there is a fault

pub kept_unless : (o : Option ℕ) (x y : Val) → true ≡ is_none o → y ≡ x → Some y ≡ unless o x
kept_unless None x y h e = ap Some e
kept_unless (Some l) x y h e = absurd cc

pub none_unless : {A : Type 0} (o : Option ℕ) (x : A) → false ≡ is_none o → None ≡ unless o x
none_unless None x h = absurd cc
none_unless (Some l) x h = refl

-- ---- a literal that has a value

pub not_bad : (e : Literal Val) (x : Val) (l : ℕ) → HasValue x e → e ≡ bad l → ⊥
not_bad e x l h g = subst (HasValue x) g h

pub same_value : (e : Literal Val) (x y : Val) (ps : List Pending) → HasValue x e → e ≡ good y ps → y ≡ x
same_value e x y ps h g = sym (subst (HasValue x) g h)

pub value_is : (e : Literal Val) (x : Val) (ps : List Pending) → e ≡ good x ps → HasValue x e
value_is e x ps h = subst (HasValue x) (sym h) refl
