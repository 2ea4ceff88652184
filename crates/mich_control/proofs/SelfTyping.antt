-- SELF.
use Rattle.std.proofs.Common.{◌≡◌, ℕ, ◌+◌, Bool, true, false, List, [], ◌∷◌, Some, refl, sym, ap, ◌∙◌, subst, arith}
use Rattle.std.specs.Prelude.{if◌then◌else◌, nat_le, Err}
use Rattle.rules_text.specs.nodes.Limits.{type_limit}
use Rattle.rules_text.specs.nodes.Tree.{prim, Trees, none, more}
use Rattle.rules_text.specs.nodes.Primitives.{primitive_of_name}
use Rattle.rules_data.specs.forms.Spelling.{default_name}
use Rattle.rules_data.specs.types.Kind.{Kind, nodes, contract}
use Rattle.rules_data.specs.types.Entrypoints.{Entry}
use Rattle.rules_code.specs.instructions.Arguments.{Found, found, fault, and_then, no_argument, annotated}
use Rattle.rules_code.specs.instructions.Control.{self_of}
use Rattle.rules_code.specs.instructions.Context.{Context}
use Rattle.rules_code.specs.instructions.Context as standing
use Rattle.rules_code.specs.instructions.Forms as f
use Rattle.rules_code.specs.typing.Typing.{goes, bad, shift, made, on_found}
use Rattle.rules_code.specs.typing.Acts.{of_entry, self_type}
use Rattle.rules_code.specs.typing.Nodes.{tree_type}
use Rattle.mich_base.specs.declared.node.Node.{Node}
use Rattle.mich_base.specs.declared.ty.Ty.{Ty}
use Rattle.mich_base.specs.Counted.{IsNotEmpty}
use Rattle.mich_base.specs.View.{trees}
use Rattle.mich_overload.specs.View.{kinds}
use Rattle.mich_outline.specs.Answers.{found_from}
use Rattle.mich_instr.specs.Plain.{kept}
use Rattle.mich_instr.specs.Code.{Code}
use Rattle.mich_instr.specs.Code as made_code
use Rattle.mich_instr.specs.Typed.{HasForm, IsCode, is_self}
use Rattle.mich_typed.specs.declared.error.CheckError.{CheckError}
use Rattle.mich_control.specs.Begun.{entry_in}
use Rattle.mich_control.specs.Answers.{IsFault, IsFound}
use Rattle.mich_control.proofs.Shifts.{fault_is}
use Rattle.mich_control.proofs.Forms.{formed}
use Rattle.mich_control.proofs.Read.{found_typing, read_as}

-- ---- the name

argued : (at : ℕ) (o : Found (List ℕ)) (x : List ℕ) (ns : List Node) → IsNotEmpty ns → found_from at o ≡ found x →
    found_from at (and_then o (λ (name : List ℕ). no_argument (trees ns) name)) ≡ fault at
argued at (found y) x [] h e = absurd h
argued at (found y) x (n ∷ ns) h e =
    let z : at + 0 ≡ at = omega arith in
    ap fault z
argued at (fault l) x ns h e = absurd cc

pub with_arguments : (at : ℕ) (annots : List (List ℕ)) (x : List ℕ) (ns : List Node) → IsNotEmpty ns → found_from at (annotated default_name annots) ≡ found x →
    found_from at (self_of annots (trees ns)) ≡ fault at
with_arguments at annots x ns h e = argued at (annotated default_name annots) x ns h e

bare : (at : ℕ) (o : Found (List ℕ)) (x : List ℕ) → found_from at o ≡ found x → found_from at (and_then o (λ (name : List ℕ). no_argument none name)) ≡ found x
bare at (found y) x e = e
bare at (fault l) x e = absurd cc

pub without_arguments : (at : ℕ) (annots : List (List ℕ)) (x : List ℕ) (ns : List Node) → ns ≡ [] → found_from at (annotated default_name annots) ≡ found x →
    found_from at (self_of annots (trees ns)) ≡ found x
without_arguments at annots x ns h e = ap (λ ms. found_from at (self_of annots (trees ms))) h ∙ bare at (annotated default_name annots) x e

no_more : (o : Found (List ℕ)) (x : List ℕ) (ts : Trees) → and_then o (λ (name : List ℕ). no_argument ts name) ≡ found x → ts ≡ none
no_more (found y) x none e = refl
no_more (found y) x (more t ts) e = absurd cc
no_more (fault l) x ts e = absurd cc

-- ---- the entrypoint

self_in : (name : List ℕ) (c : Context) (A : List Kind) → self_type name c A ≡ of_entry (entry_in name c) A
self_in name (standing.main es) A = refl
self_in name standing.view A = refl
self_in name standing.lambda A = refl

pub made_is : (at : ℕ) (a : Kind) (A S : List Kind) → shift at (made a A) ≡ goes S → a ∷ A ≡ S
made_is at a A S e = by (nat_le (nodes a) type_limit) e
  where
    by : (b : Bool) → shift at (if b then goes (a ∷ A) else bad 0) ≡ goes S → a ∷ A ≡ S
    by true e = cc
    by false e = absurd cc

-- the entrypoint is one of the script's, and so is the typed code
self_typed : (c : Context) (name : List ℕ) (annots : List (List ℕ)) (x : List ℕ) (e : Entry) (A : List Kind) → HasForm f.self name →
    self_of annots none ≡ found x → Some e ≡ entry_in x c →
    IsCode c (prim name annots none) (made_code.self x (kept (primitive_of_name name) annots)) A (contract e.kind ∷ A)
self_typed (standing.main es) name annots x e A f g h = is_self f g (sym h)
self_typed standing.view name annots x e A f g h = absurd cc
self_typed standing.lambda name annots x e A f g h = absurd cc

-- ---- the whole instruction

module _ (at : ℕ) (c : Context) (name : List ℕ) (annots : List (List ℕ)) (ns : List Node) (S : List Kind) (form : HasForm f.self name) where
  whole : shift at (tree_type (prim name annots (trees ns)) c S) ≡ shift at (on_found (self_of annots (trees ns)) (λ x. self_type x c S))
  whole = ap (shift at) (formed f.self name annots (trees ns) c S form)

  pub self_unnamed : (z : CheckError) → IsFound (λ (x : List ℕ). x) (found_from at (self_of annots (trees ns))) (Err z) →
      IsFault (shift at (tree_type (prim name annots (trees ns)) c S)) z
  self_unnamed z h = fault_is _ _ z whole (found_typing (λ (x : List ℕ). x) at (self_of annots (trees ns)) (λ x. self_type x c S) z h)

  module _ (x : List ℕ) (named : found_from at (self_of annots (trees ns)) ≡ found x) where
    entered : shift at (tree_type (prim name annots (trees ns)) c S) ≡ shift at (of_entry (entry_in x c) S)
    entered =
        whole ∙ ap (λ o. shift at (on_found o (λ x. self_type x c S))) (read_as at (self_of annots (trees ns)) x named) ∙ ap (shift at) (self_in x c S)

    module _ (e : Entry) (a : Kind) (there : Some e ≡ entry_in x c) (of : a ≡ contract e.kind) where
      typed : shift at (tree_type (prim name annots (trees ns)) c S) ≡ shift at (made a S)
      typed = entered ∙ ap (λ o. shift at (of_entry o S)) (sym there) ∙ ap (λ b. shift at (made b S)) (sym of)

      pub self_made : (vs : List Ty) (kept_as : List (List ℕ)) (i : Code) → shift at (made a S) ≡ goes (kinds vs) → kept_as ≡ kept (primitive_of_name name) annots →
          i ≡ made_code.self x kept_as →
          (shift at (tree_type (prim name annots (trees ns)) c S) ≡ goes (kinds vs)) × IsCode c (prim name annots (trees ns)) i S (kinds vs)
      self_made vs kept_as i h k m =
          let g : self_of annots (trees ns) ≡ found x = read_as at (self_of annots (trees ns)) x named in
          let n : trees ns ≡ none = no_more (annotated default_name annots) x (trees ns) g in (
            typed ∙ h,
            subst (λ ts. IsCode c (prim name annots ts) i S (kinds vs)) (sym n)
                (subst (λ j. IsCode c (prim name annots none) j S (kinds vs)) (sym (m ∙ ap (made_code.self x) k))
                (subst (λ B. IsCode c (prim name annots none) (made_code.self x (kept (primitive_of_name name) annots)) S B)
                (ap (λ b. b ∷ S) (sym of) ∙ made_is at a S (kinds vs) h)
                (self_typed c name annots x e S form (subst (λ ts. self_of annots ts ≡ found x) n g) there))),
          )
