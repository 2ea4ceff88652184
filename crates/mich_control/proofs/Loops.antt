-- Instructions with a body that is run again and again.
use Rattle.std.proofs.Common.{◌≡◌, ℕ, ◌+◌, Bool, true, false, List, [], ◌∷◌, Option, Some, None, refl, sym, ap, ◌∙◌, subst}
use Rattle.std.specs.Prelude.{if◌then◌else◌, ◌++◌, length, drop, option_map}
use Rattle.std.proofs.Math.Seq.{drop-append_seam}
use Rattle.rules_text.specs.nodes.Tree.{prim, seq, Trees, none, more}
use Rattle.rules_text.specs.nodes.Primitives.{primitive_of_name}
use Rattle.rules_text.specs.declared.nodes.Primitive.{Primitive}
use Rattle.rules_data.specs.types.Kind.{Kind, or, pair, list, set, map}
use Rattle.rules_code.specs.instructions.Types.{bool}
use Rattle.rules_code.specs.instructions.Context.{Context}
use Rattle.rules_code.specs.typing.Typing.{Typing, goes, fails, bad, Typer, shift, ends}
use Rattle.rules_code.specs.typing.Acts.{Meanings, act_type, one_body}
use Rattle.rules_code.specs.typing.Nodes.{bodies, body, tree_type}
use Rattle.laws_data.proofs.types_lemmas.ForCallers.{same_kinds_true}
use Rattle.mich_base.specs.declared.node.Node.{Node}
use Rattle.mich_base.specs.declared.ty.Ty.{Ty}
use Rattle.mich_base.specs.View.{tree, trees}
use Rattle.mich_overload.specs.View.{kinds}
use Rattle.mich_instr.specs.Code.{Code, Codes}
use Rattle.mich_instr.specs.Typed.{HasForm, of_list, of_set, of_map, IsCode, AreCode, is_loop, is_loop_left, is_iter}
use Rattle.mich_control.specs.declared.form.Loop.{Loop}
use Rattle.mich_control.specs.declared.form.Loop.TheVariants as loop
use Rattle.mich_typed.specs.declared.error.CheckError.{CheckError}
use Rattle.mich_typed.specs.declared.error.CheckError.TheVariants as error
use Rattle.mich_control.specs.Begun.{Turning, turning, turning_on, looped}
use Rattle.mich_control.specs.View.{loop_form, loop_code}
use Rattle.mich_control.specs.Answers.{typing, Leads, ends_in, IsFault, inside}
use Rattle.mich_control.proofs.Shifts.{bad_here, unshift, body_at, fault_is}
use Rattle.mich_control.proofs.Forms.{meanings, formed}

-- ---- the stacks on more values below

looped_over : (l : Loop) (a : Kind) (A : List Kind) → looped l (a ∷ A) ≡ option_map (λ t. turning_on t A) (looped l (a ∷ []))
looped_over loop.Bool bool A = refl
looped_over loop.Left (or a r) A = refl
looped_over loop.Parts (list a) A = refl
looped_over loop.Parts (set a) A = refl
looped_over loop.Parts (map k v) A = refl
looped_over _ _ A = refl

pub loop_stands : (l : Loop) (a : Kind) (A S R : List Kind) (t u : Turning) → S ≡ a ∷ A → Some t ≡ looped l (a ∷ []) → R ≡ drop 1 S → u ≡ turning_on t R → Some u ≡ looped l S
loop_stands l a A S R t u s e r h =
    let same : R ≡ A = r ∙ ap (drop 1) s in
    ap Some (h ∙ ap (turning_on t) same) ∙ sym (ap (looped l) s ∙ looped_over l a A ∙ ap (option_map (λ v. turning_on v A)) (sym e))

pub turning_whole : (X Y Z R B E : List Kind) (n : ℕ) → B ≡ X ++ R → E ≡ Y ++ R → n ≡ length Y → turning B E (Z ++ drop n E) ≡ turning_on (turning X Y Z) R
turning_whole X Y Z R B E n b e l =
    let rest : drop n E ≡ R = ap (λ k. drop k E) l ∙ ap (drop (length Y)) e ∙ drop-append_seam Y R in
    ap (λ x. turning x E (Z ++ drop n E)) b ∙ ap (λ x. turning (X ++ R) x (Z ++ drop n E)) e ∙ ap (λ x. turning (X ++ R) (Y ++ R) (Z ++ x)) rest

-- ---- the typing of the body on its stack
abbrev pub turned : Option Turning → Context → List Typer → Typing
turned None c bs = one_body bs (λ b. bad 0)
turned (Some t) c bs = one_body bs (λ b. ends (b c t.begins) t.ends (goes t.leaves))

loop_type : (l : Loop) (name : Option Primitive) (annots : List (List ℕ)) (ts : Trees) (m : Meanings) (c : Context) (S : List Kind) →
    act_type (loop_form l) name annots ts m c S ≡ turned (looped l S) c m.bodies
loop_type loop.Bool name annots ts m c (bool ∷ A) = refl
loop_type loop.Left name annots ts m c (or a r ∷ A) = refl
loop_type loop.Parts name annots ts m c (list a ∷ A) = refl
loop_type loop.Parts name annots ts m c (set a ∷ A) = refl
loop_type loop.Parts name annots ts m c (map k v ∷ A) = refl
loop_type _ name annots ts m c _ = refl

one_none : (bs : List Typer) → one_body bs (λ b. bad 0) ≡ bad 0
one_none [] = refl
one_none (b ∷ []) = refl
one_none (b ∷ d ∷ bs) = refl

-- ---- how a body ends

pub ends_fault : (at : ℕ) (T U : Typing) (C : List Kind) (e : CheckError) → IsFault (shift at T) e → IsFault (shift at (ends T C U)) e
ends_fault at (goes B) U C (error.IllTyped l) h = absurd cc
ends_fault at fails U C (error.IllTyped l) h = absurd cc
ends_fault at (bad m) U C (error.IllTyped l) h = h
ends_fault at T U C error.Memory h = tt

pub ends_is : (o : Option (List Ty)) (C : List Kind) (U : Typing) → ends (typing o) C U ≡ (if ends_in o C then U else bad 0)
ends_is (Some ts) C U = refl
ends_is None C U = refl

pub ended_leads : (o : Option (List Ty)) (C : List Kind) (P : List Kind → Type 0) → ends_in o C ≡ true → Leads P o → P C
ended_leads (Some ts) C P e h = subst P (same_kinds_true (kinds ts) C e) h
ended_leads None C P e h = h C

-- ---- the typed code

turning_same : (t u : Turning) → Some t ≡ Some u → t ≡ u
turning_same t u e = cc

module _ (c : Context) (name : List ℕ) (annots : List (List ℕ)) (ts : Trees) (is : Codes) where
  turn_typed : (l : Loop) (S : List Kind) (t u : Turning) →
      (AreCode c ts is t.begins t.ends → IsCode c (prim name annots (more (seq ts) none)) (loop_code l is) S t.leaves) → Some t ≡ Some u →
      AreCode c ts is u.begins u.ends → IsCode c (prim name annots (more (seq ts) none)) (loop_code l is) S u.leaves
  turn_typed l S t u f e h =
      subst (λ x. AreCode c ts is x.begins x.ends → IsCode c (prim name annots (more (seq ts) none)) (loop_code l is) S x.leaves) (turning_same t u e) f h

  loop_typed : (l : Loop) (S : List Kind) (u : Turning) → HasForm (loop_form l) name → looped l S ≡ Some u → AreCode c ts is u.begins u.ends →
      IsCode c (prim name annots (more (seq ts) none)) (loop_code l is) S u.leaves
  loop_typed loop.Bool (bool ∷ A) u f e h = turn_typed loop.Bool (bool ∷ A) (turning A (bool ∷ A) A) u (λ k. is_loop f k) e h
  loop_typed loop.Left (or a r ∷ A) u f e h = turn_typed loop.Left (or a r ∷ A) (turning (a ∷ A) (or a r ∷ A) (r ∷ A)) u (λ k. is_loop_left f k) e h
  loop_typed loop.Parts (list a ∷ A) u f e h = turn_typed loop.Parts (list a ∷ A) (turning (a ∷ A) A A) u (λ k. is_iter f of_list k) e h
  loop_typed loop.Parts (set a ∷ A) u f e h = turn_typed loop.Parts (set a ∷ A) (turning (a ∷ A) A A) u (λ k. is_iter f of_set k) e h
  loop_typed loop.Parts (map k v ∷ A) u f e h = turn_typed loop.Parts (map k v ∷ A) (turning (pair k v ∷ A) A A) u (λ j. is_iter f of_map j) e h
  loop_typed _ _ u f e h = absurd cc

-- ---- the whole instruction

module _ (at : ℕ) (l : Loop) (c : Context) (name : List ℕ) (annots : List (List ℕ)) (ns : List Node) (S : List Kind) (f : HasForm (loop_form l) name) where
  loop_is : shift at (tree_type (prim name annots (trees ns)) c S) ≡ shift at (turned (looped l S) c (bodies (trees ns) 1))
  loop_is = ap (shift at) (formed (loop_form l) name annots (trees ns) c S f ∙ loop_type l (primitive_of_name name) annots (trees ns) (meanings (trees ns)) c S)

  module _ (x : Node) (t : Turning) (one : ns ≡ x ∷ []) (e : Some t ≡ looped l S) where
    turn_is : shift at (tree_type (prim name annots (trees ns)) c S) ≡ shift at (ends (body (tree x) 1 c t.begins) t.ends (goes t.leaves))
    turn_is = loop_is ∙ ap (λ o. shift at (turned o c (bodies (trees ns) 1))) (sym e) ∙ ap (λ xs. shift at (turned (Some t) c (bodies (trees xs) 1))) one

    pub loop_body : (z : CheckError) → IsFault (body (tree x) (at + 1) c t.begins) z → IsFault (shift at (tree_type (prim name annots (trees ns)) c S)) z
    loop_body z h = fault_is _ _ z turn_is
        (ends_fault at (body (tree x) 1 c t.begins) (goes t.leaves) t.ends z (fault_is _ _ z (body_at at 1 (tree x) c t.begins) h))

    module _ (o : Option (List Ty)) (h : body (tree x) (at + 1) c t.begins ≡ typing o) where
      tested : shift at (tree_type (prim name annots (trees ns)) c S) ≡ shift at (if ends_in o t.ends then goes t.leaves else bad 0)
      tested =
          turn_is ∙ ap (λ T. shift at (ends T t.ends (goes t.leaves))) (unshift at (body (tree x) 1 c t.begins) o (body_at at 1 (tree x) c t.begins ∙ h))
          ∙ ap (shift at) (ends_is o t.ends (goes t.leaves))

      pub loop_other : false ≡ ends_in o t.ends → shift at (tree_type (prim name annots (trees ns)) c S) ≡ bad at
      loop_other k = tested ∙ ap (λ b. shift at (if b then goes t.leaves else bad 0)) (sym k) ∙ bad_here at

      pub loop_made : (i : Code) (is : Codes) → true ≡ ends_in o t.ends → i ≡ loop_code l is → tree x ≡ seq (inside (tree x)) →
          Leads (λ B. AreCode c (inside (tree x)) is t.begins B) o →
          (shift at (tree_type (prim name annots (trees ns)) c S) ≡ goes t.leaves) × IsCode c (prim name annots (trees ns)) i S t.leaves
      loop_made i is k m tx hx = (
        tested ∙ ap (λ b. shift at (if b then goes t.leaves else bad 0)) (sym k),
        subst (λ ts. IsCode c (prim name annots ts) i S t.leaves) (ap (λ u. more u none) (sym tx) ∙ ap trees (sym one))
            (subst (λ d. IsCode c (prim name annots (more (seq (inside (tree x))) none)) d S t.leaves) (sym m)
            (loop_typed c name annots (inside (tree x)) is l S t f (sym e) (ended_leads o t.ends (λ B. AreCode c (inside (tree x)) is t.begins B) (sym k) hx))),
      )

      pub loop_behind : (Z : List Kind) → Z ≡ t.leaves → (i : Code) (is : Codes) → true ≡ ends_in o t.ends → i ≡ loop_code l is → tree x ≡ seq (inside (tree x)) →
          Leads (λ B. AreCode c (inside (tree x)) is t.begins B) o →
          (shift at (tree_type (prim name annots (trees ns)) c S) ≡ goes Z) × IsCode c (prim name annots (trees ns)) i S Z
      loop_behind Z z i is k m tx hx =
          let whole = loop_made i is k m tx hx in (
            whole.0 ∙ ap goes (sym z),
            subst (IsCode c (prim name annots (trees ns)) i S) (sym z) whole.1,
          )
