-- EXEC, APPLY, FAILWITH and NEVER.
use Rattle.std.proofs.Common.{◌≡◌, ℕ, Bool, true, false, List, [], ◌∷◌, Option, Some, None, refl, sym, ap, ◌∙◌, subst}
use Rattle.std.specs.Prelude.{if◌then◌else◌, ◌&&◌, option_map}
use Rattle.std.proofs.lemmas.Bool.{and_parts}
use Rattle.rules_text.specs.nodes.Tree.{prim, Trees, none}
use Rattle.rules_text.specs.nodes.Primitives.{primitive_of_name}
use Rattle.rules_text.specs.declared.nodes.Primitive.{Primitive}
use Rattle.rules_data.specs.types.Kind.{Kind, pair, lambda}
use Rattle.rules_data.specs.types.Attributes.{pushable}
use Rattle.rules_code.specs.instructions.Types.{never}
use Rattle.rules_code.specs.instructions.Same.{same_kind}
use Rattle.rules_code.specs.instructions.Context.{Context}
use Rattle.rules_code.specs.typing.Typing.{Typing, goes, fails, bad, shift}
use Rattle.rules_code.specs.typing.Acts.{Meanings, act_type, no_body}
use Rattle.rules_code.specs.typing.Nodes.{bodies, tree_type}
use Rattle.laws_data.proofs.types_lemmas.ForCallers.{same_kind_true}
use Rattle.mich_base.specs.declared.node.Node.{Node}
use Rattle.mich_base.specs.declared.ty.Ty.{Ty}
use Rattle.mich_base.specs.Counted.{IsNotEmpty}
use Rattle.mich_base.specs.View.{trees}
use Rattle.mich_overload.specs.View.{kinds}
use Rattle.mich_instr.specs.Code.{Code}
use Rattle.mich_instr.specs.Code as made
use Rattle.mich_instr.specs.View.{code}
use Rattle.mich_instr.specs.Typed.{HasForm, IsCode, is_exec, is_apply, is_failwith, is_never}
use Rattle.mich_control.specs.declared.form.Bodiless.{Bodiless}
use Rattle.mich_control.specs.declared.form.Bodiless.TheVariants as bodiless
use Rattle.mich_typed.specs.declared.made.Made.{Made}
use Rattle.mich_control.specs.Begun.{Plain, plainly, where_so, on_stack}
use Rattle.mich_control.specs.View.{bodiless_form, plain_of}
use Rattle.mich_control.specs.Answers.{typing, Leads}
use Rattle.mich_control.proofs.Forms.{meanings, formed}

-- the stack after it, or that it fails
abbrev left : Option (List Kind) → Typing
left (Some B) = goes B
left None = fails

abbrev plain_type : Option Plain → Typing
plain_type None = bad 0
plain_type (Some p) = left p.leaves

-- so of the stack after it, or of any
abbrev Left : (List Kind → Type 0) → Option (List Kind) → Type 0
Left P (Some B) = P B
Left P None = (B : List Kind) → P B

where_type : (b : Bool) (i : Code) (o : Option (List Kind)) → (if b then left o else bad 0) ≡ plain_type (where_so b (plainly i o))
where_type true i o = refl
where_type false i o = refl

bodiless_type : (b : Bodiless) (name : Option Primitive) (annots : List (List ℕ)) (ts : Trees) (m : Meanings) (c : Context) (S : List Kind) →
    act_type (bodiless_form b) name annots ts m c S ≡ no_body m.bodies (plain_type (on_stack b S))
bodiless_type bodiless.Exec name annots ts m c (a ∷ lambda b r ∷ A) = ap (no_body m.bodies) (where_type (same_kind a b) (made.exec b r) (Some (r ∷ A)))
bodiless_type bodiless.Apply name annots ts m c (a ∷ lambda (pair b d) r ∷ A) =
    ap (no_body m.bodies) (where_type (same_kind a b && pushable a) (made.apply b d r) (Some (lambda d r ∷ A)))
bodiless_type bodiless.Failwith name annots ts m c (a ∷ A) = ap (no_body m.bodies) (where_type (pushable a) (made.failwith a) None)
bodiless_type bodiless.Never name annots ts m c (never ∷ A) = refl
bodiless_type _ name annots ts m c _ = refl

not_empty : (ns : List Node) (t : Typing) → IsNotEmpty ns → no_body (bodies (trees ns) 1) t ≡ bad 0
not_empty [] t h = absurd h
not_empty (x ∷ ns) t h = refl

-- ---- the typed code

so_is : (b : Bool) (p q : Plain) → where_so b p ≡ Some q → b ≡ true
so_is true p q e = refl
so_is false p q e = absurd cc

so_same : (b : Bool) (p q : Plain) → where_so b p ≡ Some q → p ≡ q
so_same true p q e = cc
so_same false p q e = absurd cc

some_same : (p q : Plain) → Some p ≡ Some q → p ≡ q
some_same p q e = cc

module _ (c : Context) (name : List ℕ) (annots : List (List ℕ)) where
  abbrev Stands : List Kind → Plain → Type 0
  Stands S p = Left (λ B. IsCode c (prim name annots none) p.instruction S B) p.leaves

  typed_on : (b : Bodiless) (S : List Kind) (q : Plain) → HasForm (bodiless_form b) name → on_stack b S ≡ Some q → Stands S q
  typed_on bodiless.Exec (a ∷ lambda b r ∷ A) q f e =
      let p : Plain = plainly (made.exec b r) (Some (r ∷ A)) in
      let s : a ≡ b = same_kind_true a b (so_is (same_kind a b) p q e) in
      subst (Stands (a ∷ lambda b r ∷ A)) (so_same (same_kind a b) p q e)
      (subst (λ x. IsCode c (prim name annots none) (made.exec b r) (x ∷ lambda b r ∷ A) (r ∷ A)) (sym s) (is_exec f))
  typed_on bodiless.Apply (a ∷ lambda (pair b d) r ∷ A) q f e =
      let p : Plain = plainly (made.apply b d r) (Some (lambda d r ∷ A)) in
      let w : same_kind a b && pushable a ≡ true = so_is (same_kind a b && pushable a) p q e in
      let s : a ≡ b = same_kind_true a b ((and_parts (same_kind a b) (pushable a) w).0) in
      subst (Stands (a ∷ lambda (pair b d) r ∷ A)) (so_same (same_kind a b && pushable a) p q e)
      (subst (λ x. IsCode c (prim name annots none) (made.apply b d r) (x ∷ lambda (pair b d) r ∷ A) (lambda d r ∷ A)) (sym s) (is_apply f))
  typed_on bodiless.Failwith (a ∷ A) q f e =
      subst (Stands (a ∷ A)) (so_same (pushable a) (plainly (made.failwith a) None) q e) (λ B. is_failwith f)
  typed_on bodiless.Never (never ∷ A) q f e = subst (Stands (never ∷ A)) (some_same (plainly made.never None) q e) (λ B. is_never f)
  typed_on _ _ q f e = absurd cc

-- ---- the whole instruction

left_is : (o : Option (List Ty)) → left (option_map kinds o) ≡ typing o
left_is (Some ts) = refl
left_is None = refl

left_leads : (P : List Kind → Type 0) (o : Option (List Ty)) → Left P (option_map kinds o) → Leads P o
left_leads P (Some ts) h = h
left_leads P None h = h

module _ (at : ℕ) (b : Bodiless) (c : Context) (name : List ℕ) (annots : List (List ℕ)) (ns : List Node) (S : List Kind) (f : HasForm (bodiless_form b) name) where
  bodiless_is : shift at (tree_type (prim name annots (trees ns)) c S) ≡ shift at (no_body (bodies (trees ns) 1) (plain_type (on_stack b S)))
  bodiless_is = ap (shift at) (formed (bodiless_form b) name annots (trees ns) c S f ∙ bodiless_type b (primitive_of_name name) annots (trees ns) (meanings (trees ns)) c S)

  shift_left : (o : Option (List Kind)) → shift at (left o) ≡ left o
  shift_left (Some B) = refl
  shift_left None = refl

  pub bodiless_made : (m : Made) → ns ≡ [] → Some (plain_of m) ≡ on_stack b S →
      (shift at (tree_type (prim name annots (trees ns)) c S) ≡ typing m.after) × Leads (λ B. IsCode c (prim name annots (trees ns)) (code m.instr) S B) m.after
  bodiless_made m empty e = (
    bodiless_is ∙ ap (λ o. shift at (no_body (bodies (trees ns) 1) (plain_type o))) (sym e)
        ∙ ap (λ xs. shift at (no_body (bodies (trees xs) 1) (plain_type (Some (plain_of m))))) empty
        ∙ shift_left (option_map kinds m.after) ∙ left_is m.after,
    left_leads (λ B. IsCode c (prim name annots (trees ns)) (code m.instr) S B) m.after
        (subst (λ ts. Left (λ B. IsCode c (prim name annots ts) (code m.instr) S B) (option_map kinds m.after)) (sym (ap trees empty))
        (typed_on c name annots b S (plain_of m) f (sym e))),
  )
