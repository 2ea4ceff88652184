-- LAMBDA and LAMBDA_REC.
use Rattle.std.proofs.Common.{◌≡◌, ℕ, ◌+◌, nat_le, Bool, true, false, List, [], ◌∷◌, Option, Some, None, refl, sym, ap, ◌∙◌, subst, arith}
use Rattle.std.specs.Prelude.{if◌then◌else◌, Result, Ok, Err}
use Rattle.rules_text.specs.nodes.Limits.{type_limit}
use Rattle.rules_text.specs.nodes.Tree.{Tree, seq, Trees, none, more, prim, size}
use Rattle.rules_text.specs.nodes.Primitives.{primitive_of_name}
use Rattle.rules_text.specs.declared.nodes.Primitive.{Primitive}
use Rattle.rules_data.specs.types.Kind.{Kind, nodes, lambda}
use Rattle.rules_data.specs.types.Reading.{any_kind}
use Rattle.rules_code.specs.instructions.Arguments.{Found, found, and_then, type_argument}
use Rattle.rules_code.specs.instructions.Control.{Arrow, lambda_of, call_kinds}
use Rattle.rules_code.specs.instructions.Context.{Context}
use Rattle.rules_code.specs.instructions.Context as place
use Rattle.rules_code.specs.typing.Typing.{Typing, goes, fails, bad, Typer, shift, ends, made, on_found}
use Rattle.rules_code.specs.typing.Acts.{Meanings, act_type, lambda_type, lambda_rec_type, last_body}
use Rattle.rules_code.specs.typing.Nodes.{bodies, body, tree_type}
use Rattle.mich_base.specs.declared.node.Node.{Node}
use Rattle.mich_base.specs.declared.ty.Ty.{Ty}
use Rattle.mich_base.specs.TypeView.{kind}
use Rattle.mich_base.specs.View.{tree, trees}
use Rattle.mich_overload.specs.View.{kinds}
use Rattle.mich_outline.specs.Answers.{found_from}
use Rattle.mich_outline.proofs.ForCallers.{argument_from}
use Rattle.mich_instr.specs.Code.{Code}
use Rattle.mich_instr.specs.Code as i
use Rattle.mich_instr.specs.Plain.{bare}
use Rattle.mich_instr.specs.View.{code, codes}
use Rattle.mich_instr.specs.Typed.{HasForm, lambda_form, IsCode, AreCode, is_lambda}
use Rattle.mich_typed.specs.declared.error.CheckError.{CheckError}
use Rattle.mich_typed.specs.declared.error.CheckError.TheVariants as error
use Rattle.mich_typed.specs.declared.made.Body.{Body}
use Rattle.mich_typed.specs.declared.made.Made.{Made}
use Rattle.mich_control.specs.Answers.{typing, Leads, ends_in, IsFault, IsFound, IsInstr, inside}
use Rattle.mich_control.specs.Arrows.{arrow, arrow_of, arrow_in, is_allowed, IsBegun, ended, IsLambdaMade}
use Rattle.mich_control.proofs.Shifts.{bad_here, unshift, body_at, fault_is}
use Rattle.mich_control.proofs.Forms.{meanings, formed}
use Rattle.mich_control.proofs.Loops.{ends_fault, ends_is, ended_leads}
use Rattle.mich_control.proofs.Read.{found_on, found_typing, read_as}
use Rattle.mich_control.proofs.SelfTyping.{made_is}

-- ---- the types

first_of : {B : Type 0} (at : ℕ) (t : Tree) (a : Kind) (next : Kind → Found B) → type_argument any_kind (at + 1) t ≡ found a →
    found_from at (and_then (type_argument any_kind 1 t) next) ≡ found_from at (next a)
first_of at t a next e =
    ap (λ f. found_from at (and_then f next)) (read_as at (type_argument any_kind 1 t) a (sym (argument_from at 1 any_kind t) ∙ e))

pub argument_fails : {B T : Type 0} (shown : T → B) (at : ℕ) (t : Tree) (next : Kind → Found B) (e : CheckError) →
    IsFound kind (type_argument any_kind (at + 1) t) (Err e) → IsFound shown (found_from at (and_then (type_argument any_kind 1 t) next)) (Err e)
argument_fails shown at t next e h =
    found_on kind shown at (type_argument any_kind 1 t) next e (subst (λ (f : Found Kind). IsFound kind f (Err e)) (argument_from at 1 any_kind t) h)

behind : (at p : ℕ) (t u : Tree) → p ≡ at + 1 + size t → type_argument any_kind p u ≡ found_from at (type_argument any_kind (1 + size t) u)
behind at p t u e =
    let k : p ≡ at + (1 + size t) = omega (arith, e) in
    ap (λ n. type_argument any_kind n u) k ∙ argument_from at (1 + size t) any_kind u

pub result_fails : {T : Type 0} (shown : T → Arrow) (at p : ℕ) (t u : Tree) (a : Kind) (e : CheckError) → type_argument any_kind (at + 1) t ≡ found a →
    p ≡ at + 1 + size t → IsFound kind (type_argument any_kind p u) (Err e) → IsFound shown (found_from at (arrow_in t u)) (Err e)
result_fails shown at p t u a e f k h =
    subst (λ (o : Found Arrow). IsFound shown o (Err e)) (sym (first_of at t a (λ b. and_then (type_argument any_kind (1 + size t) u) (λ r. found (arrow b r))) f))
    (found_on kind shown at (type_argument any_kind (1 + size t) u) (λ r. found (arrow a r)) e (subst (λ (o : Found Kind). IsFound kind o (Err e)) (behind at p t u k) h))

pub arrow_is : (at p : ℕ) (t u : Tree) (a r : Kind) → type_argument any_kind (at + 1) t ≡ found a → p ≡ at + 1 + size t → type_argument any_kind p u ≡ found r →
    found_from at (arrow_in t u) ≡ found (arrow a r)
arrow_is at p t u a r f k g =
    first_of at t a (λ b. and_then (type_argument any_kind (1 + size t) u) (λ r. found (arrow b r))) f
    ∙ ap (λ o. found_from at (and_then o (λ r. found (arrow a r)))) (read_as at (type_argument any_kind (1 + size t) u) r (sym (behind at p t u k) ∙ g))

-- ---- how the body ends

pub ends_otherwise : (at : ℕ) (b : Body) (a r : Kind) (S C : List Kind) → C ≡ r ∷ [] → ends_in b.after C ≡ false → ended at b a r S ≡ bad at
ends_otherwise at b a r S C e h =
    ap (shift at) (ends_is b.after (r ∷ []) (made (lambda a r) S))
    ∙ ap (λ t. shift at (if t then made (lambda a r) S else bad 0)) (ap (ends_in b.after) (sym e) ∙ h) ∙ bad_here at

ends_so : (at : ℕ) (b : Body) (a r : Kind) (S C : List Kind) → C ≡ r ∷ [] → ends_in b.after C ≡ true → ended at b a r S ≡ shift at (made (lambda a r) S)
ends_so at b a r S C e h =
    ap (shift at) (ends_is b.after (r ∷ []) (made (lambda a r) S))
    ∙ ap (λ t. shift at (if t then made (lambda a r) S else bad 0)) (ap (ends_in b.after) (sym e) ∙ h)

pub ends_large : (at : ℕ) (b : Body) (a r l : Kind) (S C : List Kind) (z : CheckError) → C ≡ r ∷ [] → ends_in b.after C ≡ true → l ≡ lambda a r →
    IsFault (shift at (made l S)) z → IsFault (ended at b a r S) z
ends_large at b a r l S C z e h f k = fault_is _ _ z (ends_so at b a r S C e h ∙ ap (λ x. shift at (made x S)) (sym f)) k

pub ends_well : (at : ℕ) (b : Body) (a r l : Kind) (S C B : List Kind) → C ≡ r ∷ [] → ends_in b.after C ≡ true → l ≡ lambda a r →
    shift at (made l S) ≡ goes B → ended at b a r S ≡ goes B
ends_well at b a r l S C B e h f k = ends_so at b a r S C e h ∙ ap (λ x. shift at (made x S)) (sym f) ∙ k

-- ---- the typing by the body's

abbrev arrow_type : Bool → Arrow → Typer → List Kind → Typing
arrow_type true x b S = lambda_rec_type x b S
arrow_type false x b S = lambda_type x b S

lambda_acts : (recursive : Bool) (name : Option Primitive) (annots : List (List ℕ)) (ts : Trees) (m : Meanings) (c : Context) (S : List Kind) →
    act_type (lambda_form recursive) name annots ts m c S ≡ on_found (lambda_of ts) (λ x. last_body m.bodies (λ b. arrow_type recursive x b S))
lambda_acts true name annots ts m c S = refl
lambda_acts false name annots ts m c S = refl

not_allowed : (recursive : Bool) (a r : Kind) (b : Typer) (S : List Kind) → is_allowed recursive a r ≡ false → arrow_type recursive (arrow a r) b S ≡ bad 0
not_allowed true a r b S e = ap (λ t. if t then ends (b place.lambda (call_kinds a r true)) (r ∷ []) (goes (lambda a r ∷ S)) else bad 0) e
not_allowed false a r b S e = absurd cc

allowed : (recursive : Bool) (a r : Kind) (b : Typer) (S : List Kind) → is_allowed recursive a r ≡ true →
    arrow_type recursive (arrow a r) b S ≡ ends (b place.lambda (call_kinds a r recursive)) (r ∷ []) (made (lambda a r) S)
allowed true a r b S e =
    ap (λ t. if t then ends (b place.lambda (call_kinds a r true)) (r ∷ []) (goes (lambda a r ∷ S)) else bad 0) e
    ∙ ap (λ t. ends (b place.lambda (call_kinds a r true)) (r ∷ []) (if t then goes (lambda a r ∷ S) else bad 0)) (sym e)
allowed false a r b S e = refl

-- a body that ends well ends with the result
well : (at : ℕ) (o : Option (List Ty)) (C : List Kind) (U : Typing) (B : List Kind) → shift at (ends (typing o) C U) ≡ goes B → ends_in o C ≡ true
well at o C U B e = by (ends_in o C) refl
  where
    by : (t : Bool) → ends_in o C ≡ t → t ≡ true
    by true h = refl
    by false h =
        let k : shift at (bad 0) ≡ goes B = sym (ap (shift at) (ends_is o C U ∙ ap (λ t. if t then U else bad 0) h)) ∙ e in
        absurd cc

makes : (at : ℕ) (o : Option (List Ty)) (C : List Kind) (U : Typing) (B : List Kind) → shift at (ends (typing o) C U) ≡ goes B → shift at U ≡ goes B
makes at o C U B e = sym (ap (shift at) (ends_is o C U ∙ ap (λ t. if t then U else bad 0) (well at o C U B e))) ∙ e

goes_on : (at : ℕ) (a : Kind) (S : List Kind) (o : Option (List Ty)) (C : List Kind) (X : Type 0) → shift at (ends (typing o) C (made a S)) ≡ fails → X
goes_on at a S o C X e =
    by (ends_in o C) (nat_le (nodes a) type_limit) (sym (ap (shift at) (ends_is o C (made a S))) ∙ e)
  where
    by : (s t : Bool) → shift at (if s then (if t then goes (a ∷ S) else bad 0) else bad 0) ≡ fails → X
    by true true e = absurd cc
    by true false e = absurd cc
    by false t e = absurd cc

-- ---- the whole instruction

module _ (at : ℕ) (recursive : Bool) (c : Context) (name : List ℕ) (annots : List (List ℕ)) (ns : List Node) (S : List Kind) (form : HasForm (lambda_form recursive) name) where
  whole : shift at (tree_type (prim name annots (trees ns)) c S)
      ≡ shift at (on_found (lambda_of (trees ns)) (λ x. last_body (bodies (trees ns) 1) (λ b. arrow_type recursive x b S)))
  whole = ap (shift at)
      (formed (lambda_form recursive) name annots (trees ns) c S form ∙ lambda_acts recursive (primitive_of_name name) annots (trees ns) (meanings (trees ns)) c S)

  module _ (v w x : Node) (three : ns ≡ v ∷ w ∷ x ∷ []) where
    abbrev k : ℕ
    k = 1 + size (tree v) + size (tree w)

    spelled : shift at (tree_type (prim name annots (trees ns)) c S)
        ≡ shift at (on_found (arrow_in (tree v) (tree w)) (λ y. arrow_type recursive y (λ c A. body (tree x) k c A) S))
    spelled = whole ∙ ap (λ ms. shift at (on_found (lambda_of (trees ms)) (λ y. last_body (bodies (trees ms) 1) (λ b. arrow_type recursive y b S)))) three

    pub lambda_types : (z : CheckError) → IsFound arrow_of (found_from at (arrow_in (tree v) (tree w))) (Err z) →
        IsFault (shift at (tree_type (prim name annots (trees ns)) c S)) z
    lambda_types z h =
        fault_is _ _ z spelled (found_typing arrow_of at (arrow_in (tree v) (tree w)) (λ y. arrow_type recursive y (λ c A. body (tree x) k c A) S) z h)

    module _ (a r : Kind) (read : found_from at (arrow_in (tree v) (tree w)) ≡ found (arrow a r)) where
      typed : shift at (tree_type (prim name annots (trees ns)) c S) ≡ shift at (arrow_type recursive (arrow a r) (λ c A. body (tree x) k c A) S)
      typed =
          spelled ∙ ap (λ o. shift at (on_found o (λ y. arrow_type recursive y (λ c A. body (tree x) k c A) S)))
          (read_as at (arrow_in (tree v) (tree w)) (arrow a r) read)

      pub lambda_large : is_allowed recursive a r ≡ false → shift at (tree_type (prim name annots (trees ns)) c S) ≡ bad at
      lambda_large e = typed ∙ ap (shift at) (not_allowed recursive a r (λ c A. body (tree x) k c A) S e) ∙ bad_here at

      pub lambda_begun : (z : CheckError) → IsBegun at recursive a r (Err z) → IsFault (shift at (tree_type (prim name annots (trees ns)) c S)) z
      lambda_begun (error.IllTyped l) h = lambda_large h.0 ∙ ap bad (sym h.1)
      lambda_begun error.Memory h = tt

      module _ (q p : ℕ) (L : List Kind) (small : is_allowed recursive a r ≡ true) (begins : L ≡ call_kinds a r recursive) (behind_first : q ≡ at + 1 + size (tree v))
          (behind_second : p ≡ q + size (tree w)) where
        there : p ≡ at + k
        there = omega (arith, behind_first, behind_second)

        ending : shift at (tree_type (prim name annots (trees ns)) c S) ≡ shift at (ends (body (tree x) k place.lambda L) (r ∷ []) (made (lambda a r) S))
        ending =
            typed ∙ ap (shift at) (allowed recursive a r (λ c A. body (tree x) k c A) S small)
            ∙ ap (λ A. shift at (ends (body (tree x) k place.lambda A) (r ∷ []) (made (lambda a r) S))) (sym begins)

        body_there : shift at (body (tree x) k place.lambda L) ≡ body (tree x) p place.lambda L
        body_there = body_at at k (tree x) place.lambda L ∙ ap (λ n. body (tree x) n place.lambda L) (sym there)

        pub lambda_body : (z : CheckError) → IsFault (body (tree x) p place.lambda L) z → IsFault (shift at (tree_type (prim name annots (trees ns)) c S)) z
        lambda_body z h = fault_is _ _ z ending
            (ends_fault at (body (tree x) k place.lambda L) (made (lambda a r) S) (r ∷ []) z (fault_is _ _ z body_there h))

        module _ (b : Body) (t : tree x ≡ seq (inside (tree x))) (h : body (tree x) p place.lambda L ≡ typing b.after)
            (l : Leads (λ B. AreCode place.lambda (inside (tree x)) (codes b.code) L B) b.after) where
          after : shift at (tree_type (prim name annots (trees ns)) c S) ≡ ended at b a r S
          after = ending ∙ ap (λ T. shift at (ends T (r ∷ []) (made (lambda a r) S))) (unshift at (body (tree x) k place.lambda L) b.after (body_there ∙ h))

          good : (o : Option (List Ty)) (j : Code) → ended at b a r S ≡ typing o →
              j ≡ i.lambda recursive a r (more (bare (tree v)) (more (bare (tree w)) none)) (tree x) (codes b.code) →
              Leads (λ B. IsCode c (prim name annots (trees ns)) j S B) o
          good (Some vs) j e m =
              let ends : AreCode place.lambda (inside (tree x)) (codes b.code) (call_kinds a r recursive) (r ∷ []) =
              subst (λ A. AreCode place.lambda (inside (tree x)) (codes b.code) A (r ∷ [])) begins
              (ended_leads b.after (r ∷ []) (λ B. AreCode place.lambda (inside (tree x)) (codes b.code) L B) (well at b.after (r ∷ []) (made (lambda a r) S) (kinds vs) e) l) in
              subst (λ B. IsCode c (prim name annots (trees ns)) j S B) (made_is at (lambda a r) S (kinds vs) (makes at b.after (r ∷ []) (made (lambda a r) S) (kinds vs) e))
              (subst (λ j. IsCode c (prim name annots (trees ns)) j S (lambda a r ∷ S)) (sym m)
              (subst (λ ms. IsCode c (prim name annots (trees ms)) (i.lambda recursive a r (more (bare (tree v)) (more (bare (tree w)) none)) (tree x) (codes b.code)) S (lambda a r ∷ S))
              (sym three)
              (subst (λ u. IsCode c (prim name annots (more (tree v) (more (tree w) (more u none))))
              (i.lambda recursive a r (more (bare (tree v)) (more (bare (tree w)) none)) u (codes b.code)) S (lambda a r ∷ S)) (sym t)
              (is_lambda form (read_as at (arrow_in (tree v) (tree w)) (arrow a r) read) ends))))
          good None j e m = goes_on at (lambda a r) S b.after (r ∷ []) _ e

          pub lambda_is : (z : Result Made CheckError) → IsLambdaMade at recursive (tree v) (tree w) (tree x) a r S b z →
              IsInstr c (prim name annots (trees ns)) S (shift at (tree_type (prim name annots (trees ns)) c S)) z
          lambda_is (Ok m) d = (after ∙ d.0, good m.after (code m.instr) d.0 d.1)
          lambda_is (Err e) d = fault_is _ _ e after d
