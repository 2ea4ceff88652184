-- Instructions with two branches.
use Rattle.std.proofs.Common.{◌≡◌, ℕ, ◌+◌, Bool, true, false, List, [], ◌∷◌, Option, Some, None, refl, sym, ap, ◌∙◌, subst, arith}
use Rattle.std.specs.Prelude.{if◌then◌else◌, ◌++◌, drop, option_map}
use Rattle.rules_text.specs.nodes.Tree.{prim, seq, Trees, none, more, size}
use Rattle.rules_text.specs.nodes.Primitives.{primitive_of_name}
use Rattle.rules_text.specs.declared.nodes.Primitive.{Primitive}
use Rattle.rules_data.specs.types.Kind.{Kind, option, or, list}
use Rattle.rules_code.specs.instructions.Types.{bool}
use Rattle.rules_code.specs.instructions.Same.{same_kinds}
use Rattle.rules_code.specs.instructions.Context.{Context}
use Rattle.rules_code.specs.typing.Typing.{Typing, goes, fails, bad, Typer, shift, join}
use Rattle.rules_code.specs.typing.Acts.{Meanings, act_type, two_bodies}
use Rattle.rules_code.specs.typing.Nodes.{bodies, body, tree_type}
use Rattle.laws_data.proofs.types_lemmas.ForCallers.{same_kinds_true}
use Rattle.mich_base.specs.declared.node.Node.{Node}
use Rattle.mich_base.specs.declared.ty.Ty.{Ty}
use Rattle.mich_base.specs.Counted.{IsNotTwo}
use Rattle.mich_base.specs.View.{tree, trees}
use Rattle.mich_overload.specs.View.{kinds}
use Rattle.mich_instr.specs.Code.{Code, Codes}
use Rattle.mich_instr.specs.Typed.{HasForm, IsCode, AreCode, is_if, is_if_none, is_if_left, is_if_cons}
use Rattle.mich_control.specs.declared.form.Branch.{Branch}
use Rattle.mich_control.specs.declared.form.Branch.TheVariants as branch
use Rattle.mich_typed.specs.declared.error.CheckError.{CheckError}
use Rattle.mich_typed.specs.declared.error.CheckError.TheVariants as error
use Rattle.mich_control.specs.Begun.{branched, stacks}
use Rattle.mich_control.specs.View.{branch_form, branch_code}
use Rattle.mich_control.specs.Answers.{typing, Leads, IsFault, inside}
use Rattle.mich_control.proofs.Shifts.{unshift, body_at, fault_is}
use Rattle.mich_control.proofs.Forms.{meanings, formed}

-- the typing of the branches on their stacks
abbrev pub chosen : Option (List Kind × List Kind) → Context → List Typer → Typing
chosen None c bs = two_bodies bs (λ b d. bad 0)
chosen (Some p) c bs = two_bodies bs (λ b d. join (b c p.0) (d c p.1))

branch_type : (b : Branch) (name : Option Primitive) (annots : List (List ℕ)) (ts : Trees) (m : Meanings) (c : Context) (S : List Kind) →
    act_type (branch_form b) name annots ts m c S ≡ chosen (branched b S) c m.bodies
branch_type branch.Bool name annots ts m c (bool ∷ A) = refl
branch_type branch.None name annots ts m c (option a ∷ A) = refl
branch_type branch.Left name annots ts m c (or a b ∷ A) = refl
branch_type branch.Cons name annots ts m c (list a ∷ A) = refl
branch_type _ name annots ts m c _ = refl

-- ---- the stacks on more values below

branched_over : (b : Branch) (a : Kind) (A : List Kind) → branched b (a ∷ A) ≡ option_map (λ p. stacks (p.0 ++ A) (p.1 ++ A)) (branched b (a ∷ []))
branched_over branch.Bool bool A = refl
branched_over branch.None (option a) A = refl
branched_over branch.Left (or a b) A = refl
branched_over branch.Cons (list a) A = refl
branched_over _ _ A = refl

pub branches_none : (b : Branch) (a : Kind) (A S : List Kind) → S ≡ a ∷ A → None ≡ branched b (a ∷ []) → None ≡ branched b S
branches_none b a A S s t = sym (ap (branched b) s ∙ branched_over b a A ∙ ap (option_map (λ p. stacks (p.0 ++ A) (p.1 ++ A))) (sym t))

pub branches_stand : (b : Branch) (a : Kind) (A S R X Y P Q : List Kind) → S ≡ a ∷ A → Some (stacks X Y) ≡ branched b (a ∷ []) → R ≡ drop 1 S → P ≡ X ++ R → Q ≡ Y ++ R →
    Some (stacks P Q) ≡ branched b S
branches_stand b a A S R X Y P Q s t r p q =
    let same : R ≡ A = r ∙ ap (drop 1) s in
    ap (λ x. Some (stacks x Q)) (p ∙ ap (λ x. X ++ x) same) ∙ ap (λ x. Some (stacks (X ++ A) x)) (q ∙ ap (λ x. Y ++ x) same)
    ∙ sym (ap (branched b) s ∙ branched_over b a A ∙ ap (option_map (λ p. stacks (p.0 ++ A) (p.1 ++ A))) (sym t))

-- ---- how they are typed

two_none : (bs : List Typer) → two_bodies bs (λ b d. bad 0) ≡ bad 0
two_none [] = refl
two_none (b ∷ []) = refl
two_none (b ∷ d ∷ []) = refl
two_none (b ∷ d ∷ e ∷ bs) = refl

not_two : (ns : List Node) (f : Typer → Typer → Typing) → IsNotTwo ns → two_bodies (bodies (trees ns) 1) f ≡ bad 0
not_two [] f h = refl
not_two (x ∷ []) f h = refl
not_two (x ∷ y ∷ []) f h = absurd h
not_two (x ∷ y ∷ z ∷ ns) f h = refl

-- ---- how branches come together

join_first : (at : ℕ) (T U : Typing) (e : CheckError) → IsFault (shift at T) e → IsFault (shift at (join T U)) e
join_first at (goes B) U (error.IllTyped l) h = absurd cc
join_first at fails U (error.IllTyped l) h = absurd cc
join_first at (bad m) U (error.IllTyped l) h = h
join_first at T U error.Memory h = tt

second_of : (at : ℕ) (o : Option (List Ty)) (U : Typing) (e : CheckError) → IsFault (shift at U) e → IsFault (shift at (join (typing o) U)) e
second_of at (Some ts) (goes B) (error.IllTyped l) h = absurd cc
second_of at (Some ts) fails (error.IllTyped l) h = absurd cc
second_of at (Some ts) (bad m) (error.IllTyped l) h = h
second_of at None U (error.IllTyped l) h = h
second_of at o U error.Memory h = tt

pub leads_map : (P Q : List Kind → Type 0) (o : Option (List Ty)) → ((B : List Kind) → P B → Q B) → Leads P o → Leads Q o
leads_map P Q (Some ts) f h = f (kinds ts) h
leads_map P Q None f h = λ B. f B (h B)

goes_same : (B C : List Kind) → goes B ≡ goes C → B ≡ C
goes_same B C e = cc

joined_leads : (o p r : Option (List Ty)) (at : ℕ) (P Q : List Kind → Type 0) → shift at (join (typing o) (typing p)) ≡ typing r → Leads P o → Leads Q p →
    Leads (λ B. P B × Q B) r
joined_leads (Some ts) (Some us) r at P Q e h k = by (same_kinds (kinds ts) (kinds us)) refl r
    (ap (λ b. shift at (if b then goes (kinds ts) else bad 0)) refl ∙ e)
  where
    by : (s : Bool) → same_kinds (kinds ts) (kinds us) ≡ s → (r : Option (List Ty)) → shift at (if same_kinds (kinds ts) (kinds us) then goes (kinds ts) else bad 0) ≡ typing r →
        Leads (λ B. P B × Q B) r
    by true f (Some vs) g =
        let i : kinds ts ≡ kinds vs = goes_same (kinds ts) (kinds vs) (sym (ap (λ b. shift at (if b then goes (kinds ts) else bad 0)) f) ∙ g) in
        let j : kinds us ≡ kinds vs = sym (same_kinds_true (kinds ts) (kinds us) f) ∙ i in
        (subst P i h, subst Q j k)
    by true f None g =
        let i : goes (kinds ts) ≡ fails = sym (ap (λ b. shift at (if b then goes (kinds ts) else bad 0)) f) ∙ g in absurd cc
    by false f (Some vs) g =
        let i : bad (at + 0) ≡ goes (kinds vs) = sym (ap (λ b. shift at (if b then goes (kinds ts) else bad 0)) f) ∙ g in absurd cc
    by false f None g =
        let i : bad (at + 0) ≡ fails = sym (ap (λ b. shift at (if b then goes (kinds ts) else bad 0)) f) ∙ g in absurd cc
joined_leads (Some ts) None (Some vs) at P Q e h k = (subst P (goes_same (kinds ts) (kinds vs) e) h, k (kinds vs))
joined_leads (Some ts) None None at P Q e h k = absurd cc
joined_leads None (Some us) (Some vs) at P Q e h k = (h (kinds vs), subst Q (goes_same (kinds us) (kinds vs) e) k)
joined_leads None (Some us) None at P Q e h k = absurd cc
joined_leads None None (Some vs) at P Q e h k = absurd cc
joined_leads None None None at P Q e h k = λ B. (h B, k B)

-- ---- the typed code

two_same : (p q : List Kind × List Kind) → Some p ≡ Some q → p ≡ q
two_same p q e = cc

module _ (c : Context) (name : List ℕ) (annots : List (List ℕ)) (ts us : Trees) (is js : Codes) (B : List Kind) where
  two_typed : (b : Branch) (S X Y Z W : List Kind) → (AreCode c ts is X B → AreCode c us js Y B → IsCode c (prim name annots (more (seq ts) (more (seq us) none))) (branch_code b is js) S B) →
      Some (stacks X Y) ≡ Some (stacks Z W) → AreCode c ts is Z B → AreCode c us js W B → IsCode c (prim name annots (more (seq ts) (more (seq us) none))) (branch_code b is js) S B
  two_typed b S X Y Z W f e h k =
      let p : stacks X Y ≡ stacks Z W = two_same (stacks X Y) (stacks Z W) e in
      f (subst (λ x. AreCode c ts is x B) (sym (ap (λ q. q.0) p)) h) (subst (λ x. AreCode c us js x B) (sym (ap (λ q. q.1) p)) k)

  branch_typed : (b : Branch) (S Z W : List Kind) → HasForm (branch_form b) name → branched b S ≡ Some (stacks Z W) → AreCode c ts is Z B → AreCode c us js W B →
      IsCode c (prim name annots (more (seq ts) (more (seq us) none))) (branch_code b is js) S B
  branch_typed branch.Bool (bool ∷ A) Z W f e h k = two_typed branch.Bool (bool ∷ A) A A Z W (is_if f) e h k
  branch_typed branch.None (option a ∷ A) Z W f e h k = two_typed branch.None (option a ∷ A) A (a ∷ A) Z W (is_if_none f) e h k
  branch_typed branch.Left (or a b ∷ A) Z W f e h k = two_typed branch.Left (or a b ∷ A) (a ∷ A) (b ∷ A) Z W (is_if_left f) e h k
  branch_typed branch.Cons (list a ∷ A) Z W f e h k = two_typed branch.Cons (list a ∷ A) (a ∷ list a ∷ A) A Z W (is_if_cons f) e h k
  branch_typed _ _ Z W f e h k = absurd cc

-- ---- the whole instruction

module _ (at : ℕ) (b : Branch) (c : Context) (name : List ℕ) (annots : List (List ℕ)) (ns : List Node) (S : List Kind) (f : HasForm (branch_form b) name) where
  -- the typing of the instruction
  whole_is : shift at (tree_type (prim name annots (trees ns)) c S) ≡ shift at (chosen (branched b S) c (bodies (trees ns) 1))
  whole_is =
      ap (shift at) (formed (branch_form b) name annots (trees ns) c S f ∙ branch_type b (primitive_of_name name) annots (trees ns) (meanings (trees ns)) c S)

  module _ (x y : Node) (X Y : List Kind) (two : ns ≡ x ∷ y ∷ []) (e : Some (stacks X Y) ≡ branched b S) where
    both_is : shift at (tree_type (prim name annots (trees ns)) c S) ≡ shift at (join (body (tree x) 1 c X) (body (tree y) (1 + size (tree x)) c Y))
    both_is = whole_is ∙ ap (λ o. shift at (chosen o c (bodies (trees ns) 1))) (sym e) ∙ ap (λ l. shift at (chosen (Some (stacks X Y)) c (bodies (trees l) 1))) two

    pub branch_one : (z : CheckError) → IsFault (body (tree x) (at + 1) c X) z → IsFault (shift at (tree_type (prim name annots (trees ns)) c S)) z
    branch_one z h = fault_is _ _ z both_is
        (join_first at (body (tree x) 1 c X) (body (tree y) (1 + size (tree x)) c Y) z (fault_is _ _ z (body_at at 1 (tree x) c X) h))

    module _ (o : Option (List Ty)) (next : ℕ) (place : next ≡ at + 1 + size (tree x)) (h : body (tree x) (at + 1) c X ≡ typing o) where
      first_is : body (tree x) 1 c X ≡ typing o
      first_is = unshift at (body (tree x) 1 c X) o (body_at at 1 (tree x) c X ∙ h)

      second_at : shift at (body (tree y) (1 + size (tree x)) c Y) ≡ body (tree y) next c Y
      second_at =
          let p : at + (1 + size (tree x)) ≡ next = omega (arith, place) in
          body_at at (1 + size (tree x)) (tree y) c Y ∙ ap (λ n. body (tree y) n c Y) p

      pub branch_other : (z : CheckError) → IsFault (body (tree y) next c Y) z → IsFault (shift at (tree_type (prim name annots (trees ns)) c S)) z
      branch_other z k = fault_is _ _ z (both_is ∙ ap (λ T. shift at (join T (body (tree y) (1 + size (tree x)) c Y))) first_is)
          (second_of at o (body (tree y) (1 + size (tree x)) c Y) z (fault_is _ _ z second_at k))

      module _ (p : Option (List Ty)) (k : body (tree y) next c Y ≡ typing p) where
        pub branch_is : shift at (tree_type (prim name annots (trees ns)) c S) ≡ shift at (join (typing o) (typing p))
        branch_is =
            both_is ∙ ap (λ T. shift at (join T (body (tree y) (1 + size (tree x)) c Y))) first_is
            ∙ ap (λ T. shift at (join (typing o) T)) (unshift at (body (tree y) (1 + size (tree x)) c Y) p (second_at ∙ k))

        pub branch_join : (z : CheckError) → IsFault (shift at (join (typing o) (typing p))) z → IsFault (shift at (tree_type (prim name annots (trees ns)) c S)) z
        branch_join z l = fault_is _ _ z branch_is l

        pub branch_made : (r : Option (List Ty)) (i : Code) (is js : Codes) → shift at (join (typing o) (typing p)) ≡ typing r → i ≡ branch_code b is js →
            tree x ≡ seq (inside (tree x)) → Leads (λ B. AreCode c (inside (tree x)) is X B) o →
            tree y ≡ seq (inside (tree y)) → Leads (λ B. AreCode c (inside (tree y)) js Y B) p →
            (shift at (tree_type (prim name annots (trees ns)) c S) ≡ typing r) × Leads (λ B. IsCode c (prim name annots (trees ns)) i S B) r
        branch_made r i is js l m tx hx ty hy = (
          branch_is ∙ l,
          leads_map
              (λ B. AreCode c (inside (tree x)) is X B × AreCode c (inside (tree y)) js Y B)
              (λ B. IsCode c (prim name annots (trees ns)) i S B) r
              (λ B q. as_written B (branch_typed c name annots (inside (tree x)) (inside (tree y)) is js B b S X Y f (sym e) q.0 q.1))
              (joined_leads o p r at (λ B. AreCode c (inside (tree x)) is X B) (λ B. AreCode c (inside (tree y)) js Y B) l hx hy),
        )
          where
            same : more (seq (inside (tree x))) (more (seq (inside (tree y))) none) ≡ trees ns
            same = ap (λ t. more t (more (seq (inside (tree y))) none)) (sym tx) ∙ ap (λ t. more (tree x) (more t none)) (sym ty) ∙ ap trees (sym two)

            as_written : (B : List Kind) → IsCode c (prim name annots (more (seq (inside (tree x))) (more (seq (inside (tree y))) none))) (branch_code b is js) S B →
                IsCode c (prim name annots (trees ns)) i S B
            as_written B q = subst (λ ts. IsCode c (prim name annots ts) i S B) same
                (subst (λ d. IsCode c (prim name annots (more (seq (inside (tree x))) (more (seq (inside (tree y))) none))) d S B) (sym m) q)
