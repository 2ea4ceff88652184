-- MAP.
use Rattle.std.proofs.Common.{◌≡◌, ℕ, ◌+◌, nat_le, Bool, true, false, List, [], ◌∷◌, Option, Some, None, refl, sym, ap, ◌∙◌, subst}
use Rattle.std.specs.Prelude.{if◌then◌else◌, Result, Ok, Err}
use Rattle.rules_text.specs.nodes.Limits.{type_limit}
use Rattle.rules_text.specs.nodes.Tree.{Tree, int, str, bytes, prim, seq, Trees, none, more}
use Rattle.rules_text.specs.nodes.Primitives.{primitive_of_name}
use Rattle.rules_text.specs.declared.nodes.Primitive.{Primitive}
use Rattle.rules_data.specs.types.Kind.{Kind, nodes, option, pair, list, map}
use Rattle.rules_code.specs.instructions.Same.{same_kinds}
use Rattle.rules_code.specs.instructions.Context.{Context}
use Rattle.rules_code.specs.instructions.Forms as f
use Rattle.rules_code.specs.typing.Typing.{Typing, goes, fails, bad, Typer, shift, part_kind, made_of, mapped}
use Rattle.rules_code.specs.typing.Acts.{Meanings, act_type, one_body}
use Rattle.rules_code.specs.typing.Nodes.{bodies, body, tree_type, trees_type}
use Rattle.laws_data.proofs.types_lemmas.ForCallers.{same_kinds_true}
use Rattle.mich_base.specs.declared.node.Node.{Node}
use Rattle.mich_base.specs.declared.ty.Ty.{Ty}
use Rattle.mich_base.specs.View.{tree, trees}
use Rattle.mich_overload.specs.View.{kinds}
use Rattle.mich_instr.specs.Code.{Code, Codes}
use Rattle.mich_instr.specs.Code as made
use Rattle.mich_instr.specs.View.{code, codes}
use Rattle.mich_instr.specs.Typed.{HasForm, IsCode, AreCode, to_list, to_option, to_map, is_map}
use Rattle.mich_typed.specs.declared.error.CheckError.{CheckError}
use Rattle.mich_typed.specs.declared.error.CheckError.TheVariants as error
use Rattle.mich_typed.specs.declared.made.Body.{Body}
use Rattle.mich_typed.specs.declared.made.Made.{Made}
use Rattle.mich_control.specs.Answers.{typing, Leads, IsFault, IsInstr, inside}
use Rattle.mich_control.specs.Maps.{Target, made_to, over_parts, Mapping, mapping, mapped_over, IsMapped}
use Rattle.mich_control.specs.Maps as m
use Rattle.mich_control.proofs.Shifts.{unshift, body_at, fault_is}
use Rattle.mich_control.proofs.Forms.{meanings, formed}
use Rattle.mich_control.proofs.SelfTyping.{made_is}

-- ---- the stacks

pub no_mapping : (S : List Kind) → None ≡ over_parts S → None ≡ mapped_over S
no_mapping (list a ∷ A) e = absurd cc
no_mapping (option a ∷ A) e = absurd cc
no_mapping (map k v ∷ A) e = absurd cc
no_mapping _ e = refl

pub bare_mapping : (S : List Kind) (a : Kind) (t : Target) (X : Type 0) → Some (a, t) ≡ over_parts S → S ≡ [] → X
bare_mapping [] a t X e f = absurd cc
bare_mapping (x ∷ S) a t X e f = absurd cc

-- ---- the typing of the body on its stack

abbrev through : Option Mapping → Context → List Typer → Typing
through None c bs = one_body bs (λ b. bad 0)
through (Some w) c bs = one_body bs (λ b. mapped (b c w.begins) (made_to w.target) w.rest)

map_type : (name : Option Primitive) (annots : List (List ℕ)) (ts : Trees) (ms : Meanings) (c : Context) (S : List Kind) →
    act_type f.map name annots ts ms c S ≡ through (mapped_over S) c ms.bodies
map_type name annots ts ms c (list a ∷ A) = refl
map_type name annots ts ms c (option a ∷ A) = refl
map_type name annots ts ms c (map k v ∷ A) = refl
map_type name annots ts ms c _ = refl

one_none : (bs : List Typer) → one_body bs (λ b. bad 0) ≡ bad 0
one_none [] = refl
one_none (b ∷ []) = refl
one_none (b ∷ d ∷ bs) = refl

mapped_fault : (at : ℕ) (T : Typing) (g : Kind → Kind) (A : List Kind) (z : CheckError) → IsFault (shift at T) z → IsFault (shift at (mapped T g A)) z
mapped_fault at (goes B) g A (error.IllTyped l) h = absurd cc
mapped_fault at fails g A (error.IllTyped l) h = absurd cc
mapped_fault at (bad n) g A (error.IllTyped l) h = h
mapped_fault at T g A error.Memory h = tt

-- ---- what a body leaves

mapped_is : (o : Option (List Ty)) (g : Kind → Kind) (A : List Kind) → mapped (typing o) g A ≡ made_of g (part_kind (typing o) A) A
mapped_is (Some ts) g A = refl
mapped_is None g A = refl

pub part_made : (at : ℕ) (o : Option (List Ty)) (g : Kind → Kind) (A : List Kind) (b d : Kind) → Some b ≡ part_kind (typing o) A → d ≡ g b →
    shift at (mapped (typing o) g A) ≡ shift at (made_of (λ x. d) (Some b) A)
part_made at o g A b d e f = ap (shift at) (mapped_is o g A) ∙ ap (λ x. shift at (made_of g x A)) (sym e) ∙ ap (λ x. shift at (made_of (λ y. x) (Some b) A)) (sym f)

part_last : (B A : List Kind) (a b : Kind) (t : Bool) → same_kinds B A ≡ t → (if t then Some a else None) ≡ Some b → a ∷ B ≡ b ∷ A
part_last B A a b true e h =
    let s : B ≡ A = same_kinds_true B A e in
    cc
part_last B A a b false e h = absurd cc

-- a body that leaves a part leaves it on that stack
left_by : (B A : List Kind) (b : Kind) → part_kind (goes B) A ≡ Some b → B ≡ b ∷ A
left_by [] A b h = absurd cc
left_by (a ∷ B) A b h = part_last B A a b (same_kinds B A) refl h

no_fail : (at : ℕ) (o : Option Kind) (g : Kind → Kind) (A B : List Kind) → shift at (made_of g o A) ≡ goes B → (b : Kind) × (o ≡ Some b) × (g b ∷ A ≡ B)
no_fail at None g A B e = absurd cc
no_fail at (Some b) g A B e = (b, refl, made_is at (g b) A B e)

never_fails : (at : ℕ) (o : Option Kind) (g : Kind → Kind) (A : List Kind) (X : Type 0) → shift at (made_of g o A) ≡ fails → X
never_fails at None g A X e = absurd cc
never_fails at (Some b) g A X e = by (nat_le (nodes (g b)) type_limit) e
  where
    by : (t : Bool) → shift at (if t then goes (g b ∷ A) else bad 0) ≡ fails → X
    by true e = absurd cc
    by false e = absurd cc

-- the typing of a body's instructions
inside_is : (t : Tree) (k : ℕ) (c : Context) (A : List Kind) (o : Option (List Ty)) → t ≡ seq (inside t) → body t k c A ≡ typing o → trees_type (inside t) c A ≡ typing o
inside_is (seq ts) k c A o e h = unshift (k + 1) (trees_type ts c A) o h
inside_is (int n) k c A o e h = absurd cc
inside_is (str s) k c A o e h = absurd cc
inside_is (bytes b) k c A o e h = absurd cc
inside_is (prim name annots ts) k c A o e h = absurd cc

-- ---- the typed code

abbrev Typed : Context → List ℕ → List (List ℕ) → Trees → Codes → List Kind → Mapping → Kind → Type 0
Typed c name annots ts is S w b =
    part_kind (trees_type ts c w.begins) w.rest ≡ Some b → AreCode c ts is w.begins (b ∷ w.rest) →
    IsCode c (prim name annots (more (seq ts) none)) (made.map is) S (made_to w.target b ∷ w.rest)

same : (u w : Mapping) → Some u ≡ Some w → u ≡ w
same u w e = cc

typed : (c : Context) (name : List ℕ) (annots : List (List ℕ)) (ts : Trees) (is : Codes) (S : List Kind) (w : Mapping) (b : Kind) → HasForm f.map name →
    mapped_over S ≡ Some w → Typed c name annots ts is S w b
typed c name annots ts is (list a ∷ A) w b form e =
    subst (λ u. Typed c name annots ts is (list a ∷ A) u b) (same (mapping (a ∷ A) m.to_list A) w e) (λ h k. is_map form to_list h k)
typed c name annots ts is (option a ∷ A) w b form e =
    subst (λ u. Typed c name annots ts is (option a ∷ A) u b) (same (mapping (a ∷ A) m.to_option A) w e) (λ h k. is_map form to_option h k)
typed c name annots ts is (map a v ∷ A) w b form e =
    subst (λ u. Typed c name annots ts is (map a v ∷ A) u b) (same (mapping (pair a v ∷ A) (m.to_map a) A) w e) (λ h k. is_map form to_map h k)
typed c name annots ts is _ w b form e = absurd cc

-- ---- the whole instruction

module _ (at : ℕ) (c : Context) (name : List ℕ) (annots : List (List ℕ)) (ns : List Node) (S : List Kind) (form : HasForm f.map name) where
  whole : shift at (tree_type (prim name annots (trees ns)) c S) ≡ shift at (through (mapped_over S) c (bodies (trees ns) 1))
  whole = ap (shift at) (formed f.map name annots (trees ns) c S form ∙ map_type (primitive_of_name name) annots (trees ns) (meanings (trees ns)) c S)

  module _ (x : Node) (w : Mapping) (one : ns ≡ x ∷ []) (e : Some w ≡ mapped_over S) where
    gone : shift at (tree_type (prim name annots (trees ns)) c S) ≡ shift at (mapped (body (tree x) 1 c w.begins) (made_to w.target) w.rest)
    gone = whole ∙ ap (λ o. shift at (through o c (bodies (trees ns) 1))) (sym e) ∙ ap (λ xs. shift at (through (Some w) c (bodies (trees xs) 1))) one

    pub map_body : (z : CheckError) → IsFault (body (tree x) (at + 1) c w.begins) z → IsFault (shift at (tree_type (prim name annots (trees ns)) c S)) z
    map_body z h = fault_is _ _ z gone
        (mapped_fault at (body (tree x) 1 c w.begins) (made_to w.target) w.rest z (fault_is _ _ z (body_at at 1 (tree x) c w.begins) h))

    module _ (b : Body) (t : tree x ≡ seq (inside (tree x))) (h : body (tree x) (at + 1) c w.begins ≡ typing b.after)
        (k : Leads (λ B. AreCode c (inside (tree x)) (codes b.code) w.begins B) b.after) where
      after : shift at (tree_type (prim name annots (trees ns)) c S) ≡ shift at (mapped (typing b.after) (made_to w.target) w.rest)
      after = gone ∙ ap (λ T. shift at (mapped T (made_to w.target) w.rest)) (unshift at (body (tree x) 1 c w.begins) b.after (body_at at 1 (tree x) c w.begins ∙ h))

      good : (o r : Option (List Ty)) (i : Code) → shift at (mapped (typing o) (made_to w.target) w.rest) ≡ typing r →
          trees_type (inside (tree x)) c w.begins ≡ typing o → Leads (λ B. AreCode c (inside (tree x)) (codes b.code) w.begins B) o →
          i ≡ made.map (codes b.code) → Leads (λ B. IsCode c (prim name annots (trees ns)) i S B) r
      good (Some ls) (Some vs) i g u l n =
          let p = no_fail at (part_kind (goes (kinds ls)) w.rest) (made_to w.target) w.rest (kinds vs) g in
          subst (λ B. IsCode c (prim name annots (trees ns)) i S B) p.2
          (subst (λ j. IsCode c (prim name annots (trees ns)) j S (made_to w.target p.0 ∷ w.rest)) (sym n)
          (subst (λ ts. IsCode c (prim name annots ts) (made.map (codes b.code)) S (made_to w.target p.0 ∷ w.rest)) (ap (λ y. more y none) (sym t) ∙ ap trees (sym one))
          (typed c name annots (inside (tree x)) (codes b.code) S w p.0 form (sym e) (ap (λ T. part_kind T w.rest) u ∙ p.1)
          (subst (λ B. AreCode c (inside (tree x)) (codes b.code) w.begins B) (left_by (kinds ls) w.rest p.0 p.1) l))))
      good (Some ls) None i g u l n = never_fails at (part_kind (goes (kinds ls)) w.rest) (made_to w.target) w.rest _ g
      good None (Some vs) i g u l n = absurd cc
      good None None i g u l n = absurd cc

      pub map_made : (r : Result Made CheckError) → IsMapped at w.target w.rest b r →
          IsInstr c (prim name annots (trees ns)) S (shift at (tree_type (prim name annots (trees ns)) c S)) r
      map_made (Ok n) d = (after ∙ d.0, good b.after n.after (code n.instr) d.0 (inside_is (tree x) (at + 1) c w.begins b.after t h) k d.1)
      map_made (Err z) d = fault_is _ _ z after d
