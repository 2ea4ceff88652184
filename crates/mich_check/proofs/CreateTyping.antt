-- CREATE_CONTRACT.
use Rattle.std.proofs.Common.{◌≡◌, ℕ, ◌+◌, Bool, true, false, List, [], ◌∷◌, Option, Some, None, refl, sym, ap, ◌∙◌, subst, arith}
use Rattle.std.specs.Prelude.{if◌then◌else◌, Ok, Err}
use Rattle.rules_text.specs.nodes.Tree.{Tree, prim, none, more}
use Rattle.rules_data.specs.types.Kind.{Kind, operation, option}
use Rattle.rules_code.specs.instructions.Types.{address, mutez, key_hash}
use Rattle.rules_code.specs.instructions.Same.{same_kind}
use Rattle.rules_code.specs.instructions.Arguments.{Found, found, fault}
use Rattle.rules_code.specs.instructions.Context.{Context}
use Rattle.rules_code.specs.instructions.Context as standing
use Rattle.rules_code.specs.instructions.Forms as f
use Rattle.rules_code.specs.typing.Typing.{Typing, goes, fails, bad, shift}
use Rattle.rules_code.specs.typing.Acts.{one_body, outside_views, of_script}
use Rattle.rules_code.specs.typing.Nodes.{bodies, tree_type, script, script_in, found_at}
use Rattle.rules_code.specs.typing.Stacks.{on_origination}
use Rattle.rules_code.specs.typing.Scripts.{Script}
use Rattle.laws_data.proofs.types_lemmas.ForCallers.{same_kind_true}
use Rattle.mich_base.specs.declared.node.Node.{Node}
use Rattle.mich_base.specs.declared.ty.Ty.{Ty}
use Rattle.mich_base.specs.View.{tree, trees}
use Rattle.mich_overload.specs.View.{kinds}
use Rattle.mich_instr.specs.Code.{Code, ScriptCode}
use Rattle.mich_instr.specs.Code as made
use Rattle.mich_instr.specs.View.{script_code, storage_of}
use Rattle.mich_instr.specs.Typed.{HasForm, IsCode, is_create, IsScript, is_script}
use Rattle.mich_instr.specs.declared.instr.Script.{Script as CodeScript}
use Rattle.mich_typed.specs.declared.error.CheckError.{CheckError}
use Rattle.mich_typed.specs.declared.error.CheckError.TheVariants as error
use Rattle.mich_control.specs.Answers.{IsFault}
use Rattle.mich_outline.proofs.ForCallers.{script_moves}
use Rattle.mich_check.specs.Scripts.{IsTyped, IsTypedAt, Origin, origin, originated, IsBehind}
use Rattle.mich_control.specs.View.{is_view}
use Rattle.mich_control.proofs.ForCallers.{fault_is, formed}

-- ---- the typing by the stack

abbrev through : Option Origin → Found Script → Typing
through None s = bad 0
through (Some o) s = of_script s o.storage o.rest

create_type : (S : List Kind) (s : Found Script) → on_origination S (λ g A. of_script s g A) ≡ through (originated S) s
create_type (option key_hash ∷ mutez ∷ g ∷ A) s = refl
create_type _ s = refl

outside : (c : Context) (T : Typing) → is_view c ≡ false → outside_views c T ≡ T
outside (standing.main es) T e = refl
outside standing.view T e = absurd cc
outside standing.lambda T e = refl

script_one : (x : Node) → script_in (trees (x ∷ [])) 1 ≡ found_at 1 (script (tree x))
script_one x = refl

origin_is : (S : List Kind) (o : Origin) → Some o ≡ originated S → S ≡ option key_hash ∷ mutez ∷ o.storage ∷ o.rest
origin_is (option key_hash ∷ mutez ∷ g ∷ A) o e = ap (λ (x : Origin). option key_hash ∷ mutez ∷ x.storage ∷ x.rest) (sym (one_origin o (origin g A) e))
  where
    one_origin : (p q : Origin) → Some p ≡ Some q → p ≡ q
    one_origin p q e = cc
origin_is _ o e = absurd cc

-- ---- the whole instruction

module _ (at : ℕ) (c : Context) (name : List ℕ) (annots : List (List ℕ)) (ns : List Node) (S : List Kind) (form : HasForm f.create_contract name) where
  abbrev Whole : Typing
  Whole = shift at (tree_type (prim name annots (trees ns)) c S)

  inner : Typing
  inner = one_body (bodies (trees ns) 1) (λ b. on_origination S (λ g A. of_script (script_in (trees ns) 1) g A))

  whole : shift at (tree_type (prim name annots (trees ns)) c S) ≡ shift at (outside_views c inner)
  unfolding inner
  whole = ap (shift at) (formed f.create_contract name annots (trees ns) c S form)

  module _ (v : is_view c ≡ false) where
    beyond : shift at (tree_type (prim name annots (trees ns)) c S) ≡ shift at inner
    beyond = whole ∙ ap (shift at) (outside c inner v)

    module _ (x : Node) (one : ns ≡ x ∷ []) where
      only : shift at (tree_type (prim name annots (trees ns)) c S) ≡ shift at (through (originated S) (found_at 1 (script (tree x))))
      unfolding inner
      only =
          beyond ∙ ap (λ xs. shift at (one_body (bodies (trees xs) 1) (λ b. on_origination S (λ g A. of_script (script_in (trees xs) 1) g A)))) one
          ∙ ap (shift at) (create_type S (found_at 1 (script (tree x))))

      module _ (o : Origin) (e : Some o ≡ originated S) where
        scripted : shift at (tree_type (prim name annots (trees ns)) c S) ≡ shift at (of_script (found_at 1 (script (tree x))) o.storage o.rest)
        scripted = only ∙ ap (λ o. shift at (through o (found_at 1 (script (tree x))))) (sym e)

        fault_moves : (f : Found Script) (m : ℕ) → found_at at f ≡ fault m → shift at (of_script f o.storage o.rest) ≡ bad m
        fault_moves (found s) m e = absurd cc
        fault_moves (fault l) m e = ap bad (same_place (at + l) m (found_at at (fault l)) (fault m) refl refl e)
          where
            same_place : (k m : ℕ) (f g : Found Script) → f ≡ fault k → g ≡ fault m → f ≡ g → k ≡ m
            same_place k m f g p q e = cc

        script_fault : (z : CheckError) → IsTypedAt (at + 1) (tree x) (Err z) → IsFault (shift at (of_script (found_at 1 (script (tree x))) o.storage o.rest)) z
        script_fault (error.IllTyped m) h =
            fault_moves (found_at 1 (script (tree x))) m (ap (found_at at) (sym (script_moves 1 0 (tree x))) ∙ sym (script_moves at 1 (tree x)) ∙ h)
        script_fault error.Memory h = tt

        pub create_script : (z : CheckError) → IsTypedAt (at + 1) (tree x) (Err z) → IsFault (shift at (tree_type (prim name annots (trees ns)) c S)) z
        create_script z h = fault_is _ _ z scripted (script_fault z h)

        -- the typed script is the one of the rules
        found_script : {w : ScriptCode} → IsScript (tree x) w → (q : Script) × (script (tree x) ≡ found q) × (q.storage ≡ storage_of w)
        found_script (is_script g h k) = (_, g, refl)

        typed_of : (w : ScriptCode) → IsScript (tree x) w → shift at (of_script (found_at 1 (script (tree x))) o.storage o.rest)
            ≡ (if same_kind (storage_of w) o.storage then goes (operation ∷ address ∷ o.rest) else bad (at + 0))
        typed_of w k =
            let q = found_script k in
            ap (λ s. shift at (of_script (found_at 1 s) o.storage o.rest)) q.1 ∙ ap (λ g. shift at (if same_kind g o.storage then goes (operation ∷ address ∷ o.rest) else bad 0)) q.2
            ∙ shifted (same_kind (storage_of w) o.storage)
          where
            shifted : (b : Bool) → shift at (if b then goes (operation ∷ address ∷ o.rest) else bad 0) ≡ (if b then goes (operation ∷ address ∷ o.rest) else bad (at + 0))
            shifted true = refl
            shifted false = refl

        made_code : {w : ScriptCode} → IsScript (tree x) w → same_kind (storage_of w) o.storage ≡ true → tree_type (prim name annots (more (tree x) none)) c S ≡ goes (operation ∷ address ∷ o.rest) →
            IsCode c (prim name annots (more (tree x) none)) (made.create_contract w) S (operation ∷ address ∷ o.rest)
        made_code (is_script {p = p} {s = s} {es = es} {is = is} {ws = ws} g h k) b d =
            let same : s ≡ o.storage = same_kind_true s o.storage b in
            let stack : S ≡ option key_hash ∷ mutez ∷ s ∷ o.rest = origin_is S o e ∙ ap (λ g. option key_hash ∷ mutez ∷ g ∷ o.rest) (sym same) in
            subst (λ A. IsCode c (prim name annots (more (tree x) none)) (made.create_contract (made.script (tree x) p es s is ws)) A (operation ∷ address ∷ o.rest)) (sym stack)
            (is_create form (subst (λ A. tree_type (prim name annots (more (tree x) none)) c A ≡ goes (operation ∷ address ∷ o.rest)) stack d) (is_script g h k))

        unshifted : (T : Typing) (B : List Kind) → shift at T ≡ goes B → T ≡ goes B
        unshifted (goes A) B h = h
        unshifted fails B h = absurd cc
        unshifted (bad l) B h = absurd cc

        module _ (s : CodeScript) (h : IsTyped (tree x) (Ok s)) where
          its_script : IsScript (tree x) (script_code s)
          its_script = subst (λ t. IsScript t (script_code s)) h.0 h.1

          pub storage_other : (k : Kind) (z : CheckError) → k ≡ storage_of (script_code s) → IsBehind at k o (Err z) → IsFault (shift at (tree_type (prim name annots (trees ns)) c S)) z
          storage_other k (error.IllTyped l) w b =
              let here : at + 0 ≡ l = omega (arith, b.1) in
              scripted ∙ typed_of (script_code s) its_script ∙ ap (λ g. if same_kind g o.storage then goes (operation ∷ address ∷ o.rest) else bad (at + 0)) (sym w)
              ∙ ap (λ b. if b then goes (operation ∷ address ∷ o.rest) else bad (at + 0)) b.0 ∙ ap bad here
          storage_other k error.Memory w b = tt

          pub created : (k : Kind) (ts : List Ty) (i : Code) → k ≡ storage_of (script_code s) → IsBehind at k o (Ok ts) → i ≡ made.create_contract (script_code s) →
              (shift at (tree_type (prim name annots (trees ns)) c S) ≡ goes (kinds ts)) × IsCode c (prim name annots (trees ns)) i S (kinds ts)
          created k ts i w b j =
              let fits : same_kind (storage_of (script_code s)) o.storage ≡ true = subst (λ g. same_kind g o.storage ≡ true) w b.0 in
              let so : shift at (tree_type (prim name annots (trees ns)) c S) ≡ goes (operation ∷ address ∷ o.rest) =
              scripted ∙ typed_of (script_code s) its_script ∙ ap (λ b. if b then goes (operation ∷ address ∷ o.rest) else bad (at + 0)) fits in
              let nodes : prim name annots (trees ns) ≡ prim name annots (more (tree x) none) = ap (λ xs. prim name annots (trees xs)) one in
              let bare : tree_type (prim name annots (more (tree x) none)) c S ≡ goes (operation ∷ address ∷ o.rest) =
              ap (λ t. tree_type t c S) (sym nodes) ∙ unshifted (tree_type (prim name annots (trees ns)) c S) (operation ∷ address ∷ o.rest) so in
              let typed : IsCode c (prim name annots (trees ns)) i S (operation ∷ address ∷ o.rest) =
              subst (λ t. IsCode c t i S (operation ∷ address ∷ o.rest)) (sym nodes)
              (subst (λ j. IsCode c (prim name annots (more (tree x) none)) j S (operation ∷ address ∷ o.rest)) (sym j) (made_code its_script fits bare)) in
              (so ∙ ap goes (sym b.1), subst (λ B. IsCode c (prim name annots (trees ns)) i S B) (sym b.1) typed)

-- a script that is shared is the same
pub shared_typed : (at : ℕ) (t : Tree) (s r : CodeScript) → r ≡ s → IsTypedAt at t (Ok s) → IsTyped t (Ok r)
shared_typed at t s r e h = subst (λ y. IsTyped t (Ok y)) (sym e) h
