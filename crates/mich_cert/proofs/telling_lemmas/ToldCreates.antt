-- CREATE_CONTRACT.
use Rattle.std.proofs.Common.{◌≡◌, ℕ, ◌+◌, false, List, [], ◌∷◌, Option, Some, None, refl, sym, ap, ◌∙◌, subst, arith}
use Rattle.std.specs.Prelude.{if◌then◌else◌, Ok, Err}
use Rattle.rules_text.specs.nodes.Tree.{prim}
use Rattle.rules_data.specs.types.Kind.{Kind, operation, option}
use Rattle.rules_code.specs.instructions.Types.{address, mutez, key_hash}
use Rattle.rules_code.specs.instructions.Same.{same_kind}
use Rattle.rules_code.specs.instructions.Arguments.{Found, found}
use Rattle.rules_code.specs.instructions.Context.{Context}
use Rattle.rules_code.specs.instructions.Context as standing
use Rattle.rules_code.specs.instructions.Forms as f
use Rattle.rules_code.specs.typing.Acts.{one_body, outside_views, of_script}
use Rattle.rules_code.specs.typing.Nodes.{bodies, tree_type, script, script_in, found_at}
use Rattle.rules_code.specs.typing.Scripts.{Script}
use Rattle.rules_code.specs.typing.Stacks.{on_origination}
use Rattle.rules_code.specs.typing.Typing.{Typing, goes, bad, shift}
use Rattle.rules_code.specs.certificates.Blocks.{blocks}
use Rattle.rules_code.specs.certificates.Derivation.{Entry, of_blocks, tellers}
use Rattle.mich_base.specs.declared.node.Node.{Node}
use Rattle.mich_base.specs.declared.ty.Ty.{Ty}
use Rattle.mich_base.specs.View.{tree, trees}
use Rattle.mich_instr.specs.Typed.{HasForm}
use Rattle.mich_control.specs.Answers.{IsFault}
use Rattle.mich_control.specs.View.{is_view}
use Rattle.mich_typed.specs.declared.error.CheckError.{CheckError}
use Rattle.mich_typed.specs.declared.error.CheckError.TheVariants as error
use Rattle.mich_control.proofs.Forms.{formed}
use Rattle.mich_check.specs.Scripts.{Origin, originated, IsBehind}
use Rattle.mich_cert.specs.telling.Told.{Adds}
use Rattle.mich_cert.specs.telling.Walk.{FollowsApp, IsScript, app_entries, script_entries}
use Rattle.mich_cert.specs.declared.telling.told.Told.{Told}
use Rattle.mich_cert.proofs.telling_lemmas.ToldOutlines.{create_entries}

abbrev through : Option Origin → Found Script → Typing
through None s = bad 0
through (Some o) s = of_script s o.storage o.rest

create_type : (S : List Kind) (s : Found Script) → on_origination S (λ g A. of_script s g A) ≡ through (originated S) s
create_type (option key_hash ∷ mutez ∷ g ∷ A) s = refl
create_type _ s = refl

outside : (c : Context) (T : Typing) → is_view c ≡ false → outside_views c T ≡ T
outside (standing.main es) T e = refl
outside standing.view T e = absurd cc
outside standing.lambda T e = refl

module _ (at : ℕ) (c : Context) (name : List ℕ) (annots : List (List ℕ)) (ns : List Node) (S : List Kind) (form : HasForm f.create_contract name) where
  inner : Typing
  inner = one_body (bodies (trees ns) 1) (λ b. on_origination S (λ g A. of_script (script_in (trees ns) 1) g A))

  whole : shift at (tree_type (prim name annots (trees ns)) c S) ≡ shift at (outside_views c inner)
  unfolding inner
  whole = ap (shift at) (formed f.create_contract name annots (trees ns) c S form)

  module _ (v : is_view c ≡ false) (x : Node) (one : ns ≡ x ∷ []) (o : Origin) (e : Some o ≡ originated S) where
    scripted : shift at (tree_type (prim name annots (trees ns)) c S) ≡ shift at (of_script (found_at 1 (script (tree x))) o.storage o.rest)
    unfolding inner
    scripted =
        whole ∙ ap (shift at) (outside c inner v)
        ∙ ap (λ xs. shift at (one_body (bodies (trees xs) 1) (λ b. on_origination S (λ g A. of_script (script_in (trees xs) 1) g A)))) one
        ∙ ap (shift at) (create_type S (found_at 1 (script (tree x)))) ∙ ap (λ o. shift at (through o (found_at 1 (script (tree x))))) (sym e)

    pub create_failed : (es : List Entry) (old new : Told) (z : CheckError) → IsScript (at + 1) (script (tree x)) es old new (Err z) →
        IsFault (shift at (tree_type (prim name annots (trees ns)) c S)) z
    create_failed es old new (error.IllTyped l) h =
        let place : at + (1 + h.0) ≡ l = (let k = h.2 in omega (arith, k)) in
        scripted ∙ ap (λ q. shift at (of_script (found_at 1 q) o.storage o.rest)) h.1 ∙ ap bad place
    create_failed es old new error.Memory h = tt

    module _ (s : Script) (q : script (tree x) ≡ found s) (k : Kind) (g : s.storage ≡ k) where
      stored : shift at (tree_type (prim name annots (trees ns)) c S) ≡ shift at (if same_kind k o.storage then goes (operation ∷ address ∷ o.rest) else bad 0)
      stored =
          scripted ∙ ap (λ q. shift at (of_script (found_at 1 q) o.storage o.rest)) q
          ∙ ap (λ g. shift at (if same_kind g o.storage then goes (operation ∷ address ∷ o.rest) else bad 0)) g

      pub create_other : (z : CheckError) → IsBehind at k o (Err z) → IsFault (shift at (tree_type (prim name annots (trees ns)) c S)) z
      create_other (error.IllTyped l) b =
          let place : at + 0 ≡ l = (let h = b.1 in omega (arith, h)) in
          stored ∙ ap (λ t. shift at (if t then goes (operation ∷ address ∷ o.rest) else bad 0)) b.0 ∙ ap bad place
      create_other error.Memory b = tt

      entries_are : app_entries name (trees ns) at c S ≡ script_entries (at + 1) (tree x)
      entries_are =
          ap (λ g. of_blocks (tellers (trees ns) (at + 1)) (blocks g (trees ns) c S)) form
          ∙ ap (λ ms. of_blocks (tellers (trees ms) (at + 1)) (blocks f.create_contract (trees ms) c S)) one ∙ create_entries (tree x) at s q

      pub create_told : (old new : Told) → Adds old new (script_entries (at + 1) (tree x)) → (after : List Ty) → IsBehind at k o (Ok after) →
          FollowsApp at c name annots (trees ns) S old new (Ok (Some after))
      create_told old new a after b = (
        stored ∙ ap (λ t. shift at (if t then goes (operation ∷ address ∷ o.rest) else bad 0)) b.0 ∙ ap goes (sym b.1),
        subst (Adds old new) (sym entries_are) a,
      )
