-- LAMBDA and LAMBDA_REC.
use Rattle.std.proofs.Common.{◌≡◌, ℕ, ◌+◌, ◌-◌, Bool, true, false, List, [], ◌∷◌, Option, refl, sym, ap, ◌∙◌, subst, arith}
use Rattle.std.specs.Prelude.{if◌then◌else◌, slice_get, Result, Ok, Err}
use Rattle.std.proofs.lemmas.List.{append-nil}
use Rattle.rules_text.specs.nodes.Tree.{Trees, none, more, prim, size}
use Rattle.rules_text.specs.nodes.Primitives.{primitive_of_name}
use Rattle.rules_text.specs.declared.nodes.Primitive.{Primitive}
use Rattle.rules_data.specs.types.Kind.{Kind, lambda}
use Rattle.rules_code.specs.instructions.Arguments.{found}
use Rattle.rules_code.specs.instructions.Control.{Arrow, lambda_of, call_kinds}
use Rattle.rules_code.specs.instructions.Context.{Context}
use Rattle.rules_code.specs.instructions.Context as place
use Rattle.rules_code.specs.typing.Acts.{Meanings, act_type, lambda_type, lambda_rec_type, last_body}
use Rattle.rules_code.specs.typing.Typing.{Typing, Typer, goes, bad, shift, ends, made, on_found}
use Rattle.rules_code.specs.typing.Nodes.{bodies, body, tree_type}
use Rattle.rules_code.specs.certificates.Blocks.{Block, block, blocks, last_location}
use Rattle.rules_code.specs.certificates.Blocks as blocks_of
use Rattle.rules_code.specs.certificates.Derivation.{block_entries, of_blocks, tellers, told_by}
use Rattle.mich_base.specs.declared.node.Node.{Node}
use Rattle.mich_base.specs.declared.ty.Ty.{Ty}
use Rattle.mich_base.specs.View.{tree, trees}
use Rattle.mich_outline.specs.Answers.{found_from}
use Rattle.mich_instr.specs.Typed.{HasForm, lambda_form}
use Rattle.mich_control.specs.Answers.{typing}
use Rattle.mich_control.specs.Arrows.{arrow, arrow_in, is_allowed, ended, IsLambdaMade}
use Rattle.mich_typed.specs.declared.error.CheckError.{CheckError}
use Rattle.mich_typed.specs.declared.made.Body.{Body}
use Rattle.mich_typed.specs.declared.made.Made.{Made}
use Rattle.mich_control.proofs.Forms.{meanings, formed}
use Rattle.mich_control.proofs.Read.{read_as}
use Rattle.mich_control.proofs.Shifts.{unshift, body_at, fault_is}
use Rattle.mich_cert.specs.telling.Told.{Adds}
use Rattle.mich_cert.specs.telling.Walk.{FollowsApp, app_entries, after_of}
use Rattle.mich_cert.specs.declared.telling.told.Told.{Told}
use Rattle.mich_cert.proofs.Tellers.{third_told}

abbrev arrow_type : Bool → Arrow → Typer → List Kind → Typing
arrow_type true x b S = lambda_rec_type x b S
arrow_type false x b S = lambda_type x b S

lambda_acts : (recursive : Bool) (name : Option Primitive) (annots : List (List ℕ)) (ts : Trees) (m : Meanings) (c : Context) (S : List Kind) →
    act_type (lambda_form recursive) name annots ts m c S ≡ on_found (lambda_of ts) (λ x. last_body m.bodies (λ b. arrow_type recursive x b S))
lambda_acts true name annots ts m c S = refl
lambda_acts false name annots ts m c S = refl

allowed : (recursive : Bool) (a r : Kind) (b : Typer) (S : List Kind) → is_allowed recursive a r ≡ true →
    arrow_type recursive (arrow a r) b S ≡ ends (b place.lambda (call_kinds a r recursive)) (r ∷ []) (made (lambda a r) S)
allowed true a r b S e =
    ap (λ t. if t then ends (b place.lambda (call_kinds a r true)) (r ∷ []) (goes (lambda a r ∷ S)) else bad 0) e
    ∙ ap (λ t. ends (b place.lambda (call_kinds a r true)) (r ∷ []) (if t then goes (lambda a r ∷ S) else bad 0)) (sym e)
allowed false a r b S e = refl

lambda_blocks : (recursive : Bool) (ts : Trees) (c : Context) (S : List Kind) (a r : Kind) → lambda_of ts ≡ found (arrow a r) →
    blocks (lambda_form recursive) ts c S ≡ block (last_location ts 1) place.lambda (call_kinds a r recursive) ∷ []
lambda_blocks true ts c S a r e = ap (λ q. blocks_of.on_found q (λ x. block (last_location ts 1) place.lambda (call_kinds x.argument x.result true) ∷ [])) e
lambda_blocks false ts c S a r e = ap (λ q. blocks_of.on_found q (λ x. block (last_location ts 1) place.lambda (x.argument ∷ []) ∷ [])) e

module _ (at : ℕ) (recursive : Bool) (c : Context) (name : List ℕ) (annots : List (List ℕ)) (ns : List Node) (S : List Kind) (form : HasForm (lambda_form recursive) name)
    (v w x : Node) (three : ns ≡ v ∷ w ∷ x ∷ []) (a r : Kind) (read : found_from at (arrow_in (tree v) (tree w)) ≡ found (arrow a r))
    (q p : ℕ) (L : List Kind) (small : is_allowed recursive a r ≡ true) (begins : L ≡ call_kinds a r recursive) (behind_first : q ≡ at + 1 + size (tree v))
    (behind_second : p ≡ q + size (tree w)) where
  abbrev k : ℕ
  k = 1 + size (tree v) + size (tree w)

  abbrev ts : Trees
  ts = more (tree v) (more (tree w) (more (tree x) none))

  there : p ≡ at + k
  there = omega (arith, behind_first, behind_second)

  is_arrow : arrow_in (tree v) (tree w) ≡ found (arrow a r)
  is_arrow = read_as at (arrow_in (tree v) (tree w)) (arrow a r) read

  ending : shift at (tree_type (prim name annots (trees ns)) c S) ≡ shift at (ends (body (tree x) k place.lambda L) (r ∷ []) (made (lambda a r) S))
  ending =
      ap (shift at) (formed (lambda_form recursive) name annots (trees ns) c S form ∙ lambda_acts recursive (primitive_of_name name) annots (trees ns) (meanings (trees ns)) c S)
      ∙ ap (λ ms. shift at (on_found (lambda_of (trees ms)) (λ y. last_body (bodies (trees ms) 1) (λ b. arrow_type recursive y b S)))) three
      ∙ ap (λ o. shift at (on_found o (λ y. arrow_type recursive y (λ c A. body (tree x) k c A) S))) is_arrow
      ∙ ap (shift at) (allowed recursive a r (λ c A. body (tree x) k c A) S small)
      ∙ ap (λ A. shift at (ends (body (tree x) k place.lambda A) (r ∷ []) (made (lambda a r) S))) (sym begins)

  entries_are : app_entries name (trees ns) at c S ≡ block_entries (tree x) p place.lambda L
  entries_are =
      let e : at + 1 + size (tree v) + size (tree w) ≡ p = omega (arith, behind_first, behind_second) in
      ap (λ g. of_blocks (tellers (trees ns) (at + 1)) (blocks g (trees ns) c S)) form
      ∙ ap (λ ms. of_blocks (tellers (trees ms) (at + 1)) (blocks (lambda_form recursive) (trees ms) c S)) three
      ∙ ap (of_blocks (tellers ts (at + 1))) (lambda_blocks recursive ts c S a r is_arrow)
      ∙ append-nil (told_by (slice_get (tellers ts (at + 1)) (k - 1)) place.lambda (call_kinds a r recursive))
      ∙ third_told (tree v) (tree w) (tree x) none (at + 1) place.lambda (call_kinds a r recursive)
      ∙ ap (λ n. block_entries (tree x) n place.lambda (call_kinds a r recursive)) e ∙ ap (block_entries (tree x) p place.lambda) (sym begins)

  module _ (o : Option (List Ty)) (h : body (tree x) p place.lambda L ≡ typing o) (old new : Told) (told : Adds old new (block_entries (tree x) p place.lambda L))
      (b : Body) (kept : b.after ≡ o) where
    after_is : shift at (tree_type (prim name annots (trees ns)) c S) ≡ ended at b a r S
    after_is =
        ending ∙ ap (λ T. shift at (ends T (r ∷ []) (made (lambda a r) S)))
        (unshift at (body (tree x) k place.lambda L) o (body_at at k (tree x) place.lambda L ∙ ap (λ n. body (tree x) n place.lambda L) (sym there) ∙ h))
        ∙ ap (λ o. shift at (ends (typing o) (r ∷ []) (made (lambda a r) S))) (sym kept)

    pub lambda_told : (z : Result Made CheckError) → IsLambdaMade at recursive (tree v) (tree w) (tree x) a r S b z →
        FollowsApp at c name annots (trees ns) S old new (after_of z)
    lambda_told (Ok m) d = (after_is ∙ d.0, subst (Adds old new) (sym entries_are) told)
    lambda_told (Err e) d = fault_is _ _ e after_is d
