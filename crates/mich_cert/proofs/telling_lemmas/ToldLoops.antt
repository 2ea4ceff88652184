-- Instructions with a body that is run again and again.
use Rattle.std.proofs.Common.{◌≡◌, ℕ, ◌+◌, true, List, [], ◌∷◌, ◌++◌, Option, Some, refl, sym, ap, ◌∙◌, subst}
use Rattle.std.specs.Prelude.{if◌then◌else◌, Ok}
use Rattle.std.proofs.lemmas.List.{append-nil}
use Rattle.rules_text.specs.nodes.Tree.{Tree, prim, Trees, none, more}
use Rattle.rules_text.specs.nodes.Primitives.{primitive_of_name}
use Rattle.rules_text.specs.declared.nodes.Primitive.{Primitive}
use Rattle.rules_data.specs.types.Kind.{Kind, or, pair, list, set, map}
use Rattle.rules_code.specs.instructions.Types.{bool}
use Rattle.rules_code.specs.instructions.Context.{Context}
use Rattle.rules_code.specs.typing.Acts.{Meanings, act_type}
use Rattle.rules_code.specs.typing.Typing.{goes, bad, shift, ends}
use Rattle.rules_code.specs.typing.Nodes.{bodies, body, tree_type}
use Rattle.rules_code.specs.certificates.Blocks.{Block, block, blocks}
use Rattle.rules_code.specs.certificates.Derivation.{block_entries, of_blocks, tellers}
use Rattle.mich_base.specs.declared.node.Node.{Node}
use Rattle.mich_base.specs.declared.ty.Ty.{Ty}
use Rattle.mich_base.specs.View.{tree, trees}
use Rattle.mich_overload.specs.View.{kinds}
use Rattle.mich_instr.specs.Typed.{HasForm}
use Rattle.mich_control.specs.Answers.{typing, ends_in}
use Rattle.mich_control.specs.Begun.{Turning, turning, looped}
use Rattle.mich_control.specs.View.{loop_form}
use Rattle.mich_control.specs.declared.form.Loop.{Loop}
use Rattle.mich_control.specs.declared.form.Loop.TheVariants as loop
use Rattle.mich_control.proofs.Forms.{meanings, formed}
use Rattle.mich_control.proofs.Loops.{turned, ends_is}
use Rattle.mich_control.proofs.Shifts.{unshift, body_at}
use Rattle.mich_cert.specs.telling.Told.{Adds}
use Rattle.mich_cert.specs.telling.Walk.{FollowsApp, app_entries}
use Rattle.mich_cert.specs.declared.telling.told.Told.{Told}

abbrev one : Context → Turning → List Block
one c t = block 1 c t.begins ∷ []

same : (c : Context) (t u : Turning) → Some t ≡ Some u → one c u ≡ one c t
same c t u e = let f : t ≡ u = cc in sym (ap (one c) f)

loop_blocks : (l : Loop) (x : Tree) (c : Context) (S : List Kind) (t : Turning) → Some t ≡ looped l S → blocks (loop_form l) (more x none) c S ≡ one c t
loop_blocks loop.Bool x c (bool ∷ A) t e = same c t (turning A (bool ∷ A) A) e
loop_blocks loop.Left x c (or a r ∷ A) t e = same c t (turning (a ∷ A) (or a r ∷ A) (r ∷ A)) e
loop_blocks loop.Parts x c (list a ∷ A) t e = same c t (turning (a ∷ A) A A) e
loop_blocks loop.Parts x c (set a ∷ A) t e = same c t (turning (a ∷ A) A A) e
loop_blocks loop.Parts x c (map k v ∷ A) t e = same c t (turning (pair k v ∷ A) A A) e
loop_blocks _ x c _ t e = absurd cc

loop_type : (l : Loop) (name : Option Primitive) (annots : List (List ℕ)) (ts : Trees) (m : Meanings) (c : Context) (S : List Kind) →
    act_type (loop_form l) name annots ts m c S ≡ turned (looped l S) c m.bodies
loop_type loop.Bool name annots ts m c (bool ∷ A) = refl
loop_type loop.Left name annots ts m c (or a r ∷ A) = refl
loop_type loop.Parts name annots ts m c (list a ∷ A) = refl
loop_type loop.Parts name annots ts m c (set a ∷ A) = refl
loop_type loop.Parts name annots ts m c (map k v ∷ A) = refl
loop_type _ name annots ts m c _ = refl

module _ (at : ℕ) (l : Loop) (c : Context) (name : List ℕ) (annots : List (List ℕ)) (ns : List Node) (S : List Kind) (f : HasForm (loop_form l) name)
    (x : Node) (t : Turning) (only : ns ≡ x ∷ []) (e : Some t ≡ looped l S) where
  entries_are : app_entries name (trees ns) at c S ≡ block_entries (tree x) (at + 1) c t.begins ++ []
  entries_are =
      ap (λ g. of_blocks (tellers (trees ns) (at + 1)) (blocks g (trees ns) c S)) f
      ∙ ap (λ ms. of_blocks (tellers (trees ms) (at + 1)) (blocks (loop_form l) (trees ms) c S)) only
      ∙ ap (of_blocks (tellers (more (tree x) none) (at + 1))) (loop_blocks l (tree x) c S t e)

  turn_is : shift at (tree_type (prim name annots (trees ns)) c S) ≡ shift at (ends (body (tree x) 1 c t.begins) t.ends (goes t.leaves))
  turn_is =
      ap (shift at) (formed (loop_form l) name annots (trees ns) c S f ∙ loop_type l (primitive_of_name name) annots (trees ns) (meanings (trees ns)) c S)
      ∙ ap (λ o. shift at (turned o c (bodies (trees ns) 1))) (sym e) ∙ ap (λ xs. shift at (turned (Some t) c (bodies (trees xs) 1))) only

  pub loop_told : (o : Option (List Ty)) → body (tree x) (at + 1) c t.begins ≡ typing o → (old new : Told) → Adds old new (block_entries (tree x) (at + 1) c t.begins) →
      true ≡ ends_in o t.ends → (after : List Ty) → kinds after ≡ t.leaves → FollowsApp at c name annots (trees ns) S old new (Ok (Some after))
  loop_told o h old new told k after z = (
    turn_is ∙ ap (λ T. shift at (ends T t.ends (goes t.leaves))) (unshift at (body (tree x) 1 c t.begins) o (body_at at 1 (tree x) c t.begins ∙ h))
        ∙ ap (shift at) (ends_is o t.ends (goes t.leaves)) ∙ ap (λ q. shift at (if q then goes t.leaves else bad 0)) (sym k) ∙ ap goes (sym z),
    subst (Adds old new) (sym (append-nil (block_entries (tree x) (at + 1) c t.begins)) ∙ sym entries_are) told,
  )
