-- Instructions with two branches.
use Rattle.std.proofs.Common.{◌≡◌, ℕ, ◌+◌, List, [], ◌∷◌, ◌++◌, Option, Some, sym, ap, ◌∙◌, subst}
use Rattle.std.specs.Prelude.{Result, Ok, Err}
use Rattle.std.proofs.lemmas.List.{append-nil}
use Rattle.rules_text.specs.nodes.Tree.{Tree, none, more, size}
use Rattle.rules_data.specs.types.Kind.{Kind, option, or, list}
use Rattle.rules_code.specs.instructions.Types.{bool}
use Rattle.rules_code.specs.instructions.Context.{Context}
use Rattle.rules_code.specs.typing.Typing.{shift, join}
use Rattle.rules_code.specs.typing.Nodes.{body}
use Rattle.rules_code.specs.certificates.Blocks.{Block, block, blocks}
use Rattle.rules_code.specs.certificates.Derivation.{Entry, block_entries, of_blocks, tellers}
use Rattle.mich_base.specs.declared.node.Node.{Node}
use Rattle.mich_base.specs.declared.ty.Ty.{Ty}
use Rattle.mich_base.specs.View.{tree, trees}
use Rattle.mich_instr.specs.Typed.{HasForm}
use Rattle.mich_control.specs.Answers.{typing, IsAfter}
use Rattle.mich_control.specs.Begun.{branched, stacks}
use Rattle.mich_control.specs.View.{branch_form}
use Rattle.mich_typed.specs.declared.error.CheckError.{CheckError}
use Rattle.mich_control.specs.declared.form.Branch.{Branch}
use Rattle.mich_control.specs.declared.form.Branch.TheVariants as branch
use Rattle.mich_control.proofs.Branches.{branch_is, branch_join}
use Rattle.mich_cert.specs.telling.Told.{Adds}
use Rattle.mich_cert.specs.telling.Walk.{FollowsApp, app_entries}
use Rattle.mich_cert.specs.declared.telling.told.Told.{Told}
use Rattle.mich_cert.proofs.telling_lemmas.Lines.{adds_both}
use Rattle.mich_cert.proofs.Tellers.{second_told}

abbrev both : Tree → Context → List Kind × List Kind → List Block
both x c p = block 1 c p.0 ∷ block (1 + size x) c p.1 ∷ []

same : (x : Tree) (c : Context) (p q : List Kind × List Kind) → Some p ≡ Some q → both x c q ≡ both x c p
same x c p q e = let f : p ≡ q = cc in sym (ap (both x c) f)

branch_blocks : (b : Branch) (x y : Tree) (c : Context) (S : List Kind) (p : List Kind × List Kind) → Some p ≡ branched b S →
    blocks (branch_form b) (more x (more y none)) c S ≡ both x c p
branch_blocks branch.Bool x y c (bool ∷ A) p e = same x c p (stacks A A) e
branch_blocks branch.None x y c (option a ∷ A) p e = same x c p (stacks A (a ∷ A)) e
branch_blocks branch.Left x y c (or a b ∷ A) p e = same x c p (stacks (a ∷ A) (b ∷ A)) e
branch_blocks branch.Cons x y c (list a ∷ A) p e = same x c p (stacks (a ∷ list a ∷ A) A) e
branch_blocks _ x y c _ p e = absurd cc

module _ (at : ℕ) (b : Branch) (c : Context) (name : List ℕ) (annots : List (List ℕ)) (ns : List Node) (S : List Kind) (f : HasForm (branch_form b) name)
    (x y : Node) (X Y : List Kind) (two : ns ≡ x ∷ y ∷ []) (e : Some (stacks X Y) ≡ branched b S) where
  entries_are : app_entries name (trees ns) at c S ≡ block_entries (tree x) (at + 1) c X ++ (block_entries (tree y) (at + 1 + size (tree x)) c Y ++ [])
  entries_are =
      ap (λ g. of_blocks (tellers (trees ns) (at + 1)) (blocks g (trees ns) c S)) f
      ∙ ap (λ ms. of_blocks (tellers (trees ms) (at + 1)) (blocks (branch_form b) (trees ms) c S)) two
      ∙ ap (of_blocks (tellers (more (tree x) (more (tree y) none)) (at + 1))) (branch_blocks b (tree x) (tree y) c S (stacks X Y) e)
      ∙ ap (λ (Z : List Entry). block_entries (tree x) (at + 1) c X ++ (Z ++ [])) (second_told (tree x) (tree y) none (at + 1) c Y)

  module _ (o : Option (List Ty)) (next : ℕ) (place : next ≡ at + 1 + size (tree x)) (h : body (tree x) (at + 1) c X ≡ typing o)
      (p : Option (List Ty)) (k : body (tree y) next c Y ≡ typing p) (old now new : Told)
      (one : Adds old now (block_entries (tree x) (at + 1) c X)) (other : Adds now new (block_entries (tree y) next c Y)) where
    told : Adds old new (app_entries name (trees ns) at c S)
    told =
        let E : List Entry = block_entries (tree x) (at + 1) c X in
        let F : List Entry = block_entries (tree y) (at + 1 + size (tree x)) c Y in
        let last : Adds now new (F ++ []) =
        subst (Adds now new) (ap (λ n. block_entries (tree y) n c Y) place ∙ sym (append-nil F)) other in
        subst (Adds old new) (sym entries_are) (adds_both old now new E (F ++ []) one last)

    pub branch_told : (r : Result (Option (List Ty)) CheckError) → IsAfter (shift at (join (typing o) (typing p))) r →
        FollowsApp at c name annots (trees ns) S old new r
    branch_told (Ok after) j = (branch_is at b c name annots ns S f x y X Y two e o next place h p k ∙ j, told)
    branch_told (Err z) j = branch_join at b c name annots ns S f x y X Y two e o next place h p k z j
