-- The bodies of lambdas among instructions, one after another.
use Rattle.std.proofs.Common.{◌≡◌, ℕ, suc, Bool, ◌+◌, ◌<◌, ◌≤◌, List, [], ◌∷◌, ◌++◌, length, drop, get_or, map, Option, Some, None, sym, ap, ◌∙◌, subst, drop-cons, add-one, rules}
use Rattle.std.proofs.lemmas.List.{append_assoc, append-nil, drop_all, map-append}
use Rattle.rules_text.specs.nodes.Tree.{Tree}
use Rattle.mich_base.specs.TypeView.{kind}
use Rattle.mich_base.specs.View.{tree, trees}
use Rattle.mich_base.specs.declared.node.Node.{Node}
use Rattle.mich_base.specs.declared.ty.Ty.{Ty}
use Rattle.mich_instr.specs.Body.{AllHeld, IsHeld, bodies_if, bodies_in, body_of}
use Rattle.mich_instr.specs.Code as made
use Rattle.mich_instr.specs.View.{code, codes}
use Rattle.mich_instr.specs.declared.instr.Instr.{Instr}
use Rattle.mich_instr.specs.declared.instr.Instr as instrs
use Rattle.mich_instr.specs.declared.instr.Instr.TheVariants as instr

module _ (items : List Instr) (k : ℕ) (i : Instr) (below : k < length items) (here : i ≡ get_or items k i) where
  rest_is : codes (drop k items) ≡ codes (i ∷ drop (k + 1) items)
  rest_is =
      ap codes (drop-cons items k i below) ∙ ap (λ x. codes (x ∷ drop (suc k) items)) (sym here)
      ∙ ap (λ n. codes (i ∷ drop n items)) (sym (add-one k))

  pub held_here : AllHeld (codes (drop k items)) → IsHeld (code i) × AllHeld (codes (drop (k + 1) items))
  held_here h = subst AllHeld rest_is h

  pub body_put : (bodies more : List Node) (o : Option Node) (all : List Tree) → map tree bodies ++ bodies_in (codes (drop k items)) ≡ all →
      bodies_if o ≡ body_of (code i) → map tree more ≡ map tree bodies ++ bodies_if o → map tree more ++ bodies_in (codes (drop (k + 1) items)) ≡ all
  body_put bodies more o all h e m =
      ap (λ x. x ++ bodies_in (codes (drop (k + 1) items))) (m ∙ ap (λ x. map tree bodies ++ x) e)
      ∙ append_assoc (map tree bodies) (body_of (code i)) (bodies_in (codes (drop (k + 1) items)))
      ∙ ap (λ x. map tree bodies ++ bodies_in x) (sym rest_is) ∙ h

pub all_found : (bodies : List Node) (items : List Instr) (k : ℕ) (all : List Tree) → length items ≤ k → map tree bodies ++ bodies_in (codes (drop k items)) ≡ all → map tree bodies ≡ all
all_found bodies items k all h e =
    sym (append-nil (map tree bodies)) ∙ ap (λ x. map tree bodies ++ bodies_in (codes x)) (sym (drop_all k items h)) ∙ e

pub put_some : (bodies more : List Node) (b : Node) → more ≡ bodies ++ b ∷ [] → map tree more ≡ map tree bodies ++ bodies_if (Some b)
put_some bodies more b e = ap (map tree) e ∙ map-append tree bodies (b ∷ [])

pub put_none : (bodies : List Node) → map tree bodies ≡ map tree bodies ++ bodies_if None
put_none bodies = sym (append-nil (map tree bodies))

pub code_lambda : (recursive : Bool) (arg ret : Ty) (written : List Node) (body : Node) (is : List Instr) →
    code (instr.Lambda recursive arg ret written body is) ≡ made.lambda recursive (kind arg) (kind ret) (trees written) (tree body) (codes is)
code_lambda recursive arg ret written body is = search (rules, instrs.the_lemmas)
