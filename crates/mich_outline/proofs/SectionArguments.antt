-- Sections with other arguments than theirs.
use Rattle.std.proofs.Common.{◌≡◌, ℕ, ◌+◌, true, List, [], ◌∷◌, Option, Some, None, refl, ap, sym, ◌∙◌, subst, rules, arith}
use Rattle.rules_text.specs.nodes.Tree.{Tree, int, str, bytes, prim, seq, Trees, none, more, size}
use Rattle.rules_text.specs.nodes.Primitives.{primitive_of_name}
use Rattle.rules_text.specs.declared.nodes.Primitive.{Primitive}
use Rattle.rules_text.specs.declared.nodes.Primitive.TheVariants as p
use Rattle.rules_code.specs.typing.Typing.{Typer}
use Rattle.rules_code.specs.typing.Sections.{content_at, content_of, no_section, view_content}
use Rattle.rules_code.specs.typing.Nodes.{body, bodies, inner_bodies}
use Rattle.mich_base.specs.Counted.{IsNotOne}
use Rattle.mich_base.specs.View.{tree, trees}
use Rattle.mich_base.specs.declared.node.App.{App}
use Rattle.mich_base.specs.declared.node.Node.{Node}
use Rattle.mich_base.specs.declared.node.Node as nodes
use Rattle.mich_base.specs.declared.node.Node.TheVariants.{Prim, Str}
use Rattle.mich_outline.specs.Counted.{is_sequence}
use Rattle.mich_outline.specs.View.{kind_of}
use Rattle.mich_outline.specs.declared.content.SectionKind.TheVariants as k

pub no_parameter : (ns : List Node) (at : ℕ) (t : Tree) (typings : List Typer) → IsNotOne ns → content_of (Some p.SectionParameter) at t (trees ns) typings ≡ no_section
no_parameter [] at t typings h = refl
no_parameter (x ∷ []) at t typings h = absurd h
no_parameter (x ∷ y ∷ zs) at t typings h = refl

pub no_storage : (ns : List Node) (at : ℕ) (t : Tree) (typings : List Typer) → IsNotOne ns → content_of (Some p.SectionStorage) at t (trees ns) typings ≡ no_section
no_storage [] at t typings h = refl
no_storage (x ∷ []) at t typings h = absurd h
no_storage (x ∷ y ∷ zs) at t typings h = refl

code_many : (u v : Tree) (ts : Trees) (at : ℕ) (t : Tree) (typings : List Typer) → content_of (Some p.SectionCode) at t (more u (more v ts)) typings ≡ no_section
code_many (int n) v ts at t typings = refl
code_many (str s) v ts at t typings = refl
code_many (bytes b) v ts at t typings = refl
code_many (prim name annots us) v ts at t typings = refl
code_many (seq us) v ts at t typings = refl

pub no_code : (ns : List Node) (at : ℕ) (t : Tree) (typings : List Typer) → IsNotOne ns → content_of (Some p.SectionCode) at t (trees ns) typings ≡ no_section
no_code [] at t typings h = refl
no_code (x ∷ []) at t typings h = absurd h
no_code (x ∷ y ∷ zs) at t typings h = code_many (tree x) (tree y) (trees zs) at t typings

-- the four arguments as the view
pub view_is : (name : List ℕ) (u w b : Tree) (at : ℕ) (t : Tree) → is_sequence b ≡ true →
    content_of (Some p.SectionView) at t (more (str name) (more u (more w (more b none)))) (bodies (more (str name) (more u (more w (more b none)))) (at + 1))
    ≡ view_content at name u w b (body b (at + 2 + size u + size w))
view_is name u w (int n) at t h = absurd cc
view_is name u w (str s) at t h = absurd cc
view_is name u w (bytes b) at t h = absurd cc
view_is name u w (prim n annots vs) at t h = absurd cc
view_is name u w (seq vs) at t h =
    let e : at + 1 + 1 ≡ at + 2 = omega arith in
    ap (λ n. view_content at name u w (seq vs) (body (seq vs) (n + size u + size w))) e

-- ---- the same of nodes

pub view_whole : (ns : List Node) (x u w b : Node) (name : List ℕ) (at : ℕ) (t : Tree) → ns ≡ x ∷ u ∷ w ∷ b ∷ [] → tree x ≡ str name → is_sequence (tree b) ≡ true →
    content_of (Some p.SectionView) at t (trees ns) (bodies (trees ns) (at + 1)) ≡ view_content at name (tree u) (tree w) (tree b) (body (tree b) (at + 2 + size (tree u) + size (tree w)))
view_whole ns x u w b name at t e f h =
    ap (λ ms. content_of (Some p.SectionView) at t (trees ms) (bodies (trees ms) (at + 1))) e
    ∙ ap (λ y. content_of (Some p.SectionView) at t (more y (trees (u ∷ w ∷ b ∷ []))) (bodies (more y (trees (u ∷ w ∷ b ∷ []))) (at + 1))) f
    ∙ view_is name (tree u) (tree w) (tree b) at t h

-- ---- the section of a name

tree_prim : (a : App) → tree (Prim a) ≡ prim a.name a.annots (trees a.args)
tree_prim a = search (rules, nodes.the_lemmas)

pub tree_str : (n : Node) (s : List ℕ) → n ≡ Str s → tree n ≡ str s
tree_str n s e = ap tree e ∙ search (rules, nodes.the_lemmas)

kind_storage : (o : Option Primitive) → kind_of o ≡ Some k.Storage → o ≡ Some p.SectionStorage
kind_storage None e = absurd cc
kind_storage (Some p.SectionStorage) e = refl
kind_storage (Some p.SectionParameter) e = absurd cc
kind_storage (Some p.SectionCode) e = absurd cc
kind_storage (Some p.SectionView) e = absurd cc
kind_storage (Some q) e = absurd cc

kind_code : (o : Option Primitive) → kind_of o ≡ Some k.Code → o ≡ Some p.SectionCode
kind_code None e = absurd cc
kind_code (Some p.SectionCode) e = refl
kind_code (Some p.SectionParameter) e = absurd cc
kind_code (Some p.SectionStorage) e = absurd cc
kind_code (Some p.SectionView) e = absurd cc
kind_code (Some q) e = absurd cc

kind_view : (o : Option Primitive) → kind_of o ≡ Some k.View → o ≡ Some p.SectionView
kind_view None e = absurd cc
kind_view (Some p.SectionView) e = refl
kind_view (Some p.SectionParameter) e = absurd cc
kind_view (Some p.SectionStorage) e = absurd cc
kind_view (Some p.SectionCode) e = absurd cc
kind_view (Some q) e = absurd cc

module _ (at : ℕ) (node : Node) (app : App) (is : node ≡ Prim app) where
  section_is : (q : Primitive) → primitive_of_name app.name ≡ Some q →
      content_of (Some q) at (tree node) (trees app.args) (bodies (trees app.args) (at + 1)) ≡ content_at at (tree node) (inner_bodies (tree node) at)
  section_is q e =
      let s : tree node ≡ prim app.name app.annots (trees app.args) = ap tree is ∙ tree_prim app in
      subst (λ x. content_of (Some q) at x (trees app.args) (bodies (trees app.args) (at + 1)) ≡ content_at at x (inner_bodies x at)) (sym s)
      (ap (λ o. content_of o at (prim app.name app.annots (trees app.args)) (trees app.args) (bodies (trees app.args) (at + 1))) (sym e))

  pub storage_section_is : kind_of (primitive_of_name app.name) ≡ Some k.Storage →
      content_of (Some p.SectionStorage) at (tree node) (trees app.args) (bodies (trees app.args) (at + 1)) ≡ content_at at (tree node) (inner_bodies (tree node) at)
  storage_section_is e = section_is p.SectionStorage (kind_storage (primitive_of_name app.name) e)

  pub code_section_is : kind_of (primitive_of_name app.name) ≡ Some k.Code →
      content_of (Some p.SectionCode) at (tree node) (trees app.args) (bodies (trees app.args) (at + 1)) ≡ content_at at (tree node) (inner_bodies (tree node) at)
  code_section_is e = section_is p.SectionCode (kind_code (primitive_of_name app.name) e)

  pub view_section_is : kind_of (primitive_of_name app.name) ≡ Some k.View →
      content_of (Some p.SectionView) at (tree node) (trees app.args) (bodies (trees app.args) (at + 1)) ≡ content_at at (tree node) (inner_bodies (tree node) at)
  view_section_is e = section_is p.SectionView (kind_view (primitive_of_name app.name) e)
