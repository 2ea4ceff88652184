-- The nodes of lists of instructions.
use Rattle.std.proofs.Common.{◌≡◌, ℕ, ◌≤◌, List, [], ◌∷◌, ◌++◌, length, map, take, rules, refl, sym, ap, ◌∙◌}
use Rattle.std.proofs.lemmas.List.{take_all}
use Rattle.rules_text.specs.nodes.Tree.{prim, seq, more, trees_of}
use Rattle.mich_base.specs.declared.node.Node.{Node}
use Rattle.mich_base.specs.declared.node.Node as nodes
use Rattle.mich_base.specs.declared.node.Node.TheVariants as node
use Rattle.mich_base.specs.declared.node.App.{App}
use Rattle.mich_base.specs.View.{tree, trees}
use Rattle.mich_instr.specs.Erased.{all_erased, and_last, erased}
use Rattle.mich_instr.specs.View.{code, codes}
use Rattle.mich_instr.specs.declared.instr.Instr.{Instr}

tree_prim : (a : App) → tree (node.Prim a) ≡ prim a.name a.annots (trees a.args)
tree_prim a = search (rules, nodes.the_lemmas)

pub prim_of : (a : App) (name : List ℕ) (annots : List (List ℕ)) (ns : List Node) → a.name ≡ name → a.annots ≡ annots → a.args ≡ ns → tree (node.Prim a) ≡ prim name annots (trees ns)
prim_of a name annots ns e f g =
    tree_prim a ∙ ap (λ n. prim n a.annots (trees a.args)) e ∙ ap (λ x. prim name x (trees a.args)) f ∙ ap (λ x. prim name annots (trees x)) g

tree_seq : (ns : List Node) → tree (node.Seq ns) ≡ seq (trees ns)
tree_seq ns = search (rules, nodes.the_lemmas)

erased_whole : (is : List Instr) → all_erased (codes is) ≡ trees_of (map (λ i. erased (code i)) is)
erased_whole [] = refl
erased_whole (i ∷ is) = ap (more (erased (code i))) (erased_whole is)

pub erased_done : (ns : List Node) (is items : List Instr) (k : ℕ) → map tree ns ≡ map (λ i. erased (code i)) (take k items) → length items ≤ k → items ≡ is →
    tree (node.Seq ns) ≡ seq (all_erased (codes is))
erased_done ns is items k e le f =
    tree_seq ns ∙ ap seq (ap trees_of e ∙ ap (λ xs. trees_of (map (λ i. erased (code i)) xs)) (take_all k items le ∙ f) ∙ sym (erased_whole is))

last_node : (ns : List Node) (t : Node) → trees (ns ++ t ∷ []) ≡ and_last (trees ns) (tree t)
last_node [] t = refl
last_node (n ∷ ns) t = ap (more (tree n)) (last_node ns t)

pub last_is : (ms ns : List Node) (t : Node) → ms ≡ ns ++ t ∷ [] → trees ms ≡ and_last (trees ns) (tree t)
last_is ms ns t e = ap trees e ∙ last_node ns t
