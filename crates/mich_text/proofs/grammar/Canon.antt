-- A node that is put together as it is printed stands for itself.
use Rattle.std.proofs.Common.{◌≡◌, ℕ, List, [], ◌∷◌, ◌++◌, refl, sym, ap, ◌∙◌, append_assoc}
use Rattle.std.proofs.lemmas.List.{append-nil}
use Rattle.rules_text.specs.nodes.Tree.{Tree, int, str, prim, seq, Trees, none, more, trees_of}
use Rattle.rules_text.specs.text.Syntax.{Items, no_items, with_annotation, Element, Separated, nothing, followed, annotations, arguments, node_tree, element_tree, separated_trees}
use Rattle.mich_text.specs.Canonical.{with_notes, wrapped, element_of, with_argument, with_arguments, sequence}

list_of : Trees → List Tree
list_of none = []
list_of (more x xs) = x ∷ list_of xs

trees_of-list_of : (xs : Trees) → trees_of (list_of xs) ≡ xs
unfolding list_of
trees_of-list_of none = refl
trees_of-list_of (more x xs) = ap (more x) (trees_of-list_of xs)

notes_are : (i : Items) (ns : List (List ℕ)) → annotations (with_notes i ns) ≡ annotations i ++ ns
notes_are i [] = sym (append-nil (annotations i))
notes_are i (a ∷ ns) = notes_are (with_annotation i a) ns ∙ append_assoc (annotations i) (a ∷ []) ns

notes_leave : (i : Items) (ns : List (List ℕ)) → arguments (with_notes i ns) ≡ arguments i
notes_leave i [] = refl
notes_leave i (a ∷ ns) = notes_leave (with_annotation i a) ns

wrapped_adds : (i : Items) (n : List ℕ) (ns : List (List ℕ)) (xs : Trees) (inner : Items) → annotations inner ≡ ns
    → trees_of (arguments inner) ≡ xs → arguments (wrapped i n ns xs inner) ≡ arguments i ++ prim n ns xs ∷ []
wrapped_adds i n [] none inner e f = refl
wrapped_adds i n [] (more x xs) inner e f = rw (e, f) refl
wrapped_adds i n (a ∷ ns) xs inner e f = rw (e, f) refl

wrapped_leaves : (i : Items) (n : List ℕ) (ns : List (List ℕ)) (xs : Trees) (inner : Items)
    → annotations (wrapped i n ns xs inner) ≡ annotations i
wrapped_leaves i n [] none inner = refl
wrapped_leaves i n [] (more x xs) inner = refl
wrapped_leaves i n (a ∷ ns) xs inner = refl

argument_leaves : (i : Items) (t : Tree) → annotations (with_argument i t) ≡ annotations i
argument_leaves i (int n) = refl
argument_leaves i (str s) = refl
argument_leaves i (Tree.bytes b) = refl
argument_leaves i (prim n ns xs) = wrapped_leaves i n ns xs (with_arguments (with_notes no_items ns) xs)
argument_leaves i (seq none) = refl
argument_leaves i (seq (more x xs)) = refl

arguments_leave : (i : Items) (xs : Trees) → annotations (with_arguments i xs) ≡ annotations i
arguments_leave i none = refl
arguments_leave i (more x xs) = arguments_leave (with_argument i x) xs ∙ argument_leaves i x

notes_of : (n : List ℕ) (ns : List (List ℕ)) (xs : Trees) → annotations (with_arguments (with_notes no_items ns) xs) ≡ ns
notes_of n ns xs = arguments_leave (with_notes no_items ns) xs ∙ notes_are no_items ns

arguments_from : (ns : List (List ℕ)) (xs : Trees)
    → arguments (with_arguments (with_notes no_items ns) xs) ≡ arguments (with_notes no_items ns) ++ list_of xs
    → trees_of (arguments (with_arguments (with_notes no_items ns) xs)) ≡ xs
arguments_from ns xs e = ap trees_of (e ∙ ap (λ (l : List Tree). l ++ list_of xs) (notes_leave no_items ns)) ∙ trees_of-list_of xs

mutual
  unfolding list_of

  pub element_is : (t : Tree) → element_tree (element_of t) ≡ t
  element_is (int n) = refl
  element_is (str s) = refl
  element_is (Tree.bytes b) = refl
  element_is (prim n ns xs) = rw (notes_of n ns xs, arguments_from ns xs (arguments_add (with_notes no_items ns) xs)) refl
  element_is (seq none) = refl
  element_is (seq (more x xs)) = sequence_is nothing (element_of x) xs ∙ rw (element_is x, trees_of-list_of xs) refl

  argument_adds : (i : Items) (t : Tree) → arguments (with_argument i t) ≡ arguments i ++ t ∷ []
  argument_adds i (int n) = refl
  argument_adds i (str s) = refl
  argument_adds i (Tree.bytes b) = refl
  argument_adds i (prim n ns xs) =
      wrapped_adds i n ns xs (with_arguments (with_notes no_items ns) xs) (notes_of n ns xs)
      (arguments_from ns xs (arguments_add (with_notes no_items ns) xs))
  argument_adds i (seq none) = refl
  argument_adds i (seq (more x xs)) =
      ap (λ (t : Tree). arguments i ++ t ∷ []) (sequence_is nothing (element_of x) xs ∙ rw (element_is x, trees_of-list_of xs) refl)

  arguments_add : (i : Items) (xs : Trees) → arguments (with_arguments i xs) ≡ arguments i ++ list_of xs
  arguments_add i none = sym (append-nil (arguments i))
  arguments_add i (more x xs) =
      arguments_add (with_argument i x) xs ∙ ap (λ (l : List Tree). l ++ list_of xs) (argument_adds i x)
      ∙ append_assoc (arguments i) (x ∷ []) (list_of xs)

  sequence_is : (s : Separated) (e : Element) (xs : Trees)
      → node_tree (sequence s e xs) ≡ seq (trees_of (separated_trees s ++ element_tree e ∷ list_of xs))
  sequence_is s e none = refl
  sequence_is s e (more x xs) =
      sequence_is (followed s e) (element_of x) xs ∙ rw (element_is x)
      (ap (λ (l : List Tree). seq (trees_of l)) (append_assoc (separated_trees s) (element_tree e ∷ []) (x ∷ list_of xs)))
