-- The depth of a node as it is written, and as it is printed.
use Rattle.std.proofs.Common.{◌≡◌, ℕ, ◌+◌, ◌≤◌, max, List, [], ◌∷◌, ◌++◌, refl, arith}
use Rattle.rules_text.specs.nodes.Tree.{Tree, int, str, prim, seq, Trees, none, more, trees_of, depth, depths}
use Rattle.rules_text.specs.text.Syntax.{Node, number, bytes, string, parens, braces, braces_to, Items, no_items, with_annotation, with_name, with_node, Element, alone, application, Separated, nothing, followed, node_tree, arguments, element_tree, separated_trees, node_depth, items_depth, element_depth, separated_depth}
use Rattle.mich_text.specs.Canonical.{with_notes, wrapped, element_of, with_argument, with_arguments, sequence}

depths-append : (xs ys : List Tree) → depths (trees_of (xs ++ ys)) ≡ max (depths (trees_of xs)) (depths (trees_of ys))
depths-append [] ys = omega arith
depths-append (x ∷ xs) ys = omega (arith, depths-append xs ys)

mutual
  node_tree_depth : (n : Node) → depth (node_tree n) ≤ node_depth n
  node_tree_depth (number n) = omega arith
  node_tree_depth (bytes b) = omega arith
  node_tree_depth (string s) = omega arith
  node_tree_depth (parens n i) = omega (arith, arguments_depth i)
  node_tree_depth (braces s) = omega (arith, separated_tree_depth s)
  node_tree_depth (braces_to s e) =
      omega (arith, separated_tree_depth s, element_tree_depth e, depths-append (separated_trees s) (element_tree e ∷ []))

  arguments_depth : (i : Items) → depths (trees_of (arguments i)) ≤ items_depth i
  arguments_depth no_items = omega arith
  arguments_depth (with_annotation i a) = arguments_depth i
  arguments_depth (with_name i n) = omega (arith, arguments_depth i, depths-append (arguments i) (prim n [] none ∷ []))
  arguments_depth (with_node i n) = omega (arith, arguments_depth i, node_tree_depth n, depths-append (arguments i) (node_tree n ∷ []))

  pub element_tree_depth : (e : Element) → depth (element_tree e) ≤ element_depth e
  element_tree_depth (alone n) = node_tree_depth n
  element_tree_depth (application n i) = omega (arith, arguments_depth i)

  separated_tree_depth : (s : Separated) → depths (trees_of (separated_trees s)) ≤ separated_depth s
  separated_tree_depth nothing = omega arith
  separated_tree_depth (followed s e) =
      omega (arith, separated_tree_depth s, element_tree_depth e, depths-append (separated_trees s) (element_tree e ∷ []))

notes_depth : (i : Items) (ns : List (List ℕ)) → items_depth (with_notes i ns) ≡ items_depth i
notes_depth i [] = refl
notes_depth i (a ∷ ns) = notes_depth (with_annotation i a) ns

wrapped_depth : (i : Items) (n : List ℕ) (ns : List (List ℕ)) (xs : Trees) (inner : Items) → items_depth inner ≤ depths xs
    → items_depth (wrapped i n ns xs inner) ≤ max (items_depth i) (depths xs + 1)
wrapped_depth i n [] none inner h = omega arith
wrapped_depth i n [] (more x xs) inner h = omega (arith, h)
wrapped_depth i n (a ∷ ns) xs inner h = omega (arith, h)

mutual
  pub element_of_depth : (t : Tree) → element_depth (element_of t) ≤ depth t
  element_of_depth (int n) = omega arith
  element_of_depth (str s) = omega arith
  element_of_depth (Tree.bytes b) = omega arith
  element_of_depth (prim n ns xs) = omega (arith, printed_arguments_depth (with_notes no_items ns) xs, notes_depth no_items ns)
  element_of_depth (seq none) = omega arith
  element_of_depth (seq (more x xs)) = omega (arith, sequence_depth nothing (element_of x) xs, element_of_depth x)

  argument_depth : (i : Items) (t : Tree) → items_depth (with_argument i t) ≤ max (items_depth i) (depth t)
  argument_depth i (int n) = omega arith
  argument_depth i (str s) = omega arith
  argument_depth i (Tree.bytes b) = omega arith
  argument_depth i (prim n ns xs) =
      wrapped_depth i n ns xs (with_arguments (with_notes no_items ns) xs)
      (omega (arith, printed_arguments_depth (with_notes no_items ns) xs, notes_depth no_items ns))
  argument_depth i (seq none) = omega arith
  argument_depth i (seq (more x xs)) = omega (arith, sequence_depth nothing (element_of x) xs, element_of_depth x)

  printed_arguments_depth : (i : Items) (xs : Trees) → items_depth (with_arguments i xs) ≤ max (items_depth i) (depths xs)
  printed_arguments_depth i none = omega arith
  printed_arguments_depth i (more x xs) = omega (arith, printed_arguments_depth (with_argument i x) xs, argument_depth i x)

  sequence_depth : (s : Separated) (e : Element) (xs : Trees)
      → node_depth (sequence s e xs) ≤ 1 + max (separated_depth s) (max (element_depth e) (depths xs))
  sequence_depth s e none = omega arith
  sequence_depth s e (more x xs) = omega (arith, sequence_depth (followed s e) (element_of x) xs, element_of_depth x)
