-- The one way in which a node is put together where it is printed.
use Rattle.std.specs.Prelude.{ℕ, List, [], ◌∷◌}
use Rattle.rules_text.specs.nodes.Tree.{Tree, int, str, prim, seq, Trees, none, more}
use Rattle.rules_text.specs.text.Syntax.{Node, number, bytes, string, parens, braces, braces_to, Items, no_items, with_annotation, with_name, with_node, Element, alone, application, Separated, nothing, followed}

abbrev pub with_notes : Items → List (List ℕ) → Items
with_notes i [] = i
with_notes i (a ∷ rest) = with_notes (with_annotation i a) rest

-- an application among the arguments, in parentheses where it has arguments or annotations
abbrev pub wrapped : Items → List ℕ → List (List ℕ) → Trees → Items → Items
wrapped i n [] none inner = with_name i n
wrapped i n [] (more x xs) inner = with_node i (parens n inner)
wrapped i n (a ∷ ns) xs inner = with_node i (parens n inner)

abbrev mutual
  pub element_of : Tree → Element
  element_of (int n) = alone (number n)
  element_of (str s) = alone (string s)
  element_of (Tree.bytes b) = alone (bytes b)
  element_of (prim n ns xs) = application n (with_arguments (with_notes no_items ns) xs)
  element_of (seq none) = alone (braces nothing)
  element_of (seq (more x xs)) = alone (sequence nothing (element_of x) xs)

  -- with an argument
  pub with_argument : Items → Tree → Items
  with_argument i (int n) = with_node i (number n)
  with_argument i (str s) = with_node i (string s)
  with_argument i (Tree.bytes b) = with_node i (bytes b)
  with_argument i (prim n ns xs) = wrapped i n ns xs (with_arguments (with_notes no_items ns) xs)
  with_argument i (seq none) = with_node i (braces nothing)
  with_argument i (seq (more x xs)) = with_node i (sequence nothing (element_of x) xs)

  pub with_arguments : Items → Trees → Items
  with_arguments i none = i
  with_arguments i (more x xs) = with_arguments (with_argument i x) xs

  -- the elements so far, one more, and the rest
  pub sequence : Separated → Element → Trees → Node
  sequence s e none = braces_to s e
  sequence s e (more x xs) = sequence (followed s e) (element_of x) xs
