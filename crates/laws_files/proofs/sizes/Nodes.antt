-- A node has at most as many nodes as tokens.
use Rattle.std.proofs.Common.{◌+◌, ◌≡◌, ◌≤◌, List, [], ◌∷◌, ◌++◌, length, arith}
use Rattle.std.proofs.lemmas.List.{length-append}
use Rattle.rules_text.specs.nodes.Tree.{Tree, size, sizes, trees_of}
use Rattle.rules_text.specs.text.Token.{Token}
use Rattle.rules_text.specs.text.Syntax.{Node, number, bytes, string, parens, braces, braces_to, Items, no_items, with_annotation, with_name, with_node, Element, alone, application, Separated, nothing, followed, node_tokens, item_tokens, element_tokens, separated_tokens, node_tree, arguments, element_tree, separated_trees}

sizes-append : (ts : List Tree) (t : Tree) → sizes (trees_of (ts ++ t ∷ [])) ≡ sizes (trees_of ts) + size t
sizes-append [] t = omega arith
sizes-append (s ∷ ts) t = omega (arith, sizes-append ts t)

mutual
  node_fits : (n : Node) → size (node_tree n) ≤ length (node_tokens n)
  node_fits (number n) = omega arith
  node_fits (bytes b) = omega arith
  node_fits (string s) = omega arith
  node_fits (parens n i) = omega (arith, items_fit i, length-append (item_tokens i) (Token.close_paren ∷ []))
  node_fits (braces s) = omega (arith, separated_fits s, length-append (separated_tokens s) (Token.close_brace ∷ []))
  node_fits (braces_to s e) =
      omega (
        arith,
        separated_fits s,
        element_fits e,
        sizes-append (separated_trees s) (element_tree e),
        length-append (separated_tokens s) (element_tokens e ++ Token.close_brace ∷ []),
        length-append (element_tokens e) (Token.close_brace ∷ []),
      )

  items_fit : (i : Items) → sizes (trees_of (arguments i)) ≤ length (item_tokens i)
  items_fit no_items = omega arith
  items_fit (with_annotation i a) = omega (arith, items_fit i, length-append (item_tokens i) (Token.annotation a ∷ []))
  items_fit (with_name i n) =
      omega (
        arith,
        items_fit i,
        sizes-append (arguments i) (Tree.prim n [] Rattle.rules_text.specs.nodes.Tree.none),
        length-append (item_tokens i) (Token.name n ∷ []),
      )
  items_fit (with_node i n) =
      omega (arith, items_fit i, node_fits n, sizes-append (arguments i) (node_tree n), length-append (item_tokens i) (node_tokens n))

  pub element_fits : (e : Element) → size (element_tree e) ≤ length (element_tokens e)
  element_fits (alone n) = node_fits n
  element_fits (application n i) = omega (arith, items_fit i)

  separated_fits : (s : Separated) → sizes (trees_of (separated_trees s)) ≤ length (separated_tokens s)
  separated_fits nothing = omega arith
  separated_fits (followed s e) =
      omega (
        arith,
        separated_fits s,
        element_fits e,
        sizes-append (separated_trees s) (element_tree e),
        length-append (separated_tokens s) (element_tokens e ++ Token.semicolon ∷ []),
        length-append (element_tokens e) (Token.semicolon ∷ []),
      )
