-- A statement has at most as many nodes as bytes.
use Rattle.std.proofs.Common.{◌≡◌, ℕ, ◌+◌, ◌≤◌, List, [], ◌∷◌, ◌++◌, length, Option, Some, None, Result, Ok, Err, sym, ap, ◌∙◌, subst, arith}
use Rattle.std.proofs.lemmas.List.{length-append}
use Rattle.rules_text.specs.nodes.Tree.{Tree, size, sizes, trees_of}
use Rattle.rules_text.specs.text.Token.{Token}
use Rattle.rules_text.specs.text.Lexical.{after_gap}
use Rattle.rules_text.specs.text.Syntax.{Node, number, bytes, string, parens, braces, braces_to, Items, no_items, with_annotation, with_name, with_node, Element, alone, application, Separated, nothing, followed, node_tokens, item_tokens, element_tokens, separated_tokens, node_tree, arguments, element_tree, separated_trees}
use Rattle.rules_text.specs.text.Text.{Leads, Stands, EndsAt}
use Rattle.mich_base.specs.View.{tree}
use Rattle.mich_text.specs.declared.reader.Placed.{Placed}
use Rattle.mich_text.specs.declared.fault.TextError.{TextError}
use Rattle.mich_text.specs.declared.fault.TextError.TheVariants as texts
use Rattle.mich_text.specs.Parts.{IsPart}
use Rattle.mich_text.specs.Results.{IsWithinBytes}
use Rattle.mich_text.proofs.tokens.Gaps.{gap_le}
use Rattle.mich_text.proofs.tokens.Ahead.{token_shorter}

-- ---- nodes against tokens

sizes-append : (ts : List Tree) (t : Tree) → sizes (trees_of (ts ++ t ∷ [])) ≡ sizes (trees_of ts) + size t
sizes-append [] t = omega arith
sizes-append (s ∷ ts) t = omega (arith, sizes-append ts t)

mutual
  node_fits : (n : Node) → size (node_tree n) ≤ length (node_tokens n)
  node_fits (number n) = omega arith
  node_fits (bytes b) = omega arith
  node_fits (string s) = omega arith
  node_fits (parens n i) = omega (arith, items_fit i, length-append (item_tokens i) (Token.close_paren ∷ []))
  node_fits (braces s) = omega (arith, separated_fits s, length-append (separated_tokens s) (Token.close_brace ∷ []))
  node_fits (braces_to s e) =
      omega (
        arith,
        separated_fits s,
        element_fits e,
        sizes-append (separated_trees s) (element_tree e),
        length-append (separated_tokens s) (element_tokens e ++ Token.close_brace ∷ []),
        length-append (element_tokens e) (Token.close_brace ∷ []),
      )

  items_fit : (i : Items) → sizes (trees_of (arguments i)) ≤ length (item_tokens i)
  items_fit no_items = omega arith
  items_fit (with_annotation i a) = omega (arith, items_fit i, length-append (item_tokens i) (Token.annotation a ∷ []))
  items_fit (with_name i n) =
      omega (
        arith,
        items_fit i,
        sizes-append (arguments i) (Tree.prim n [] Rattle.rules_text.specs.nodes.Tree.none),
        length-append (item_tokens i) (Token.name n ∷ []),
      )
  items_fit (with_node i n) =
      omega (arith, items_fit i, node_fits n, sizes-append (arguments i) (node_tree n), length-append (item_tokens i) (node_tokens n))

  element_fits : (e : Element) → size (element_tree e) ≤ length (element_tokens e)
  element_fits (alone n) = node_fits n
  element_fits (application n i) = omega (arith, items_fit i)

  separated_fits : (s : Separated) → sizes (trees_of (separated_trees s)) ≤ length (separated_tokens s)
  separated_fits nothing = omega arith
  separated_fits (followed s e) =
      omega (
        arith,
        separated_fits s,
        element_fits e,
        sizes-append (separated_trees s) (element_tree e),
        length-append (separated_tokens s) (element_tokens e ++ Token.semicolon ∷ []),
        length-append (element_tokens e) (Token.semicolon ∷ []),
      )

-- ---- tokens against bytes

leads_fit : (text : List ℕ) (ts : List Token) (rest : List ℕ) → Leads text ts (Some rest) → length ts + length rest ≤ length text
leads_fit text [] rest p = omega (arith, gap_le text rest p)
leads_fit text (t ∷ ts) rest p =
    omega (arith, gap_le text p.0 p.2, token_shorter p.0 p.1 t p.3, leads_fit p.1 ts rest p.4)

-- from the first byte on
first_fits : (text first : List ℕ) (t : Token) (ts : List Token) (rest : List ℕ) → after_gap text ≡ Some first
    → Leads text (t ∷ ts) (Some rest) →
    length (t ∷ ts) + length rest ≤ length first
first_fits text first t ts rest e p =
    let same : p.0 ≡ first = some_is (sym p.2 ∙ e) in
    omega (arith, ap (λ (b : List ℕ). length b) same, token_shorter p.0 p.1 t p.3, leads_fit p.1 ts rest p.4)
  where
    some_is : Some p.0 ≡ Some first → p.0 ≡ first
    some_is h = cc

some_first : (text first : List ℕ) (ts : List Token) (rest : List ℕ) (n : ℕ) → after_gap text ≡ Some first → Leads text ts (Some rest) →
    n ≤ length ts → 1 ≤ n → n + length rest ≤ length first
some_first text first [] rest n e p h one = absurd (omega (arith, h, one))
some_first text first (t ∷ ts) rest n e p h one = omega (arith, first_fits text first t ts rest e p, h)

size_some : (t : Tree) → 1 ≤ size t
size_some (Tree.int n) = omega arith
size_some (Tree.str s) = omega arith
size_some (Tree.bytes b) = omega arith
size_some (Tree.prim name annots args) = omega arith
size_some (Tree.seq ts) = omega arith

end_fits : (rest : List ℕ) (end : ℕ) → EndsAt rest end → end ≤ length rest
end_fits [] end e = omega (arith, e)
end_fits (c ∷ rest) end e = omega (arith, token_shorter (c ∷ rest) e.0 Token.semicolon e.1, e.2)

pub stands_fits : (text : List ℕ) (t : Tree) (start end : ℕ) → Stands text t start end → size t + end ≤ start
stands_fits text t start end s =
    let nodes : size t ≤ length s.tokens =
    subst (λ (x : Tree). size x ≤ length s.tokens) (sym s.statement.stands)
    (subst (λ (ts : List Token). size (element_tree s.statement.element) ≤ length ts) (sym s.statement.tokens)
    (element_fits s.statement.element)) in
    omega (
      arith,
      some_first text s.first s.tokens s.rest (size t) s.begins s.leads nodes (size_some t),
      end_fits s.rest end s.ends,
      s.start_is,
    )

pub part_fits : (before : ℕ) (text : List ℕ) (r : Result (Option Placed) TextError) → IsPart before text r → IsWithinBytes r
part_fits before text (Ok None) h = tt
part_fits before text (Ok (Some p)) (start, end, n, first, last) =
    omega (arith, stands_fits text (tree p.node) start end n.stands, first, last)
part_fits before text (Err texts.Memory) h = tt
part_fits before text (Err (texts.Fault kind at)) h = tt
