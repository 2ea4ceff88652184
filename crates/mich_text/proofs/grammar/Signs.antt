-- No statement holds a `;` outside its brackets, and so none begins with another and its `;`.
use Rattle.std.proofs.Common.{◌≡◌, ℕ, zero, suc, List, [], ◌∷◌, ◌++◌, refl, sym, ap, ◌∙◌, append_assoc, arith}
use Rattle.std.proofs.lemmas.List.{append-nil}
use Rattle.rules_text.specs.text.Token.{Token}
use Rattle.rules_text.specs.text.Syntax.{nothing, element_tokens, Element, Node, number, bytes, string, parens, braces, braces_to, Items, no_items, with_annotation, with_name, with_node, alone, application, Separated, followed, node_tokens, item_tokens, separated_tokens}
use Rattle.mich_text.proofs.grammar.Whole.{NoStatement}

less : ℕ → ℕ
less zero = zero
less (suc d) = d

sign : ℕ → ℕ → ℕ
sign zero n = suc n
sign (suc d) n = n

-- how many signs `;` stand outside all brackets, where as many are open
signs : ℕ → List Token → ℕ
signs d [] = 0
signs d (Token.number n ∷ ts) = signs d ts
signs d (Token.bytes n ∷ ts) = signs d ts
signs d (Token.string n ∷ ts) = signs d ts
signs d (Token.name n ∷ ts) = signs d ts
signs d (Token.annotation n ∷ ts) = signs d ts
signs d (Token.open_brace ∷ ts) = signs (suc d) ts
signs d (Token.open_paren ∷ ts) = signs (suc d) ts
signs d (Token.close_brace ∷ ts) = signs (less d) ts
signs d (Token.close_paren ∷ ts) = signs (less d) ts
signs d (Token.semicolon ∷ ts) = sign d (signs d ts)

regroup : (d : ℕ) (a b c : List Token) → signs d ((a ++ b) ++ c) ≡ signs d (a ++ (b ++ c))
regroup d a b c = ap (signs d) (append_assoc a b c)

mutual
  unfolding signs less sign

  node_signs : (d : ℕ) (n : Node) (rest : List Token) → signs d (node_tokens n ++ rest) ≡ signs d rest
  node_signs d (number n) rest = refl
  node_signs d (bytes n) rest = refl
  node_signs d (string n) rest = refl
  node_signs d (parens n i) rest =
      regroup (suc d) (item_tokens i) (Token.close_paren ∷ []) rest ∙ item_signs (suc d) i (Token.close_paren ∷ rest)
  node_signs d (braces s) rest =
      regroup (suc d) (separated_tokens s) (Token.close_brace ∷ []) rest ∙ separated_signs d s (Token.close_brace ∷ rest)
  node_signs d (braces_to s e) rest =
      regroup (suc d) (separated_tokens s) (element_tokens e ++ Token.close_brace ∷ []) rest
      ∙ separated_signs d s ((element_tokens e ++ Token.close_brace ∷ []) ++ rest)
      ∙ regroup (suc d) (element_tokens e) (Token.close_brace ∷ []) rest ∙ element_signs (suc d) e (Token.close_brace ∷ rest)

  item_signs : (d : ℕ) (i : Items) (rest : List Token) → signs d (item_tokens i ++ rest) ≡ signs d rest
  item_signs d no_items rest = refl
  item_signs d (with_annotation i a) rest =
      regroup d (item_tokens i) (Token.annotation a ∷ []) rest ∙ item_signs d i (Token.annotation a ∷ rest)
  item_signs d (with_name i n) rest = regroup d (item_tokens i) (Token.name n ∷ []) rest ∙ item_signs d i (Token.name n ∷ rest)
  item_signs d (with_node i n) rest =
      regroup d (item_tokens i) (node_tokens n) rest ∙ item_signs d i (node_tokens n ++ rest) ∙ node_signs d n rest

  element_signs : (d : ℕ) (e : Element) (rest : List Token) → signs d (element_tokens e ++ rest) ≡ signs d rest
  element_signs d (alone n) rest = node_signs d n rest
  element_signs d (application n i) rest = item_signs d i rest

  separated_signs : (d : ℕ) (s : Separated) (rest : List Token) → signs (suc d) (separated_tokens s ++ rest) ≡ signs (suc d) rest
  separated_signs d nothing rest = refl
  separated_signs d (followed s e) rest =
      regroup (suc d) (separated_tokens s) (element_tokens e ++ Token.semicolon ∷ []) rest
      ∙ separated_signs d s ((element_tokens e ++ Token.semicolon ∷ []) ++ rest)
      ∙ regroup (suc d) (element_tokens e) (Token.semicolon ∷ []) rest ∙ element_signs (suc d) e (Token.semicolon ∷ rest)

pub no_inner : (e : Element) → NoStatement (element_tokens e)
unfolding signs sign
no_inner e f more h =
    let none : signs 0 (element_tokens e) ≡ 0 = ap (signs 0) (sym (append-nil (element_tokens e))) ∙ element_signs 0 e [] in
    let one : signs 0 (element_tokens e) ≡ suc (signs 0 more) = ap (signs 0) h ∙ element_signs 0 f (Token.semicolon ∷ more) in
    omega (arith, none, one)
