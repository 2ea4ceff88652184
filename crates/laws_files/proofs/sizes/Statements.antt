-- Statements of a file are short: each has at most as many nodes as bytes, and they take as many bytes as there are of them.
use Rattle.std.proofs.Common.{◌≡◌, ◌≤◌, ◌<◌, ◌⊎◌, ◌+◌, ◌-◌, ◌^◌, ℕ, inl, inr, Bool, true, false, ltb, List, [], ◌∷◌, length, drop, Some, refl, sym, subst, arith}
use Rattle.std.specs.List.{AllByRecursion}
use Rattle.std.proofs.lemmas.Bool.{ltb-true, ltb-false}
use Rattle.std.proofs.lemmas.List.{length-drop}
use Rattle.rules_text.specs.nodes.Limits.{file_limit}
use Rattle.rules_text.specs.nodes.Tree.{Tree, size}
use Rattle.rules_text.specs.declared.text.TextKind.TheVariants.{TooLong}
use Rattle.rules_text.specs.text.Token.{Token}
use Rattle.rules_text.specs.text.Syntax.{element_tree}
use Rattle.rules_text.specs.text.Text.{Leads, Stands, EndsAt, past_limit, IsNode}
use Rattle.rules_files.specs.commands.Places.{Placed, AreStatements}
use Rattle.laws_files.proofs.sizes.Nodes.{element_fits}
use Rattle.laws_files.proofs.sizes.Tokens.{gap_le, token_shorter}

-- ---- one statement

leads_fit : (text : List ℕ) (ts : List Token) (rest : List ℕ) → Leads text ts (Some rest) → length ts + length rest ≤ length text
leads_fit text [] rest p = omega (arith, gap_le text rest p)
leads_fit text (t ∷ ts) rest p = omega (arith, gap_le text p.0 p.2, token_shorter p.0 p.1 t p.3, leads_fit p.1 ts rest p.4)

end_fits : (rest : List ℕ) (end : ℕ) → EndsAt rest end → end ≤ length rest
end_fits [] end e = omega (arith, e)
end_fits (c ∷ rest) end e = omega (arith, token_shorter (c ∷ rest) e.0 Token.semicolon e.1, e.2)

stands_fits : (text : List ℕ) (t : Tree) (start end : ℕ) → Stands text t start end → size t + end ≤ length text
stands_fits text t start end s =
    let nodes : size t ≤ length s.tokens =
    subst (λ (x : Tree). size x ≤ length s.tokens) (sym s.statement.stands)
    (subst (λ (ts : List Token). size (element_tree s.statement.element) ≤ length ts) (sym s.statement.tokens)
    (element_fits s.statement.element)) in
    omega (arith, leads_fit text s.tokens s.rest s.leads, nodes, end_fits s.rest end s.ends)

size_some : (t : Tree) → 1 ≤ size t
size_some (Tree.int n) = omega arith
size_some (Tree.str s) = omega arith
size_some (Tree.bytes b) = omega arith
size_some (Tree.prim name annots ts) = omega arith
size_some (Tree.seq ts) = omega arith

-- ---- the limit of a file

split : (a b : ℕ) → (a ≤ b) ⊎ (b < a)
split a b = by (ltb b a) refl
  where
    by : (t : Bool) → ltb b a ≡ t → (a ≤ b) ⊎ (b < a)
    by true e = inr (ltb-true b a e)
    by false e = inl (ltb-false b a e)

limit_le : (place : ℕ) (text : List ℕ) (t : Tree) (start end behind : ℕ) → place ≤ file_limit → IsNode place text t start end →
    behind + end ≡ place + length text → behind ≤ file_limit
limit_le place text t start end behind before n e = elim (split (place + length text) file_limit) [
  | inl h ↦ omega (arith, e, h)
  | inr h ↦
      let left = place + length text - file_limit in
      let further : left ≤ end =
      n.clean TooLong left (past_limit (refl, inr (record { left_is = omega (arith, h); some = omega (arith, h); here = omega (arith, before) }))) in
      omega (arith, e, further, h)
]

-- ---- statements

pub record AreSmall (place : ℕ) (ss : List Placed) (to : ℕ) : Type 0 where
  pub nodes : AllByRecursion (λ s. size s.node < 2 ^ 32) ss
  pub count : place + length ss ≤ to
  pub within : to ≤ file_limit

small : (file : List ℕ) (place : ℕ) (ss : List Placed) (to : ℕ) → place ≤ file_limit → place ≤ length file → AreStatements file place ss to →
    AreSmall place ss to
small file place [] to before within e = record { nodes = tt; count = omega (arith, e); within = omega (arith, e, before) }
small file place (s ∷ ss) to before within (behind, n, tail) =
    let fits : size s.node + place ≤ behind =
    omega (arith, stands_fits (drop place file) s.node n.0 n.1 n.2.stands, length-drop place file, within, n.4) in
    let at : behind + n.1 ≡ place + length (drop place file) = omega (arith, n.4, length-drop place file, within) in
    let near : behind ≤ file_limit = limit_le place (drop place file) s.node n.0 n.1 behind before n.2 at in
    let rest = small file behind ss to near (omega (arith, n.4)) tail in
    record { nodes = (omega (arith, fits, near), rest.nodes); count = omega (arith, fits, size_some s.node, rest.count); within = rest.within }

pub statements_are_small : (file : List ℕ) (ss : List Placed) (to : ℕ) → AreStatements file 0 ss to → AreSmall 0 ss to
statements_are_small file ss to stand = small file 0 ss to (omega arith) (omega arith) stand
