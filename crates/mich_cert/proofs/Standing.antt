-- The entries of the node at a location.
use Rattle.std.proofs.Common.{◌≡◌, ℕ, zero, suc, ◌+◌, ◌-◌, Option, Some, List, [], ◌∷◌, ◌++◌, inl, inr, ap, ◌∙◌, arith}
use Rattle.std.specs.Prelude.{slice_get}
use Rattle.rules_text.specs.nodes.Tree.{Tree, int, str, bytes, prim, seq, Trees, none, more, size, preorder, preorders}
use Rattle.rules_data.specs.types.Kind.{Kind}
use Rattle.rules_code.specs.instructions.Context.{Context}
use Rattle.rules_code.specs.certificates.Derivation.{Teller, told_by, block_entries, tellers, inner_tellers}
use Rattle.laws_typing.proofs.literals_lemmas.ForCallers.{size_is}
use Rattle.mich_check.proofs.PushTyping.{split}
use Rattle.mich_cert.proofs.Tellers.{skip}

get_left : {X : Type 0} (xs ys : List X) (i : ℕ) (x : X) → slice_get xs i ≡ Some x → slice_get (xs ++ ys) i ≡ Some x
get_left [] ys i x h = absurd cc
get_left (y ∷ xs) ys zero x h = h
get_left (y ∷ xs) ys (suc i) x h = get_left xs ys i x h

-- the entries of a node at a location
abbrev there : Tree → ℕ → Option Teller
there t at = Some (λ c A. block_entries t at c A)

abbrev teller : Tree → ℕ → Teller
teller t at = λ c A. block_entries t at c A

mutual
  -- the entries at a place are those of the node there
  place_told : (ts : Trees) (at i : ℕ) (u : Tree) → slice_get (preorders ts) i ≡ Some u → slice_get (tellers ts at) i ≡ there u (at + i)
  place_told none at i u h = absurd cc
  place_told (more t ts) at i u h = elim (split (preorder t) (preorders ts) i u h) [
    | inl f ↦ get_left (teller t at ∷ inner_tellers t at) (tellers ts (at + size t)) i (teller u (at + i)) (node_told t at i u f)
    | inr g ↦ (
        let s = size_is t in
        let k = g.1 in
        let e : i ≡ size t + g.0 = omega (arith, s, k) in
        let f : at + size t + g.0 ≡ at + i = omega (arith, e) in
        ap (slice_get (tellers (more t ts) at)) e ∙ skip t ts at g.0 ∙ place_told ts (at + size t) g.0 u g.2 ∙ ap (λ n. there u n) f
        )
  ]

  node_told : (t : Tree) (at i : ℕ) (u : Tree) → slice_get (preorder t) i ≡ Some u →
      slice_get (teller t at ∷ inner_tellers t at) i ≡ there u (at + i)
  node_told t at zero u h = root t h
    where
      same : (t : Tree) → Some t ≡ Some u → there t at ≡ there u (at + zero)
      same t h = let e : t ≡ u = cc in let z : at ≡ at + zero = omega arith in ap (λ x. there x at) e ∙ ap (λ n. there u n) z

      root : (t : Tree) → slice_get (preorder t) zero ≡ Some u →
          slice_get (teller t at ∷ inner_tellers t at) zero ≡ there u (at + zero)
      root (int n) h = same (int n) h
      root (str s) h = same (str s) h
      root (bytes b) h = same (bytes b) h
      root (prim name annots ts) h = same (prim name annots ts) h
      root (seq ts) h = same (seq ts) h
  node_told (prim name annots ts) at (suc i) u h =
      let z : at + 1 + i ≡ at + suc i = omega arith in place_told ts (at + 1) i u h ∙ ap (λ n. there u n) z
  node_told (seq ts) at (suc i) u h =
      let z : at + 1 + i ≡ at + suc i = omega arith in place_told ts (at + 1) i u h ∙ ap (λ n. there u n) z
  node_told (int n) at (suc i) u h = absurd cc
  node_told (str s) at (suc i) u h = absurd cc
  node_told (bytes b) at (suc i) u h = absurd cc

-- those of a body, whose location is counted from one
pub body_told : (ts : Trees) (at l i : ℕ) (u : Tree) (c : Context) (A : List Kind) → l ≡ 1 + i → slice_get (preorders ts) i ≡ Some u →
    told_by (slice_get (tellers ts (at + 1)) (l - 1)) c A ≡ block_entries u (at + l) c A
body_told ts at l i u c A e h =
    let f : l - 1 ≡ i = omega (arith, e) in
    let g : at + 1 + i ≡ at + l = omega (arith, e) in
    ap (λ j. told_by (slice_get (tellers ts (at + 1)) j) c A) f ∙ ap (λ o. told_by o c A) (place_told ts (at + 1) i u h) ∙ ap (λ n. block_entries u n c A) g
