-- The entries of the blocks of an instruction, by its arguments.
use Rattle.std.proofs.Common.{◌≡◌, ℕ, suc, ◌+◌, ◌-◌, List, [], ◌∷◌, ◌++◌, length, refl, sym, ap, ◌∙◌, arith, length-append}
use Rattle.std.specs.Prelude.{slice_get}
use Rattle.rules_text.specs.nodes.Tree.{Tree, int, str, bytes, prim, seq, Trees, none, more, size, sizes}
use Rattle.rules_data.specs.types.Kind.{Kind}
use Rattle.rules_code.specs.instructions.Context.{Context}
use Rattle.rules_code.specs.certificates.Derivation.{Teller, told_by, block_entries, tellers, inner_tellers}

get_behind : {X : Type 0} (xs ys : List X) (i : ℕ) → slice_get (xs ++ ys) (length xs + i) ≡ slice_get ys i
get_behind [] ys i = ap (slice_get ys) (omega arith)
get_behind {X = X} (x ∷ xs) ys i = ap (slice_get (x ∷ (xs ++ ys))) by ∙ get_behind xs ys i
  where
    by : length (x ∷ xs) + i ≡ suc (length xs + i)
    by = omega arith

abbrev teller : Tree → ℕ → Teller
teller t at c A = block_entries t at c A

mutual
  all_tellers : (ts : Trees) (at : ℕ) → length (tellers ts at) ≡ sizes ts
  all_tellers none at = refl
  all_tellers (more t ts) at =
      let e = length-append (teller t at ∷ inner_tellers t at) (tellers ts (at + size t)) in
      let f = own_tellers t at in
      let g = all_tellers ts (at + size t) in
      omega (arith, e, f, g)

  own_tellers : (t : Tree) (at : ℕ) → length (teller t at ∷ inner_tellers t at) ≡ size t
  own_tellers (int n) at = refl
  own_tellers (str s) at = refl
  own_tellers (bytes b) at = refl
  own_tellers (prim name annots ts) at = let e = all_tellers ts (at + 1) in omega (arith, e)
  own_tellers (seq ts) at = let e = all_tellers ts (at + 1) in omega (arith, e)

-- behind a node stand those that follow it
pub skip : (t : Tree) (ts : Trees) (at i : ℕ) → slice_get (tellers (more t ts) at) (size t + i) ≡ slice_get (tellers ts (at + size t)) i
skip t ts at i =
    ap (λ n. slice_get (tellers (more t ts) at) (n + i)) (sym (own_tellers t at)) ∙ get_behind (teller t at ∷ inner_tellers t at) (tellers ts (at + size t)) i

pub second_told : (t u : Tree) (ts : Trees) (at : ℕ) (c : Context) (A : List Kind) →
    told_by (slice_get (tellers (more t (more u ts)) at) (1 + size t - 1)) c A ≡ block_entries u (at + size t) c A
second_told t u ts at c A =
    let e : 1 + size t - 1 ≡ size t + 0 = omega arith in
    ap (λ i. told_by (slice_get (tellers (more t (more u ts)) at) i) c A) e ∙ ap (λ o. told_by o c A) (skip t (more u ts) at 0)

pub third_told : (t u w : Tree) (ts : Trees) (at : ℕ) (c : Context) (A : List Kind) →
    told_by (slice_get (tellers (more t (more u (more w ts))) at) (1 + size t + size u - 1)) c A ≡ block_entries w (at + size t + size u) c A
third_told t u w ts at c A =
    let e : 1 + size t + size u - 1 ≡ size t + (size u + 0) = omega arith in
    ap (λ i. told_by (slice_get (tellers (more t (more u (more w ts))) at) i) c A) e
    ∙ ap (λ o. told_by o c A) (skip t (more u (more w ts)) at (size u + 0) ∙ skip u (more w ts) (at + size t) 0)
