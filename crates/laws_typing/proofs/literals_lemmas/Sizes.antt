-- A node that stands in another is no larger.
use Rattle.std.proofs.Common.{◌≡◌, ◌≤◌, ℕ, zero, suc, Some, List, [], ◌∷◌, ◌++◌, ◌⊎◌, inl, inr, arith}
use Rattle.std.specs.Prelude.{slice_get}
use Rattle.rules_text.specs.nodes.Tree.{Tree, int, str, bytes, prim, seq, Trees, none, more, size, sizes, preorder, preorders}
use Rattle.rules_data.specs.values.Literals.{Pending, body, claim}
use Rattle.laws_typing.specs.literals.Laws.{AllStandIn, AllAtMost, BodiesAreWithin}
use Rattle.laws_typing.proofs.literals_lemmas.Places.{bodies_stand}

-- an element of two lists is one of the first or of the second
split : (xs ys : List Tree) (i : ℕ) (u : Tree) → slice_get (xs ++ ys) i ≡ Some u → (slice_get xs i ≡ Some u) ⊎ ((j : ℕ) × (slice_get ys j ≡ Some u))
split [] ys i u h = inr (i, h)
split (x ∷ xs) ys zero u h = inl h
split (x ∷ xs) ys (suc i) u h = split xs ys i u h

one : (t u : Tree) → Some t ≡ Some u → size u ≤ size t
one t u h = let e : t ≡ u = cc in rw e (omega arith)

mutual
  within : (t : Tree) (i : ℕ) (u : Tree) → slice_get (preorder t) i ≡ Some u → size u ≤ size t
  within t zero u h = by t h
    where
      by : (t : Tree) → slice_get (preorder t) zero ≡ Some u → size u ≤ size t
      by (int n) h = one (int n) u h
      by (str s) h = one (str s) u h
      by (bytes b) h = one (bytes b) u h
      by (prim name annots ts) h = one (prim name annots ts) u h
      by (seq ts) h = one (seq ts) u h
  within (prim name annots ts) (suc i) u h = let e = all_within ts i u h in omega (arith, e)
  within (seq ts) (suc i) u h = let e = all_within ts i u h in omega (arith, e)
  within (int n) (suc i) u h = absurd cc
  within (str s) (suc i) u h = absurd cc
  within (bytes b) (suc i) u h = absurd cc

  all_within : (ts : Trees) (i : ℕ) (u : Tree) → slice_get (preorders ts) i ≡ Some u → size u ≤ sizes ts
  all_within none i u h = absurd cc
  all_within (more t ts) i u h = elim (split (preorder t) (preorders ts) i u h) [
    | inl f ↦ (let e = within t i u f in omega (arith, e))
    | inr g ↦ (let e = all_within ts g.0 u g.1 in omega (arith, e))
  ]

bodies_at_most : (t : Tree) (at : ℕ) (ps : List Pending) → AllStandIn at (preorder t) ps → AllAtMost (size t) ps
bodies_at_most t at [] h = tt
bodies_at_most t at (body l a r recursive u ∷ ps) h = (within t h.0.0 u h.0.2, bodies_at_most t at ps h.1)
bodies_at_most t at (claim l b a ∷ ps) h = bodies_at_most t at ps h.1

pub bodies_within : BodiesAreWithin
bodies_within a at t x ps same = bodies_at_most t at ps (bodies_stand a at t x ps same)
