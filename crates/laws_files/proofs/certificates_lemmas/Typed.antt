-- What is accepted of its parts.
use Rattle.std.proofs.Common.{◌≡◌, ℕ, suc, ◌+◌, ◌-◌, Bool, true, false, cond, List, [], ◌∷◌, ◌++◌, length, refl, sym, ap, ◌∙◌, arith, length-append}
use Rattle.std.specs.Prelude.{slice_get}
use Rattle.rules_text.specs.nodes.Tree.{Tree, int, str, bytes, prim, seq, Trees, none, more, size, sizes}
use Rattle.rules_data.specs.types.Kind.{Kind}
use Rattle.rules_code.specs.instructions.Context.{Context}
use Rattle.rules_code.specs.typing.Typing.{Typing, goes, fails, bad, Typer, shift, join, ends, under, mapped}
use Rattle.rules_code.specs.typing.Nodes.{tree_type, trees_type, body, typings, inner_typings, typing_of}
use Rattle.rules_code.specs.certificates.Blocks.{block}
use Rattle.laws_files.specs.certificates.Laws.{IsTyped, typing_in}

-- ---- typings

pub typed_shift : (k : ℕ) (t : Typing) → IsTyped (shift k t) → IsTyped t
typed_shift k (goes B) h = tt
typed_shift k fails h = tt
typed_shift k (bad l) h = h

pub shift_typed : (k : ℕ) (t : Typing) → IsTyped t → IsTyped (shift k t)
shift_typed k (goes B) h = tt
shift_typed k fails h = tt
shift_typed k (bad l) h = h

pub typed_then : (b : Bool) (t : Typing) (l : ℕ) → IsTyped (cond b t (bad l)) → IsTyped t
typed_then true t l h = h
typed_then false t l h = absurd h

pub typed_join : (t u : Typing) → IsTyped (join t u) → IsTyped t × IsTyped u
typed_join (goes B) (goes C) h = (tt, tt)
typed_join (goes B) fails h = (tt, tt)
typed_join (goes B) (bad l) h = absurd h
typed_join fails u h = (tt, h)
typed_join (bad l) u h = absurd h

pub typed_ends : (t : Typing) (C : List Kind) (u : Typing) → IsTyped (ends t C u) → IsTyped t
typed_ends (goes B) C u h = tt
typed_ends fails C u h = tt
typed_ends (bad l) C u h = h

pub typed_under : (A : List Kind) (t : Typing) → IsTyped (under A t) → IsTyped t
typed_under A (goes B) h = tt
typed_under A fails h = tt
typed_under A (bad l) h = h

pub typed_mapped : (t : Typing) (f : Kind → Kind) (A : List Kind) → IsTyped (mapped t f A) → IsTyped t
typed_mapped (goes B) f A h = tt
typed_mapped fails f A h = tt
typed_mapped (bad l) f A h = h

pub typed_body : (t : Tree) (at : ℕ) (c : Context) (A : List Kind) → IsTyped (body t at c A) → IsTyped (tree_type t c A)
typed_body (seq ts) at c A h = shift_typed 1 (trees_type ts c A) (typed_shift (at + 1) (trees_type ts c A) h)
typed_body (int n) at c A h = h
typed_body (str n) at c A h = h
typed_body (bytes n) at c A h = h
typed_body (prim name annots ts) at c A h = absurd h

-- ---- the typing at a location

pub get_behind : {X : Type 0} (xs ys : List X) (i : ℕ) → slice_get (xs ++ ys) (length xs + i) ≡ slice_get ys i
get_behind [] ys i = ap (slice_get ys) (omega arith)
get_behind {X = X} (x ∷ xs) ys i = ap (slice_get (x ∷ (xs ++ ys))) by ∙ get_behind xs ys i
  where
    by : length (x ∷ xs) + i ≡ suc (length xs + i)
    by = omega arith

abbrev pub typer : Tree → Typer
typer t c A = tree_type t c A

mutual
  all_typings : (ts : Trees) → length (typings ts) ≡ sizes ts
  all_typings none = refl
  all_typings (more t ts) =
      let e = length-append (typer t ∷ inner_typings t) (typings ts) in
      let f = own_typings t in
      let g = all_typings ts in
      omega (arith, e, f, g)

  own_typings : (t : Tree) → length (typer t ∷ inner_typings t) ≡ size t
  own_typings (int n) = refl
  own_typings (str n) = refl
  own_typings (bytes n) = refl
  own_typings (prim name annots ts) = let e = all_typings ts in omega (arith, e)
  own_typings (seq ts) = let e = all_typings ts in omega (arith, e)

-- behind a node stand those that follow it
pub skip : (t : Tree) (ts : Trees) (i : ℕ) → slice_get (typings (more t ts)) (size t + i) ≡ slice_get (typings ts) i
skip t ts i =
    ap (λ n. slice_get (typings (more t ts)) (n + i)) (sym (own_typings t)) ∙ get_behind (typer t ∷ inner_typings t) (typings ts) i

pub at_first : (t : Tree) (ts : Trees) (c : Context) (A : List Kind) → typing_in (more t ts) (block 1 c A) ≡ tree_type t c A
at_first t ts c A = refl

pub at_second : (t u : Tree) (ts : Trees) (c : Context) (A : List Kind) → typing_in (more t (more u ts)) (block (1 + size t) c A) ≡ tree_type u c A
at_second t u ts c A =
    let e : 1 + size t - 1 ≡ size t + 0 = omega arith in
    ap (λ i. typing_of (slice_get (typings (more t (more u ts))) i) c A) e ∙ ap (λ o. typing_of o c A) (skip t (more u ts) 0)

pub at_third : (t u w : Tree) (ts : Trees) (c : Context) (A : List Kind) →
    typing_in (more t (more u (more w ts))) (block (1 + size t + size u) c A) ≡ tree_type w c A
at_third t u w ts c A =
    let e : 1 + size t + size u - 1 ≡ size t + (size u + 0) = omega arith in
    ap (λ i. typing_of (slice_get (typings (more t (more u (more w ts)))) i) c A) e
    ∙ ap (λ o. typing_of o c A) (skip t (more u (more w ts)) (size u + 0) ∙ skip u (more w ts) 0)
