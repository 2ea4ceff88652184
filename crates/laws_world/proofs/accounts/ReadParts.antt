-- What is read part by part passes a test that its parts pass.
use Rattle.std.proofs.Common.{◌≡◌, ℕ, ◌+◌, List, [], ◌++◌, refl}
use Rattle.rules_text.specs.nodes.Tree.{Tree, Trees, none, more, size, prim}
use Rattle.rules_data.specs.values.Val.{Val}
use Rattle.rules_data.specs.values.Val as v
use Rattle.rules_data.specs.values.Literals.{Word, none_word, some_word, left_word, right_word, Pending, Literal, good, bad, and_then, mapped, Reader, option_named, or_named, read_parts, read_option, read_or, word_of_name}

-- what is read, and what is pending of it, are so
abbrev pub IsRead : {A : Type 0} → (A → List Pending → Type 0) → Literal A → Type 0
IsRead P (good x ps) = P x ps
IsRead P (bad l) = Unit {0}

-- a test of values that each reading by parts keeps
pub record Passes (P : Val → List Pending → Type 0) : Type 0 where
  pub nothing : P v.nothing []
  pub some : (x : Val) (ps : List Pending) → P x ps → P (v.some x) ps
  pub left : (x : Val) (ps : List Pending) → P x ps → P (v.left x) ps
  pub right : (x : Val) (ps : List Pending) → P x ps → P (v.right x) ps
  pub both : (x y : Val) (ps qs : List Pending) → P x ps → P y qs → P (v.both x y) (ps ++ qs)

pub map_read : {A B : Type 0} (P : A → List Pending → Type 0) (Q : B → List Pending → Type 0) (f : A → B) (l : Literal A) →
    ((x : A) (ps : List Pending) → P x ps → Q (f x) ps) → IsRead P l → IsRead Q (mapped f l)
map_read P Q f (good x ps) h r = h x ps r
map_read P Q f (bad l) h r = tt

module _ (P : Val → List Pending → Type 0) (p : Passes P) where
  abbrev Reads : Reader → Type 0
  Reads r = (at : ℕ) (t : Tree) → IsRead P (r at t)

  pub option_read : (w : Word) (r : Reader) → Reads r → (at : ℕ) (ts : Trees) → IsRead P (option_named w r at ts)
  option_read none_word r h at none = p.nothing
  option_read some_word r h at (more t none) = map_read P P v.some (r (at + 1) t) p.some (h (at + 1) t)
  option_read _ r h at _ = tt

  pub or_read : (w : Word) (r q : Reader) → Reads r → Reads q → (at : ℕ) (ts : Trees) → IsRead P (or_named w r q at ts)
  or_read left_word r q h g at (more t none) = map_read P P v.left (r (at + 1) t) p.left (h (at + 1) t)
  or_read right_word r q h g at (more t none) = map_read P P v.right (q (at + 1) t) p.right (g (at + 1) t)
  or_read _ r q h g at _ = tt

  -- a pair of what is read first with what is read then
  pair_read : (l : Literal Val) (next : Val → Literal Val) (m : Literal Val) → ((x : Val) → next x ≡ mapped (v.both x) m) →
      IsRead P l → IsRead P m → IsRead P (and_then l next)
  pair_read (bad l) next m e r q = tt
  pair_read (good x ps) next (bad l) e r q = rw (e x) tt
  pair_read (good x ps) next (good y qs) e r q = rw (e x) (p.both x y ps qs r q)

  pub parts_read : (r q : Reader) (rest : ℕ → Trees → Literal Val) → Reads r → Reads q →
      ((at : ℕ) (ts : Trees) → IsRead P (rest at ts)) → (whole at : ℕ) (ts : Trees) → IsRead P (read_parts r q rest whole at ts)
  parts_read r q rest h g l whole at (more t (more u none)) = pair_read (r at t) _ (q (at + size t) u) (λ x. refl) (h at t)
      (g (at + size t) u)
  parts_read r q rest h g l whole at (more t (more u (more w ts))) = pair_read (r at t) _
      (rest (at + size t) (more u (more w ts))) (λ x. refl) (h at t) (l (at + size t) (more u (more w ts)))
  parts_read r q rest h g l whole at none = tt
  parts_read r q rest h g l whole at (more t none) = tt

-- ---- applications by their names

pub option_by : (P : Val → List Pending → Type 0) → Passes P → (r : Reader) → ((at : ℕ) (t : Tree) → IsRead P (r at t)) →
    (at : ℕ) (t : Tree) → IsRead P (read_option r at t)
option_by P p r h at (prim name annots ts) = option_read P p (word_of_name name) r h at ts
option_by P p r h at _ = tt

pub or_by : (P : Val → List Pending → Type 0) → Passes P → (r q : Reader) → ((at : ℕ) (t : Tree) → IsRead P (r at t)) →
    ((at : ℕ) (t : Tree) → IsRead P (q at t)) → (at : ℕ) (t : Tree) → IsRead P (read_or r q at t)
or_by P p r q h g at (prim name annots ts) = or_read P p (word_of_name name) r q h g at ts
or_by P p r q h g at _ = tt
