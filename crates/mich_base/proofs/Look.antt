-- Looking for a place in a list, part by part.
use Rattle.std.proofs.Common.{◌≡◌, ℕ, zero, suc, List, [], ◌∷◌, ◌++◌, Option, Some, None, slice_get, ◌⊎◌, inl, inr, refl}
use Rattle.rules_text.specs.nodes.Tree.{Tree}
use Rattle.mich_base.specs.Walk.{look}

abbrev pub onward : List Tree → Tree ⊎ ℕ → Tree ⊎ ℕ
onward ys (inl t) = inl t
onward ys (inr k) = look ys k

pub look_append : (xs ys : List Tree) (k : ℕ) → look (xs ++ ys) k ≡ onward ys (look xs k)
look_append [] ys k = refl
look_append (x ∷ xs) ys zero = refl
look_append (x ∷ xs) ys (suc k) = look_append xs ys k

abbrev pub here : Tree ⊎ ℕ → Option Tree
here (inl t) = Some t
here (inr k) = None

pub get_look : (xs : List Tree) (k : ℕ) → slice_get xs k ≡ here (look xs k)
get_look [] k = refl
get_look (x ∷ xs) zero = refl
get_look (x ∷ xs) (suc k) = get_look xs k
