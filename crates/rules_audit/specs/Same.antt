-- Whether two nodes are one.
use Rattle.std.specs.Prelude.{ℕ, ◌==◌, ℤ, pos, negsuc, Bool, true, false, ◌&&◌, List, [], ◌∷◌}
use Rattle.std.specs.Str.{bytes_eq}
use Rattle.rules_text.specs.nodes.Tree.{Tree, int, str, bytes, prim, seq, Trees, none, more}

abbrev pub same_number : ℤ → ℤ → Bool
same_number (pos m) (pos n) = m == n
same_number (negsuc m) (negsuc n) = m == n
same_number m n = false

abbrev pub same_texts : List (List ℕ) → List (List ℕ) → Bool
same_texts [] [] = true
same_texts (s ∷ ss) (t ∷ ts) = bytes_eq s t && same_texts ss ts
same_texts ss ts = false

abbrev mutual
  pub same_tree : Tree → Tree → Bool
  same_tree (int m) (int n) = same_number m n
  same_tree (str s) (str t) = bytes_eq s t
  same_tree (bytes a) (bytes b) = bytes_eq a b
  same_tree (prim name annots ts) (prim other others us) = bytes_eq name other && (same_texts annots others && same_trees ts us)
  same_tree (seq ts) (seq us) = same_trees ts us
  same_tree t u = false

  pub same_trees : Trees → Trees → Bool
  same_trees none none = true
  same_trees (more t ts) (more u us) = same_tree t u && same_trees ts us
  same_trees ts us = false
