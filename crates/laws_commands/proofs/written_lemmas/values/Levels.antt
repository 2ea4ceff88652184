-- Nodes that have their forms with no more levels than a text may have.
use Rattle.std.proofs.Common.{◌≤◌, ◌+◌, ℕ, arith}
use Rattle.std.specs.Prelude.{max}
use Rattle.rules_text.specs.nodes.Limits.{depth_limit}
use Rattle.rules_text.specs.nodes.Tree.{Tree, int, str, bytes, prim, seq, Trees, none, more, depth, depths}
use Rattle.mich_text.specs.Written.{HasTextForm, HaveTextForms}
use Rattle.laws_commands.specs.written.Written.{HasForm, HaveForms}

below_one : (n : ℕ) → n + 1 ≤ depth_limit → n ≤ depth_limit
below_one n h = omega (arith, h)

first_below : (a b : ℕ) → max a b ≤ depth_limit → a ≤ depth_limit
first_below a b h = omega (arith, h)

rest_below : (a b : ℕ) → max a b ≤ depth_limit → b ≤ depth_limit
rest_below a b h = omega (arith, h)

mutual
  pub closed : (t : Tree) → HasTextForm t → depth t ≤ depth_limit → HasForm t
  closed (int n) h d = h
  closed (str s) h d = h
  closed (bytes b) h d = h
  closed (prim name annots args) h d = (h.0, h.1, all_closed args h.2 (below_one (depths args) d))
  closed (seq ts) h d = (all_closed ts h (below_one (depths ts) d), d)

  all_closed : (ts : Trees) → HaveTextForms ts → depths ts ≤ depth_limit → HaveForms ts
  all_closed none h d = tt
  all_closed (more t ts) h d = (closed t h.0 (first_below (depth t) (depths ts) d), all_closed ts h.1 (rest_below (depth t) (depths ts) d))

mutual
  pub text_form : (t : Tree) → HasForm t → HasTextForm t
  text_form (int n) h = h
  text_form (str s) h = h
  text_form (bytes b) h = h
  text_form (prim name annots args) h = (h.0, h.1, text_forms args h.2)
  text_form (seq ts) h = text_forms ts h.0

  text_forms : (ts : Trees) → HaveForms ts → HaveTextForms ts
  text_forms none h = tt
  text_forms (more t ts) h = (text_form t h.0, text_forms ts h.1)
