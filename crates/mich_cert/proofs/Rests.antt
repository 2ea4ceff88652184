-- The loop over the instructions of a block, at the places of a slice.
use Rattle.std.proofs.Common.{◌≡◌, ℕ, ◌+◌, ◌<◌, ◌≤◌, Bool, true, false, Option, Some, None, List, drop, length, get_or, sym, ap, ◌∙◌}
use Rattle.std.specs.Prelude.{option_and_then}
use Rattle.rules_text.specs.nodes.Tree.{Trees, more, size}
use Rattle.rules_data.specs.types.Kind.{Kind}
use Rattle.rules_code.specs.instructions.Context.{Context}
use Rattle.rules_code.specs.certificates.Derivation.{Entry}
use Rattle.mich_base.specs.View.{tree, trees}
use Rattle.mich_base.specs.declared.node.Node.{Node}
use Rattle.mich_data.proofs.ForCallers.{left_at, left_end}
use Rattle.mich_cert.specs.Walk.{told, is_no_stack, Ended, rest_of, own_entry, last_entry, step_of}
use Rattle.mich_cert.proofs.Walk.{stepped, going, next_step, block_step, block_end}

module _ (ns : List Node) (i : ℕ) (n : Node) (h : i < length ns) (e : n ≡ get_or ns i n) (block next : ℕ) (c : Context) (q : Bool) (es : List Entry)
    (whole : Option Ended) (w : whole ≡ rest_of (trees (drop i ns)) block next c q es) where
  abbrev left : Trees
  left = trees (drop (i + 1) ns)

  -- behind an instruction that fails
  pub rest_failed : q ≡ true → None ≡ whole
  rest_failed f = sym (w ∙ ap (λ ts. rest_of ts block next c q es) (left_at ns i n h e) ∙ ap (λ r. rest_of (more (tree n) left) block next c r es) f)

  at_next : q ≡ false → whole ≡ next_step (tree n) left block next c es
  at_next f =
      w ∙ ap (λ ts. rest_of ts block next c q es) (left_at ns i n h e) ∙ ap (λ r. rest_of (more (tree n) left) block next c r es) f
      ∙ block_step (tree n) left block next c es

  -- the next entry isn't that of the instruction
  pub rest_unowned : q ≡ false → None ≡ own_entry next es → None ≡ whole
  rest_unowned f o = sym (at_next f ∙ ap (λ x. option_and_then (λ p. stepped (tree n) left block next c p.0 p.1) x) (sym o))

  module _ (f : q ≡ false) (A : List Kind) (fs : List Entry) (o : Some (A, fs) ≡ own_entry next es) where
    owned : whole ≡ going left block (next + size (tree n)) c (step_of (tree n) next c A fs)
    owned = at_next f ∙ ap (λ x. option_and_then (λ p. stepped (tree n) left block next c p.0 p.1) x) (sym o)

    -- the instruction leads nowhere
    pub rest_stopped : None ≡ step_of (tree n) next c A fs → None ≡ whole
    rest_stopped s = sym (owned ∙ ap (λ x. going left block (next + size (tree n)) c x) (sym s))

    pub rest_step : (gs : List Entry) (r : Bool) (new : ℕ) → Some gs ≡ step_of (tree n) next c A fs → r ≡ is_no_stack (told gs) → new ≡ next + size (tree n) →
        whole ≡ rest_of left block new c r gs
    rest_step gs r new s g k =
        owned ∙ ap (λ x. going left block (next + size (tree n)) c x) (sym s) ∙ ap (λ r. rest_of left block (next + size (tree n)) c r gs) (sym g)
        ∙ ap (λ m. rest_of left block m c r gs) (sym k)

-- behind the last instruction
pub rest_end : (ns : List Node) (i : ℕ) → length ns ≤ i → (block next : ℕ) (c : Context) (q : Bool) (es : List Entry) (whole r : Option Ended) →
    whole ≡ rest_of (trees (drop i ns)) block next c q es → r ≡ last_entry block q es → r ≡ whole
rest_end ns i h block next c q es whole r w l = l ∙ sym (w ∙ ap (λ ts. rest_of ts block next c q es) (left_end ns i h) ∙ block_end block next c q es)
