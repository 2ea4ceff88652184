-- The loop over the bodies in a literal, at the places of a slice.
use Rattle.std.proofs.Common.{◌≡◌, ℕ, ◌+◌, ◌<◌, ◌≤◌, Option, Some, None, List, drop, length, get_or, sym, ap, ◌∙◌}
use Rattle.std.specs.Prelude.{option_and_then}
use Rattle.std.proofs.lemmas.List.{drop_all}
use Rattle.rules_text.specs.nodes.Tree.{Tree, size}
use Rattle.rules_data.specs.types.Kind.{Kind}
use Rattle.rules_data.specs.values.Val.{Val}
use Rattle.rules_data.specs.values.Literals.{Pending, Literal, good, bad, read}
use Rattle.rules_code.specs.certificates.Derivation.{Entry}
use Rattle.mich_data.specs.View.{pending, all_pending}
use Rattle.mich_data.specs.declared.pending.Pending.{Pending as Item}
use Rattle.mich_check.specs.Pending.{reach, largest}
use Rattle.mich_check.proofs.PushTyping.{items_at, reach_within, largest_within}
use Rattle.mich_cert.specs.Pushed.{pending_in, item_walk, pending_walk}

-- what is pending of a literal stands within it
was_read : (e : Literal Val) (ps : List Pending) → Some ps ≡ pending_in e → (x : Val) × (e ≡ good x ps)
was_read (good x qs) ps h = let e : qs ≡ ps = cc in (x, ap (good x) e)
was_read (bad l) ps h = absurd cc

pub read_within : (a : Kind) (at : ℕ) (t : Tree) (ps : List Pending) → Some ps ≡ pending_in (read a at t) → (reach ps ≤ at + size t) × (largest ps ≤ size t)
read_within a at t ps h =
    let r : (x : Val) × (read a at t ≡ good x ps) = was_read (read a at t) ps h in
    (reach_within a at t r.0 ps r.1, largest_within a at t r.0 ps r.1)

module _ (ps : List Item) (i : ℕ) (p : Item) (h : i < length ps) (e : p ≡ get_or ps i p) where
  module _ (at : ℕ) (es : List Entry) (whole : Option (List Entry)) (w : whole ≡ pending_walk (all_pending (drop i ps)) at es) where
    item_first : whole ≡ option_and_then (pending_walk (all_pending (drop (i + 1) ps)) at) (item_walk (pending p) at es)
    item_first = w ∙ ap (λ xs. pending_walk xs at es) (items_at ps i p h e)

    pub items_failed : None ≡ item_walk (pending p) at es → None ≡ whole
    items_failed f = sym (item_first ∙ ap (option_and_then (pending_walk (all_pending (drop (i + 1) ps)) at)) (sym f))

    pub items_step : (fs : List Entry) → Some fs ≡ item_walk (pending p) at es → whole ≡ pending_walk (all_pending (drop (i + 1) ps)) at fs
    items_step fs f = item_first ∙ ap (option_and_then (pending_walk (all_pending (drop (i + 1) ps)) at)) (sym f)

pub items_end : (ps : List Item) (i : ℕ) → length ps ≤ i → (at : ℕ) (es : List Entry) (whole : Option (List Entry)) → whole ≡ pending_walk (all_pending (drop i ps)) at es →
    Some es ≡ whole
items_end ps i h at es whole w = sym (w ∙ ap (λ xs. pending_walk (all_pending xs) at es) (drop_all i ps h))
