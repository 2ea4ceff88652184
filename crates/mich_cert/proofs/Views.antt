-- The loop over the views of a script, at the places of a slice.
use Rattle.std.proofs.Common.{◌≡◌, ℕ, suc, ◌+◌, ◌<◌, ◌≤◌, Option, Some, None, List, ◌∷◌, map, drop, length, get_or, sym, ap, ◌∙◌, subst, drop-cons, add-one, arith}
use Rattle.std.specs.Prelude.{option_and_then}
use Rattle.std.proofs.lemmas.List.{drop_all}
use Rattle.rules_text.specs.nodes.Tree.{size}
use Rattle.rules_data.specs.types.Kind.{Kind}
use Rattle.rules_code.specs.typing.Scripts.{TypedView}
use Rattle.rules_code.specs.certificates.Derivation.{Entry}
use Rattle.mich_outline.specs.View.{view_of}
use Rattle.mich_outline.specs.declared.outline.View.{View}
use Rattle.mich_cert.specs.Scripts.{views_reach, views_largest, view_walk, views_walk}

abbrev pub all_typed : List View → List TypedView
all_typed vs = map view_of vs

module _ (vs : List View) (i : ℕ) (v : View) (h : i < length vs) (e : v ≡ get_or vs i v) where
  abbrev left : List TypedView
  left = all_typed (drop (i + 1) vs)

  views_at : all_typed (drop i vs) ≡ view_of v ∷ left
  views_at =
      ap all_typed (drop-cons vs i v h) ∙ ap (λ x. view_of x ∷ all_typed (drop (suc i) vs)) (sym e)
      ∙ ap (λ k. view_of v ∷ all_typed (drop k vs)) (sym (add-one i))

  pub views_room : (n : ℕ) → views_reach (all_typed (drop i vs)) ≤ n → ((view_of v).body.location + size (view_of v).body.node ≤ n) × (views_reach left ≤ n)
  views_room n r =
      let k : views_reach (view_of v ∷ left) ≤ n = subst (λ xs. views_reach xs ≤ n) views_at r in
      (omega (arith, k), omega (arith, k))

  pub views_size : (n : ℕ) → views_largest (all_typed (drop i vs)) ≤ n → (size (view_of v).body.node ≤ n) × (views_largest left ≤ n)
  views_size n r =
      let k : views_largest (view_of v ∷ left) ≤ n = subst (λ xs. views_largest xs ≤ n) views_at r in
      (omega (arith, k), omega (arith, k))

  module _ (s : Kind) (at : ℕ) (es : List Entry) (whole : Option (List Entry)) (w : whole ≡ views_walk s (all_typed (drop i vs)) at es) where
    view_first : whole ≡ option_and_then (views_walk s left at) (view_walk s (view_of v) at es)
    view_first = w ∙ ap (λ xs. views_walk s xs at es) views_at

    pub views_failed : None ≡ view_walk s (view_of v) at es → None ≡ whole
    views_failed f = sym (view_first ∙ ap (option_and_then (views_walk s left at)) (sym f))

    pub views_step : (fs : List Entry) → Some fs ≡ view_walk s (view_of v) at es → whole ≡ views_walk s left at fs
    views_step fs f = view_first ∙ ap (option_and_then (views_walk s left at)) (sym f)

pub views_end : (vs : List View) (i : ℕ) → length vs ≤ i → (s : Kind) (at : ℕ) (es : List Entry) (whole : Option (List Entry)) →
    whole ≡ views_walk s (all_typed (drop i vs)) at es → Some es ≡ whole
views_end vs i h s at es whole w = sym (w ∙ ap (λ xs. views_walk s (all_typed xs) at es) (drop_all i vs h))
