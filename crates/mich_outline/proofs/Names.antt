-- The names of views, in a set beside them.
use Rattle.std.proofs.Common.{◌≡◌, ℕ, Bool, true, false, ◌||◌, List, [], ◌∷◌, ◌++◌, map, is_some, Some, None, refl, ap, sym, ◌∙◌}
use Rattle.std.specs.Prelude.{if◌then◌else◌}
use Rattle.std.specs.Borrow.{Bor}
use Rattle.std.specs.BTreeMap.{is_at}
use Rattle.std.specs.BTreeSet.{insert_key}
use Rattle.std.specs.Cmp.Lexicographic.{slice_cmp}
use Rattle.std.specs.List.{list_any}
use Rattle.std.specs.Ordering.{nat_cmp, match_ordering}
use Rattle.std.specs.declared.cmp.Ordering.{Ordering}
use Rattle.std.specs.declared.cmp.Ordering.TheVariants as order
use Rattle.std.specs.Str.{bytes_eq}
use Rattle.std.proofs.lemmas.List.{map-append}
use Rattle.std.proofs.lemmas.Map.Lookups.{exact_bytes}
use Rattle.std.proofs.lemmas.Map.Text.{is_eq-slice_cmp}
use Rattle.std.proofs.lemmas.Slice.Eq.{bytes_eq-Decides}
use Rattle.rules_code.specs.typing.Sections.{WrittenView, view_named}
use Rattle.mich_outline.specs.View.{written_of}
use Rattle.mich_outline.specs.declared.content.WrittenView.{WrittenView as CodeView}

flip : (xs ys : List ℕ) → bytes_eq xs ys ≡ bytes_eq ys xs
flip xs ys = by (bytes_eq xs ys) (bytes_eq ys xs) refl refl
  where
    by : (a b : Bool) → bytes_eq xs ys ≡ a → bytes_eq ys xs ≡ b → a ≡ b
    by true true e f = refl
    by false false e f = refl
    by true false e f = sym ((bytes_eq-Decides ys xs).1 (sym ((bytes_eq-Decides xs ys).0 e))) ∙ f
    by false true e f = sym e ∙ (bytes_eq-Decides xs ys).1 (sym ((bytes_eq-Decides ys xs).0 f))

-- ---- the set

abbrev by_bytes : Bor (List ℕ) → Bor (List ℕ) → Ordering
by_bytes x y = slice_cmp nat_cmp x.now y.now

abbrev pub is_named : List ℕ → Bor (List ℕ) → Bool
is_named q = is_at (λ k. slice_cmp nat_cmp q k.now)

named_once : (a r : Bool) → a || r ≡ a || (a || r)
named_once true r = refl
named_once false r = refl

named_later : (a b r : Bool) → b || (a || r) ≡ a || (b || r)
named_later true true r = refl
named_later true false r = refl
named_later false true r = refl
named_later false false r = refl

-- a name is in the set behind an insertion where it is the name or was in it
pub any_inserted : (q : List ℕ) (ks : List (Bor (List ℕ))) (k : Bor (List ℕ)) → list_any (is_named q) (insert_key by_bytes ks k) ≡ bytes_eq k.now q || list_any (is_named q) ks
any_inserted q [] k = ap (λ b. b || false) (is_eq-slice_cmp q k.now ∙ flip q k.now)
any_inserted q (x ∷ xs) k = by (by_bytes k x) refl (any_inserted q xs k)
  where
    same : is_named q k ≡ bytes_eq k.now q
    same = is_eq-slice_cmp q k.now ∙ flip q k.now

    by : (o : Ordering) → by_bytes k x ≡ o → list_any (is_named q) (insert_key by_bytes xs k) ≡ bytes_eq k.now q || list_any (is_named q) xs →
        list_any (is_named q) (match_ordering o (k ∷ x ∷ xs) (x ∷ xs) (x ∷ insert_key by_bytes xs k)) ≡ bytes_eq k.now q || (is_named q x || list_any (is_named q) xs)
    by order.Less e h = ap (λ b. b || (is_named q x || list_any (is_named q) xs)) same
    by order.Equal e h =
        let there : is_named q x ≡ bytes_eq k.now q = ap (λ n. is_named q record { ref_ptr = x.ref_ptr; now = n }) (sym (exact_bytes k.now x.now e)) ∙ same in
        ap (λ b. b || list_any (is_named q) xs) there ∙ named_once (bytes_eq k.now q) (list_any (is_named q) xs) ∙ ap (λ b. bytes_eq k.now q || (b || list_any (is_named q) xs)) (sym there)
    by order.Greater e h = ap (λ b. is_named q x || b) h ∙ named_later (bytes_eq k.now q) (is_named q x) (list_any (is_named q) xs)

-- ---- the views

named_more : (q : List ℕ) (ws : List WrittenView) (w : WrittenView) → is_some (view_named q (ws ++ w ∷ [])) ≡ bytes_eq w.name q || is_some (view_named q ws)
named_more q [] w = by (bytes_eq w.name q)
  where
    by : (b : Bool) → is_some (if b then Some w else None) ≡ b || false
    by true = refl
    by false = refl
named_more q (v ∷ vs) w = by (bytes_eq v.name q) (bytes_eq w.name q) (named_more q vs w)
  where
    by : (a b : Bool) → is_some (view_named q (vs ++ w ∷ [])) ≡ b || is_some (view_named q vs) →
        is_some (if a then Some v else view_named q (vs ++ w ∷ [])) ≡ b || is_some (if a then Some v else view_named q vs)
    by true true e = refl
    by true false e = refl
    by false b e = e

-- one more view behind the others
pub views_more : (vs : List CodeView) (v : CodeView) (q : List ℕ) →
    is_some (view_named q (map written_of (vs ++ v ∷ []))) ≡ bytes_eq v.name.now q || is_some (view_named q (map written_of vs))
views_more vs v q = ap (λ ws. is_some (view_named q ws)) (map-append written_of vs (v ∷ [])) ∙ named_more q (map written_of vs) (written_of v)
