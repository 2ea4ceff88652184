-- An argument is wrapped from the last step of its path on.
use Rattle.std.proofs.Common.{◌≡◌, ◌+◌, ℕ, zero, suc, Bool, true, false, List, [], ◌∷◌, Some, length, drop, refl, sym, ap, ◌∙◌, add-one}
use Rattle.std.specs.Prelude.{slice_get}
use Rattle.rules_data.specs.values.Val.{Val}
use Rattle.rules_world.specs.world.Targets.{wrapped}

drop_none : (xs : List Bool) → drop (length xs) xs ≡ []
drop_none [] = refl
drop_none (x ∷ xs) = drop_none xs

drop_at : (n : ℕ) (xs : List Bool) (b : Bool) → slice_get xs n ≡ Some b → drop n xs ≡ b ∷ drop (suc n) xs
drop_at zero [] b h = absurd cc
drop_at zero (x ∷ xs) b h = let e : x ≡ b = cc in ap (λ y. y ∷ xs) e
drop_at (suc n) [] b h = absurd cc
drop_at (suc n) (x ∷ xs) b h = drop_at n xs b h

one_wrapped : (b : Bool) (xs : List Bool) (x : Val) → wrapped (b ∷ []) (wrapped xs x) ≡ wrapped (b ∷ xs) x
one_wrapped true xs x = refl
one_wrapped false xs x = refl

pub wrap_on : (xs : List Bool) (m n : ℕ) (b : Bool) (x inner outer : Val) → m ≡ n + 1 → slice_get xs n ≡ Some b → inner ≡ wrapped (drop m xs) x → outer ≡ wrapped (b ∷ []) inner →
    outer ≡ wrapped (drop n xs) x
wrap_on xs m n b x inner outer e at h k =
    k ∙ ap (wrapped (b ∷ [])) (h ∙ ap (λ i. wrapped (drop i xs) x) (e ∙ add-one n)) ∙ one_wrapped b (drop (suc n) xs) x ∙ ap (λ ys. wrapped ys x) (sym (drop_at n xs b at))
