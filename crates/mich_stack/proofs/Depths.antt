-- Values at a depth of a stack, whose last element is on top.
use Rattle.std.proofs.Common.{◌≡◌, ℕ, zero, suc, ◌-◌, ◌<◌, List, [], ◌∷◌, ◌++◌, length, take, drop, map, reverse, insert, remove, slice_get, Some, option_map, append_assoc, refl, sym, ap, ◌∙◌, arith}
use Rattle.std.proofs.lemmas.List.{reverse-append, length-reverse, length-drop, map-append, take-append-drop, take_at, get_or-reverse}
use Rattle.std.proofs.lemmas.Option.{slice_get-map, slice_get-get_or}
use Rattle.mich_term.specs.declared.value.Value.{Value}
use Rattle.mich_stack.specs.Views.{Sight, seen, values}
use Rattle.mich_stack.proofs.Tops.{reverse_take, drop_map}

reverse_drop : (vs : List Value) (m n : ℕ) → length vs - m ≡ n → reverse (drop m vs) ≡ take n (reverse vs)
reverse_drop vs m n e =
    let parts : reverse vs ≡ reverse (drop m vs) ++ reverse (take m vs) = ap reverse (sym (take-append-drop m vs)) ∙ reverse-append (take m vs) (drop m vs) in
    let l : length (reverse (drop m vs)) ≡ n = length-reverse (drop m vs) ∙ length-drop m vs ∙ e in
    sym (ap (take n) parts ∙ take_at (reverse (drop m vs)) (reverse (take m vs)) n l)

reverse_around : (xs ys : List Value) (v : Value) → reverse (xs ++ v ∷ ys) ≡ reverse ys ++ v ∷ reverse xs
reverse_around xs ys v = reverse-append xs (v ∷ ys) ∙ ap (λ V. V ++ reverse xs) (reverse-append (v ∷ []) ys)
    ∙ append_assoc (reverse ys) (v ∷ []) (reverse xs)

module _ (big : Sight) where
  -- the value at a depth is the one at a place from below
  pub get_is : (vs : List Value) (n : ℕ) → n < length vs → slice_get (values big vs) n ≡ option_map (seen big) (slice_get vs (length vs - 1 - n))
  get_is [] n h = refl
  get_is (v ∷ ws) n h =
      let vs : List Value = v ∷ ws in
      let here : n < length (reverse vs) = omega (arith, length-reverse vs) in
      let there : length vs - 1 - n < length vs = omega arith in
      slice_get-map (seen big) (reverse vs) n
      ∙ ap (option_map (seen big)) (slice_get-get_or (reverse vs) n v here ∙ ap Some (get_or-reverse vs n v h) ∙ sym (slice_get-get_or vs (length vs - 1 - n) v there))

  take_map : (n : ℕ) (vs : List Value) → take n (map (seen big) vs) ≡ map (seen big) (take n vs)
  take_map zero vs = refl
  take_map (suc n) [] = refl
  take_map (suc n) (v ∷ vs) = ap (λ V. seen big v ∷ V) (take_map n vs)

  -- without the value at a depth
  pub remove_is : (vs : List Value) (n k : ℕ) → length vs - suc k ≡ n → length vs - k ≡ suc n → values big (remove vs k) ≡ remove (values big vs) n
  remove_is vs n k e f =
      ap (map (seen big)) (reverse-append (take k vs) (drop (suc k) vs) ∙ ap (λ V. V ++ reverse (take k vs)) (reverse_drop vs (suc k) n e)
      ∙ ap (λ V. take n (reverse vs) ++ V) (reverse_take vs k (suc n) f))
      ∙ map-append (seen big) (take n (reverse vs)) (drop (suc n) (reverse vs))
      ∙ ap (λ V. V ++ map (seen big) (drop (suc n) (reverse vs))) (sym (take_map n (reverse vs)))
      ∙ ap (λ V. take n (values big vs) ++ V) (sym (drop_map big (suc n) (reverse vs)))

  -- with a value at a depth
  pub insert_is : (vs : List Value) (n k : ℕ) (v : Value) → length vs - k ≡ n → values big (insert vs k v) ≡ insert (values big vs) n (seen big v)
  insert_is vs n k v e =
      ap (map (seen big)) (reverse_around (take k vs) (drop k vs) v ∙ ap (λ V. V ++ v ∷ reverse (take k vs)) (reverse_drop vs k n e)
      ∙ ap (λ V. take n (reverse vs) ++ v ∷ V) (reverse_take vs k n e))
      ∙ map-append (seen big) (take n (reverse vs)) (v ∷ drop n (reverse vs))
      ∙ ap (λ V. V ++ seen big v ∷ map (seen big) (drop n (reverse vs))) (sym (take_map n (reverse vs)))
      ∙ ap (λ V. take n (values big vs) ++ seen big v ∷ V) (sym (drop_map big n (reverse vs)))
