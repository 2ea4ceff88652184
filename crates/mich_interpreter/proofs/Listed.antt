-- Frames and values in order.
use Rattle.std.proofs.Common.{◌≡◌, ◌<◌, ◌+◌, ℕ, zero, suc, List, [], ◌∷◌, ◌++◌, length, take, drop, reverse, map, Option, Some, None, refl, sym, ap, ◌∙◌, arith, rules}
use Rattle.std.specs.List.{slice_get}
use Rattle.std.proofs.lemmas.List.{reverse-append, length-map, length-reverse, length-drop, take-append-drop, take_at, drop_at}
use Rattle.std.proofs.lemmas.Option.{get_or_from_slice_get}
use Rattle.std.proofs.Math.Seq.{drop-cons}
use Rattle.rules_data.specs.values.Val.{Val, list}
use Rattle.rules_code.specs.evaluation.Items.{elements}
use Rattle.mich_term.specs.View.{vals_of}
use Rattle.mich_term.specs.declared.value.Value.{Value}
use Rattle.mich_term.specs.declared.value.Value as values
use Rattle.mich_term.specs.declared.value.Value.TheVariants as value
use Rattle.mich_instr.specs.Code as made
use Rattle.mich_instr.specs.View.{code, codes}
use Rattle.mich_instr.specs.declared.instr.Instr.{Instr}
use Rattle.mich_stack.specs.Views.{Sight, seen}
use Rattle.mich_frames.specs.Frames as fr
use Rattle.mich_interpreter.specs.View.{tops, frame, frames}
use Rattle.mich_interpreter.specs.Ends.{over}
use Rattle.mich_interpreter.specs.Runs.{with_below}
use Rattle.mich_interpreter.specs.declared.frame.Frame.{Frame}

pub map_reverse : {A B : Type 0} (g : A → B) (xs : List A) (x : A) → map g (reverse (xs ++ x ∷ [])) ≡ g x ∷ map g (reverse xs)
map_reverse g xs x = ap (map g) (reverse-append xs (x ∷ []))

pub over_is : (big : Sight) (fs : List Frame) (gs : List fr.Frame) (below : Option Frame) → over big below (frames big fs ++ gs) ≡ frames big (with_below fs below) ++ gs
over_is big fs gs None = refl
over_is big fs gs (Some f) = ap (λ hs. hs ++ gs) (sym (map_reverse (frame big) fs f))

-- the code from a place on
pub code_at : (is : List Instr) (k : ℕ) (i : Instr) → k < length is → slice_get is k ≡ Some i →
    codes (drop k is) ≡ made.more (code i) (codes (drop (k + 1) is))
code_at is k i lt e =
    let n : k + 1 ≡ suc k = omega arith in
    ap codes (drop-cons is k i lt ∙ ap (λ j. j ∷ drop (suc k) is) (get_or_from_slice_get is k i i e) ∙ ap (λ n. i ∷ drop n is) (sym n))

pub length_tops : (big : Sight) (vs : List Value) → length (tops big vs) ≡ length vs
length_tops big vs = length-map (reverse vs) (seen big) ∙ length-reverse vs

drop_map : {A B : Type 0} (g : A → B) (n : ℕ) (xs : List A) → drop n (map g xs) ≡ map g (drop n xs)
drop_map g zero xs = refl
drop_map g (suc n) [] = refl
drop_map g (suc n) (x ∷ xs) = drop_map g n xs

take_map : {A B : Type 0} (g : A → B) (n : ℕ) (xs : List A) → take n (map g xs) ≡ map g (take n xs)
take_map g zero xs = refl
take_map g (suc n) [] = refl
take_map g (suc n) (x ∷ xs) = ap (λ ys. g x ∷ ys) (take_map g n xs)

module _ {A B : Type 0} (g : A → B) (xs : List A) (p n : ℕ) (split : p + n ≡ length xs) where
  parts : reverse xs ≡ reverse (drop p xs) ++ reverse (take p xs)
  parts = ap reverse (sym (take-append-drop p xs)) ∙ reverse-append (take p xs) (drop p xs)

  count : length (reverse (drop p xs)) ≡ n
  count = length-reverse (drop p xs) ∙ length-drop p xs ∙ omega (arith, split)

  -- of a list whose last element is the first, the first n are behind the place p
  pub above_is : map g (reverse (drop p xs)) ≡ take n (map g (reverse xs))
  above_is = sym (take_map g n (reverse xs) ∙ ap (λ ys. map g (take n ys)) parts ∙ ap (map g) (take_at (reverse (drop p xs)) (reverse (take p xs)) n count))

  pub below_is : map g (reverse (take p xs)) ≡ drop n (map g (reverse xs))
  below_is = sym (drop_map g n (reverse xs) ∙ ap (λ ys. map g (drop n ys)) parts ∙ ap (map g) (drop_at (reverse (drop p xs)) (reverse (take p xs)) n count))

pub elements_are : (vs : List Val) → elements (vals_of vs) ≡ vs
elements_are [] = refl
elements_are (x ∷ vs) = ap (λ ys. x ∷ ys) (elements_are vs)

pub val_list : (big : Sight) (vs : List Value) → seen big (value.List vs) ≡ list (vals_of (map (seen big) vs))
val_list big vs = search (rules, values.the_lemmas)
