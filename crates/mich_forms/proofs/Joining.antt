-- Lists put together and taken apart.
use Rattle.std.proofs.Common.{◌≡◌, ◌≤◌, ◌+◌, ◌-◌, ℕ, true, List, [], ◌∷◌, ◌++◌, length, take, drop, replicate, slice_index, arith, refl, length-append, drop-cons}
use Rattle.std.proofs.lemmas.List.{take-append-drop, length-replicate, drop-replicate, append_assoc, drop_all, take_at, drop_at}
use Rattle.rules_data.specs.forms.Spelling.{IsPlace, IsAddress, is_place, is_written_entrypoint}
use Rattle.laws_data.proofs.forms_lemmas.ForCallers.{place_length}
use Rattle.mich_forms.specs.Padded.{IsPadded}
use Rattle.std.specs.Cmp.Derive.{both_true}
use borrow.Rule.Slice.PartMut.{put_mid}

-- the bytes of an address, of its parts
pub joined_parts : (place written : List ℕ) → IsPlace place → is_written_entrypoint written ≡ true → IsAddress (place ++ written)
joined_parts place written p w =
    let len : length place ≡ 22 = place_length place p in
    let front : take 22 (place ++ written) ≡ place = take_at place written 22 len in
    let back : drop 22 (place ++ written) ≡ written = drop_at place written 22 len in
    both_true {s = is_place (take 22 (place ++ written))} {t = is_written_entrypoint (drop 22 (place ++ written))} (rw front p) (rw back w)

-- 20 bytes and a 0
pub zero_ended : (bytes : List ℕ) → length bytes ≡ 21 → slice_index bytes 20 ≡ 0 → take 20 bytes ++ 0 ∷ [] ≡ bytes
zero_ended bytes len end =
    let last : drop 20 bytes ≡ slice_index bytes 20 ∷ drop 21 bytes = drop-cons bytes 20 0 (omega arith) in
    let none : drop 21 bytes ≡ [] = drop_all 21 bytes (omega arith) in
    let tail : drop 20 bytes ≡ 0 ∷ [] = rw (last, none, end) refl in
    rw (← tail) (take-append-drop 20 bytes)

-- a list put behind another at the front of an array that is 0 from there on
pub put_behind : (room : ℕ) (first second : List ℕ) → length first + length second ≤ room
    → put_mid (length first) (length second) (first ++ replicate (room - length first) 0) second
    ≡ (first ++ second) ++ replicate (room - (length first + length second)) 0
put_behind room first second fits =
    let n : ℕ = length first in
    let m : ℕ = length second in
    let zeros : List ℕ = replicate (room - n) 0 in
    let front : take n (first ++ zeros) ≡ first = take_at first zeros n refl in
    let back : drop n (first ++ zeros) ≡ zeros = drop_at first zeros n refl in
    let less : room - n - m ≡ room - (n + m) = omega arith in
    let fewer : drop m zeros ≡ replicate (room - (n + m)) 0 = rw (drop-replicate {X = ℕ} m (room - n) 0, less) refl in
    rw (front, back, fewer, append_assoc) refl

-- a list and zeros after it
pub padded_is : (room : ℕ) (bytes : List ℕ) (len : ℕ) → length bytes ≡ len → len ≤ room → IsPadded room (bytes ++ replicate (room - len) 0) len
padded_is room bytes len at fits = (
  fits,
  omega (arith, length-append bytes (replicate (room - len) 0), length-replicate {A = ℕ} (room - len) 0),
  drop_at bytes (replicate (room - len) 0) len at,
)

-- an address taken apart
pub split_address : (bytes place written p w : List ℕ) → place ≡ take 22 bytes → written ≡ drop 22 bytes
    → IsPlace place → is_written_entrypoint written ≡ true → p ≡ place → w ≡ written → IsAddress bytes × (p ++ w ≡ bytes)
split_address bytes place written p w front back a_place is_written same_place same_written = (
  both_true {s = is_place (take 22 bytes)} {t = is_written_entrypoint (drop 22 bytes)} (rw (← front) a_place) (rw (← back) is_written),
  rw (same_place, same_written, front, back) (take-append-drop 22 bytes),
)
