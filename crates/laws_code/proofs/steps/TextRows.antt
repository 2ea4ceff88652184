-- Strings and bytes.
use Rattle.std.proofs.Common.{◌≡◌, ℕ, zero, suc, ◌+◌, ◌≤◌, nat_le, nat_lt, Bool, true, false, ◌&&◌, List, [], ◌∷◌, ◌++◌, length, take, drop, Some, None, refl, arith, pos}
use Rattle.std.specs.Prelude.{◌≤ℤ◌, option_map, if◌then◌else◌}
use Rattle.std.specs.List.{list_all}
use Rattle.std.proofs.lemmas.Int.{ints}
use Rattle.std.proofs.lemmas.Bool.{and_parts, and_from, leb-true}
use Rattle.std.proofs.lemmas.Bool.Decides.{nat_tests}
use Rattle.rules_text.specs.nodes.Limits.{byte_limit}
use Rattle.rules_data.specs.declared.types.Simple.TheVariants as s
use Rattle.rules_data.specs.types.Kind.{Kind}
use Rattle.rules_data.specs.types.Kind as k
use Rattle.rules_code.specs.instructions.Types as ty
use Rattle.rules_code.specs.instructions.OtherChanges.{text_change}
use Rattle.rules_code.specs.instructions.Straight.{TextRow}
use Rattle.rules_code.specs.instructions.Straight as i
use Rattle.rules_data.specs.values.Val.{Val, Vals, no_val, more_vals}
use Rattle.rules_data.specs.values.Val as v
use Rattle.rules_data.specs.values.Literals.{is_text, is_text_byte, is_short}
use Rattle.rules_data.specs.values.Forms.{has_simple_form, AllHave}
use Rattle.rules_data.specs.values.Tickets.{Identity}
use Rattle.rules_code.specs.steps.Changes.{amount_in}
use Rattle.rules_code.specs.steps.Failure as failure
use Rattle.rules_code.specs.steps.Step.{Step, kept, optional, fails}
use Rattle.rules_code.specs.steps.Texts.{joined, within_size, slice, text_step}
use Rattle.rules_code.specs.typing.Fits.{Known, Fits, AllFit}
use Rattle.laws_code.specs.evaluation.Laws.{amount_on}
use Rattle.laws_code.proofs.stacks.ForCallers.{positive}
use Rattle.laws_code.proofs.steps.Steps.{RowStep, StepFits, on_two_numbers, on_text, on_bytes}
use Rattle.laws_code.proofs.steps.Ranges.{nat_from, nat_low}
use Rattle.laws_code.proofs.steps.Arithmetic.{gives, on_natural}

-- ---- parts of texts

all_append : (f : ℕ → Bool) (xs ys : List ℕ) → list_all f xs ≡ true → list_all f ys ≡ true → list_all f (xs ++ ys) ≡ true
all_append f [] ys h g = g
all_append f (x ∷ xs) ys h g = let hs = and_parts (f x) (list_all f xs) h in
    and_from (f x) (list_all f (xs ++ ys)) hs.0 (all_append f xs ys hs.1 g)

all_take : (f : ℕ → Bool) (n : ℕ) (xs : List ℕ) → list_all f xs ≡ true → list_all f (take n xs) ≡ true
all_take f zero xs h = refl
all_take f (suc n) [] h = refl
all_take f (suc n) (x ∷ xs) h = let hs = and_parts (f x) (list_all f xs) h in
    and_from (f x) (list_all f (take n xs)) hs.0 (all_take f n xs hs.1)

all_drop : (f : ℕ → Bool) (n : ℕ) (xs : List ℕ) → list_all f xs ≡ true → list_all f (drop n xs) ≡ true
all_drop f zero xs h = h
all_drop f (suc n) [] h = refl
all_drop f (suc n) (x ∷ xs) h = all_drop f n xs (and_parts (f x) (list_all f xs) h).1

take_length : (n : ℕ) (xs : List ℕ) → length (take n xs) ≤ length xs
take_length zero xs = omega arith
take_length (suc n) [] = omega arith
take_length (suc n) (x ∷ xs) = let h : length (take n xs) ≤ length xs = take_length n xs in omega arith

drop_length : (n : ℕ) (xs : List ℕ) → length (drop n xs) ≤ length xs
drop_length zero xs = omega arith
drop_length (suc n) [] = omega arith
drop_length (suc n) (x ∷ xs) = let h : length (drop n xs) ≤ length xs = drop_length n xs in omega arith

le_test : (m n : ℕ) → m ≤ n → nat_le m n ≡ true
le_test m n h = grind (arith, nat_tests)

short_length : (b : List ℕ) → is_short b ≡ true → length b ≤ byte_limit
short_length b h = leb-true (length b) byte_limit h

pub short_from : (b : List ℕ) → length b ≤ byte_limit → is_short b ≡ true
short_from b h = le_test (length b) byte_limit h

slice_short : (m n : ℕ) (b : List ℕ) → is_short b ≡ true → is_short (take n (drop m b)) ≡ true
slice_short m n b h =
    let l : length b ≤ byte_limit = short_length b h in
    let p : length (take n (drop m b)) ≤ length (drop m b) = take_length n (drop m b) in
    let q : length (drop m b) ≤ length b = drop_length m b in
    short_from (take n (drop m b)) (omega arith)

slice_text : (m n : ℕ) (b : List ℕ) → is_text b ≡ true → is_text (take n (drop m b)) ≡ true
slice_text m n b h =
    let hs : (is_short b ≡ true) × (list_all is_text_byte b ≡ true) = and_parts (is_short b) (list_all is_text_byte b) h in
    and_from (is_short (take n (drop m b))) (list_all is_text_byte (take n (drop m b))) (slice_short m n b hs.0)
    (all_take is_text_byte n (drop m b) (all_drop is_text_byte m b hs.1))

texts_joined : (xs : Vals) → AllHave (λ x. has_simple_form s.String x ≡ true) xs → list_all is_text_byte (joined xs) ≡ true
texts_joined no_val h = refl
texts_joined (more_vals (v.text b) xs) h = all_append is_text_byte b (joined xs)
    (and_parts (is_short b) (list_all is_text_byte b) h.0).1 (texts_joined xs h.1)
texts_joined (more_vals x xs) h = let g = h.0 in absurd cc

-- ---- steps

module _ (w : Known) where
  sized_text : (b : List ℕ) (V W : List Val) (A : List Kind) → list_all is_text_byte b ≡ true → AllFit w A W →
      ((id : Identity) → amount_on id W ≤ℤ amount_on id V) → RowStep w V (ty.string ∷ A) (within_size v.text b W)
  sized_text b V W A t h le = by_test (nat_le (length b) byte_limit) refl
    where
      by_test : (q : Bool) → nat_le (length b) byte_limit ≡ q →
          RowStep w V (ty.string ∷ A) (if q then kept (v.text b ∷ W) else fails failure.size_limit)
      by_test true e = gives w V W ty.string A (v.text b) (and_from (is_short b) (list_all is_text_byte b) e t) h (λ id. refl) le
      by_test false e = tt

  pub sized_bytes : (b : List ℕ) (V W : List Val) (A : List Kind) → AllFit w A W →
      ((id : Identity) → amount_on id W ≤ℤ amount_on id V) → RowStep w V (ty.bytes ∷ A) (within_size v.bytes b W)
  sized_bytes b V W A h le = by_test (nat_le (length b) byte_limit) refl
    where
      by_test : (q : Bool) → nat_le (length b) byte_limit ≡ q →
          RowStep w V (ty.bytes ∷ A) (if q then kept (v.bytes b ∷ W) else fails failure.size_limit)
      by_test true e = gives w V W ty.bytes A (v.bytes b) e h (λ id. refl) le
      by_test false e = tt

  text_below : (b : List ℕ) (W : List Val) (id : Identity) → amount_on id W ≤ℤ amount_on id (v.text b ∷ W)
  text_below b W id = omega (arith, ints)

  pub bytes_below : (b : List ℕ) (W : List Val) (id : Identity) → amount_on id W ≤ℤ amount_on id (v.bytes b ∷ W)
  bytes_below b W id = omega (arith, ints)

  size_gives : (b : List ℕ) (V W : List Val) (A : List Kind) → is_short b ≡ true → AllFit w A W →
      ((id : Identity) → amount_on id W ≤ℤ amount_on id V) → RowStep w V (ty.nat ∷ A) (kept (v.number (pos (length b)) ∷ W))
  size_gives b V W A h hw le = let l : length b ≤ byte_limit = short_length b h in
      gives w V W ty.nat A (v.number (pos (length b))) (nat_from (pos (length b)) (omega (arith, ints)) (omega (arith, ints)))
      hw (λ id. refl) le

  slice_gives : (a : Kind) (made : List ℕ → Val) (m n : ℕ) (b : List ℕ) (V W : List Val) (A : List Kind) →
      Fits w a (made (take n (drop m b))) → ((id : Identity) → amount_in id (made (take n (drop m b))) ≡ pos 0) → AllFit w A W →
      ((id : Identity) → amount_on id W ≤ℤ amount_on id V) → RowStep w V (k.option a ∷ A)
      (kept (optional (option_map made (slice m n b)) ∷ W))
  slice_gives a made m n b V W A f z h le = by_test (nat_lt m (length b) && nat_le (m + n) (length b))
    where
      by_test : (q : Bool) → RowStep w V (k.option a ∷ A) (kept
          (optional (option_map made (if q then Some (take n (drop m b)) else None)) ∷ W))
      by_test true = gives w V W (k.option a) A (v.some (made (take n (drop m b)))) f h z le
      by_test false = gives w V W (k.option a) A v.nothing tt h (λ id. refl) le

  -- two natural numbers
  numbers : (a : Kind) (B A : List Kind) (V : List Val) (go : List Val → Step) → AllFit w (ty.nat ∷ ty.nat ∷ B) V →
      ((m n : ℕ) (W : List Val) → AllFit w B W → RowStep w (v.number (pos m) ∷ v.number (pos n) ∷ W) (a ∷ A)
      (go (v.number (pos m) ∷ v.number (pos n) ∷ W))) → RowStep w V (a ∷ A) (go V)
  numbers a B A V go h g =
      on_two_numbers w (λ V. RowStep w V (a ∷ A) (go V)) s.Nat s.Nat B V tt tt h (λ x y W hx hy hw.
      on_natural (λ x. RowStep w (v.number x ∷ v.number y ∷ W) (a ∷ A) (go (v.number x ∷ v.number y ∷ W))) x (nat_low x hx)
      (λ m. on_natural (λ y. RowStep w (v.number (pos m) ∷ v.number y ∷ W) (a ∷ A) (go (v.number (pos m) ∷ v.number y ∷ W))) y
      (nat_low y hy) (λ n. g m n W hw)))

  pub text_keeps : (r : TextRow) (A : List Kind) (V : List Val) → AllFit w A V → StepFits w V (text_change r A) (text_step r V)
  text_keeps i.concat_strings (ty.string ∷ ty.string ∷ A) V h =
      on_text w (λ V. RowStep w V (ty.string ∷ A) (text_step i.concat_strings V)) (ty.string ∷ A) V h (λ b W hb hw.
      on_text w (λ X. RowStep w (v.text b ∷ X) (ty.string ∷ A) (text_step i.concat_strings (v.text b ∷ X))) A W hw (λ c X hc hx.
      sized_text (b ++ c) (v.text b ∷ v.text c ∷ X) X A (all_append is_text_byte b c
      (and_parts (is_short b) (list_all is_text_byte b) hb).1 (and_parts (is_short c) (list_all is_text_byte c) hc).1) hx
      (λ id. omega (arith, ints))))
  text_keeps i.concat_bytes (ty.bytes ∷ ty.bytes ∷ A) V h =
      on_bytes w (λ V. RowStep w V (ty.bytes ∷ A) (text_step i.concat_bytes V)) s.Bytes (ty.bytes ∷ A) V tt h (λ b W hb hw.
      on_bytes w (λ X. RowStep w (v.bytes b ∷ X) (ty.bytes ∷ A) (text_step i.concat_bytes (v.bytes b ∷ X))) s.Bytes A W tt hw
      (λ c X hc hx.
      sized_bytes (b ++ c) (v.bytes b ∷ v.bytes c ∷ X) X A hx (λ id. omega (arith, ints))))
  text_keeps i.concat_string_list (k.list ty.string ∷ A) (v.list xs ∷ V) h =
      sized_text (joined xs) (v.list xs ∷ V) V A (texts_joined xs h.0) h.1
      (λ id. let p : pos 0 ≤ℤ amount_in id (v.list xs) = positive id w (k.list ty.string) (v.list xs) h.0 in
      omega (arith, ints))
  text_keeps i.concat_string_list (k.list ty.string ∷ A) (x ∷ V) h = absurd h.0
  text_keeps i.concat_string_list (k.list ty.string ∷ A) [] h = absurd h
  text_keeps i.concat_bytes_list (k.list ty.bytes ∷ A) (v.list xs ∷ V) h =
      sized_bytes (joined xs) (v.list xs ∷ V) V A h.1 (λ id. let p : pos 0 ≤ℤ amount_in id (v.list xs) = positive id w
      (k.list ty.bytes) (v.list xs) h.0 in omega (arith, ints))
  text_keeps i.concat_bytes_list (k.list ty.bytes ∷ A) (x ∷ V) h = absurd h.0
  text_keeps i.concat_bytes_list (k.list ty.bytes ∷ A) [] h = absurd h
  text_keeps i.slice_string (ty.nat ∷ ty.nat ∷ ty.string ∷ A) V h =
      numbers (k.option ty.string) (ty.string ∷ A) A V (text_step i.slice_string) h (λ m n W hw.
      on_text w (λ X. RowStep w (v.number (pos m) ∷ v.number (pos n) ∷ X) (k.option ty.string ∷ A)
      (text_step i.slice_string (v.number (pos m) ∷ v.number (pos n) ∷ X))) A W hw (λ b X hb hx.
      slice_gives ty.string v.text m n b (v.number (pos m) ∷ v.number (pos n) ∷ v.text b ∷ X) X A (slice_text m n b hb)
      (λ id. refl) hx (λ id. omega (arith, ints))))
  text_keeps i.slice_bytes (ty.nat ∷ ty.nat ∷ ty.bytes ∷ A) V h =
      numbers (k.option ty.bytes) (ty.bytes ∷ A) A V (text_step i.slice_bytes) h (λ m n W hw.
      on_bytes w (λ X. RowStep w (v.number (pos m) ∷ v.number (pos n) ∷ X) (k.option ty.bytes ∷ A)
      (text_step i.slice_bytes (v.number (pos m) ∷ v.number (pos n) ∷ X))) s.Bytes A W tt hw (λ b X hb hx.
      slice_gives ty.bytes v.bytes m n b (v.number (pos m) ∷ v.number (pos n) ∷ v.bytes b ∷ X) X A (slice_short m n b hb)
      (λ id. refl) hx (λ id. omega (arith, ints))))
  text_keeps i.size_string (ty.string ∷ A) V h =
      on_text w (λ V. RowStep w V (ty.nat ∷ A) (text_step i.size_string V)) A V h
      (λ b W hb hw. size_gives b (v.text b ∷ W) W A (and_parts (is_short b) (list_all is_text_byte b) hb).0 hw
      (text_below b W))
  text_keeps i.size_bytes (ty.bytes ∷ A) V h =
      on_bytes w (λ V. RowStep w V (ty.nat ∷ A) (text_step i.size_bytes V)) s.Bytes A V tt h
      (λ b W hb hw. size_gives b (v.bytes b ∷ W) W A hb hw (bytes_below b W))
  text_keeps _ _ V h = tt
