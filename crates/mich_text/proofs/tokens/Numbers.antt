-- Numbers: decimal digits, with a minus or without.
use Rattle.std.specs.Prelude.{◌==◌, pos, negsuc, neg_ℤ}
use Rattle.std.proofs.Common.{◌≡◌, ℕ, zero, suc, ◌-◌, ◌^◌, ◌≤◌, ◌<◌, Bool, true, false, cond, ◌||◌, eqb, ltb, List, [], ◌∷◌, ◌++◌, length, take, drop, ℤ, Result, Ok, Err, refl, sym, ap, ◌∙◌, append_assoc, arith}
use Rattle.std.proofs.lemmas.List.{drop-append-le, length-drop, take_at, drop_at}
use Rattle.std.specs.List.{prefix_len}
use Rattle.std.specs.Char.{is_ascii_digit}
use Rattle.std.specs.Str.Parse.{digits_value, AllDigits}
use Rattle.std.proofs.lemmas.Bool.{eqb-false, ltb-true, ltb-false, lt-ltb, eqb-true, le-ltb, ne_eqb}
use Rattle.std.proofs.lemmas.List.Sums.{prefix_len-le-length}
use Rattle.rules_text.specs.text.Token.{Token}
use Rattle.rules_text.specs.declared.text.TextKind.TheVariants.{BadNumber}
use Rattle.rules_text.specs.text.Fault.{Flaw}
use Rattle.rules_text.specs.text.Lexical.{flaw, begins_word, bytes_at, number_at, signed, made, shape_at, token_at, after_minus, is_minus}
use Rattle.rules_text.specs.declared.text.TextKind.{TextKind}
use Rattle.mich_text.proofs.tokens.ByteRuns.{IsApart, prefix_grows, prefix_stable, run_cut, run_ends, run_stable}
use Rattle.mich_text.proofs.tokens.Digits.{digit_apart, digit_shape, digits_pass, front_of, no_bytes, not_minus, value_grows}
use Rattle.mich_text.proofs.tokens.Names.{begins_more, begins_some, no_word}
use Rattle.mich_text.proofs.tokens.Properties.{Each, Ends, EndsRead, IsAhead, IsCut, IsShown, IsStable, Of, Reads, at_first, dropped, either_ahead, either_reads, moved, or_either, or_false, or_left, or_right, read_either, short_cut}

-- ---- what is read lies further on

minus_le : (text : List ℕ) → length (after_minus text) ≤ length text
minus_le [] = omega arith
minus_le (c ∷ rest) = by (eqb c 45) where
  by : (b : Bool) → length (cond b rest (c ∷ rest)) ≤ suc (length rest)
  by true = omega arith
  by false = omega arith

pub number_ahead : (text : List ℕ) → IsAhead (length text) (number_at text)
unfolding number_at
number_ahead text =
    let digits = after_minus text in
    let n = prefix_len is_ascii_digit digits in
    let most = cond (is_minus text) (2 ^ 127) (2 ^ 127 - 1) in
    either_ahead (eqb n 0 || begins_word (drop n digits)) (length text) _ _ (λ _. (omega arith, refl))
    (λ e. either_ahead (ltb most (digits_value 10 (take n digits))) (length text) _ _ (λ _. (omega arith, refl))
    (λ _. let positive : n ≡ 0 → ⊥ = eqb-false n 0 (or_false (eqb n 0) (begins_word (drop n digits)) e) in
    omega (arith, length-drop n digits, minus_le text, prefix_len-le-length is_ascii_digit digits)))

-- ---- with more bytes behind it

two_tests_stable : {A : Type 0} (b d : Bool) (more : List ℕ) (u v w z : Flaw) (x : A) (c : ℕ) (rest : List ℕ)
    → IsStable more (cond b (Err u) (cond d (Err v) (Ok (x, c ∷ rest)))) (cond b (Err w) (cond d (Err z) (Ok (x, c ∷ (rest ++ more)))))
two_tests_stable true d more u v w z x c rest = tt
two_tests_stable false true more u v w z x c rest = tt
two_tests_stable false false more u v w z x c rest = refl

two_tests_stable_end : {A : Type 0} (b d : Bool) (more : List ℕ) (u v : Flaw) (x : A) (again : Result (A × List ℕ) Flaw)
    → IsStable more (cond b (Err u) (cond d (Err v) (Ok (x, [])))) again
two_tests_stable_end true d more u v x again = tt
two_tests_stable_end false true more u v x again = tt
two_tests_stable_end false false more u v x again = tt

digits_stable_by : (minus : Bool) (text xs more : List ℕ) → let most = cond minus (2 ^ 127) (2 ^ 127 - 1) in
    IsStable more
    (cond (eqb (prefix_len is_ascii_digit xs) 0 || begins_word (drop (prefix_len is_ascii_digit xs) xs)) (flaw BadNumber text)
    (cond (ltb most (digits_value 10 (take (prefix_len is_ascii_digit xs) xs))) (flaw BadNumber text)
    (Ok (signed minus (digits_value 10 (take (prefix_len is_ascii_digit xs) xs)), drop (prefix_len is_ascii_digit xs) xs))))
    (cond (eqb (prefix_len is_ascii_digit (xs ++ more)) 0 || begins_word (drop (prefix_len is_ascii_digit (xs ++ more)) (xs ++ more)))
    (flaw BadNumber (text ++ more))
    (cond (ltb most (digits_value 10 (take (prefix_len is_ascii_digit (xs ++ more)) (xs ++ more)))) (flaw BadNumber (text ++ more))
    (Ok (
      signed minus (digits_value 10 (take (prefix_len is_ascii_digit (xs ++ more)) (xs ++ more))),
      drop (prefix_len is_ascii_digit (xs ++ more)) (xs ++ more),
    ))))
digits_stable_by minus text xs more =
    let most = cond minus (2 ^ 127) (2 ^ 127 - 1) in
    run_stable
    (λ n front rest. cond (eqb n 0 || begins_word rest) (flaw BadNumber text)
    (cond (ltb most (digits_value 10 front)) (flaw BadNumber text) (Ok (signed minus (digits_value 10 front), rest))))
    (λ n front rest. cond (eqb n 0 || begins_word rest) (flaw BadNumber (text ++ more))
    (cond (ltb most (digits_value 10 front)) (flaw BadNumber (text ++ more)) (Ok (signed minus (digits_value 10 front), rest))))
    is_ascii_digit xs more
    (λ n front e rest. two_tests_stable (eqb n 0 || begins_word (e ∷ rest)) (ltb most (digits_value 10 front)) more _ _ _ _
    (signed minus (digits_value 10 front)) e rest)
    (λ n front again. two_tests_stable_end (eqb n 0 || begins_word []) (ltb most (digits_value 10 front)) more _ _
    (signed minus (digits_value 10 front)) again)

pub number_stable : (c : ℕ) (xs more : List ℕ) → IsStable more (number_at (c ∷ xs)) (number_at (c ∷ (xs ++ more)))
unfolding number_at
number_stable c xs more = by (eqb c 45) where
  by : (b : Bool) → let most = cond b (2 ^ 127) (2 ^ 127 - 1) in let one = cond b xs (c ∷ xs) in let two = cond b (xs ++ more)
      (c ∷ (xs ++ more)) in
      IsStable more
      (cond (eqb (prefix_len is_ascii_digit one) 0 || begins_word (drop (prefix_len is_ascii_digit one) one)) (flaw BadNumber (c ∷ xs))
      (cond (ltb most (digits_value 10 (take (prefix_len is_ascii_digit one) one))) (flaw BadNumber (c ∷ xs))
      (Ok (signed b (digits_value 10 (take (prefix_len is_ascii_digit one) one)), drop (prefix_len is_ascii_digit one) one))))
      (cond (eqb (prefix_len is_ascii_digit two) 0 || begins_word (drop (prefix_len is_ascii_digit two) two))
      (flaw BadNumber (c ∷ (xs ++ more)))
      (cond (ltb most (digits_value 10 (take (prefix_len is_ascii_digit two) two))) (flaw BadNumber (c ∷ (xs ++ more)))
      (Ok (signed b (digits_value 10 (take (prefix_len is_ascii_digit two) two)), drop (prefix_len is_ascii_digit two) two))))
  by true = digits_stable_by true (c ∷ xs) xs more
  by false = digits_stable_by false (c ∷ xs) (c ∷ xs) more

-- ---- in a front of the text

two_tests_cut : {A : Type 0} (b d : Bool) (more : List ℕ) (u v w z : Flaw) (x : A) (c : ℕ) (rest : List ℕ)
    → IsCut more (cond b (Err u) (cond d (Err v) (Ok (x, c ∷ rest)))) (cond b (Err w) (cond d (Err z) (Ok (x, c ∷ (rest ++ more)))))
two_tests_cut true d more u v w z x c rest = tt
two_tests_cut false true more u v w z x c rest = tt
two_tests_cut false false more u v w z x c rest = λ h. (c ∷ rest, refl, refl)

two_tests_cut_end : {A : Type 0} (b d : Bool) (more : List ℕ) (u v : Flaw) (x : A) (rest : List ℕ) (other : Result (A × List ℕ) Flaw)
    → length rest ≤ length more → IsCut more other (cond b (Err u) (cond d (Err v) (Ok (x, rest))))
two_tests_cut_end true d more u v x rest other h = tt
two_tests_cut_end false true more u v x rest other h = tt
two_tests_cut_end false false more u v x rest other h = short_cut more other (x, rest) h

digits_cut_by : (minus : Bool) (text xs more : List ℕ) → let most = cond minus (2 ^ 127) (2 ^ 127 - 1) in
    IsCut more
    (cond (eqb (prefix_len is_ascii_digit xs) 0 || begins_word (drop (prefix_len is_ascii_digit xs) xs)) (flaw BadNumber text)
    (cond (ltb most (digits_value 10 (take (prefix_len is_ascii_digit xs) xs))) (flaw BadNumber text)
    (Ok (signed minus (digits_value 10 (take (prefix_len is_ascii_digit xs) xs)), drop (prefix_len is_ascii_digit xs) xs))))
    (cond (eqb (prefix_len is_ascii_digit (xs ++ more)) 0 || begins_word (drop (prefix_len is_ascii_digit (xs ++ more)) (xs ++ more)))
    (flaw BadNumber (text ++ more))
    (cond (ltb most (digits_value 10 (take (prefix_len is_ascii_digit (xs ++ more)) (xs ++ more)))) (flaw BadNumber (text ++ more))
    (Ok (
      signed minus (digits_value 10 (take (prefix_len is_ascii_digit (xs ++ more)) (xs ++ more))),
      drop (prefix_len is_ascii_digit (xs ++ more)) (xs ++ more),
    ))))
digits_cut_by minus text xs more =
    let most = cond minus (2 ^ 127) (2 ^ 127 - 1) in
    run_cut
    (λ n front rest. cond (eqb n 0 || begins_word rest) (flaw BadNumber text)
    (cond (ltb most (digits_value 10 front)) (flaw BadNumber text) (Ok (signed minus (digits_value 10 front), rest))))
    (λ n front rest. cond (eqb n 0 || begins_word rest) (flaw BadNumber (text ++ more))
    (cond (ltb most (digits_value 10 front)) (flaw BadNumber (text ++ more)) (Ok (signed minus (digits_value 10 front), rest))))
    is_ascii_digit xs more
    (λ n front e rest. two_tests_cut (eqb n 0 || begins_word (e ∷ rest)) (ltb most (digits_value 10 front)) more _ _ _ _
    (signed minus (digits_value 10 front)) e rest)
    (λ n front rest other h. two_tests_cut_end (eqb n 0 || begins_word rest) (ltb most (digits_value 10 front)) more _ _
    (signed minus (digits_value 10 front)) rest other h)

pub number_cut : (c : ℕ) (xs more : List ℕ) → IsCut more (number_at (c ∷ xs)) (number_at (c ∷ (xs ++ more)))
unfolding number_at
number_cut c xs more = by (eqb c 45) where
  by : (b : Bool) → let most = cond b (2 ^ 127) (2 ^ 127 - 1) in let one = cond b xs (c ∷ xs) in let two = cond b (xs ++ more)
      (c ∷ (xs ++ more)) in
      IsCut more
      (cond (eqb (prefix_len is_ascii_digit one) 0 || begins_word (drop (prefix_len is_ascii_digit one) one)) (flaw BadNumber (c ∷ xs))
      (cond (ltb most (digits_value 10 (take (prefix_len is_ascii_digit one) one))) (flaw BadNumber (c ∷ xs))
      (Ok (signed b (digits_value 10 (take (prefix_len is_ascii_digit one) one)), drop (prefix_len is_ascii_digit one) one))))
      (cond (eqb (prefix_len is_ascii_digit two) 0 || begins_word (drop (prefix_len is_ascii_digit two) two))
      (flaw BadNumber (c ∷ (xs ++ more)))
      (cond (ltb most (digits_value 10 (take (prefix_len is_ascii_digit two) two))) (flaw BadNumber (c ∷ (xs ++ more)))
      (Ok (signed b (digits_value 10 (take (prefix_len is_ascii_digit two) two)), drop (prefix_len is_ascii_digit two) two))))
  by true = digits_cut_by true (c ∷ xs) xs more
  by false = digits_cut_by false (c ∷ xs) (c ∷ xs) more

-- ---- a flaw that some bytes show

abbrev number_of : Bool → List ℕ → ℕ → List ℕ → List ℕ → Result (ℤ × List ℕ) Flaw
number_of minus text n front rest =
    cond (eqb n 0 || begins_word rest) (flaw BadNumber text) (cond (ltb (cond minus (2 ^ 127) (2 ^ 127 - 1)) (digits_value 10 front))
    (flaw BadNumber text) (Ok (signed minus (digits_value 10 front), rest)))

-- a number is read, or wrong at its first byte
wrong_number : (b d : Bool) (text more : List ℕ) (y : ℤ × List ℕ) → (b || d) ≡ true → cond b (flaw BadNumber (text ++ more))
    (cond d (flaw BadNumber (text ++ more)) (Ok y)) ≡ Err (moved (length more) (record { kind = BadNumber; left = length text }))
wrong_number true d text more y h = at_first BadNumber text more
wrong_number false true text more y h = at_first BadNumber text more
wrong_number false false text more y h = cc

number_kept : (b d e f : Bool) (text more : List ℕ) (x y : ℤ × List ℕ) → (b ≡ true → (e || f) ≡ true) → (d ≡ true → (e || f) ≡ true)
    → IsShown text more (cond b (flaw BadNumber text) (cond d (flaw BadNumber text) (Ok x)))
    (cond e (flaw BadNumber (text ++ more)) (cond f (flaw BadNumber (text ++ more)) (Ok y)))
number_kept true d e f text more x y p q = λ _. wrong_number e f text more y (p refl)
number_kept false true e f text more x y p q = λ _. wrong_number e f text more y (q refl)
number_kept false false e f text more x y p q = tt

-- digits that end before the end of these bytes, or not
number_run : (minus : Bool) (text ds more : List ℕ) → 0 < length ds
    → IsShown text more (number_of minus text (prefix_len is_ascii_digit ds) (take (prefix_len is_ascii_digit ds) ds)
    (drop (prefix_len is_ascii_digit ds) ds))
    (number_of minus (text ++ more) (prefix_len is_ascii_digit (ds ++ more)) (take (prefix_len is_ascii_digit (ds ++ more)) (ds ++ more))
    (drop (prefix_len is_ascii_digit (ds ++ more)) (ds ++ more)))
number_run minus text ds more some =
    number_kept (eqb n 0 || begins_word (drop n ds)) (ltb most (digits_value 10 (take n ds))) (eqb m 0 || begins_word (drop m (ds ++ more)))
    (ltb most (digits_value 10 (take m (ds ++ more)))) text more _ _
    (or_either (eqb n 0) (begins_word (drop n ds)) none word) large
  where
    n : ℕ
    n = prefix_len is_ascii_digit ds

    m : ℕ
    m = prefix_len is_ascii_digit (ds ++ more)

    most : ℕ
    most = cond minus (2 ^ 127) (2 ^ 127 - 1)

    Wrong : Type 0
    Wrong = ((eqb m 0 || begins_word (drop m (ds ++ more))) || ltb most (digits_value 10 (take m (ds ++ more)))) ≡ true

    none : eqb n 0 ≡ true → Wrong
    none e =
        let zero_n : n ≡ 0 = eqb-true n 0 e in
        let same : m ≡ n = prefix_stable is_ascii_digit ds more (omega (arith, zero_n, some)) in
        or_left (eqb m 0 || begins_word (drop m (ds ++ more))) (ltb most (digits_value 10 (take m (ds ++ more))))
        (or_left (eqb m 0) (begins_word (drop m (ds ++ more))) (ap (λ (k : ℕ). eqb k 0) same ∙ e))

    word : begins_word (drop n ds) ≡ true → Wrong
    word e =
        let lt : n < length ds = omega (arith, length-drop n ds, begins_some (drop n ds) e) in
        let same : m ≡ n = prefix_stable is_ascii_digit ds more lt in
        let back : drop m (ds ++ more) ≡ drop n ds ++ more = ap (λ (k : ℕ). drop k (ds ++ more)) same
        ∙ drop-append-le n ds more (omega (arith, lt)) in
        or_left (eqb m 0 || begins_word (drop m (ds ++ more))) (ltb most (digits_value 10 (take m (ds ++ more))))
        (or_right (eqb m 0) (begins_word (drop m (ds ++ more)))
        (ap begins_word back ∙ begins_more (drop n ds) more (begins_some (drop n ds) e) ∙ e))

    large : ltb most (digits_value 10 (take n ds)) ≡ true → Wrong
    large e =
        let es = front_of n m ds more (prefix_grows is_ascii_digit ds more) (prefix_len-le-length is_ascii_digit ds) in
        let value : digits_value 10 (take m (ds ++ more)) ≡ digits_value 10 (take n ds ++ es.0) = ap (digits_value 10) es.1 in
        or_right (eqb m 0 || begins_word (drop m (ds ++ more))) (ltb most (digits_value 10 (take m (ds ++ more))))
        (lt-ltb most (digits_value 10 (take m (ds ++ more)))
        (omega (arith, value, value_grows (take n ds) es.0, ltb-true most (digits_value 10 (take n ds)) e)))

pub number_shown : (c d : ℕ) (xs more : List ℕ) → IsShown (c ∷ d ∷ xs) more (number_at (c ∷ d ∷ xs)) (number_at (c ∷ d ∷ (xs ++ more)))
unfolding number_at
number_shown c d xs more = by (eqb c 45) where
  by : (b : Bool) → let one = cond b (d ∷ xs) (c ∷ d ∷ xs) in let two = cond b (d ∷ (xs ++ more)) (c ∷ d ∷ (xs ++ more)) in
      IsShown (c ∷ d ∷ xs) more (number_of b (c ∷ d ∷ xs) (prefix_len is_ascii_digit one) (take (prefix_len is_ascii_digit one) one)
      (drop (prefix_len is_ascii_digit one) one))
      (number_of b (c ∷ d ∷ (xs ++ more)) (prefix_len is_ascii_digit two) (take (prefix_len is_ascii_digit two) two)
      (drop (prefix_len is_ascii_digit two) two))
  by true = number_run true (c ∷ d ∷ xs) (d ∷ xs) more (omega arith)
  by false = number_run false (c ∷ d ∷ xs) (c ∷ d ∷ xs) more (omega arith)

-- ---- what is left is the end of the text

minus_ends : (text : List ℕ) → Ends text (after_minus text)
minus_ends [] = ([], refl)
minus_ends (c ∷ rest) = by (eqb c 45) where
  by : (b : Bool) → Ends (c ∷ rest) (cond b rest (c ∷ rest))
  by true = (c ∷ [], refl)
  by false = ([], refl)

pub number_ends : (text : List ℕ) → EndsRead text (number_at text)
unfolding number_at
number_ends text =
    let digits = after_minus text in
    let n = prefix_len is_ascii_digit digits in
    let value = digits_value 10 (take n digits) in
    let p = minus_ends text in
    let q = dropped n digits in
    read_either (eqb n 0 || begins_word (drop n digits)) text (flaw BadNumber text) _ tt
    (read_either (ltb (cond (is_minus text) (2 ^ 127) (2 ^ 127 - 1)) value) text (flaw BadNumber text)
    (Ok (signed (is_minus text) value, drop n digits)) tt
    (p.0 ++ q.0, p.1 ∙ ap (λ (l : List ℕ). p.0 ++ l) q.1 ∙ sym (append_assoc p.0 q.0 (drop n digits))))

-- ---- each flaw

twice : {A : Type 0} (P : Flaw → Type 0) (t u : Bool) (k j : TextKind) (text : List ℕ) (x : A × List ℕ) → Of P k → Of P j
    → Each P (cond t (flaw k text) (cond u (flaw j text) (Ok x)))
twice P true u k j text x p q = p (length text)
twice P false true k j text x p q = q (length text)
twice P false false k j text x p q = tt

pub number_each : (P : Flaw → Type 0) → Of P BadNumber → (text : List ℕ) → Each P (number_at text)
unfolding number_at
number_each P bad text =
    let n = prefix_len is_ascii_digit (after_minus text) in
    let value = digits_value 10 (take n (after_minus text)) in
    twice P (eqb n 0 || begins_word (drop n (after_minus text)))
    (ltb (cond (is_minus text) (2 ^ 127) (2 ^ 127 - 1)) value) BadNumber BadNumber text
    (signed (is_minus text) value, drop n (after_minus text)) bad bad

-- ---- what is printed is read again

pub positive_again : (n : ℕ) (ds rest : List ℕ) → n < 2 ^ 127 → 0 < length ds → AllDigits 10 ds → digits_value 10 ds ≡ n → IsApart rest
    → number_at (ds ++ rest) ≡ Ok (pos n, rest)
unfolding number_at
positive_again n [] rest small some all value a = absurd (omega arith)
positive_again n (c ∷ ds) rest small some all value a =
    let pass = digits_pass (c ∷ ds) all in
    let minus : (c == 45) ≡ false = not_minus c pass.0 in
    let run : prefix_len is_ascii_digit (c ∷ (ds ++ rest)) ≡ length (c ∷ ds) = run_ends is_ascii_digit (c ∷ ds) rest pass digit_apart a in
    let fits : ltb (2 ^ 127 - 1) n ≡ false = le-ltb _ _ (omega arith) in
    let none : eqb (length (c ∷ ds)) 0 ≡ false = ne_eqb (length (c ∷ ds)) 0 (λ e. omega (arith, e)) in
    by (c == 45) minus none run fits where
      by : (b : Bool) → b ≡ false → eqb (length (c ∷ ds)) 0 ≡ false → prefix_len is_ascii_digit (c ∷ (ds ++ rest)) ≡ length (c ∷ ds)
          → ltb (2 ^ 127 - 1) n ≡ false → let digits = cond b (ds ++ rest) (c ∷ (ds ++ rest)) in let m = prefix_len is_ascii_digit digits in
          cond (eqb m 0 || begins_word (drop m digits)) (flaw {A = ℤ × List ℕ} BadNumber (c ∷ (ds ++ rest)))
          (cond (ltb (cond b (2 ^ 127) (2 ^ 127 - 1)) (digits_value 10 (take m digits)))
          (flaw {A = ℤ × List ℕ} BadNumber (c ∷ (ds ++ rest)))
          (Ok (signed b (digits_value 10 (take m digits)), drop m digits))) ≡ Ok (pos n, rest)
      by true e none run fits = absurd cc
      by false e none run fits =
          rw (run, take_at ds rest (length ds) refl, drop_at ds rest (length ds) refl, none, no_word rest a, value, fits) refl

-- a number behind a minus
pub negative_again : (n : ℕ) (ds rest : List ℕ) → n ≤ 2 ^ 127 → 0 < length ds → AllDigits 10 ds → digits_value 10 ds ≡ n → IsApart rest
    → number_at (45 ∷ (ds ++ rest)) ≡ Ok (neg_ℤ (pos n), rest)
unfolding number_at
negative_again n ds rest small some all value a =
    let run : prefix_len is_ascii_digit (ds ++ rest) ≡ length ds = run_ends is_ascii_digit ds rest (digits_pass ds all) digit_apart a in
    let fits : ltb (2 ^ 127) n ≡ false = le-ltb _ _ (omega (arith, small)) in
    let none : eqb (length ds) 0 ≡ false = ne_eqb (length ds) 0 (λ e. omega (arith, e, some)) in
    rw (run, take_at ds rest (length ds) refl, drop_at ds rest (length ds) refl, none, no_word rest a, value, fits) refl

-- a number without a minus, as a token
pub digits_token : (n : ℕ) (ds rest : List ℕ) → n < 2 ^ 127 → 0 < length ds → AllDigits 10 ds → digits_value 10 ds ≡ n → IsApart rest
    → token_at (ds ++ rest) ≡ Ok (Token.number (pos n), rest)
unfolding token_at
digits_token n [] rest small some all value a = absurd (omega (arith, some))
digits_token n (c ∷ ds) rest small some all value a =
    let pass = digits_pass (c ∷ ds) all in
    ap (λ o. shape_at o (c ∷ (ds ++ rest))) (digit_shape c pass.0)
    ∙ ap (λ (b : Bool). cond {A = Result (Token × List ℕ) Flaw} b (made Token.bytes (bytes_at (c ∷ (ds ++ rest))))
    (made Token.number (number_at (c ∷ (ds ++ rest))))) (no_bytes (c ∷ ds) rest pass a)
    ∙ ap (made Token.number) (positive_again n (c ∷ ds) rest small some all value a)

-- and with one
pub minus_token : (n : ℕ) (ds rest : List ℕ) → n ≤ 2 ^ 127 → 0 < length ds → AllDigits 10 ds → digits_value 10 ds ≡ n → IsApart rest
    → token_at (45 ∷ (ds ++ rest)) ≡ Ok (Token.number (neg_ℤ (pos n)), rest)
unfolding token_at
minus_token n [] rest small some all value a = absurd (omega (arith, some))
minus_token n (c ∷ ds) rest small some all value a = ap (made Token.number) (negative_again n (c ∷ ds) rest small some all value a)

-- ---- what was read

-- from -2^127 to 2^127 - 1
abbrev pub IsInt : ℤ → Type 0
IsInt (pos n) = n < 2 ^ 127
IsInt (negsuc n) = n < 2 ^ 127

signed_int : (minus : Bool) (n : ℕ) → n ≤ cond minus (2 ^ 127) (2 ^ 127 - 1) → IsInt (signed minus n)
signed_int true zero h = omega arith
signed_int true (suc n) h = omega (arith, h)
signed_int false n h = omega (arith, h)

pub number_reads : (text : List ℕ) → Reads IsInt (number_at text)
unfolding number_at
number_reads text =
    let digits = after_minus text in
    let n = prefix_len is_ascii_digit digits in
    let value = digits_value 10 (take n digits) in
    let most = cond (is_minus text) (2 ^ 127) (2 ^ 127 - 1) in
    either_reads IsInt (eqb n 0 || begins_word (drop n digits)) (flaw BadNumber text) _ (λ _. tt)
    (λ _. either_reads IsInt (ltb most value) (flaw BadNumber text) (Ok (signed (is_minus text) value, drop n digits)) (λ _. tt)
    (λ h. signed_int (is_minus text) value (ltb-false most value h)))
