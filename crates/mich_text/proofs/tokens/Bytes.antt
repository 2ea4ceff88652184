-- Bytes: `0x`, and pairs of digits.
use Rattle.std.specs.Prelude.{◌==◌}
use Rattle.std.proofs.Common.{◌≡◌, ℕ, zero, suc, ◌/◌, ◌≤◌, ◌<◌, Bool, true, false, cond, ◌||◌, ltb, List, [], ◌∷◌, ◌++◌, length, take, drop, slice_index, Result, Ok, Err, refl, sym, ap, ◌∙◌, append_assoc, arith}
use Rattle.std.proofs.lemmas.List.{take-append-le, drop-append-le, length-drop, length-take, take_at, drop_at}
use Rattle.std.specs.List.{prefix_len, AllPass}
use Rattle.std.specs.Char.{is_ascii_hexdigit}
use Rattle.std.proofs.lemmas.Bool.{ltb-true, ltb-false, lt-ltb, le-ltb}
use Rattle.std.proofs.lemmas.Bool.Decides.{nat_tests}
use Rattle.std.proofs.lemmas.List.Elements.{All-head, All-tail}
use Rattle.hex.specs.Hex.{decode_of, encode_lower, is_hex_digit, lower_digits}
use Rattle.hex.specs.declared.error.FromHexError.{FromHexError}
use Rattle.hex.proofs.HexLemmas.{decode_of-ok, decode_of-encode_lower, length-encode_with}
use Rattle.rules_text.specs.nodes.Limits.{byte_limit}
use Rattle.rules_text.specs.text.Token.{Token}
use Rattle.rules_text.specs.declared.text.TextKind.TheVariants.{BadBytes, TooLong}
use Rattle.rules_text.specs.text.Fault.{Flaw}
use Rattle.rules_text.specs.text.Lexical.{flaw, is_word, begins_word, bytes_at, decoded, made, token_at}
use Rattle.mich_text.proofs.tokens.ByteRuns.{IsAll, IsApart, prefix_grows, prefix_stable, run_cut, run_ends, run_stable}
use Rattle.mich_text.proofs.tokens.Names.{no_word}
use Rattle.mich_text.proofs.tokens.Properties.{Each, Ends, EndsRead, IsAhead, IsCut, IsShown, IsStable, Of, Reads, at_first, dropped, each_either, either_ahead, either_reads, read_either, short_cut}

-- ---- what is read lies further on

decoded_ahead : (n : ℕ) (text rest : List ℕ) (r : Result (List ℕ) FromHexError) → length text ≤ n → length rest < n
    → IsAhead n (decoded text rest r)
decoded_ahead n text rest (Ok b) g h = h
decoded_ahead n text rest (Err e) g h = (g, refl)

pub bytes_ahead : (c d : ℕ) (rest : List ℕ) → IsAhead (suc (suc (length rest))) (bytes_at (c ∷ d ∷ rest))
unfolding bytes_at
bytes_ahead c d rest =
    let n = prefix_len is_ascii_hexdigit rest in
    either_ahead (ltb byte_limit (n / 2)) (suc (suc (length rest))) _ _ (λ _. (omega arith, refl))
    (λ _. either_ahead (begins_word (drop n rest)) (suc (suc (length rest))) _ _ (λ _. (omega arith, refl))
    (λ _. decoded_ahead (suc (suc (length rest))) (c ∷ d ∷ rest) (drop n rest) (decode_of (take n rest)) (omega arith)
    (omega (arith, length-drop n rest))))

-- ---- with more bytes behind it

decoded_stable : (b d : Bool) (more text there : List ℕ) (u v w z : Flaw) (c : ℕ) (rest : List ℕ) (r : Result (List ℕ) FromHexError)
    → IsStable more (cond b (Err u) (cond d (Err v) (decoded text (c ∷ rest) r)))
    (cond b (Err w) (cond d (Err z) (decoded there (c ∷ (rest ++ more)) r)))
decoded_stable true d more text there u v w z c rest r = tt
decoded_stable false true more text there u v w z c rest r = tt
decoded_stable false false more text there u v w z c rest (Ok b) = refl
decoded_stable false false more text there u v w z c rest (Err e) = tt

decoded_stable_end : (b : Bool) (more text : List ℕ) (d : Flaw) (r : Result (List ℕ) FromHexError) (again : Result (List ℕ × List ℕ) Flaw)
    → IsStable more (cond b (Err d) (decoded text [] r)) again
decoded_stable_end true more text d r again = tt
decoded_stable_end false more text d (Ok b) again = tt
decoded_stable_end false more text d (Err e) again = tt

pub bytes_stable : (c d : ℕ) (xs more : List ℕ) → IsStable more (bytes_at (c ∷ d ∷ xs)) (bytes_at (c ∷ d ∷ (xs ++ more)))
unfolding bytes_at
bytes_stable c d xs more = run_stable
    (λ n front rest. cond (ltb byte_limit (n / 2)) (flaw TooLong (c ∷ d ∷ xs))
    (cond (begins_word rest) (flaw BadBytes (c ∷ d ∷ xs)) (decoded (c ∷ d ∷ xs) rest (decode_of front))))
    (λ n front rest. cond (ltb byte_limit (n / 2)) (flaw TooLong (c ∷ d ∷ (xs ++ more)))
    (cond (begins_word rest) (flaw BadBytes (c ∷ d ∷ (xs ++ more))) (decoded (c ∷ d ∷ (xs ++ more)) rest (decode_of front))))
    is_ascii_hexdigit xs more
    (λ n front e rest. decoded_stable (ltb byte_limit (n / 2)) (begins_word (e ∷ rest)) more (c ∷ d ∷ xs)
    (c ∷ d ∷ (xs ++ more)) _ _ _ _ e rest (decode_of front))
    (λ n front again. decoded_stable_end (ltb byte_limit (n / 2)) more (c ∷ d ∷ xs) _ (decode_of front) again)

-- ---- in a front of the text

decoded_cut : (b d : Bool) (more text there : List ℕ) (u v w z : Flaw) (c : ℕ) (rest : List ℕ) (r : Result (List ℕ) FromHexError)
    → IsCut more (cond b (Err u) (cond d (Err v) (decoded text (c ∷ rest) r)))
    (cond b (Err w) (cond d (Err z) (decoded there (c ∷ (rest ++ more)) r)))
decoded_cut true d more text there u v w z c rest r = tt
decoded_cut false true more text there u v w z c rest r = tt
decoded_cut false false more text there u v w z c rest (Ok b) = λ h. (c ∷ rest, refl, refl)
decoded_cut false false more text there u v w z c rest (Err e) = tt

decoded_cut_end : (b d : Bool) (more text : List ℕ) (u v : Flaw) (rest : List ℕ) (r : Result (List ℕ) FromHexError)
    (other : Result (List ℕ × List ℕ) Flaw) → length rest ≤ length more
    → IsCut more other (cond b (Err u) (cond d (Err v) (decoded text rest r)))
decoded_cut_end true d more text u v rest r other h = tt
decoded_cut_end false true more text u v rest r other h = tt
decoded_cut_end false false more text u v rest (Ok b) other h = short_cut more other (b, rest) h
decoded_cut_end false false more text u v rest (Err e) other h = tt

pub bytes_cut : (c d : ℕ) (xs more : List ℕ) → IsCut more (bytes_at (c ∷ d ∷ xs)) (bytes_at (c ∷ d ∷ (xs ++ more)))
unfolding bytes_at
bytes_cut c d xs more = run_cut
    (λ n front rest. cond (ltb byte_limit (n / 2)) (flaw TooLong (c ∷ d ∷ xs))
    (cond (begins_word rest) (flaw BadBytes (c ∷ d ∷ xs)) (decoded (c ∷ d ∷ xs) rest (decode_of front))))
    (λ n front rest. cond (ltb byte_limit (n / 2)) (flaw TooLong (c ∷ d ∷ (xs ++ more)))
    (cond (begins_word rest) (flaw BadBytes (c ∷ d ∷ (xs ++ more))) (decoded (c ∷ d ∷ (xs ++ more)) rest (decode_of front))))
    is_ascii_hexdigit xs more
    (λ n front e rest. decoded_cut (ltb byte_limit (n / 2)) (begins_word (e ∷ rest)) more (c ∷ d ∷ xs) (c ∷ d ∷ (xs ++ more)) _ _ _ _ e rest
    (decode_of front))
    (λ n front rest other h. decoded_cut_end (ltb byte_limit (n / 2)) (begins_word rest) more (c ∷ d ∷ (xs ++ more)) _ _ rest
    (decode_of front) other h)

-- ---- a flaw that some bytes show

half_grows : (n m : ℕ) → n ≤ m → byte_limit < n / 2 → byte_limit < m / 2
half_grows n m h g = omega (arith, h, g)

abbrev bytes_of : List ℕ → ℕ → List ℕ → List ℕ → Result (List ℕ × List ℕ) Flaw
bytes_of text n front rest =
    cond (ltb byte_limit (n / 2)) (flaw TooLong text) (cond (begins_word rest) (flaw BadBytes text) (decoded text rest (decode_of front)))

-- the same run, with a byte behind it
bytes_same : (b d : Bool) (text more rest there : List ℕ) (r : Result (List ℕ) FromHexError)
    → IsShown text more (cond b (flaw TooLong text) (cond d (flaw BadBytes text) (decoded text rest r)))
    (cond b (flaw TooLong (text ++ more)) (cond d (flaw BadBytes (text ++ more)) (decoded (text ++ more) there r)))
bytes_same true d text more rest there r = λ _. at_first TooLong text more
bytes_same false true text more rest there r = λ _. at_first BadBytes text more
bytes_same false false text more rest there (Ok b) = tt
bytes_same false false text more rest there (Err e) = λ _. at_first BadBytes text more

bytes_inside : (c d : ℕ) (xs more : List ℕ) (n : ℕ) → n < length xs → (l : List ℕ) → drop n xs ≡ l → (m : ℕ) → m ≡ n
    → IsShown (c ∷ d ∷ xs) more (bytes_of (c ∷ d ∷ xs) n (take n xs) (drop n xs))
    (bytes_of (c ∷ d ∷ (xs ++ more)) m (take m (xs ++ more)) (drop m (xs ++ more)))
bytes_inside c d xs more n lt [] e m same = absurd (omega (arith, length-drop n xs, ap (λ (l : List ℕ). length l) e, lt))
bytes_inside c d xs more n lt (x ∷ rest) e m same =
    let front : take n (xs ++ more) ≡ take n xs = take-append-le n xs more (omega (arith, lt)) in
    let back : drop n (xs ++ more) ≡ x ∷ (rest ++ more) = drop-append-le n xs more (omega (arith, lt)) ∙ ap (λ l. l ++ more) e in
    rw (same, front, back, e) (bytes_same (ltb byte_limit (n / 2)) (is_word x) (c ∷ d ∷ xs) more (x ∷ rest) (x ∷ (rest ++ more))
    (decode_of (take n xs)))

-- a run that reaches the end shows only that it is too long
bytes_end : (t u : Bool) (c d : ℕ) (xs more : List ℕ) (n m : ℕ) (behind : List ℕ) (r : Result (List ℕ) FromHexError) (front rest : List ℕ)
    → n ≡ prefix_len is_ascii_hexdigit xs → ltb byte_limit (n / 2) ≡ t → n ≤ m → length xs ≤ n
    → IsShown (c ∷ d ∷ xs) more (cond t (flaw TooLong (c ∷ d ∷ xs)) (cond u (flaw BadBytes (c ∷ d ∷ xs)) (decoded (c ∷ d ∷ xs) behind r)))
    (bytes_of (c ∷ d ∷ (xs ++ more)) m front rest)
bytes_end true u c d xs more n m behind r front rest same h g reached =
    λ _. ap (λ (t : Bool). cond {A = Result (List ℕ × List ℕ) Flaw} t (flaw TooLong (c ∷ d ∷ (xs ++ more)))
    (cond (begins_word rest) (flaw BadBytes (c ∷ d ∷ (xs ++ more))) (decoded (c ∷ d ∷ (xs ++ more)) rest (decode_of front))))
    (lt-ltb byte_limit (m / 2) (half_grows n m g (ltb-true byte_limit (n / 2) h)))
    ∙ at_first TooLong (c ∷ d ∷ xs) more
bytes_end false true c d xs more n m behind r front rest same h g reached = λ inside. absurd (omega (arith, inside, same, reached))
bytes_end false false c d xs more n m behind (Ok b) front rest same h g reached = tt
bytes_end false false c d xs more n m behind (Err e) front rest same h g reached = λ inside. absurd (omega (arith, inside, same, reached))

pub bytes_shown : (c d : ℕ) (xs more : List ℕ) → IsShown (c ∷ d ∷ xs) more (bytes_at (c ∷ d ∷ xs)) (bytes_at (c ∷ d ∷ (xs ++ more)))
unfolding bytes_at
bytes_shown c d xs more = by (ltb n (length xs)) refl where
  n : ℕ
  n = prefix_len is_ascii_hexdigit xs

  m : ℕ
  m = prefix_len is_ascii_hexdigit (xs ++ more)

  by : (b : Bool) → ltb n (length xs) ≡ b → IsShown (c ∷ d ∷ xs) more (bytes_of (c ∷ d ∷ xs) n (take n xs) (drop n xs))
      (bytes_of (c ∷ d ∷ (xs ++ more)) m (take m (xs ++ more)) (drop m (xs ++ more)))
  by true e =
      bytes_inside c d xs more n (ltb-true n (length xs) e) (drop n xs) refl m
      (prefix_stable is_ascii_hexdigit xs more (ltb-true n (length xs) e))
  by false e =
      bytes_end (ltb byte_limit (n / 2)) (begins_word (drop n xs)) c d xs more n m (drop n xs) (decode_of (take n xs)) (take m (xs ++ more))
      (drop m (xs ++ more)) refl refl (prefix_grows is_ascii_hexdigit xs more) (ltb-false n (length xs) e)

-- ---- what is left is the end of the text

decoded_ends : (text rest : List ℕ) (r : Result (List ℕ) FromHexError) → Ends text rest → EndsRead text (decoded text rest r)
decoded_ends text rest (Ok b) p = p
decoded_ends text rest (Err e) p = tt

pub bytes_ends : (text : List ℕ) → EndsRead text (bytes_at text)
unfolding bytes_at
bytes_ends text =
    let n = prefix_len is_ascii_hexdigit (drop 2 text) in
    let rest = drop n (drop 2 text) in
    read_either (ltb byte_limit (n / 2)) text (flaw TooLong text) _ tt
    (read_either (begins_word rest) text (flaw BadBytes text) _ tt
    (decoded_ends text rest (decode_of (take n (drop 2 text))) (both_dropped n text)))
  where
    both_dropped : (n : ℕ) (text : List ℕ) → Ends text (drop n (drop 2 text))
    both_dropped n text =
        let p = dropped 2 text in let q = dropped n (drop 2 text) in
        (p.0 ++ q.0, p.1 ∙ ap (λ (l : List ℕ). p.0 ++ l) q.1 ∙ sym (append_assoc p.0 q.0 (drop n (drop 2 text))))

-- ---- each flaw

decoded_each : (P : Flaw → Type 0) → Of P BadBytes → (text rest : List ℕ) (r : Result (List ℕ) FromHexError) → Each P (decoded text rest r)
decoded_each P bad text rest (Ok b) = tt
decoded_each P bad text rest (Err e) = bad (length text)

pub bytes_each : (P : Flaw → Type 0) → Of P TooLong → Of P BadBytes → (text : List ℕ) → Each P (bytes_at text)
unfolding bytes_at
bytes_each P long bad text =
    let n = prefix_len is_ascii_hexdigit (drop 2 text) in
    let rest = drop n (drop 2 text) in
    each_either P (ltb byte_limit (n / 2)) (flaw TooLong text) _ (long (length text))
    (each_either P (begins_word rest) (flaw BadBytes text) _ (bad (length text))
    (decoded_each P bad text rest (decode_of (take n (drop 2 text)))))

-- ---- what is printed is read again

hex_apart : (c : ℕ) → (c == 32 || c == 41) ≡ true → is_ascii_hexdigit c ≡ false
hex_apart c h = grind (arith, nat_tests, h)

hex_is : (c : ℕ) → is_hex_digit c ≡ true → is_ascii_hexdigit c ≡ true
hex_is c h = grind (arith, nat_tests, h)

abbrev pub IsHexDigit : ℕ → Type 0
IsHexDigit c = is_hex_digit c ≡ true

all_hex : (xs : List ℕ) → AllPass is_hex_digit xs → IsAll is_ascii_hexdigit xs
all_hex [] h = tt
all_hex (c ∷ xs) h = (hex_is c (All-head IsHexDigit c xs h), all_hex xs (All-tail IsHexDigit c xs h))

each_byte : (b : List ℕ) → IsAll (λ c. ltb c 256) b → (i : ℕ) → slice_index b i < 256
each_byte [] h i = omega arith
each_byte (c ∷ b) h zero = ltb-true c 256 h.0
each_byte (c ∷ b) h (suc i) = each_byte b h.1 i

decoded_again : (b : List ℕ) → IsAll (λ c. ltb c 256) b → decode_of (encode_lower b) ≡ Ok b
decoded_again b h = decode_of-encode_lower b (each_byte b h)

pub hexes : (b : List ℕ) → IsAll (λ c. ltb c 256) b → IsAll is_ascii_hexdigit (encode_lower b)
hexes b h = all_hex (encode_lower b) (decode_of-ok (encode_lower b) b (decoded_again b h)).1

pub bytes_again : (b rest : List ℕ) → IsAll (λ c. ltb c 256) b → length b ≤ byte_limit → IsApart rest
    → bytes_at (48 ∷ 120 ∷ (encode_lower b ++ rest)) ≡ Ok (b, rest)
unfolding bytes_at
bytes_again b rest h short a =
    let digits = encode_lower b in
    let n = length digits in
    let run : prefix_len is_ascii_hexdigit (digits ++ rest) ≡ n = run_ends is_ascii_hexdigit digits rest (hexes b h) hex_apart a in
    let fits : ltb byte_limit (n / 2) ≡ false = le-ltb _ _ (omega (arith, short, length-encode_with lower_digits b)) in
    rw (run, take_at digits rest n refl, drop_at digits rest n refl, fits, no_word rest a)
    (ap (decoded (48 ∷ 120 ∷ (digits ++ rest)) rest) (decoded_again b h))

pub bytes_token : (b rest : List ℕ) → IsAll (λ c. ltb c 256) b → length b ≤ byte_limit → IsApart rest
    → token_at (48 ∷ 120 ∷ (encode_lower b ++ rest)) ≡ Ok (Token.bytes b, rest)
unfolding token_at
bytes_token b rest h short a = ap (made Token.bytes) (bytes_again b rest h short a)

-- ---- what was read

abbrev pub IsBytes : List ℕ → Type 0
IsBytes b = IsAll (λ c. ltb c 256) b × (length b ≤ byte_limit)

all_bytes : (b : List ℕ) → ((i : ℕ) → slice_index b i < 256) → IsAll (λ c. ltb c 256) b
all_bytes [] h = tt
all_bytes (c ∷ b) h = (lt-ltb c 256 (h 0), all_bytes b (λ i. h (suc i)))

decoded_reads : (text rest digits : List ℕ) (r : Result (List ℕ) FromHexError) → decode_of digits ≡ r → length digits / 2 ≤ byte_limit
    → Reads IsBytes (decoded text rest r)
decoded_reads text rest digits (Ok b) e h = let ok = decode_of-ok digits b e in (all_bytes b ok.3, omega (arith, ok.2, h))
decoded_reads text rest digits (Err f) e h = tt

taken_half : (n : ℕ) (xs : List ℕ) → n / 2 ≤ byte_limit → length (take n xs) / 2 ≤ byte_limit
taken_half n xs h = omega (arith, h, length-take n xs)

pub bytes_reads : (c d : ℕ) (rest : List ℕ) → Reads IsBytes (bytes_at (c ∷ d ∷ rest))
unfolding bytes_at
bytes_reads c d rest =
    let n = prefix_len is_ascii_hexdigit rest in
    either_reads IsBytes (ltb byte_limit (n / 2)) (flaw TooLong (c ∷ d ∷ rest)) _ (λ _. tt)
    (λ h. either_reads IsBytes (begins_word (drop n rest)) (flaw BadBytes (c ∷ d ∷ rest)) _ (λ _. tt)
    (λ _. decoded_reads (c ∷ d ∷ rest) (drop n rest) (take n rest) (decode_of (take n rest)) refl
    (taken_half n rest (ltb-false byte_limit (n / 2) h))))
