-- The tokens of a statement have no `;` outside of all brackets: what is looked for lies behind them.
use Rattle.std.proofs.Common.{◌≡◌, ℕ, suc, ◌+◌, ◌-◌, ◌/◌, ◌^◌, ℤ, Bool, true, false, cond, ◌||◌, ◌&&◌, eqb, ltb, leb, List, [], ◌∷◌, length, take, drop, Option, Some, None, Result, Ok, Err, refl, sym, ap, subst, ◌∙◌, add-one, arith}
use Rattle.std.proofs.lemmas.Bool.{eqb-true}
use Rattle.std.specs.List.{prefix_len}
use Rattle.std.specs.Char.{is_ascii_digit, is_ascii_hexdigit}
use Rattle.std.specs.Str.Parse.{digits_value}
use Rattle.hex.specs.Hex.{decode_of}
use Rattle.hex.specs.declared.error.FromHexError.{FromHexError}
use Rattle.rules_text.specs.nodes.Limits.{name_limit, byte_limit}
use Rattle.rules_text.specs.text.Fault.{Flaw}
use Rattle.rules_text.specs.declared.text.TextKind.TheVariants.{BadString, BadNumber}
use Rattle.rules_text.specs.text.Lexical.{flaw, is_word, is_noted, begins_word, is_white, opens, closes, after_gap, after_slash, after_line, after_block, name_at, annotation_at, spelt, spelt_escape, with_byte, with_escape, escaped, string_at, ◌>>=◌, bytes_at, decoded, number_at, after_minus, is_minus, signed}
use Rattle.mich_text.specs.declared.pieces.scan.Mode.{Mode}
use Rattle.mich_text.specs.declared.pieces.scan.Mode.TheVariants.{Outside, Slash, Line, Block, Text, Escape}
use Rattle.mich_text.specs.pieces.Marks.{sign_at}

-- ---- bytes that are no marks

-- none of `"`, `#`, `/`, `;` and the brackets passes
abbrev pub IsPlain : (ℕ → Bool) → Type 0
IsPlain p = (p 34 ≡ false) × (p 35 ≡ false) × (p 47 ≡ false) × (p 59 ≡ false) × (p 123 ≡ false) × (p 40 ≡ false) × (p 125 ≡ false) × (p 41 ≡ false)

pub apart : (p : ℕ → Bool) (c k : ℕ) → p c ≡ true → p k ≡ false → eqb c k ≡ false
apart p c k h g = by (eqb c k) refl where
  by : (b : Bool) → eqb c k ≡ b → b ≡ false
  by false e = refl
  by true e = absurd (cc (sym h ∙ ap p (eqb-true c k e) ∙ g))

plain_by : (a b d e f g h i : Bool) (depth : ℕ) (rest : List ℕ) → a ≡ false → b ≡ false → d ≡ false → e ≡ false → f ≡ false → g ≡ false → h ≡ false → i ≡ false
    → cond (e && eqb depth 0) (suc (length rest)) (sign_at (cond a Text (cond b Line (cond d Slash Outside))) (cond (f || g) (suc depth) (cond (h || i) (depth - 1) depth)) rest) ≡ sign_at Outside depth rest
plain_by false false false false false false false false depth rest p q r s t u v w = refl
plain_by true b d e f g h i depth rest p q r s t u v w = absurd (cc p)
plain_by false true d e f g h i depth rest p q r s t u v w = absurd (cc q)
plain_by false false true e f g h i depth rest p q r s t u v w = absurd (cc r)
plain_by false false false true f g h i depth rest p q r s t u v w = absurd (cc s)
plain_by false false false false true g h i depth rest p q r s t u v w = absurd (cc t)
plain_by false false false false false true h i depth rest p q r s t u v w = absurd (cc u)
plain_by false false false false false false true i depth rest p q r s t u v w = absurd (cc v)
plain_by false false false false false false false true depth rest p q r s t u v w = absurd (cc w)

pub plain_step : (p : ℕ → Bool) → IsPlain p → (depth c : ℕ) (rest : List ℕ) → p c ≡ true → sign_at Outside depth (c ∷ rest) ≡ sign_at Outside depth rest
plain_step p (quote, hash, slash, sign, brace, paren, close, end) depth c rest h =
    plain_by (eqb c 34) (eqb c 35) (eqb c 47) (eqb c 59) (eqb c 123) (eqb c 40) (eqb c 125) (eqb c 41) depth rest
    (apart p c 34 h quote) (apart p c 35 h hash) (apart p c 47 h slash) (apart p c 59 h sign) (apart p c 123 h brace) (apart p c 40 h paren) (apart p c 125 h close) (apart p c 41 h end)

run_by : (p : ℕ → Bool) → IsPlain p → (depth c : ℕ) (rest : List ℕ) (b : Bool) → p c ≡ b → sign_at Outside depth rest ≡ sign_at Outside depth (drop (prefix_len p rest) rest)
    → sign_at Outside depth (c ∷ rest) ≡ sign_at Outside depth (drop (cond b (1 + prefix_len p rest) 0) (c ∷ rest))
run_by p plain depth c rest true e past =
    let same : 1 + prefix_len p rest ≡ suc (prefix_len p rest) = omega arith in
    plain_step p plain depth c rest e ∙ past ∙ ap (λ (n : ℕ). sign_at Outside depth (drop n (c ∷ rest))) (sym same)
run_by p plain depth c rest false e past = refl

-- a run of them
run_past : (p : ℕ → Bool) → IsPlain p → (depth : ℕ) (text : List ℕ) → sign_at Outside depth text ≡ sign_at Outside depth (drop (prefix_len p text) text)
run_past p plain depth [] = refl
run_past p plain depth (c ∷ rest) = run_by p plain depth c rest (p c) refl (run_past p plain depth rest)

-- ---- white space and comments

abbrev SameGap : ℕ → ℕ → Option (List ℕ) → Type 0
SameGap depth n None = Unit {0}
SameGap depth n (Some here) = n ≡ sign_at Outside depth here

either_gap : (b : Bool) (depth : ℕ) (m n : Mode) (rest : List ℕ) (u v : Option (List ℕ)) → SameGap depth (sign_at m depth rest) u → SameGap depth (sign_at n depth rest) v → SameGap depth (sign_at (cond b m n) depth rest) (cond b u v)
either_gap true depth m n rest u v p q = p
either_gap false depth m n rest u v p q = q

gap_by : (a b e : Bool) (depth c : ℕ) (rest : List ℕ) → is_white c ≡ a → eqb c 35 ≡ b → eqb c 47 ≡ e → SameGap depth (sign_at Outside depth rest) (after_gap rest) → SameGap depth (sign_at Line depth rest) (after_line rest) → SameGap depth (sign_at Slash depth rest) (after_slash rest)
    → SameGap depth (sign_at Outside depth (c ∷ rest)) (cond a (after_gap rest) (cond b (after_line rest) (cond e (after_slash rest) (Some (c ∷ rest)))))
gap_by true b e depth c rest white hash slash gap line behind = subst (λ (n : ℕ). SameGap depth n (after_gap rest)) (sym (plain_step is_white (refl, refl, refl, refl, refl, refl, refl, refl) depth c rest white)) gap
gap_by false true e depth c rest white hash slash gap line behind = subst (λ (x : ℕ). SameGap depth (sign_at Outside depth (x ∷ rest)) (after_line rest)) (sym (eqb-true c 35 hash)) line
gap_by false false true depth c rest white hash slash gap line behind = subst (λ (x : ℕ). SameGap depth (sign_at Outside depth (x ∷ rest)) (after_slash rest)) (sym (eqb-true c 47 slash)) behind
gap_by false false false depth c rest white hash slash gap line behind = refl

slash_by : (b : Bool) (depth c : ℕ) (rest : List ℕ) → eqb c 42 ≡ b → SameGap depth (sign_at (Block 1 0) depth rest) (after_block 1 rest)
    → SameGap depth (sign_at (cond b (Block 1 0) Outside) depth rest) (cond b (after_block 1 rest) (Some (47 ∷ c ∷ rest)))
slash_by true depth c rest e block = block
slash_by false depth c rest e block = ap (λ (b : Bool). sign_at (cond b (Block 1 0) Outside) depth rest) (sym e)

mutual
  gap_signs : (depth : ℕ) (text : List ℕ) → SameGap depth (sign_at Outside depth text) (after_gap text)
  gap_signs depth [] = refl
  gap_signs depth (c ∷ rest) = gap_by (is_white c) (eqb c 35) (eqb c 47) depth c rest refl refl refl (gap_signs depth rest) (line_signs depth rest) (slash_signs depth rest)

  slash_signs : (depth : ℕ) (rest : List ℕ) → SameGap depth (sign_at Slash depth rest) (after_slash rest)
  slash_signs depth [] = refl
  slash_signs depth (c ∷ rest) = slash_by (eqb c 42) depth c rest refl (block_open depth 1 rest)

  line_signs : (depth : ℕ) (rest : List ℕ) → SameGap depth (sign_at Line depth rest) (after_line rest)
  line_signs depth [] = refl
  line_signs depth (c ∷ rest) = either_gap (eqb c 10) depth Outside Line rest _ _ (gap_signs depth rest) (line_signs depth rest)

  block_open : (depth levels : ℕ) (text : List ℕ) → SameGap depth (sign_at (Block levels 0) depth text) (after_block levels text)
  block_open depth levels [] = tt
  block_open depth levels (c ∷ rest) = block_past depth levels c rest

  -- behind a byte of the comment
  block_past : (depth levels c : ℕ) (rest : List ℕ) → SameGap depth (sign_at (Block levels c) depth rest) (after_block levels (c ∷ rest))
  block_past depth levels c [] = tt
  block_past depth levels c (x ∷ rest) =
      either_gap (opens c x) depth (Block (levels + 1) 0) _ rest _ _ (block_open depth (levels + 1) rest)
      (either_gap (closes c x) depth _ (Block levels x) rest _ _ (either_gap (eqb levels 1) depth Outside (Block (levels - 1) 0) rest _ _ (gap_signs depth rest) (block_open depth (levels - 1) rest))
      (block_past depth levels x rest))

pub gap_past : (depth : ℕ) (text here : List ℕ) → after_gap text ≡ Some here → sign_at Outside depth text ≡ sign_at Outside depth here
gap_past depth text here e = subst (SameGap depth (sign_at Outside depth text)) e (gap_signs depth text)

-- ---- strings

abbrev SameEnd : ℕ → ℕ → Result (List ℕ) Flaw → Type 0
SameEnd depth n (Ok rest) = n ≡ sign_at Outside depth rest
SameEnd depth n (Err f) = Unit {0}

string_by : (a b e : Bool) (depth c : ℕ) (rest : List ℕ) → SameEnd depth (sign_at Escape depth rest) (spelt_escape rest).end → SameEnd depth (sign_at Text depth rest) (spelt rest).end
    → SameEnd depth (sign_at (cond a Outside (cond b Escape Text)) depth rest) (cond a (record { text = []; end = Ok rest }) (cond b (spelt_escape rest) (cond e (with_byte c (spelt rest)) (record { text = []; end = flaw BadString (c ∷ rest) })))).end
string_by true b e depth c rest escape text = refl
string_by false true e depth c rest escape text = escape
string_by false false true depth c rest escape text = text
string_by false false false depth c rest escape text = tt

escape_by : (o : Option ℕ) (depth : ℕ) (rest here : List ℕ) → SameEnd depth (sign_at Text depth rest) (spelt rest).end → SameEnd depth (sign_at Text depth rest) (with_escape o (spelt rest) here).end
escape_by None depth rest here p = tt
escape_by (Some c) depth rest here p = p

mutual
  spelt_signs : (depth : ℕ) (text : List ℕ) → SameEnd depth (sign_at Text depth text) (spelt text).end
  spelt_signs depth [] = tt
  spelt_signs depth (c ∷ rest) = string_by (eqb c 34) (eqb c 92) (leb 32 c && leb c 126) depth c rest (escape_signs depth rest) (spelt_signs depth rest)

  escape_signs : (depth : ℕ) (rest : List ℕ) → SameEnd depth (sign_at Escape depth rest) (spelt_escape rest).end
  escape_signs depth [] = tt
  escape_signs depth (c ∷ rest) = escape_by (escaped c) depth rest (92 ∷ c ∷ rest) (spelt_signs depth rest)

-- ---- tokens that are neither brackets nor `;`

abbrev pub SameRead : {A : Type 0} → ℕ → List ℕ → Result (A × List ℕ) Flaw → Type 0
SameRead depth text (Ok r) = sign_at Outside depth text ≡ sign_at Outside depth r.1
SameRead depth text (Err f) = Unit {0}

pub either_read : {A : Type 0} (b : Bool) (depth : ℕ) (text : List ℕ) (x y : Result (A × List ℕ) Flaw) → SameRead depth text x → SameRead depth text y → SameRead depth text (cond b x y)
either_read true depth text x y p q = p
either_read false depth text x y p q = q

pub name_signs : (depth : ℕ) (text : List ℕ) → SameRead depth text (name_at text)
unfolding name_at
name_signs depth text = either_read (ltb name_limit (prefix_len is_word text)) depth text _ _ tt (run_past is_word (refl, refl, refl, refl, refl, refl, refl, refl) depth text)

-- the sign of an annotation
abbrev pub is_note : ℕ → Bool
is_note c = eqb c 64 || (eqb c 58 || eqb c 37)

pub annotation_signs : (depth c : ℕ) (xs : List ℕ) → is_note c ≡ true → SameRead depth (c ∷ xs) (annotation_at (c ∷ xs))
unfolding annotation_at
annotation_signs depth c xs h =
    rw add-one (either_read (ltb name_limit (prefix_len is_noted xs)) depth (c ∷ xs) _ _ tt
    (plain_step is_note (refl, refl, refl, refl, refl, refl, refl, refl) depth c xs h ∙ run_past is_noted (refl, refl, refl, refl, refl, refl, refl, refl) depth xs))

string_end : (depth : ℕ) (text : List ℕ) (spelling : List ℕ) (end : Result (List ℕ) Flaw) → SameEnd depth (sign_at Outside depth text) end → SameRead depth text (end >>= λ rest. Ok (spelling, rest))
string_end depth text spelling (Ok rest) p = p
string_end depth text spelling (Err f) p = tt

pub string_signs : (depth : ℕ) (xs : List ℕ) → SameRead depth (34 ∷ xs) (string_at (34 ∷ xs))
unfolding string_at
string_signs depth xs = either_read (ltb byte_limit (length (spelt xs).text)) depth (34 ∷ xs) _ _ tt (string_end depth (34 ∷ xs) (spelt xs).text (spelt xs).end (spelt_signs depth xs))

decoded_signs : (depth : ℕ) (text rest : List ℕ) (r : Result (List ℕ) FromHexError) → sign_at Outside depth text ≡ sign_at Outside depth rest → SameRead depth text (decoded text rest r)
decoded_signs depth text rest (Ok b) p = p
decoded_signs depth text rest (Err e) p = tt

pub bytes_signs : (depth : ℕ) (xs : List ℕ) → SameRead depth (48 ∷ 120 ∷ xs) (bytes_at (48 ∷ 120 ∷ xs))
unfolding bytes_at
bytes_signs depth xs =
    either_read (ltb byte_limit (prefix_len is_ascii_hexdigit xs / 2)) depth (48 ∷ 120 ∷ xs) _ _ tt
    (either_read (begins_word (drop (prefix_len is_ascii_hexdigit xs) xs)) depth (48 ∷ 120 ∷ xs) _ _ tt
    (decoded_signs depth (48 ∷ 120 ∷ xs) (drop (prefix_len is_ascii_hexdigit xs) xs) (decode_of (take (prefix_len is_ascii_hexdigit xs) xs))
    (run_past is_ascii_hexdigit (refl, refl, refl, refl, refl, refl, refl, refl) depth xs)))

minus_signs : (depth : ℕ) (text : List ℕ) → sign_at Outside depth text ≡ sign_at Outside depth (after_minus text)
minus_signs depth [] = refl
minus_signs depth (c ∷ rest) = by (eqb c 45) refl where
  by : (b : Bool) → eqb c 45 ≡ b → sign_at Outside depth (c ∷ rest) ≡ sign_at Outside depth (cond b rest (c ∷ rest))
  by true e = plain_step (λ x. eqb x 45) (refl, refl, refl, refl, refl, refl, refl, refl) depth c rest e
  by false e = refl

two_tests : (a b : Bool) (depth : ℕ) (text : List ℕ) (x : ℤ × List ℕ) → SameRead depth text (Ok x) → SameRead depth text (cond a (flaw BadNumber text) (cond b (flaw BadNumber text) (Ok x)))
two_tests true b depth text x p = tt
two_tests false true depth text x p = tt
two_tests false false depth text x p = p

pub number_signs : (depth : ℕ) (text : List ℕ) → SameRead depth text (number_at text)
unfolding number_at
number_signs depth text =
    let digits = after_minus text in
    let n = prefix_len is_ascii_digit digits in
    let value = digits_value 10 (take n digits) in
    two_tests (eqb n 0 || begins_word (drop n digits)) (ltb (cond (is_minus text) (2 ^ 127) (2 ^ 127 - 1)) value) depth text (signed (is_minus text) value, drop n digits)
    (minus_signs depth text ∙ run_past is_ascii_digit (refl, refl, refl, refl, refl, refl, refl, refl) depth digits)
