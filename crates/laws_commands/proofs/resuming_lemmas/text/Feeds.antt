-- White space and comments that end with a line feed leave what stands behind them as it is.
use Rattle.std.proofs.Common.{◌≡◌, ℕ, zero, suc, ◌+◌, ◌-◌, Bool, true, false, cond, eqb, List, [], ◌∷◌, ◌++◌, length, drop, Option, Some, refl, sym, ap, ◌∙◌, subst, arith}
use Rattle.std.specs.Prelude.{slice_get}
use Rattle.std.proofs.lemmas.Bool.{eqb-true}
use Rattle.rules_text.specs.text.Lexical.{after_gap, after_slash, after_line, after_block, is_white, opens, closes}

-- the last byte is a line feed
abbrev pub IsFed : List ℕ → Type 0
IsFed [] = ⊥
IsFed (c ∷ []) = c ≡ 10
IsFed (c ∷ d ∷ rest) = IsFed (d ∷ rest)

abbrev pub IsFedOrEmpty : List ℕ → Type 0
IsFedOrEmpty [] = Unit {0}
IsFedOrEmpty (c ∷ rest) = IsFed (c ∷ rest)

later : (c : ℕ) (rest : List ℕ) → IsFed (c ∷ rest) → IsFedOrEmpty rest
later c [] f = tt
later c (d ∷ rest) f = f

-- another byte isn't the last one
passed : (c n : ℕ) (rest : List ℕ) → IsFed (c ∷ rest) → eqb c n ≡ true → (n ≡ 10 → ⊥) → IsFed rest
passed c n [] f e other = other (sym (eqb-true c n e) ∙ f)
passed c n (d ∷ rest) f e other = f

not_feed : (c : ℕ) (rest : List ℕ) → IsFed (c ∷ rest) → eqb c 10 ≡ false → IsFed rest
not_feed c [] f e = absurd (let t : eqb 10 10 ≡ false = subst (λ (x : ℕ). eqb x 10 ≡ false) f e in cc t)
not_feed c (d ∷ rest) f e = f

-- where one ends the input, the other is what stands behind it
abbrev On : List ℕ → Option (List ℕ) → Option (List ℕ) → Type 0
On more x y = x ≡ Some [] → y ≡ after_gap more

either_on : (more : List ℕ) (b : Bool) (x y v w : Option (List ℕ)) → (b ≡ true → On more x v) → (b ≡ false → On more y w) →
    On more (cond b x y) (cond b v w)
either_on more true x y v w p q = p refl
either_on more false x y v w p q = q refl

stays : (more : List ℕ) (c : ℕ) (rest : List ℕ) (v : Option (List ℕ)) → On more (Some (c ∷ rest)) v
stays more c rest v e = absurd (cc e)

mutual
  gap_on : (g more : List ℕ) → IsFedOrEmpty g → On more (after_gap g) (after_gap (g ++ more))
  gap_on [] more f = λ e. refl
  gap_on (c ∷ rest) more f =
      either_on more (is_white c) _ _ _ _ (λ _. gap_on rest more (later c rest f))
      (λ _. either_on more (eqb c 35) _ _ _ _ (λ t. line_on rest more (passed c 35 rest f t (λ h. omega (arith, h))))
      (λ _. either_on more (eqb c 47) _ (Some (c ∷ rest)) _ (Some (c ∷ (rest ++ more)))
      (λ t. slash_on rest more (passed c 47 rest f t (λ h. omega (arith, h))))
      (λ _. stays more c rest (Some (c ∷ (rest ++ more))))))

  line_on : (rest more : List ℕ) → IsFed rest → On more (after_line rest) (after_line (rest ++ more))
  line_on [] more f = absurd f
  line_on (c ∷ rest) more f =
      either_on more (eqb c 10) _ _ _ _ (λ _. gap_on rest more (later c rest f)) (λ t. line_on rest more (not_feed c rest f t))

  slash_on : (rest more : List ℕ) → IsFed rest → On more (after_slash rest) (after_slash (rest ++ more))
  slash_on [] more f = absurd f
  slash_on (c ∷ rest) more f =
      either_on more (eqb c 42) _ (Some (47 ∷ c ∷ rest)) _ (Some (47 ∷ c ∷ (rest ++ more))) (λ _. block_on 1 rest more (later c rest f))
      (λ _. stays more 47 (c ∷ rest) (Some (47 ∷ c ∷ (rest ++ more))))

  block_on : (levels : ℕ) (rest more : List ℕ) → IsFedOrEmpty rest → On more (after_block levels rest) (after_block levels (rest ++ more))
  block_on levels [] more f = λ e. absurd (cc e)
  block_on levels (c ∷ []) more f = λ e. absurd (cc e)
  block_on levels (c ∷ d ∷ rest) more f =
      either_on more (opens c d) _ _ _ _ (λ _. block_on (levels + 1) rest more (later d rest f))
      (λ _. either_on more (closes c d) _ _ _ _
      (λ _. either_on more (eqb levels 1) _ _ _ _ (λ _. gap_on rest more (later d rest f))
      (λ _. block_on (levels - 1) rest more (later d rest f)))
      (λ _. block_on levels (d ∷ rest) more f))

pub gap_passes : (g more : List ℕ) → IsFedOrEmpty g → after_gap g ≡ Some [] → after_gap (g ++ more) ≡ after_gap more
gap_passes g more f e = gap_on g more f e

-- ---- the end of a file

pub fed_file : (file : List ℕ) → slice_get file (length file - 1) ≡ Some 10 → IsFed file
fed_file [] e = absurd (cc e)
fed_file (c ∷ []) e = let same : Some c ≡ Some 10 = e in cc
fed_file (c ∷ d ∷ rest) e =
    fed_file (d ∷ rest) (ap (slice_get (d ∷ rest)) less ∙ sym (ap (slice_get (c ∷ d ∷ rest)) more) ∙ e)
  where
    less : length (d ∷ rest) - 1 ≡ length rest
    less = omega arith

    more : length (c ∷ d ∷ rest) - 1 ≡ suc (length rest)
    more = omega arith

pub fed_drop : (n : ℕ) (file : List ℕ) → IsFedOrEmpty file → IsFedOrEmpty (drop n file)
fed_drop zero file f = f
fed_drop (suc n) [] f = tt
fed_drop (suc n) (c ∷ rest) f = fed_drop n rest (later c rest f)
