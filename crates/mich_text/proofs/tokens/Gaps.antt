-- White space and comments.
use Rattle.std.specs.Prelude.{◌==◌}
use Rattle.std.proofs.Common.{◌≡◌, ℕ, suc, ◌+◌, ◌-◌, ◌≤◌, ◌<◌, Bool, true, false, cond, not, ◌||◌, eqb, List, [], ◌∷◌, ◌++◌, length, Option, Some, None, refl, sym, subst, arith}
use Rattle.std.proofs.lemmas.Bool.{eqb-true}
use Rattle.rules_text.specs.text.Lexical.{after_gap, after_slash, after_line, after_block, is_white, opens, closes}
use Rattle.mich_text.proofs.tokens.Properties.{Ends, ends_more}

-- ---- what is read lies further on

abbrev pub IsWithin : ℕ → Option (List ℕ) → Type 0
IsWithin n None = Unit {0}
IsWithin n (Some rest) = length rest ≤ n

either_within : (b : Bool) (n : ℕ) (x y : Option (List ℕ)) → IsWithin n x → IsWithin n y → IsWithin n (cond b x y)
either_within true n x y p q = p
either_within false n x y p q = q

mutual
  pub gap_within : (n : ℕ) (text : List ℕ) → length text ≤ n → IsWithin n (after_gap text)
  gap_within n [] h = h
  gap_within n (c ∷ rest) h =
      either_within (is_white c) n _ _ (gap_within n rest (omega arith))
      (either_within (eqb c 35) n _ _ (line_within n rest (omega arith))
      (either_within (eqb c 47) n _ _ (slash_within n rest h) h))

  slash_within : (n : ℕ) (rest : List ℕ) → suc (length rest) ≤ n → IsWithin n (after_slash rest)
  slash_within n [] h = h
  slash_within n (c ∷ rest) h = either_within (eqb c 42) n _ _ (block_within n 1 rest (omega arith)) h

  pub line_within : (n : ℕ) (rest : List ℕ) → length rest ≤ n → IsWithin n (after_line rest)
  line_within n [] h = h
  line_within n (c ∷ rest) h = either_within (eqb c 10) n _ _ (gap_within n rest (omega arith)) (line_within n rest (omega arith))

  pub block_within : (n levels : ℕ) (rest : List ℕ) → length rest ≤ n → IsWithin n (after_block levels rest)
  block_within n levels [] h = tt
  block_within n levels (c ∷ []) h = tt
  block_within n levels (c ∷ d ∷ rest) h =
      either_within (opens c d) n _ _ (block_within n (levels + 1) rest (omega arith))
      (either_within (closes c d) n _ _
      (either_within (eqb levels 1) n _ _ (gap_within n rest (omega arith)) (block_within n (levels - 1) rest (omega arith)))
      (block_within n levels (d ∷ rest) (omega arith)))

pub gap_le : (text rest : List ℕ) → after_gap text ≡ Some rest → length rest ≤ length text
gap_le text rest e = subst (IsWithin (length text)) e (gap_within (length text) text (omega arith))

-- ---- in a front of the text

abbrev GapCut : List ℕ → Option (List ℕ) → Option (List ℕ) → Type 0
GapCut more front None = Unit {0}
GapCut more front (Some here) = length more < length here → (b : List ℕ) × (here ≡ b ++ more) × (front ≡ Some b)

either_gap : (b : Bool) (more : List ℕ) (x y v w : Option (List ℕ)) → GapCut more x v → GapCut more y w
    → GapCut more (cond b x y) (cond b v w)
either_gap true more x y v w p q = p
either_gap false more x y v w p q = q

within_gap : (more : List ℕ) (front o : Option (List ℕ)) → IsWithin (length more) o → GapCut more front o
within_gap more front None p = tt
within_gap more front (Some here) p = λ h. absurd (omega (arith, p, h))

-- the last byte of a front, in a block comment
block_one : (levels c : ℕ) (more : List ℕ) → IsWithin (length more) (after_block levels (c ∷ more))
block_one levels c [] = tt
block_one levels c (d ∷ more) = by (opens c d) (closes c d) (eqb levels 1) where
  by : (a b e : Bool) → IsWithin (suc (length more)) (cond a (after_block (levels + 1) more)
      (cond b (cond e (after_gap more) (after_block (levels - 1) more)) (after_block levels (d ∷ more))))
  by true b e = block_within (suc (length more)) (levels + 1) more (omega arith)
  by false true true = gap_within (suc (length more)) more (omega arith)
  by false true false = block_within (suc (length more)) (levels - 1) more (omega arith)
  by false false e = block_within (suc (length more)) levels (d ∷ more) (omega arith)

slash_one : (more : List ℕ) → GapCut more (Some (47 ∷ [])) (after_slash more)
slash_one [] = λ h. (47 ∷ [], refl, refl)
slash_one (c ∷ more) = by (eqb c 42) where
  by : (b : Bool) → GapCut (c ∷ more) (Some (47 ∷ [])) (cond b (after_block 1 more) (Some (47 ∷ c ∷ more)))
  by true = within_gap (c ∷ more) (Some (47 ∷ [])) (after_block 1 more) (block_within (length (c ∷ more)) 1 more (omega arith))
  by false = λ h. (47 ∷ [], refl, refl)

mutual
  gap_by : (text more : List ℕ) → GapCut more (after_gap text) (after_gap (text ++ more))
  gap_by [] more = within_gap more (Some []) (after_gap more) (gap_within (length more) more (omega arith))
  gap_by (c ∷ rest) more =
      either_gap (is_white c) more _ _ _ _ (gap_by rest more)
      (either_gap (eqb c 35) more _ _ _ _ (line_by rest more)
      (either_gap (eqb c 47) more _ (Some (c ∷ rest)) _ (Some (c ∷ (rest ++ more))) (slash_by rest more) (λ h. (c ∷ rest, refl, refl))))

  slash_by : (rest more : List ℕ) → GapCut more (after_slash rest) (after_slash (rest ++ more))
  slash_by [] more = slash_one more
  slash_by (c ∷ rest) more =
      either_gap (eqb c 42) more _ (Some (47 ∷ c ∷ rest)) _ (Some (47 ∷ c ∷ (rest ++ more))) (block_by 1 rest more)
      (λ h. (47 ∷ c ∷ rest, refl, refl))

  line_by : (rest more : List ℕ) → GapCut more (after_line rest) (after_line (rest ++ more))
  line_by [] more = within_gap more (Some []) (after_line more) (line_within (length more) more (omega arith))
  line_by (c ∷ rest) more = either_gap (eqb c 10) more _ _ _ _ (gap_by rest more) (line_by rest more)

  block_by : (levels : ℕ) (rest more : List ℕ) → GapCut more (after_block levels rest) (after_block levels (rest ++ more))
  block_by levels [] more = within_gap more None (after_block levels more) (block_within (length more) levels more (omega arith))
  block_by levels (c ∷ []) more = within_gap more None (after_block levels (c ∷ more)) (block_one levels c more)
  block_by levels (c ∷ d ∷ rest) more =
      either_gap (opens c d) more _ _ _ _ (block_by (levels + 1) rest more)
      (either_gap (closes c d) more _ _ _ _ (either_gap (eqb levels 1) more _ _ _ _ (gap_by rest more) (block_by (levels - 1) rest more))
      (block_by levels (d ∷ rest) more))

pub gap_cut : (text more here : List ℕ) → after_gap (text ++ more) ≡ Some here → length more < length here
    → (b : List ℕ) × (here ≡ b ++ more) × (after_gap text ≡ Some b)
gap_cut text more here e h = (subst (λ (o : Option (List ℕ)). GapCut more (after_gap text) o) e (gap_by text more)) h

-- ---- what is left is the end of the text

abbrev pub EndsGap : List ℕ → Option (List ℕ) → Type 0
EndsGap text None = Unit {0}
EndsGap text (Some rest) = Ends text rest

gap_either : (b : Bool) (text : List ℕ) (x y : Option (List ℕ)) → EndsGap text x → EndsGap text y → EndsGap text (cond b x y)
gap_either true text x y p q = p
gap_either false text x y p q = q

gap_more : (c : ℕ) (text : List ℕ) (o : Option (List ℕ)) → EndsGap text o → EndsGap (c ∷ text) o
gap_more c text None p = tt
gap_more c text (Some rest) p = ends_more c text rest p

-- a byte that may be `/`
slash_or : (c : ℕ) (rest : List ℕ) (b : Bool) → eqb c 47 ≡ b → EndsGap (47 ∷ rest) (after_slash rest)
    → EndsGap (c ∷ rest) (cond b (after_slash rest) (Some (c ∷ rest)))
slash_or c rest false e p = ([], refl)
slash_or c rest true e p = subst (λ (x : ℕ). EndsGap (x ∷ rest) (after_slash rest)) (sym (eqb-true c 47 e)) p

mutual
  pub gap_ends : (text : List ℕ) → EndsGap text (after_gap text)
  gap_ends [] = ([], refl)
  gap_ends (c ∷ rest) =
      gap_either (is_white c) (c ∷ rest) _ _ (gap_more c rest _ (gap_ends rest))
      (gap_either (eqb c 35) (c ∷ rest) _ _ (gap_more c rest _ (line_ends rest)) (slash_or c rest (eqb c 47) refl (slash_ends rest)))

  slash_ends : (rest : List ℕ) → EndsGap (47 ∷ rest) (after_slash rest)
  slash_ends [] = ([], refl)
  slash_ends (d ∷ rest) =
      gap_either (eqb d 42) (47 ∷ d ∷ rest) _ (Some (47 ∷ d ∷ rest)) (gap_more 47 (d ∷ rest) _ (gap_more d rest _ (block_ends 1 rest)))
      ([], refl)

  line_ends : (rest : List ℕ) → EndsGap rest (after_line rest)
  line_ends [] = ([], refl)
  line_ends (c ∷ rest) = gap_either (eqb c 10) (c ∷ rest) _ _ (gap_more c rest _ (gap_ends rest)) (gap_more c rest _ (line_ends rest))

  block_ends : (levels : ℕ) (rest : List ℕ) → EndsGap rest (after_block levels rest)
  block_ends levels [] = tt
  block_ends levels (c ∷ []) = tt
  block_ends levels (c ∷ d ∷ rest) =
      gap_either (opens c d) (c ∷ d ∷ rest) _ _ (gap_more c (d ∷ rest) _ (gap_more d rest _ (block_ends (levels + 1) rest)))
      (gap_either (closes c d) (c ∷ d ∷ rest) _ _
      (gap_either (eqb levels 1) (c ∷ d ∷ rest) _ _ (gap_more c (d ∷ rest) _ (gap_more d rest _ (gap_ends rest)))
      (gap_more c (d ∷ rest) _ (gap_more d rest _ (block_ends (levels - 1) rest))))
      (gap_more c (d ∷ rest) _ (block_ends levels (d ∷ rest))))

-- ---- a byte that is no white space and begins no comment

-- no white space and no comment
abbrev pub is_solid : ℕ → Bool
is_solid c = not (is_white c || (c == 35 || c == 47))

solid_by : (b d e : Bool) (x y z w : Option (List ℕ)) → not (b || (d || e)) ≡ true → cond b x (cond d y (cond e z w)) ≡ w
solid_by true d e x y z w k = absurd cc
solid_by false true e x y z w k = absurd cc
solid_by false false true x y z w k = absurd cc
solid_by false false false x y z w k = refl

pub solid_gap : (c : ℕ) (rest : List ℕ) → is_solid c ≡ true → after_gap (c ∷ rest) ≡ Some (c ∷ rest)
solid_gap c rest h = solid_by (is_white c) (c == 35) (c == 47) (after_gap rest) _ _ (Some (c ∷ rest)) h

-- ---- block comments

module _ (levels c d : ℕ) (text after behind : List ℕ) (e : text ≡ c ∷ after) (f : after ≡ d ∷ behind) where
  pub block_opens : opens c d ≡ true → after_block levels text ≡ after_block (levels + 1) behind
  block_opens o = rw (e, f, o) refl

  pub block_closes : opens c d ≡ false → closes c d ≡ true
      → after_block levels text ≡ cond (eqb levels 1) (after_gap behind) (after_block (levels - 1) behind)
  block_closes o p = rw (e, f, o, p) refl

  pub block_passes : opens c d ≡ false → closes c d ≡ false → after_block levels text ≡ after_block levels after
  block_passes o p = rw (e, f, o, p) refl
