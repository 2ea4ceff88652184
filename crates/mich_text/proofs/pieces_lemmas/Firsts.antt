-- The first byte of a statement.
use Rattle.std.proofs.Common.{◌≡◌, ℕ, ◌+◌, ◌-◌, ◌≤◌, ◌<◌, ◌⊎◌, inl, inr, Bool, true, false, cond, ◌||◌, eqb, List, [], ◌∷◌, length, Option, Some, None, refl, sym, subst, arith}
use Rattle.std.proofs.lemmas.Bool.{eqb-true}
use Rattle.rules_text.specs.text.Lexical.{is_white, opens, closes, after_gap, after_slash, after_line, after_block}
use Rattle.mich_text.specs.declared.pieces.scan.Mode.{Mode}
use Rattle.mich_text.specs.declared.pieces.scan.Mode.TheVariants.{Outside, Slash, Line, Block, Text}
use Rattle.mich_text.specs.pieces.Marks.{first_at}
use Rattle.mich_text.proofs.pieces_lemmas.Signs.{apart}

-- it is known, or nothing but maybe a `/` is there
abbrev IsFirst : ℕ → Option (List ℕ) → Type 0
IsFirst n None = n ≡ 0
IsFirst n (Some here) = (n ≡ length here) ⊎ ((n ≡ 0) × (length here ≤ 1))

either_first : (b : Bool) (m n : Mode) (rest : List ℕ) (u v : Option (List ℕ)) → IsFirst (first_at m rest) u → IsFirst (first_at n rest) v → IsFirst (first_at (cond b m n) rest) (cond b u v)
either_first true m n rest u v p q = p
either_first false m n rest u v p q = q

no : {P : Type 0} → true ≡ false → P
no e = absurd (cc e)

gap_by : (a b e q : Bool) (c : ℕ) (rest : List ℕ) → (a ≡ true → (q ≡ false) × (b ≡ false) × (e ≡ false)) → (b ≡ true → q ≡ false) → (e ≡ true → q ≡ false)
    → IsFirst (first_at Outside rest) (after_gap rest) → IsFirst (first_at Line rest) (after_line rest) → IsFirst (first_at Slash rest) (after_slash rest)
    → IsFirst (cond (eqb (cond (a || (b || e)) 0 1) 0) (first_at (cond q Text (cond b Line (cond e Slash Outside))) rest) (cond (a || (b || e)) 0 1 + length rest)) (cond a (after_gap rest) (cond b (after_line rest) (cond e (after_slash rest) (Some (c ∷ rest)))))
gap_by true false false false c rest white hash slash gap line behind = gap
gap_by true b e true c rest white hash slash gap line behind = no (white refl).0
gap_by true true e false c rest white hash slash gap line behind = no (white refl).1
gap_by true false true false c rest white hash slash gap line behind = no (white refl).2
gap_by false true e false c rest white hash slash gap line behind = line
gap_by false true e true c rest white hash slash gap line behind = no (hash refl)
gap_by false false true false c rest white hash slash gap line behind = behind
gap_by false false true true c rest white hash slash gap line behind = no (slash refl)
gap_by false false false q c rest white hash slash gap line behind = inl (omega arith)

slash_by : (b : Bool) (c : ℕ) (rest : List ℕ) → IsFirst (first_at (Block 1 0) rest) (after_block 1 rest)
    → IsFirst (cond (eqb (cond b 0 2) 0) (first_at (cond b (Block 1 0) Outside) rest) (cond b 0 2 + length rest)) (cond b (after_block 1 rest) (Some (47 ∷ c ∷ rest)))
slash_by true c rest p = p
slash_by false c rest p = inl (omega arith)

byte_not : (c k j : ℕ) → eqb c k ≡ true → eqb k j ≡ false → eqb c j ≡ false
byte_not c k j e f = subst (λ (x : ℕ). eqb x j ≡ false) (sym (eqb-true c k e)) f

mutual
  gap_first : (text : List ℕ) → IsFirst (first_at Outside text) (after_gap text)
  gap_first [] = inr (refl, omega arith)
  gap_first (c ∷ rest) =
      gap_by (is_white c) (eqb c 35) (eqb c 47) (eqb c 34) c rest (λ h. (apart is_white c 34 h refl, apart is_white c 35 h refl, apart is_white c 47 h refl)) (λ h. byte_not c 35 34 h refl) (λ h. byte_not c 47 34 h refl)
      (gap_first rest) (line_first rest) (slash_first rest)

  slash_first : (rest : List ℕ) → IsFirst (first_at Slash rest) (after_slash rest)
  slash_first [] = inr (refl, omega arith)
  slash_first (c ∷ rest) = slash_by (eqb c 42) c rest (open_first 1 rest)

  line_first : (rest : List ℕ) → IsFirst (first_at Line rest) (after_line rest)
  line_first [] = inr (refl, omega arith)
  line_first (c ∷ rest) = either_first (eqb c 10) Outside Line rest _ _ (gap_first rest) (line_first rest)

  open_first : (levels : ℕ) (text : List ℕ) → IsFirst (first_at (Block levels 0) text) (after_block levels text)
  open_first levels [] = refl
  open_first levels (c ∷ rest) = past_first levels c rest

  past_first : (levels c : ℕ) (rest : List ℕ) → IsFirst (first_at (Block levels c) rest) (after_block levels (c ∷ rest))
  past_first levels c [] = refl
  past_first levels c (x ∷ rest) =
      either_first (opens c x) (Block (levels + 1) 0) _ rest _ _ (open_first (levels + 1) rest)
      (either_first (closes c x) _ (Block levels x) rest _ _ (either_first (eqb levels 1) Outside (Block (levels - 1) 0) rest _ _ (gap_first rest) (open_first (levels - 1) rest))
      (past_first levels x rest))

pub first_known : (text : List ℕ) → 0 < first_at Outside text → (here : List ℕ) × (after_gap text ≡ Some here) × (length here ≡ first_at Outside text)
first_known text some = by (after_gap text) refl (gap_first text) where
  by : (o : Option (List ℕ)) → after_gap text ≡ o → IsFirst (first_at Outside text) o → (here : List ℕ) × (after_gap text ≡ Some here) × (length here ≡ first_at Outside text)
  by None e p = absurd (omega (arith, some, p))
  by (Some here) e (inl p) = (here, e, sym p)
  by (Some here) e (inr p) = absurd (omega (arith, some, p.0))

pub first_le : (text here : List ℕ) (n : ℕ) → 0 < n → first_at Outside text ≤ n → after_gap text ≡ Some here → length here ≤ n
first_le text here n some h e = by (subst (IsFirst (first_at Outside text)) e (gap_first text)) where
  by : (first_at Outside text ≡ length here) ⊎ ((first_at Outside text ≡ 0) × (length here ≤ 1)) → length here ≤ n
  by (inl p) = omega (arith, p, h)
  by (inr p) = omega (arith, p.1, some)
