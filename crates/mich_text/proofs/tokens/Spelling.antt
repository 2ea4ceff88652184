-- What a string spells, byte by byte and escape by escape, up to its quote.
use Rattle.std.specs.Prelude.{◌==◌}
use Rattle.std.proofs.Common.{◌≡◌, ℕ, suc, ◌+◌, ◌≤◌, ◌<◌, Bool, true, false, cond, ◌||◌, ◌&&◌, eqb, leb, List, [], ◌∷◌, ◌++◌, length, Option, Some, None, Result, Ok, Err, refl, sym, ap, ◌∙◌, append_assoc, arith}
use Rattle.std.proofs.lemmas.List.{length-append}
use Rattle.std.proofs.lemmas.Bool.{eqb-true}
use Rattle.rules_text.specs.declared.text.TextKind.TheVariants.{BadString, Unclosed}
use Rattle.rules_text.specs.text.Fault.{Flaw}
use Rattle.rules_text.specs.text.Lexical.{flaw, Spelt, spelt, spelt_escape, with_byte, with_escape, escaped}
use Rattle.rules_text.specs.text.Printed.{spelling, string_text}
use Rattle.mich_text.specs.Plain.{rank_without_limits}
use Rattle.mich_text.proofs.tokens.ByteRuns.{IsAll}
use Rattle.mich_text.proofs.tokens.Properties.{Ends, Of, ends_more, moved}

-- ---- what is read lies further on

abbrev pub EndsWithin : ℕ → Result (List ℕ) Flaw → Type 0
EndsWithin n (Ok rest) = length rest ≤ n
EndsWithin n (Err f) = (f.left ≤ n) × (rank_without_limits f.kind ≡ 0)

spelt_either_within : (b : Bool) (n : ℕ) (x y : Spelt) → EndsWithin n x.end → EndsWithin n y.end → EndsWithin n (cond b x y).end
spelt_either_within true n x y p q = p
spelt_either_within false n x y p q = q

escape_within : (o : Option ℕ) (n : ℕ) (s : Spelt) (here : List ℕ) → EndsWithin n s.end → length here ≤ n
    → EndsWithin n (with_escape o s here).end
escape_within None n s here p h = (h, refl)
escape_within (Some c) n s here p h = p

mutual
  pub spelt_within : (n : ℕ) (text : List ℕ) → length text ≤ n → EndsWithin n (spelt text).end
  spelt_within n [] h = (omega arith, refl)
  spelt_within n (c ∷ rest) h =
      spelt_either_within (eqb c 34) n _ _ (omega arith)
      (spelt_either_within (eqb c 92) n _ _ (behind_within n rest h)
      (spelt_either_within (leb 32 c && leb c 126) n (with_byte c (spelt rest)) (record { text = []; end = flaw BadString (c ∷ rest) })
      (spelt_within n rest (omega arith)) (h, refl)))

  behind_within : (n : ℕ) (rest : List ℕ) → suc (length rest) ≤ n → EndsWithin n (spelt_escape rest).end
  behind_within n [] h = (omega arith, refl)
  behind_within n (c ∷ rest) h = escape_within (escaped c) n (spelt rest) (92 ∷ c ∷ rest) (spelt_within n rest (omega arith)) h

-- ---- with more bytes behind it

abbrev pub EndsSame : List ℕ → Result (List ℕ) Flaw → List ℕ → Spelt → Type 0
EndsSame more (Ok rest) text again = again ≡ record { text = text; end = Ok (rest ++ more) }
EndsSame more (Err f) text again = Unit {0}

-- a string that was closed
abbrev IsClosed : List ℕ → Spelt → Spelt → Type 0
IsClosed more s again = EndsSame more s.end s.text again

closed_either : (b : Bool) (more : List ℕ) (x y v w : Spelt) → IsClosed more x v → IsClosed more y w
    → IsClosed more (cond b x y) (cond b v w)
closed_either true more x y v w p q = p
closed_either false more x y v w p q = q

closed_byte : (c : ℕ) (more : List ℕ) (text : List ℕ) (end : Result (List ℕ) Flaw) (again : Spelt) → EndsSame more end text again
    → EndsSame more end (c ∷ text) (with_byte c again)
closed_byte c more text (Ok rest) again p = ap (with_byte c) p
closed_byte c more text (Err f) again p = tt

closed_escape : (o : Option ℕ) (more here there : List ℕ) (s again : Spelt) → IsClosed more s again
    → IsClosed more (with_escape o s here) (with_escape o again there)
closed_escape None more here there s again p = tt
closed_escape (Some c) more here there s again p = closed_byte c more s.text s.end again p

mutual
  pub spelt_stable : (text more : List ℕ) → IsClosed more (spelt text) (spelt (text ++ more))
  spelt_stable [] more = tt
  spelt_stable (c ∷ rest) more =
      closed_either (eqb c 34) more _ _ _ _ refl
      (closed_either (eqb c 92) more _ _ _ _ (behind_stable rest more)
      (closed_either (leb 32 c && leb c 126) more (with_byte c (spelt rest)) (record { text = []; end = flaw BadString (c ∷ rest) })
      (with_byte c (spelt (rest ++ more))) (record { text = []; end = flaw BadString (c ∷ (rest ++ more)) })
      (closed_byte c more (spelt rest).text (spelt rest).end (spelt (rest ++ more)) (spelt_stable rest more)) tt))

  behind_stable : (rest more : List ℕ) → IsClosed more (spelt_escape rest) (spelt_escape (rest ++ more))
  behind_stable [] more = tt
  behind_stable (c ∷ rest) more =
      closed_escape (escaped c) more (92 ∷ c ∷ rest) (92 ∷ c ∷ (rest ++ more)) (spelt rest) (spelt (rest ++ more)) (spelt_stable rest more)

-- ---- in a front of the text

abbrev pub EndsCut : List ℕ → Spelt → List ℕ → Result (List ℕ) Flaw → Type 0
EndsCut more front text (Ok behind) =
    length more < length behind → (b : List ℕ) × (behind ≡ b ++ more) × (front ≡ record { text = text; end = Ok b })
EndsCut more front text (Err f) = Unit {0}

abbrev SpeltCut : List ℕ → Spelt → Spelt → Type 0
SpeltCut more front s = EndsCut more front s.text s.end

cut_either : (b : Bool) (more : List ℕ) (x y v w : Spelt) → SpeltCut more x v → SpeltCut more y w → SpeltCut more (cond b x y) (cond b v w)
cut_either true more x y v w p q = p
cut_either false more x y v w p q = q

cut_byte : (c : ℕ) (more : List ℕ) (front : Spelt) (text : List ℕ) (end : Result (List ℕ) Flaw) → EndsCut more front text end
    → EndsCut more (with_byte c front) (c ∷ text) end
cut_byte c more front text (Ok behind) p = λ h. let x = p h in (x.0, x.1, ap (with_byte c) x.2)
cut_byte c more front text (Err f) p = tt

cut_escape : (o : Option ℕ) (more here there : List ℕ) (front s : Spelt) → SpeltCut more front s
    → SpeltCut more (with_escape o front here) (with_escape o s there)
cut_escape None more here there front s p = tt
cut_escape (Some c) more here there front s p = cut_byte c more front s.text s.end p

-- nothing of the front is left
cut_nothing : (more : List ℕ) (front : Spelt) (text : List ℕ) (end : Result (List ℕ) Flaw) → EndsWithin (length more) end
    → EndsCut more front text end
cut_nothing more front text (Ok behind) p = λ h. absurd (omega (arith, p, h))
cut_nothing more front text (Err f) p = tt

cut_escape_nothing : (more rest : List ℕ) (o : Option ℕ) (front : Spelt) (here : List ℕ) (s : Spelt) → EndsWithin (length more) s.end
    → SpeltCut more front (with_escape o s here)
cut_escape_nothing more rest None front here s p = tt
cut_escape_nothing more rest (Some c) front here s p = cut_nothing more front (c ∷ s.text) s.end p

mutual
  pub spelt_cut : (text more : List ℕ) → SpeltCut more (spelt text) (spelt (text ++ more))
  spelt_cut [] more = cut_nothing more (spelt []) (spelt more).text (spelt more).end (spelt_within (length more) more (omega arith))
  spelt_cut (c ∷ rest) more =
      cut_either (eqb c 34) more (record { text = []; end = Ok rest }) _ (record { text = []; end = Ok (rest ++ more) }) _
      (λ h. (rest, refl, refl))
      (cut_either (eqb c 92) more _ _ _ _ (behind_cut rest more)
      (cut_either (leb 32 c && leb c 126) more (with_byte c (spelt rest)) (record { text = []; end = flaw BadString (c ∷ rest) })
      (with_byte c (spelt (rest ++ more))) (record { text = []; end = flaw BadString (c ∷ (rest ++ more)) })
      (cut_byte c more (spelt rest) (spelt (rest ++ more)).text (spelt (rest ++ more)).end (spelt_cut rest more)) tt))

  behind_cut : (rest more : List ℕ) → SpeltCut more (spelt_escape rest) (spelt_escape (rest ++ more))
  behind_cut [] [] = tt
  behind_cut [] (c ∷ more) =
      cut_escape_nothing (c ∷ more) [] (escaped c) (spelt_escape []) (92 ∷ c ∷ more) (spelt more)
      (spelt_within (length (c ∷ more)) more (omega arith))
  behind_cut (c ∷ rest) more =
      cut_escape (escaped c) more (92 ∷ c ∷ rest) (92 ∷ c ∷ (rest ++ more)) (spelt rest) (spelt (rest ++ more)) (spelt_cut rest more)

-- ---- a flaw that some bytes show

-- a string spells no fewer bytes with more behind it, and a bad byte stays
abbrev pub Stays : List ℕ → Spelt → Spelt → Type 0
Stays more s again =
    (length s.text ≤ length again.text)
    × ((f : Flaw) → s.end ≡ Err f → (f.kind ≡ Unclosed → ⊥) → again ≡ record { text = s.text; end = Err (moved (length more) f) })

stays_either : (b : Bool) (more : List ℕ) (x y v w : Spelt) → Stays more x v → Stays more y w → Stays more (cond b x y) (cond b v w)
stays_either true more x y v w p q = p
stays_either false more x y v w p q = q

no_err : {A P : Type 0} (x : A) (f : Flaw) → ◌≡◌ {A = Result A Flaw} (Ok x) (Err f) → P
no_err x f e = cc

same_err : {A : Type 0} (f g : Flaw) → ◌≡◌ {A = Result A Flaw} (Err f) (Err g) → f ≡ g
same_err f g e = cc

stays_closed : (more rest : List ℕ) (again : Spelt) → Stays more (record { text = []; end = Ok rest }) again
stays_closed more rest again = (omega arith, λ f e h. no_err rest f e)

stays_byte : (c : ℕ) (more : List ℕ) (s again : Spelt) → Stays more s again → Stays more (with_byte c s) (with_byte c again)
stays_byte c more s again p = (omega (arith, p.0), λ f e h. ap (with_byte c) (p.1 f e h))

stays_unclosed : (more : List ℕ) (again : Spelt) → Stays more (record { text = []; end = flaw Unclosed [] }) again
stays_unclosed more again =
    (omega arith, λ f e h. absurd (h (ap (λ (g : Flaw). g.kind) (sym (same_err {A = List ℕ} (record { kind = Unclosed; left = 0 }) f e)))))

stays_bad : (more here there : List ℕ) → length there ≡ length here + length more
    → Stays more (record { text = []; end = flaw BadString here }) (record { text = []; end = flaw BadString there })
stays_bad more here there n = (
  omega arith,
  λ f e h. let same = same_err {A = List ℕ} (record { kind = BadString; left = length here }) f e in
      ap (λ (k : ℕ). record { text = []; end = Err (record { kind = BadString; left = k }) }) n
      ∙ ap (λ (g : Flaw). record { text = []; end = Err (moved (length more) g) }) same,
)

stays_escape : (o : Option ℕ) (more here there : List ℕ) (s again : Spelt) → length there ≡ length here + length more → Stays more s again
    → Stays more (with_escape o s here) (with_escape o again there)
stays_escape None more here there s again n p = stays_bad more here there n
stays_escape (Some c) more here there s again n p = stays_byte c more s again p

mutual
  pub spelt_stays : (text more : List ℕ) → Stays more (spelt text) (spelt (text ++ more))
  spelt_stays [] more = stays_unclosed more (spelt more)
  spelt_stays (c ∷ rest) more =
      stays_either (eqb c 34) more (record { text = []; end = Ok rest }) _ (record { text = []; end = Ok (rest ++ more) }) _
      (stays_closed more rest (record { text = []; end = Ok (rest ++ more) }))
      (stays_either (eqb c 92) more _ _ _ _ (behind_stays rest more)
      (stays_either (leb 32 c && leb c 126) more (with_byte c (spelt rest)) (record { text = []; end = flaw BadString (c ∷ rest) })
      (with_byte c (spelt (rest ++ more))) (record { text = []; end = flaw BadString (c ∷ (rest ++ more)) })
      (stays_byte c more (spelt rest) (spelt (rest ++ more)) (spelt_stays rest more))
      (stays_bad more (c ∷ rest) (c ∷ (rest ++ more)) (omega (arith, length-append rest more)))))

  behind_stays : (rest more : List ℕ) → Stays more (spelt_escape rest) (spelt_escape (rest ++ more))
  behind_stays [] more = stays_unclosed more (spelt_escape more)
  behind_stays (c ∷ rest) more =
      stays_escape (escaped c) more (92 ∷ c ∷ rest) (92 ∷ c ∷ (rest ++ more)) (spelt rest) (spelt (rest ++ more))
      (omega (arith, length-append rest more)) (spelt_stays rest more)

-- ---- what is left is the end of the text

abbrev pub EndsSpelt : List ℕ → Result (List ℕ) Flaw → Type 0
EndsSpelt text (Ok rest) = Ends text rest
EndsSpelt text (Err f) = Unit {0}

spelt_either_ends : (b : Bool) (text : List ℕ) (x y : Spelt) → EndsSpelt text x.end → EndsSpelt text y.end → EndsSpelt text (cond b x y).end
spelt_either_ends true text x y p q = p
spelt_either_ends false text x y p q = q

spelt_more : (c : ℕ) (text : List ℕ) (r : Result (List ℕ) Flaw) → EndsSpelt text r → EndsSpelt (c ∷ text) r
spelt_more c text (Ok rest) p = ends_more c text rest p
spelt_more c text (Err f) p = tt

escape_ends : (o : Option ℕ) (text here : List ℕ) (s : Spelt) → EndsSpelt text s.end → EndsSpelt text (with_escape o s here).end
escape_ends None text here s p = tt
escape_ends (Some c) text here s p = p

mutual
  pub spelt_ends : (text : List ℕ) → EndsSpelt text (spelt text).end
  spelt_ends [] = tt
  spelt_ends (c ∷ rest) =
      spelt_either_ends (eqb c 34) (c ∷ rest) (record { text = []; end = Ok rest }) _ (c ∷ [], refl)
      (spelt_either_ends (eqb c 92) (c ∷ rest) (spelt_escape rest) _ (spelt_more c rest (spelt_escape rest).end (behind_ends rest))
      (spelt_either_ends (leb 32 c && leb c 126) (c ∷ rest) (with_byte c (spelt rest))
      (record { text = []; end = flaw BadString (c ∷ rest) }) (spelt_more c rest (spelt rest).end (spelt_ends rest)) tt))

  behind_ends : (rest : List ℕ) → EndsSpelt rest (spelt_escape rest).end
  behind_ends [] = tt
  behind_ends (c ∷ rest) =
      escape_ends (escaped c) (c ∷ rest) (92 ∷ c ∷ rest) (spelt rest) (spelt_more c rest (spelt rest).end (spelt_ends rest))

-- ---- each flaw

abbrev pub EachSpelt : (Flaw → Type 0) → Result (List ℕ) Flaw → Type 0
EachSpelt P (Ok rest) = Unit {0}
EachSpelt P (Err f) = P f

spelt_either_each : (P : Flaw → Type 0) (b : Bool) (x y : Spelt) → EachSpelt P x.end → EachSpelt P y.end → EachSpelt P (cond b x y).end
spelt_either_each P true x y p q = p
spelt_either_each P false x y p q = q

escape_each : (P : Flaw → Type 0) → Of P BadString → (o : Option ℕ) (here : List ℕ) (s : Spelt) → EachSpelt P s.end
    → EachSpelt P (with_escape o s here).end
escape_each P bad None here s p = bad (length here)
escape_each P bad (Some c) here s p = p

mutual
  pub spelt_each : (P : Flaw → Type 0) → Of P BadString → P (record { kind = Unclosed; left = 0 }) → (text : List ℕ)
      → EachSpelt P (spelt text).end
  spelt_each P bad unclosed [] = unclosed
  spelt_each P bad unclosed (c ∷ rest) =
      spelt_either_each P (eqb c 34) (record { text = []; end = Ok rest }) _ tt
      (spelt_either_each P (eqb c 92) (spelt_escape rest) _ (behind_each P bad unclosed rest)
      (spelt_either_each P (leb 32 c && leb c 126) (with_byte c (spelt rest)) (record { text = []; end = flaw BadString (c ∷ rest) })
      (spelt_each P bad unclosed rest) (bad (suc (length rest)))))

  behind_each : (P : Flaw → Type 0) → Of P BadString → P (record { kind = Unclosed; left = 0 }) → (text : List ℕ)
      → EachSpelt P (spelt_escape text).end
  behind_each P bad unclosed [] = unclosed
  behind_each P bad unclosed (c ∷ rest) = escape_each P bad (escaped c) (92 ∷ c ∷ rest) (spelt rest) (spelt_each P bad unclosed rest)

-- ---- what is printed is read again

printable : (c : ℕ) → ((leb 32 c && leb c 126) || (c == 10 || (c == 9 || (c == 8 || c == 13)))) ≡ true → (c == 10) ≡ false
    → (c == 9) ≡ false → (c == 8) ≡ false → (c == 13) ≡ false → (leb 32 c && leb c 126) ≡ true
printable c h e1 e2 e3 e4 = by (leb 32 c && leb c 126) (c == 10) (c == 9) (c == 8) (c == 13) h e1 e2 e3 e4 where
  by : (b d e f g : Bool) → (b || (d || (e || (f || g)))) ≡ true → d ≡ false → e ≡ false → f ≡ false → g ≡ false → b ≡ true
  by true d e f g h p q r s = refl
  by false true e f g h p q r s = absurd cc
  by false false true f g h p q r s = absurd cc
  by false false false true g h p q r s = absurd cc
  by false false false false true h p q r s = absurd cc
  by false false false false false h p q r s = absurd cc

-- the bytes that a string may spell
abbrev pub is_spelt : ℕ → Bool
is_spelt c = (leb 32 c && leb c 126) || (c == 10 || (c == 9 || (c == 8 || c == 13)))

spelling_again : (c : ℕ) (rest : List ℕ) → is_spelt c ≡ true → spelt (spelling c ++ rest) ≡ with_byte c (spelt rest)
spelling_again c rest h = by (c == 10) (c == 92) (c == 34) (c == 9) (c == 8) (c == 13) refl refl refl refl refl refl where
  by : (b1 b2 b3 b4 b5 b6 : Bool) → (c == 10) ≡ b1 → (c == 92) ≡ b2 → (c == 34) ≡ b3 → (c == 9) ≡ b4 → (c == 8) ≡ b5 → (c == 13) ≡ b6
      → spelt (cond b1 (92 ∷ 110 ∷ []) (cond b2 (92 ∷ 92 ∷ []) (cond b3 (92 ∷ 34 ∷ [])
      (cond b4 (92 ∷ 116 ∷ []) (cond b5 (92 ∷ 98 ∷ []) (cond b6 (92 ∷ 114 ∷ []) (c ∷ [])))))) ++ rest) ≡ with_byte c (spelt rest)
  by true b2 b3 b4 b5 b6 e1 e2 e3 e4 e5 e6 = ap (λ x. with_byte x (spelt rest)) (sym (eqb-true c 10 e1))
  by false true b3 b4 b5 b6 e1 e2 e3 e4 e5 e6 = ap (λ x. with_byte x (spelt rest)) (sym (eqb-true c 92 e2))
  by false false true b4 b5 b6 e1 e2 e3 e4 e5 e6 = ap (λ x. with_byte x (spelt rest)) (sym (eqb-true c 34 e3))
  by false false false true b5 b6 e1 e2 e3 e4 e5 e6 = ap (λ x. with_byte x (spelt rest)) (sym (eqb-true c 9 e4))
  by false false false false true b6 e1 e2 e3 e4 e5 e6 = ap (λ x. with_byte x (spelt rest)) (sym (eqb-true c 8 e5))
  by false false false false false true e1 e2 e3 e4 e5 e6 = ap (λ x. with_byte x (spelt rest)) (sym (eqb-true c 13 e6))
  by false false false false false false e1 e2 e3 e4 e5 e6 =
      let plain : (leb 32 c && leb c 126) ≡ true = printable c h e1 e4 e5 e6 in
      rw (e3, e2, plain) refl

pub string_spelt : (s rest : List ℕ) → IsAll is_spelt s → spelt (string_text s ++ rest) ≡ record { text = s; end = Ok rest }
string_spelt [] rest h = refl
string_spelt (c ∷ s) rest h =
    ap spelt (append_assoc (spelling c) (string_text s) rest) ∙ spelling_again c (string_text s ++ rest) h.0
    ∙ ap (with_byte c) (string_spelt s rest h.1)

-- ---- what was read

abbrev SpeltWell : Option ℕ → Type 0
SpeltWell None = Unit {0}
SpeltWell (Some c) = is_spelt c ≡ true

well_either : (b : Bool) (x y : Option ℕ) → SpeltWell x → SpeltWell y → SpeltWell (cond b x y)
well_either true x y p q = p
well_either false x y p q = q

escaped_well : (c : ℕ) → SpeltWell (escaped c)
escaped_well c =
    well_either (c == 110) (Some 10) _ refl (well_either (c == 92) (Some 92) _ refl (well_either (c == 34) (Some 34) _ refl
    (well_either (c == 116) (Some 9) _ refl (well_either (c == 98) (Some 8) _ refl (well_either (c == 114) (Some 13) None refl tt)))))

abbrev Well : Spelt → Type 0
Well s = IsAll is_spelt s.text

well_of : (b : Bool) (x y : Spelt) → (b ≡ true → Well x) → (b ≡ false → Well y) → Well (cond b x y)
well_of true x y p q = p refl
well_of false x y p q = q refl

visible : (c : ℕ) → (leb 32 c && leb c 126) ≡ true → is_spelt c ≡ true
visible c h = by (leb 32 c && leb c 126) h where
  by : (b : Bool) → b ≡ true → (b || (c == 10 || (c == 9 || (c == 8 || c == 13)))) ≡ true
  by true h = refl
  by false h = cc

well_escape : (o : Option ℕ) (s : Spelt) (here : List ℕ) → SpeltWell o → Well s → Well (with_escape o s here)
well_escape None s here p q = tt
well_escape (Some c) s here p q = (p, q)

mutual
  pub spelt_well : (text : List ℕ) → Well (spelt text)
  spelt_well [] = tt
  spelt_well (c ∷ rest) =
      well_of (eqb c 34) (record { text = []; end = Ok rest }) _ (λ _. tt)
      (λ _. well_of (eqb c 92) (spelt_escape rest) _ (λ _. behind_well rest)
      (λ _. well_of (leb 32 c && leb c 126) (with_byte c (spelt rest)) (record { text = []; end = flaw BadString (c ∷ rest) })
      (λ h. (visible c h, spelt_well rest)) (λ _. tt)))

  behind_well : (rest : List ℕ) → Well (spelt_escape rest)
  behind_well [] = tt
  behind_well (c ∷ rest) = well_escape (escaped c) (spelt rest) (92 ∷ c ∷ rest) (escaped_well c) (spelt_well rest)
