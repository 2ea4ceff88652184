-- Annotations: their sign, and the bytes behind it.
use Rattle.std.specs.Prelude.{◌==◌}
use Rattle.std.proofs.Common.{◌≡◌, ℕ, suc, ◌+◌, ◌≤◌, true, false, cond, ◌||◌, ltb, List, ◌∷◌, ◌++◌, length, take, drop, Some, Ok, Err, refl, ap, ◌∙◌, add-one, arith}
use Rattle.std.proofs.lemmas.List.{length-drop, length-take, take_at, drop_at}
use Rattle.std.specs.List.{prefix_len}
use Rattle.std.proofs.lemmas.Bool.{ltb-false, le-ltb}
use Rattle.std.proofs.lemmas.Bool.Decides.{nat_tests}
use Rattle.rules_text.specs.nodes.Limits.{name_limit}
use Rattle.rules_text.specs.text.Token.{Token}
use Rattle.rules_text.specs.declared.text.Shape.TheVariants.{Note}
use Rattle.rules_text.specs.declared.text.TextKind.TheVariants.{TooLong}
use Rattle.rules_text.specs.text.Fault.{Flaw}
use Rattle.rules_text.specs.text.Lexical.{flaw, is_noted, annotation_at, made, shape_at, shape_of, token_at, first_shape}
use Rattle.mich_text.proofs.tokens.ByteRuns.{IsAll, IsApart, prefix_grows, run_all, run_cut, run_ends, run_stable}
use Rattle.mich_text.proofs.tokens.Gaps.{is_solid}
use Rattle.mich_text.proofs.tokens.Names.{long_by}
use Rattle.mich_text.proofs.tokens.Properties.{Each, EndsRead, IsAhead, IsCut, IsShown, IsStable, Of, Reads, dropped, each_either, either_ahead, either_reads, limited_cut, limited_cut_end, limited_stable, limited_stable_end, read_either, wrong}

noted_apart : (c : ℕ) → (c == 32 || c == 41) ≡ true → is_noted c ≡ false
noted_apart c h = grind (arith, nat_tests, h)

pub note_solid : (c : ℕ) → (c == 64 || (c == 58 || c == 37)) ≡ true → is_solid c ≡ true
note_solid c h = grind (arith, nat_tests, h)

-- ---- what is read lies further on

pub annotation_ahead : (c : ℕ) (rest : List ℕ) → IsAhead (suc (length rest)) (annotation_at (c ∷ rest))
unfolding annotation_at
annotation_ahead c rest =
    let n = prefix_len is_noted rest in
    either_ahead (ltb name_limit n) (suc (length rest)) _ _ (λ _. (omega arith, refl)) (λ _. omega (arith, length-drop (n + 1) (c ∷ rest)))

-- ---- with more bytes behind it

pub annotation_stable : (c : ℕ) (xs more : List ℕ) → IsStable more (annotation_at (c ∷ xs)) (annotation_at (c ∷ (xs ++ more)))
unfolding annotation_at
annotation_stable c xs more =
    rw (add-one, add-one) (run_stable (λ n front rest. cond (ltb name_limit n) (Err (wrong (c ∷ xs))) (Ok (c ∷ front, rest)))
    (λ n front rest. cond (ltb name_limit n) (Err (wrong (c ∷ (xs ++ more)))) (Ok (c ∷ front, rest))) is_noted xs more
    (λ n front d rest. limited_stable (ltb name_limit n) more _ _ (c ∷ front) d rest)
    (λ n front again. limited_stable_end (ltb name_limit n) more _ (c ∷ front) again))

-- ---- in a front of the text

pub annotation_cut : (c : ℕ) (xs more : List ℕ) → IsCut more (annotation_at (c ∷ xs)) (annotation_at (c ∷ (xs ++ more)))
unfolding annotation_at
annotation_cut c xs more =
    rw (add-one, add-one) (run_cut (λ n front rest. cond (ltb name_limit n) (Err (wrong (c ∷ xs))) (Ok (c ∷ front, rest)))
    (λ n front rest. cond (ltb name_limit n) (Err (wrong (c ∷ (xs ++ more)))) (Ok (c ∷ front, rest))) is_noted xs more
    (λ n front d rest. limited_cut (ltb name_limit n) more _ _ (c ∷ front) d rest)
    (λ n front rest other h. limited_cut_end (ltb name_limit n) more _ (c ∷ front) rest other h))

-- ---- a flaw that some bytes show

pub annotation_shown : (c : ℕ) (xs more : List ℕ) → IsShown (c ∷ xs) more (annotation_at (c ∷ xs)) (annotation_at (c ∷ (xs ++ more)))
unfolding annotation_at
annotation_shown c xs more =
    long_by (ltb name_limit (prefix_len is_noted xs)) (c ∷ xs) more (prefix_len is_noted xs) (prefix_len is_noted (xs ++ more)) _ _ refl
    (prefix_grows is_noted xs more)

-- ---- what is left is the end of the text

pub annotation_ends : (text : List ℕ) → EndsRead text (annotation_at text)
unfolding annotation_at
annotation_ends text =
    let n = prefix_len is_noted (drop 1 text) in
    read_either (ltb name_limit n) text (flaw TooLong text) (Ok (take (n + 1) text, drop (n + 1) text)) tt (dropped (n + 1) text)

-- ---- each flaw

pub annotation_each : (P : Flaw → Type 0) → Of P TooLong → (text : List ℕ) → Each P (annotation_at text)
unfolding annotation_at
annotation_each P long text =
    each_either P (ltb name_limit (prefix_len is_noted (drop 1 text))) (flaw TooLong text) (Ok _) (long (length text)) tt

-- ---- what is printed is read again

note_again : (c : ℕ) (cs rest : List ℕ) → IsAll is_noted cs → length cs ≤ name_limit → IsApart rest
    → annotation_at (c ∷ (cs ++ rest)) ≡ Ok (c ∷ cs, rest)
unfolding annotation_at
note_again c cs rest p short a =
    let run : prefix_len is_noted (cs ++ rest) ≡ length cs = run_ends is_noted cs rest p noted_apart a in
    let fits : ltb name_limit (length cs) ≡ false = le-ltb _ _ short in
    rw (run, fits, add-one, take_at cs rest (length cs) refl, drop_at cs rest (length cs) refl) refl

pub note_token : (c : ℕ) (cs rest : List ℕ) → shape_of c ≡ Some Note → IsAll is_noted cs → length cs ≤ name_limit → IsApart rest
    → token_at (c ∷ (cs ++ rest)) ≡ Ok (Token.annotation (c ∷ cs), rest)
unfolding token_at
note_token c cs rest e p short a = ap (λ o. shape_at o (c ∷ (cs ++ rest))) e ∙ ap (made Token.annotation) (note_again c cs rest p short a)

-- ---- what was read

-- an annotation: its sign, and at most 255 bytes behind it
pub record IsNote (a : List ℕ) : Type 0 where
  pub first : first_shape a ≡ Some Note
  pub all : IsAll is_noted (drop 1 a)
  pub short : length (drop 1 a) ≤ name_limit

pub annotation_reads : (c : ℕ) (rest : List ℕ) → shape_of c ≡ Some Note → Reads IsNote (annotation_at (c ∷ rest))
unfolding annotation_at
annotation_reads c rest e =
    let n = prefix_len is_noted rest in
    rw add-one (either_reads IsNote (ltb name_limit n) (flaw TooLong (c ∷ rest)) (Ok (c ∷ take n rest, drop n rest)) (λ _. tt)
    (λ h. record { first = e; all = run_all is_noted rest; short = omega (arith, length-take n rest, ltb-false name_limit n h) }))
