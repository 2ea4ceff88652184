-- Strings, of what they spell.
use Rattle.std.proofs.Common.{◌≡◌, ℕ, suc, ◌+◌, ◌-◌, ◌≤◌, ◌<◌, Bool, true, false, cond, ltb, List, [], ◌∷◌, ◌++◌, length, take, drop, Result, Ok, Err, refl, sym, ap, subst, ◌∙◌, append_assoc, arith}
use Rattle.std.proofs.lemmas.List.{length-drop, length-append, take_all, append-nil}
use Rattle.std.proofs.lemmas.Bool.{ltb-true, ltb-false, lt-ltb, le-ltb}
use Rattle.std.proofs.lemmas.List.Sums.{prefix_len-le-length}
use Rattle.rules_text.specs.nodes.Limits.{byte_limit}
use Rattle.rules_text.specs.text.Token.{Token}
use Rattle.rules_text.specs.declared.text.TextKind.TheVariants.{BadString, TooLong, Unclosed}
use Rattle.rules_text.specs.text.Fault.{Flaw}
use Rattle.rules_text.specs.text.Lexical.{flaw, Spelt, spelt, with_byte, string_at, ◌>>=◌, token_at}
use Rattle.rules_text.specs.declared.text.TextKind.{TextKind}
use Rattle.rules_text.specs.text.Printed.{string_text}
use Rattle.mich_text.specs.Shown.{Counts}
use Rattle.mich_text.proofs.tokens.ByteRuns.{IsAll}
use Rattle.mich_text.proofs.tokens.Properties.{Each, EndsRead, IsAhead, IsCut, IsShown, IsStable, Of, Reads, at_first, each_either, either_ahead, either_reads, ends_more, limited_stable, limited_stable_end, moved, read_either}
use Rattle.mich_text.proofs.tokens.Spelling.{EachSpelt, EndsCut, EndsSame, EndsSpelt, EndsWithin, Stays, is_spelt, spelt_cut, spelt_each, spelt_ends, spelt_stable, spelt_stays, spelt_well, spelt_within, string_spelt}

-- ---- step by step

pub ruleset prefix_laws = (prefix_len-le-length)

pub ruleset test_laws = (le-ltb, lt-ltb)

-- what was spelt before, and what is spelt still
abbrev pub prepend : List ℕ → Spelt → Spelt
prepend xs s = record { text = xs ++ s.text; end = s.end }

pub prepend_more : (xs : List ℕ) (c : ℕ) (s whole : Spelt) → prepend xs (with_byte c s) ≡ whole → prepend (xs ++ c ∷ []) s ≡ whole
prepend_more xs c s whole e = ap (λ (t : List ℕ). record { text = t; end = s.end }) (append_assoc xs (c ∷ []) s.text) ∙ e

pub string_ends : (text xs : List ℕ) (s : Spelt) → prepend xs s ≡ spelt (drop 1 text) → length xs ≤ byte_limit → s.text ≡ []
    → string_at text ≡ (s.end >>= λ rest. Ok (xs, rest))
unfolding string_at
string_ends text xs s e h n =
    let same : spelt (drop 1 text) ≡ record { text = xs; end = s.end } = sym e
    ∙ rw n (ap (λ (t : List ℕ). record { text = t; end = s.end }) (append-nil xs)) in
    let short : ltb byte_limit (length xs) ≡ false = le-ltb _ _ h in
    rw (same, short) refl

pub string_long : (text xs : List ℕ) (s : Spelt) → prepend xs s ≡ spelt (drop 1 text) → byte_limit < length xs + length s.text
    → string_at text ≡ flaw TooLong text
unfolding string_at
string_long text xs s e h =
    let long : ltb byte_limit (length (xs ++ s.text)) ≡ true = lt-ltb _ _ (rw length-append h) in
    rw (← e, long) refl

pub string_begins : (text items : List ℕ) → items ≡ [] → prepend items (spelt (take (length text - 1) (drop 1 text))) ≡ spelt (drop 1 text)
string_begins text items e =
    let all : take (length text - 1) (drop 1 text) ≡ drop 1 text = take_all (length text - 1) (drop 1 text)
    (omega (arith, length-drop 1 text)) in
    rw (e, all) refl

-- ---- what is read lies further on

end_ahead : (n : ℕ) (text : List ℕ) (r : Result (List ℕ) Flaw) → EndsWithin n r → IsAhead (suc n) (r >>= λ rest. Ok (text, rest))
end_ahead n text (Ok rest) p = omega arith
end_ahead n text (Err f) p = (omega (arith, p.0), p.1)

pub string_ahead : (c : ℕ) (rest : List ℕ) → IsAhead (suc (length rest)) (string_at (c ∷ rest))
unfolding string_at
string_ahead c rest =
    either_ahead (ltb byte_limit (length (spelt rest).text)) (suc (length rest)) _ _ (λ _. (omega arith, refl))
    (λ _. end_ahead (length rest) (spelt rest).text (spelt rest).end (spelt_within (length rest) rest (omega arith)))

-- ---- with more bytes behind it

string_stable_by : (more text : List ℕ) (end : Result (List ℕ) Flaw) (again : Spelt) (d e : Flaw) → EndsSame more end text again
    → IsStable more (cond (ltb byte_limit (length text)) (Err d) (end >>= λ rest. Ok (text, rest)))
    (cond (ltb byte_limit (length again.text)) (Err e) (again.end >>= λ rest. Ok (again.text, rest)))
string_stable_by more text (Ok []) again d e p = limited_stable_end (ltb byte_limit (length text)) more d text _
string_stable_by more text (Ok (c ∷ rest)) again d e p = rw p (limited_stable (ltb byte_limit (length text)) more d e text c rest)
string_stable_by more text (Err f) again d e p = unclosed (ltb byte_limit (length text)) where
  unclosed : (b : Bool) → IsStable more (cond b (Err d) (Err f))
      (cond (ltb byte_limit (length again.text)) (Err e) (again.end >>= λ rest. Ok (again.text, rest)))
  unclosed true = tt
  unclosed false = tt

pub string_stable : (c : ℕ) (xs more : List ℕ) → IsStable more (string_at (c ∷ xs)) (string_at (c ∷ (xs ++ more)))
unfolding string_at
string_stable c xs more = string_stable_by more (spelt xs).text (spelt xs).end (spelt (xs ++ more)) _ _ (spelt_stable xs more)

-- ---- in a front of the text

string_made_cut : (s : Spelt) (text b : List ℕ) (d : Flaw) → s ≡ record { text = text; end = Ok b } → ltb byte_limit (length text) ≡ false
    → cond {A = Result (List ℕ × List ℕ) Flaw} (ltb byte_limit (length s.text)) (Err d) (s.end >>= λ rest. Ok (s.text, rest)) ≡ Ok (text, b)
string_made_cut s text b d e h =
    ap (λ (s : Spelt). cond {A = Result (List ℕ × List ℕ) Flaw} (ltb byte_limit (length s.text)) (Err d)
    (s.end >>= λ rest. Ok (s.text, rest))) e ∙ ap (λ (t : Bool). cond {A = Result (List ℕ × List ℕ) Flaw} t (Err d) (Ok (text, b))) h

string_cut_by : (t : Bool) (more : List ℕ) (front : Spelt) (text : List ℕ) (end : Result (List ℕ) Flaw) (d e : Flaw)
    → ltb byte_limit (length text) ≡ t → EndsCut more front text end
    → IsCut more (cond (ltb byte_limit (length front.text)) (Err d) (front.end >>= λ rest. Ok (front.text, rest)))
    (cond t (Err e) (end >>= λ rest. Ok (text, rest)))
string_cut_by true more front text end d e h p = tt
string_cut_by false more front text (Ok behind) d e h p = λ g. let x = p g in (x.0, x.1, string_made_cut front text x.0 d x.2 h)
string_cut_by false more front text (Err f) d e h p = tt

pub string_cut : (c : ℕ) (xs more : List ℕ) → IsCut more (string_at (c ∷ xs)) (string_at (c ∷ (xs ++ more)))
unfolding string_at
string_cut c xs more =
    string_cut_by (ltb byte_limit (length (spelt (xs ++ more)).text)) more (spelt xs) (spelt (xs ++ more)).text
    (spelt (xs ++ more)).end _ _ refl (spelt_cut xs more)

-- ---- a flaw that some bytes show

abbrev string_of : List ℕ → Spelt → Result (List ℕ × List ℕ) Flaw
string_of text s = cond (ltb byte_limit (length s.text)) (flaw TooLong text) (s.end >>= λ rest. Ok (s.text, rest))

not_unclosed : (text : List ℕ) (kind : TextKind) → Counts text kind → kind ≡ Unclosed → ⊥
not_unclosed text kind c e = subst (Counts text) e c

string_end_shown : (text more : List ℕ) (spelling : List ℕ) (end : Result (List ℕ) Flaw) (again : Spelt)
    → ltb byte_limit (length spelling) ≡ false → Stays more (record { text = spelling; end = end }) again
    → IsShown text more (end >>= λ rest. Ok (spelling, rest)) (string_of (text ++ more) again)
string_end_shown text more spelling (Ok rest) again h p = tt
string_end_shown text more spelling (Err f) again h p =
    λ c. ap (string_of (text ++ more)) (p.1 f refl (not_unclosed text f.kind c))
    ∙ ap (λ (t : Bool). cond {A = Result (List ℕ × List ℕ) Flaw} t (flaw TooLong (text ++ more)) (Err (moved (length more) f))) h

string_shown_by : (t : Bool) (text more : List ℕ) (s again : Spelt) → ltb byte_limit (length s.text) ≡ t → Stays more s again
    → IsShown text more (cond t (flaw TooLong text) (s.end >>= λ rest. Ok (s.text, rest))) (string_of (text ++ more) again)
string_shown_by true text more s again h p =
    λ _. ap (λ (t : Bool). cond {A = Result (List ℕ × List ℕ) Flaw} t (flaw TooLong (text ++ more))
    (again.end >>= λ rest. Ok (again.text, rest))) (lt-ltb byte_limit (length again.text)
    (omega (arith, p.0, ltb-true byte_limit (length s.text) h))) ∙ at_first TooLong text more
string_shown_by false text more s again h p = string_end_shown text more s.text s.end again h p

pub string_shown : (c : ℕ) (xs more : List ℕ) → IsShown (c ∷ xs) more (string_at (c ∷ xs)) (string_at (c ∷ (xs ++ more)))
unfolding string_at
string_shown c xs more =
    string_shown_by (ltb byte_limit (length (spelt xs).text)) (c ∷ xs) more (spelt xs) (spelt (xs ++ more)) refl (spelt_stays xs more)

-- ---- what is left is the end of the text

string_made_ends : (c : ℕ) (rest text : List ℕ) (end : Result (List ℕ) Flaw) → EndsSpelt rest end
    → EndsRead (c ∷ rest) (end >>= λ more. Ok (text, more))
string_made_ends c rest text (Ok more) p = ends_more c rest more p
string_made_ends c rest text (Err f) p = tt

pub string_read_ends : (c : ℕ) (rest : List ℕ) → EndsRead (c ∷ rest) (string_at (c ∷ rest))
unfolding string_at
string_read_ends c rest =
    read_either (ltb byte_limit (length (spelt rest).text)) (c ∷ rest) (flaw TooLong (c ∷ rest))
    ((spelt rest).end >>= λ more. Ok ((spelt rest).text, more)) tt
    (string_made_ends c rest (spelt rest).text (spelt rest).end (spelt_ends rest))

-- ---- each flaw

string_made_each : (P : Flaw → Type 0) (text : List ℕ) (end : Result (List ℕ) Flaw) → EachSpelt P end
    → Each P (end >>= λ more. Ok (text, more))
string_made_each P text (Ok more) p = tt
string_made_each P text (Err f) p = p

pub string_each : (P : Flaw → Type 0) → Of P TooLong → Of P BadString → P (record { kind = Unclosed; left = 0 }) → (text : List ℕ)
    → Each P (string_at text)
unfolding string_at
string_each P long bad unclosed text =
    each_either P (ltb byte_limit (length (spelt (drop 1 text)).text)) (flaw TooLong text) _ (long (length text))
    (string_made_each P (spelt (drop 1 text)).text (spelt (drop 1 text)).end (spelt_each P bad unclosed (drop 1 text)))

-- ---- what is printed is read again

pub string_token : (s rest : List ℕ) → IsAll is_spelt s → length s ≤ byte_limit
    → token_at (34 ∷ (string_text s ++ rest)) ≡ Ok (Token.string s, rest)
unfolding token_at string_at
string_token s rest h short =
    let fits : ltb byte_limit (length s) ≡ false = le-ltb _ _ short in
    rw (string_spelt s rest h, fits) refl

-- ---- what was read

abbrev pub IsString : List ℕ → Type 0
IsString s = IsAll is_spelt s × (length s ≤ byte_limit)

string_end_reads : (text : List ℕ) (end : Result (List ℕ) Flaw) → IsString text → Reads IsString (end >>= λ rest. Ok (text, rest))
string_end_reads text (Ok rest) h = h
string_end_reads text (Err f) h = tt

pub string_reads : (c : ℕ) (rest : List ℕ) → Reads IsString (string_at (c ∷ rest))
unfolding string_at
string_reads c rest =
    either_reads IsString (ltb byte_limit (length (spelt rest).text)) (flaw TooLong (c ∷ rest))
    ((spelt rest).end >>= λ more. Ok ((spelt rest).text, more)) (λ _. tt)
    (λ h. string_end_reads (spelt rest).text (spelt rest).end (spelt_well rest, ltb-false byte_limit (length (spelt rest).text) h))
