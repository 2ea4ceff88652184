-- Names: a letter or `_`, and the bytes of a name behind it.
use Rattle.std.specs.Prelude.{◌==◌}
use Rattle.std.proofs.Common.{◌≡◌, ℕ, zero, suc, ◌≤◌, ◌<◌, Bool, true, false, cond, ◌||◌, eqb, ltb, List, [], ◌∷◌, ◌++◌, length, take, drop, Some, None, Result, Ok, Err, refl, ap, ◌∙◌, arith}
use Rattle.std.proofs.lemmas.List.{length-drop, length-take, take_at, drop_at}
use Rattle.std.specs.List.{prefix_len}
use Rattle.std.specs.Char.{is_ascii_alphabetic}
use Rattle.std.proofs.lemmas.Bool.{ltb-true, ltb-false, lt-ltb, le-ltb}
use Rattle.std.proofs.lemmas.Bool.Decides.{nat_tests}
use Rattle.rules_text.specs.nodes.Limits.{name_limit}
use Rattle.rules_text.specs.text.Token.{Token}
use Rattle.rules_text.specs.declared.text.Shape.TheVariants.{Digits, Quoted, Word, Note, OpenBrace, CloseBrace, OpenParen, CloseParen, Semicolon}
use Rattle.rules_text.specs.declared.text.TextKind.TheVariants.{TooLong}
use Rattle.rules_text.specs.text.Fault.{Flaw}
use Rattle.rules_text.specs.text.Lexical.{flaw, is_word, begins_word, name_at, made, shape_at, shape_of, token_at, first_shape}
use Rattle.mich_text.proofs.tokens.ByteRuns.{IsAll, IsApart, prefix_grows, prefix_some, run_all, run_cut, run_ends, run_stable}
use Rattle.mich_text.proofs.tokens.Gaps.{is_solid}
use Rattle.mich_text.proofs.tokens.Properties.{Each, EndsRead, IsAhead, IsCut, IsShown, IsStable, Of, Reads, at_first, dropped, each_either, either_ahead, either_reads, limited_cut, limited_cut_end, limited_stable, limited_stable_end, read_either, wrong}

-- a byte of this shape is a letter or `_`
pub word_is : (c : ℕ) → shape_of c ≡ Some Word → is_word c ≡ true
word_is c e = letter (by _ _ _ _ _ _ _ _ _ e) where
  by : (a b d f g h i j k : Bool) → cond a (Some Digits) (cond b (Some Quoted) (cond d (Some Word) (cond f (Some Note) (cond g
      (Some OpenBrace) (cond h (Some CloseBrace)
      (cond i (Some OpenParen) (cond j (Some CloseParen) (cond k (Some Semicolon) None)))))))) ≡ Some Word → d ≡ true
  by a b true f g h i j k e = refl
  by true b false f g h i j k e = absurd cc
  by false true false f g h i j k e = absurd cc
  by false false false true g h i j k e = absurd cc
  by false false false false true h i j k e = absurd cc
  by false false false false false true i j k e = absurd cc
  by false false false false false false true j k e = absurd cc
  by false false false false false false false true k e = absurd cc
  by false false false false false false false false true e = absurd cc
  by false false false false false false false false false e = absurd cc

  letter : (is_ascii_alphabetic c || eqb c 95) ≡ true → is_word c ≡ true
  letter h = grind (arith, nat_tests, h)

word_apart : (c : ℕ) → (c == 32 || c == 41) ≡ true → is_word c ≡ false
word_apart c h = grind (arith, nat_tests, h)

pub no_word : (rest : List ℕ) → IsApart rest → begins_word rest ≡ false
no_word [] a = refl
no_word (c ∷ rest) a = word_apart c a

pub word_solid : (c : ℕ) → is_word c ≡ true → is_solid c ≡ true
word_solid c h = grind (arith, nat_tests, h)

pub begins_some : (l : List ℕ) → begins_word l ≡ true → 0 < length l
begins_some [] e = cc
begins_some (c ∷ l) e = omega arith

pub begins_more : (l more : List ℕ) → 0 < length l → begins_word (l ++ more) ≡ begins_word l
begins_more [] more h = absurd (omega (arith, h))
begins_more (c ∷ l) more h = refl

-- ---- what is read lies further on

pub name_ahead : (c : ℕ) (rest : List ℕ) → is_word c ≡ true → IsAhead (suc (length rest)) (name_at (c ∷ rest))
unfolding name_at
name_ahead c rest e =
    let n = prefix_len is_word (c ∷ rest) in
    either_ahead (ltb name_limit n) (suc (length rest)) _ _ (λ _. (omega arith, refl))
    (λ _. omega (arith, prefix_some is_word c rest e, length-drop n (c ∷ rest)))

-- ---- with more bytes behind it

pub name_stable : (text more : List ℕ) → IsStable more (name_at text) (name_at (text ++ more))
unfolding name_at
name_stable text more =
    run_stable (λ n front rest. cond (ltb name_limit n) (Err (wrong text)) (Ok (front, rest)))
    (λ n front rest. cond (ltb name_limit n) (Err (wrong (text ++ more))) (Ok (front, rest))) is_word text more
    (λ n front c rest. limited_stable (ltb name_limit n) more _ _ front c rest)
    (λ n front again. limited_stable_end (ltb name_limit n) more _ front again)

-- ---- in a front of the text

pub name_cut : (text more : List ℕ) → IsCut more (name_at text) (name_at (text ++ more))
unfolding name_at
name_cut text more =
    run_cut (λ n front rest. cond (ltb name_limit n) (Err (wrong text)) (Ok (front, rest)))
    (λ n front rest. cond (ltb name_limit n) (Err (wrong (text ++ more))) (Ok (front, rest))) is_word text more
    (λ n front c rest. limited_cut (ltb name_limit n) more _ _ front c rest)
    (λ n front rest other h. limited_cut_end (ltb name_limit n) more _ front rest other h)

-- ---- a flaw that some bytes show

pub long_by : {A : Type 0} (t : Bool) (text more : List ℕ) (n m : ℕ) (x y : A × List ℕ) → ltb name_limit n ≡ t → n ≤ m
    → IsShown text more (cond t (flaw TooLong text) (Ok x)) (cond (ltb name_limit m) (flaw TooLong (text ++ more)) (Ok y))
long_by {A} true text more n m x y e h =
    λ _. ap (λ (t : Bool). cond {A = Result (A × List ℕ) Flaw} t (flaw TooLong (text ++ more)) (Ok y))
    (lt-ltb name_limit m (omega (arith, h, ltb-true name_limit n e))) ∙ at_first TooLong text more
long_by false text more n m x y e h = tt

pub name_shown : (text more : List ℕ) → IsShown text more (name_at text) (name_at (text ++ more))
unfolding name_at
name_shown text more =
    long_by (ltb name_limit (prefix_len is_word text)) text more (prefix_len is_word text) (prefix_len is_word (text ++ more)) _ _ refl
    (prefix_grows is_word text more)

-- ---- what is left is the end of the text

pub name_ends : (text : List ℕ) → EndsRead text (name_at text)
unfolding name_at
name_ends text =
    read_either (ltb name_limit (prefix_len is_word text)) text (flaw TooLong text)
    (Ok (take (prefix_len is_word text) text, drop (prefix_len is_word text) text)) tt (dropped (prefix_len is_word text) text)

-- ---- each flaw

pub name_each : (P : Flaw → Type 0) → Of P TooLong → (text : List ℕ) → Each P (name_at text)
unfolding name_at
name_each P long text = each_either P (ltb name_limit (prefix_len is_word text)) (flaw TooLong text) (Ok _) (long (length text)) tt

-- ---- what is printed is read again

pub record IsName (n : List ℕ) : Type 0 where
  pub first : first_shape n ≡ Some Word
  pub all : IsAll is_word n
  pub short : length n ≤ name_limit

name_again : (n rest : List ℕ) → IsName n → IsApart rest → name_at (n ++ rest) ≡ Ok (n, rest)
unfolding name_at
name_again n rest p a =
    let run : prefix_len is_word (n ++ rest) ≡ length n = run_ends is_word n rest p.all word_apart a in
    let short : ltb name_limit (length n) ≡ false = le-ltb _ _ p.short in
    rw (run, short, take_at n rest (length n) refl, drop_at n rest (length n) refl) refl

pub name_token : (n rest : List ℕ) → IsName n → IsApart rest → token_at (n ++ rest) ≡ Ok (Token.name n, rest)
unfolding token_at
name_token [] rest p a = absurd (cc p.first)
name_token (c ∷ n) rest p a = ap (λ o. shape_at o (c ∷ (n ++ rest))) p.first ∙ ap (made Token.name) (name_again (c ∷ n) rest p a)

-- ---- what was read

first_take : (n : ℕ) (c : ℕ) (rest : List ℕ) → 0 < n → first_shape (take n (c ∷ rest)) ≡ shape_of c
first_take zero c rest h = absurd (omega (arith, h))
first_take (suc n) c rest h = refl

pub name_reads : (c : ℕ) (rest : List ℕ) → shape_of c ≡ Some Word → Reads IsName (name_at (c ∷ rest))
unfolding name_at
name_reads c rest e =
    let n = prefix_len is_word (c ∷ rest) in
    either_reads IsName (ltb name_limit n) (flaw TooLong (c ∷ rest)) (Ok (take n (c ∷ rest), drop n (c ∷ rest))) (λ _. tt)
    (λ h. record {
      first = first_take n c rest (prefix_some is_word c rest (word_is c e)) ∙ e;
      all = run_all is_word (c ∷ rest);
      short = omega (arith, length-take n (c ∷ rest), ltb-false name_limit n h);
    })
