-- The `;` behind the tokens of a statement is the first outside of all brackets.
use Rattle.std.proofs.Common.{◌≡◌, ℕ, suc, ◌-◌, ◌<◌, Bool, true, false, cond, not, ◌||◌, ◌&&◌, eqb, List, [], ◌∷◌, ◌++◌, length, Option, Some, None, Result, Ok, Err, refl, sym, ap, subst, ◌∙◌, append_assoc, arith}
use Rattle.std.proofs.lemmas.Bool.{eqb-true}
use Rattle.std.proofs.lemmas.List.{append-nil}
use Rattle.std.specs.Char.{is_ascii_digit, is_ascii_alphabetic}
use Rattle.rules_text.specs.nodes.Tree.{Tree}
use Rattle.rules_text.specs.text.Fault.{Flaw}
use Rattle.rules_text.specs.text.Token.{Token}
use Rattle.rules_text.specs.text.Syntax.{Node, number, bytes, string, parens, braces, braces_to, Items, no_items, with_annotation, with_name, with_node, Element, alone, application, Separated, nothing, followed, node_tokens, item_tokens, element_tokens, separated_tokens}
use Rattle.rules_text.specs.declared.text.Shape.{Shape}
use Rattle.rules_text.specs.declared.text.Shape.TheVariants.{Digits, Quoted, Word, Note, OpenBrace, CloseBrace, OpenParen, CloseParen, Semicolon}
use Rattle.rules_text.specs.text.Lexical.{name_at, annotation_at, string_at, bytes_at, number_at, made, digits_at, shape_at, shape_of, token_at}
use Rattle.rules_text.specs.text.Text.{Leads, EndsAt, Stands}
use Rattle.mich_text.proofs.ForCallers.{token_shape_is}
use Rattle.mich_text.specs.declared.pieces.scan.Mode.TheVariants.{Outside}
use Rattle.mich_text.specs.pieces.Marks.{sign_at}
use Rattle.mich_text.proofs.pieces_lemmas.Signs.{gap_past, SameRead, name_signs, annotation_signs, string_signs, bytes_signs, number_signs}

-- ---- how deep a text is behind a token

abbrev depth_by : Token → ℕ → ℕ
depth_by (Token.number n) d = d
depth_by (Token.bytes b) d = d
depth_by (Token.string s) d = d
depth_by (Token.name n) d = d
depth_by (Token.annotation a) d = d
depth_by Token.open_brace d = suc d
depth_by Token.open_paren d = suc d
depth_by Token.close_brace d = d - 1
depth_by Token.close_paren d = d - 1
depth_by Token.semicolon d = d

-- it isn't the `;` that is looked for
abbrev is_inner : Token → ℕ → Bool
is_inner (Token.number n) d = true
is_inner (Token.bytes b) d = true
is_inner (Token.string s) d = true
is_inner (Token.name n) d = true
is_inner (Token.annotation a) d = true
is_inner Token.open_brace d = true
is_inner Token.open_paren d = true
is_inner Token.close_brace d = true
is_inner Token.close_paren d = true
is_inner Token.semicolon d = not (eqb d 0)

-- ---- one token

-- which of the tests on a first byte tells a shape
abbrev told : Shape → (a b d f g h i j k : Bool) → Bool
told Digits a b d f g h i j k = a
told Quoted a b d f g h i j k = b
told Word a b d f g h i j k = d
told Note a b d f g h i j k = f
told OpenBrace a b d f g h i j k = g
told CloseBrace a b d f g h i j k = h
told OpenParen a b d f g h i j k = i
told CloseParen a b d f g h i j k = j
told Semicolon a b d f g h i j k = k

some_is : (a b : Shape) → Some a ≡ Some b → a ≡ b
some_is a b e = cc

told_by : (a b d f g h i j k : Bool) (s : Shape) → cond a (Some Digits) (cond b (Some Quoted) (cond d (Some Word) (cond f (Some Note) (cond g (Some OpenBrace) (cond h (Some CloseBrace) (cond i (Some OpenParen) (cond j (Some CloseParen) (cond k (Some Semicolon) None)))))))) ≡ Some s
    → told s a b d f g h i j k ≡ true
told_by true b d f g h i j k s e = subst (λ (x : Shape). told x true b d f g h i j k ≡ true) (some_is Digits s e) refl
told_by false true d f g h i j k s e = subst (λ (x : Shape). told x false true d f g h i j k ≡ true) (some_is Quoted s e) refl
told_by false false true f g h i j k s e = subst (λ (x : Shape). told x false false true f g h i j k ≡ true) (some_is Word s e) refl
told_by false false false true g h i j k s e = subst (λ (x : Shape). told x false false false true g h i j k ≡ true) (some_is Note s e) refl
told_by false false false false true h i j k s e = subst (λ (x : Shape). told x false false false false true h i j k ≡ true) (some_is OpenBrace s e) refl
told_by false false false false false true i j k s e = subst (λ (x : Shape). told x false false false false false true i j k ≡ true) (some_is CloseBrace s e) refl
told_by false false false false false false true j k s e = subst (λ (x : Shape). told x false false false false false false true j k ≡ true) (some_is OpenParen s e) refl
told_by false false false false false false false true k s e = subst (λ (x : Shape). told x false false false false false false false true k ≡ true) (some_is CloseParen s e) refl
told_by false false false false false false false false true s e = subst (λ (x : Shape). told x false false false false false false false false true ≡ true) (some_is Semicolon s e) refl
told_by false false false false false false false false false s e = absurd cc

shape_told : (c : ℕ) (s : Shape) → shape_of c ≡ Some s
    → told s (is_ascii_digit c || eqb c 45) (eqb c 34) (is_ascii_alphabetic c || eqb c 95) (eqb c 64 || (eqb c 58 || eqb c 37)) (eqb c 123) (eqb c 125) (eqb c 40) (eqb c 41) (eqb c 59) ≡ true
shape_told c s e = told_by _ _ _ _ _ _ _ _ _ s e

abbrev SameToken : ℕ → List ℕ → Result (Token × List ℕ) Flaw → Type 0
SameToken depth text (Ok r) = is_inner r.0 depth ≡ true → sign_at Outside depth text ≡ sign_at Outside (depth_by r.0 depth) r.1
SameToken depth text (Err f) = Unit {0}

-- a token that changes no depth
abbrev IsFlat : {A : Type 0} → (A → Token) → ℕ → Type 0
IsFlat {A} f depth = (x : A) → depth_by (f x) depth ≡ depth

made_signs : {A : Type 0} (f : A → Token) (depth : ℕ) (text : List ℕ) (r : Result (A × List ℕ) Flaw) → IsFlat f depth → SameRead depth text r → SameToken depth text (made f r)
made_signs f depth text (Ok r) flat p = λ _. p ∙ ap (λ (d : ℕ). sign_at Outside d r.1) (sym (flat r.0))
made_signs f depth text (Err e) flat p = tt

both : (a b : Bool) → (a && b) ≡ true → (a ≡ true) × (b ≡ true)
both true b e = (refl, e)
both false b e = absurd cc

digits_signs : (depth : ℕ) (text : List ℕ) → SameToken depth text (digits_at text)
digits_signs depth [] = made_signs Token.number depth [] (number_at []) (λ x. refl) (number_signs depth [])
digits_signs depth (c ∷ []) = made_signs Token.number depth (c ∷ []) (number_at (c ∷ [])) (λ x. refl) (number_signs depth (c ∷ []))
digits_signs depth (c ∷ d ∷ rest) = by (eqb c 48 && eqb d 120) refl where
  from_bytes : SameToken depth (48 ∷ 120 ∷ rest) (made Token.bytes (bytes_at (48 ∷ 120 ∷ rest)))
  from_bytes = made_signs Token.bytes depth (48 ∷ 120 ∷ rest) (bytes_at (48 ∷ 120 ∷ rest)) (λ x. refl) (bytes_signs depth rest)

  by : (b : Bool) → (eqb c 48 && eqb d 120) ≡ b → SameToken depth (c ∷ d ∷ rest) (cond b (made Token.bytes (bytes_at (c ∷ d ∷ rest))) (made Token.number (number_at (c ∷ d ∷ rest))))
  by true e =
      let s = both (eqb c 48) (eqb d 120) e in
      subst (λ (x : ℕ). SameToken depth (x ∷ d ∷ rest) (made Token.bytes (bytes_at (x ∷ d ∷ rest)))) (sym (eqb-true c 48 s.0))
      (subst (λ (y : ℕ). SameToken depth (48 ∷ y ∷ rest) (made Token.bytes (bytes_at (48 ∷ y ∷ rest)))) (sym (eqb-true d 120 s.1)) from_bytes)
  by false e = made_signs Token.number depth (c ∷ d ∷ rest) (number_at (c ∷ d ∷ rest)) (λ x. refl) (number_signs depth (c ∷ d ∷ rest))

-- a byte that is the whole token
byte_is : (depth c k : ℕ) (t : Token) (rest : List ℕ) → eqb c k ≡ true → SameToken depth (k ∷ rest) (Ok (t, rest)) → SameToken depth (c ∷ rest) (Ok (t, rest))
byte_is depth c k t rest e p = subst (λ (x : ℕ). SameToken depth (x ∷ rest) (Ok (t, rest))) (sym (eqb-true c k e)) p

inner_sign : (depth : ℕ) (rest : List ℕ) → not (eqb depth 0) ≡ true → cond (eqb depth 0) (suc (length rest)) (sign_at Outside depth rest) ≡ sign_at Outside depth rest
inner_sign depth rest h = by (eqb depth 0) h where
  by : (b : Bool) → not b ≡ true → cond b (suc (length rest)) (sign_at Outside depth rest) ≡ sign_at Outside depth rest
  by true e = absurd cc
  by false e = refl

shape_signs : (depth c : ℕ) (rest : List ℕ) (o : Option Shape) → shape_of c ≡ o → SameToken depth (c ∷ rest) (shape_at o (c ∷ rest))
shape_signs depth c rest None e = tt
shape_signs depth c rest (Some Digits) e = digits_signs depth (c ∷ rest)
shape_signs depth c rest (Some Quoted) e = subst (λ (x : ℕ). SameToken depth (x ∷ rest) (made Token.string (string_at (x ∷ rest)))) (sym (eqb-true c 34 (shape_told c Quoted e)))
    (made_signs Token.string depth (34 ∷ rest) (string_at (34 ∷ rest)) (λ x. refl) (string_signs depth rest))
shape_signs depth c rest (Some Word) e = made_signs Token.name depth (c ∷ rest) (name_at (c ∷ rest)) (λ x. refl) (name_signs depth (c ∷ rest))
shape_signs depth c rest (Some Note) e = made_signs Token.annotation depth (c ∷ rest) (annotation_at (c ∷ rest)) (λ x. refl) (annotation_signs depth c rest (shape_told c Note e))
shape_signs depth c rest (Some OpenBrace) e = byte_is depth c 123 Token.open_brace rest (shape_told c OpenBrace e) (λ _. refl)
shape_signs depth c rest (Some CloseBrace) e = byte_is depth c 125 Token.close_brace rest (shape_told c CloseBrace e) (λ _. refl)
shape_signs depth c rest (Some OpenParen) e = byte_is depth c 40 Token.open_paren rest (shape_told c OpenParen e) (λ _. refl)
shape_signs depth c rest (Some CloseParen) e = byte_is depth c 41 Token.close_paren rest (shape_told c CloseParen e) (λ _. refl)
shape_signs depth c rest (Some Semicolon) e = byte_is depth c 59 Token.semicolon rest (shape_told c Semicolon e) (inner_sign depth rest)

token_past : (depth : ℕ) (text behind : List ℕ) (t : Token) → token_at text ≡ Ok (t, behind) → is_inner t depth ≡ true → sign_at Outside depth text ≡ sign_at Outside (depth_by t depth) behind
unfolding token_at
token_past depth [] behind t e = absurd cc
token_past depth (c ∷ rest) behind t e = subst (SameToken depth (c ∷ rest)) e (shape_signs depth c rest (shape_of c) refl)

-- ---- tokens

-- how deep a text is behind tokens, none of which is the `;` that is looked for
abbrev past : ℕ → List Token → Option ℕ
past d [] = Some d
past d (t ∷ ts) = cond (is_inner t d) (past (depth_by t d) ts) None

tokens_past : (text : List ℕ) (ts : List Token) (rest : List ℕ) (d e : ℕ) → Leads text ts (Some rest) → past d ts ≡ Some e → sign_at Outside d text ≡ sign_at Outside e rest
tokens_past text [] rest d e p h = gap_past d text rest p ∙ ap (λ (x : ℕ). sign_at Outside x rest) (same h) where
  same : Some d ≡ Some e → d ≡ e
  same f = cc f
tokens_past text (t ∷ ts) rest d e (here, behind, gap, read, tail) h =
    let x = by (is_inner t d) refl h in
    gap_past d text here gap ∙ token_past d here behind t read x.0 ∙ tokens_past behind ts rest (depth_by t d) e tail x.1
  where
    by : (b : Bool) → is_inner t d ≡ b → cond b (past (depth_by t d) ts) None ≡ Some e → (is_inner t d ≡ true) × (past (depth_by t d) ts ≡ Some e)
    by true f g = (f, g)
    by false f g = absurd (cc g)

-- ---- statements

closes : (d : ℕ) (us : List Token) → past (suc d - 1) us ≡ past d us
closes d us = let same : suc d - 1 ≡ d = omega arith in ap (λ (x : ℕ). past x us) same

goes_on : (d : ℕ) (us : List Token) → past (suc d) (Token.semicolon ∷ us) ≡ past (suc d) us
goes_on d us = by (eqb (suc d) 0) refl where
  by : (b : Bool) → eqb (suc d) 0 ≡ b → cond (not b) (past (suc d) us) None ≡ past (suc d) us
  by true e = absurd (omega (arith, eqb-true (suc d) 0 e))
  by false e = refl

mutual
  node_past : (n : Node) (d : ℕ) (us : List Token) → past d (node_tokens n ++ us) ≡ past d us
  node_past (number n) d us = refl
  node_past (bytes b) d us = refl
  node_past (string s) d us = refl
  node_past (parens n i) d us = ap (past (suc d)) (append_assoc (item_tokens i) (Token.close_paren ∷ []) us) ∙ items_past i (suc d) (Token.close_paren ∷ us) ∙ closes d us
  node_past (braces s) d us = ap (past (suc d)) (append_assoc (separated_tokens s) (Token.close_brace ∷ []) us) ∙ separated_past s d (Token.close_brace ∷ us) ∙ closes d us
  node_past (braces_to s e) d us =
      ap (past (suc d)) (append_assoc (separated_tokens s) (element_tokens e ++ Token.close_brace ∷ []) us ∙ ap (λ (l : List Token). separated_tokens s ++ l) (append_assoc (element_tokens e) (Token.close_brace ∷ []) us))
      ∙ separated_past s d (element_tokens e ++ Token.close_brace ∷ us) ∙ element_past e (suc d) (Token.close_brace ∷ us) ∙ closes d us

  items_past : (i : Items) (d : ℕ) (us : List Token) → past d (item_tokens i ++ us) ≡ past d us
  items_past no_items d us = refl
  items_past (with_annotation i a) d us = ap (past d) (append_assoc (item_tokens i) (Token.annotation a ∷ []) us) ∙ items_past i d (Token.annotation a ∷ us)
  items_past (with_name i n) d us = ap (past d) (append_assoc (item_tokens i) (Token.name n ∷ []) us) ∙ items_past i d (Token.name n ∷ us)
  items_past (with_node i n) d us = ap (past d) (append_assoc (item_tokens i) (node_tokens n) us) ∙ items_past i d (node_tokens n ++ us) ∙ node_past n d us

  element_past : (e : Element) (d : ℕ) (us : List Token) → past d (element_tokens e ++ us) ≡ past d us
  element_past (alone n) d us = node_past n d us
  element_past (application n i) d us = items_past i d us

  -- in brackets
  separated_past : (s : Separated) (d : ℕ) (us : List Token) → past (suc d) (separated_tokens s ++ us) ≡ past (suc d) us
  separated_past nothing d us = refl
  separated_past (followed s e) d us =
      ap (past (suc d)) (append_assoc (separated_tokens s) (element_tokens e ++ Token.semicolon ∷ []) us ∙ ap (λ (l : List Token). separated_tokens s ++ l) (append_assoc (element_tokens e) (Token.semicolon ∷ []) us))
      ∙ separated_past s d (element_tokens e ++ Token.semicolon ∷ us) ∙ element_past e (suc d) (Token.semicolon ∷ us) ∙ goes_on d us

pub statement_past : (text rest : List ℕ) (e : Element) → Leads text (element_tokens e) (Some rest) → sign_at Outside 0 text ≡ sign_at Outside 0 rest
statement_past text rest e p = tokens_past text (element_tokens e) rest 0 0 p (ap (past 0) (sym (append-nil (element_tokens e))) ∙ element_past e 0 [])

-- a statement with its `;` has none before it
pub closed_sign : (text : List ℕ) (tree : Tree) (start end : ℕ) → (s : Stands text tree start end) → 0 < length s.rest → sign_at Outside 0 text ≡ length s.rest
closed_sign text tree start end s some =
    statement_past text s.rest s.statement.element (subst (λ (ts : List Token). Leads text ts (Some s.rest)) s.statement.tokens s.leads) ∙ by s.rest some s.ends
  where
    by : (rest : List ℕ) → 0 < length rest → EndsAt rest end → sign_at Outside 0 rest ≡ length rest
    by [] h p = absurd (omega (arith, h))
    by (c ∷ rest) h p =
        let sign : c ≡ 59 = eqb-true c 59 (shape_told c Semicolon (token_shape_is (c ∷ rest) Token.semicolon p.0 p.1)) in
        subst (λ (x : ℕ). sign_at Outside 0 (x ∷ rest) ≡ suc (length rest)) (sym sign) refl

-- what ends with its bytes has none
pub open_sign : (text : List ℕ) (tree : Tree) (start end : ℕ) → (s : Stands text tree start end) → s.rest ≡ [] → sign_at Outside 0 text ≡ 0
open_sign text tree start end s e =
    statement_past text s.rest s.statement.element (subst (λ (ts : List Token). Leads text ts (Some s.rest)) s.statement.tokens s.leads) ∙ ap (sign_at Outside 0) e
