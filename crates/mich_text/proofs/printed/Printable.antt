-- What a text gives is printed so that it is read again.
use Rattle.std.specs.Prelude.{◌==◌, pos, negsuc}
use Rattle.std.proofs.Common.{◌≡◌, ℕ, suc, ◌^◌, ◌≤◌, ◌<◌, Bool, true, false, cond, ◌||◌, List, [], ◌∷◌, ◌++◌, length, Some, None, ℤ, refl, subst, arith}
use Rattle.std.proofs.lemmas.List.{append-nil}
use Rattle.std.proofs.lemmas.Fmt.{decimal_is_IsNumeral_wide}
use Rattle.std.specs.Fmt.{decimal, signed_decimal}
use Rattle.std.specs.List.{AllByRecursion}
use Rattle.hex.specs.Hex.{encode_lower}
use Rattle.rules_text.specs.nodes.Tree.{Tree, int, str, prim, seq, none, more, trees_of}
use Rattle.rules_text.specs.text.Token.{Token}
use Rattle.rules_text.specs.declared.text.Shape.TheVariants.{Digits, Quoted, Word, Note, OpenBrace, CloseBrace, OpenParen, CloseParen, Semicolon}
use Rattle.rules_text.specs.text.Syntax.{Node, number, bytes, string, parens, braces, braces_to, Items, no_items, with_annotation, with_name, with_node, Element, alone, application, Separated, nothing, followed, node_tokens, item_tokens, element_tokens, separated_tokens, annotations, node_tree, arguments, element_tree, separated_trees}
use Rattle.rules_text.specs.text.Lexical.{after_gap, shape_of}
use Rattle.rules_text.specs.text.Printed.{printed, string_text, annotations_text, arguments_text, elements_text}
use Rattle.mich_text.proofs.tokens.Names.{word_is, IsName, name_token, word_solid}
use Rattle.mich_text.proofs.tokens.ByteRuns.{IsAll}
use Rattle.mich_text.proofs.tokens.Numbers.{digits_token, minus_token, IsInt}
use Rattle.mich_text.proofs.tokens.Annotations.{note_token, note_solid, IsNote}
use Rattle.mich_text.proofs.tokens.Digits.{digits_pass, digit_solid}
use Rattle.mich_text.proofs.tokens.Gaps.{is_solid, solid_gap}
use Rattle.mich_text.proofs.printed.Again.{IsToken, IsPrintable, ArePrintable}
use Rattle.mich_text.proofs.tokens.Good.{IsGood}

-- ---- tokens

pub name_is : (n : List ℕ) → IsName n → IsToken n (Token.name n)
name_is [] p = absurd (cc p.first)
name_is (c ∷ n) p =
    record { gap = λ rest. solid_gap c (n ++ rest) (word_solid c (word_is c p.first)); read = λ rest a. name_token (c ∷ n) rest p a }

-- the signs of annotations
pub note_sign : (c : ℕ) → shape_of c ≡ Some Note → (c == 64 || (c == 58 || c == 37)) ≡ true
note_sign c e = by _ _ _ _ _ _ _ _ _ e where
  by : (a b d f g h i j k : Bool) → cond a (Some Digits) (cond b (Some Quoted) (cond d (Some Word) (cond f (Some Note) (cond g
      (Some OpenBrace) (cond h (Some CloseBrace)
      (cond i (Some OpenParen) (cond j (Some CloseParen) (cond k (Some Semicolon) None)))))))) ≡ Some Note → f ≡ true
  by a b d true g h i j k e = refl
  by true b d false g h i j k e = absurd cc
  by false true d false g h i j k e = absurd cc
  by false false true false g h i j k e = absurd cc
  by false false false false true h i j k e = absurd cc
  by false false false false false true i j k e = absurd cc
  by false false false false false false true j k e = absurd cc
  by false false false false false false false true k e = absurd cc
  by false false false false false false false false true e = absurd cc
  by false false false false false false false false false e = absurd cc

pub note_is : (a : List ℕ) → IsNote a → IsToken a (Token.annotation a)
note_is [] p = absurd (cc p.first)
note_is (c ∷ cs) p =
    record {
      gap = λ rest. solid_gap c (cs ++ rest) (note_solid c (note_sign c p.first));
      read = λ rest a. note_token c cs rest p.first p.all p.short a;
    }

digits_gap : (ds rest : List ℕ) → 0 < length ds → ((c : ℕ) (cs : List ℕ) → ds ≡ c ∷ cs → is_solid c ≡ true)
    → after_gap (ds ++ rest) ≡ Some (ds ++ rest)
digits_gap [] rest some h = absurd (omega (arith, some))
digits_gap (c ∷ ds) rest some h = solid_gap c (ds ++ rest) (h c ds refl)

first_solid : (ds : List ℕ) → 0 < length ds → IsAll Rattle.std.specs.Char.is_ascii_digit ds → (c : ℕ) (cs : List ℕ) → ds ≡ c ∷ cs
    → is_solid c ≡ true
first_solid [] some h c cs e = absurd (omega (arith, some))
first_solid (d ∷ ds) some h c cs e = subst (λ (x : ℕ). is_solid x ≡ true) (head d c ds cs e) (digit_solid d h.0)
  where
    head : (d c : ℕ) (ds cs : List ℕ) → d ∷ ds ≡ c ∷ cs → d ≡ c
    head d c ds cs e = cc

pub wide : (n : ℕ) → n ≤ 2 ^ 127 → n < 10 ^ 64
wide n h = omega (arith, h)

pub number_is : (z : ℤ) → IsInt z → IsToken (signed_decimal z) (Token.number z)
number_is (pos n) h =
    let d = decimal_is_IsNumeral_wide n (wide n (omega (arith, h))) in
    record {
      gap = λ rest. digits_gap (decimal n) rest d.0.0 (first_solid (decimal n) d.0.0 (digits_pass (decimal n) d.0.1));
      read = λ rest a. digits_token n (decimal n) rest h d.0.0 d.0.1 d.1 a;
    }
number_is (negsuc n) h =
    let d = decimal_is_IsNumeral_wide (suc n) (wide (suc n) (omega (arith, h))) in
    record {
      gap = λ rest. solid_gap 45 (decimal (suc n) ++ rest) refl;
      read = λ rest a. minus_token (suc n) (decimal (suc n)) rest (omega (arith, h)) d.0.0 d.0.1 d.1 a;
    }

-- ---- lists

all_append : {A : Type 0} (P : A → Type 0) (xs ys : List A) → AllByRecursion P xs → AllByRecursion P ys → AllByRecursion P (xs ++ ys)
all_append P [] ys p q = q
all_append P (x ∷ xs) ys p q = (p.0, all_append P xs ys p.1 q)

all_left : {A : Type 0} (P : A → Type 0) (xs ys : List A) → AllByRecursion P (xs ++ ys) → AllByRecursion P xs
all_left P [] ys p = tt
all_left P (x ∷ xs) ys p = (p.0, all_left P xs ys p.1)

all_right : {A : Type 0} (P : A → Type 0) (xs ys : List A) → AllByRecursion P (xs ++ ys) → AllByRecursion P ys
all_right P [] ys p = p
all_right P (x ∷ xs) ys p = all_right P xs ys p.1

trees_printable : (ts : List Tree) → AllByRecursion IsPrintable ts → ArePrintable (trees_of ts)
trees_printable [] p = tt
trees_printable (t ∷ ts) p = (p.0, trees_printable ts p.1)

-- ---- nodes

abbrev IsNoteToken : List ℕ → Type 0
IsNoteToken a = IsToken a (Token.annotation a)

notes_printable : (i : Items) → AllByRecursion IsGood (item_tokens i) → AllByRecursion IsNoteToken (annotations i)
notes_printable no_items p = tt
notes_printable (with_annotation i a) p =
    all_append IsNoteToken (annotations i) (a ∷ []) (notes_printable i (all_left IsGood (item_tokens i) (Token.annotation a ∷ []) p))
    (note_is a (all_right IsGood (item_tokens i) (Token.annotation a ∷ []) p).0, tt)
notes_printable (with_name i n) p = notes_printable i (all_left IsGood (item_tokens i) (Token.name n ∷ []) p)
notes_printable (with_node i n) p = notes_printable i (all_left IsGood (item_tokens i) (node_tokens n) p)

mutual
  node_printable : (n : Node) → AllByRecursion IsGood (node_tokens n) → IsPrintable (node_tree n)
  node_printable (number z) p = number_is z p.0
  node_printable (bytes b) p = p.0
  node_printable (string s) p = p.0
  node_printable (parens n i) p =
      let items = all_left IsGood (item_tokens i) (Token.close_paren ∷ []) p.1.1 in
      (name_is n p.1.0, notes_printable i items, trees_printable (arguments i) (arguments_printable i items))
  node_printable (braces s) p =
      trees_printable (separated_trees s) (separated_printable s (all_left IsGood (separated_tokens s) (Token.close_brace ∷ []) p.1))
  node_printable (braces_to s e) p =
      let behind = all_right IsGood (separated_tokens s) (element_tokens e ++ Token.close_brace ∷ []) p.1 in
      trees_printable (separated_trees s ++ element_tree e ∷ [])
      (all_append IsPrintable (separated_trees s) (element_tree e ∷ [])
      (separated_printable s (all_left IsGood (separated_tokens s) (element_tokens e ++ Token.close_brace ∷ []) p.1))
      (element_printable e (all_left IsGood (element_tokens e) (Token.close_brace ∷ []) behind), tt))

  arguments_printable : (i : Items) → AllByRecursion IsGood (item_tokens i) → AllByRecursion IsPrintable (arguments i)
  arguments_printable no_items p = tt
  arguments_printable (with_annotation i a) p = arguments_printable i (all_left IsGood (item_tokens i) (Token.annotation a ∷ []) p)
  arguments_printable (with_name i n) p =
      all_append IsPrintable (arguments i) (prim n [] none ∷ [])
      (arguments_printable i (all_left IsGood (item_tokens i) (Token.name n ∷ []) p))
      ((name_is n (all_right IsGood (item_tokens i) (Token.name n ∷ []) p).0, tt, tt), tt)
  arguments_printable (with_node i n) p =
      all_append IsPrintable (arguments i) (node_tree n ∷ []) (arguments_printable i (all_left IsGood (item_tokens i) (node_tokens n) p))
      (node_printable n (all_right IsGood (item_tokens i) (node_tokens n) p), tt)

  pub element_printable : (e : Element) → AllByRecursion IsGood (element_tokens e) → IsPrintable (element_tree e)
  element_printable (alone n) p = node_printable n p
  element_printable (application n i) p = (name_is n p.0, notes_printable i p.1, trees_printable (arguments i) (arguments_printable i p.1))

  separated_printable : (s : Separated) → AllByRecursion IsGood (separated_tokens s) → AllByRecursion IsPrintable (separated_trees s)
  separated_printable nothing p = tt
  separated_printable (followed s e) p =
      let behind = all_right IsGood (separated_tokens s) (element_tokens e ++ Token.semicolon ∷ []) p in
      all_append IsPrintable (separated_trees s) (element_tree e ∷ [])
      (separated_printable s (all_left IsGood (separated_tokens s) (element_tokens e ++ Token.semicolon ∷ []) p))
      (element_printable e (all_left IsGood (element_tokens e) (Token.semicolon ∷ []) behind), tt)

-- ---- the line

-- a printed line begins with its node
pub line_begins : (t : Tree) → IsPrintable t → after_gap (printed t) ≡ Some (printed t)
line_begins (int n) h = subst (λ (x : List ℕ). after_gap x ≡ Some x) (append-nil (signed_decimal n)) (h.gap [])
line_begins (str s) h = solid_gap 34 (string_text s) refl
line_begins (Tree.bytes b) h = solid_gap 48 (120 ∷ encode_lower b) refl
line_begins (prim n ns xs) h = h.0.gap (annotations_text ns ++ arguments_text xs)
line_begins (seq none) h = solid_gap 123 (125 ∷ []) refl
line_begins (seq (more x xs)) h = solid_gap 123 (32 ∷ (printed x ++ (elements_text xs ++ 32 ∷ 125 ∷ []))) refl
