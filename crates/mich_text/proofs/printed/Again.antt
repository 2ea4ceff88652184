-- What is printed of a node is read as that node.
use Rattle.std.proofs.Common.{◌≡◌, ℕ, ◌≤◌, true, false, ltb, List, [], ◌∷◌, ◌++◌, length, Option, Some, Ok, refl, sym, ap, subst, ◌∙◌, append_assoc, arith}
use Rattle.std.proofs.lemmas.List.{append-nil}
use Rattle.std.specs.List.{AllByRecursion}
use Rattle.std.specs.Fmt.{signed_decimal}
use Rattle.hex.specs.Hex.{encode_lower}
use Rattle.rules_text.specs.nodes.Limits.{byte_limit, depth_limit}
use Rattle.rules_text.specs.nodes.Tree.{Tree, int, str, prim, seq, Trees, none, more}
use Rattle.rules_text.specs.text.Token.{Token}
use Rattle.rules_text.specs.text.Lexical.{token_at, after_gap}
use Rattle.rules_text.specs.text.Text.{Leads}
use Rattle.rules_text.specs.text.Printed.{string_text, printed, annotations_text, in_parens, is_wrapped, arguments_text, elements_text}
use Rattle.rules_text.specs.text.Syntax.{nothing, element_tokens, Element, element_depth, Node, parens, Items, no_items, with_annotation, with_node, Separated, followed, node_tokens, item_tokens, separated_tokens, IsStatement}
use Rattle.mich_text.specs.Plain.{IsNodeWithoutLimits}
use Rattle.mich_text.specs.Machine.{has_statement, ended_tree}
use Rattle.mich_text.specs.Canonical.{element_of, with_notes, wrapped, with_argument, with_arguments, sequence}
use Rattle.mich_text.proofs.grammar.Canon.{element_is}
use Rattle.mich_text.proofs.grammar.Complete.{element_runs}
use Rattle.mich_text.proofs.grammar.Signs.{no_inner}
use Rattle.mich_text.proofs.readings.AtEnd.{node_at_end}
use Rattle.mich_text.proofs.readings.Reading.{At}
use Rattle.mich_text.proofs.tokens.ByteRuns.{IsAll, IsApart}
use Rattle.mich_text.proofs.tokens.Bytes.{bytes_token}
use Rattle.mich_text.proofs.tokens.Gaps.{is_solid, solid_gap}
use Rattle.mich_text.proofs.tokens.Spelling.{is_spelt}
use Rattle.mich_text.proofs.tokens.Strings.{string_token}

-- ---- which nodes are printed

-- a token is read where its bytes stand before a space, a parenthesis or the end
pub record IsToken (text : List ℕ) (t : Token) : Type 0 where
  pub gap : (rest : List ℕ) → after_gap (text ++ rest) ≡ Some (text ++ rest)
  pub read : (rest : List ℕ) → IsApart rest → token_at (text ++ rest) ≡ Ok (t, rest)

abbrev mutual
  pub IsPrintable : Tree → Type 0
  IsPrintable (int n) = IsToken (signed_decimal n) (Token.number n)
  IsPrintable (str s) = IsAll is_spelt s × (length s ≤ byte_limit)
  IsPrintable (Tree.bytes b) = IsAll (λ c. ltb c 256) b × (length b ≤ byte_limit)
  IsPrintable (prim n ns xs) = IsToken n (Token.name n) × AllByRecursion (λ a. IsToken a (Token.annotation a)) ns × ArePrintable xs
  IsPrintable (seq xs) = ArePrintable xs

  pub ArePrintable : Trees → Type 0
  ArePrintable none = Unit {0}
  ArePrintable (more x xs) = IsPrintable x × ArePrintable xs

-- ---- pieces of the line

-- a token in front
pub token_leads : (c : ℕ) (cs rest : List ℕ) (t : Token) (us : List Token) (r : Option (List ℕ)) → is_solid c ≡ true
    → token_at (c ∷ (cs ++ rest)) ≡ Ok (t, rest) → Leads rest us r → Leads (c ∷ (cs ++ rest)) (t ∷ us) r
token_leads c cs rest t us r solid read p = (c ∷ (cs ++ rest), rest, solid_gap c (cs ++ rest) solid, read, p)

-- a space in front
pub space_leads : (text : List ℕ) (ts : List Token) (r : Option (List ℕ)) → Leads text ts r → Leads (32 ∷ text) ts r
space_leads text [] r p = p
space_leads text (t ∷ ts) r p = p

abbrev pub Writes : List ℕ → List Token → Type 0
Writes text ts =
    (rest : List ℕ) (us : List Token) (r : Option (List ℕ)) → IsApart rest → Leads rest us r → Leads (text ++ rest) (ts ++ us) r

token_writes : (text : List ℕ) (t : Token) → IsToken text t → Writes text (t ∷ [])
token_writes text t p rest us r a l = (text ++ rest, rest, p.gap rest, p.read rest a, l)

string_is : (s : List ℕ) → IsAll is_spelt s → length s ≤ byte_limit → IsToken (34 ∷ string_text s) (Token.string s)
string_is s h short = record { gap = λ rest. solid_gap 34 (string_text s ++ rest) refl; read = λ rest a. string_token s rest h short }

bytes_is : (b : List ℕ) → IsAll (λ c. ltb c 256) b → length b ≤ byte_limit → IsToken (48 ∷ 120 ∷ encode_lower b) (Token.bytes b)
bytes_is b h short =
    record { gap = λ rest. solid_gap 48 (120 ∷ (encode_lower b ++ rest)) refl; read = λ rest a. bytes_token b rest h short a }

-- a sign is read before anything
sign_leads : (c : ℕ) (t : Token) (text : List ℕ) (us : List Token) (r : Option (List ℕ)) → is_solid c ≡ true
    → token_at (c ∷ text) ≡ Ok (t, text) → Leads text us r → Leads (c ∷ text) (t ∷ us) r
sign_leads c t text us r s e l = (c ∷ text, text, solid_gap c text s, e, l)

abbrev BeginsApart : List ℕ → Type 0
BeginsApart text = (rest : List ℕ) → IsApart rest → IsApart (text ++ rest)

notes_apart : (ns : List (List ℕ)) → BeginsApart (annotations_text ns)
notes_apart [] rest a = a
notes_apart (n ∷ ns) rest a = refl

arguments_apart : (xs : Trees) → BeginsApart (arguments_text xs)
arguments_apart none rest a = a
arguments_apart (more x xs) rest a = refl

elements_apart : (xs : Trees) → BeginsApart (elements_text xs)
elements_apart none rest a = a
elements_apart (more x xs) rest a = refl

writes_both : (a b : List ℕ) (ts us : List Token) → Writes a ts → BeginsApart b → Writes b us → Writes (a ++ b) (ts ++ us)
writes_both a b ts us p apart q rest vs r s l =
    subst (λ (x : List ℕ). Leads x ((ts ++ us) ++ vs) r) (sym (append_assoc a b rest))
    (subst (λ (x : List Token). Leads (a ++ (b ++ rest)) x r) (sym (append_assoc ts us vs))
    (p (b ++ rest) (us ++ vs) r (apart rest s) (q rest vs r s l)))

-- more items
pub record Adds (text : List ℕ) (i j : Items) : Type 0 where
  pub more : List Token
  pub tokens : item_tokens j ≡ item_tokens i ++ more
  pub writes : Writes text more

notes_add : (i : Items) (ns : List (List ℕ)) → AllByRecursion (λ a. IsToken a (Token.annotation a)) ns
    → Adds (annotations_text ns) i (with_notes i ns)
notes_add i [] h = record { more = []; tokens = sym (append-nil (item_tokens i)); writes = λ rest us r a l. l }
notes_add i (n ∷ ns) h =
    let q = notes_add (with_annotation i n) ns h.1 in
    record {
      more = Token.annotation n ∷ q.more;
      tokens = q.tokens ∙ append_assoc (item_tokens i) (Token.annotation n ∷ []) q.more;
      writes =
          λ rest us r a l. space_leads ((n ++ annotations_text ns) ++ rest) (Token.annotation n ∷ (q.more ++ us)) r (writes_both n
          (annotations_text ns) (Token.annotation n ∷ []) q.more (token_writes n (Token.annotation n) h.0)
          (notes_apart ns) q.writes rest us r a l);
    }

parens_writes : (text : List ℕ) (ts : List Token) → Writes text ts
    → Writes (40 ∷ (text ++ 41 ∷ [])) (Token.open_paren ∷ (ts ++ Token.close_paren ∷ []))
unfolding token_at
parens_writes text ts p rest us r a l =
    let close : Leads (41 ∷ rest) (Token.close_paren ∷ us) r = sign_leads 41 Token.close_paren rest us r refl refl l in
    let inner : Leads (text ++ (41 ∷ rest)) (ts ++ (Token.close_paren ∷ us)) r = p (41 ∷ rest) (Token.close_paren ∷ us) r refl close in
    sign_leads 40 Token.open_paren ((text ++ 41 ∷ []) ++ rest) ((ts ++ Token.close_paren ∷ []) ++ us) r refl refl
    (subst (λ (x : List ℕ). Leads x ((ts ++ Token.close_paren ∷ []) ++ us) r) (sym (append_assoc text (41 ∷ []) rest))
    (subst (λ (x : List Token). Leads (text ++ (41 ∷ rest)) x r) (sym (append_assoc ts (Token.close_paren ∷ []) us)) inner))

node_adds : (i : Items) (n : Node) (text : List ℕ) → Writes text (node_tokens n) → Adds (32 ∷ text) i (with_node i n)
node_adds i n text p =
    record {
      more = node_tokens n;
      tokens = refl;
      writes = λ rest us r a l. space_leads (text ++ rest) (node_tokens n ++ us) r (p rest us r a l);
    }

wrapped_adds : (i : Items) (n : List ℕ) (ns : List (List ℕ)) (xs : Trees) (inner : Items) → IsToken n (Token.name n)
    → Writes (printed (prim n ns xs)) (Token.name n ∷ item_tokens inner)
    → Adds (32 ∷ in_parens (is_wrapped (prim n ns xs)) (printed (prim n ns xs))) i (wrapped i n ns xs inner)
wrapped_adds i n [] none inner p q =
    record {
      more = Token.name n ∷ [];
      tokens = refl;
      writes = λ rest us r a l. space_leads ((n ++ []) ++ rest) (Token.name n ∷ us) r
          (subst (λ (x : List ℕ). Leads (x ++ rest) (Token.name n ∷ us) r) (sym (append-nil n))
          (token_writes n (Token.name n) p rest us r a l));
    }
wrapped_adds i n [] (more x xs) inner p q =
    node_adds i (parens n inner) _ (parens_writes (printed (prim n [] (more x xs))) (Token.name n ∷ item_tokens inner) q)
wrapped_adds i n (m ∷ ns) xs inner p q =
    node_adds i (parens n inner) _ (parens_writes (printed (prim n (m ∷ ns) xs)) (Token.name n ∷ item_tokens inner) q)

braces_write : Writes (123 ∷ 125 ∷ []) (Token.open_brace ∷ Token.close_brace ∷ [])
unfolding token_at
braces_write rest us r a l =
    sign_leads 123 Token.open_brace (125 ∷ rest) (Token.close_brace ∷ us) r refl refl
    (sign_leads 125 Token.close_brace rest us r refl refl l)

-- the elements behind the first
pub record Follows (text : List ℕ) (s : Separated) (e : Element) (xs : Trees) : Type 0 where
  pub more : List Token
  pub tokens : node_tokens (sequence s e xs)
      ≡ Token.open_brace ∷ (separated_tokens s ++ (element_tokens e ++ (more ++ Token.close_brace ∷ [])))
  pub writes : Writes text more

sequence_writes : (x : Tree) (xs : Trees) → Writes (printed x) (element_tokens (element_of x))
    → Follows (elements_text xs) nothing (element_of x) xs
    → Writes (printed (seq (more x xs))) (node_tokens (sequence nothing (element_of x) xs))
unfolding token_at
sequence_writes x xs p q rest us r a l =
    let close : Leads (32 ∷ 125 ∷ rest) (Token.close_brace ∷ us) r = space_leads (125 ∷ rest) (Token.close_brace ∷ us) r
    (sign_leads 125 Token.close_brace rest us r refl refl l) in
    let both = writes_both (printed x) (elements_text xs) (element_tokens (element_of x)) q.more p (elements_apart xs) q.writes
    (32 ∷ 125 ∷ rest) (Token.close_brace ∷ us) r refl close in
    let bytes : (printed x ++ elements_text xs) ++ (32 ∷ 125 ∷ rest)
    ≡ (printed x ++ (elements_text xs ++ 32 ∷ 125 ∷ [])) ++ rest = simp append_assoc in
    let tokens : (element_tokens (element_of x) ++ q.more) ++ (Token.close_brace ∷ us)
    ≡ (element_tokens (element_of x) ++ (q.more ++ Token.close_brace ∷ [])) ++ us = simp append_assoc in
    let inner = subst (λ (k : List ℕ). Leads k ((element_tokens (element_of x) ++ (q.more ++ Token.close_brace ∷ [])) ++ us) r) bytes
    (subst (λ (k : List Token). Leads ((printed x ++ elements_text xs) ++ (32 ∷ 125 ∷ rest)) k r) tokens both) in
    subst (λ (k : List Token). Leads (printed (seq (more x xs)) ++ rest) (k ++ us) r) (sym q.tokens)
    (sign_leads 123 Token.open_brace _ _ r refl refl (space_leads ((printed x ++ (elements_text xs ++ 32 ∷ 125 ∷ [])) ++ rest)
    ((element_tokens (element_of x) ++ (q.more ++ Token.close_brace ∷ [])) ++ us) r inner))

prim_writes : (n : List ℕ) (ns : List (List ℕ)) (xs : Trees) → IsToken n (Token.name n)
    → Adds (annotations_text ns) no_items (with_notes no_items ns)
    → Adds (arguments_text xs) (with_notes no_items ns) (with_arguments (with_notes no_items ns) xs)
    → Writes (printed (prim n ns xs)) (Token.name n ∷ item_tokens (with_arguments (with_notes no_items ns) xs))
prim_writes n ns xs p q s =
    let tokens : item_tokens (with_arguments (with_notes no_items ns) xs) ≡ q.more ++ s.more = s.tokens
    ∙ ap (λ (l : List Token). l ++ s.more) q.tokens in
    let items = writes_both (annotations_text ns) (arguments_text xs) q.more s.more q.writes (arguments_apart xs) s.writes in
    let apart : BeginsApart (annotations_text ns ++ arguments_text xs) = λ rest a. subst IsApart
    (sym (append_assoc (annotations_text ns) (arguments_text xs) rest))
    (notes_apart ns (arguments_text xs ++ rest) (arguments_apart xs rest a)) in
    subst (λ (l : List Token). Writes (printed (prim n ns xs)) (Token.name n ∷ l)) (sym tokens) (writes_both n
    (annotations_text ns ++ arguments_text xs) (Token.name n ∷ []) (q.more ++ s.more) (token_writes n (Token.name n) p) apart items)

follows_one : (s : Separated) (e : Element) (x : Tree) (xs : Trees) → Writes (printed x) (element_tokens (element_of x))
    → Follows (elements_text xs) (followed s e) (element_of x) xs → Follows (elements_text (more x xs)) s e (more x xs)
unfolding token_at
follows_one s e x xs p q = record {
  more = Token.semicolon ∷ (element_tokens (element_of x) ++ q.more);
  tokens = q.tokens ∙ ap (λ (l : List Token). Token.open_brace ∷ l) (simp append_assoc);
  writes =
      λ rest us r a l. space_leads (59 ∷ 32 ∷ ((printed x ++ elements_text xs) ++ rest))
      (Token.semicolon ∷ ((element_tokens (element_of x) ++ q.more) ++ us)) r
      (sign_leads 59 Token.semicolon (32 ∷ ((printed x ++ elements_text xs) ++ rest))
      ((element_tokens (element_of x) ++ q.more) ++ us) r refl refl
      (space_leads ((printed x ++ elements_text xs) ++ rest) ((element_tokens (element_of x) ++ q.more) ++ us) r
      (writes_both (printed x) (elements_text xs) (element_tokens (element_of x)) q.more p (elements_apart xs) q.writes rest us r a l)));
}

mutual
  pub element_writes : (t : Tree) → IsPrintable t → Writes (printed t) (element_tokens (element_of t))
  element_writes (int n) h = token_writes (signed_decimal n) (Token.number n) h
  element_writes (str s) h = token_writes (34 ∷ string_text s) (Token.string s) (string_is s h.0 h.1)
  element_writes (Tree.bytes b) h = token_writes (48 ∷ 120 ∷ encode_lower b) (Token.bytes b) (bytes_is b h.0 h.1)
  element_writes (prim n ns xs) h = prim_writes n ns xs h.0 (notes_add no_items ns h.1) (arguments_add (with_notes no_items ns) xs h.2)
  element_writes (seq none) h = braces_write
  element_writes (seq (more x xs)) h = sequence_writes x xs (element_writes x h.0) (elements_follow nothing (element_of x) xs h.1)

  argument_adds : (i : Items) (t : Tree) → IsPrintable t → Adds (32 ∷ in_parens (is_wrapped t) (printed t)) i (with_argument i t)
  argument_adds i (int n) h = node_adds i _ (signed_decimal n) (token_writes (signed_decimal n) (Token.number n) h)
  argument_adds i (str s) h = node_adds i _ (34 ∷ string_text s) (token_writes (34 ∷ string_text s) (Token.string s) (string_is s h.0 h.1))
  argument_adds i (Tree.bytes b) h =
      node_adds i _ (48 ∷ 120 ∷ encode_lower b) (token_writes (48 ∷ 120 ∷ encode_lower b) (Token.bytes b) (bytes_is b h.0 h.1))
  argument_adds i (prim n ns xs) h =
      wrapped_adds i n ns xs (with_arguments (with_notes no_items ns) xs) h.0
      (prim_writes n ns xs h.0 (notes_add no_items ns h.1) (arguments_add (with_notes no_items ns) xs h.2))
  argument_adds i (seq none) h = node_adds i _ (123 ∷ 125 ∷ []) braces_write
  argument_adds i (seq (more x xs)) h =
      node_adds i (sequence nothing (element_of x) xs) (printed (seq (more x xs)))
      (sequence_writes x xs (element_writes x h.0) (elements_follow nothing (element_of x) xs h.1))

  arguments_add : (i : Items) (xs : Trees) → ArePrintable xs → Adds (arguments_text xs) i (with_arguments i xs)
  arguments_add i none h = record { more = []; tokens = sym (append-nil (item_tokens i)); writes = λ rest us r a l. l }
  arguments_add i (more x xs) h =
      let p = argument_adds i x h.0 in
      let q = arguments_add (with_argument i x) xs h.1 in
      record {
        more = p.more ++ q.more;
        tokens = q.tokens ∙ ap (λ (l : List Token). l ++ q.more) p.tokens ∙ append_assoc (item_tokens i) p.more q.more;
        writes =
            writes_both (32 ∷ in_parens (is_wrapped x) (printed x)) (arguments_text xs) p.more q.more p.writes
            (arguments_apart xs) q.writes;
      }

  elements_follow : (s : Separated) (e : Element) (xs : Trees) → ArePrintable xs → Follows (elements_text xs) s e xs
  elements_follow s e none h = record { more = []; tokens = refl; writes = λ rest us r a l. l }
  elements_follow s e (more x xs) h = follows_one s e x xs (element_writes x h.0) (elements_follow (followed s e) (element_of x) xs h.1)

pub line_leads : (t : Tree) → IsPrintable t → Leads (printed t) (element_tokens (element_of t)) (Some [])
line_leads t h =
    let ts = element_tokens (element_of t) in
    subst (λ (x : List ℕ). Leads x ts (Some [])) (append-nil (printed t))
    (subst (λ (x : List Token). Leads (printed t ++ []) x (Some [])) (append-nil ts) (element_writes t h [] [] (Some []) tt refl))

-- the line is a statement that stands for the node
pub line_is : (t : Tree) → IsPrintable t → (ts : List Token) × IsStatement ts t × Leads (printed t) ts (Some [])
line_is t h = (element_tokens (element_of t), record { element = element_of t; tokens = refl; stands = sym (element_is t) }, line_leads t h)

-- ---- the whole line

-- the line that is printed is, by itself, the node
pub printed_again : (t : Tree) (first : List ℕ) → IsPrintable t → element_depth (element_of t) ≤ depth_limit
    → after_gap (printed t) ≡ Some first → IsNodeWithoutLimits (printed t) t (length first) 0
printed_again t first h deep begins =
    let e = element_of t in
    let q = element_runs depth_limit false [] [] e (omega (arith, deep)) in
    let at : At (printed t) (element_tokens e) [] q.0 = record { leads = line_leads t h; runs = q.1; lacks = no_inner e } in
    let node = node_at_end (printed t) (element_tokens e) q.0 at first t begins (ap has_statement q.2) in
    subst (λ (x : Tree). IsNodeWithoutLimits (printed t) x (length first) 0) (ap (λ s. ended_tree s t) q.2 ∙ element_is t) node
