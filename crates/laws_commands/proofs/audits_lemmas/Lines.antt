-- What is read of printed lines.
use Rattle.std.proofs.Common.{◌≡◌, ℕ, Bool, true, List, [], ◌∷◌, length, drop, ℤ, refl}
use Rattle.std.specs.Prelude.{pos, negsuc}
use Rattle.std.specs.List.{AllByRecursion, list_all}
use Rattle.std.proofs.lemmas.Bool.{and_parts}
use Rattle.rules_text.specs.nodes.Tree.{Tree, int, str, bytes, prim, seq, Trees, none, more}
use Rattle.rules_text.specs.text.Lexical.{is_word, is_noted}
use Rattle.rules_text.specs.text.Printed.{printed}
use Rattle.rules_text.specs.text.Token.{Token}
use Rattle.rules_text.specs.text.Text.{Stands}
use Rattle.mich_text.specs.Written.{IsNumber, is_text, is_byte, IsName, IsAnnotation, AreAnnotations, HasTextForm, HaveTextForms}
use Rattle.mich_text.proofs.tokens.Names as names
use Rattle.mich_text.proofs.tokens.ByteRuns.{IsAll}
use Rattle.mich_text.proofs.tokens.Numbers.{IsInt}
use Rattle.mich_text.proofs.tokens.Annotations.{IsNote}
use Rattle.mich_text.proofs.printed.Again.{IsToken, IsPrintable, ArePrintable, line_is}
use Rattle.mich_text.proofs.printed.Printable.{name_is, note_is, number_is, line_begins}
use Rattle.mich_text.proofs.ForCallers.{one_statement}
use Rattle.rules_audit.specs.Form.{Holds}

each : (p : ℕ → Bool) (xs : List ℕ) → list_all p xs ≡ true → IsAll p xs
each p [] h = tt
each p (x ∷ xs) h = let hs : (p x ≡ true) × (list_all p xs ≡ true) = and_parts _ _ h in (hs.0, each p xs hs.1)

number_of : (z : ℤ) → IsNumber z → IsInt z
number_of (pos n) h = h
number_of (negsuc n) h = h

name_of : (n : List ℕ) → IsName n → names.IsName n
name_of n h = record { first = h.0; all = each is_word n h.1; short = h.2 }

note_of : (a : List ℕ) → IsAnnotation a → IsNote a
note_of a h = record { first = h.0; all = each is_noted (drop 1 a) h.1; short = h.2 }

notes_of : (ns : List (List ℕ)) → AreAnnotations ns → AllByRecursion (λ a. IsToken a (Token.annotation a)) ns
notes_of [] h = tt
notes_of (a ∷ ns) h = (note_is a (note_of a h.0), notes_of ns h.1)

mutual
  pub printable : (t : Tree) → HasTextForm t → IsPrintable t
  printable (int n) h = number_is n (number_of n h)
  printable (str s) h = (each is_text s h.0, h.1)
  printable (bytes b) h = (each is_byte b h.0, h.1)
  printable (prim n ns xs) h = (name_is n (name_of n h.0), notes_of ns h.1, all_printable xs h.2)
  printable (seq xs) h = all_printable xs h

  all_printable : (ts : Trees) → HaveTextForms ts → ArePrintable ts
  all_printable none h = tt
  all_printable (more t ts) h = (printable t h.0, all_printable ts h.1)

pub line_stands : (t : Tree) → IsPrintable t → Stands (printed t) t (length (printed t)) 0
line_stands t h =
    let line = line_is t h in
    record { tokens = line.0; first = printed t; rest = []; begins = line_begins t h; leads = line.2; statement = line.1; start_is = refl; ends = refl }

pub line_bare : (t : Tree) (h : IsPrintable t) → (line_stands t h).rest ≡ []
unfolding line_stands
line_bare t h = refl

pub line_read : (t u : Tree) → HasTextForm t → Holds (printed t) u → u ≡ t
line_read t u h g = (one_statement (printed t) u t g.start 0 (length (printed t)) 0 g.node.stands (line_stands t (printable t h))).0
