-- Each node that a text can give is read from its line, and a text gives no others.
use Rattle.std.proofs.Common.{◌≡◌, ℕ, ◌≤◌, Bool, true, false, ◌&&◌, List, [], ◌∷◌, length, drop, ℤ, refl, arith}
use Rattle.std.specs.Prelude.{pos, negsuc}
use Rattle.std.specs.Fmt.{signed_decimal}
use Rattle.std.specs.List.{AllByRecursion, list_all}
use Rattle.rules_text.specs.nodes.Limits.{statement_limit}
use Rattle.rules_text.specs.nodes.Tree.{Tree, int, str, bytes, prim, seq, Trees, none, more}
use Rattle.rules_text.specs.text.Lexical.{is_word, is_noted}
use Rattle.rules_text.specs.text.Printed.{printed}
use Rattle.rules_text.specs.text.Text.{IsNode, Stands}
use Rattle.rules_text.specs.text.Token.{Token}
use Rattle.mich_text.specs.Line.{is_printing}
use Rattle.mich_text.specs.Written.{IsNumber, is_text, is_byte, IsName, IsAnnotation, AreAnnotations, HasTextForm, HaveTextForms, CanBeWritten}
use Rattle.mich_text.proofs.tokens.Names as names
use Rattle.mich_text.proofs.tokens.ByteRuns.{IsAll}
use Rattle.mich_text.proofs.printed.Again.{IsToken, IsPrintable, ArePrintable, line_is, printed_again}
use Rattle.mich_text.proofs.tokens.Numbers.{IsInt}
use Rattle.mich_text.proofs.tokens.Annotations.{IsNote}
use Rattle.mich_text.proofs.printed.Printable.{name_is, note_is, number_is, line_begins}
use Rattle.mich_text.proofs.grammar.Depths.{element_of_depth}
use Rattle.mich_text.proofs.limits.Unlimited.{node_same, short_unlimited}
use Rattle.mich_text.proofs.printed.Runs.{node_printable, node_depth}
use Rattle.mich_text.proofs.printed.OneLine.{good, line_in, all_of}

and_both : (a b : Bool) → a && b ≡ true → (a ≡ true) × (b ≡ true)
and_both true b e = (refl, e)
and_both false b e = absurd cc

each : (p : ℕ → Bool) (xs : List ℕ) → list_all p xs ≡ true → IsAll p xs
each p [] h = tt
each p (x ∷ xs) h = let both = and_both (p x) (list_all p xs) h in (both.0, each p xs both.1)

number_of : (z : ℤ) → IsNumber z → IsInt z
number_of (pos n) h = h
number_of (negsuc n) h = h

of_number : (z : ℤ) → IsInt z → IsNumber z
of_number (pos n) h = h
of_number (negsuc n) h = h

name_of : (n : List ℕ) → IsName n → names.IsName n
name_of n h = record { first = h.0; all = each is_word n h.1; short = h.2 }

note_of : (a : List ℕ) → IsAnnotation a → IsNote a
note_of a h = record { first = h.0; all = each is_noted (drop 1 a) h.1; short = h.2 }

notes_of : (ns : List (List ℕ)) → AreAnnotations ns → AllByRecursion (λ a. IsToken a (Token.annotation a)) ns
notes_of [] h = tt
notes_of (a ∷ ns) h = (note_is a (note_of a h.0), notes_of ns h.1)

of_notes : (ns : List (List ℕ)) → AllByRecursion (λ a. IsToken a (Token.annotation a)) ns → AreAnnotations ns
of_notes [] h = tt
of_notes (a ∷ ns) h =
    let note = good a (Token.annotation a) h.0 in ((note.first, all_of is_noted (drop 1 a) note.all, note.short), of_notes ns h.1)

mutual
  printable : (t : Tree) → HasTextForm t → IsPrintable t
  printable (int n) h = number_is n (number_of n h)
  printable (str s) h = (each is_text s h.0, h.1)
  printable (bytes b) h = (each is_byte b h.0, h.1)
  printable (prim n ns xs) h = (name_is n (name_of n h.0), notes_of ns h.1, all_printable xs h.2)
  printable (seq xs) h = all_printable xs h

  all_printable : (ts : Trees) → HaveTextForms ts → ArePrintable ts
  all_printable none h = tt
  all_printable (more t ts) h = (printable t h.0, all_printable ts h.1)

-- the line of a node is a text of that node
pub line_stands : (t : Tree) → HasTextForm t → Stands (printed t) t (length (printed t)) 0
line_stands t h =
    let p : IsPrintable t = printable t h in
    let line = line_is t p in
    record { tokens = line.0; first = printed t; rest = []; begins = line_begins t p; leads = line.2; statement = line.1; start_is = refl; ends = refl }

-- nothing stands behind it
pub line_bare : (t : Tree) (h : HasTextForm t) → (line_stands t h).rest ≡ []
unfolding line_stands
line_bare t h = refl

mutual
  form : (t : Tree) → IsPrintable t → HasTextForm t
  form (int n) h = of_number n (good (signed_decimal n) (Token.number n) h)
  form (str s) h = (all_of is_text s h.0, h.1)
  form (bytes b) h = (all_of is_byte b h.0, h.1)
  form (prim n ns xs) h =
      let name = good n (Token.name n) h.0 in ((name.first, all_of is_word n name.all, name.short), of_notes ns h.1, forms xs h.2)
  form (seq xs) h = forms xs h

  forms : (ts : Trees) → ArePrintable ts → HaveTextForms ts
  forms none h = tt
  forms (more t ts) h = (form t h.0, forms ts h.1)

pub can_be_written : (before : ℕ) (text : List ℕ) (tree : Tree) (start end : ℕ) → IsNode before text tree start end → CanBeWritten tree
can_be_written before text tree start end n =
    (form tree (node_printable before text tree start end n), node_depth before text tree start end n)

pub written_again : (tree : Tree) → CanBeWritten tree → length (printed tree) ≤ statement_limit
    → IsNode 0 (printed tree) tree (length (printed tree)) 0
written_again tree h short =
    let p = printable tree h.0 in
    node_same 0 (printed tree) (short_unlimited (printed tree) short) tree (length (printed tree)) 0
    (printed_again tree (printed tree) p (omega (arith, h.1, element_of_depth tree)) (line_begins tree p))

pub written_in_line : (tree : Tree) → HasTextForm tree → list_all is_printing (printed tree) ≡ true
written_in_line tree h = all_of is_printing (printed tree) (line_in tree (printable tree h))
