-- What the reader says of places lies in the text.
use Rattle.std.proofs.Common.{◌≡◌, ℕ, ◌+◌, ◌≤◌, inl, inr, List, length, drop, Option, Some, None, Result, Ok, Err, arith}
use Rattle.std.proofs.lemmas.List.{length-drop}
use Rattle.rules_text.specs.text.Text.{IsLimit, Holds}
use Rattle.rules_text.specs.declared.text.TextKind.{TextKind}
use Rattle.mich_base.specs.View.{tree}
use Rattle.mich_text.specs.Results.{IsWithinText, IsLimitedRead, IsText}
use Rattle.mich_text.specs.Parts.{IsPart}
use Rattle.mich_text.specs.declared.reader.Placed.{Placed}
use Rattle.mich_text.specs.declared.fault.TextError.{TextError}
use Rattle.mich_text.specs.declared.fault.TextError.TheVariants as texts
use Rattle.mich_text.specs.declared.plain.Found.{Found}
use Rattle.mich_text.specs.declared.fault.LexError.{LexError}
use Rattle.mich_text.specs.declared.fault.LexError.TheVariants as errors
use Rattle.mich_text.proofs.limits.Sorts.{Sort, of_limit, own, sort_of}
use Rattle.mich_text.proofs.readings.Places.{holds_within, stands_within}
use Rattle.mich_text.proofs.tokens.Gaps.{gap_le}

limit_within : (before : ℕ) (text : List ℕ) (left : ℕ) → IsLimit before text left → left ≤ length text
limit_within before text left (inl s) = omega (arith, s.left_is, gap_le text s.first s.begins)
limit_within before text left (inr f) = f.here

fault_within : (before : ℕ) (text : List ℕ) (k : TextKind) (left : ℕ) → Holds before text k left → left ≤ length text
fault_within before text k left h = by (sort_of before text k left h) where
  by : Sort before text k left h → left ≤ length text
  by (of_limit e r l) = limit_within before text left l
  by (own p r) = holds_within text k left p

read_within : (before : ℕ) (text : List ℕ) (n : ℕ) → length text ≤ n → (r : Result (Option Found) LexError) → IsLimitedRead before text r
    → IsWithinText n r
read_within before text n h (Ok None) p = tt
read_within before text n h (Ok (Some found)) p =
    let w = stands_within text (tree found.node) found.start found.end p.stands in (omega (arith, w.0, h), omega (arith, w.1, h))
read_within before text n h (Err errors.Memory) p = tt
read_within before text n h (Err (errors.Flaw f)) p = omega (arith, fault_within before text f.kind f.left p.holds, h)

pub limited_within : (before : ℕ) (text : List ℕ) (r : Result (Option Found) LexError) → IsLimitedRead before text r
    → IsWithinText (length text) r
limited_within before text r p = read_within before text (length text) (omega arith) r p

-- the rest of a file from a place on
pub part_is_text : (bytes : List ℕ) (place : ℕ) (r : Result (Option Placed) TextError) → place ≤ length bytes
    → IsPart place (drop place bytes) r → IsText bytes place r
part_is_text bytes place r h p = by r p where
  size : place + length (drop place bytes) ≡ length bytes
  size = omega (arith, length-drop place bytes, h)

  by : (r : Result (Option Placed) TextError) → IsPart place (drop place bytes) r → IsText bytes place r
  by (Ok None) p = p
  by (Ok (Some placed)) (start, end, n, s, e) = (start, end, n, omega (arith, s, size), omega (arith, e, size))
  by (Err texts.Memory) p = tt
  by (Err (texts.Fault kind at)) (left, f, e) = (left, f, omega (arith, e, size))
