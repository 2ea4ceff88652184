-- A reader of a text that comes in pieces: what it keeps, and what it answers.
use Rattle.std.specs.Prelude.{◌≡◌, ℕ, ◌+◌, ◌-◌, ◌≤◌, ◌<◌, List, [], ◌++◌, length, drop, Bool, true, false, ◌||◌, Option, Some, None, Result, Ok, Err}
use Rattle.rules_text.specs.nodes.Limits.{statement_limit, file_limit}
use Rattle.rules_text.specs.nodes.Tree.{Tree}
use Rattle.rules_text.specs.text.Lexical.{after_gap}
use Rattle.rules_text.specs.text.Text.{IsNode, IsEnd, IsFault}
use Rattle.rules_text.specs.declared.text.TextKind.{TextKind}
use Rattle.mich_base.specs.View.{tree}
use Rattle.mich_text.specs.Results.{IsText}
use Rattle.mich_text.specs.declared.reader.Placed.{Placed}
use Rattle.mich_text.specs.declared.fault.TextError.{TextError}
use Rattle.mich_text.specs.declared.fault.TextError.TheVariants as texts
use Rattle.mich_text.specs.pieces.Fronts.{IsClosed}
use Rattle.mich_text.specs.pieces.Held.{Held, fed}
use Rattle.mich_text.specs.declared.pieces.reader.Next.{Next}
use Rattle.mich_text.specs.declared.pieces.reader.Next.TheVariants as next

-- how many bytes of the file were fed
abbrev pub size : Held → ℕ
size r = r.place + length r.bytes

-- Where there is more to come: no statement has its `;` yet, and neither the statement nor the file is longer than it may be.
pub record NeedsMore (r : Held) : Type 0 where
  pub none : (tree : Tree) (start end : ℕ) → IsClosed r.place r.bytes tree start end → ⊥
  pub statement : (first : List ℕ) → after_gap r.bytes ≡ Some first → length first ≤ statement_limit
  pub file : size r ≤ file_limit

-- the file has this fault whatever is fed, or where nothing is fed any more
abbrev pub HasFault : Held → TextKind → ℕ → Type 0
HasFault r kind at = (more : List ℕ) → (r.ended ≡ true → more ≡ []) → (left : ℕ) × IsFault r.place (r.bytes ++ more) kind left × (at + left ≡ size (fed r more))

-- the fault that was found, if one was
abbrev pub KeepsFault : Held → Option (TextKind × ℕ) → Type 0
KeepsFault r None = Unit {0}
KeepsFault r (Some f) = HasFault r f.0 f.1

-- it was said that the input ends here, or not
abbrev pub asked : Held → Bool → Held
asked r last = record { place = r.place; bytes = r.bytes; ended = r.ended || last; fault = r.fault }

-- a statement was read that ends at this place
abbrev pub taken : Held → ℕ → Held
taken r end = record { place = end; bytes = drop (end - r.place) r.bytes; ended = r.ended; fault = r.fault }

abbrev pub failed : Held → TextKind → ℕ → Held
failed r kind at = record { place = r.place; bytes = r.bytes; ended = r.ended; fault = Some (kind, at) }

-- The statement at the reader's place, with its `;` where more may come.
pub record IsStatement (r : Held) (last : Bool) (placed : Placed) : Type 0 where
  pub start : ℕ
  pub end : ℕ
  pub node : IsNode r.place r.bytes (tree placed.node) start end
  pub sign : last ≡ false → 0 < length node.stands.rest
  pub start_is : placed.start + start ≡ size r
  pub end_is : placed.end + end ≡ size r

-- what a reader that was r answers, and what it then is; last says that the input ends here
abbrev pub IsNext : Held → Bool → Held → Result Next TextError → Type 0
IsNext r last s (Ok (next.Placed placed)) = IsStatement r last placed × (s ≡ taken (asked r last) placed.end)
IsNext r last s (Ok next.More) = (last ≡ false) × NeedsMore r × (s ≡ r)
IsNext r last s (Ok next.End) = (last ≡ true) × IsEnd r.place r.bytes × (s ≡ asked r last)
IsNext r last s (Err texts.Memory) = s ≡ r
IsNext r last s (Err (texts.Fault kind at)) = HasFault (asked r last) kind at × (s ≡ failed (asked r last) kind at)

-- what an answer says of the file from a place on
abbrev pub Tells : List ℕ → ℕ → Result Next TextError → Type 0
Tells file place (Ok (next.Placed placed)) = IsText file place (Ok (Some placed))
Tells file place (Ok next.More) = Unit {0}
Tells file place (Ok next.End) = IsText file place (Ok None)
Tells file place (Err e) = IsText file place (Err e)

-- a text with more behind it is still this
abbrev pub IsStillText : (bytes more : List ℕ) → ℕ → Result (Option Placed) TextError → Type 0
IsStillText bytes more place r = IsText bytes place r → IsText (bytes ++ more) place r

-- where the input ends, nothing more is fed
abbrev pub EndsWith : Bool → List ℕ → Type 0
EndsWith ended more = ended ≡ true → more ≡ []

-- these bytes were taken before those that a reader keeps, and these will be fed: what it answers is said of the whole file
abbrev pub AnswersAsFile : (before more : List ℕ) (r s : Held) → Bool → Result Next TextError → Type 0
AnswersAsFile before more r s last answer =
    length before ≡ r.place → EndsWith last more → EndsWith r.ended more → IsNext r last s answer → Tells (before ++ (r.bytes ++ more)) r.place answer
