-- What the reader's functions return.
use Rattle.std.specs.Prelude.{◌≡◌, ℕ, ◌+◌, ◌-◌, ◌≤◌, ◌<◌, List, [], length, drop, Bool, true, false, nat_eq, Option, Some, None, Result, Ok, Err, if◌then◌else◌}
use Rattle.rules_text.specs.nodes.Limits.{depth_limit}
use Rattle.rules_text.specs.nodes.Tree.{size}
use Rattle.rules_text.specs.text.Token.{Token}
use Rattle.mich_text.specs.Machine.{Stack, Refusal, unexpected, too_deep, finish, has_statement, ready_for, refused, put, step}
use Rattle.rules_text.specs.text.Lexical.{token_at, first_shape}
use Rattle.mich_text.specs.Plain.{IsFaultWithoutLimits, IsNodeWithoutLimits, IsEndWithoutLimits}
use Rattle.rules_text.specs.text.Text as within
use Rattle.mich_base.specs.View.{tree}
use Rattle.mich_text.specs.Gives.{flaw_view}
use Rattle.mich_text.specs.Limited.{IsUpTo}
use Rattle.rules_text.specs.declared.text.Shape.{Shape}
use Rattle.rules_text.specs.text.Fault.{Flaw}
use Rattle.mich_text.specs.declared.fault.LexError.{LexError}
use Rattle.mich_text.specs.declared.fault.LexError.TheVariants as errors
use Rattle.rules_text.specs.declared.text.TextKind.{TextKind}
use Rattle.rules_text.specs.declared.text.TextKind.TheVariants.{Unexpected, TooDeep}
use Rattle.mich_text.specs.declared.plain.Found.{Found}
use Rattle.mich_text.specs.declared.reader.Placed.{Placed}
use Rattle.mich_text.specs.declared.fault.TextError.{TextError}
use Rattle.mich_text.specs.declared.fault.TextError.TheVariants as texts
use Rattle.mich_text.specs.declared.plain.Step.{Step as CodeStep}
use Rattle.mich_text.specs.declared.plain.Step.TheVariants.{Taken, Statement}

abbrev pub kind_of : Refusal → TextKind
kind_of unexpected = Unexpected
kind_of too_deep = TooDeep

-- of a token's own flaw and the refusal of its place, the one that comes first
abbrev pub first_flaw : Flaw → Option Refusal → ℕ → Flaw
first_flaw own None left = own
first_flaw own (Some refusal) left = if nat_eq own.left left then own else record { kind = kind_of refusal; left = left }

-- no token is taken, for this flaw
pub data Refuses (here : List ℕ) (s : Stack) (f : Flaw) : Type 0 where
  at_first_byte : token_at here ≡ Err f → f.left ≡ length here → Refuses here s f
  no_place : (shape : Shape) (r : Refusal) → first_shape here ≡ Some shape → refused depth_limit (ready_for shape s) shape ≡ Some r → f ≡ record { kind = kind_of r; left = length here }
      → ((own : Flaw) → token_at here ≡ Err own → own.left ≡ length here → ⊥) → Refuses here s f
  later : (shape : Shape) → token_at here ≡ Err f → first_shape here ≡ Some shape → refused depth_limit (ready_for shape s) shape ≡ None → Refuses here s f

-- a token that can stand there was taken, or ended the statement
abbrev pub IsPlaced : Token → List ℕ → Stack → Stack → Result CodeStep LexError → Type 0
IsPlaced t behind s r (Ok (Taken rest)) = (rest.now ≡ behind) × (r ≡ put t s) × (t ≡ Token.semicolon → has_statement s ≡ false)
IsPlaced t behind s r (Ok (Statement rest)) = (rest.now ≡ behind) × (t ≡ Token.semicolon) × (has_statement s ≡ true) × (r ≡ s)
IsPlaced t behind s r (Err errors.Memory) = Unit {0}
IsPlaced t behind s r (Err (errors.Flaw f)) = ⊥

-- one token was taken: here is where it stands, and the stack goes from s to r
abbrev pub IsStep : List ℕ → Stack → Stack → Result CodeStep LexError → Type 0
IsStep here s r (Ok (Taken behind)) = (t : Token) × (token_at here ≡ Ok (t, behind.now)) × (step depth_limit s t ≡ Ok r) × (t ≡ Token.semicolon → has_statement (finish s) ≡ false)
IsStep here s r (Ok (Statement behind)) = (next : Stack) × (token_at here ≡ Ok (Token.semicolon, behind.now)) × (step depth_limit s Token.semicolon ≡ Ok next) × (has_statement (finish s) ≡ true) × (r ≡ finish s)
IsStep here s r (Err errors.Memory) = Unit {0}
IsStep here s r (Err (errors.Flaw f)) = Refuses here s (flaw_view f)

-- whether the statement ends with its `;`, which the rest begins with, or with the input
abbrev pub EndsClosed : Bool → List ℕ → Type 0
EndsClosed true rest = 0 < length rest
EndsClosed false rest = rest ≡ []

-- what the text is, where no limit is looked at
abbrev pub IsRead : List ℕ → Result (Option Found) LexError → Type 0
IsRead text (Ok None) = IsEndWithoutLimits text
IsRead text (Ok (Some found)) = (n : IsNodeWithoutLimits text (tree found.node) found.start found.end) × EndsClosed found.closed n.stands.rest
IsRead text (Err errors.Memory) = Unit {0}
IsRead text (Err (errors.Flaw f)) = IsFaultWithoutLimits text f.kind f.left

-- its places lie in the text
abbrev pub IsWithinText : ℕ → Result (Option Found) LexError → Type 0
IsWithinText n (Ok None) = Unit {0}
IsWithinText n (Ok (Some found)) = (found.start ≤ n) × (found.end ≤ n)
IsWithinText n (Err errors.Memory) = Unit {0}
IsWithinText n (Err (errors.Flaw f)) = f.left ≤ n

-- what the text is, where so many bytes of the file stand before it
abbrev pub IsLimitedRead : ℕ → List ℕ → Result (Option Found) LexError → Type 0
IsLimitedRead before text (Ok None) = within.IsEnd before text
IsLimitedRead before text (Ok (Some found)) = within.IsNode before text (tree found.node) found.start found.end
IsLimitedRead before text (Err errors.Memory) = Unit {0}
IsLimitedRead before text (Err (errors.Flaw f)) = within.IsFault before text f.kind f.left

-- what a text is, told by its front up to the first byte past a limit, whatever else the text is
abbrev pub FrontTells : List ℕ → ℕ → Bool → Result (Option Found) LexError → Type 0
FrontTells front behind ends_file r = (before : ℕ) (text : List ℕ) → IsUpTo before text front behind ends_file → IsLimitedRead before text r

-- whichever limit that is, a fault
abbrev pub FrontTellsFault : List ℕ → ℕ → LexError → Type 0
FrontTellsFault front behind e = (ends_file : Bool) → FrontTells front behind ends_file (Err e)

-- so many last bytes of a text
abbrev pub last_bytes : ℕ → List ℕ → List ℕ
last_bytes left text = drop (length text - left) text

-- What the text of a file is from a place on, where a statement begins.
abbrev pub IsText : List ℕ → ℕ → Result (Option Placed) TextError → Type 0
IsText b p (Ok None) = within.IsEnd p (drop p b)
IsText b p (Ok (Some placed)) = (start : ℕ) × (end : ℕ) × within.IsNode p (drop p b) (tree placed.node) start end × (placed.start + start ≡ length b) × (placed.end + end ≡ length b)
IsText b p (Err texts.Memory) = Unit {0}
IsText b p (Err (texts.Fault kind place)) = (left : ℕ) × within.IsFault p (drop p b) kind left × (place + left ≡ length b)

-- a statement has at most as many nodes as bytes, and so a byte or more
abbrev pub IsWithinBytes : Result (Option Placed) TextError → Type 0
IsWithinBytes (Ok (Some placed)) = size (tree placed.node) + placed.start ≤ placed.end
IsWithinBytes (Ok None) = Unit {0}
IsWithinBytes (Err e) = Unit {0}
