-- What a text is, from the beginning of a statement on. Places are told by how many bytes are left there.
-- `before` is the number of bytes of the file that stand before the text. (Octez "Micheline"; the limits are this host's.)
use Rattle.std.specs.Prelude.{◌≡◌, ℕ, ◌+◌, ◌-◌, ◌≤◌, ◌<◌, ◌⊎◌, List, [], ◌∷◌, ◌++◌, length, take, Option, Some, None, Ok, Err}
use Rattle.rules_text.specs.nodes.Limits.{depth_limit, statement_limit, file_limit}
use Rattle.rules_text.specs.nodes.Tree.{Tree}
use Rattle.rules_text.specs.text.Token.{Token, token_shape}
use Rattle.rules_text.specs.text.Syntax.{Element, element_tokens, IsFront, IsFrontWithin, IsWhole, IsStatement}
use Rattle.rules_text.specs.text.Lexical.{after_gap, token_at, first_shape}
use Rattle.rules_text.specs.declared.text.Shape.{Shape}
use Rattle.rules_text.specs.declared.text.TextKind.{TextKind}
use Rattle.rules_text.specs.declared.text.TextKind.TheVariants.{Unclosed, Unexpected, TooDeep, TooLong}

-- The text is these tokens, with white space and comments round them, and then the rest, which is empty or begins with
-- a further token; or None, where the input ends in a block comment.
abbrev pub Leads : List ℕ → List Token → Option (List ℕ) → Type 0
Leads text [] rest = after_gap text ≡ rest
Leads text (t ∷ ts) rest = (here : List ℕ) × (behind : List ℕ) × (after_gap text ≡ Some here) × (token_at here ≡ Ok (t, behind)) × Leads behind ts rest

-- ---- limits

-- The byte past the limit of the statement that begins here: it is counted from its first byte.
pub record IsStatementLimit (text : List ℕ) (left : ℕ) : Type 0 where
  pub first : List ℕ
  pub begins : after_gap text ≡ Some first
  pub left_is : left + statement_limit ≡ length first
  pub some : 0 < left

-- the byte past the limit of the file
pub record IsFileLimit (before : ℕ) (text : List ℕ) (left : ℕ) : Type 0 where
  pub left_is : file_limit + left ≡ before + length text
  pub some : 0 < left
  pub here : left ≤ length text

abbrev pub IsLimit : ℕ → List ℕ → ℕ → Type 0
IsLimit before text left = IsStatementLimit text left ⊎ IsFileLimit before text left

-- The statement goes on past its limit: it has no `;`, or one that lies behind this byte.
pub record IsLongStatement (text : List ℕ) (left : ℕ) : Type 0 where
  pub limit : IsStatementLimit text left
  pub goes_on : (e : Element) (rest behind : List ℕ) → Leads text (element_tokens e) (Some rest) → token_at rest ≡ Ok (Token.semicolon, behind) → length rest < left

-- these bytes show the token's flaw, so many bytes from its first one, whatever follows them
abbrev pub Shows : List ℕ → TextKind → ℕ → Type 0
Shows front kind offset = (more : List ℕ) → token_at (front ++ more) ≡ Err (record { kind = kind; left = length front + length more - offset })

-- ---- the conditions of the faults

-- the statement or the file is longer than it may be
abbrev pub IsPastLimit : ℕ → List ℕ → TextKind → ℕ → Type 0
IsPastLimit before text kind left = (kind ≡ TooLong) × (IsLongStatement text left ⊎ IsFileLimit before text left)

-- A byte begins no token, or a token is wrong in itself. Where a byte past a limit lies at the token's first byte or behind
-- it, this counts only if the bytes up to that one show it.
pub record IsFlawed (before : ℕ) (text : List ℕ) (kind : TextKind) (left : ℕ) : Type 0 where
  pub tokens : List Token
  pub here : List ℕ
  pub leads : Leads text tokens (Some here)
  pub some : 0 < length here
  pub wrong : token_at here ≡ Err (record { kind = kind; left = left })
  pub shown : (limit : ℕ) → IsLimit before text limit → limit ≤ length here → Shows (take (length here - limit + 1) here) kind (length here - left)

-- the input ends in a block comment
pub record IsInComment (text : List ℕ) (kind : TextKind) (left : ℕ) : Type 0 where
  pub before : List Token
  pub leads : Leads text before None
  pub kind_is : kind ≡ Unclosed
  pub left_is : left ≡ 0

-- the input ends in a parenthesis or sequence
pub record IsOpen (text : List ℕ) (kind : TextKind) (left : ℕ) : Type 0 where
  pub before : List Token
  pub leads : Leads text before (Some [])
  pub front : IsFront before
  pub open_still : IsWhole before → ⊥
  pub kind_is : kind ≡ Unclosed
  pub left_is : left ≡ 0

-- the tokens before it begin some list of statements, and with a token that begins so they don't
pub record IsUnexpected (text : List ℕ) (kind : TextKind) (left : ℕ) : Type 0 where
  pub before : List Token
  pub here : List ℕ
  pub shape : Shape
  pub leads : Leads text before (Some here)
  pub begins : first_shape here ≡ Some shape
  pub front : IsFront before
  pub ends : (t : Token) → token_shape t ≡ shape → IsFront (before ++ t ∷ []) → ⊥
  pub kind_is : kind ≡ Unexpected
  pub left_is : left ≡ length here

-- with it they do, but only lists of statements that have a node deeper than the limit
pub record IsTooDeep (text : List ℕ) (kind : TextKind) (left : ℕ) : Type 0 where
  pub before : List Token
  pub here : List ℕ
  pub shape : Shape
  pub leads : Leads text before (Some here)
  pub begins : first_shape here ≡ Some shape
  pub within : IsFrontWithin depth_limit before
  pub front : (t : Token) → token_shape t ≡ shape → IsFront (before ++ t ∷ [])
  pub deep : (t : Token) → token_shape t ≡ shape → IsFrontWithin depth_limit (before ++ t ∷ []) → ⊥
  pub kind_is : kind ≡ TooDeep
  pub left_is : left ≡ length here

-- the condition of a kind of fault holds at a place
pub data Holds (before : ℕ) (text : List ℕ) (kind : TextKind) (left : ℕ) : Type 0 where
  past_limit : IsPastLimit before text kind left → Holds before text kind left
  flawed : IsFlawed before text kind left → Holds before text kind left
  in_comment : IsInComment text kind left → Holds before text kind left
  is_open : IsOpen text kind left → Holds before text kind left
  unexpected : IsUnexpected text kind left → Holds before text kind left
  too_deep : IsTooDeep text kind left → Holds before text kind left

-- At one place a statement or file that is too long comes first, then a token's own fault, Unexpected, TooDeep.
abbrev pub rank : {before : ℕ} {text : List ℕ} {kind : TextKind} {left : ℕ} → Holds before text kind left → ℕ
rank (past_limit h) = 0
rank (flawed h) = 1
rank (in_comment h) = 1
rank (is_open h) = 1
rank (unexpected h) = 2
rank (too_deep h) = 3

-- ---- the statement

-- where a statement ends: its `;`, or the end of the input
abbrev pub EndsAt : List ℕ → ℕ → Type 0
EndsAt [] end = end ≡ 0
EndsAt (c ∷ rest) end = (behind : List ℕ) × (token_at (c ∷ rest) ≡ Ok (Token.semicolon, behind)) × (end ≡ length behind)

-- a statement stands there, and as many bytes are left at its first byte and behind it
pub record Stands (text : List ℕ) (tree : Tree) (start end : ℕ) : Type 0 where
  pub tokens : List Token
  pub first : List ℕ
  pub rest : List ℕ
  pub begins : after_gap text ≡ Some first
  pub leads : Leads text tokens (Some rest)
  pub statement : IsStatement tokens tree
  pub start_is : start ≡ length first
  pub ends : EndsAt rest end

-- ---- what the text is

-- a condition holds here, no condition comes before it, and no statement ends before it
pub record IsFault (before : ℕ) (text : List ℕ) (kind : TextKind) (left : ℕ) : Type 0 where
  pub holds : Holds before text kind left
  pub first : (k : TextKind) (other : ℕ) (h : Holds before text k other) → (other < left) ⊎ ((other ≡ left) × (rank holds ≤ rank h))
  pub within : (tree : Tree) (start end : ℕ) → Stands text tree start end → end < left

-- a statement stands there, and no condition holds at a place before its end
pub record IsNode (before : ℕ) (text : List ℕ) (tree : Tree) (start end : ℕ) : Type 0 where
  pub stands : Stands text tree start end
  pub clean : (k : TextKind) (left : ℕ) → Holds before text k left → left ≤ end

-- only white space and comments follow, and no condition holds
pub record IsEnd (before : ℕ) (text : List ℕ) : Type 0 where
  pub gap : after_gap text ≡ Some []
  pub clean : (k : TextKind) (left : ℕ) → Holds before text k left → ⊥
