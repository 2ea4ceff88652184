-- What a text is where no limit on its statement and file is looked at. The reader is proved against this first.
use Rattle.std.specs.Prelude.{◌≡◌, ℕ, ◌≤◌, ◌<◌, ◌⊎◌, List, [], length, Some, Err}
use Rattle.rules_text.specs.nodes.Tree.{Tree}
use Rattle.rules_text.specs.text.Token.{Token}
use Rattle.rules_text.specs.text.Lexical.{after_gap, token_at}
use Rattle.rules_text.specs.text.Text.{Leads, IsInComment, IsOpen, IsUnexpected, IsTooDeep, Stands}
use Rattle.rules_text.specs.declared.text.TextKind.{TextKind}
use Rattle.rules_text.specs.declared.text.TextKind.TheVariants.{BadChar, BadString, BadBytes, BadNumber, Unclosed, Unexpected, TooDeep, TooLong}

-- a byte begins no token, or a token is wrong in itself
pub record IsFlawedWithoutLimits (text : List ℕ) (kind : TextKind) (left : ℕ) : Type 0 where
  pub before : List Token
  pub here : List ℕ
  pub leads : Leads text before (Some here)
  pub some : 0 < length here
  pub wrong : token_at here ≡ Err (record { kind = kind; left = left })

-- the condition of a kind of fault holds at a place
pub data HoldsWithoutLimits (text : List ℕ) (kind : TextKind) (left : ℕ) : Type 0 where
  flawed : IsFlawedWithoutLimits text kind left → HoldsWithoutLimits text kind left
  in_comment : IsInComment text kind left → HoldsWithoutLimits text kind left
  is_open : IsOpen text kind left → HoldsWithoutLimits text kind left
  unexpected : IsUnexpected text kind left → HoldsWithoutLimits text kind left
  too_deep : IsTooDeep text kind left → HoldsWithoutLimits text kind left

-- at one place a token's own fault comes before Unexpected, and that before TooDeep
abbrev pub rank_without_limits : TextKind → ℕ
rank_without_limits BadChar = 0
rank_without_limits BadString = 0
rank_without_limits BadBytes = 0
rank_without_limits BadNumber = 0
rank_without_limits Unclosed = 0
rank_without_limits TooLong = 0
rank_without_limits Unexpected = 1
rank_without_limits TooDeep = 2

-- no condition holds before this one
abbrev pub IsFirst : List ℕ → TextKind → ℕ → Type 0
IsFirst text kind left = (k : TextKind) (other : ℕ) → HoldsWithoutLimits text k other → (other < left) ⊎ ((other ≡ left) × (rank_without_limits kind ≤ rank_without_limits k))

pub record IsFaultWithoutLimits (text : List ℕ) (kind : TextKind) (left : ℕ) : Type 0 where
  pub holds : HoldsWithoutLimits text kind left
  pub first : IsFirst text kind left
  -- and no statement ends before it
  pub within : (tree : Tree) (start end : ℕ) → Stands text tree start end → end < left

pub record IsNodeWithoutLimits (text : List ℕ) (tree : Tree) (start end : ℕ) : Type 0 where
  pub stands : Stands text tree start end
  -- no condition holds at a place before its end
  pub clean : (k : TextKind) (left : ℕ) → HoldsWithoutLimits text k left → left ≤ end

-- only white space and comments follow
abbrev pub IsEndWithoutLimits : List ℕ → Type 0
IsEndWithoutLimits text = after_gap text ≡ Some []
