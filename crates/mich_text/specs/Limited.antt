-- A text up to its first byte past a limit.
use Rattle.std.specs.Prelude.{◌≡◌, ℕ, ◌+◌, ◌≤◌, ◌<◌, List, ◌++◌, length, Bool, true, false}
use Rattle.rules_text.specs.text.Text.{IsLimit, IsFileLimit}

-- the number for which a condition holds, or 0 where it holds for none
abbrev pub IsOnly : (ℕ → Type 0) → ℕ → Type 0
IsOnly P n = (0 < n → P n) × ((m : ℕ) → P m → m ≡ n)

-- the front of a text whose last byte is the first one past a limit, and whether that is the file's
pub record IsUpTo (before : ℕ) (text front : List ℕ) (behind : ℕ) (ends_file : Bool) : Type 0 where
  pub more : List ℕ
  pub text_is : text ≡ front ++ more
  pub behind_is : behind ≡ length more
  pub limit : IsLimit before text (1 + behind)
  pub last : (other : ℕ) → IsLimit before text other → other ≤ 1 + behind
  pub file : ends_file ≡ true → IsFileLimit before text (1 + behind)
  pub no_file : ends_file ≡ false → IsFileLimit before text (1 + behind) → ⊥
