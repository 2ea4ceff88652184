-- Sums that stop where they no longer fit.
use Rattle.std.specs.Prelude.{◌≡◌, ◌+◌, ◌^◌, ◌==◌, ◌&&◌, ℕ, nat_lt, Bool, if◌then◌else◌, List, Some, None}
use Rattle.std.specs.declared.option.Option.{Option}
use Rattle.rules_audit.specs.Fields.{Sort, minted, burnt, held}
use Rattle.rules_audit.specs.Verdicts.{same_sort}
use Rattle.mich_audit.specs.declared.sums.Sums.{Sums}

-- a number, or none where it has passed 2^128-1
abbrev pub fitting : ℕ → Option ℕ
fitting n = if nat_lt n (2 ^ 128) then Some n else None

-- these are the sums
pub record AreSums (m b h : ℕ) (has_line : Bool) (s : Sums) : Type 0 where
  pub minted : s.minted ≡ fitting m
  pub burnt : s.burnt ≡ fitting b
  pub held : s.held ≡ fitting h
  pub lined : s.has_line ≡ has_line

-- what an amount adds to the sum of a sort
abbrev pub added : Sort → Sort → ℕ → ℕ
added s other n = if same_sort s other then n else 0
