-- A condition is a limit's, or one that no limit has a part in.
use Rattle.std.proofs.Common.{◌≡◌, ℕ, ◌+◌, inl, inr, List, refl, ap, arith}
use Rattle.rules_text.specs.declared.text.TextKind.{TextKind}
use Rattle.rules_text.specs.declared.text.TextKind.TheVariants.{TooLong}
use Rattle.rules_text.specs.text.Text.{IsLimit, Holds, past_limit, flawed, in_comment, is_open, unexpected, too_deep, rank}
use Rattle.mich_text.specs.Plain as plain
use Rattle.mich_text.proofs.tokens.Ahead.{flaw_le}

pub data Sort (before : ℕ) (text : List ℕ) (k : TextKind) (left : ℕ) (h : Holds before text k left) : Type 0 where
  of_limit : k ≡ TooLong → rank h ≡ 0 → IsLimit before text left → Sort before text k left h
  own : plain.HoldsWithoutLimits text k left → rank h ≡ 1 + plain.rank_without_limits k → Sort before text k left h

pub sort_of : (before : ℕ) (text : List ℕ) (k : TextKind) (left : ℕ) (h : Holds before text k left) → Sort before text k left h
sort_of before text k left (past_limit (e, inl l)) = of_limit e refl (inl l.limit)
sort_of before text k left (past_limit (e, inr f)) = of_limit e refl (inr f)
sort_of before text k left (flawed p) =
    own (plain.flawed (record { before = p.tokens; here = p.here; leads = p.leads; some = p.some; wrong = p.wrong }))
    (omega (arith, (flaw_le p.here (record { kind = k; left = left }) p.wrong).1))
sort_of before text k left (in_comment p) = own (plain.in_comment p) (omega (arith, ap plain.rank_without_limits p.kind_is))
sort_of before text k left (is_open p) = own (plain.is_open p) (omega (arith, ap plain.rank_without_limits p.kind_is))
sort_of before text k left (unexpected p) = own (plain.unexpected p) (omega (arith, ap plain.rank_without_limits p.kind_is))
sort_of before text k left (too_deep p) = own (plain.too_deep p) (omega (arith, ap plain.rank_without_limits p.kind_is))
