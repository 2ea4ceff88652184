use Rattle.std.proofs.Common.{◌≡◌, ℕ, ◌<◌, ◌⊎◌, inl, inr, Bool, true, false, Err, refl, sym, subst, arith}
use mathlib.Core.Bool.{not}
use Rattle.mich_text.specs.Results.{IsLimitedRead}
use Rattle.mich_text.specs.declared.fault.LexError.{LexError}
use Rattle.mich_text.proofs.limits.Limits.{long_open, long_file, kept_node}
use Rattle.mich_text.proofs.reader.statement_of.Goals as goal

open_of : (b : Bool) → not b ≡ true → b ≡ false
open_of true e = absurd cc
open_of false e = refl

closed_of : (b : Bool) → not b ≡ false → b ≡ true
closed_of true e = refl
closed_of false e = absurd cc

some_left : (b : Bool) (end : ℕ) → ((b ≡ true) × (end ≡ 0 → ⊥)) ⊎ (b ≡ false) → (0 < end) ⊎ (b ≡ false)
some_left b end (inl h) = inl (omega (arith, h.1))
some_left b end (inr h) = inr h

pub returns-then-not-found : goal.returns-then-not-found
returns-then-not-found c =
    λ front n before text u. subst (λ (x : LexError). IsLimitedRead before text (Err x)) (sym c.too_long.ensures)
    (long_open before text front c.args.behind c.args.ends_file u c.args.found n (open_of c.args.found.closed c.if-not-found.true))

pub returns-then-found-eq0 : goal.returns-then-found-eq0
returns-then-found-eq0 c =
    λ front n before text u. subst (λ (x : LexError). IsLimitedRead before text (Err x)) (sym c.too_long-then-found-eq0.ensures)
    (long_file before text front c.args.behind c.args.ends_file u c.args.found n c.if-ends_file.true c.if-found-eq0.true)

pub returns : goal.returns
returns c =
    λ front n before text u. kept_node before text front c.args.behind c.args.ends_file u c.args.found n
    (closed_of c.args.found.closed c.if-not-found.false) (some_left c.args.ends_file c.args.found.end c.else-ends_file.either)
