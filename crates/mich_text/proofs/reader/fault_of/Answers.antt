use Rattle.std.proofs.Common.{ℕ, ◌≡◌, ◌-◌, List, length, drop, Err, refl, sym, subst}
use Rattle.std.specs.List.{prefix_len}
use Rattle.std.specs.Char.{is_ascii_hexdigit}
use Rattle.rules_text.specs.declared.text.TextKind.{TextKind}
use Rattle.mich_text.specs.Plain.{IsFaultWithoutLimits}
use Rattle.mich_text.specs.Shown.{IsOpenBytes}
use Rattle.mich_text.specs.Results.{IsLimitedRead}
use Rattle.mich_text.specs.declared.fault.LexError.{LexError}
use Rattle.mich_text.proofs.limits.Limits.{long_late, kept_fault, rest_all}
use Rattle.mich_text.proofs.reader.fault_of.Goals as goal

pub returns-then-flaw-le1 : goal.returns-then-flaw-le1
returns-then-flaw-le1 c =
    λ p ends_file before text u. subst (λ (x : LexError). IsLimitedRead before text (Err x)) (sym c.too_long.ensures)
    (long_late before text c.args.front.now c.args.behind ends_file u c.args.flaw.kind c.args.flaw.left c.if-flaw-le1.true p)

pub returns-then-is_open_bytes : goal.returns-then-is_open_bytes
returns-then-is_open_bytes c = λ p ends_file before text u.
    let o = c.if-is_open_bytes.ensures in
    c.open_bytes.ensures (subst (λ (k : TextKind). IsFaultWithoutLimits c.args.front.now k c.args.flaw.left) o.0 p) (
      refl,
      subst (λ (l : List ℕ). prefix_len is_ascii_hexdigit (drop 2 l) ≡ length (drop 2 l))
          (rest_all (length c.args.front.now - c.args.flaw.left) c.args.front.now) o.1,
    ) ends_file before text u

pub returns : goal.returns
returns c = λ p ends_file before text u. kept_fault before text c.args.front.now c.args.behind ends_file u c.args.flaw.kind c.args.flaw.left c.if-flaw-le1.false p
    (λ o. c.if-is_open_bytes.ensures (subst (λ (l : List ℕ). IsOpenBytes l c.args.flaw.kind)
    (sym (rest_all (length c.args.front.now - c.args.flaw.left) c.args.front.now)) o))
