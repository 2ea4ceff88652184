use Rattle.std.proofs.Common.{◌+◌, arith}
use Rattle.mich_text.proofs.tokens.Digits.{front_le, one_more}
use Rattle.mich_text.proofs.lexical.decimal.Goals as goal

pub returns-in_err-checked_mul : goal.returns-in_err-checked_mul
returns-in_err-checked_mul c =
    let i = c.loop-c.c-index in
    let ds = c.args.digits.now in
    rw c.from_residual.ensures (omega (
      arith,
      c.in_err-checked_mul.ensures,
      one_more ds i c.loop-c.value c.loop-c-test.true (c.requires i 0 c.loop-c-test.true) c.loop-c.invariant,
      front_le ds (i + 1),
    ))

pub returns-in_err-value : goal.returns-in_err-value
returns-in_err-value c =
    let i = c.loop-c.c-index in
    let ds = c.args.digits.now in
    rw c.from_residual-in_err-value.ensures (omega (
      arith,
      c.in_err-value.ensures,
      c.in_ok-checked_mul.ensures,
      c.from.ensures,
      one_more ds i c.loop-c.value c.loop-c-test.true (c.requires i 0 c.loop-c-test.true) c.loop-c.invariant,
      front_le ds (i + 1),
    ))

pub loop-c-preserved : goal.loop-c-preserved
loop-c-preserved c =
    let i = c.loop-c.c-index in
    let ds = c.args.digits.now in
    omega (
      arith,
      c.in_ok-value.ensures,
      c.in_ok-checked_mul.ensures,
      c.from.ensures,
      one_more ds i c.loop-c.value c.loop-c-test.true (c.requires i 0 c.loop-c-test.true) c.loop-c.invariant,
    )
