use Rattle.std.proofs.Common.{◌≡◌, ◌-◌, ◌+◌, ◌∙◌, ap, length, drop, arith}
use Rattle.rules_text.specs.binary.Reading.{groups_value}
use Rattle.mich_binary.proofs.Integers.{later_less, one_group}
use Rattle.mich_binary.proofs.integer.groups_value.Goals as goal

pub returns-in_err-value : goal.returns-in_err-value
returns-in_err-value c =
    let gs = c.args.groups.now in
    let i = c.loop-i.i in
    let too_many = c.in_err-value.ensures in
    rw c.from_residual.ensures (λ small. too_many (omega (arith, later_less gs (length gs - (i + 1)), one_group gs i (omega arith))))

pub returns : goal.returns
returns c =
    let gs = c.args.groups.now in
    let z : length gs - c.loop-i.i ≡ 0 = omega arith in
    let is : c.loop-i.value ≡ groups_value gs = c.loop-i.invariant.is ∙ ap (λ k. groups_value (drop k gs)) z in
    (omega arith, is)
