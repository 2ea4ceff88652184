use Rattle.std.proofs.Common.{◌<◌, arith}
use Rattle.mich_replay.proofs.Digits.{room_for_digit}
use Rattle.mich_replay.proofs.command.value_of.Goals as goal

pub overflow_add-value : goal.overflow_add-value
overflow_add-value c =
    let few : c.digits.digit-index < 6 = omega (arith, c.requires, c.digits-test.true) in
    omega (arith, room_for_digit c.digits.digit-index c.digits.value few c.digits.invariant.small, c.if-not-is_ascii_digit.ensures.bound, c.from.ensures)
