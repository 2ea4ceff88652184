use Rattle.std.proofs.Common.{◌≡◌, ◌-◌, length, Some, rules}
use Rattle.std.specs.Prelude.{slice_get}
use Rattle.mich_interpreter.specs.declared.frame.Frame.TheVariants as f
use Rattle.mich_interpreter.proofs.Leaving.{with_last}
use Rattle.mich_interpreter.proofs.machine.turning.Goals as goal

pub returns-in-Some-Turns : goal.returns-in-Some-Turns
returns-in-Some-Turns c =
    let last : slice_get c.args.frames.now (length c.args.frames.now - 1) ≡ Some (f.Turns c.in-Some-Turns.body) = search rules in
    with_last c.args.frames.now (f.Turns c.in-Some-Turns.body) last
