use Rattle.std.proofs.Common.{◌≡◌, [], ◌∷◌, ◌-◌, length, ap, ◌∙◌, arith, length-append}
use Rattle.std.specs.Int.{w32, to_be_bytes}
use Rattle.mich_binary.proofs.Writings.{patched_field}
use Rattle.mich_binary.proofs.writing.set_length.Goals as goal

pub returns : goal.returns
returns c = λ front content e s.
    let count : c.len.result - c.args.start - 4 ≡ length content = omega (arith, ap length e, length-append front (0 ∷ 0 ∷ 0 ∷ 0 ∷ content), c.len.ensures) in
    rw e (patched_field front content c.args.start s c.to_be_bytes-bytes.result (c.to_be_bytes-bytes.ensures ∙ ap (to_be_bytes w32) count))
