use Rattle.std.proofs.Common.{drop, ◌∙◌, [], ◌∷◌}
use Rattle.mich_num.proofs.BytesAgain.{read_again}
use Rattle.mich_num.proofs.WriteBytes.{written_natural, written_integer}
use Rattle.mich_num.proofs.spelling.to_bytes.Goals as goal
use Rattle.mich_num.proofs.spelling.to_bytes.Goals.{then-signed, else-signed}

pub returns-clause-exact : goal.returns-clause-exact
returns-clause-exact c =
    let len = c.bytes_below-len.result in
    let least_is = c.bytes_below-len.ensures.is_least in
    let zeros = drop len (0 ∷ 0 ∷ 0 ∷ 0 ∷ 0 ∷ 0 ∷ 0 ∷ 0 ∷ 0 ∷ 0 ∷ 0 ∷ 0 ∷ 0 ∷ 0 ∷ 0 ∷ 0 ∷ []) in
    let front = rw c.to_be_bytes.ensures at c.copy_from_slice.ensures.after in
    elim c.if-signed.branch [
      | then-signed w ↦
          written_integer c.args.signed c.args.a len c.if-signed.bytes_below c.copy_from_slice.new.self zeros c.ranges.a w.if-signed.true c.bytes_below-len.ensures.few
          c.bytes_below-len.ensures.held (w.bytes_below-is ∙ w.twice.ensures) least_is front
      | else-signed w ↦
          written_natural c.args.signed c.args.a len c.if-signed.bytes_below c.copy_from_slice.new.self zeros c.ranges.a c.requires w.if-signed.false
          c.bytes_below-len.ensures.few w.bytes_below-is least_is front
    ]

pub returns-clause-again : goal.returns-clause-again
returns-clause-again c = read_again c.args.signed c.args.a _ c.ranges.a c.requires (returns-clause-exact c)
