use Rattle.laws_world.proofs.lines_lemmas.Minted.{amount_is_told, told_in_order}
use Rattle.laws_world.proofs.lines.tickets_are_told.Goals as goal

pub returns : goal.returns
returns c = λ w i. (told_in_order w i, amount_is_told w i)
