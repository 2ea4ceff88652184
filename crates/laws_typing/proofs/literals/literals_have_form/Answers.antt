use Rattle.laws_typing.proofs.literals_lemmas.Forms.{literals_have_form}
use Rattle.laws_typing.proofs.literals.literals_have_form.Goals as goal

pub returns : goal.returns
returns c = literals_have_form
