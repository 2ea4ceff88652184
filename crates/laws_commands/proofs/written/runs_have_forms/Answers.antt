use Rattle.laws_commands.proofs.written_lemmas.Agreement.{runs_have_forms}
use Rattle.laws_commands.proofs.written.runs_have_forms.Goals as goal

pub returns : goal.returns
returns c = runs_have_forms
