use Rattle.mich_world.proofs.simulation_lemmas.Opening.{credits_make_accounts}
use Rattle.mich_world.proofs.simulation.agreeing.credits_make_accounts.Goals as goal

pub returns : goal.returns
returns c = credits_make_accounts
