-- What was restored stands for what was saved.
use Rattle.mich_world.proofs.restoring_lemmas.Restored.{supply_fits}
use Rattle.mich_world.proofs.world.World.restore.Goals as goal

pub begun-requires : goal.begun-requires
begun-requires c = supply_fits c.args.saved c.requires

pub returns-clause-stands : goal.returns-clause-stands
returns-clause-stands c = (c.begin_anew.ensures c.args.saved c.in_ok-fill.ensures).stands

pub returns-clause-stored : goal.returns-clause-stored
returns-clause-stored c = (c.begin_anew.ensures c.args.saved c.in_ok-fill.ensures).stored

pub returns-clause-ticketless : goal.returns-clause-ticketless
returns-clause-ticketless c = (c.begin_anew.ensures c.args.saved c.in_ok-fill.ensures).ticketless

pub returns-clause-scripts : goal.returns-clause-scripts
returns-clause-scripts c = (c.begin_anew.ensures c.args.saved c.in_ok-fill.ensures).scripts
