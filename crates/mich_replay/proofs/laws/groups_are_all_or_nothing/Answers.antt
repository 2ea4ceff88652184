use Rattle.mich_replay.proofs.laws.groups_are_all_or_nothing.Goals as goal

pub returns-clause-refused : goal.returns-clause-refused
returns-clause-refused c = c.refused_groups_move_nothing.ensures

pub returns-clause-failed : goal.returns-clause-failed
returns-clause-failed c = c.failed_groups_move_fees.ensures
