use Rattle.mich_step.proofs.pairs.+take_part.Given as goal

abbrev pub decreases-take_part : goal.decreases-take_part
decreases-take_part l = l.place
