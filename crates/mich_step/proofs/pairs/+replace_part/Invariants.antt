use Rattle.mich_step.proofs.pairs.+replace_part.Given as goal

abbrev pub decreases-replace_part : goal.decreases-replace_part
decreases-replace_part l = l.place
