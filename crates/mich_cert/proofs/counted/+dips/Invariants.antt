use Rattle.mich_cert.proofs.counted.+dips.Given as goal

abbrev pub decreases-dips : goal.decreases-dips
decreases-dips l = l.n
