use Rattle.mich_cert.proofs.counted.+drops.Given as goal

abbrev pub decreases-drops : goal.decreases-drops
decreases-drops l = l.n
