use Rattle.mich_cert.proofs.counted.+is_updated.Given as goal

abbrev pub decreases-is_updated : goal.decreases-is_updated
decreases-is_updated l = l.n
