use Rattle.mich_cert.proofs.counted.+is_comb.Given as goal

abbrev pub decreases-is_comb : goal.decreases-is_comb
decreases-is_comb l = l.n
