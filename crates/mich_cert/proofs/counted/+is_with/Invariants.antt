use Rattle.mich_cert.proofs.counted.+is_with.Given as goal

abbrev pub decreases-is_with : goal.decreases-is_with
decreases-is_with l = l.n
