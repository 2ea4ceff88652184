use Rattle.mich_cert.proofs.counted.+is_part.Given as goal

abbrev pub decreases-is_part : goal.decreases-is_part
decreases-is_part l = l.n
