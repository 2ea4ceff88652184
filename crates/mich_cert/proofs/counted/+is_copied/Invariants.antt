use Rattle.mich_cert.proofs.counted.+is_copied.Given as goal

abbrev pub decreases-is_copied : goal.decreases-is_copied
decreases-is_copied l = l.n
