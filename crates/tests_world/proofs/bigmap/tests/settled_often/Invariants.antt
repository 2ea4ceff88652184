use Rattle.mich_bigmap.specs.Formed.{IsFormed}
use Rattle.tests_world.proofs.bigmap.tests.settled_often.Given as goal

abbrev pub invariant-numbers : goal.invariant-numbers
invariant-numbers l = IsFormed l.m
