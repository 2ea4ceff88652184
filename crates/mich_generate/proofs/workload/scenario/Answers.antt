use Rattle.mich_generate.proofs.Calls.{one_more}
use Rattle.mich_generate.proofs.workload.scenario.Goals as goal

pub loop-preserved : goal.loop-preserved
loop-preserved c = one_more _ _ c.loop-test.true c.next-x.ensures c.in_ok-put_call.ensures c.loop.invariant
