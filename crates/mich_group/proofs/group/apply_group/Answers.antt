use Rattle.rules_world.specs.world.Groups.{fees_taken}
use Rattle.mich_gas.specs.View.{listed}
use Rattle.mich_ops.specs.View.{contents as contents_of}
use Rattle.mich_world.proofs.ForCallers.{world_same}
use Rattle.mich_group.proofs.Fees.{is_there, settled_ended}
use Rattle.mich_group.proofs.group.apply_group.Goals as goal

pub returns-in-Err-clause-keeps : goal.returns-in-Err-clause-keeps
returns-in-Err-clause-keeps c = world_same _

pub apply_admitted-requires-clause-goes : goal.apply_admitted-requires-clause-goes
apply_admitted-requires-clause-goes c =
    let g = c.requires.good in
    let source = c.args.group.now.source in
    let contents = contents_of c.args.group.now in
    (g.0, fees_taken g.0 source contents, c.in_ok-take_fees.ensures.goes g.0 (listed c.args.costs.now) c.args.number g.1 g.2 (c.in-Ok.ensures.refusal g.0 g.1 (is_there source g.2.key_hash)))

pub returns-clause-settled : goal.returns-clause-settled
returns-clause-settled c = λ w s g.
    let source = c.args.group.now.source in
    let contents = contents_of c.args.group.now in
    let prices = listed c.args.costs.now in
    let n = c.in-Ok.ensures.refusal w s (is_there source g.key_hash) in
    settled_ended _ prices c.args.number source contents c.apply_admitted.new.world w c.apply_admitted.result n
    (c.apply_admitted.ensures.settled w (fees_taken w source contents) (c.in_ok-take_fees.ensures.goes w prices c.args.number s g n))
