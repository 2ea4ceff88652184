use Rattle.mich_ops.specs.View.{contents as contents_of}
use Rattle.mich_operations.proofs.ForCallers.{hosting_fee}
use Rattle.mich_group.proofs.Fees.{fees_went}
use Rattle.mich_group.proofs.group.take_fees.Goals as goal

pub returns-in-Ok-clause-goes : goal.returns-in-Ok-clause-goes
returns-in-Ok-clause-goes c = λ w prices number s g n.
    fees_went c.args.world.now c.take_fee.new.self w prices number c.args.group.now.source (contents_of c.args.group.now) c.args.fees s g n c.requires.all
    c.in-Ok.ensures.others c.in-Ok.ensures.answer.1

pub returns-in-Ok-clause-hosting : goal.returns-in-Ok-clause-hosting
returns-in-Ok-clause-hosting c = λ h.
    hosting_fee c.args.world.now c.take_fee.new.self c.args.group.now.source c.args.fees c.in-Ok.ensures.others c.in-Ok.ensures.answer.1 h
