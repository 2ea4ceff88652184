use Rattle.mich_operations.proofs.Credited.{keeps_ledger}
use Rattle.mich_operations.proofs.gifts.take.Goals as goal

pub returns-in-Ok-clause-keeps : goal.returns-in-Ok-clause-keeps
returns-in-Ok-clause-keeps c = keeps_ledger c.args.world.now c.debit.new.world c.in-Ok.ensures.world c.in-Ok.ensures.keeps

pub returns-in-Err-Short-clause-keeps : goal.returns-in-Err-Short-clause-keeps
returns-in-Err-Short-clause-keeps c = keeps_ledger c.args.world.now c.debit.new.world c.in-Err-Short.ensures.world c.in-Err-Short.ensures.keeps

pub returns-in-Err-Memory-clause-keeps : goal.returns-in-Err-Memory-clause-keeps
returns-in-Err-Memory-clause-keeps c = keeps_ledger c.args.world.now c.debit.new.world c.in-Err-Memory.ensures.world c.in-Err-Memory.ensures.keeps
