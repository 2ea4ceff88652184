use Rattle.std.proofs.Common.{map}
use Rattle.mich_world.specs.Restoring.{contract_of}
use Rattle.mich_snapshot.proofs.holders.sound_totals.Goals as goal

pub returns-clause-tries : goal.returns-clause-tries
returns-clause-tries c = λ s place ready each. c.tried_totals.ensures.tries s place (map contract_of c.args.contracts.now) ready c.in_ok-hashes.ensures each
