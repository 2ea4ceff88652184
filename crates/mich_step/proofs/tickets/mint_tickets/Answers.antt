use Rattle.std.proofs.Common.{rules}
use Rattle.mich_step.proofs.Minting.{minted_none}
use Rattle.mich_step.proofs.tickets.mint_tickets.Goals as goal

pub returns-then-n-eq0-clause-minted : goal.returns-then-n-eq0-clause-minted
returns-then-n-eq0-clause-minted c = λ V. minted_none c.args.id c.args.n V c.args.ledger.now (search rules)
