use Rattle.std.proofs.Common.{List, length}
use Rattle.rules_text.specs.text.Token.{Token}
use Rattle.mich_text.specs.Nodes.{stack_view}
use Rattle.mich_text.proofs.readings.Reading.{At}
use Rattle.mich_text.proofs.plain.statement_at.Given as goal

-- the tokens so far lead here, and the parser has taken them
abbrev pub invariant-tokens : goal.invariant-tokens
invariant-tokens l = (ts : List Token) × At l.text ts l.here (stack_view l.stack.items)

abbrev pub decreases-tokens : goal.decreases-tokens
decreases-tokens l = length l.here
