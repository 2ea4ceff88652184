-- Views that are typed one after another.
use Rattle.std.proofs.Common.{List, ◌++◌}
use Rattle.rules_code.specs.instructions.Arguments.{Found, found, fault}
use Rattle.rules_code.specs.typing.Scripts.{TypedView}

-- behind those that are typed
abbrev pub behind : List TypedView → Found (List TypedView) → Found (List TypedView)
behind vs (found ws) = found (vs ++ ws)
behind vs (fault l) = fault l
