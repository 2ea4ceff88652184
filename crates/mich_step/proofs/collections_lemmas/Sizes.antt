-- Bytes within the limit, or over it.
use Rattle.std.proofs.Common.{◌≡◌, ℕ, ◌<◌, ◌≤◌, List, length, true, false, arith}
use Rattle.std.specs.Prelude.{nat_le}
use Rattle.std.proofs.lemmas.Bool.Decides.{nat_tests}
use Rattle.rules_text.specs.nodes.Limits.{byte_limit}

pub within_is : (b : List ℕ) → length b ≤ byte_limit → nat_le (length b) byte_limit ≡ true
within_is b h = grind (arith, nat_tests)

pub over_is : (b : List ℕ) → byte_limit < length b → nat_le (length b) byte_limit ≡ false
over_is b h = grind (arith, nat_tests)
