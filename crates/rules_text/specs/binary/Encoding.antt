-- What encoding gives for a node: its spelling, or why it is refused.
use Rattle.std.specs.Prelude.{ℕ, List, length, Bool, false, Option, Some, None, is_none, Result, Ok, Err, nat_lt, if◌then◌else◌}
use Rattle.std.specs.List.{position}
use Rattle.rules_text.specs.nodes.Limits.{encoded_limit}
use Rattle.rules_text.specs.nodes.Tree.{Tree, int, str, bytes, prim, seq, preorder}
use Rattle.rules_text.specs.nodes.Primitives.{code_of_name}
use Rattle.rules_text.specs.binary.Spelling.{spelling}

-- the node at this location has a name that is no primitive's; or the spelling is too long
pub data Refusal : Type 0 where
  no_code : ℕ → Refusal
  too_long : Refusal

-- whether a node, without those in it, is an application of a name that is no primitive's
abbrev pub lacks_code : Tree → Bool
lacks_code (int n) = false
lacks_code (str s) = false
lacks_code (bytes b) = false
lacks_code (prim name annotations args) = is_none (code_of_name name)
lacks_code (seq ts) = false

-- where every name has a code, the spelling within the limit
abbrev pub spelt : Tree → Result (List ℕ) Refusal
spelt t = if nat_lt encoded_limit (length (spelling t)) then Err too_long else Ok (spelling t)

abbrev pub encoded_by : Option ℕ → Tree → Result (List ℕ) Refusal
encoded_by (Some location) t = Err (no_code location)
encoded_by None t = spelt t

-- the first name in pre-order that is no primitive's is refused before all else
unfoldable pub encoded : Tree → Result (List ℕ) Refusal
encoded t = encoded_by (position lacks_code (preorder t)) t
