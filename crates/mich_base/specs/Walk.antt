-- How far a walk over nodes in pre-order has come.
use Rattle.std.specs.Prelude.{ℕ, zero, suc, ◌-◌, nat_le, if◌then◌else◌, List, [], ◌∷◌, Option, Some, None, ◌⊎◌}
use Rattle.std.proofs.Common.{inl, inr}
use Rattle.rules_text.specs.nodes.Tree.{Tree}

-- what is left of the room for n nodes, if they fit there
abbrev pub room_left : ℕ → ℕ → Option ℕ
room_left n room = if nat_le n room then Some (room - n) else None

-- the tree at a place of a list, or how many places are left behind its end
abbrev pub look : List Tree → ℕ → Tree ⊎ ℕ
look [] k = inr k
look (t ∷ ts) zero = inl t
look (t ∷ ts) (suc k) = look ts k
