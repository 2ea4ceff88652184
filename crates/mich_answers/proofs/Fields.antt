-- Fields of `Pack` that are another number than two.
use Rattle.std.proofs.Common.{◌≡◌, List, [], ◌∷◌, None, refl}
use Rattle.rules_files.specs.commands.Packs.{pack_fields}
use Rattle.rules_files.specs.statements.Statements.{nodes_of}
use Rattle.mich_base.specs.Counted.{IsNotTwo}
use Rattle.mich_base.specs.View.{trees}
use Rattle.mich_base.specs.declared.node.Node.{Node}

pub not_two : (ns : List Node) → IsNotTwo ns → pack_fields (nodes_of (trees ns)) ≡ None
not_two [] h = refl
not_two (a ∷ []) h = refl
not_two (a ∷ b ∷ []) h = absurd h
not_two (a ∷ b ∷ c ∷ ns) h = refl
