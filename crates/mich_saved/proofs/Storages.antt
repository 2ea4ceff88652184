-- Types of storages that are read are well formed.
use Rattle.std.proofs.Common.{◌≡◌}
use Rattle.laws_data.specs.types.Laws.{IsWellFormed}
use Rattle.laws_data.proofs.types_lemmas.ForCallers.{read_well, within}
use Rattle.rules_text.specs.nodes.Tree.{Tree}
use Rattle.rules_data.specs.types.Kind.{Kind}
use Rattle.rules_data.specs.types.Reading.{a_type, typed, type_at}

pub type_is_well : (t : Tree) (a : Kind) → type_at 0 t ≡ a_type a → IsWellFormed a
type_is_well t a e = read_well 0 t a (within (typed 0 t) a e).0
