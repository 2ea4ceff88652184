-- What stands on top of a stack.
use Rattle.std.specs.Prelude.{◌≡◌, List, ◌∷◌, Option, option_to_list}
use Rattle.rules_data.specs.values.Val.{Val, nothing, some, list, set, table}
use Rattle.rules_code.specs.instructions.Straight as i
use Rattle.rules_code.specs.steps.Collections.{collection_step}
use Rattle.rules_code.specs.steps.Step.{kept, discarding, optional}

-- an optional value is on top
abbrev pub IsOptionOnTop : List Val → Type 0
IsOptionOnTop (nothing ∷ V) = Unit {0}
IsOptionOnTop (some v ∷ V) = Unit {0}
IsOptionOnTop _ = ⊥

-- a key, an optional value and a map are on top
abbrev pub IsMapOnTop : List Val → Type 0
IsMapOnTop (k ∷ nothing ∷ table ps ∷ V) = Unit {0}
IsMapOnTop (k ∷ some v ∷ table ps ∷ V) = Unit {0}
IsMapOnTop _ = ⊥

-- what UPDATE discards, and what GET_AND_UPDATE gives, with the values that are left
pub record IsExchange (V : List Val) (old : Option Val) (W : List Val) : Type 0 where
  pub update : collection_step i.update_map V ≡ discarding (option_to_list old) W
  pub both : collection_step i.get_and_update_map V ≡ kept (optional old ∷ W)

-- a list, a set or a map is on top
abbrev pub IsListOnTop : List Val → Type 0
IsListOnTop (list xs ∷ V) = Unit {0}
IsListOnTop _ = ⊥

abbrev pub IsSetOnTop : List Val → Type 0
IsSetOnTop (set xs ∷ V) = Unit {0}
IsSetOnTop _ = ⊥

abbrev pub IsTableOnTop : List Val → Type 0
IsTableOnTop (table ps ∷ V) = Unit {0}
IsTableOnTop _ = ⊥
