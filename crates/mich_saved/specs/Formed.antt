-- What is so of the values that are read.
use Rattle.std.specs.Prelude.{◌≡◌, true, List, None}
use Rattle.std.specs.List.{AllByRecursion}
use Rattle.rules_data.specs.types.Attributes.{big_value}
use Rattle.rules_data.specs.types.Kind.{Kind}
use Rattle.mich_term.specs.Layers.{AnyLayer, AreFormed, NoBigMap}
use Rattle.mich_term.specs.declared.datum.Datum.{Datum}
use Rattle.mich_term.specs.declared.value.Value.{Value, every-Value}
use Rattle.mich_term.specs.declared.value.Value.TheOpen.{BigMap-F}
use Rattle.mich_term.specs.declared.value.BigMap.{BigMap}

-- a big map without a base
abbrev pub AloneLayer : BigMap-F Value BigMap → Type 0
AloneLayer b = b.base ≡ None

-- each big map in a value has its form and no base
pub record IsAlone (x : Value) : Type 0 where
  pub formed : AreFormed x
  pub alone : every-Value AnyLayer AloneLayer x

-- so is a value of this type, and no big map is in it where the type may lie in a big map (Michelson reference, "big_map")
pub record IsWhole (a : Kind) (x : Value) : Type 0 where
  pub alone : IsAlone x
  pub plain : big_value a ≡ true → every-Value AnyLayer NoBigMap x

-- so is the value of each entry
abbrev pub AreWholeEntries : Kind → List (Datum × Value) → Type 0
AreWholeEntries a es = AllByRecursion (λ e. IsWhole a e.1) es
