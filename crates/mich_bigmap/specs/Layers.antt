-- What is so of each big map in a value, in a store.
use Rattle.std.specs.Prelude.{◌≡◌, true}
use Rattle.mich_term.specs.Layers.{AnyLayer}
use Rattle.mich_term.specs.declared.value.Value.{Value, every-Value}
use Rattle.mich_term.specs.declared.value.Value.TheOpen.{BigMap-F}
use Rattle.mich_term.specs.declared.value.BigMap.{BigMap}
use Rattle.mich_bigmap.specs.Bases.{Bases}
use Rattle.mich_bigmap.specs.Formed.{is_there}

-- the base that it names is in the store
abbrev pub BasedLayer : Bases → BigMap-F Value BigMap → Type 0
BasedLayer bs b = is_there bs b.base ≡ true

-- each base that a value names is in the store
abbrev pub HasBases : Bases → Value → Type 0
HasBases bs v = every-Value AnyLayer (BasedLayer bs) v
