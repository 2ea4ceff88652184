-- What instructions on big maps take.
use Rattle.std.specs.Prelude.{◌≡◌, true, List, ◌∷◌}
use Rattle.rules_data.specs.values.Val.{Val, nothing, some, big_table, Pairs}
use Rattle.rules_data.specs.values.Tables.{AreIncreasingKeys}
use Rattle.rules_code.specs.instructions.Straight.{CollectionRow}
use Rattle.rules_code.specs.instructions.Straight as i
use Rattle.mich_stack.specs.Keys.{IsKeyOnTop}
use Rattle.mich_store_steps.specs.seen.Sights.{is_plain, entries_plain}

-- the entries of a big map: their keys increase, and no big map is in their values
abbrev pub AreEntries : Pairs → Type 0
AreEntries ps = AreIncreasingKeys ps × (entries_plain ps ≡ true)

-- an optional value without big maps
abbrev pub IsPlainOption : Val → Type 0
IsPlainOption nothing = Unit {0}
IsPlainOption (some v) = is_plain v ≡ true
IsPlainOption _ = ⊥

abbrev pub IsOptionOnTop : List Val → Type 0
IsOptionOnTop (o ∷ V) = IsPlainOption o
IsOptionOnTop _ = ⊥

-- a big map is on top
abbrev pub IsBigMapOnTop : List Val → Type 0
IsBigMapOnTop (big_table ps ∷ V) = AreEntries ps
IsBigMapOnTop _ = ⊥

-- it is below a key
abbrev pub IsBigMapSecond : List Val → Type 0
IsBigMapSecond (k ∷ V) = IsBigMapOnTop V
IsBigMapSecond _ = ⊥

-- it is below a key and an optional value
abbrev pub IsBigMapThird : List Val → Type 0
IsBigMapThird (k ∷ o ∷ V) = IsPlainOption o × IsBigMapOnTop V
IsBigMapThird _ = ⊥

-- a row on big maps finds one, with a key and what is to be put there
abbrev pub HasBigMap : CollectionRow → List Val → Type 0
HasBigMap i.mem_big_map V = IsBigMapSecond V
HasBigMap i.get_big_map V = IsBigMapSecond V
HasBigMap i.update_big_map V = IsBigMapThird V
HasBigMap i.get_and_update_big_map V = IsBigMapThird V
HasBigMap row V = Unit {0}

abbrev pub HasKey : CollectionRow → List Val → Type 0
HasKey i.mem_big_map V = IsKeyOnTop V
HasKey i.get_big_map V = IsKeyOnTop V
HasKey i.update_big_map V = IsKeyOnTop V
HasKey i.get_and_update_big_map V = IsKeyOnTop V
HasKey row V = Unit {0}
