-- Values that lie whole in themselves: none of their big maps has a base. What a big map puts holds no big map (Michelson reference,
-- "big_map").
use Rattle.std.specs.Prelude.{ℕ, Bool, true, false, ◌&&◌, Option, Some, None, List, [], ◌∷◌, map}
use Rattle.std.specs.Map.{values_of}
use Rattle.mich_term.specs.declared.datum.Datum.{Datum}
use Rattle.mich_term.specs.declared.value.Value.{Value, fold-Value}
use Rattle.mich_term.specs.declared.value.Value.TheOpen.{Value-F, BigMap-F}

abbrev pub has_no_base : Option ℕ → Bool
has_no_base None = true
has_no_base (Some k) = false

abbrev pub all : List Bool → Bool
all [] = true
all (b ∷ bs) = b && all bs

abbrev pub flat_big_step : BigMap-F Bool Bool → Bool
flat_big_step b = has_no_base b.base

abbrev pub flat_step : Value-F Bool Bool → Bool
flat_step (Value-F.Some b) = b
flat_step (Value-F.Left b) = b
flat_step (Value-F.Right b) = b
flat_step (Value-F.Pair b c) = b && c
flat_step (Value-F.List bs) = all bs
flat_step (Value-F.Map es) = all (values_of es)
flat_step (Value-F.BigMap b) = b
flat_step _ = true

abbrev pub is_flat : Value → Bool
is_flat = fold-Value Bool Bool flat_step flat_big_step

-- the same of lists and of the values of entries
abbrev pub are_flat : List Value → Bool
are_flat vs = all (map is_flat vs)

abbrev pub flat_entry : Datum × Value → Datum × Bool
flat_entry e = (e.0, is_flat e.1)

abbrev pub entries_flat : List (Datum × Value) → Bool
entries_flat es = all (values_of (map flat_entry es))
