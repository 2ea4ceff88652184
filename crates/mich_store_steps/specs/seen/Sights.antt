-- A sight of the big maps of a store. What is seen of one without the form of a big map, or with a base that isn't there, fits no
-- type; it shows the same tickets.
use Rattle.std.specs.Prelude.{◌&&◌, ℕ, Bool, true, false, Option, Some, None, is_some, List, [], ◌∷◌}
use Rattle.std.specs.declared.cmp.Ordering.{Ordering}
use Rattle.std.specs.declared.cmp.Ordering.TheVariants.{Less}
use Rattle.std.specs.Map.{keys_of}
use Rattle.rules_data.specs.values.Val.{Val, Vals, Pairs, unit, some, left, right, both, list, table, big_table, no_val, more_vals, no_pair, more_pairs}
use Rattle.rules_data.specs.values.Tickets.{Held, pair_tickets}
use Rattle.rules_data.specs.values.Tables.{AreIncreasingKeys}
use Rattle.mich_term.specs.Keyed.{by}
use Rattle.mich_term.specs.ValueView.{puts}
use Rattle.mich_term.specs.declared.datum.Datum.{Datum}
use Rattle.mich_term.specs.declared.value.Value.TheOpen.{BigMap-F}
use Rattle.mich_bigmap.specs.Bases.{Bases}
use Rattle.mich_bigmap.specs.Formed.{is_there}
use Rattle.mich_bigmap.specs.Standing.{big_step_in}
use Rattle.mich_stack.specs.Views.{Sight}
use Rattle.mich_step.specs.Shown.{as_entries}

-- ---- tests

abbrev pub is_less : Ordering → Bool
is_less Less = true
is_less o = false

-- whether each key is above k, and each below those after it
abbrev pub are_above : Datum → List Datum → Bool
are_above k [] = true
are_above k (j ∷ js) = is_less (by k j) && are_above k js

abbrev pub are_increasing : List Datum → Bool
are_increasing [] = true
are_increasing (k ∷ ks) = are_above k ks && are_increasing ks

abbrev mutual
  -- whether no big map is in a value
  pub is_plain : Val → Bool
  is_plain (some v) = is_plain v
  is_plain (left v) = is_plain v
  is_plain (right v) = is_plain v
  is_plain (both v w) = is_plain v && is_plain w
  is_plain (list vs) = are_plain vs
  is_plain (table ps) = entries_plain ps
  is_plain (big_table ps) = false
  is_plain _ = true

  pub are_plain : Vals → Bool
  are_plain no_val = true
  are_plain (more_vals v vs) = is_plain v && are_plain vs

  pub entries_plain : Pairs → Bool
  entries_plain no_pair = true
  entries_plain (more_pairs k v ps) = is_plain v && entries_plain ps

-- the changes of an overlay, each with what it puts already seen
abbrev pub Seen : Type 0
Seen = List (Datum × Option Val)

abbrev pub put_plain : Option Val → Bool
put_plain None = true
put_plain (Some v) = is_plain v

abbrev pub all_plain : Seen → Bool
all_plain [] = true
all_plain (c ∷ cs) = put_plain c.1 && all_plain cs

abbrev pub all_put : Seen → Bool
all_put [] = true
all_put (c ∷ cs) = is_some c.1 && all_put cs

abbrev pub is_none : List Held → Bool
is_none [] = true
is_none (t ∷ ts) = false

-- what has a base puts no ticket
abbrev pub bare_well : Option ℕ → List Held → Bool
bare_well None ts = true
bare_well (Some k) ts = is_none ts

-- what has no base takes nothing away
abbrev pub puts_well : Option ℕ → Seen → Bool
puts_well None cs = all_put cs
puts_well (Some k) cs = true

-- whether one level of a big map, with the values that it puts already seen, has its form, and its base is in the store
abbrev pub is_layer : Bases → BigMap-F Val Pairs → Bool
is_layer bs b =
    is_there bs b.base && (are_increasing (keys_of b.overlay) && (bare_well b.base (pair_tickets (puts b.overlay))
    && (puts_well b.base b.overlay && all_plain b.overlay)))

-- ---- the sight

-- entries that fit no type, with these tickets
abbrev pub odd : List Held → Pairs
odd ts = more_pairs unit unit (more_pairs unit unit (as_entries ts))

abbrev pub seen_where : Bool → Bases → BigMap-F Val Pairs → Pairs
seen_where true bs b = big_step_in bs b
seen_where false bs b = odd (pair_tickets (puts b.overlay))

abbrev pub sight : Bases → Sight
sight bs b = seen_where (is_layer bs b) bs b

-- ---- what fits a type

abbrev mutual
  -- the keys of each big map in a value increase
  pub IsSane : Val → Type 0
  IsSane (some v) = IsSane v
  IsSane (left v) = IsSane v
  IsSane (right v) = IsSane v
  IsSane (both v w) = IsSane v × IsSane w
  IsSane (list vs) = AreSane vs
  IsSane (table ps) = EntriesSane ps
  IsSane (big_table ps) = AreIncreasingKeys ps
  IsSane _ = Unit {0}

  pub AreSane : Vals → Type 0
  AreSane no_val = Unit {0}
  AreSane (more_vals v vs) = IsSane v × AreSane vs

  pub EntriesSane : Pairs → Type 0
  EntriesSane no_pair = Unit {0}
  EntriesSane (more_pairs k v ps) = IsSane v × EntriesSane ps
