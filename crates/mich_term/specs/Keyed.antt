-- Lists of entries with increasing keys.
use Rattle.std.specs.Prelude.{Bool, List, Option}
use Rattle.std.specs.declared.cmp.Ordering.{Ordering}
use Rattle.std.specs.List.Sorted.{IsStrictlySortedBy}
use Rattle.std.specs.Map.{lookup, remove_entry}
use Rattle.std.specs.BTreeMap.{insert_entry, is_at}
use Rattle.std.specs.BTreeSet.{insert_key}
use Rattle.std.specs.Set.{remove_key}
use Rattle.std.specs.List.{list_any}
use Rattle.mich_term.specs.declared.datum.Datum.{Datum}
use Rattle.rules_data.specs.values.Order.{order}
use Rattle.mich_term.specs.View.{datum}

-- the order of keys
abbrev pub by : Datum → Datum → Ordering
by a b = order (datum a) (datum b)

-- each key is below those after it
abbrev pub IsIncreasing : List Datum → Type 0
IsIncreasing = IsStrictlySortedBy by

-- whether k is an element
abbrev pub has : Datum → List Datum → Bool
has k ks = list_any (is_at (by k)) ks

-- with the element k
abbrev pub put : Datum → List Datum → List Datum
put k ks = insert_key by ks k

-- without the element k
abbrev pub taken : Datum → List Datum → List Datum
taken k ks = remove_key (is_at (by k)) ks

module _ {X : Type 0} where
  -- the value at the key k
  abbrev pub found : Datum → List (Datum × X) → Option X
  found k es = lookup (is_at (by k)) es

  -- with v at the key k
  abbrev pub with : Datum → X → List (Datum × X) → List (Datum × X)
  with k v es = insert_entry by es k v

  -- without the key k
  abbrev pub without : Datum → List (Datum × X) → List (Datum × X)
  without k es = remove_entry (is_at (by k)) es
