-- The effect on types: unions, options and lists; sets, maps and big maps (Michelson reference, "Instructions").
use Rattle.std.specs.Prelude.{◌&&◌, List, ◌∷◌, Option, None}
use Rattle.rules_data.specs.types.Kind.{Kind, option, or, list, set, map, big_map}
use Rattle.rules_data.specs.types.Attributes.{duplicable}
use Rattle.rules_code.specs.instructions.Types.{bool, nat}
use Rattle.rules_code.specs.instructions.Same.{same_kind}
use Rattle.rules_code.specs.instructions.Change.{Change, makes, keeps, where_true}
use Rattle.rules_code.specs.instructions.Straight.{UnionRow, CollectionRow}
use Rattle.rules_code.specs.instructions.Straight as i

-- ---- unions, options and lists

abbrev pub union_change : UnionRow → List Kind → Option Change
union_change (i.left b) (a ∷ A) = makes (or a b) A
union_change (i.right a) (b ∷ A) = makes (or a b) A
union_change i.some (a ∷ A) = makes (option a) A
union_change (i.none t) A = makes (option t) A
union_change (i.nil t) A = makes (list t) A
union_change i.cons (a ∷ list b ∷ A) = where_true (same_kind a b) (keeps (list b ∷ A))
union_change r A = None

-- ---- sets, maps and big maps

-- where a key and a value, or an optional value, are those of a map
abbrev pub where_key : Kind → Kind → Option Change → Option Change
where_key j k c = where_true (same_kind j k) c

abbrev pub where_entry : Kind → Kind → Kind → Kind → Option Change → Option Change
where_entry j w k v c = where_true (same_kind j k && same_kind w v) c

abbrev pub collection_change : CollectionRow → List Kind → Option Change
collection_change (i.empty_set k) A = makes (set k) A
collection_change (i.empty_map k v) A = makes (map k v) A
collection_change (i.empty_big_map k v) A = makes (big_map k v) A
collection_change i.size_list (list a ∷ A) = makes nat A
collection_change i.size_set (set k ∷ A) = makes nat A
collection_change i.size_map (map k v ∷ A) = makes nat A
collection_change i.mem_set (j ∷ set k ∷ A) = where_key j k (makes bool A)
collection_change i.mem_map (j ∷ map k v ∷ A) = where_key j k (makes bool A)
collection_change i.mem_big_map (j ∷ big_map k v ∷ A) = where_key j k (makes bool A)
collection_change i.get_map (j ∷ map k v ∷ A) = where_key j k (where_true (duplicable v) (makes (option v) A))
collection_change i.get_big_map (j ∷ big_map k v ∷ A) = where_key j k (where_true (duplicable v) (makes (option v) A))
collection_change i.update_set (j ∷ bool ∷ set k ∷ A) = where_key j k (keeps (set k ∷ A))
collection_change i.update_map (j ∷ option w ∷ map k v ∷ A) = where_entry j w k v (keeps (map k v ∷ A))
collection_change i.update_big_map (j ∷ option w ∷ big_map k v ∷ A) = where_entry j w k v (keeps (big_map k v ∷ A))
collection_change i.get_and_update_map (j ∷ option w ∷ map k v ∷ A) = where_entry j w k v (makes (option v) (map k v ∷ A))
collection_change i.get_and_update_big_map (j ∷ option w ∷ big_map k v ∷ A) = where_entry j w k v (makes (option v) (big_map k v ∷ A))
collection_change r A = None
