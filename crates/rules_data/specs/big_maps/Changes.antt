-- What changes make of the entries of a big map (Michelson reference, "big_map").
use Rattle.std.specs.Prelude.{Option, Some, None, List, [], ◌∷◌}
use Rattle.rules_data.specs.values.Val.{Val, Pairs}
use Rattle.rules_data.specs.values.Tables.{with_value, without_key}

-- the entries, where a value is put at the key k, or its entry is taken away
abbrev pub written : Val → Option Val → Pairs → Pairs
written k (Some v) ps = with_value k v ps
written k None ps = without_key k ps

-- the entries of a base, changed by an overlay
abbrev pub changed : List (Val × Option Val) → Pairs → Pairs
changed [] ps = ps
changed (c ∷ cs) ps = written c.0 c.1 (changed cs ps)
