-- What collections ask of fitting values besides.
use Rattle.std.specs.Prelude.{List}
use Rattle.rules_data.specs.values.Val.{Val}
use Rattle.mich_stack.specs.Keys.{IsKeyOnTop}
use Rattle.rules_code.specs.instructions.Straight.{CollectionRow}
use Rattle.rules_code.specs.instructions.Straight as i

-- an element, or a key, is comparable
abbrev pub SuitsCollections : CollectionRow → List Val → Type 0
SuitsCollections i.mem_set V = IsKeyOnTop V
SuitsCollections i.mem_map V = IsKeyOnTop V
SuitsCollections i.get_map V = IsKeyOnTop V
SuitsCollections i.update_set V = IsKeyOnTop V
SuitsCollections i.update_map V = IsKeyOnTop V
SuitsCollections i.get_and_update_map V = IsKeyOnTop V
SuitsCollections _ V = Unit {0}
