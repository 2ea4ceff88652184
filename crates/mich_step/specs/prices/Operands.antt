-- What an instruction must find on a stack to be weighed.
use Rattle.std.specs.Prelude.{◌≡◌, ◌≤ℤ◌, pos, true, List, ◌∷◌}
use Rattle.rules_data.specs.values.Val.{Val, number, text, bytes, table, is_comparable}
use Rattle.rules_code.specs.instructions.Straight.{Straight, CollectionRow, TextRow, on_collections, on_text}
use Rattle.rules_code.specs.instructions.Straight as i
use Rattle.mich_step.specs.collections.Shapes.{IsListOnTop}

-- GET finds a comparable key, and a map below it
abbrev pub HasKey : CollectionRow → List Val → Type 0
HasKey i.get_map (k ∷ table ps ∷ V) = is_comparable k ≡ true
HasKey i.get_map _ = ⊥
HasKey row V = Unit {0}

-- CONCAT finds two strings, two bytes or a list; SLICE finds an offset and a length that aren't negative, and what is cut
abbrev pub HasText : TextRow → List Val → Type 0
HasText i.concat_strings (text s ∷ text t ∷ V) = Unit {0}
HasText i.concat_bytes (bytes s ∷ bytes t ∷ V) = Unit {0}
HasText i.concat_string_list V = IsListOnTop V
HasText i.concat_bytes_list V = IsListOnTop V
HasText i.slice_string (number offset ∷ number count ∷ text s ∷ V) = (pos 0 ≤ℤ offset) × (pos 0 ≤ℤ count)
HasText i.slice_bytes (number offset ∷ number count ∷ bytes s ∷ V) = (pos 0 ≤ℤ offset) × (pos 0 ≤ℤ count)
HasText i.size_string V = Unit {0}
HasText i.size_bytes V = Unit {0}
HasText row _ = ⊥

-- the others weigh whatever they find
abbrev pub HasOperands : Straight → List Val → Type 0
HasOperands (on_collections row) V = HasKey row V
HasOperands (on_text row) V = HasText row V
HasOperands r V = Unit {0}
