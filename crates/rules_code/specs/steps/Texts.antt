-- Strings and bytes (Michelson reference, "Operations on strings" and "Operations on bytes").
use Rattle.std.specs.Prelude.{ℕ, ◌+◌, pos, nat_lt, nat_le, ◌&&◌, List, [], ◌∷◌, ◌++◌, length, take, drop, Option, Some, None, option_map, if◌then◌else◌}
use Rattle.rules_text.specs.nodes.Limits.{byte_limit}
use Rattle.rules_data.specs.values.Val.{Val, number, text, bytes, list, Vals, no_val, more_vals}
use Rattle.rules_code.specs.instructions.Straight.{TextRow}
use Rattle.rules_code.specs.instructions.Straight as i
use Rattle.rules_code.specs.steps.Failure as f
use Rattle.rules_code.specs.steps.Step.{Step, fails, wrong, kept, optional}

-- the bytes of a string or of bytes
abbrev pub bytes_of : Val → List ℕ
bytes_of (text s) = s
bytes_of (bytes b) = b
bytes_of _ = []

-- those of the elements of a list, one behind the other
abbrev pub joined : Vals → List ℕ
joined no_val = []
joined (more_vals v vs) = bytes_of v ++ joined vs

-- bytes within the limit, as a string or bytes, on the others
abbrev pub within_size : (List ℕ → Val) → List ℕ → List Val → Step
within_size made b V = if nat_le (length b) byte_limit then kept (made b ∷ V) else fails f.size_limit

-- so many bytes from an offset, which must lie within them, and so must the end
abbrev pub slice : ℕ → ℕ → List ℕ → Option (List ℕ)
slice offset count b =
    if nat_lt offset (length b) && nat_le (offset + count) (length b) then Some (take count (drop offset b)) else None

abbrev pub text_step : TextRow → List Val → Step
text_step i.concat_strings (text s ∷ text t ∷ V) = within_size text (s ++ t) V
text_step i.concat_bytes (bytes s ∷ bytes t ∷ V) = within_size bytes (s ++ t) V
text_step i.concat_string_list (list vs ∷ V) = within_size text (joined vs) V
text_step i.concat_bytes_list (list vs ∷ V) = within_size bytes (joined vs) V
text_step i.slice_string (number (pos offset) ∷ number (pos count) ∷ text s ∷ V) =
    kept (optional (option_map text (slice offset count s)) ∷ V)
text_step i.slice_bytes (number (pos offset) ∷ number (pos count) ∷ bytes s ∷ V) =
    kept (optional (option_map bytes (slice offset count s)) ∷ V)
text_step i.size_string (text s ∷ V) = kept (number (pos (length s)) ∷ V)
text_step i.size_bytes (bytes b ∷ V) = kept (number (pos (length b)) ∷ V)
text_step _ _ = wrong
