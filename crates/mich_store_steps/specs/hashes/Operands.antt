-- What PACK, UNPACK and the hashes take.
use Rattle.std.specs.Prelude.{◌≡◌, Bool, true, false, List, ◌∷◌}
use Rattle.rules_data.specs.values.Val.{Val, bytes}
use Rattle.rules_code.specs.instructions.Straight.{HashRow}
use Rattle.rules_code.specs.instructions.Straight as i
use Rattle.laws_typing.specs.packing.Names.{IsPackable}
use Rattle.mich_store_steps.specs.seen.Sights.{is_plain}

abbrev pub is_unpack : HashRow → Bool
is_unpack (i.unpack a) = true
is_unpack row = false

-- PACK takes a value that can be packed and holds no big map; the others take bytes
abbrev pub HasOperand : HashRow → List Val → Type 0
HasOperand i.pack (v ∷ V) = IsPackable v × (is_plain v ≡ true)
HasOperand (i.unpack a) (bytes b ∷ V) = Unit {0}
HasOperand i.blake2b (bytes b ∷ V) = Unit {0}
HasOperand i.sha256 (bytes b ∷ V) = Unit {0}
HasOperand i.sha512 (bytes b ∷ V) = Unit {0}
HasOperand i.hash_key (bytes b ∷ V) = Unit {0}
HasOperand row _ = ⊥
