-- The bytes that are held.
use Rattle.std.specs.Prelude.{ℕ, ◌≤◌, List, take}
use Rattle.mich_base.specs.declared.octets.Held.{Held}
use Rattle.mich_base.specs.declared.octets.Held.TheVariants.{Short, Long}

abbrev pub bytes_of : Held → List ℕ
bytes_of (Short n bytes) = take n bytes
bytes_of (Long bytes) = bytes.value.items

abbrev pub IsWithin : Held → Type 0
IsWithin (Short n bytes) = n ≤ 22
IsWithin (Long bytes) = Unit {0}
