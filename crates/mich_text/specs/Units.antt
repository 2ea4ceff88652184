-- One step of a string.
use Rattle.std.specs.Prelude.{ℕ, ◌+◌, ◌<◌, ◌≤◌, List, length, [], Option, None, Ok, Err}
use Rattle.rules_text.specs.text.Lexical.{Spelt, spelt, with_byte, after_gap, after_block}
use Rattle.mich_text.specs.Gives.{flaw_view}
use Rattle.mich_text.specs.declared.lexical.Block.{Block}
use Rattle.mich_text.specs.declared.lexical.Block.TheVariants.{Inside, Outside, Unclosed}
use Rattle.mich_text.specs.declared.lexical.Unit.{Unit as Step}
use Rattle.mich_text.specs.declared.lexical.Unit.TheVariants.{Byte, Closed, Bad}

-- what the string spells, by its first step
abbrev pub spelt_by : Step → Spelt
spelt_by (Byte c behind) = with_byte c (spelt behind.now)
spelt_by (Closed after) = record { text = []; end = Ok after.now }
spelt_by (Bad f) = record { text = []; end = Err (flaw_view f) }

-- what follows is shorter
abbrev pub IsBehind : Step → ℕ → Type 0
IsBehind (Byte c behind) n = length behind.now < n
IsBehind (Closed after) n = Unit {0}
IsBehind (Bad f) n = Unit {0}

-- what follows the block comment, by its first step
abbrev pub after_block_by : Block → Option (List ℕ)
after_block_by (Inside levels behind) = after_block levels behind.now
after_block_by (Outside behind) = after_gap behind.now
after_block_by Unclosed = None

-- what follows is shorter, and has no more levels than bytes
abbrev pub IsInBlock : Block → ℕ → ℕ → Type 0
IsInBlock (Inside levels behind) before n = (0 < levels) × (length behind.now < n) × (levels + length behind.now ≤ before + n)
IsInBlock (Outside behind) before n = length behind.now < n
IsInBlock Unclosed before n = Unit {0}
