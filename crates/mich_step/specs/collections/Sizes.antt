-- Bytes within the limit.
use Rattle.std.specs.Prelude.{◌≡◌, ℕ, ◌<◌, ◌≤◌, List, length, Option, Some, None}
use Rattle.rules_text.specs.nodes.Limits.{byte_limit}

-- these bytes, or that they are over the limit
abbrev pub IsWithinSize : List ℕ → Option (List ℕ) → Type 0
IsWithinSize b (Some c) = (length b ≤ byte_limit) × (c ≡ b)
IsWithinSize b None = byte_limit < length b
