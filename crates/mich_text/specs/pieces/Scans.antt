-- What was seen of a text.
use Rattle.std.specs.Prelude.{◌≡◌, ℕ, ◌+◌, ◌≤◌, ◌<◌, List, ◌++◌, length, drop, true, ◌==◌, if◌then◌else◌}
use Rattle.mich_text.specs.declared.pieces.scan.Mode.TheVariants.{Outside}
use Rattle.mich_text.specs.declared.pieces.scan.Scan.{Scan}
use Rattle.mich_text.specs.pieces.Marks.{levels_of, sign_at, first_at}

-- how many bytes are left at the `;`, where these follow what was seen
abbrev pub ahead : Scan → List ℕ → ℕ
ahead s text = if s.found then 1 + length text else sign_at s.mode s.depth text

-- and at the statement's first byte
abbrev pub begun : Scan → List ℕ → ℕ
begun s text = if s.since == 0 then first_at s.mode text else s.since + length text

-- how many bytes of a statement there are, with these behind what was seen
abbrev pub since_first : Scan → List ℕ → ℕ
since_first s text = if s.since == 0 then 0 else s.since + length text

pub record IsBounded (s : Scan) : Type 0 where
  pub depth : s.depth ≤ s.seen
  pub levels : levels_of s.mode ≤ s.seen
  pub since : s.since ≤ s.seen + 1
  pub found : s.found ≡ true → 0 < s.since

-- it was seen of these bytes, whatever follows them
pub record IsScanned (held : List ℕ) (s : Scan) : Type 0 where
  pub bounded : IsBounded s
  pub within : s.seen ≤ length held
  pub sign : (more : List ℕ) → sign_at Outside 0 (held ++ more) ≡ ahead s (drop s.seen held ++ more)
  pub first : (more : List ℕ) → first_at Outside (held ++ more) ≡ begun s (drop s.seen held ++ more)
