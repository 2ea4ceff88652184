-- The names of views, in a set beside them.
use Rattle.std.specs.Prelude.{ℕ, ◌≡◌, Bool, List, map, is_some}
use Rattle.std.specs.Borrow.{Bor}
use Rattle.std.specs.BTreeSet.{BTreeSet, contains_by}
use Rattle.std.specs.Cmp.Lexicographic.{slice_cmp}
use Rattle.std.specs.Ordering.{nat_cmp}
use Rattle.rules_code.specs.typing.Sections.{view_named}
use Rattle.mich_outline.specs.declared.content.WrittenView.{WrittenView}
use Rattle.mich_outline.specs.View.{written_of}

-- whether a name is among these
abbrev pub has : List ℕ → BTreeSet (Bor (List ℕ)) → Bool
has name names = contains_by (λ k. slice_cmp nat_cmp name k.now) names

-- these are the names of the views
abbrev pub IsNaming : List WrittenView → BTreeSet (Bor (List ℕ)) → Type 0
IsNaming views names = (q : List ℕ) → has q names ≡ is_some (view_named q (map written_of views))
