-- Which bases of big maps the end of all marks leaves.
use Rattle.std.specs.Prelude.{◌≡◌, ◌↔◌, ◌+◌, ◌<◌, ℕ, true, Some, List, ◌++◌, length, map}
use Rattle.mich_base.specs.undo.History.{height_of}
use Rattle.mich_bigmap.specs.Formed.{is_there}
use Rattle.mich_bigmap.specs.Kept.{all_of}
use Rattle.mich_bigmap.specs.Reached.{IsReachedBase}
use Rattle.mich_world.specs.Storages.{named_in}
use Rattle.mich_world.specs.World.{World}

-- the bases that a storage names, and those that were noted
abbrev pub in_use : World → List ℕ
in_use v = v.store.noted ++ all_of (map named_in v.funds.present.contracts)

-- of all bases those are left that are in use, or that such a one is over, directly or through others
abbrev pub KeepsInUse : World → World → Type 0
KeepsInUse old new = (k : ℕ) → (is_there new.store.bases.present (Some k) ≡ true) ↔ IsReachedBase (in_use old) old.store.bases.present k

-- since bases were last given up, more were added than there are contracts, and 64
abbrev pub IsDue : World → Type 0
IsDue v = length v.funds.present.contracts + 64 < height_of v.store.bases
