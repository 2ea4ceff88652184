-- Changes that are taken together.
use Rattle.std.specs.Prelude.{◌≡◌, ℕ, Option, [], ◌∷◌}
use Rattle.rules_data.specs.values.Val.{Pairs}
use Rattle.rules_data.specs.values.Tickets.{pair_tickets}
use Rattle.rules_data.specs.big_maps.Changes.{changed}
use Rattle.mich_term.specs.Keyed.{with}
use Rattle.mich_term.specs.ValueView.{put_pairs}
use Rattle.mich_bigmap.specs.Bases.{Bases, Changes, entries_in, seen}

-- over each base, they make what the upper changes make of what the lower ones make
abbrev pub AreMerged : Changes → Changes → Changes → Type 0
AreMerged lower upper all = (bs : Bases) (o : Option ℕ)
    → changed (seen all) (entries_in bs o) ≡ changed (seen upper) (changed (seen lower) (entries_in bs o))

-- the lower changes with the upper ones at their keys
abbrev pub all_with : Changes → Changes → Changes
all_with [] lower = lower
all_with (c ∷ upper) lower = with c.0 c.1 (all_with upper lower)

-- the entries that changes make of those of a base
abbrev pub entries_over : Bases → Option ℕ × Changes → Pairs
entries_over bs r = changed (seen r.1) (entries_in bs r.0)

-- what changes put holds no ticket
abbrev pub Bare : Changes → Type 0
Bare cs = pair_tickets (put_pairs cs) ≡ []
