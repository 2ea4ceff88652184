-- What stands behind the bytes that were written.
use Rattle.std.specs.Prelude.{◌≡◌, ℕ, Bool, true, false, List, ◌++◌, Option, Some, None, Result, Ok, Err}
use Rattle.std.specs.List.{list_any}
use Rattle.rules_data.specs.values.Val.{Pairs, Val, Vals}
use Rattle.rules_files.specs.snapshots.Loading.{all_bodies, bodies, entry_bodies, is_long}
use Rattle.rules_files.specs.snapshots.Spelling.{count_pairs, count_vals, eight, entry_spellings, value_spelling, value_spellings}
use Rattle.mich_snapshot.specs.declared.errors.SaveError.{SaveError}
use Rattle.mich_snapshot.specs.declared.errors.SaveError.TheVariants as errors

-- This text is put behind what was there, and no binary form in it is too long; or one is. After want of memory nothing is said.
abbrev pub IsPut : List ℕ → List ℕ → List ℕ → Bool → Result (Unit {0}) SaveError → Type 0
IsPut old new text long (Ok _) = (new ≡ old ++ text) × (long ≡ false)
IsPut old new text long (Err errors.TooLong) = long ≡ true
IsPut old new text long (Err errors.Memory) = Unit {0}

-- these are the bytes, or there are none because a binary form is too long; after want of memory nothing is said
abbrev pub IsSaved : Option (List ℕ) → Result (List ℕ) SaveError → Type 0
IsSaved (Some text) (Ok bytes) = bytes ≡ text
IsSaved None (Err errors.TooLong) = Unit {0}
IsSaved saved (Err errors.Memory) = Unit {0}
IsSaved saved r = ⊥

-- so of a value, of a count of values with these, and of a count of entries with these
abbrev pub PutsValue : List ℕ → List ℕ → Val → Result (Unit {0}) SaveError → Type 0
PutsValue old new v r = IsPut old new (value_spelling v) (list_any is_long (bodies v)) r

abbrev pub PutsValues : List ℕ → List ℕ → Vals → Result (Unit {0}) SaveError → Type 0
PutsValues old new vs r = IsPut old new (eight (count_vals vs) ++ value_spellings vs) (list_any is_long (all_bodies vs)) r

abbrev pub PutsEntries : List ℕ → List ℕ → Pairs → Result (Unit {0}) SaveError → Type 0
PutsEntries old new es r = IsPut old new (eight (count_pairs es) ++ entry_spellings es) (list_any is_long (entry_bodies es)) r
