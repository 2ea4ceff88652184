-- A file that may have been opened.
use Rattle.std.specs.Prelude.{ℕ, List, None, Some}
use Rattle.std.specs.declared.option.Option.{Option}

-- what is left of the file that was opened, where that is known
abbrev pub left_of : {F : Type 0} → (F → Option (List ℕ)) → Option F → Option (List ℕ)
left_of remaining None = None
left_of remaining (Some file) = remaining file
