-- The accounts before a write.
use Rattle.std.specs.Prelude.{ℕ, Option, List}
use Rattle.mich_forms.specs.declared.places.Place.{Place}
use Rattle.mich_forms.specs.declared.places.Place.TheVariants as place
use Rattle.mich_base.specs.undo.Undone.{undone}
use Rattle.mich_world.specs.Holders.{by_bytes}

-- where old stands at the account of a place again, or nothing
abbrev pub accounts_before : Place → Option ℕ → List (List ℕ × ℕ) → List (List ℕ × ℕ)
accounts_before (place.Implicit who) old accounts = undone by_bytes accounts who old
accounts_before (place.Contract hash) old accounts = accounts
