-- Looking a name up.
use Rattle.std.proofs.Common.{◌≡◌, ℕ, List, [], ◌∷◌, refl, Bool, true, false, cond}
use Rattle.std.specs.Prelude.{map, Option, Some, option_map}
use Rattle.std.specs.List.{find}
use Rattle.std.specs.Borrow.{Bor}
use Rattle.rules_data.specs.declared.gas.Kind.{Kind}
use Rattle.mich_gas.specs.View.{seen_row}

-- the kind of a row, before and after its name is read as bytes
abbrev pub kind_of : Bor (List ℕ) × Kind → Kind
kind_of row = row.1

abbrev pub kind_of_seen : List ℕ × Kind → Kind
kind_of_seen row = row.1

pick : (found : Bool) (row : Bor (List ℕ) × Kind) (x : Option (Bor (List ℕ) × Kind)) (y : Option (List ℕ × Kind)) → option_map kind_of x ≡ option_map kind_of_seen y → option_map kind_of (cond found (Some row) x) ≡ option_map kind_of_seen (cond found (Some (seen_row row)) y)
pick true row x y h = refl
pick false row x y h = h

pub find_seen : (q : List ℕ → Bool) (rows : List (Bor (List ℕ) × Kind)) → option_map kind_of (find (λ e. q e.0.now) rows) ≡ option_map kind_of_seen (find (λ e. q e.0) (map seen_row rows))
find_seen q [] = refl
find_seen q (row ∷ rows) = pick (q row.0.now) row (find (λ e. q e.0.now) rows) (find (λ e. q e.0) (map seen_row rows)) (find_seen q rows)
