-- What the answers of the calls say.
use Rattle.std.specs.Prelude.{ℕ, ◌≡◌, List, [], ◌∷◌, Result, Ok, Err}
use Rattle.rules_data.specs.types.Reading.{Reading, a_type, bad_type, too_large}
use Rattle.mich_base.specs.declared.ty.Ty.{Ty}
use Rattle.mich_base.specs.TypeView.{kind}
use Rattle.mich_types.specs.declared.scan.Found.{Found}
use Rattle.mich_types.specs.declared.scan.Summary.{Summary}
use Rattle.mich_types.specs.declared.error.TypeError.{TypeError}
use Rattle.mich_types.specs.declared.error.TypeError.TheVariants as error

-- a scan found this, and the location behind the node
abbrev pub IsScan : Result Summary ℕ → ℕ → Result Found ℕ → Type 0
IsScan r next (Ok s) = (r ≡ Ok s.summary) × (s.next ≡ next)
IsScan r next (Err l) = r ≡ Err l

abbrev pub IsTypeFault : Reading → TypeError → Type 0
IsTypeFault r (error.BadType l) = r ≡ bad_type l
IsTypeFault r error.TypeTooLarge = r ≡ too_large
IsTypeFault r (error.RepeatedEntrypoint l) = ⊥
IsTypeFault r error.Memory = Unit {0}

-- a node read as a type gives this answer
abbrev pub IsReading : Reading → Result Ty TypeError → Type 0
IsReading r (Ok ty) = r ≡ a_type (kind ty)
IsReading r (Err e) = IsTypeFault r e

-- fewer than two elements
abbrev pub IsBelowTwo : {X : Type 0} → List X → Type 0
IsBelowTwo [] = Unit {0}
IsBelowTwo (x ∷ []) = Unit {0}
IsBelowTwo (x ∷ y ∷ zs) = ⊥
