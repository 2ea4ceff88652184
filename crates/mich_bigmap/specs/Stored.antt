-- What a store is: its bases, those at each lower height, and which of them were noted.
use Rattle.std.specs.Prelude.{ℕ, ◌-◌, ◌<◌, ◌≤◌, ◌==◌, Option, List, [], ◌∷◌, length, if◌then◌else◌, refl}
use Rattle.std.specs.Coded.{Coded, code_by, coded×, coded_list, coded_option, coded_ℕ}
use Rattle.std.specs.List.{AllByRecursion}
use Rattle.mich_base.specs.undo.History.{History}
use Rattle.mich_term.specs.contracts.datum.Datum as datum
use Rattle.mich_term.specs.contracts.value.Value as value
use Rattle.mich_bigmap.specs.Bases.{Base, Bases, Changes}
use Rattle.mich_bigmap.specs.Kept.{kept_of}
use Rattle.mich_bigmap.specs.Stacked.{AreLayers, bases_of, number_of}
use Rattle.mich_bigmap.specs.declared.layers.Layer.{Layer}

pub record Stored : Type 0 where
  pub bases : History Bases
  -- the numbers of the bases that were noted since the last call of `keep`
  pub noted : List ℕ

-- for each of the newest n bases, those below it
abbrev pub below_each : ℕ → Bases → List Bases
below_each n [] = []
below_each n (b ∷ bs) = if n == 0 then [] else bs ∷ below_each (n - 1) bs

-- a height is the number of bases that were added since the last call of `keep`
abbrev pub history_of : Bases → ℕ → History Bases
history_of bs n = record { present = bs; past = below_each n bs }

abbrev pub noted_of : List Layer → List ℕ
noted_of [] = []
noted_of (l ∷ ls) = if l.noted then l.number ∷ noted_of ls else noted_of ls

abbrev pub stored : List Layer → ℕ → Stored
stored ls kept = record { bases = history_of (bases_of ls) (length ls - kept); noted = noted_of ls }

abbrev pub no_bases : Stored
no_bases = record { bases = record { present = []; past = [] }; noted = [] }

-- what `keep` leaves: the bases that were noted with those that they are over, and no journal
abbrev pub with_kept : Stored → Stored
with_kept s = record { bases = record { present = kept_of s.noted s.bases.present; past = [] }; noted = [] }

-- each number is below the next one to be given, and so none is given twice
pub record IsStore (ls : List Layer) (kept next : ℕ) : Type 0 where
  pub layers : AreLayers ls
  pub given : AllByRecursion (λ l. number_of l < next) ls
  pub within : kept ≤ length ls

-- ---- codes

abbrev pub changes_code : Coded Changes
changes_code = coded_list (coded× datum.the_row.coded (coded_option value.the_row.coded))

abbrev pub base_code : Coded Base
base_code = code_by (ℕ × (Option ℕ × Changes)) (coded× coded_ℕ (coded× (coded_option coded_ℕ) changes_code))
    (λ b. (b.number, (b.over, b.changes))) (λ p. record { number = p.0; over = p.1.0; changes = p.1.1 }) (λ _. refl)

abbrev pub bases_code : Coded Bases
bases_code = coded_list base_code

abbrev pub history_code : Coded (History Bases)
history_code = code_by (Bases × List Bases) (coded× bases_code (coded_list bases_code)) (λ h. (h.present, h.past)) (λ p. record { present = p.0; past = p.1 }) (λ _. refl)

abbrev pub stored_code : Coded Stored
stored_code = code_by (History Bases × List ℕ) (coded× history_code (coded_list coded_ℕ))
    (λ s. (s.bases, s.noted)) (λ p. record { bases = p.0; noted = p.1 }) (λ _. refl)
