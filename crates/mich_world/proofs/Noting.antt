-- Notes of the bases that storages name.
use Rattle.std.proofs.Common.{◌≡◌, ℕ, List, [], ◌∷◌, ◌++◌, map, refl, sym, ap, ◌∙◌, subst}
use Rattle.mich_bigmap.specs.Kept.{all_of}
use Rattle.mich_bigmap.specs.Notes.{Notes}
use Rattle.mich_bigmap.specs.Stored.{Stored}
use Rattle.mich_bigmap.proofs.ForCallers.{notes_append}
use Rattle.mich_world.specs.Storages.{named_in}
use Rattle.mich_world.specs.declared.contract.Contract.{Contract}

-- all but those that are left were noted
pub record NotedSoFar (left whole : List ℕ) (old new : Stored) : Type 0 where
  pub front : List ℕ
  pub parts : front ++ left ≡ whole
  pub notes : Notes front old new

assoc : (x y z : List ℕ) → (x ++ y) ++ z ≡ x ++ (y ++ z)
assoc [] y z = refl
assoc (a ∷ x) y z = ap (λ t. a ∷ t) (assoc x y z)

nil : (x : List ℕ) → x ++ [] ≡ x
nil [] = refl
nil (a ∷ x) = ap (λ t. a ∷ t) (nil x)

pub noted_next : (cs rest : List (List ℕ × Contract)) (c : List ℕ × Contract) (ns whole : List ℕ) (a b d : Stored) → cs ≡ c ∷ rest → ns ≡ named_in c
    → NotedSoFar (all_of (map named_in cs)) whole a b → Notes ns b d → NotedSoFar (all_of (map named_in rest)) whole a d
noted_next cs rest c ns whole a b d first is so_far notes = record {
  front = so_far.front ++ named_in c;
  parts = assoc so_far.front (named_in c) (all_of (map named_in rest)) ∙ ap (λ t. so_far.front ++ all_of (map named_in t)) (sym first) ∙ so_far.parts;
  notes = notes_append so_far.front (named_in c) a b d so_far.notes (subst (λ x. Notes x b d) is notes);
}
