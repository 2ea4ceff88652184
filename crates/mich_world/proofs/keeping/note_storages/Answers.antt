use Rattle.std.proofs.Common.{rules, ◌≡◌, ◌∷◌, ℕ, List, refl}
use Rattle.mich_bigmap.specs.Kept.{names}
use Rattle.mich_world.specs.declared.contract.Contract.{Contract}
use Rattle.mich_world.proofs.Noting.{noted_next}
use Rattle.mich_world.proofs.keeping.note_storages.Goals as goal

pub contracts-preserved : goal.contracts-preserved
contracts-preserved c =
    let iter : List (List ℕ × Contract) = c.contracts.hash-iterator in
    let rest : List (List ℕ × Contract) = c.next.new.self in
    let first : iter ≡ (c.in-Some.hash.now, c.in-Some.contract.now) ∷ rest = search rules in
    noted_next iter rest (c.in-Some.hash.now, c.in-Some.contract.now) (names c.in-Some.contract.now.storage) _ _ _ _ first refl c.contracts.invariant c.note.ensures
