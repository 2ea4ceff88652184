-- Operations that wait for their turn (Octez "Operations", the order of internal operations).
use Rattle.std.specs.Prelude.{◌≡◌, ℕ, true, is_some, List, map, reverse}
use Rattle.std.specs.List.{AllByRecursion}
use Rattle.rules_world.specs.world.Outcomes.{Waiting}
use Rattle.mich_bigmap.specs.Bases.{Bases}
use Rattle.mich_machine.specs.Calls.{IsHanded}
use Rattle.mich_world.specs.Holders.{contract_at}
use Rattle.mich_world.specs.World.{World}
use Rattle.mich_operations.specs.Going.{issued_by}
use Rattle.mich_ops.specs.declared.issued.Issued.{Issued}
use Rattle.mich_group.specs.declared.waiting.Sent.{Sent}

abbrev pub sent_by : List ℕ → Issued → Sent
sent_by by i = record { by = by; operation = i }

-- one of them, with its big maps over the bases of a store
abbrev pub sent : Bases → Sent → Waiting
sent bs s = issued_by bs s.by s.operation

-- all of them, the next first; the code has the next one last
abbrev pub all_sent : Bases → List Sent → List Waiting
all_sent bs ss = map (sent bs) (reverse ss)

-- their values have the form of big maps, with bases in the store, and the contracts that issued them are there
abbrev pub AreHanded : World → List Sent → Type 0
AreHanded v ss = AllByRecursion (λ s. IsHanded v.store.bases.present s.operation × (is_some (contract_at v.funds.present s.by) ≡ true)) ss
