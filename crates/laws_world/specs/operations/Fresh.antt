-- The 20 bytes of contracts that a group makes.
use Rattle.std.specs.Prelude.{◌≡◌, ◌≢◌, ◌≤◌, ◌<◌, ◌^◌, ℕ, List, [], ◌∷◌, ◌++◌, None}
use Rattle.rules_code.specs.evaluation.Operations.{Operation, transfer, origination, event, Issued, new_contract}
use Rattle.rules_world.specs.world.World.{World, contract_at}
use Rattle.rules_world.specs.world.Outcomes.{Waiting, ordered, issued}

-- ---- of operations

-- the bytes of the contract that an operation is to make
abbrev pub made_by : Operation → List (List ℕ)
made_by (transfer argument amount destination) = []
made_by (origination delegate amount script storage hash) = hash ∷ []
made_by (event tag kind value) = []

abbrev pub made_by_issued : List Issued → List (List ℕ)
made_by_issued [] = []
made_by_issued (i ∷ is) = made_by i.operation ++ made_by_issued is

abbrev pub made_by_waiting : List Waiting → List (List ℕ)
made_by_waiting [] = []
made_by_waiting (ordered action ∷ waiting) = made_by_waiting waiting
made_by_waiting (issued sender op ∷ waiting) = made_by op ++ made_by_waiting waiting

-- ---- new bytes

-- those of a group's originations from one on, up to another
abbrev pub IsNew : ℕ → ℕ → ℕ → List ℕ → Type 0
IsNew group from to hash = (i : ℕ) × (from ≤ i) × (i < to) × (hash ≡ new_contract group i)

-- none of these
abbrev pub IsApart : List ℕ → List (List ℕ) → Type 0
IsApart hash [] = Unit {0}
IsApart hash (k ∷ hashes) = (hash ≢ k) × IsApart hash hashes

-- each is new, and none stands twice
abbrev pub AreNew : ℕ → ℕ → ℕ → List (List ℕ) → Type 0
AreNew group from to [] = Unit {0}
AreNew group from to (hash ∷ hashes) = IsNew group from to hash × IsApart hash hashes × AreNew group from to hashes

-- none is in the world
abbrev pub AreAbsent : World → List (List ℕ) → Type 0
AreAbsent w [] = Unit {0}
AreAbsent w (hash ∷ hashes) = (contract_at w hash ≡ None) × AreAbsent w hashes

-- contracts that wait are new and not in the world yet, nor are those that the group may still make
pub record IsFresh (group count : ℕ) (w : World) (hashes : List (List ℕ)) : Type 0 where
  pub waiting : AreNew group 0 count hashes
  pub absent : AreAbsent w hashes
  pub later : (i : ℕ) → count ≤ i → i < 2 ^ 32 → contract_at w (new_contract group i) ≡ None
