-- What is burnt where contracts grow (Octez "Operations", storage fees and burn).
use Rattle.std.specs.Prelude.{ℕ, ◌+◌, ◌-◌, ◌*◌, ◌^◌, min, nat_lt, Bool, true, false, List, [], ◌∷◌, ◌++◌, length, Option, Some, None, if◌then◌else◌}
use Rattle.rules_text.specs.binary.Spelling.{spelling}
use Rattle.rules_data.specs.forms.Spelling.{implicit_place, contract_place}
use Rattle.rules_data.specs.values.Val.{Val, Vals, no_val, more_vals, Pairs, no_pair, more_pairs}
use Rattle.rules_data.specs.values.Val as v
use Rattle.rules_data.specs.values.Canonical.{canonical}
use Rattle.rules_code.specs.steps.Failure.{cannot_pay_burn}
use Rattle.rules_code.specs.evaluation.Surroundings.{Contract}
use Rattle.rules_world.specs.world.Receipts.{Storage}
use Rattle.rules_world.specs.world.World.{World, contract_at, with_contract}
use Rattle.rules_world.specs.world.Balances.{balance_or_none, with_less}
use Rattle.rules_world.specs.world.Outcomes.{Setting, Success, Outcome, applied, failed, stuck}

-- ---- the size of a contract, in bytes

abbrev mutual
  -- a value in which each ticket is the pair of its issuer and the pair of its content and amount
  pub as_pairs : Val → Val
  as_pairs (v.some x) = v.some (as_pairs x)
  as_pairs (v.left x) = v.left (as_pairs x)
  as_pairs (v.right x) = v.right (as_pairs x)
  as_pairs (v.both x y) = v.both (as_pairs x) (as_pairs y)
  as_pairs (v.list xs) = v.list (all_as_pairs xs)
  as_pairs (v.table es) = v.table (entries_as_pairs es)
  as_pairs (v.big_table es) = v.big_table (entries_as_pairs es)
  as_pairs (v.ticket issuer kind content amount) = v.both (v.bytes issuer) (v.both content (v.number amount))
  as_pairs x = x

  pub all_as_pairs : Vals → Vals
  all_as_pairs no_val = no_val
  all_as_pairs (more_vals x xs) = more_vals (as_pairs x) (all_as_pairs xs)

  pub entries_as_pairs : Pairs → Pairs
  entries_as_pairs no_pair = no_pair
  entries_as_pairs (more_pairs x y es) = more_pairs x (as_pairs y) (entries_as_pairs es)

-- the binary forms of the script and of the storage's canonical literal, counted up to 2^64 - 1
abbrev pub size_of : Contract → ℕ
size_of c = min (length (spelling c.script) + length (spelling (canonical (as_pairs c.storage)))) (2 ^ 64 - 1)

-- ---- the burn

-- how many bytes a contract grew by, and the mutez to be burnt for them
pub record Burn : Type 0 where
  pub bytes : ℕ
  pub mutez : ℕ

abbrev pub burn_for : ℕ → ℕ → Burn
burn_for rate bytes = record { bytes = bytes; mutez = bytes * rate }

-- nothing where the world has no rate, or where the contract is no larger than it has paid for; a rate may be 0
abbrev pub burn_by : Option ℕ → Option Contract → Option Burn
burn_by (Some rate) (Some c) = if nat_lt c.paid (size_of c) then Some (burn_for rate (size_of c - c.paid)) else None
burn_by rate c = None

abbrev pub burn_of : World → List ℕ → Option Burn
burn_of w hash = burn_by w.rate (contract_at w hash)

-- a contract, if it is there, has paid for so many bytes more
abbrev pub with_paid : World → List ℕ → ℕ → Option Contract → World
with_paid w hash bytes (Some c) = with_contract w hash (record c { paid = c.paid + bytes })
with_paid w hash bytes None = w

abbrev pub paid_for : World → List ℕ → ℕ → World
paid_for w hash bytes = with_paid w hash bytes (contract_at w hash)

-- the mutez go from a place to the burn
abbrev pub burnt_from : World → List ℕ → ℕ → World
burnt_from w from mutez = record (with_less w from mutez) { storage_burn = w.storage_burn + mutez }

-- ---- operations that let a contract grow: its growth is charged last, to the group's source

abbrev pub with_burn : List ℕ → List ℕ → Burn → Success → Success
with_burn payer hash b a = record a {
  world = paid_for (burnt_from a.world payer b.mutez) hash b.bytes;
  effects = a.effects ++ Storage (contract_place hash) b.bytes b.mutez ∷ [];
}

abbrev pub unless_short : Bool → List ℕ → List ℕ → Burn → Success → Outcome
unless_short true payer hash b a = failed cannot_pay_burn
unless_short false payer hash b a = applied (with_burn payer hash b a)

abbrev pub burning : Option Burn → List ℕ → List ℕ → Success → Outcome
burning (Some b) payer hash a = unless_short (nat_lt (balance_or_none a.world payer) b.mutez) payer hash b a
burning None payer hash a = applied a

abbrev pub growing : Setting → List ℕ → Outcome → Outcome
growing s hash (applied a) = burning (burn_of a.world hash) (implicit_place s.source) hash a
growing s hash (failed failure) = failed failure
growing s hash stuck = stuck
