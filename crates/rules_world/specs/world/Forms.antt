-- The forms of the parts of a world, and of what a source orders (Octez "Accounts and addresses", "Operations").
use Rattle.std.specs.Prelude.{◌≡◌, ◌≤◌, ◌<◌, ◌^◌, ◌-◌, ℕ, Bool, true, ◌&&◌, ℤ, pos, neg_ℤ, int_le, ◌<ℤ◌, ◌≤ℤ◌, List, length}
use Rattle.std.specs.Ordering.{nat_cmp}
use Rattle.std.specs.Cmp.Lexicographic.{slice_cmp}
use Rattle.std.specs.List.{All}
use Rattle.std.specs.List.Sorted.{IsStrictlySortedBy}
use Rattle.std.specs.Map.{keys_of}
use Rattle.rules_text.specs.nodes.Limits.{most_mutez}
use Rattle.rules_text.specs.nodes.Tree.{Tree, size}
use Rattle.rules_data.specs.forms.Spelling.{is_chain_id, is_key_hash, is_contract, is_entrypoint, is_place}
use Rattle.rules_data.specs.values.Forms.{is_ticket_amount}
use Rattle.rules_data.specs.values.Tickets.{Identity, Held}
use Rattle.rules_data.specs.values.Val.{is_comparable}
use Rattle.rules_code.specs.steps.Changes.{Change, minted, burnt}
use Rattle.rules_code.specs.evaluation.Surroundings.{Contract}
use Rattle.rules_world.specs.world.Contents.{Action, Originate, Call, Give, Content}
use Rattle.rules_world.specs.world.World.{World, Account, identity_order}

-- ---- worlds

-- a moment in seconds
abbrev pub is_moment : ℤ → Bool
is_moment n = int_le (neg_ℤ (pos (2 ^ 63))) n && int_le n (pos (2 ^ 63 - 1))

-- holdings are positive; each is of another ticket, and they stand in the order of tickets
abbrev pub IsHolding : Identity × ℤ → Type 0
IsHolding h = (is_place h.0.issuer ≡ true) × (pos 0 <ℤ h.1)

abbrev pub IsAccount : List ℕ × Account → Type 0
IsAccount a = (is_key_hash a.0 ≡ true) × All IsHolding a.1.holdings × IsStrictlySortedBy identity_order (keys_of a.1.holdings)

abbrev pub IsTwentyBytes : List ℕ × Contract → Type 0
IsTwentyBytes c = length c.0 ≡ 20

-- what was minted or burnt has a place as its issuer, and a positive amount; and what was minted has a comparable content
abbrev pub IsTicket : Held → Type 0
IsTicket t = (is_place t.issuer ≡ true) × (is_ticket_amount t.amount ≡ true)

abbrev pub IsChange : Change → Type 0
IsChange (minted t) = (is_place t.issuer ≡ true) × (is_ticket_amount t.amount ≡ true) × (is_comparable t.content ≡ true)
IsChange (burnt t) = IsTicket t

-- each part has its form, and accounts and contracts stand once, in the order of their bytes
pub record IsWorld (w : World) : Type 0 where
  pub chain : is_chain_id w.chain ≡ true
  pub level : w.level < 2 ^ 32
  pub moment : is_moment w.moment ≡ true
  pub accounts : All IsAccount w.accounts
  pub accounts_in_order : IsStrictlySortedBy (slice_cmp nat_cmp) (keys_of w.accounts)
  pub contracts : All IsTwentyBytes w.contracts
  pub contracts_in_order : IsStrictlySortedBy (slice_cmp nat_cmp) (keys_of w.contracts)
  pub log : All IsChange w.log

-- ---- what a source orders

-- a place, and the name of an entrypoint there
abbrev pub AreDestination : List ℕ → List ℕ → Type 0
AreDestination place entrypoint = (is_place place ≡ true) × (is_entrypoint entrypoint ≡ true)

-- nodes are no larger than texts can write
abbrev pub IsSmall : Tree → Type 0
IsSmall t = size t < 2 ^ 32

abbrev pub IsAction : Action → Type 0
IsAction (Originate balance script storage) = (balance ≤ most_mutez) × IsSmall script × IsSmall storage
IsAction (Call amount destination entrypoint argument) = (amount ≤ most_mutez) × AreDestination destination entrypoint × IsSmall argument
IsAction (Give issuer kind content amount destination entrypoint) =
    (is_contract issuer ≡ true) × (is_ticket_amount amount ≡ true) × AreDestination destination entrypoint × IsSmall content

abbrev pub IsContent : Content → Type 0
IsContent c = (c.fee ≤ most_mutez) × (pos 0 ≤ℤ c.gas) × IsAction c.action
