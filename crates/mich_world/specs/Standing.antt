-- The world of the definitions that a world of the code stands for.
use Rattle.std.specs.Prelude.{◌≡◌, ℕ, pos, true, List, [], map}
use Rattle.rules_code.specs.evaluation.Surroundings.{Contract as PlainContract}
use Rattle.rules_data.specs.forms.Spelling.{is_place}
use Rattle.rules_data.specs.values.Tickets.{Identity}
use Rattle.rules_world.specs.world.Holdings.{held_by, minted_ever, burnt_ever}
use Rattle.rules_world.specs.world.World.{World as PlainWorld, Account}
use Rattle.mich_bigmap.specs.Bases.{Bases}
use Rattle.mich_bigmap.specs.Standing.{val_in}
use Rattle.mich_instr.specs.View.{script_node}
use Rattle.mich_tickets.specs.Books.{Books}
use Rattle.mich_tickets.specs.Effects.{listed_in, listed_after}
use Rattle.mich_tickets.specs.Sums.{held_of, minted_of, burnt_of}
use Rattle.mich_world.specs.Holders.{Holders}
use Rattle.mich_world.specs.World.{World}
use Rattle.mich_world.specs.declared.contract.Contract.{Contract}

-- an account without what it holds, which the ledger has
abbrev pub purse : List ℕ × Account → List ℕ × ℕ
purse a = (a.0, a.1.balance)

-- a contract, with its big maps seen in the store
abbrev pub plain : Bases → Contract → PlainContract
plain bs c = record { balance = c.balance; paid = c.paid; script = script_node c.script; storage = val_in bs c.storage }

abbrev pub contract_in : Bases → List ℕ × Contract → List ℕ × PlainContract
contract_in bs c = (c.0, plain bs c.1)

-- the tickets that were ever minted, each once, in the order of their first mints
abbrev pub listed_ever : PlainWorld → List Identity
listed_ever w = listed_after (λ id. pos 0) [] w.log

-- the holders, over the bases of big maps and with the books of tickets, are those of a world
pub record AreThose (h : Holders) (bs : Bases) (b : Books) (w : PlainWorld) : Type 0 where
  pub accounts : map purse w.accounts ≡ h.accounts
  pub contracts : w.contracts ≡ map (contract_in bs) h.contracts
  pub fees : w.fees ≡ h.fees
  pub storage_burn : w.storage_burn ≡ h.storage_burn
  pub granted : w.granted ≡ h.granted
  pub rate : w.rate ≡ h.rate
  -- what each owner holds, the totals, and what was ever minted
  pub held : (id : Identity) (owner : List ℕ) → is_place owner ≡ true → held_of b id owner ≡ held_by w id owner
  pub minted : (id : Identity) → minted_of b id ≡ minted_ever w id
  pub burnt : (id : Identity) → burnt_of b id ≡ burnt_ever w id
  pub listed : listed_in b ≡ listed_ever w

pub record StandsFor (v : World) (w : PlainWorld) : Type 0 where
  pub chain : w.chain ≡ v.chain
  pub level : w.level ≡ v.level
  pub moment : w.moment ≡ v.moment
  pub those : AreThose v.funds.present v.store.bases.present v.ledger.books.present w
