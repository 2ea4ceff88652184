-- The parts of a state that parts of the code stand for.
use Rattle.std.specs.Prelude.{ℕ, ℤ, List, map, IfSome}
use Rattle.std.specs.Option.{option_map}
use Rattle.rules_data.specs.values.Tickets.{Identity}
use Rattle.rules_world.specs.world.World.{Account}
use Rattle.rules_files.specs.snapshots.State.{Total}
use Rattle.mich_base.specs.View.{tree}
use Rattle.mich_term.specs.TicketView.{identity}
use Rattle.mich_term.specs.ValueView.{val}
use Rattle.mich_term.specs.declared.ticket.TicketId.{TicketId}
use Rattle.mich_saved.specs.Formed.{IsAlone}
use Rattle.mich_saved.specs.Parts.{KeptContract}
use Rattle.mich_saved.specs.declared.parts.ReadAccount.{ReadAccount}
use Rattle.mich_saved.specs.declared.parts.ReadContract.{ReadContract}
use Rattle.mich_saved.specs.declared.parts.ReadTotal.{ReadTotal}

abbrev pub holding : TicketId × ℤ → Identity × ℤ
holding h = (identity h.0, h.1)

abbrev pub account : ReadAccount → ℕ × (List ℕ × Account)
account a = (a.place, (a.who, record { balance = a.balance; holdings = map holding a.holdings }))

abbrev pub contract : ReadContract → ℕ × (List ℕ × KeptContract)
contract c = (c.place, (c.hash, record { balance = c.balance; paid = c.paid; script = tree c.script; storage = option_map val c.storage }))

abbrev pub total : ReadTotal → ℕ × Total
total t = (t.place, record { identity = identity t.id; minted = t.minted; burnt = t.burnt })

-- the big maps in the storage of a contract have their form and no base, where it is kept
abbrev pub IsAloneContract : ReadContract → Type 0
IsAloneContract c = IfSome c.storage IsAlone
