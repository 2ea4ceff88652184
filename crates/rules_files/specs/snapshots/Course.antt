-- How a file that was replayed is a state, and how a state goes on as one.
use Rattle.std.specs.Prelude.{ℤ, pos, int_lt, Bool, true, false, ◌||◌, not, is_some, Some, None, unwrap_or, List, [], ◌∷◌, map, slice_get, if◌then◌else◌}
use Rattle.std.specs.List.{list_any, flat_map}
use Rattle.rules_data.specs.gas.Kinds.{kinds_by_name}
use Rattle.rules_data.specs.gas.Kinds as kinds
use Rattle.rules_data.specs.gas.Prices.{Price, Listed, price_of}
use Rattle.rules_code.specs.steps.Changes.{Change, minted, burnt}
use Rattle.rules_data.specs.values.Tickets.{Identity, Held}
use Rattle.rules_world.specs.world.World.{World}
use Rattle.rules_world.specs.world.Holdings.{minted_ever, burnt_ever, identities}
use Rattle.rules_files.specs.statements.Statements.{Statement, Costs, Account, Block, Group}
use Rattle.rules_files.specs.course.Course.{Course}
use Rattle.rules_files.specs.snapshots.State.{State, Total}
use Rattle.rules_files.specs.snapshots.Rules.{all_mutez}

-- ---- the state of a course

-- whether a statement is a table of prices, and whether it is an account, a block or a group
abbrev pub is_costs : Statement → Bool
is_costs (Costs table) = true
is_costs s = false

abbrev pub is_start : Statement → Bool
is_start (Account who mutez) = true
is_start (Block level moment) = true
is_start (Group source contents) = true
is_start s = false

abbrev pub total_of : World → Identity → Total
total_of w id = record { identity = id; minted = minted_ever w id; burnt = burnt_ever w id }

-- the price of each kind, in the order of their names
abbrev pub all_prices : Listed → List Price
all_prices listed = map (λ e. price_of listed e.1) kinds_by_name

-- what a file of these statements came to
abbrev pub state_of : List Statement → Course → State
state_of statements c = record {
  chain = c.world.chain;
  level = c.world.level;
  moment = c.world.moment;
  pays = is_some c.world.rate;
  rate = unwrap_or c.world.rate 0;
  groups = c.groups;
  costs_stood = list_any is_costs statements;
  started = list_any is_start statements;
  prices = all_prices c.prices;
  fees = c.world.fees;
  storage_burn = c.world.storage_burn;
  accounts = c.world.accounts;
  contracts = c.world.contracts;
  tickets = map (total_of c.world) (identities c.world.log);
}

-- ---- how it goes on

-- the table of these prices
abbrev pub listed : List Price → Listed
listed prices kind = slice_get prices (kinds.place kind)

-- so much of a ticket
abbrev pub ticket_of : Identity → ℤ → Held
ticket_of id amount = record { issuer = id.issuer; kind = id.kind; content = id.content; amount = amount }

-- a change that makes all that was minted, and one that burns what was burnt, if any was
abbrev pub changes_of : Total → List Change
changes_of t =
    minted (ticket_of t.identity t.minted)
    ∷ (if int_lt (pos 0) t.burnt then burnt (ticket_of t.identity t.burnt) ∷ [] else [])

-- all mutez that there is was granted
abbrev pub world_of : State → World
world_of s = record {
  chain = s.chain;
  level = s.level;
  moment = s.moment;
  rate = if s.pays then Some s.rate else None;
  accounts = s.accounts;
  contracts = s.contracts;
  fees = s.fees;
  storage_burn = s.storage_burn;
  granted = all_mutez s;
  log = flat_map changes_of s.tickets;
}

abbrev pub course_of : State → Course
course_of s = record { world = world_of s; prices = listed s.prices; groups = s.groups; at_head = not (s.costs_stood || s.started) }
