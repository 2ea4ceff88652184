-- The state of the rules that a state stands for.
use Rattle.std.specs.Prelude.{is_some, unwrap_or, map}
use Rattle.rules_world.specs.world.Holdings.{identities}
use Rattle.rules_world.specs.world.World.{World as PlainWorld}
use Rattle.rules_files.specs.snapshots.Course.{all_prices, total_of}
use Rattle.rules_files.specs.snapshots.State as plain
use Rattle.mich_gas.specs.View.{listed}
use Rattle.mich_snapshot.specs.declared.state.State.{State}

-- its world stands for this one
abbrev pub snapshot_of : State → PlainWorld → plain.State
snapshot_of s w = record {
  chain = w.chain;
  level = w.level;
  moment = w.moment;
  pays = is_some w.rate;
  rate = unwrap_or w.rate 0;
  groups = s.groups;
  costs_stood = s.costs_stood;
  started = s.started;
  prices = all_prices (listed s.costs);
  fees = w.fees;
  storage_burn = w.storage_burn;
  accounts = w.accounts;
  contracts = w.contracts;
  tickets = map (total_of w) (identities w.log);
}
