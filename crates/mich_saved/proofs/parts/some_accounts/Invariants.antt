use Rattle.std.proofs.Common.{◌≡◌, ◌-◌, map}
use Rattle.mich_saved.specs.Shown.{account}
use Rattle.mich_saved.specs.Parts.{placed}
use Rattle.rules_files.specs.snapshots.Reading.{parts_at, account_at}
use Rattle.mich_saved.specs.Results.{spot}
use Rattle.mich_saved.proofs.Lines.{with_front}
use Rattle.mich_saved.proofs.parts.some_accounts.Given as goal

abbrev pub invariant-loop : goal.invariant-loop
invariant-loop l = with_front (map account l.accounts) (parts_at (placed account_at) (l.count - l.counter) (spot l.here)) ≡ parts_at (placed account_at) l.count (spot l.cursor)
