-- How a command that was done, or given up, is told.
use Rattle.std.specs.Prelude.{ℕ, Result, Ok, Err}
use Rattle.mich_io.specs.declared.stop.Stop.{Stop}
use Rattle.mich_io.specs.declared.stop.Stop.TheVariants as stop

abbrev pub status_in : Result ℕ Stop → ℕ
status_in (Ok status) = status
status_in (Err stop.Read) = 3
status_in (Err stop.Write) = 4
status_in (Err stop.Memory) = 5
