-- What the code's values stand for.
use Rattle.std.specs.Prelude.{ℕ, ◌≤◌}
pub use Rattle.mich_io.specs.Status.{status_in}
use Rattle.rules_files.specs.commands.Replay as replay
use Rattle.rules_files.specs.commands.Commands as commands
use Rattle.mich_replay.specs.declared.command.Verb.{Verb}
use Rattle.mich_replay.specs.declared.command.Verb.TheVariants as verbs
use Rattle.mich_replay.specs.declared.command.WholeVerb.{WholeVerb}
use Rattle.mich_replay.specs.declared.command.WholeVerb.TheVariants as wholes
use Rattle.mich_replay.specs.declared.command.Command.{Command}
use Rattle.mich_replay.specs.declared.command.Command.TheVariants as words
use Rattle.mich_replay.specs.declared.outcome.FileFault.{FileFault}
use Rattle.mich_replay.specs.declared.outcome.FileFault.TheVariants as files

abbrev pub whole_seen : WholeVerb → commands.Verb
whole_seen wholes.Check = commands.Checking
whole_seen wholes.Encode = commands.Encoding
whole_seen wholes.Decode = commands.Decoding
whole_seen wholes.Pack = commands.Packing
whole_seen wholes.Certify = commands.Certifying
whole_seen wholes.Verify = commands.Verifying
whole_seen wholes.Audit = commands.Auditing

abbrev pub verb_seen : Verb → commands.Verb
verb_seen verbs.Replay = commands.Replaying
verb_seen verbs.Snapshot = commands.Snapshotting
verb_seen (verbs.Whole verb) = whole_seen verb

abbrev pub command_seen : Command → commands.Command
command_seen (words.OnFile verb path) = commands.OnFile (verb_seen verb) path.now
command_seen (words.Resume snapshot path) = commands.Resuming snapshot.now path.now
command_seen (words.Generate calls) = commands.Generating calls
command_seen words.NoCommand = commands.NoCommand

-- a workload has 1 to 100,000 calls
abbrev pub IsInRange : Command → Type 0
IsInRange (words.OnFile verb path) = Unit {0}
IsInRange (words.Resume snapshot path) = Unit {0}
IsInRange (words.Generate calls) = (1 ≤ calls) × (calls ≤ 100000)
IsInRange words.NoCommand = Unit {0}

abbrev pub file_fault_seen : FileFault → replay.FileFault
file_fault_seen (files.Text kind) = replay.TextFault kind
file_fault_seen files.BadStatement = replay.BadStatement
file_fault_seen files.BadOrder = replay.BadOrder
file_fault_seen files.BadCosts = replay.BadCosts
file_fault_seen files.RepeatedAccount = replay.RepeatedAccount
file_fault_seen files.SupplyLimit = replay.SupplyLimit
