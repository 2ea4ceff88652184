-- Laws of what a file comes to.
use Rattle.std.specs.Prelude.{◌≡◌, ◌≢◌, ◌≤◌, ◌<◌, ℕ, ◌-ℤ◌, List, [], ◌++◌, length, None, Some}
use Rattle.std.specs.declared.option.Option.{Option}
use Rattle.rules_text.specs.nodes.Limits.{file_limit, most_mutez}
use Rattle.rules_files.specs.commands.Places.{Placed, AreStatements, IsEndAt}
use Rattle.rules_data.specs.values.Tickets.{Identity}
use Rattle.rules_world.specs.world.Balances.{supply}
use Rattle.rules_world.specs.world.Holdings.{held, minted_ever, burnt_ever}
use Rattle.rules_world.specs.world.World.{World}
use Rattle.rules_files.specs.commands.Replay.{Replay, State, IsReplay, going, stuck_run, run_all}
use Rattle.rules_files.specs.commands.Answers.{Answer}
use Rattle.rules_files.specs.commands.Commands.{Command, OnFile, Resuming, Generating, NoCommand, IsTold, IsAnswer}
use Rattle.rules_files.specs.commands.Codec.{IsCodecAnswer}
use Rattle.rules_text.specs.nodes.Tree.{Tree}
use Rattle.laws_data.specs.binary.Laws.{IsBytes}
use Rattle.laws_files.specs.Files.{granted_in}

-- ---- answers

-- whatever the files hold, a command has no two answers
abbrev pub HasOneAnswer : Command → Type 0
HasOneAnswer command = (content : List ℕ → Option (List ℕ)) (a b : Answer) → IsAnswer command content a → IsAnswer command content b → a ≡ b

-- a snapshot that a command loads is made of bytes
abbrev pub LoadsBytes : Command → (List ℕ → Option (List ℕ)) → Type 0
LoadsBytes (Resuming snapshot path) content = (bytes : List ℕ) → content snapshot ≡ Some bytes → IsBytes bytes
LoadsBytes (OnFile _ _) _ = Unit {0}
LoadsBytes (Generating _) _ = Unit {0}
LoadsBytes NoCommand _ = Unit {0}

-- and where it is known what it reads, it has one
abbrev pub HasAnAnswer : Command → Type 0
HasAnAnswer command = (content : List ℕ → Option (List ℕ)) → LoadsBytes command content → IsTold command content → (answer : Answer) × IsAnswer command content answer

-- the groups of a file all have outcomes: accepted code is never stuck
abbrev pub NoGroupIsStuck : Type 0
NoGroupIsStuck = (file : List ℕ) (ss : List Placed) (to : ℕ) → AreStatements file 0 ss to → run_all (going [] None) ss ≢ stuck_run

-- past the limit of a file its answer stays, whatever stands behind it
abbrev pub KeepsAnswer : (Tree → Option Answer) → (file more : List ℕ) → Answer → Type 0
KeepsAnswer command file more answer = file_limit < length file → IsCodecAnswer command file answer → IsCodecAnswer command (file ++ more) answer

-- ---- mutez

-- whatever file ends in a world, its balances, fees and burns are together what its accounts were granted, at most 2^63 - 1
abbrev pub ConservesMutez : Type 0
ConservesMutez = (file : List ℕ) (done : Replay) (w : World) → IsReplay file done → done.ending ≡ State w
    → (ss : List Placed) × (to : ℕ) × AreStatements file 0 ss to × IsEndAt file to × (supply w ≡ granted_in ss) × (supply w ≤ most_mutez)

-- ---- tickets

-- and of each ticket its owners hold what was minted less what was burnt
abbrev pub ConservesTickets : Type 0
ConservesTickets = (file : List ℕ) (done : Replay) (w : World) → IsReplay file done → done.ending ≡ State w
    → (id : Identity) → held w id ≡ minted_ever w id -ℤ burnt_ever w id
