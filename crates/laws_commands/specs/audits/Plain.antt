-- Where what was minted has comparable contents.
use Rattle.std.specs.Prelude.{◌≡◌, ◌≤◌, ℕ, List, [], length}
use Rattle.std.specs.List.{AllByRecursion}
use Rattle.rules_code.specs.steps.Changes.{Change, minted, burnt}
use Rattle.rules_world.specs.world.World.{World}
use Rattle.rules_world.specs.world.Good.{IsGood}
use Rattle.rules_files.specs.commands.Replay.{Replay, State, IsReplay}
use Rattle.rules_files.specs.commands.Lines.{lines_of, text_of}
use Rattle.rules_audit.specs.Form.{audit_limit}
use Rattle.rules_audit.specs.Audits.{Agrees}
use Rattle.laws_commands.specs.audits.Follows.{IsPlain, IsPlainWorld}
use Rattle.laws_commands.specs.audits.Written.{IsWritable}
use Rattle.laws_commands.specs.audits.Runs.{nodes_of}

-- what is minted has a comparable content
abbrev pub IsPlainMint : Change → Type 0
IsPlainMint (minted t) = IsPlain t
IsPlainMint (burnt t) = Unit {0}

-- where all that was minted in a good world has comparable contents, so has all that is held or was burnt
abbrev pub PlainMintsSuffice : Type 0
PlainMintsSuffice = (w : World) → IsGood w [] → AllByRecursion IsPlainMint w.log → IsPlainWorld w

-- What is printed of a file that is applied to its end agrees, where all that was minted has comparable contents and its nodes
-- can be written, if it isn't longer than an audit reads.
abbrev pub MintedRunsAgree : Type 0
MintedRunsAgree = (file : List ℕ) (done : Replay) (w : World) → IsReplay file done → done.ending ≡ State w → AllByRecursion IsPlainMint w.log →
    AllByRecursion IsWritable (nodes_of done.receipts w) → length (text_of (lines_of done)) ≤ audit_limit → Agrees (text_of (lines_of done))
