-- What the code's values stand for.
use Rattle.std.specs.Prelude.{◌≡◌, ◌⊎◌, ℕ, List, Option}
use Rattle.rules_text.specs.nodes.Tree.{Tree}
use Rattle.rules_files.specs.commands.Answers.{Answer}
use Rattle.rules_files.specs.commands.Codec.{encode_node, decode_node}
use Rattle.rules_files.specs.commands.Packs.{pack_node}
use Rattle.rules_code.specs.certificates.Certificates.{certifying}
use Rattle.rules_code.specs.typing.Nodes.{script}
use Rattle.rules_files.specs.commands.Scripts.{IsCheckAnswer, checking_answer}
use Rattle.rules_files.specs.commands.Certificates.{IsCertifyAnswer, certifying_answer}
use Rattle.mich_answers.specs.declared.answer.Answer.{Answer as Reply}
use Rattle.mich_answers.specs.declared.checking.ScriptCommand.{ScriptCommand}
use Rattle.mich_answers.specs.declared.checking.ScriptCommand.TheVariants as scripts
use Rattle.mich_answers.specs.declared.node_commands.NodeCommand.{NodeCommand}
use Rattle.mich_answers.specs.declared.node_commands.NodeCommand.TheVariants as command

abbrev pub answer_seen : Reply → Answer
answer_seen a = record { status = a.status; lines = a.lines }

-- what a command answers to a node, where it has the form
abbrev pub node_answer : NodeCommand → Tree → Option Answer
node_answer command.Encode = encode_node
node_answer command.Decode = decode_node
node_answer command.Pack = pack_node

-- what a command answers to a script
abbrev pub script_answer : ScriptCommand → Tree → Answer
script_answer scripts.Check t = checking_answer (script t)
script_answer scripts.Certify t = certifying_answer (certifying t)

-- what it answers to a file
abbrev pub IsScriptAnswer : ScriptCommand → List ℕ → Answer → Type 0
IsScriptAnswer scripts.Check file answer = IsCheckAnswer file answer
IsScriptAnswer scripts.Certify file answer = IsCertifyAnswer file answer

abbrev pub IsDoneOrRefused : ℕ → Type 0
IsDoneOrRefused status = (status ≡ 0) ⊎ (status ≡ 2)
