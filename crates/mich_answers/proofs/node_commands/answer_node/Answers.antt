use Rattle.rules_files.specs.commands.Codec.{IsCodecAnswer}
use Rattle.mich_answers.specs.View.{node_answer}
use Rattle.mich_answers.proofs.Listing.{listed_answer}
use Rattle.mich_answers.proofs.Stated.{ok_answer}
use Rattle.std.proofs.Common.{refl}
use Rattle.mich_answers.proofs.node_commands.answer_node.Goals as goal

pub returns : goal.returns
returns c =
    ok_answer c.answer_listed.result _ (IsCodecAnswer (node_answer c.args.command) c.args.file.now) c.answer_listed.ensures
    (listed_answer c.args.file.now c.in_ok-listed.listed (node_answer c.args.command) _ c.in_ok-listed.ensures refl)
