use Rattle.std.proofs.Common.{refl, sym, subst}
use Rattle.rules_files.specs.commands.Commands.{OnFile}
use Rattle.mich_answers.specs.View.{answer_seen}
use Rattle.mich_replay.specs.Fronts.{IsReadOf}
use Rattle.mich_replay.specs.View.{whole_seen}
use Rattle.mich_replay.proofs.Cut.{on_read}
use Rattle.mich_replay.proofs.answer.answer_path.Goals as goal

pub returns-clause-exact : goal.returns-clause-exact
returns-clause-exact g c =
    let verb = whole_seen c.args.verb in
    let content = g.F.Files.content c.args.files.now in
    on_read (OnFile verb c.args.path.now) verb c.args.path.now content c.as_slice.result.now (answer_seen c.in_ok-answer.answer) refl
    (subst (IsReadOf (content c.args.path.now)) (sym c.as_slice.ensures.value) c.in_ok-file.ensures.front) c.in_ok-answer.ensures.exact
