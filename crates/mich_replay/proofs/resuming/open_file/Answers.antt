use Rattle.std.proofs.Common.{sym, subst}
use Rattle.mich_replay.specs.Fronts.{IsReadOf}
use Rattle.mich_replay.proofs.Opened.{opened_from}
use Rattle.mich_replay.proofs.resuming.open_file.Goals as goal

pub returns-clause-opened : goal.returns-clause-opened
returns-clause-opened g c =
    let content = g.F.Files.content c.args.files.now c.args.path.now in
    opened_from content c.as_slice.result.now c.in_ok-loaded.loaded (subst (IsReadOf content) (sym c.as_slice.ensures.value) c.in_ok-bytes.ensures.front) c.in_ok-loaded.ensures
