use Rattle.std.proofs.Common.{ℕ, List, ◌++◌, ap, ◌∙◌}
use Rattle.std.proofs.lemmas.Result.{err_from_is_err_and}
use Rattle.rules_files.specs.snapshots.Loading.{nodes_in}
use Rattle.rules_files.specs.snapshots.Spelling.{state_spelling}
use Rattle.mich_snapshot.specs.Snapshots.{snapshot_of}
use Rattle.mich_snapshot.proofs.Putting.{any_long}
use Rattle.mich_snapshot.proofs.Parts.{is_saved, not_saved}
use Rattle.mich_snapshot.proofs.saving.save.Goals as goal

pub returns-in_err-put_state : goal.returns-in_err-put_state
returns-in_err-put_state c = λ w r.
    let p = err_from_is_err_and c.from_residual.result c.from_residual.ensures.1 in
    let s = snapshot_of c.args.state.now w in
    rw (p.1, p.2) (not_saved (state_spelling s) c.new-out.result.items c.put_state.new.out.items (any_long (nodes_in s)) _ (c.in_err-put_state.ensures w r))

pub returns : goal.returns
returns c = λ w r.
    let s = snapshot_of c.args.state.now w in
    let put = c.in_ok-put_state.ensures w r in
    is_saved (state_spelling s) _ (any_long (nodes_in s)) put.1
    (c.in_ok-from_vec.ensures ∙ put.0 ∙ ap (λ (l : List ℕ). l ++ state_spelling s) c.new-out.ensures.items)
