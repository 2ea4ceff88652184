use Rattle.std.proofs.lemmas.Result.{err_from_is_err_and}
use Rattle.rules_files.specs.snapshots.Loading.{nodes_in}
use Rattle.rules_files.specs.snapshots.Spelling.{contract_spelling, counted, state_spelling}
use Rattle.mich_snapshot.specs.Snapshots.{snapshot_of}
use Rattle.mich_snapshot.proofs.Putting.{any_long, put_other}
use Rattle.mich_snapshot.proofs.Parts.{state_put}
use Rattle.mich_snapshot.proofs.saving.put_state.Goals as goal

pub returns-in_err-put_contracts : goal.returns-in_err-put_contracts
returns-in_err-put_contracts c = λ w r.
    let p = err_from_is_err_and c.from_residual-in_err-put_contracts.result c.from_residual-in_err-put_contracts.ensures.1 in
    let s = snapshot_of c.args.state.now w in
    rw (p.1, p.2) (put_other c.put_front.new.out.items c.put_contracts.new.out.items c.args.out.now.items c.put_contracts.new.out.items
    (counted contract_spelling w.contracts) (state_spelling s) (any_long (nodes_in s)) _ (c.in_err-put_contracts.ensures w r))

pub returns : goal.returns
returns c = λ w r. (
  state_put c.args.state.now w c.args.out.now.items c.put_front.new.out.items c.put_contracts.new.out.items c.put_tickets.new.out.items
      (c.in_ok-put_front.ensures w r) (c.in_ok-put_contracts.ensures w r).0 (c.in_ok-put_tickets.ensures w r),
  (c.in_ok-put_contracts.ensures w r).1,
)
