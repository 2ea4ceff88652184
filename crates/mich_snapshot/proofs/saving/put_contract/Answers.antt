use Rattle.std.proofs.Common.{[], ◌∷◌, ◌++◌, ℕ, List, Bool, false, ap, subst}
use Rattle.std.specs.Prelude.{◌||◌}
use Rattle.std.proofs.lemmas.Result.{err_from_is_err_and}
use Rattle.rules_files.specs.snapshots.Loading.{bodies}
use Rattle.rules_files.specs.snapshots.Spelling.{contract_spelling, eight, node_spelling, value_spelling}
use Rattle.mich_world.specs.Standing.{plain}
use Rattle.mich_snapshot.specs.Puts.{IsPut}
use Rattle.mich_snapshot.specs.Saved.{nodes_of}
use Rattle.mich_snapshot.proofs.Putting.{any_long, put_behind, put_fails_at, put_then}
use Rattle.mich_snapshot.proofs.Parts.{contract_put}
use Rattle.mich_snapshot.proofs.saving.put_contract.Goals as goal

pub returns-in_err-put_script : goal.returns-in_err-put_script
returns-in_err-put_script c =
    let p = err_from_is_err_and c.from_residual-in_err-put_script.result c.from_residual-in_err-put_script.ensures.1 in
    let x = plain c.args.store.now.bases.present c.args.contract.now in
    rw (p.1, p.2) (put_fails_at c.put_funds.new.out.items c.put_script.new.out.items c.args.out.now.items c.put_script.new.out.items
    (node_spelling x.script) (contract_spelling (c.args.hash.now, x)) x.script (bodies x.storage) _ c.in_err-put_script.ensures)

pub returns : goal.returns
returns c =
    let x = plain c.args.store.now.bases.present c.args.contract.now in
    let behind = put_then c.put_funds.new.out.items c.put_script.new.out.items c.put_storage.new.out.items (node_spelling x.script) (value_spelling x.storage)
    (x.script ∷ []) (bodies x.storage) c.put_storage.result c.in_ok-put_script.ensures.0
    (ap (λ (q : Bool). q || false) c.in_ok-put_script.ensures.1) c.put_storage.ensures in
    subst (λ (text : List ℕ). IsPut c.args.out.now.items c.put_storage.new.out.items text (any_long (nodes_of x)) c.put_storage.result)
    (contract_put c.args.hash.now (eight x.balance) (eight x.paid) (node_spelling x.script) (value_spelling x.storage))
    (put_behind c.args.out.now.items c.put_funds.new.out.items c.put_storage.new.out.items (c.args.hash.now ++ (eight x.balance ++ eight x.paid))
    (node_spelling x.script ++ value_spelling x.storage) (any_long (nodes_of x)) c.put_storage.result c.in_ok-put_funds.ensures behind)
