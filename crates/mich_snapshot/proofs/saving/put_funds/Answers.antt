use Rattle.std.proofs.Common.{rules, ◌≡◌, ◌++◌}
use Rattle.rules_files.specs.snapshots.Spelling.{eight}
use Rattle.mich_snapshot.proofs.Putting.{on_ok, put_three}
use Rattle.mich_snapshot.proofs.saving.put_funds.Goals as goal

pub returns : goal.returns
returns c =
    let x = c.args.contract.now in
    let first : c.put.new.out.items ≡ c.args.out.now.items ++ c.args.hash.now = search rules in
    on_ok _ _ c.put_eight-2.result
    (put_three c.args.out.now.items c.put.new.out.items c.put_eight.new.out.items c.put_eight-2.new.out.items
    c.args.hash.now (eight x.balance) (eight x.paid) first c.in_ok-put_eight.ensures)
    c.put_eight-2.ensures
