use Rattle.std.proofs.Common.{rules, ◌≡◌, ◌++◌}
use Rattle.rules_files.specs.snapshots.Spelling.{counted, eight, holding_spelling}
use Rattle.mich_snapshot.proofs.Putting.{on_ok, put_three}
use Rattle.mich_snapshot.proofs.saving.put_account.Goals as goal

pub returns : goal.returns
returns c = λ holdings order same.
    let first : c.put.new.out.items ≡ c.args.out.now.items ++ c.args.who.now = search rules in
    on_ok _ _ c.put_purse.result
    (put_three c.args.out.now.items c.put.new.out.items c.put_eight.new.out.items c.put_purse.new.out.items
    c.args.who.now (eight c.args.balance) (counted holding_spelling holdings) first c.in_ok-put_eight.ensures)
    (c.put_purse.ensures holdings order same)
