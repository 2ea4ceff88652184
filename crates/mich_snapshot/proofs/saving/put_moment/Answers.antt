use Rattle.std.proofs.Common.{rules, ◌≡◌, ◌++◌}
use Rattle.std.specs.Int.{w64}
use Rattle.std.specs.Prelude.{OnOk}
use Rattle.rules_files.specs.snapshots.Spelling.{four, magic, signed}
use Rattle.mich_snapshot.proofs.Putting.{on_ok, put_four_parts}
use Rattle.mich_snapshot.proofs.saving.put_moment.Goals as goal

pub returns : goal.returns
returns c =
    let v = c.args.world.now in
    let first : c.put.new.out.items ≡ c.args.out.now.items ++ magic = search rules in
    let second : c.put-2.new.out.items ≡ c.put.new.out.items ++ v.chain = search rules in
    let third : c.put_four.new.out.items ≡ c.put-2.new.out.items ++ four v.level = search rules in
    let last : OnOk c.put_signed_eight.result (c.put_signed_eight.new.out.items ≡ c.put_four.new.out.items ++ signed w64 v.moment) = search rules in
    on_ok _ _ c.put_signed_eight.result
    (put_four_parts c.args.out.now.items c.put.new.out.items c.put-2.new.out.items c.put_four.new.out.items c.put_signed_eight.new.out.items
    magic v.chain (four v.level) (signed w64 v.moment) first second third)
    last
