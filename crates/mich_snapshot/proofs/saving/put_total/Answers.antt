use Rattle.std.proofs.Common.{rules, ◌≡◌, ◌++◌}
use Rattle.std.specs.Int.{w128}
use Rattle.std.specs.Prelude.{OnOk}
use Rattle.rules_files.specs.snapshots.Spelling.{identity_spelling, signed}
use Rattle.mich_term.specs.TicketView.{identity}
use Rattle.mich_tickets.specs.Sums.{burnt_of, minted_of}
use Rattle.mich_snapshot.proofs.Putting.{on_ok, put_three}
use Rattle.mich_snapshot.proofs.saving.put_total.Goals as goal

pub returns : goal.returns
returns c =
    let b = c.args.ledger.now.books.present in
    let j = identity c.args.id.now in
    let second : c.put_signed_sixteen.new.out.items ≡ c.put_identity.new.out.items ++ signed w128 (minted_of b j) = search rules in
    let third : OnOk c.put_signed_sixteen-2.result (c.put_signed_sixteen-2.new.out.items ≡ c.put_signed_sixteen.new.out.items ++ signed w128 (burnt_of b j))
    = search rules in
    on_ok _ _ c.put_signed_sixteen-2.result
    (put_three c.args.out.now.items c.put_identity.new.out.items c.put_signed_sixteen.new.out.items c.put_signed_sixteen-2.new.out.items
    (identity_spelling j) (signed w128 (minted_of b j)) (signed w128 (burnt_of b j)) c.in_ok-put_identity.ensures second)
    third
