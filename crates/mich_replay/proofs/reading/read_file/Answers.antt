use Rattle.std.proofs.Common.{rules, ◌≡◌, ◌≤◌, length, take, inr, arith}
use Rattle.std.proofs.lemmas.List.{length-take}
use Rattle.mich_replay.proofs.Taken.{more_taken}
use Rattle.mich_replay.proofs.reading.read_file.Goals as goal

-- there was no memory for the piece
pub returns-then-is_err-clause-given_up : goal.returns-then-is_err-clause-given_up
returns-then-is_err-clause-given_up g c =
    let buf = c.read-in-read.new.buf in
    let room : length buf ≡ 65536 = search rules in
    let short : length (take c.in_ok-count.count buf) ≤ 65536 = omega (arith, length-take c.in_ok-count.count buf, room) in
    let within : length c.read.bytes.items ≤ 1073741824 = search rules in
    inr (more_taken (g.F.Files.content c.args.files.now c.args.path.now) (g.F.Files.left c.read.files) (g.F.Files.left c.read-in-read.new.files) c.read.bytes.items
    (take c.in_ok-count.count buf) c.read.invariant.bytes c.in_ok-count.ensures.bytes.0 within short)
