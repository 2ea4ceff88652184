use Rattle.std.proofs.Common.{rules, ◌≡◌, ◌≤◌, ◌<◌, [], length, take, refl, sym, subst, append-nil, arith}
use Rattle.std.proofs.lemmas.Result.{err_from_is_err_and}
use Rattle.std.proofs.KnownBytes.{Consumes-kept}
use Rattle.std.specs.Io.KnownBytes.{Consumes}
use Rattle.mich_replay.proofs.Happening.{piece_read}
use Rattle.mich_replay.proofs.feeding.feed_piece.Goals as goal

pub returns-in_err-count-clause-feeds : goal.returns-in_err-count-clause-feeds
returns-in_err-count-clause-feeds g c = λ content fed bytes.
    let left = g.F.Files.left c.read.new.files in
    let p = err_from_is_err_and c.from_residual.result c.from_residual.ensures.1 in
    let kept = Consumes-kept content (g.F.Files.left c.args.files.now) left fed bytes c.in_err-count.ensures.bytes in
    rw p.1 ([], record { bytes = subst (Consumes content left) (sym (append-nil fed)) kept; short = omega arith }, λ e. refl)

pub returns-in_err-feed-clause-feeds : goal.returns-in_err-feed-clause-feeds
returns-in_err-feed-clause-feeds g c = λ content fed bytes.
    let left = g.F.Files.left c.read.new.files in
    let piece = c.split_at.result.0.now in
    let room : length c.read.new.buf ≡ 65536 = search rules in
    let short : length piece ≤ 65536 = omega (arith, c.split_at.ensures.front_len, c.in_ok-count.ensures.bound, room) in
    let taken = piece_read content (g.F.Files.left c.args.files.now) left fed piece (take c.in_ok-count.count c.read.new.buf) c.split_at.ensures.front bytes c.in_ok-count.ensures.bytes.0 in
    let p = err_from_is_err_and c.from_residual-in_err-feed.result c.from_residual-in_err-feed.ensures.1 in
    rw (p.1, p.2) (piece, record { bytes = taken; short = short }, λ e. absurd cc)

pub returns-clause-feeds : goal.returns-clause-feeds
returns-clause-feeds g c = λ content fed bytes.
    let left = g.F.Files.left c.read.new.files in
    let piece = c.split_at.result.0.now in
    let room : length c.read.new.buf ≡ 65536 = search rules in
    let some : 0 < length c.read.new.buf = omega (arith, room) in
    let short : length piece ≤ 65536 = omega (arith, c.split_at.ensures.front_len, c.in_ok-count.ensures.bound, room) in
    let size : c.in_ok-count.count ≡ length piece = omega (arith, c.split_at.ensures.front_len) in
    let taken = piece_read content (g.F.Files.left c.args.files.now) left fed piece (take c.in_ok-count.count c.read.new.buf) c.split_at.ensures.front bytes c.in_ok-count.ensures.bytes.0 in
    (piece, record { bytes = taken; short = short }, size, λ zero. c.in_ok-count.ensures.bytes.1 zero some, λ from receipts last came. c.in_ok-feed.ensures from fed receipts last came)

pub returns-clause-short : goal.returns-clause-short
returns-clause-short g c =
    let room : length c.read.new.buf ≡ 65536 = search rules in
    omega (arith, c.in_ok-count.ensures.bound, room)
