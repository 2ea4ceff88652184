use Rattle.std.proofs.Common.{◌≡◌, ◌+◌, ◌<◌, ◌≤◌, ◌++◌, ℕ, true, false, List, [], length, None, refl, subst, arith}
use Rattle.std.proofs.KnownBytes.{Consumes-nil}
use Rattle.std.proofs.lemmas.Bool.Decides.{nat_tests}
use Rattle.std.proofs.lemmas.List.{length-append}
use Rattle.std.specs.Prelude.{nat_eq}
use Rattle.rules_files.specs.commands.Snapshots.{IsReached, refused_at}
use Rattle.rules_text.specs.nodes.Limits.{file_limit}
use Rattle.mich_replay.specs.Reaching.{Stops}
use Rattle.mich_replay.specs.View.{file_fault_seen}
use Rattle.mich_replay.specs.declared.replaying.Pause.{Pause}
use Rattle.mich_replay.proofs.Reached.{all_read, refused_file}
use Rattle.mich_replay.proofs.Taken.{same_again}
use Rattle.mich_replay.proofs.snapshotting.reach.Goals as goal

zero_of : (n : ℕ) → nat_eq n 0 ≡ true → n ≡ 0
zero_of n e = grind (arith, nat_tests, e)

some_of : (n : ℕ) → nat_eq n 0 ≡ false → 0 < n
some_of n e = grind (arith, nat_tests, e)

pub returns-in_err-session-clause-taken : goal.returns-in_err-session-clause-taken
returns-in_err-session-clause-taken g c = ([], Consumes-nil (g.F.Files.left c.args.files.now), omega arith)

pub pieces-init : goal.pieces-init
pieces-init g c = record {
  reads = omega arith;
  same = record { lent = refl; content = λ path. refl };
  passing = record { fed = []; bytes = Consumes-nil (g.F.Files.left c.args.files.now); size_is = refl; short = omega arith; come = ([], c.in_ok-session.ensures) };
}

pub feed_piece-requires : goal.feed_piece-requires
feed_piece-requires g c = let u = c.pieces.invariant.passing in (None, u.fed, u.come.0, u.come.1)

pub returns-in_err-count-clause-taken : goal.returns-in_err-count-clause-taken
returns-in_err-count-clause-taken g c =
    let u = c.pieces.invariant.passing in
    let f = c.in_err-count.ensures.feeds (g.F.Files.left c.args.files.now) u.fed u.bytes in
    let piece = f.0 in
    let within : length u.fed ≤ file_limit = omega (arith, u.size_is, u.short) in
    (u.fed ++ piece, f.1.bytes, omega (arith, length-append u.fed piece, within, f.1.short))

pub pass_groups-requires : goal.pass_groups-requires
pass_groups-requires g c =
    let u = c.pieces.invariant.passing in
    let content = g.F.Files.left c.args.files.now in
    let f = c.in_ok-count.ensures.feeds content u.fed u.bytes in
    let piece = f.0 in
    let last = nat_eq c.in_ok-count.count 0 in
    let came = f.4 None u.come.0 last u.come.1 in
    (None, u.fed ++ piece, u.come.0, came)

pub returns-in_err-pass_groups-clause-taken : goal.returns-in_err-pass_groups-clause-taken
returns-in_err-pass_groups-clause-taken g c =
    let u = c.pieces.invariant.passing in
    let content = g.F.Files.left c.args.files.now in
    let f = c.in_ok-count.ensures.feeds content u.fed u.bytes in
    let piece = f.0 in
    let last = nat_eq c.in_ok-count.count 0 in
    let came = f.4 None u.come.0 last u.come.1 in
    let within : length u.fed ≤ file_limit = omega (arith, u.size_is, u.short) in
    (u.fed ++ piece, f.1.bytes, omega (arith, length-append u.fed piece, within, f.1.short))

pub pieces-preserved : goal.pieces-preserved
pieces-preserved g c =
    let u = c.pieces.invariant.passing in
    let content = g.F.Files.left c.args.files.now in
    let f = c.in_ok-count.ensures.feeds content u.fed u.bytes in
    let piece = f.0 in
    let last = nat_eq c.in_ok-count.count 0 in
    let came = f.4 None u.come.0 last u.come.1 in
    let after = c.pass_groups.new.session in
    let x = subst (λ (y : Pause). Stops None (u.fed ++ piece) last after.reader after.progress y) c.in-More.is (c.in_ok-pass_groups.ensures None (u.fed ++ piece) u.come.0 came) in
    let size : c.pieces.size + c.in_ok-count.count ≡ length (u.fed ++ piece) = omega (arith, u.size_is, length-append u.fed piece, f.2) in
    record {
      reads = omega (arith, c.pieces.invariant.reads, c.in_ok-count.ensures.cause.later);
      same = same_again _ _ _ _ _ _ c.pieces.invariant.same c.in_ok-count.ensures.same;
      passing = record { fed = u.fed ++ piece; bytes = f.1.bytes; size_is = size; short = omega (arith, size, x.2); come = x.1 };
    }

pub pieces-smaller : goal.pieces-smaller
pieces-smaller g c =
    let u = c.pieces.invariant.passing in
    let content = g.F.Files.left c.args.files.now in
    let f = c.in_ok-count.ensures.feeds content u.fed u.bytes in
    let piece = f.0 in
    let last = nat_eq c.in_ok-count.count 0 in
    let came = f.4 None u.come.0 last u.come.1 in
    let after = c.pass_groups.new.session in
    let x = subst (λ (y : Pause). Stops None (u.fed ++ piece) last after.reader after.progress y) c.in-More.is (c.in_ok-pass_groups.ensures None (u.fed ++ piece) u.come.0 came) in
    let size : c.pieces.size + c.in_ok-count.count ≡ length (u.fed ++ piece) = omega (arith, u.size_is, length-append u.fed piece, f.2) in
    omega (arith, size, x.2, some_of c.in_ok-count.count x.0)

pub returns-in-End-clause-reached : goal.returns-in-End-clause-reached
returns-in-End-clause-reached g c =
    let u = c.pieces.invariant.passing in
    let content = g.F.Files.left c.args.files.now in
    let f = c.in_ok-count.ensures.feeds content u.fed u.bytes in
    let piece = f.0 in
    let last = nat_eq c.in_ok-count.count 0 in
    let came = f.4 None u.come.0 last u.come.1 in
    let left = g.F.Files.left c.feed_piece.new.files in
    let at_end = λ (e : last ≡ true). f.3 (zero_of c.in_ok-count.count e) in
    let after = c.pass_groups.new.session in
    let x = subst (λ (y : Pause). Stops None (u.fed ++ piece) last after.reader after.progress y) c.in-End.is (c.in_ok-pass_groups.ensures None (u.fed ++ piece) u.come.0 came) in
    let size : c.pieces.size + c.in_ok-count.count ≡ length (u.fed ++ piece) = omega (arith, u.size_is, length-append u.fed piece, f.2) in
    let y = c.state_reached.ensures (u.fed ++ piece) x.0.0 after.reader size x.0.1 x.2 in
    (y.0, y.1, λ file is. subst (λ (l : List ℕ). IsReached l y.0) (all_read content (u.fed ++ piece) left last f.1.bytes at_end x.1 file is) y.2)

pub returns-in-End-clause-end : goal.returns-in-End-clause-end
returns-in-End-clause-end g c =
    let u = c.pieces.invariant.passing in
    let content = g.F.Files.left c.args.files.now in
    let f = c.in_ok-count.ensures.feeds content u.fed u.bytes in
    let piece = f.0 in
    let last = nat_eq c.in_ok-count.count 0 in
    let came = f.4 None u.come.0 last u.come.1 in
    let left = g.F.Files.left c.feed_piece.new.files in
    let at_end = λ (e : last ≡ true). f.3 (zero_of c.in_ok-count.count e) in
    let after = c.pass_groups.new.session in
    let x = subst (λ (y : Pause). Stops None (u.fed ++ piece) last after.reader after.progress y) c.in-End.is (c.in_ok-pass_groups.ensures None (u.fed ++ piece) u.come.0 came) in
    λ state. at_end x.1

pub returns-in-End-clause-taken : goal.returns-in-End-clause-taken
returns-in-End-clause-taken g c =
    let u = c.pieces.invariant.passing in
    let content = g.F.Files.left c.args.files.now in
    let f = c.in_ok-count.ensures.feeds content u.fed u.bytes in
    let piece = f.0 in
    let last = nat_eq c.in_ok-count.count 0 in
    let came = f.4 None u.come.0 last u.come.1 in
    let within : length u.fed ≤ file_limit = omega (arith, u.size_is, u.short) in
    (u.fed ++ piece, f.1.bytes, omega (arith, length-append u.fed piece, within, f.1.short))

pub returns-in-Refused-clause-reached : goal.returns-in-Refused-clause-reached
returns-in-Refused-clause-reached g c =
    let u = c.pieces.invariant.passing in
    let content = g.F.Files.left c.args.files.now in
    let f = c.in_ok-count.ensures.feeds content u.fed u.bytes in
    let piece = f.0 in
    let last = nat_eq c.in_ok-count.count 0 in
    let came = f.4 None u.come.0 last u.come.1 in
    let left = g.F.Files.left c.feed_piece.new.files in
    let at_end = λ (e : last ≡ true). f.3 (zero_of c.in_ok-count.count e) in
    let after = c.pass_groups.new.session in
    let x = subst (λ (y : Pause). Stops None (u.fed ++ piece) last after.reader after.progress y) c.in-Refused.is (c.in_ok-pass_groups.ensures None (u.fed ++ piece) u.come.0 came) in
    let fault = file_fault_seen c.in-Refused.fault in
    (refused_at fault c.in-Refused.at, (refl, refl), refused_file content (u.fed ++ piece) left last f.1.bytes at_end x.0 fault c.in-Refused.at x.1)

pub returns-in-Refused-clause-taken : goal.returns-in-Refused-clause-taken
returns-in-Refused-clause-taken g c =
    let u = c.pieces.invariant.passing in
    let content = g.F.Files.left c.args.files.now in
    let f = c.in_ok-count.ensures.feeds content u.fed u.bytes in
    let piece = f.0 in
    let last = nat_eq c.in_ok-count.count 0 in
    let came = f.4 None u.come.0 last u.come.1 in
    let within : length u.fed ≤ file_limit = omega (arith, u.size_is, u.short) in
    (u.fed ++ piece, f.1.bytes, omega (arith, length-append u.fed piece, within, f.1.short))
