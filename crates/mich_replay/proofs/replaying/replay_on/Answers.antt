use Rattle.std.proofs.Common.{◌≡◌, ◌+◌, ◌<◌, ◌≤◌, ◌++◌, ℕ, true, false, [], length, Ok, Err, refl, sym, ap, subst, arith}
use Rattle.std.proofs.lemmas.Result.{err_from_is_err_and}
use Rattle.std.proofs.KnownBytes.{Consumes-nil}
use Rattle.std.proofs.lemmas.Bool.Decides.{nat_tests}
use Rattle.std.proofs.lemmas.List.{length-append}
use Rattle.std.specs.Prelude.{nat_eq}
use Rattle.rules_text.specs.nodes.Limits.{file_limit}
use Rattle.rules_files.specs.commands.Replay.{RefusedAt, ending_of}
use Rattle.mich_replay.specs.Coming.{Pauses}
use Rattle.mich_replay.specs.Output.{output}
use Rattle.mich_replay.specs.Pace.{NoneIsClosedAt}
use Rattle.mich_replay.specs.View.{file_fault_seen}
use Rattle.mich_replay.specs.declared.replaying.Pause.{Pause}
use Rattle.mich_replay.proofs.Closed.{none_first}
use Rattle.mich_replay.proofs.Happening.{told_cut, told_fed, told_nothing}
use Rattle.mich_replay.proofs.Pace.{given_up_behind, grows_closed, grows_trans, no_three, no_three_err, one_behind}
use Rattle.mich_replay.proofs.Promise.{whatever}
use Rattle.mich_replay.proofs.Replayed.{cut_ends, ended_ends, refused_ends}
use Rattle.mich_replay.proofs.Taken.{same_again}
use Rattle.mich_replay.proofs.replaying.replay_on.Goals as goal

never : false ≡ true → ⊥
never e = absurd cc

zero_of : (n : ℕ) → nat_eq n 0 ≡ true → n ≡ 0
zero_of n e = grind (arith, nat_tests, e)

some_of : (n : ℕ) → nat_eq n 0 ≡ false → 0 < n
some_of n e = grind (arith, nat_tests, e)

nothing_closed : (place : ℕ) → place ≤ 0 → NoneIsClosedAt [] place
nothing_closed place h = subst (NoneIsClosedAt []) (sym (zero place h)) none_first where
  zero : (n : ℕ) → n ≤ 0 → n ≡ 0
  zero n h = omega (arith, h)

pub pieces-init : goal.pieces-init
pieces-init g c = record {
  reads = omega arith;
  writes = omega arith;
  same = record { lent = refl; content = λ path. refl };
  short = omega arith;
  underway = λ from h. record {
    fed = [];
    bytes = Consumes-nil (g.F.Files.left c.args.files.now);
    size_is = refl;
    short = omega arith;
    told = told_nothing from [] false (output (g.K.Sink.written c.args.out.now) (g.K.Sink.handed c.args.out.now)) c.args.session.now.reader c.args.session.now.progress h;
    all = nothing_closed c.args.session.now.reader.place h.reads.within;
  };
}

pub feed_piece-requires : goal.feed_piece-requires
feed_piece-requires g c =
    let q = c.requires in
    let u = c.pieces.invariant.underway q.0 q.1 in
    (q.0, u.fed, u.told.receipts, u.told.came)

pub returns-in_err-count-clause-ends : goal.returns-in_err-count-clause-ends
returns-in_err-count-clause-ends g c = λ from h.
    let u = c.pieces.invariant.underway from h in
    let content = g.F.Files.left c.args.files.now in
    let p = err_from_is_err_and c.from_residual.result c.from_residual.ensures.1 in
    rw p.1 (cut_ends from content u.fed (g.F.Files.left c.pieces.files) false u.bytes (λ e. absurd (never e)) _ _ p.0
    (told_cut from u.fed false _ _ c.pieces.session.reader c.pieces.session.progress u.told))

pub returns-in_err-count-clause-pace : goal.returns-in_err-count-clause-pace
returns-in_err-count-clause-pace g c = λ from h.
    let u = c.pieces.invariant.underway from h in
    let content = g.F.Files.left c.args.files.now in
    let within : length u.fed ≤ file_limit = omega (arith, u.size_is, u.short) in
    let f = c.in_err-count.ensures.feeds content u.fed u.bytes in
    let p = err_from_is_err_and c.from_residual.result c.from_residual.ensures.1 in
    rw (p.1, p.2) (given_up_behind from u.fed (output (g.K.Sink.written c.args.out.now) (g.K.Sink.handed c.args.out.now)) (output (g.K.Sink.written c.pieces.out) (g.K.Sink.handed c.pieces.out))
    c.pieces.session.reader c.pieces.session.progress u.told u.all within content (g.F.Files.left c.feed_piece.new.files) f.0 c.in_err-count.field-0.0 f.1.bytes f.1.short f.2)

pub tell_groups-requires : goal.tell_groups-requires
tell_groups-requires g c =
    let from = c.requires.0 in
    let h = c.requires.1 in
    let u = c.pieces.invariant.underway from h in
    let content = g.F.Files.left c.args.files.now in
    let f = c.in_ok-count.ensures.feeds content u.fed u.bytes in
    let piece = f.0 in
    let last = nat_eq c.in_ok-count.count 0 in
    let s = c.feed_piece.new.session in
    let before = output (g.K.Sink.written c.args.out.now) (g.K.Sink.handed c.args.out.now) in
    let mid = output (g.K.Sink.written c.pieces.out) (g.K.Sink.handed c.pieces.out) in
    let t = told_fed from u.fed piece last before mid c.pieces.session.reader s.reader c.pieces.session.progress s.progress u.told (f.4 from u.told.receipts last u.told.came) in
    (from, u.fed ++ piece, before, t)

pub returns-in_err-tell_groups-clause-ends : goal.returns-in_err-tell_groups-clause-ends
returns-in_err-tell_groups-clause-ends g c = λ from h.
    let u = c.pieces.invariant.underway from h in
    let content = g.F.Files.left c.args.files.now in
    let f = c.in_ok-count.ensures.feeds content u.fed u.bytes in
    let piece = f.0 in
    let last = nat_eq c.in_ok-count.count 0 in
    let s = c.feed_piece.new.session in
    let before = output (g.K.Sink.written c.args.out.now) (g.K.Sink.handed c.args.out.now) in
    let mid = output (g.K.Sink.written c.pieces.out) (g.K.Sink.handed c.pieces.out) in
    let t = told_fed from u.fed piece last before mid c.pieces.session.reader s.reader c.pieces.session.progress s.progress u.told (f.4 from u.told.receipts last u.told.came) in
    let left = g.F.Files.left c.feed_piece.new.files in
    let at_end = λ (e : last ≡ true). f.3 (zero_of c.in_ok-count.count e) in
    let p = err_from_is_err_and c.from_residual-in_err-tell_groups.result c.from_residual-in_err-tell_groups.ensures.1 in
    rw p.1 (cut_ends from content (u.fed ++ piece) left last f.1.bytes at_end before (output (g.K.Sink.written c.tell_groups.new.out) (g.K.Sink.handed c.tell_groups.new.out)) p.0
    (c.in_err-tell_groups.ensures.told from (u.fed ++ piece) before t))

pub returns-in_err-tell_groups-clause-pace : goal.returns-in_err-tell_groups-clause-pace
returns-in_err-tell_groups-clause-pace g c = λ from h.
    let u = c.pieces.invariant.underway from h in
    let content = g.F.Files.left c.args.files.now in
    let within : length u.fed ≤ file_limit = omega (arith, u.size_is, u.short) in
    let f = c.in_ok-count.ensures.feeds content u.fed u.bytes in
    let piece = f.0 in
    let last = nat_eq c.in_ok-count.count 0 in
    let s = c.feed_piece.new.session in
    let before = output (g.K.Sink.written c.args.out.now) (g.K.Sink.handed c.args.out.now) in
    let mid = output (g.K.Sink.written c.pieces.out) (g.K.Sink.handed c.pieces.out) in
    let t = told_fed from u.fed piece last before mid c.pieces.session.reader s.reader c.pieces.session.progress s.progress u.told (f.4 from u.told.receipts last u.told.came) in
    let p = err_from_is_err_and c.from_residual-in_err-tell_groups.result c.from_residual-in_err-tell_groups.ensures.1 in
    rw (p.1, p.2) (one_behind from u.fed before mid c.pieces.session.reader c.pieces.session.progress u.told u.all within content
    (g.F.Files.left c.feed_piece.new.files) (output (g.K.Sink.written c.tell_groups.new.out) (g.K.Sink.handed c.tell_groups.new.out)) piece _ f.1.bytes f.1.short c.tell_groups.ensures.grows
    (no_three_err c.in_err-tell_groups.field-0.0 (λ e. c.in_err-tell_groups.ensures.no_read (ap Err e))))

pub pieces-preserved : goal.pieces-preserved
pieces-preserved g c = record {
  reads = omega (arith, c.pieces.invariant.reads, c.in_ok-count.ensures.cause.later);
  writes = omega (arith, c.pieces.invariant.writes, c.in_ok-tell_groups.ensures.cause.later);
  same = same_again _ _ _ _ _ _ c.pieces.invariant.same c.in_ok-count.ensures.same;
  short =
      let from = c.requires.0 in
      let h = c.requires.1 in
      let u = c.pieces.invariant.underway from h in
      let content = g.F.Files.left c.args.files.now in
      let f = c.in_ok-count.ensures.feeds content u.fed u.bytes in
      let piece = f.0 in
      let last = nat_eq c.in_ok-count.count 0 in
      let s = c.feed_piece.new.session in
      let before = output (g.K.Sink.written c.args.out.now) (g.K.Sink.handed c.args.out.now) in
      let mid = output (g.K.Sink.written c.pieces.out) (g.K.Sink.handed c.pieces.out) in
      let t = told_fed from u.fed piece last before mid c.pieces.session.reader s.reader c.pieces.session.progress s.progress u.told (f.4 from u.told.receipts last u.told.came) in
      let now = output (g.K.Sink.written c.tell_groups.new.out) (g.K.Sink.handed c.tell_groups.new.out) in
      let after = c.tell_groups.new.session in
      let x = subst (λ (y : Pause). Pauses from (u.fed ++ piece) last before now after.reader after.progress (Ok y)) c.in-More.is (c.in_ok-tell_groups.ensures.told from (u.fed ++ piece) before t) in
      let size : c.pieces.size + c.in_ok-count.count ≡ length (u.fed ++ piece) = omega (arith, u.size_is, length-append u.fed piece, f.2) in
      omega (arith, size, x.2);
  underway = λ from h.
      let u = c.pieces.invariant.underway from h in
      let content = g.F.Files.left c.args.files.now in
      let f = c.in_ok-count.ensures.feeds content u.fed u.bytes in
      let piece = f.0 in
      let last = nat_eq c.in_ok-count.count 0 in
      let s = c.feed_piece.new.session in
      let before = output (g.K.Sink.written c.args.out.now) (g.K.Sink.handed c.args.out.now) in
      let mid = output (g.K.Sink.written c.pieces.out) (g.K.Sink.handed c.pieces.out) in
      let t = told_fed from u.fed piece last before mid c.pieces.session.reader s.reader c.pieces.session.progress s.progress u.told (f.4 from u.told.receipts last u.told.came) in
      let now = output (g.K.Sink.written c.tell_groups.new.out) (g.K.Sink.handed c.tell_groups.new.out) in
      let after = c.tell_groups.new.session in
      let x = subst (λ (y : Pause). Pauses from (u.fed ++ piece) last before now after.reader after.progress (Ok y)) c.in-More.is (c.in_ok-tell_groups.ensures.told from (u.fed ++ piece) before t) in
      let size : c.pieces.size + c.in_ok-count.count ≡ length (u.fed ++ piece) = omega (arith, u.size_is, length-append u.fed piece, f.2) in
      record { fed = u.fed ++ piece; bytes = f.1.bytes; size_is = size; short = omega (arith, size, x.2); told = x.1; all = x.3 };
}

pub pieces-smaller : goal.pieces-smaller
pieces-smaller g c =
    let from = c.requires.0 in
    let h = c.requires.1 in
    let u = c.pieces.invariant.underway from h in
    let content = g.F.Files.left c.args.files.now in
    let f = c.in_ok-count.ensures.feeds content u.fed u.bytes in
    let piece = f.0 in
    let last = nat_eq c.in_ok-count.count 0 in
    let s = c.feed_piece.new.session in
    let before = output (g.K.Sink.written c.args.out.now) (g.K.Sink.handed c.args.out.now) in
    let mid = output (g.K.Sink.written c.pieces.out) (g.K.Sink.handed c.pieces.out) in
    let t = told_fed from u.fed piece last before mid c.pieces.session.reader s.reader c.pieces.session.progress s.progress u.told (f.4 from u.told.receipts last u.told.came) in
    let now = output (g.K.Sink.written c.tell_groups.new.out) (g.K.Sink.handed c.tell_groups.new.out) in
    let after = c.tell_groups.new.session in
    let x = subst (λ (y : Pause). Pauses from (u.fed ++ piece) last before now after.reader after.progress (Ok y)) c.in-More.is (c.in_ok-tell_groups.ensures.told from (u.fed ++ piece) before t) in
    let size : c.pieces.size + c.in_ok-count.count ≡ length (u.fed ++ piece) = omega (arith, u.size_is, length-append u.fed piece, f.2) in
    omega (arith, size, x.2, some_of c.in_ok-count.count x.0)

pub end-requires : goal.end-requires
end-requires g c =
    let from = c.requires.0 in
    let h = c.requires.1 in
    let u = c.pieces.invariant.underway from h in
    let content = g.F.Files.left c.args.files.now in
    let f = c.in_ok-count.ensures.feeds content u.fed u.bytes in
    let piece = f.0 in
    let last = nat_eq c.in_ok-count.count 0 in
    let s = c.feed_piece.new.session in
    let before = output (g.K.Sink.written c.args.out.now) (g.K.Sink.handed c.args.out.now) in
    let mid = output (g.K.Sink.written c.pieces.out) (g.K.Sink.handed c.pieces.out) in
    let t = told_fed from u.fed piece last before mid c.pieces.session.reader s.reader c.pieces.session.progress s.progress u.told (f.4 from u.told.receipts last u.told.came) in
    let now = output (g.K.Sink.written c.tell_groups.new.out) (g.K.Sink.handed c.tell_groups.new.out) in
    let after = c.tell_groups.new.session in
    let x = subst (λ (y : Pause). Pauses from (u.fed ++ piece) last before now after.reader after.progress (Ok y)) c.in-End.is (c.in_ok-tell_groups.ensures.told from (u.fed ++ piece) before t) in
    (x.0.came.plain, x.0.came.stands.follows)

pub returns-in-End-clause-ends : goal.returns-in-End-clause-ends
returns-in-End-clause-ends g c = λ from h.
    let u = c.pieces.invariant.underway from h in
    let content = g.F.Files.left c.args.files.now in
    let f = c.in_ok-count.ensures.feeds content u.fed u.bytes in
    let piece = f.0 in
    let last = nat_eq c.in_ok-count.count 0 in
    let s = c.feed_piece.new.session in
    let before = output (g.K.Sink.written c.args.out.now) (g.K.Sink.handed c.args.out.now) in
    let mid = output (g.K.Sink.written c.pieces.out) (g.K.Sink.handed c.pieces.out) in
    let t = told_fed from u.fed piece last before mid c.pieces.session.reader s.reader c.pieces.session.progress s.progress u.told (f.4 from u.told.receipts last u.told.came) in
    let left = g.F.Files.left c.feed_piece.new.files in
    let at_end = λ (e : last ≡ true). f.3 (zero_of c.in_ok-count.count e) in
    let now = output (g.K.Sink.written c.tell_groups.new.out) (g.K.Sink.handed c.tell_groups.new.out) in
    let after = c.tell_groups.new.session in
    let x = subst (λ (y : Pause). Pauses from (u.fed ++ piece) last before now after.reader after.progress (Ok y)) c.in-End.is (c.in_ok-tell_groups.ensures.told from (u.fed ++ piece) before t) in
    let size : c.pieces.size + c.in_ok-count.count ≡ length (u.fed ++ piece) = omega (arith, u.size_is, length-append u.fed piece, f.2) in
    ended_ends from content (u.fed ++ piece) left last f.1.bytes at_end before now (output (g.K.Sink.written c.end.new.out) (g.K.Sink.handed c.end.new.out)) after.reader after.progress
    (c.pieces.size + c.in_ok-count.count) c.end.result x.1 size x.0 x.2 (c.end.ensures.closes x.0.came.plain x.0.came.stands.follows)

pub returns-in-End-clause-end : goal.returns-in-End-clause-end
returns-in-End-clause-end g c =
    let from = c.requires.0 in
    let h = c.requires.1 in
    let u = c.pieces.invariant.underway from h in
    let content = g.F.Files.left c.args.files.now in
    let f = c.in_ok-count.ensures.feeds content u.fed u.bytes in
    let piece = f.0 in
    let last = nat_eq c.in_ok-count.count 0 in
    let s = c.feed_piece.new.session in
    let before = output (g.K.Sink.written c.args.out.now) (g.K.Sink.handed c.args.out.now) in
    let mid = output (g.K.Sink.written c.pieces.out) (g.K.Sink.handed c.pieces.out) in
    let t = told_fed from u.fed piece last before mid c.pieces.session.reader s.reader c.pieces.session.progress s.progress u.told (f.4 from u.told.receipts last u.told.came) in
    let left = g.F.Files.left c.feed_piece.new.files in
    let at_end = λ (e : last ≡ true). f.3 (zero_of c.in_ok-count.count e) in
    let now = output (g.K.Sink.written c.tell_groups.new.out) (g.K.Sink.handed c.tell_groups.new.out) in
    let after = c.tell_groups.new.session in
    let x = subst (λ (y : Pause). Pauses from (u.fed ++ piece) last before now after.reader after.progress (Ok y)) c.in-End.is (c.in_ok-tell_groups.ensures.told from (u.fed ++ piece) before t) in
    whatever _ c.end.result (at_end x.1)

pub returns-in-End-clause-pace : goal.returns-in-End-clause-pace
returns-in-End-clause-pace g c = λ from h.
    let u = c.pieces.invariant.underway from h in
    let content = g.F.Files.left c.args.files.now in
    let within : length u.fed ≤ file_limit = omega (arith, u.size_is, u.short) in
    let f = c.in_ok-count.ensures.feeds content u.fed u.bytes in
    let piece = f.0 in
    let last = nat_eq c.in_ok-count.count 0 in
    let s = c.feed_piece.new.session in
    let before = output (g.K.Sink.written c.args.out.now) (g.K.Sink.handed c.args.out.now) in
    let mid = output (g.K.Sink.written c.pieces.out) (g.K.Sink.handed c.pieces.out) in
    let t = told_fed from u.fed piece last before mid c.pieces.session.reader s.reader c.pieces.session.progress s.progress u.told (f.4 from u.told.receipts last u.told.came) in
    let left = g.F.Files.left c.feed_piece.new.files in
    let at_end = λ (e : last ≡ true). f.3 (zero_of c.in_ok-count.count e) in
    let now = output (g.K.Sink.written c.tell_groups.new.out) (g.K.Sink.handed c.tell_groups.new.out) in
    let after = c.tell_groups.new.session in
    let x = subst (λ (y : Pause). Pauses from (u.fed ++ piece) last before now after.reader after.progress (Ok y)) c.in-End.is (c.in_ok-tell_groups.ensures.told from (u.fed ++ piece) before t) in
    let ending = ending_of (c.pieces.size + c.in_ok-count.count) x.0.came.plain in
    let closes = c.end.ensures.closes x.0.came.plain x.0.came.stands.follows in
    one_behind from u.fed before mid c.pieces.session.reader c.pieces.session.progress u.told u.all within content left
    (output (g.K.Sink.written c.end.new.out) (g.K.Sink.handed c.end.new.out)) piece _ f.1.bytes f.1.short (grows_trans _ _ _ c.tell_groups.ensures.grows (grows_closed _ _ ending c.end.result closes))
    (no_three _ _ ending c.end.result closes c.end.ensures.no_read)

pub returns-in-Refused-clause-ends : goal.returns-in-Refused-clause-ends
returns-in-Refused-clause-ends g c = λ from h.
    let u = c.pieces.invariant.underway from h in
    let content = g.F.Files.left c.args.files.now in
    let f = c.in_ok-count.ensures.feeds content u.fed u.bytes in
    let piece = f.0 in
    let last = nat_eq c.in_ok-count.count 0 in
    let s = c.feed_piece.new.session in
    let before = output (g.K.Sink.written c.args.out.now) (g.K.Sink.handed c.args.out.now) in
    let mid = output (g.K.Sink.written c.pieces.out) (g.K.Sink.handed c.pieces.out) in
    let t = told_fed from u.fed piece last before mid c.pieces.session.reader s.reader c.pieces.session.progress s.progress u.told (f.4 from u.told.receipts last u.told.came) in
    let left = g.F.Files.left c.feed_piece.new.files in
    let at_end = λ (e : last ≡ true). f.3 (zero_of c.in_ok-count.count e) in
    let now = output (g.K.Sink.written c.tell_groups.new.out) (g.K.Sink.handed c.tell_groups.new.out) in
    let after = c.tell_groups.new.session in
    let x = subst (λ (y : Pause). Pauses from (u.fed ++ piece) last before now after.reader after.progress (Ok y)) c.in-Refused.is (c.in_ok-tell_groups.ensures.told from (u.fed ++ piece) before t) in
    refused_ends from content (u.fed ++ piece) left last f.1.bytes at_end before now (output (g.K.Sink.written c.refuse.new.out) (g.K.Sink.handed c.refuse.new.out)) x.0
    (file_fault_seen c.in-Refused.fault) c.in-Refused.at c.refuse.result x.1 x.2 c.refuse.ensures.closes

pub returns-in-Refused-clause-pace : goal.returns-in-Refused-clause-pace
returns-in-Refused-clause-pace g c = λ from h.
    let u = c.pieces.invariant.underway from h in
    let content = g.F.Files.left c.args.files.now in
    let within : length u.fed ≤ file_limit = omega (arith, u.size_is, u.short) in
    let f = c.in_ok-count.ensures.feeds content u.fed u.bytes in
    let piece = f.0 in
    let last = nat_eq c.in_ok-count.count 0 in
    let s = c.feed_piece.new.session in
    let before = output (g.K.Sink.written c.args.out.now) (g.K.Sink.handed c.args.out.now) in
    let mid = output (g.K.Sink.written c.pieces.out) (g.K.Sink.handed c.pieces.out) in
    let t = told_fed from u.fed piece last before mid c.pieces.session.reader s.reader c.pieces.session.progress s.progress u.told (f.4 from u.told.receipts last u.told.came) in
    let left = g.F.Files.left c.feed_piece.new.files in
    let at_end = λ (e : last ≡ true). f.3 (zero_of c.in_ok-count.count e) in
    let ending = RefusedAt (file_fault_seen c.in-Refused.fault) c.in-Refused.at in
    one_behind from u.fed before mid c.pieces.session.reader c.pieces.session.progress u.told u.all within content left
    (output (g.K.Sink.written c.refuse.new.out) (g.K.Sink.handed c.refuse.new.out)) piece _ f.1.bytes f.1.short
    (grows_trans _ _ _ c.tell_groups.ensures.grows (grows_closed _ _ ending c.refuse.result c.refuse.ensures.closes))
    (no_three _ _ ending c.refuse.result c.refuse.ensures.closes c.refuse.ensures.no_read)
