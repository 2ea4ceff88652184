use Rattle.std.proofs.Common.{◌≡◌, ℕ, ◌<◌, ◌≤◌, List, length, refl, subst, arith}
use Rattle.mich_text.specs.pieces.Marks.{run_of}
use Rattle.mich_text.proofs.pieces_lemmas.Holding.{held_is}
use Rattle.mich_text.proofs.pieces_lemmas.Runs.{ran}
use Rattle.mich_text.proofs.pieces.scan.Scan.past_run.Goals as goal

pub returns-clause-scanned : goal.returns-clause-scanned
returns-clause-scanned c =
    let s = c.args.self in
    let held = c.args.held.now in
    let rest = held_is held held s.seen refl in
    let some : 0 < s.since = omega (arith, c.if-self-eq0.false) in
    ran held s c.run_len-count.result c.requires.scanned c.requires.found some
    (subst (λ (l : List ℕ). c.run_len-count.result ≡ run_of s.mode l) rest c.run_len-count.ensures.is)
    (subst (λ (l : List ℕ). c.run_len-count.result ≤ length l) rest c.run_len-count.ensures.within)
