use Rattle.std.proofs.Common.{ℕ, ◌-◌, List, length, take, drop, Ok, sym, subst}
use Rattle.mich_text.specs.pieces.Held.{Held}
use Rattle.mich_text.specs.pieces.Scans.{IsScanned}
use Rattle.mich_text.specs.pieces.Sound.{NeverClosed, IsTried}
use Rattle.mich_text.proofs.pieces_lemmas.Holding.{held_is, found_of}
use Rattle.mich_text.proofs.pieces.reader.Reader.closed.Goals as goal

pub closed_in-requires-clause-hopeless : goal.closed_in-requires-clause-hopeless
closed_in-requires-clause-hopeless c = λ h.
    subst (NeverClosed c.self.inside.place) (sym (held_is c.as_slice.result.now c.self.inside.buffer.items c.self.inside.taken c.as_slice.ensures.value)) (c.self.invariant.1.never h)

pub invariant_of-self : goal.invariant_of-self
invariant_of-self c =
    let s = c.self.invariant.1 in
    let same = held_is c.as_slice.result.now c.self.inside.buffer.items c.self.inside.taken c.as_slice.ensures.value in (
      c.self.invariant.0,
      record {
        place = s.place;
        scanned = subst (λ (l : List ℕ). IsScanned l c.look-scan.result) same c.look-scan.ensures.scanned;
        never = λ h. subst (NeverClosed c.self.inside.place) same (c.is_hopeless-self-inside.ensures c.self.inside.place (take (length c.as_slice.result.now - c.self.inside.taken) (drop c.self.inside.taken c.as_slice.result.now)) c.in_ok-closed.ensures h);
        fault = s.fault;
      },
    )

pub returns-clause-found : goal.returns-clause-found
returns-clause-found c =
    let same = held_is c.as_slice.result.now c.self.inside.buffer.items c.self.inside.taken c.as_slice.ensures.value in
    found_of c.args.self.now c.look-scan.result.found c.in_ok-closed.closed
    (subst (λ (r : Held). IsTried r.place r.bytes c.look-scan.result.found (Ok c.in_ok-closed.closed)) c.self.view_is
    (subst (λ (l : List ℕ). IsTried c.self.inside.place l c.look-scan.result.found (Ok c.in_ok-closed.closed)) same c.in_ok-closed.ensures))
