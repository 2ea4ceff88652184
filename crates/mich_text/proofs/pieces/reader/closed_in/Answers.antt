use Rattle.std.proofs.Common.{◌≡◌, Bool, true, false, not, take, inl, inr, refl}
use Rattle.mich_text.proofs.ForCallers.{no_node_at_end, no_fault_at_node}
use Rattle.mich_text.proofs.pieces_lemmas.Tried.{untried, never_tried, found_placed, found_never}
use Rattle.mich_text.proofs.pieces.reader.closed_in.Goals as goal
use Rattle.mich_text.proofs.pieces.reader.closed_in.Goals.{then-hopeless-via-then-hopeless, then-hopeless-via-else-hopeless+then-not-scan}

not_true : (b : Bool) → not b ≡ true → b ≡ false
not_true true e = absurd cc
not_true false e = refl

not_false : (b : Bool) → not b ≡ false → b ≡ true
not_false true e = refl
not_false false e = absurd cc

pub returns-then-hopeless : goal.returns-then-hopeless
returns-then-hopeless c = untried c.args.place c.args.held.now c.args.scan c.args.hopeless c.requires.scanned c.requires.done c.requires.hopeless (elim c.then-hopeless.branch [
  | then-hopeless-via-then-hopeless w ↦ inl w.if-hopeless.true
  | then-hopeless-via-else-hopeless+then-not-scan w ↦ inr (not_true c.args.scan.found w.if-not-scan.true)
])

pub returns-in-Ok-Some : goal.returns-in-Ok-Some
returns-in-Ok-Some c =
    let e = rw c.in-Ok-Some.field-0-is at c.in-Ok-Some.ensures.text in
    found_placed c.args.place c.args.held.now c.args.scan c.requires.scanned (not_false c.args.scan.found c.if-not-scan.false) c.in-Ok-Some.placed e

pub returns-in-Ok-None : goal.returns-in-Ok-None
returns-in-Ok-None c =
    let e = rw c.in-Ok-None.field-0-is at c.in-Ok-None.ensures.text in
    never_tried c.args.place c.args.held.now c.args.scan.found (found_never c.args.place c.args.held.now c.args.scan c.requires.scanned (not_false c.args.scan.found c.if-not-scan.false)
    (λ t start end n. no_node_at_end c.args.place (take c.args.scan.seen c.args.held.now) t start end e n))

pub returns-in-Err-Fault : goal.returns-in-Err-Fault
returns-in-Err-Fault c =
    let e = rw c.in-Err-Fault.field-0-is at c.in-Err-Fault.ensures.text in
    never_tried c.args.place c.args.held.now c.args.scan.found (found_never c.args.place c.args.held.now c.args.scan c.requires.scanned (not_false c.args.scan.found c.if-not-scan.false)
    (λ t start end n. no_fault_at_node c.args.place (take c.args.scan.seen c.args.held.now) c.in-Err-Fault.field-0-0 e.0 t start end e.1 n))
