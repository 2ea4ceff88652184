use Rattle.std.proofs.Common.{sym, subst}
use Rattle.mich_text.specs.pieces.Held.{Held}
use Rattle.mich_text.specs.pieces.Reading.{HasFault}
use Rattle.mich_text.proofs.pieces.reader.Reader.fail.Goals as goal

pub invariant_of-self : goal.invariant_of-self
invariant_of-self c =
    let s = c.self.invariant.1 in
    (c.self.invariant.0, record { place = s.place; scanned = s.scanned; never = s.never; fault = subst (λ (r : Held). HasFault r c.args.kind c.args.place) (sym c.self.view_is) c.requires })
