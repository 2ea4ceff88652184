use Rattle.std.proofs.Common.{ℕ, List, subst}
use Rattle.mich_text.specs.Parts.{IsPart}
use Rattle.mich_text.specs.pieces.Held.{Held}
use Rattle.mich_text.proofs.pieces_lemmas.Holding.{held_is}
use Rattle.mich_text.proofs.pieces.reader.Reader.read.Goals as goal

pub returns-clause-part : goal.returns-clause-part
returns-clause-part c =
    subst (λ (r : Held). IsPart r.place r.bytes c.read_part.result) c.self.view_is
    (subst (λ (l : List ℕ). IsPart c.self.inside.place l c.read_part.result) (held_is c.as_slice.result.now c.self.inside.buffer.items c.self.inside.taken c.as_slice.ensures.value) c.read_part.ensures.text)
