use Rattle.std.proofs.Common.{ℕ, List, subst}
use Rattle.std.specs.Prelude.{MatchBool}
use Rattle.mich_text.specs.pieces.Held.{Held}
use Rattle.mich_text.specs.pieces.Sound.{IsPast, IsShort}
use Rattle.mich_text.proofs.pieces_lemmas.Holding.{held_is}
use Rattle.mich_text.proofs.pieces.reader.Reader.is_past.Goals as goal

pub returns : goal.returns
returns c =
    subst (λ (r : Held). MatchBool c.is_past.result (IsPast r.place r.bytes) (IsShort r.place r.bytes)) c.self.view_is
    (subst (λ (l : List ℕ). MatchBool c.is_past.result (IsPast c.self.inside.place l) (IsShort c.self.inside.place l)) (held_is c.as_slice.result.now c.self.inside.buffer.items c.self.inside.taken c.as_slice.ensures.value) c.is_past.ensures)
