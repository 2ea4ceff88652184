use Rattle.std.proofs.Common.{◌≡◌, false, ap, ◌∙◌}
use Rattle.mich_text.specs.pieces.Held.{Held}
use Rattle.mich_text.proofs.pieces_lemmas.Holding.{fed_sound}
use Rattle.mich_text.proofs.pieces.reader.Reader.feed.Goals as goal

pub invariant_of-self-2 : goal.invariant_of-self-2
invariant_of-self-2 c =
    let r = c.self.inside in
    let begun : r.ended ≡ false = ap (λ (x : Held). x.ended) (c.self.view_is ∙ c.compact.ensures) ∙ c.requires in
    fed_sound r.place r.taken r.buffer.items c.args.bytes.now c.extend_from_slice.new.self.items r.ended r.fault r.scan r.hopeless c.self.invariant.0 c.in_ok-extend_from_slice.ensures.items begun c.self.invariant.1
