use Rattle.mich_text.proofs.pieces_lemmas.Bounds.{bounded_after}
use Rattle.mich_text.proofs.pieces.scan.Scan.after.Goals as goal

pub returns-clause-bounded : goal.returns-clause-bounded
returns-clause-bounded c =
    rw (c.mode_after.ensures, c.depth_after.ensures, c.since_after.ensures, c.is_sign.ensures) (bounded_after c.args.self c.args.byte c.requires.bounded)
