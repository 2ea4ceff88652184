use Rattle.mich_text.proofs.pieces_lemmas.Pieces.{pieces_tell}
use Rattle.mich_text.proofs.pieces.laws.pieces_are_read_as_the_file.Goals as goal

pub returns : goal.returns
returns c = pieces_tell
