use Rattle.mich_text.proofs.pieces_lemmas.Files.{file_decides}
use Rattle.mich_text.proofs.pieces.laws.a_file_is_decided_by_its_front.Goals as goal

pub returns : goal.returns
returns c = file_decides
