use Rattle.std.specs.Char.{is_ascii_digit}
use Rattle.mich_text.proofs.tokens.ByteRuns.{front_passes}
use Rattle.mich_text.proofs.lexical.digits_of.Goals as goal

pub returns-clause-all : goal.returns-clause-all
returns-clause-all c = front_passes is_ascii_digit c.args.text.now _ c.digit_len.result c.split_at.ensures.front c.digit_len.ensures.is
