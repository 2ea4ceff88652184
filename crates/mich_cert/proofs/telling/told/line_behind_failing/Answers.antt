use Rattle.rules_code.specs.certificates.Derivation.{failing}
use Rattle.mich_cert.proofs.telling_lemmas.Lines.{put_line, no_line}
use Rattle.mich_cert.proofs.telling.told.line_behind_failing.Goals as goal

pub returns-in-Some : goal.returns-in-Some
returns-in-Some c = put_line (failing c.args.at) c.in-Some.line _ c.in-Some.is _ c.with_failing.ensures

pub returns-in-None : goal.returns-in-None
returns-in-None c = no_line (failing c.args.at) _ c.in-None.is
