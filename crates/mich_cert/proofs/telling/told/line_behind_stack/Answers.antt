use Rattle.mich_overload.specs.View.{kinds}
use Rattle.mich_cert.specs.telling.Told.{stack_entry}
use Rattle.mich_cert.proofs.telling_lemmas.Lines.{put_line, no_line, put_stack}
use Rattle.mich_cert.proofs.telling.told.line_behind_stack.Goals as goal

pub returns-in-Some : goal.returns-in-Some
returns-in-Some c =
    put_line (stack_entry c.args.word c.args.at (kinds c.args.types.now)) c.in-Some.line _ c.in-Some.is _ (put_stack c.args.word c.args.at (kinds c.args.types.now) c.in-Some.line _ c.with_stack.ensures)

pub returns-in-None : goal.returns-in-None
returns-in-None c = no_line (stack_entry c.args.word c.args.at (kinds c.args.types.now)) _ c.in-None.is
