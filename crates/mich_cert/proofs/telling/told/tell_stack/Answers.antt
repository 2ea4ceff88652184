use Rattle.std.proofs.Common.{sym, subst}
use Rattle.mich_overload.specs.View.{kinds}
use Rattle.mich_cert.specs.telling.Told.{IsLine}
use Rattle.mich_cert.proofs.telling_lemmas.Lines.{stack_told}
use Rattle.mich_cert.proofs.telling.told.tell_stack.Goals as goal

pub returns : goal.returns
returns c =
    stack_told c.args.word c.args.at (kinds c.args.types.now) c.args.told.now record { line = c.in_ok-told.field-0; deep = c.deep_behind-told.result }
    (λ ds g. c.in_ok-told.ensures ds (subst (IsLine ds) (sym c.take.ensures.value) g)) c.deep_behind-told.ensures
