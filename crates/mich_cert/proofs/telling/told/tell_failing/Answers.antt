use Rattle.std.proofs.Common.{refl, sym, subst}
use Rattle.mich_cert.specs.telling.Told.{IsLine}
use Rattle.mich_cert.proofs.telling_lemmas.Lines.{failing_told}
use Rattle.mich_cert.proofs.telling.told.tell_failing.Goals as goal

pub returns : goal.returns
returns c =
    failing_told c.args.at c.args.told.now record { line = c.in_ok-told.field-0; deep = c.args.told.now.deep }
    (λ ds g. c.in_ok-told.ensures ds (subst (IsLine ds) (sym c.take.ensures.value) g)) refl
