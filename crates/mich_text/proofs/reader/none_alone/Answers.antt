use Rattle.std.proofs.Common.{Err, subst}
use Rattle.mich_text.specs.Results.{IsRead}
use Rattle.mich_text.specs.declared.fault.LexError.{LexError}
use Rattle.mich_text.proofs.limits.Alone.{fault_none}
use Rattle.mich_text.proofs.reader.none_alone.Goals as goal

pub returns-in-Flaw : goal.returns-in-Flaw
returns-in-Flaw c = λ text none read t. fault_none text none t _ _ (subst (λ (e : LexError). IsRead text (Err e)) c.in-Flaw.is read)
