use Rattle.std.proofs.Common.{◌-◌, length, take, Err, sym, subst}
use Rattle.mich_text.specs.Results.{IsLimitedRead}
use Rattle.mich_text.specs.declared.fault.LexError.{LexError}
use Rattle.mich_text.proofs.limits.Limits.{long_end}
use Rattle.mich_text.proofs.reader.statement_up_to.Goals as goal

pub returns-in-Ok-None : goal.returns-in-Ok-None
returns-in-Ok-None c = λ before text u.
    let e = rw c.in-Ok-None.field-0-is at c.in-Ok-None.ensures.read in
    let front = take (length c.args.text.now - c.args.behind) c.args.text.now in
    subst (λ (x : LexError). IsLimitedRead before text (Err x)) (sym c.too_long.ensures)
    (long_end before text front c.args.behind c.args.ends_file u e)

pub returns-in-Ok-Some : goal.returns-in-Ok-Some
returns-in-Ok-Some c = λ before text u.
    let e = rw c.in-Ok-Some.field-0-is at c.in-Ok-Some.ensures.read in
    let said = rw c.in-Ok-Some.field-0-is at c.statement_of.ensures in
    said (take (length c.args.text.now - c.args.behind) c.args.text.now) e before text u

pub returns-in-Err-Flaw : goal.returns-in-Err-Flaw
returns-in-Err-Flaw c = λ before text u.
    let e = rw c.in-Err-Flaw.field-0-is at c.in-Err-Flaw.ensures.read in
    c.fault_of.ensures e c.args.ends_file before text u
