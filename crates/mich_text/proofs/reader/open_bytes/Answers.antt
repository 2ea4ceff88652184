use Rattle.std.proofs.Common.{◌≡◌, ℕ, List, Err, sym, subst, ◌∙◌}
use Rattle.mich_text.specs.Results.{IsLimitedRead}
use Rattle.mich_text.specs.declared.fault.LexError.{LexError}
use Rattle.mich_text.proofs.limits.Limits.{open_tells}
use Rattle.mich_text.proofs.reader.open_bytes.Goals as goal
use Rattle.mich_text.proofs.reader.open_bytes.Goals.{in-Ok, in-Err-Memory, in-Err-Flaw+then-flaw-left, in-Err-Flaw+else-flaw-left}

said : (before : ℕ) (text : List ℕ) (r e : LexError) → r ≡ e → IsLimitedRead before text (Err e) → IsLimitedRead before text (Err r)
said before text r e h p = subst (λ (x : LexError). IsLimitedRead before text (Err x)) (sym h) p

pub returns : goal.returns
returns c = λ p o ends_file before text u.
    let tells = open_tells before text c.args.front.now c.args.behind ends_file u c.args.left c.requires.long c.requires.within p o in
    elim c.match-statement_within.branch [
      | in-Ok w ↦ said before text _ _ (w.result-is ∙ w.too_long.ensures) (tells.2 w.in-Ok.field-0 w.in-Ok.ensures.read)
      | in-Err-Memory w ↦ said before text _ _ w.result-is tt
      | in-Err-Flaw+then-flaw-left w ↦
          let e = rw w.in-Err-Flaw.field-0-is at w.in-Err-Flaw.ensures.read in
          said before text _ _ w.result-is (tells.0 w.in-Err-Flaw.flaw.kind w.in-Err-Flaw.flaw.left e w.if-flaw-left.true)
      | in-Err-Flaw+else-flaw-left w ↦
          let e = rw w.in-Err-Flaw.field-0-is at w.in-Err-Flaw.ensures.read in
          said before text _ _ (w.result-is ∙ w.too_long-else-flaw-left.ensures)
          (tells.1 w.in-Err-Flaw.flaw.kind w.in-Err-Flaw.flaw.left e w.if-flaw-left.false)
    ]
