use Rattle.std.proofs.Common.{[], ◌∷◌, ap, sym, ◌∙◌, subst}
use Rattle.mich_base.specs.View.{tree}
use Rattle.mich_instr.specs.Body.{IsHeld, body_of}
use Rattle.mich_instr.specs.View.{code}
use Rattle.mich_instr.proofs.Held.{code_lambda}
use Rattle.mich_instr.proofs.body.held_body.Goals as goal

pub typed-requires : goal.typed-requires
typed-requires c =
    let l = c.in-Lambda in
    let fine = subst IsHeld (ap code l.is ∙ code_lambda l.recursive l.arg l.ret l.written l.body l.code) c.requires in
    rw (c.in_ok-arg.ensures, c.in_ok-ret.ensures, c.in_ok-node.ensures, c.in_ok-code.ensures) fine

pub returns : goal.returns
returns c =
    let l = c.in-Lambda in
    ap (λ n. tree n ∷ []) (c.in_ok-held.ensures ∙ c.in_ok-node.ensures)
    ∙ sym (ap body_of (ap code l.is ∙ code_lambda l.recursive l.arg l.ret l.written l.body l.code))
