use Rattle.std.proofs.Common.{ℕ, List, ◌∷◌, [], length, get_or, ap, ◌∙◌, subst, arith}
use Rattle.std.proofs.lemmas.Result.{err_from_is_err_and}
use Rattle.mich_replay.specs.Output.{Writes, WritesFront, output}
use Rattle.mich_replay.proofs.Written.{lines_cut, lines_grow, writes_nothing}
use Rattle.mich_replay.proofs.writing.write_lines.Goals as goal

pub lines-init : goal.lines-init
lines-init g c = record { later = omega arith; written = writes_nothing _ }

pub lines-preserved : goal.lines-preserved
lines-preserved g c = record {
  later = omega (arith, c.lines.invariant.later, c.in_ok-write_line.ensures.cause.later);
  written = lines_grow _ _ _ c.args.lines.now c.lines.line-index c.line-item.result (omega (arith, ap (λ (ls : List (List ℕ)). length ls) c.as_slice-line-items.ensures))
      (c.line-item.is ∙ ap (λ (ls : List (List ℕ)). get_or ls c.lines.line-index c.line-item.result) c.as_slice-line-items.ensures) c.lines.invariant.written
      (subst (λ (bs : List ℕ). Writes (output (g.K.Sink.written c.lines.out) (g.K.Sink.handed c.lines.out)) (output (g.K.Sink.written c.write_line.new.out) (g.K.Sink.handed c.write_line.new.out)) (bs ∷ [])) c.as_slice.ensures c.in_ok-write_line.ensures.ok);
}

pub returns-in_err-write_line-clause-err : goal.returns-in_err-write_line-clause-err
returns-in_err-write_line-clause-err g c =
    let p = err_from_is_err_and c.from_residual.result c.from_residual.ensures.1 in
    rw p.1 (lines_cut _ _ _ c.args.lines.now c.lines.line-index c.line-item.result (omega (arith, ap (λ (ls : List (List ℕ)). length ls) c.as_slice-line-items.ensures))
    (c.line-item.is ∙ ap (λ (ls : List (List ℕ)). get_or ls c.lines.line-index c.line-item.result) c.as_slice-line-items.ensures) c.lines.invariant.written
    (subst (λ (bs : List ℕ). WritesFront (output (g.K.Sink.written c.lines.out) (g.K.Sink.handed c.lines.out)) (output (g.K.Sink.written c.write_line.new.out) (g.K.Sink.handed c.write_line.new.out)) (bs ∷ [])) c.as_slice.ensures c.in_err-write_line.ensures.err))
