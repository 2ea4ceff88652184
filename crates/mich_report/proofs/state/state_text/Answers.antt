use Rattle.std.proofs.Common.{refl, ap, ◌∙◌, arith}
use Rattle.rules_world.specs.lines.Nodes.{state_nodes}
use Rattle.mich_report.proofs.Rest.{ended, joined, joined_lines}
use Rattle.mich_report.proofs.state.state_text.Goals as goal

pub returns : goal.returns
returns c = λ w r.
    c.in_ok-written.ensures
    ∙ ended joined c.loop-line.text.items _ c.loop-line.line-index c.as_slice-line-items.result.now refl c.loop-line.invariant (omega arith)
    ∙ ap joined (c.as_slice-line-items.ensures ∙ c.in_ok-lines.ensures w r)
    ∙ joined_lines (state_nodes w)
