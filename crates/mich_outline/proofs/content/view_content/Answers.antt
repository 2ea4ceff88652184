use Rattle.std.proofs.Common.{rules, ◌≡◌, true, sym, ◌∙◌}
use Rattle.rules_text.specs.nodes.Tree.{str}
use Rattle.mich_base.specs.View.{tree}
use Rattle.mich_outline.specs.Counted.{is_sequence}
use Rattle.mich_outline.proofs.SectionArguments.{tree_str, view_whole}
use Rattle.mich_outline.proofs.content.view_content.Goals as goal

pub returns : goal.returns
returns c =
    let shown : tree c.in_ok-first.first.now ≡ str c.in-Str.name = tree_str c.in_ok-first.first.now c.in-Str.name c.in-Str.is in
    let code : is_sequence (tree c.in_ok-first.body.now) ≡ true = search rules in
    λ t. c.named_content.ensures ∙ sym (view_whole c.args.args.now c.in_ok-first.first.now c.in_ok-first.input.now c.in_ok-first.output.now c.in_ok-first.body.now c.in-Str.name c.args.at t c.in_ok-first.ensures shown code)
