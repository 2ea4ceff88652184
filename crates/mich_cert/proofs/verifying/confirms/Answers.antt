use Rattle.std.proofs.Common.{ap, ◌∙◌, arith}
use Rattle.mich_base.specs.View.{tree}
use Rattle.mich_outline.specs.View.{outline_of}
use Rattle.mich_cert.specs.Entries.{all_entries}
use Rattle.mich_cert.specs.Scripts.{is_whole, confirms}
use Rattle.mich_cert.proofs.Outlines.{outline_within}
use Rattle.mich_cert.proofs.verifying.confirms.Goals as goal

pub returns-in_default : goal.returns-in_default
returns-in_default c = ap (λ o. confirms o (all_entries c.args.entries.now)) (rw c.in_default.is at c.in_ok-outline.ensures)

pub script-requires : goal.script-requires
script-requires c =
    let f = rw c.in-Some.is at c.in_ok-outline.ensures in
    let w = outline_within (tree c.args.node.now) (outline_of c.in-Some.outline) f in
    let r = w.reach in
    omega (arith, r, c.requires)

pub returns : goal.returns
returns c =
    let f = rw c.in-Some.is at c.in_ok-outline.ensures in
    c.is_whole.ensures ∙ ap is_whole c.in_ok-script.ensures ∙ ap (λ o. confirms o (all_entries c.args.entries.now)) f
