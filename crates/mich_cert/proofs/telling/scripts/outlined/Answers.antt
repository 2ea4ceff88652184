use Rattle.std.proofs.Common.{rules, ◌+◌, ◌<◌, ◌^◌, ◌∙◌, sym}
use Rattle.mich_base.specs.View.{tree}
use Rattle.mich_cert.proofs.telling_lemmas.OutlineFaults.{fault_fits}
use Rattle.mich_cert.proofs.telling_lemmas.ToldScripts.{outline_zero}
use Rattle.mich_cert.proofs.telling.scripts.outlined.Goals as goal

pub overflow_add-result : goal.overflow_add-result
overflow_add-result c =
    let h : c.args.at + c.in-Err-Fault.location < 2 ^ 32 =
    fault_fits c.args.at c.in-Err-Fault.location (tree c.args.node.now) c.requires
    (sym (outline_zero (tree c.args.node.now)) ∙ rw c.in-Err-Fault.field-0-is at c.in-Err-Fault.ensures) in
    search (rules, h)
