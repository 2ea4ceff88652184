use Rattle.std.proofs.Common.{rules, ◌+◌, ◌<◌, ◌^◌}
use Rattle.mich_base.specs.TypeView.{kind}
use Rattle.mich_base.specs.View.{tree}
use Rattle.mich_check.proofs.PushTyping.{fault_before, reach_within, largest_within}
use Rattle.mich_cert.proofs.telling_lemmas.ToldPushes.{read_sequences}
use Rattle.mich_cert.proofs.telling.literals.pending_of.Goals as goal

pub overflow_add-result : goal.overflow_add-result
overflow_add-result c =
    let h : c.args.at + c.in-Err-NotOfType.location < 2 ^ 32 =
    fault_before _ _ _ _ _ c.requires (rw c.in-Err-NotOfType.field-0-is at c.in-Err-NotOfType.ensures.literal) in
    search (rules, h)

pub returns-in-Ok-clause-read : goal.returns-in-Ok-clause-read
returns-in-Ok-clause-read c = (_, c.in-Ok.ensures.literal)

pub returns-in-Ok-clause-sequences : goal.returns-in-Ok-clause-sequences
returns-in-Ok-clause-sequences c = read_sequences (kind c.args.ty.now) c.args.place (tree c.args.node.now) _ _ c.in-Ok.ensures.literal

pub returns-in-Ok-clause-reach : goal.returns-in-Ok-clause-reach
returns-in-Ok-clause-reach c = reach_within _ _ _ _ _ c.in-Ok.ensures.literal

pub returns-in-Ok-clause-largest : goal.returns-in-Ok-clause-largest
returns-in-Ok-clause-largest c = largest_within _ _ _ _ _ c.in-Ok.ensures.literal
