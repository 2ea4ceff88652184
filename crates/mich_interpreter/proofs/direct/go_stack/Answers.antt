use Rattle.std.proofs.Common.{sym, ap, ◌∙◌, subst}
use Rattle.rules_code.specs.instructions.Straight.{Straight, on_stack}
use Rattle.mich_instr.specs.Code as made
use Rattle.mich_overload.specs.View.{stack_row}
use Rattle.mich_interpreter.specs.Went.{ComesSo, HasGone}
use Rattle.mich_interpreter.proofs.direct.go_stack.Goals as goal

pub go_dup-requires : goal.go_dup-requires
go_dup-requires c =
    subst (λ (s : Straight). ComesSo (made.straight s) c.args.costs.now c.args.m.now) (c.requires.is ∙ ap (λ r. on_stack (stack_row r)) c.in-Dup.is) c.requires.comes

pub returns-in-Dup : goal.returns-in-Dup
returns-in-Dup c =
    subst (λ (s : Straight). HasGone (made.straight s) c.args.costs.now c.args.m.now c.go_dup.new.m c.go_dup.result) (sym (c.requires.is ∙ ap (λ r. on_stack (stack_row r)) c.in-Dup.is)) c.go_dup.ensures

pub go_swap-requires : goal.go_swap-requires
go_swap-requires c =
    subst (λ (s : Straight). ComesSo (made.straight s) c.args.costs.now c.args.m.now) (c.requires.is ∙ ap (λ r. on_stack (stack_row r)) c.in-Swap.is) c.requires.comes

pub returns-in-Swap : goal.returns-in-Swap
returns-in-Swap c =
    subst (λ (s : Straight). HasGone (made.straight s) c.args.costs.now c.args.m.now c.go_swap.new.m c.go_swap.result) (sym (c.requires.is ∙ ap (λ r. on_stack (stack_row r)) c.in-Swap.is)) c.go_swap.ensures

pub go_dig-requires : goal.go_dig-requires
go_dig-requires c =
    subst (λ (s : Straight). ComesSo (made.straight s) c.args.costs.now c.args.m.now) (c.requires.is ∙ ap (λ r. on_stack (stack_row r)) c.in-Dig.is) c.requires.comes

pub returns-in-Dig : goal.returns-in-Dig
returns-in-Dig c =
    subst (λ (s : Straight). HasGone (made.straight s) c.args.costs.now c.args.m.now c.go_dig.new.m c.go_dig.result) (sym (c.requires.is ∙ ap (λ r. on_stack (stack_row r)) c.in-Dig.is)) c.go_dig.ensures

pub go_dug-requires : goal.go_dug-requires
go_dug-requires c =
    subst (λ (s : Straight). ComesSo (made.straight s) c.args.costs.now c.args.m.now) (c.requires.is ∙ ap (λ r. on_stack (stack_row r)) c.in-Dug.is) c.requires.comes

pub returns-in-Dug : goal.returns-in-Dug
returns-in-Dug c =
    subst (λ (s : Straight). HasGone (made.straight s) c.args.costs.now c.args.m.now c.go_dug.new.m c.go_dug.result) (sym (c.requires.is ∙ ap (λ r. on_stack (stack_row r)) c.in-Dug.is)) c.go_dug.ensures

pub go_unit-requires : goal.go_unit-requires
go_unit-requires c =
    subst (λ (s : Straight). ComesSo (made.straight s) c.args.costs.now c.args.m.now) (c.requires.is ∙ ap (λ r. on_stack (stack_row r)) c.in-Unit.is) c.requires.comes

pub returns-in-Unit : goal.returns-in-Unit
returns-in-Unit c =
    subst (λ (s : Straight). HasGone (made.straight s) c.args.costs.now c.args.m.now c.go_unit.new.m c.go_unit.result) (sym (c.requires.is ∙ ap (λ r. on_stack (stack_row r)) c.in-Unit.is)) c.go_unit.ensures
