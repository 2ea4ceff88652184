use Rattle.std.proofs.Common.{sym, ap, ◌∙◌, subst}
use Rattle.rules_code.specs.instructions.Straight.{Straight, on_pairs}
use Rattle.mich_instr.specs.Code as made
use Rattle.mich_overload.specs.View.{pair_row}
use Rattle.mich_interpreter.specs.Went.{ComesSo, HasGone}
use Rattle.mich_interpreter.proofs.direct.go_pairs.Goals as goal

pub go_pair-requires : goal.go_pair-requires
go_pair-requires c =
    subst (λ (s : Straight). ComesSo (made.straight s) c.args.costs.now c.args.m.now) (c.requires.is ∙ ap (λ r. on_pairs (pair_row r)) c.in-Pair.is) c.requires.comes

pub returns-in-Pair : goal.returns-in-Pair
returns-in-Pair c =
    subst (λ (s : Straight). HasGone (made.straight s) c.args.costs.now c.args.m.now c.go_pair.new.m c.go_pair.result) (sym (c.requires.is ∙ ap (λ r. on_pairs (pair_row r)) c.in-Pair.is)) c.go_pair.ensures

pub go_unpair-requires : goal.go_unpair-requires
go_unpair-requires c =
    subst (λ (s : Straight). ComesSo (made.straight s) c.args.costs.now c.args.m.now) (c.requires.is ∙ ap (λ r. on_pairs (pair_row r)) c.in-Unpair.is) c.requires.comes

pub returns-in-Unpair : goal.returns-in-Unpair
returns-in-Unpair c =
    subst (λ (s : Straight). HasGone (made.straight s) c.args.costs.now c.args.m.now c.go_unpair.new.m c.go_unpair.result) (sym (c.requires.is ∙ ap (λ r. on_pairs (pair_row r)) c.in-Unpair.is)) c.go_unpair.ensures
