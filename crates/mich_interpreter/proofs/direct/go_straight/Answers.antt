use Rattle.std.proofs.Common.{sym, ap, subst}
use Rattle.mich_instr.specs.Code as made
use Rattle.mich_overload.specs.View.{straight}
use Rattle.mich_overload.specs.declared.simple.Simple.{Simple}
use Rattle.mich_interpreter.specs.Went.{ComesSo, HasGone}
use Rattle.mich_interpreter.proofs.direct.go_straight.Goals as goal

pub go_numbers-requires : goal.go_numbers-requires
go_numbers-requires c = subst (λ (s : Simple). ComesSo (made.straight (straight s)) c.args.costs.now c.args.m.now) c.in-Numbers.is c.requires.comes

pub returns-in-Numbers : goal.returns-in-Numbers
returns-in-Numbers c = subst (λ (s : Simple). HasGone (made.straight (straight s)) c.args.costs.now c.args.m.now c.go_numbers.new.m c.go_numbers.result) (sym c.in-Numbers.is) c.go_numbers.ensures

pub go_logic-requires : goal.go_logic-requires
go_logic-requires c = subst (λ (s : Simple). ComesSo (made.straight (straight s)) c.args.costs.now c.args.m.now) c.in-Logic.is c.requires.comes

pub returns-in-Logic : goal.returns-in-Logic
returns-in-Logic c = subst (λ (s : Simple). HasGone (made.straight (straight s)) c.args.costs.now c.args.m.now c.go_logic.new.m c.go_logic.result) (sym c.in-Logic.is) c.go_logic.ensures

pub go_unions-requires : goal.go_unions-requires
go_unions-requires c = subst (λ (s : Simple). ComesSo (made.straight (straight s)) c.args.costs.now c.args.m.now) c.in-Unions.is c.requires.comes

pub returns-in-Unions : goal.returns-in-Unions
returns-in-Unions c = subst (λ (s : Simple). HasGone (made.straight (straight s)) c.args.costs.now c.args.m.now c.go_unions.new.m c.go_unions.result) (sym c.in-Unions.is) c.go_unions.ensures

pub go_stack-requires-clause-is : goal.go_stack-requires-clause-is
go_stack-requires-clause-is c = ap straight c.in-Stack.is

pub go_pairs-requires-clause-is : goal.go_pairs-requires-clause-is
go_pairs-requires-clause-is c = ap straight c.in-Pairs.is
