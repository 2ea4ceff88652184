use Rattle.std.proofs.Common.{◌∙◌, ap, refl, sym, true, false}
use Rattle.std.specs.List.{list_all}
use Rattle.rules_audit.specs.Verdicts.{all_mutez, all_parts, has_line}
use Rattle.mich_audit.proofs.Reversed.{verdict_from}
use Rattle.mich_audit.proofs.Taken.{judged}
use Rattle.mich_audit.proofs.tally.Tally.verdict.Goals as goal

pub returns-then-not-equals : goal.returns-then-not-equals
returns-then-not-equals c = λ before it.
    judged before c.args.self.now it c.if-self-ne7.false false (list_all (has_line before) (all_parts before)) (sym c.if-not-equals.true ∙ c.equals.ensures (all_mutez before) it.mutez) refl

pub returns-in-Some : goal.returns-in-Some
returns-in-Some c = λ before it.
    ap (λ o. verdict_from true o (list_all (has_line before) (all_parts before))) (sym c.in-Some.is)
    ∙ judged before c.args.self.now it c.if-self-ne7.false true (list_all (has_line before) (all_parts before)) (sym c.if-not-equals.false ∙ c.equals.ensures (all_mutez before) it.mutez) refl

pub returns-then-all_lined : goal.returns-then-all_lined
returns-then-all_lined c = λ before it.
    ap (λ o. verdict_from true o true) (sym c.in_default.is)
    ∙ judged before c.args.self.now it c.if-self-ne7.false true true (sym c.if-not-equals.false ∙ c.equals.ensures (all_mutez before) it.mutez)
    (sym c.if-all_lined.true ∙ c.all_lined.ensures (all_parts before) before it.kept)

pub returns-else-all_lined : goal.returns-else-all_lined
returns-else-all_lined c = λ before it.
    ap (λ o. verdict_from true o false) (sym c.in_default.is)
    ∙ judged before c.args.self.now it c.if-self-ne7.false true false (sym c.if-not-equals.false ∙ c.equals.ensures (all_mutez before) it.mutez)
    (sym c.if-all_lined.false ∙ c.all_lined.ensures (all_parts before) before it.kept)
