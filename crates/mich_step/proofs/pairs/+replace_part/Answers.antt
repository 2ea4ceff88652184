use Rattle.std.proofs.Common.{rules, ◌≡◌, subst}
use Rattle.rules_data.specs.values.Val.{both}
use Rattle.rules_code.specs.steps.Stack.{replaced}
use Rattle.mich_term.specs.declared.value.Value.TheVariants as value
use Rattle.mich_stack.proofs.ForCallers.{pair_of}
use Rattle.mich_stack.specs.Views.{seen}
use Rattle.mich_step.specs.Parts.{IsReplaced}
use Rattle.mich_step.proofs.Combs.{replaced_first, replaced_there, replaced_is}
use Rattle.mich_step.proofs.pairs.+replace_part.Goals as goal

pub replace_part-requires : goal.replace_part-requires
replace_part-requires t c =
    let big = c.requires.0 in (
      search rules,
      (
        big,
        replaced_there c.args.place c.in-Some.further (seen big c.args.new) (seen big c.args.comb) (seen big c.in_ok-first.first) (seen big c.in_ok-first.second)
            (search rules) (c.in_ok-first.ensures big) c.requires.1,
      ),
    )

pub returns-in_default : goal.returns-in_default
returns-in_default t c = λ big.
    let one : c.args.place ≡ 1 = search rules in
    replaced_first c.args.place (seen big c.args.new) (seen big c.args.comb) (seen big c.in_ok-first.first) (seen big c.in_ok-first.second) _ one (c.in_ok-first.ensures big)
    (pair_of big c.in_ok-new.new c.in_ok-second.second c.args.new c.in_ok-first.second c.in_ok-new.ensures c.in_ok-second.ensures)

pub returns : goal.returns
returns t c = λ big.
    let e : both (seen big c.in_ok-first.first) (seen big c.in_ok-rest.rest) ≡ seen big (value.Pair c.in_ok-first-2.first c.in_ok-rest-2.rest) =
    pair_of big c.in_ok-first-2.first c.in_ok-rest-2.rest c.in_ok-first.first c.in_ok-rest.rest c.in_ok-first-2.ensures c.in_ok-rest-2.ensures in
    subst (λ v. IsReplaced (replaced c.args.place (seen big c.args.new) (seen big c.args.comb)) v (seen big c.in_ok-rest.old)) e
    (replaced_is c.args.place c.in-Some.further (seen big c.args.new) (seen big c.args.comb) (seen big c.in_ok-first.first) (seen big c.in_ok-first.second)
    (seen big c.in_ok-rest.rest) (seen big c.in_ok-rest.old) (search rules) (c.in_ok-first.ensures big) (c.in_ok-rest.ensures big))
