use Rattle.std.proofs.Common.{rules, ◌≡◌, Some, subst}
use Rattle.rules_data.specs.values.Val.{both}
use Rattle.rules_code.specs.steps.Stack.{comb}
use Rattle.mich_term.specs.declared.value.Value.TheVariants as value
use Rattle.mich_stack.proofs.ForCallers.{pair_of}
use Rattle.mich_stack.specs.Views.{seen, values}
use Rattle.mich_step.proofs.Combs.{comb_there, comb_is}
use Rattle.mich_step.proofs.pairs.+take_comb.Goals as goal

pub take_comb-requires : goal.take_comb-requires
take_comb-requires t c =
    let big = c.requires.0 in (
      search rules,
      (
        big,
        comb_there c.args.others c.in-Some.further (seen big c.args.first) (values big c.args.stack.now) (seen big c.in-Some-pop.second) (values big c.pop.new.stack)
            (search rules) (c.in-Some-pop.ensures big) c.requires.1,
      ),
    )

pub returns-clause-comb : goal.returns-clause-comb
returns-clause-comb t c = λ big.
    let e : both (seen big c.args.first) (seen big c.in_ok-rest.rest) ≡ seen big (value.Pair c.in_ok-first.first c.in_ok-rest-2.rest) =
    pair_of big c.in_ok-first.first c.in_ok-rest-2.rest c.args.first c.in_ok-rest.rest c.in_ok-first.ensures c.in_ok-rest-2.ensures in
    subst (λ v. comb c.args.others (seen big c.args.first) (values big c.args.stack.now) ≡ Some v) e
    (comb_is c.args.others c.in-Some.further (seen big c.args.first) (values big c.args.stack.now) (seen big c.in-Some-pop.second) (values big c.pop.new.stack) (seen big c.in_ok-rest.rest)
    (search rules) (c.in-Some-pop.ensures big) (c.in_ok-rest.ensures.comb big))
