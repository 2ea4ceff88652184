use Rattle.std.proofs.Common.{rules, ◌≡◌, ◌++◌, ap, subst}
use Rattle.rules_data.specs.values.Tickets.{tickets}
use Rattle.rules_code.specs.steps.Stack.{part_at}
use Rattle.mich_term.specs.declared.value.Value.TheVariants as value
use Rattle.mich_stack.proofs.ForCallers.{pair_of}
use Rattle.mich_stack.specs.Views.{seen}
use Rattle.mich_step.specs.Parts.{IsPart}
use Rattle.mich_step.proofs.Combs.{part_there, part_is}
use Rattle.mich_step.proofs.pairs.+take_part.Goals as goal

pub take_part-requires : goal.take_part-requires
take_part-requires t c =
    let big = c.requires.0 in (
      search rules,
      (
        big,
        part_there c.args.place c.in-Some.further (seen big c.args.comb) (seen big c.in_ok-first.first) (seen big c.in_ok-first.second)
            (search rules) (c.in_ok-first.ensures big) c.requires.1,
      ),
    )

pub returns : goal.returns
returns t c = λ big.
    let e : tickets (seen big c.in_ok-first.first) ++ tickets (seen big c.in_ok-found.left) ≡ tickets (seen big (value.Pair c.in_ok-first-2.first c.in_ok-left.left)) =
    ap tickets (pair_of big c.in_ok-first-2.first c.in_ok-left.left c.in_ok-first.first c.in_ok-found.left c.in_ok-first-2.ensures c.in_ok-left.ensures) in
    subst (λ ts. IsPart (part_at c.args.place (seen big c.args.comb)) (seen big c.in_ok-found.found) ts) e
    (part_is c.args.place c.in-Some.further (seen big c.args.comb) (seen big c.in_ok-first.first) (seen big c.in_ok-first.second)
    (seen big c.in_ok-found.found) (tickets (seen big c.in_ok-found.left)) (search rules) (c.in_ok-first.ensures big) (c.in_ok-found.ensures big))
