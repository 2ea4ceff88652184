use Rattle.std.proofs.Common.{rules}
use Rattle.mich_stack.specs.Views.{seen}
use Rattle.mich_step.proofs.Combs.{parts_there}
use Rattle.mich_step.proofs.pairs.+put_parts.Goals as goal

pub put_parts-requires : goal.put_parts-requires
put_parts-requires t c =
    let big = c.requires.0 in (
      search rules,
      (
        big,
        parts_there c.args.others c.in-Some.further (seen big c.args.comb) (seen big c.in_ok-first.first) (seen big c.in_ok-first.rest)
            (search rules) (c.in_ok-first.ensures big) c.requires.1,
      ),
    )
