use Rattle.std.proofs.Common.{◌∷◌, ap, ◌∙◌}
use Rattle.mich_stack.specs.Views.{seen, values}
use Rattle.mich_step.proofs.Combs.{update_is}
use Rattle.mich_step.proofs.pairs.update_part.Goals as goal

pub returns : goal.returns
returns c = λ big. update_is c.args.place (values big c.args.stack.now) (seen big c.in-Some.new) (seen big c.in-Some-pop.whole) (values big c.pop-2.new.stack)
    (seen big c.in_ok-comb.comb) (seen big c.in_ok-comb.old) (values big c.push.new.stack)
    (c.in-Some.ensures big ∙ ap (λ V. seen big c.in-Some.new ∷ V) (c.in-Some-pop.ensures big)) (c.in_ok-comb.ensures big) (c.in_ok-push.ensures big)
