use Rattle.std.proofs.Common.{◌≡◌, [], ◌∷◌, ◌++◌, rules}
use Rattle.mich_interpreter.proofs.Mapped.{elements_step}
use Rattle.mich_interpreter.proofs.items.elements_of.Goals as goal

pub loop-element-preserved : goal.loop-element-preserved
loop-element-preserved c = λ big.
    let first : c.loop-element.element-iterator ≡ c.in-Some.element.now ∷ c.next.new.self = search rules in
    let pushed : c.push.new.self ≡ c.loop-element.values ++ c.in_ok-value.field-0 ∷ [] = search rules in
    elements_step big c.loop-element.values c.push.new.self c.in_ok-value.field-0 c.loop-element.element-iterator c.next.new.self c.args.set.now c.in-Some.element.now first pushed
    c.in_ok-value.ensures (c.loop-element.invariant big)
