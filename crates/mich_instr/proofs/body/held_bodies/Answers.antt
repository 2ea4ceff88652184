use Rattle.std.proofs.Common.{◌++◌, List, ap, sym, ◌∙◌, subst, map}
use Rattle.mich_base.specs.View.{tree}
use Rattle.mich_base.specs.declared.node.Node.{Node}
use Rattle.mich_instr.specs.Body.{AllHeld, bodies_in}
use Rattle.mich_instr.specs.View.{codes}
use Rattle.mich_instr.specs.declared.instr.Instr.{Instr}
use Rattle.mich_instr.proofs.Held.{all_found, body_put, held_here}
use Rattle.mich_instr.proofs.body.held_bodies.Goals as goal

pub loop-instr-init : goal.loop-instr-init
loop-instr-init c =
    let items = c.as_slice-instr-items.ensures in
    record {
      found = ap (λ (bs : List Node). map tree bs ++ bodies_in (codes c.as_slice-instr-items.result.now)) c.new-bodies.ensures ∙ ap (λ (xs : List Instr). bodies_in (codes xs)) items;
      held = subst (λ (xs : List Instr). AllHeld (codes xs)) (sym items) c.requires;
    }

pub held_body-requires : goal.held_body-requires
held_body-requires c = (held_here _ _ _ c.loop-instr-test.true c.instr-item.is c.loop-instr.invariant.held).0

pub loop-instr-preserved : goal.loop-instr-preserved
loop-instr-preserved c =
    let v = c.loop-instr.invariant in
    record {
      found = body_put _ _ _ c.loop-instr-test.true c.instr-item.is _ _ _ _ v.found c.in_ok-body.ensures c.in_ok-put_body.ensures;
      held = (held_here _ _ _ c.loop-instr-test.true c.instr-item.is v.held).1;
    }

pub returns : goal.returns
returns c = all_found _ _ _ _ c.loop-instr-test.false c.loop-instr.invariant.found
