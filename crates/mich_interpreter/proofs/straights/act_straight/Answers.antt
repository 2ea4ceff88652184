use Rattle.std.proofs.Common.{◌≡◌, Bool, true, false, refl, ap, sym, subst, ◌∙◌}
use Rattle.std.specs.Prelude.{not}
use Rattle.rules_text.specs.nodes.Tree.{Tree}
use Rattle.mich_instr.specs.Code as made
use Rattle.mich_overload.specs.Steps.{in_step, is_on_big_map}
use Rattle.mich_overload.specs.View.{straight, collection_row}
use Rattle.mich_overload.specs.declared.simple.CollectionRow.{CollectionRow as Row}
use Rattle.mich_overload.specs.declared.simple.Simple.{Simple}
use Rattle.mich_overload.specs.declared.simple.Simple.TheVariants as simple
use Rattle.mich_interpreter.specs.Ends.{ComesIn, Meets}
use Rattle.mich_interpreter.proofs.straights.act_straight.Goals as goal

not_false : (b : Bool) → not b ≡ false → b ≡ true
not_false true h = refl
not_false false h = cc

-- what isn't for one step, and is on collections, is on a big map
on_big_map : (s : Simple) (row : Row) → s ≡ simple.Collections row → in_step (straight s) ≡ false → is_on_big_map (collection_row row) ≡ true
on_big_map s row e h = not_false (is_on_big_map (collection_row row)) (ap (λ t. in_step (straight t)) (sym e) ∙ h)

pub act_operation-requires-clause-apart : goal.act_operation-requires-clause-apart
act_operation-requires-clause-apart c =
    subst (λ (s : Simple). in_step (straight s) ≡ false) c.in-Operations.is (sym c.in_step.ensures ∙ c.if-in_step.false)

pub act_operation-requires-clause-comes : goal.act_operation-requires-clause-comes
act_operation-requires-clause-comes c =
    subst (λ (s : Simple). (app : Tree) × ComesIn c.args.world.now (made.straight (straight s) app) c.args.costs.now c.args.m.now) c.in-Operations.is c.requires

pub returns-in_ok-act_operation-in-Operations-clause-acts : goal.returns-in_ok-act_operation-in-Operations-clause-acts
returns-in_ok-act_operation-in-Operations-clause-acts c = λ app x fs d Z o h w.
    c.in_ok-act_operation-in-Operations.ensures.acts app x fs d Z o
    (subst (λ (s : Simple). Meets (made.straight (straight s) app) x c.args.costs.now c.args.m.now fs d Z o) c.in-Operations.is h) w

pub act_step-requires : goal.act_step-requires
act_step-requires c = let r = c.requires.1 in record {
  in_step = sym c.in_step.ensures ∙ c.if-in_step.true;
  comes = (c.requires.0, (r.0, r.1, r.2, r.3, r.4, r.5));
}

pub act_packing-requires : goal.act_packing-requires
act_packing-requires c =
    let t = subst (λ (s : Simple). (app : Tree) × ComesIn c.args.world.now (made.straight (straight s) app) c.args.costs.now c.args.m.now) c.in-Hashes.is c.requires in
    let r = t.1 in
    (t.0, (r.0, r.1, r.2, r.3, r.4, r.5))

pub returns-in_ok-act_packing-in-Hashes-clause-acts : goal.returns-in_ok-act_packing-in-Hashes-clause-acts
returns-in_ok-act_packing-in-Hashes-clause-acts c = λ app x fs d Z o h w.
    c.in_ok-act_packing-in-Hashes.ensures.acts app x fs d Z o
    (subst (λ (s : Simple). Meets (made.straight (straight s) app) x c.args.costs.now c.args.m.now fs d Z o) c.in-Hashes.is h)

pub returns-then-in_step-clause-acts : goal.returns-then-in_step-clause-acts
returns-then-in_step-clause-acts c = λ app x fs d Z o h w. c.in_ok-act.ensures.acts app x fs d Z o h

pub act_big_map-requires-clause-on_big_map : goal.act_big_map-requires-clause-on_big_map
act_big_map-requires-clause-on_big_map c = on_big_map c.args.instr.now c.in-Collections.row c.in-Collections.is (sym c.in_step.ensures ∙ c.if-in_step.false)

pub act_big_map-requires-clause-comes : goal.act_big_map-requires-clause-comes
act_big_map-requires-clause-comes c =
    subst (λ (s : Simple). (app : Tree) × ComesIn c.args.world.now (made.straight (straight s) app) c.args.costs.now c.args.m.now) c.in-Collections.is c.requires

pub returns-in_ok-act_big_map-in-Collections-clause-acts : goal.returns-in_ok-act_big_map-in-Collections-clause-acts
returns-in_ok-act_big_map-in-Collections-clause-acts c = λ app x fs d Z o h w.
    c.in_ok-act_big_map-in-Collections.ensures.acts app x fs d Z o
    (subst (λ (s : Simple). Meets (made.straight (straight s) app) x c.args.costs.now c.args.m.now fs d Z o) c.in-Collections.is h) w
