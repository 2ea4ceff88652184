use Rattle.std.proofs.Common.{Ok, ◌≡◌, ◌≤◌, ◌-◌, ◌+◌, ◌∷◌, [], ℕ, suc, List, length, map, drop, refl, sym, ap, ◌∙◌, subst, arith, add-one}
use Rattle.std.proofs.lemmas.List.{length-map, length-drop, drop_all}
use Rattle.rules_world.specs.world.Contents.{Content}
use Rattle.rules_world.specs.world.Groups.{setting_of, in_turn}
use Rattle.rules_world.specs.world.Outcomes.{ordered}
use Rattle.rules_world.specs.world.World.{World as PlainWorld}
use Rattle.mich_base.specs.declared.memory.Memory.{Memory}
use Rattle.mich_gas.specs.View.{listed}
use Rattle.mich_machine.specs.Calls.{counts_of, IsHosting}
use Rattle.mich_ops.specs.View.{content as content_of}
use Rattle.mich_ops.specs.declared.receipt.Status.{Status as Said}
use Rattle.mich_world.proofs.ForCallers.{world_same, world_trans}
use Rattle.mich_group.specs.Trees.{Goes}
use Rattle.mich_group.specs.Turns.{AreBroken, OnEnded}
use Rattle.mich_group.specs.declared.content.Ended.{Ended}
use Rattle.mich_group.proofs.Turns.{HasTurned, none_turned, all_turned, gas_within, gas_behind, form_here, forms_behind, turned_from, content_goes, content_turned, content_broke, ended_as}
use Rattle.mich_group.proofs.Walks.{goes_group}
use Rattle.mich_group.proofs.contents.apply_contents.Goals as goal

pub loop-index-init : goal.loop-index-init
loop-index-init c = record {
  group = refl;
  hosting = c.requires.hosting;
  keeps = world_same _;
  forms = c.requires.forms;
  gas = c.requires.gas;
  turned = λ start w g.
      let s = setting_of (listed c.args.costs.now) c.args.counts.now.group c.args.source.now in
      let cs = map content_of c.args.contents.now in
      let counts = counts_of c.args.counts.now in
      subst (λ (ss : List Said). HasTurned start s (in_turn s cs w counts) c.args.world.now counts ss 0 cs) (sym c.new-statuses.ensures)
      (none_turned start s cs c.args.world.now w counts g);
}

pub gas_of-requires-clause-least : goal.gas_of-requires-clause-least
gas_of-requires-clause-least c =
    let x = c.index-contents-index in
    (form_here c.args.contents.now c.loop-index.index x.result c.loop-index-test.true x.is c.loop-index.invariant.forms).1

pub gas_of-requires-clause-most : goal.gas_of-requires-clause-most
gas_of-requires-clause-most c =
    let x = c.index-contents-index in
    gas_within c.args.contents.now c.loop-index.index x.result c.loop-index-test.true x.is c.loop-index.invariant.gas

pub apply_content-requires-clause-goes : goal.apply_content-requires-clause-goes
apply_content-requires-clause-goes c =
    let l = c.loop-index in
    let x = c.index-contents-index in
    let prices = listed c.args.costs.now in
    let s = setting_of prices c.args.counts.now.group c.args.source.now in
    let cs = c.args.contents.now in
    let left = map content_of (drop (l.index + 1) cs) in
    let counts = counts_of l.counts in
    let g = c.requires.goes in
    let t = in_turn s (map content_of cs) g.1 (counts_of c.args.counts.now) in
    let h = turned_from cs l.index x.result c.loop-index-test.true x.is g.0 s t l.world counts l.statuses (l.invariant.turned g.0 g.1 g.2) in
    let form = form_here cs l.index x.result c.loop-index-test.true x.is l.invariant.forms in
    let few : suc l.index ≤ 1000 = rw (sym (add-one l.index)) (omega (arith, c.requires.few, c.loop-index-test.true)) in (
      g.0,
      h.world,
      suc l.index,
      goes_group prices c.args.source.now c.args.counts.now.group l.counts.group g.0 (suc l.index) l.world h.world (ordered (content_of x.result).action ∷ []) counts (sym l.invariant.group)
          (content_goes g.0 s t l.world counts l.statuses l.index (content_of x.result) left h form few),
    )

pub returns-in-Failed-clause-turns : goal.returns-in-Failed-clause-turns
returns-in-Failed-clause-turns c = λ start w g.
    let l = c.loop-index in
    let x = c.index-contents-index in
    let prices = listed c.args.costs.now in
    let source = c.args.source.now in
    let s = setting_of prices c.args.counts.now.group source in
    let cs = c.args.contents.now in
    let left = map content_of (drop (l.index + 1) cs) in
    let counts = counts_of l.counts in
    let t = in_turn s (map content_of cs) w (counts_of c.args.counts.now) in
    let h = turned_from cs l.index x.result c.loop-index-test.true x.is start s t l.world counts l.statuses (l.invariant.turned start w g) in
    let form = form_here cs l.index x.result c.loop-index-test.true x.is l.invariant.forms in
    let few : suc l.index ≤ 1000 = omega (arith, c.requires.few, c.loop-index-test.true) in
    let ops = ordered (content_of x.result).action ∷ [] in
    let goes = goes_group prices source c.args.counts.now.group l.counts.group start (suc l.index) l.world h.world ops counts (sym l.invariant.group)
    (content_goes start s t l.world counts l.statuses l.index (content_of x.result) left h form few) in
    let b = ended_as Memory prices source l.counts.group c.args.counts.now.group h.world ops _ _ counts c.apply_content.new.world l.counts c.apply_content.new.counts _ _
    l.invariant.group c.gas_of.ensures c.in-Failed.is (c.in_ok-used.ensures.ends start h.world (suc l.index) goes) in
    let behind : length left ≡ length cs - l.index - 1 = length-map (drop (l.index + 1) cs) content_of ∙ length-drop (l.index + 1) cs ∙ omega arith in
    subst (λ (ss : List Said). AreBroken t ss) (sym c.in_ok-broken-in-Failed.ensures)
    (content_broke start s t l.world counts l.statuses l.index (content_of x.result) left h form few c.in-Failed.count c.in-Failed.why (length cs - l.index - 1) behind b)

pub loop-index-preserved : goal.loop-index-preserved
loop-index-preserved c =
    let l = c.loop-index in
    let x = c.index-contents-index in
    let prices = listed c.args.costs.now in
    let source = c.args.source.now in
    let s = setting_of prices c.args.counts.now.group source in
    let cs = c.args.contents.now in
    let left = map content_of (drop (l.index + 1) cs) in
    let counts = counts_of l.counts in
    let form = form_here cs l.index x.result c.loop-index-test.true x.is l.invariant.forms in
    let few : suc l.index ≤ 1000 = omega (arith, c.requires.few, c.loop-index-test.true) in
    let ops = ordered (content_of x.result).action ∷ [] in
    let g = c.requires.goes in
    let at = λ (start w : PlainWorld) (g : Goes start s 0 c.args.world.now w [] (counts_of c.args.counts.now)).
    turned_from cs l.index x.result c.loop-index-test.true x.is start s (in_turn s (map content_of cs) w (counts_of c.args.counts.now)) l.world counts l.statuses (l.invariant.turned start w g) in
    let ends = λ (start w : PlainWorld) (g : Goes start s 0 c.args.world.now w [] (counts_of c.args.counts.now)).
    ended_as Memory prices source l.counts.group c.args.counts.now.group (at start w g).world ops _ _ counts c.apply_content.new.world l.counts c.apply_content.new.counts _ _
    l.invariant.group c.gas_of.ensures c.in-Applied.is (c.in_ok-used.ensures.ends start (at start w g).world (suc l.index)
    (goes_group prices source c.args.counts.now.group l.counts.group start (suc l.index) l.world (at start w g).world ops counts (sym l.invariant.group)
    (content_goes start s (in_turn s (map content_of cs) w (counts_of c.args.counts.now)) l.world counts l.statuses l.index (content_of x.result) left (at start w g) form few))) in
    record {
      group = (ends g.0 g.1 g.2).group ∙ l.invariant.group;
      hosting = subst (λ (e : Ended). OnEnded {E = Memory} (Ok e) (IsHosting c.apply_content.new.world)) c.in-Applied.is c.in_ok-used.ensures.hosting;
      keeps = world_trans c.args.world.now l.world c.apply_content.new.world l.invariant.keeps c.in_ok-used.ensures.keeps;
      forms = forms_behind cs l.index x.result c.loop-index-test.true x.is l.invariant.forms;
      gas = gas_behind cs l.index x.result c.loop-index-test.true x.is l.invariant.gas;
      turned = λ start w g.
          let t = in_turn s (map content_of cs) w (counts_of c.args.counts.now) in
          subst (λ (n : ℕ). HasTurned start s t c.apply_content.new.world (counts_of c.apply_content.new.counts) c.push.new.self n left) (sym (add-one l.index))
          (subst (λ (ss : List Said). HasTurned start s t c.apply_content.new.world (counts_of c.apply_content.new.counts) ss (suc l.index) left) (sym c.in_ok-push-in-Applied.ensures.pushed)
          (content_turned start s t l.world counts l.statuses l.index (content_of x.result) left (at start w g) form few c.apply_content.new.world l.counts c.apply_content.new.counts
          c.in-Applied.used c.in-Applied.effects refl (ends start w g)));
    }

pub returns-clause-turns : goal.returns-clause-turns
returns-clause-turns c = λ start w g.
    let l = c.loop-index in
    let s = setting_of (listed c.args.costs.now) c.args.counts.now.group c.args.source.now in
    let cs = c.args.contents.now in
    let t = in_turn s (map content_of cs) w (counts_of c.args.counts.now) in
    let none : map content_of (drop l.index cs) ≡ [] = ap (map content_of) (drop_all l.index cs (omega (arith, c.loop-index-test.false))) in
    all_turned start s t l.world (counts_of l.counts) l.statuses l.index
    (subst (λ (left : List Content). HasTurned start s t l.world (counts_of l.counts) l.statuses l.index left) none (l.invariant.turned start w g))
