use Rattle.std.proofs.Common.{◌≡◌, ◌∷◌, ◌∙◌, ◌-◌, ℕ, [], Err, ap, subst, sym}
use Rattle.rules_world.specs.world.Groups.{setting_of}
use Rattle.rules_world.specs.world.Outcomes.{ordered}
use Rattle.rules_world.specs.world.Trees.{tree}
use Rattle.mich_gas.specs.View.{listed}
use Rattle.mich_machine.specs.Calls.{counts_of}
use Rattle.mich_ops.specs.View.{action as action_of}
use Rattle.mich_group.specs.Trees.{IsWalked, WalksAs}
use Rattle.mich_group.specs.Turns.{IsBroken, IsDone}
use Rattle.mich_group.specs.declared.tree.TreeError.{TreeError}
use Rattle.mich_group.proofs.Turns.{walk_broken, walk_done}
use Rattle.mich_group.proofs.content.apply_content.Goals as goal

pub returns-in-Ok-clause-ends : goal.returns-in-Ok-clause-ends
returns-in-Ok-clause-ends c = λ start w contents g.
    let ops = ordered (action_of c.args.content.now.action) ∷ [] in
    let s = setting_of (listed c.args.costs.now) c.args.counts.now.group c.args.source.now in
    let counts = counts_of c.args.counts.now in
    let t = tree s w ops c.args.gas counts in
    let new = c.apply_tree.new in
    let spent : c.saturating_sub.result ≡ c.args.gas - new.meter = c.saturating_sub.ensures ∙ ap (λ (k : ℕ). c.args.gas - k) c.left.ensures in
    let walked : IsWalked t new.world new.meter c.args.counts.now new.counts new.effects
    = subst (λ (gas : ℕ). IsWalked (tree s w ops gas counts) new.world new.meter c.args.counts.now new.counts new.effects) c.new-meter.ensures
    (c.in-Ok.ensures.walks start w contents g) in
    subst (λ (used : ℕ). IsDone t c.args.gas new.world c.args.counts.now new.counts used new.effects) (sym spent)
    (walk_done t c.args.gas new.meter new.world c.args.counts.now new.counts new.effects walked)

pub returns-in-Err-Failed-clause-ends : goal.returns-in-Err-Failed-clause-ends
returns-in-Err-Failed-clause-ends c = λ start w contents g.
    let ops = ordered (action_of c.args.content.now.action) ∷ [] in
    let s = setting_of (listed c.args.costs.now) c.args.counts.now.group c.args.source.now in
    let counts = counts_of c.args.counts.now in
    let t = tree s w ops c.args.gas counts in
    let new = c.apply_tree.new in
    let count = c.in-Err-Failed.count in
    let why = c.in-Err-Failed.why in
    let walks = subst (λ (gas : ℕ). WalksAs {U = Unit {0}} (tree s w ops gas counts) new.world new.meter c.args.counts.now new.counts new.effects (Err c.in-Err-Failed.field-0)) c.new-meter.ensures
    (c.in-Err-Failed.ensures.walks start w contents g) in
    let broken : IsBroken t count why = walk_broken (Unit {0}) t new.world new.meter c.args.counts.now new.counts new.effects count why
    (subst (λ (e : TreeError). WalksAs {U = Unit {0}} t new.world new.meter c.args.counts.now new.counts new.effects (Err e)) c.in-Err-Failed.field-0-is walks) in
    rw c.in-Err-Failed.field-0-is broken
