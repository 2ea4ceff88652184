use Rattle.std.proofs.Common.{◌≡◌, ℤ, Err, List, map, refl, rules, ap, ◌∙◌, subst}
use Rattle.std.specs.Int.{w128}
use Rattle.std.proofs.lemmas.Int.{to_z-of_z}
use Rattle.std.proofs.lemmas.Result.{err_from_is_err_and}
use Rattle.rules_data.specs.forms.Spelling.{default_name}
use Rattle.rules_world.specs.world.Gives.{give_effect}
use Rattle.rules_world.specs.world.Groups.{setting_of}
use Rattle.mich_forms.specs.declared.places.Place.TheVariants as place
use Rattle.mich_ops.specs.View.{change}
use Rattle.mich_term.specs.declared.ticket.Change.{Change}
use Rattle.mich_world.proofs.ForCallers.{world_same, world_trans}
use Rattle.mich_operations.specs.Gifts.{IsTakenFrom, gift, tickets_of}
use Rattle.mich_operations.proofs.Credited.{contracts_ledger, hosting_ledger, keeps_ledger}
use Rattle.mich_operations.proofs.Given.{gift_room, gives_account, positive, taken_comes, taken_positive, taken_room, untaken_account}
use Rattle.mich_operations.proofs.Hosting.{contracts_moved, hosting_moved}
use Rattle.mich_operations.proofs.gifts.give_account.Goals as goal

pub returns-then-not-is_default-clause-keeps : goal.returns-then-not-is_default-clause-keeps
returns-then-not-is_default-clause-keeps c = world_same _

pub returns-in_err-ticket-clause-ends : goal.returns-in_err-ticket-clause-ends
returns-in_err-ticket-clause-ends c = λ w prices group gas counts given.
    let named : c.args.entry.now ≡ default_name = search rules in
    let e = to_z-of_z w128 c.args.amount c.ranges.amount in
    let p = err_from_is_err_and c.from_residual.result c.from_residual.ensures.1 in
    rw (p.1, p.2)
    (untaken_account c.args.world.now w c.args.source.now c.args.id.now c.args.amount c.args.to.now given c.take.new.world c.in_err-ticket.field-0.0 (subst (λ (n : ℤ). IsTakenFrom c.args.source.now c.args.id.now n c.args.world.now c.take.new.world (Err c.in_err-ticket.field-0.0)) e c.in_err-ticket.ensures.taken)
    prices group c.args.entry.now gas counts c.take.new.world named)

pub credit-requires-clause-positive : goal.credit-requires-clause-positive
credit-requires-clause-positive c =
    let e = to_z-of_z w128 c.args.amount c.ranges.amount in
    let t = rw e at c.in_ok-ticket.ensures.taken in
    let g = c.requires in
    taken_positive c.args.id.now c.args.amount c.in_ok-ticket.ticket t.1
    (positive c.args.world.now g.0 c.args.source.now c.args.id.now c.args.amount (place.Implicit c.args.to.now) g.1)

pub credit-requires-clause-room : goal.credit-requires-clause-room
credit-requires-clause-room c =
    let e = to_z-of_z w128 c.args.amount c.ranges.amount in
    let t = rw e at c.in_ok-ticket.ensures.taken in
    let g = c.requires in
    let o = c.in_ok-open_account.ensures in
    taken_room c.args.id.now c.args.amount c.in_ok-ticket.ticket t.1 c.open_account.new.world c.args.to.now
    (gift_room c.args.world.now g.0 c.args.source.now c.args.id.now c.args.amount (place.Implicit c.args.to.now) g.1
    t.0 c.take.new.world c.in_ok-ticket.ensures.world t.2 c.args.to.now refl c.open_account.new.world o.world o.moved)

pub returns-clause-ends : goal.returns-clause-ends
returns-clause-ends c = λ w prices group gas counts given.
    let named : c.args.entry.now ≡ default_name = search rules in
    let e = to_z-of_z w128 c.args.amount c.ranges.amount in
    let t = rw e at c.in_ok-ticket.ensures.taken in
    let o = c.in_ok-open_account.ensures in
    let k = c.in_ok-credit.ensures in
    gives_account c.args.world.now w c.args.source.now c.args.id.now c.args.amount (place.Implicit c.args.to.now) given
    t.0 c.take.new.world c.in_ok-ticket.ensures.world t.2 c.args.to.now refl c.open_account.new.world o.world o.moved
    c.credit.new.world k.world (taken_comes c.args.id.now c.args.amount c.in_ok-ticket.ticket t.1 c.open_account.new.world c.credit.new.world c.args.to.now k.moves)
    prices group c.args.entry.now gas counts _ named (rw e at (c.in_ok-effect.ensures prices group)
    ∙ ap (λ (cs : List Change). give_effect (setting_of prices group c.args.source.now) (gift (tickets_of c.args.id.now c.args.amount) (place.Implicit c.args.to.now) c.args.entry.now) (map change cs))
    c.new.ensures) c.new-2.ensures refl

pub returns-clause-hosting : goal.returns-clause-hosting
returns-clause-hosting c = λ h.
    let o = c.in_ok-open_account.ensures in
    hosting_ledger c.open_account.new.world c.credit.new.world c.in_ok-credit.ensures.world
    (hosting_moved c.take.new.world c.open_account.new.world (place.Implicit c.args.source.now) (place.Implicit c.args.to.now) 0 o.world o.moved
    (hosting_ledger c.args.world.now c.take.new.world c.in_ok-ticket.ensures.world h))

pub returns-clause-contracts : goal.returns-clause-contracts
returns-clause-contracts c = λ hash h.
    contracts_ledger c.open_account.new.world c.credit.new.world c.in_ok-credit.ensures.world hash
    (contracts_moved c.take.new.world c.open_account.new.world (place.Implicit c.args.source.now) (place.Implicit c.args.to.now) 0 c.in_ok-open_account.ensures.moved hash
    (contracts_ledger c.args.world.now c.take.new.world c.in_ok-ticket.ensures.world hash h))

pub returns-clause-keeps : goal.returns-clause-keeps
returns-clause-keeps c =
    world_trans _ _ _ c.in_ok-ticket.ensures.keeps
    (world_trans _ _ _ c.in_ok-open_account.ensures.keeps
    (keeps_ledger c.open_account.new.world c.credit.new.world c.in_ok-credit.ensures.world c.in_ok-credit.ensures.keeps))

pub returns-in_err-open_account-clause-keeps : goal.returns-in_err-open_account-clause-keeps
returns-in_err-open_account-clause-keeps c = world_trans _ _ _ c.in_ok-ticket.ensures.keeps c.in_err-open_account.ensures.keeps

pub returns-in_err-credit-clause-keeps : goal.returns-in_err-credit-clause-keeps
returns-in_err-credit-clause-keeps c =
    world_trans _ _ _ c.in_ok-ticket.ensures.keeps
    (world_trans _ _ _ c.in_ok-open_account.ensures.keeps
    (keeps_ledger c.open_account.new.world c.credit.new.world c.in_err-credit.ensures.world c.in_err-credit.ensures.keeps))

pub returns-in_err-effect-clause-keeps : goal.returns-in_err-effect-clause-keeps
returns-in_err-effect-clause-keeps c =
    world_trans _ _ _ c.in_ok-ticket.ensures.keeps
    (world_trans _ _ _ c.in_ok-open_account.ensures.keeps
    (keeps_ledger c.open_account.new.world c.credit.new.world c.in_ok-credit.ensures.world c.in_ok-credit.ensures.keeps))
