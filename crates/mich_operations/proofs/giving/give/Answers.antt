use Rattle.std.proofs.Common.{ap, ◌∙◌, option_map}
use Rattle.std.specs.Int.{w128}
use Rattle.std.specs.declared.option.Option.{Option}
use Rattle.std.proofs.lemmas.Int.{to_z-of_z}
use Rattle.rules_world.specs.world.Groups.{setting_of}
use Rattle.mich_base.specs.View.{tree}
use Rattle.mich_forms.specs.Spelled.{place_bytes}
use Rattle.mich_forms.specs.declared.places.Place.TheVariants as place
use Rattle.mich_gas.specs.View.{listed}
use Rattle.mich_machine.specs.Calls.{counts_of}
use Rattle.mich_term.specs.declared.ticket.TicketId.{TicketId}
use Rattle.mich_world.proofs.ForCallers.{world_same}
use Rattle.mich_operations.specs.Gifts.{tickets_of}
use Rattle.mich_operations.proofs.Bestowals.{ends_account, ends_contract, given_to, handed_over, small}
use Rattle.mich_operations.proofs.giving.give.Goals as goal

pub spelled_id-requires : goal.spelled_id-requires
spelled_id-requires c =
    let n = c.requires.next in
    let s = setting_of (listed c.args.costs.now) c.args.counts.now.group c.args.source.now in
    small c.args.world.now n.0 s (place_bytes c.args.issuer.now) (tree c.args.ty.now) (tree c.args.node.now) c.args.amount c.args.to.now c.args.name.now (counts_of c.args.counts.now) n.1

pub give_account-requires : goal.give_account-requires
give_account-requires c =
    let n = c.requires.next in
    let s = setting_of (listed c.args.costs.now) c.args.counts.now.group c.args.source.now in
    let who = c.in-Implicit.who in (
      n.0,
      rw (to_z-of_z w128 c.args.amount c.ranges.amount)
          (given_to c.args.world.now n.0 s (place_bytes c.args.issuer.now) (tree c.args.ty.now) (tree c.args.node.now) c.args.amount c.args.to.now c.args.name.now (counts_of c.args.counts.now) n.1
          c.in-Some.id (c.in_ok-id.ensures c.args.amount ∙ ap (λ (o : Option TicketId). option_map (λ id. tickets_of id c.args.amount) o) c.in-Some.is) (place.Implicit who) c.in-Implicit.is),
    )

pub give_contract-requires-clause-due : goal.give_contract-requires-clause-due
give_contract-requires-clause-due c =
    let n = c.requires.next in
    let s = setting_of (listed c.args.costs.now) c.args.counts.now.group c.args.source.now in (
      n.0,
      rw (to_z-of_z w128 c.args.amount c.ranges.amount)
          (handed_over c.args.world.now n.0 s (place_bytes c.args.issuer.now) (tree c.args.ty.now) (tree c.args.node.now) c.args.amount c.args.to.now c.args.name.now (counts_of c.args.counts.now) n.1
          c.in-Some.id (c.in_ok-id.ensures c.args.amount ∙ ap (λ (o : Option TicketId). option_map (λ id. tickets_of id c.args.amount) o) c.in-Some.is) c.in-Contract.hash c.in-Contract.is),
    )

pub returns-in_default-clause-keeps : goal.returns-in_default-clause-keeps
returns-in_default-clause-keeps c = world_same c.args.world.now

pub returns-in-Implicit-clause-ends : goal.returns-in-Implicit-clause-ends
returns-in-Implicit-clause-ends c = λ w b.
    let s = setting_of (listed c.args.costs.now) c.args.counts.now.group c.args.source.now in
    let v = c.args.world.now in
    let is = c.in_ok-id.ensures c.args.amount ∙ ap (λ (o : Option TicketId). option_map (λ id. tickets_of id c.args.amount) o) c.in-Some.is in
    ends_account v w s (place_bytes c.args.issuer.now) (tree c.args.ty.now) (tree c.args.node.now) c.args.amount c.args.to.now c.args.name.now (counts_of c.args.counts.now) b
    c.in-Some.id is c.in-Implicit.who c.in-Implicit.is c.args.meter.now c.args.counts.now c.give_account.new.world c.give_account.result
    ((rw (to_z-of_z w128 c.args.amount c.ranges.amount) at (c.give_account.ensures.ends w (listed c.args.costs.now) c.args.counts.now.group c.args.meter.now c.args.counts.now))
    (given_to v w s (place_bytes c.args.issuer.now) (tree c.args.ty.now) (tree c.args.node.now) c.args.amount c.args.to.now c.args.name.now (counts_of c.args.counts.now) b
    c.in-Some.id is (place.Implicit c.in-Implicit.who) c.in-Implicit.is))

pub returns-clause-ends : goal.returns-clause-ends
returns-clause-ends c = λ w b.
    let s = setting_of (listed c.args.costs.now) c.args.counts.now.group c.args.source.now in
    let v = c.args.world.now in
    let is = c.in_ok-id.ensures c.args.amount ∙ ap (λ (o : Option TicketId). option_map (λ id. tickets_of id c.args.amount) o) c.in-Some.is in
    ends_contract v w s (place_bytes c.args.issuer.now) (tree c.args.ty.now) (tree c.args.node.now) c.args.amount c.args.to.now c.args.name.now (counts_of c.args.counts.now) b
    c.in-Some.id is c.in-Contract.hash c.in-Contract.is c.args.meter.now c.give_contract.new.meter c.args.counts.now c.give_contract.new.counts c.give_contract.new.world c.give_contract.result
    ((rw (to_z-of_z w128 c.args.amount c.ranges.amount) at (c.give_contract.ensures.ends w))
    (handed_over v w s (place_bytes c.args.issuer.now) (tree c.args.ty.now) (tree c.args.node.now) c.args.amount c.args.to.now c.args.name.now (counts_of c.args.counts.now) b
    c.in-Some.id is c.in-Contract.hash c.in-Contract.is))
