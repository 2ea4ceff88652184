-- A ticket is minted as the rule of TICKET says.
use Rattle.std.specs.Int.{w128}
use Rattle.std.proofs.lemmas.Int.{to_z-of_z}
use Rattle.std.proofs.Common.{rules, SFits, ◌≡◌, ◌∷◌, Err, ap, sym, subst, ◌∙◌}
use Rattle.std.specs.Prelude.{pos, ◌≤ℤ◌, option_map}
use Rattle.rules_code.specs.instructions.Straight as i
use Rattle.rules_code.specs.steps.Step.{optional}
use Rattle.rules_code.specs.steps.TicketSteps.{as_value, ticket_step}
use Rattle.mich_base.specs.TypeView.{kind}
use Rattle.mich_term.specs.TicketView.{held}
use Rattle.mich_term.specs.View.{datum}
use Rattle.mich_term.specs.declared.ticket.Ticket.{Ticket}
use Rattle.mich_stack.specs.Views.{seen, values}
use Rattle.mich_tickets.specs.Sums.{minted_of}
use Rattle.mich_step.specs.Tells.{IsDone}
use Rattle.mich_step.specs.Views.{environment}
use Rattle.mich_step.proofs.Minting.{mint_step, mint_least, mint_number, is_done, is_told}
use Rattle.mich_step.proofs.Splitting.{minted_error}
use Rattle.mich_step.proofs.tickets.mint.Goals as goal

pub number_in-n-requires : goal.number_in-n-requires
number_in-n-requires c =
    let b0 = c.requires.fits.0 in (
      b0,
      mint_number (environment c.args.env.now) (minted_of c.args.ledger.now.books.present) (kind c.args.ty.now) (values b0 c.args.stack.now)
          (values b0 c.take_key.new.stack) (values b0 c.pop.new.stack) (datum c.in_ok-content.content) (seen b0 c.in-Some.top) (c.in_ok-content.ensures b0) (c.in-Some.ensures b0)
          c.requires.fits.1,
    )

pub returns-in_err-ticket-clause-ends : goal.returns-in_err-ticket-clause-ends
returns-in_err-ticket-clause-ends c = λ big.
    let n = c.number_in-n.result in
    let E = environment c.args.env.now in
    let total = minted_of c.args.ledger.now.books.present in
    let V = values big c.args.stack.now in
    let U = values big c.take_key.new.stack in
    let W = values big c.pop.new.stack in
    let x = datum c.in_ok-content.content in
    let y = seen big c.in-Some.top in
    let first : V ≡ x ∷ U = c.in_ok-content.ensures big in
    let second : U ≡ y ∷ W = c.in-Some.ensures big in
    let fits : SFits w128 n = search rules in
    let b0 = c.requires.fits.0 in
    let least : pos 0 ≤ℤ n = mint_least E total (kind c.args.ty.now) (values b0 c.args.stack.now) (values b0 c.take_key.new.stack) (values b0 c.pop.new.stack) x (seen b0 c.in-Some.top) n
    (c.in_ok-content.ensures b0) (c.in-Some.ensures b0) (c.number_in-n.ensures b0) c.requires.fits.1 in
    let S = ticket_step E total (i.ticket (kind c.args.ty.now)) V in
    let same = mint_step E total (kind c.args.ty.now) (kind c.in_ok-ty.ty) V U W x y n _ first second (c.number_in-n.ensures big) (to_z-of_z w128 n fits) (ap kind c.in_ok-ty.ensures) least in
    let last : c.from_residual-in_err-ticket.result ≡ Err c.in_err-ticket.field-0.0 = search rules in
    subst (λ r. IsDone S W r) (sym last) (minted_error S _ W W c.args.ledger.now c.mint_tickets.new.ledger c.in_err-ticket.field-0.0 same (c.in_err-ticket.ensures.minted W))

pub returns-clause-ends : goal.returns-clause-ends
returns-clause-ends c = λ big.
    let n = c.number_in-n.result in
    let E = environment c.args.env.now in
    let total = minted_of c.args.ledger.now.books.present in
    let V = values big c.args.stack.now in
    let U = values big c.take_key.new.stack in
    let W = values big c.pop.new.stack in
    let x = datum c.in_ok-content.content in
    let y = seen big c.in-Some.top in
    let first : V ≡ x ∷ U = c.in_ok-content.ensures big in
    let second : U ≡ y ∷ W = c.in-Some.ensures big in
    let fits : SFits w128 n = search rules in
    let b0 = c.requires.fits.0 in
    let least : pos 0 ≤ℤ n = mint_least E total (kind c.args.ty.now) (values b0 c.args.stack.now) (values b0 c.take_key.new.stack) (values b0 c.pop.new.stack) x (seen b0 c.in-Some.top) n
    (c.in_ok-content.ensures b0) (c.in-Some.ensures b0) (c.number_in-n.ensures b0) c.requires.fits.1 in
    let S = ticket_step E total (i.ticket (kind c.args.ty.now)) V in
    let same = mint_step E total (kind c.args.ty.now) (kind c.in_ok-ty.ty) V U W x y n _ first second (c.number_in-n.ensures big) (to_z-of_z w128 n fits) (ap kind c.in_ok-ty.ensures) least in
    is_done S _ (optional (option_map (λ (t : Ticket). as_value (held t)) c.in_ok-ticket.ticket) ∷ W) (values big c.push.new.stack) same
    (c.in_ok-push.ensures big ∙ ap (λ v. v ∷ W) (c.in_ok-value.ensures big)) (c.in_ok-ticket.ensures.minted W).0

pub returns-clause-tells : goal.returns-clause-tells
returns-clause-tells c = λ big.
    let n = c.number_in-n.result in
    let E = environment c.args.env.now in
    let total = minted_of c.args.ledger.now.books.present in
    let V = values big c.args.stack.now in
    let U = values big c.take_key.new.stack in
    let W = values big c.pop.new.stack in
    let x = datum c.in_ok-content.content in
    let y = seen big c.in-Some.top in
    let first : V ≡ x ∷ U = c.in_ok-content.ensures big in
    let second : U ≡ y ∷ W = c.in-Some.ensures big in
    let fits : SFits w128 n = search rules in
    let b0 = c.requires.fits.0 in
    let least : pos 0 ≤ℤ n = mint_least E total (kind c.args.ty.now) (values b0 c.args.stack.now) (values b0 c.take_key.new.stack) (values b0 c.pop.new.stack) x (seen b0 c.in-Some.top) n
    (c.in_ok-content.ensures b0) (c.in-Some.ensures b0) (c.number_in-n.ensures b0) c.requires.fits.1 in
    let S = ticket_step E total (i.ticket (kind c.args.ty.now)) V in
    let same = mint_step E total (kind c.args.ty.now) (kind c.in_ok-ty.ty) V U W x y n _ first second (c.number_in-n.ensures big) (to_z-of_z w128 n fits) (ap kind c.in_ok-ty.ensures) least in
    is_told S _ c.args.ledger.now c.mint_tickets.new.ledger same (c.in_ok-ticket.ensures.minted W).1
