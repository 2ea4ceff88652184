-- Those that are left may be told one after the other.
use Rattle.std.proofs.Common.{rules, arith, ◌≡◌, List, [], ◌∷◌, sym, subst}
use Rattle.std.proofs.lemmas.Grind.{common_steps}
use Rattle.std.specs.List.{AllByRecursion, flat_map}
use Rattle.std.specs.Vec.Iter.{into_iter_items}
use Rattle.mich_term.specs.declared.ticket.TicketId.{TicketId}
use Rattle.mich_tickets.specs.Effects.{Adds}
use Rattle.mich_tickets.specs.declared.totals.Totals.{Totals}
use Rattle.mich_world.specs.Restoring.{AreTotals, told_of}
use Rattle.mich_world.proofs.simulation_lemmas.Runs.{adds_nothing, adds_then}
use Rattle.mich_world.proofs.restoring_lemmas.Totals.{Fit, total_fits, next_fit, next_within}
use Rattle.mich_world.proofs.restoring.put_totals.Goals as goal

pub loop-id-init : goal.loop-id-init
loop-id-init c =
    let all : into_iter_items c.into_iter-id-iterator.result ≡ c.args.totals = search rules in
    let b = c.args.ledger.now.books.present in
    record {
      totals = subst (λ (l : List (TicketId × Totals)). AllByRecursion (λ (t : TicketId × Totals). AreTotals t.1) l) (sym all) c.requires.totals;
      fit = subst (λ (l : List (TicketId × Totals)). Fit l b) (sym all) c.requires.fits;
      within = c.requires.burnt;
      goes = λ x p. subst (λ (l : List (TicketId × Totals)). Adds (flat_map told_of l) b x) all p;
    }

pub put_total-requires-clause-totals : goal.put_total-requires-clause-totals
put_total-requires-clause-totals c =
    let rest = into_iter_items c.next.new.self in
    let first : into_iter_items c.loop-id.id-iterator ≡ (c.in-Some.id, c.in-Some.total) ∷ rest = search rules in
    (subst (λ (l : List (TicketId × Totals)). AllByRecursion (λ (t : TicketId × Totals). AreTotals t.1) l) first c.loop-id.invariant.totals).0

pub put_total-requires-clause-fits : goal.put_total-requires-clause-fits
put_total-requires-clause-fits c =
    let rest = into_iter_items c.next.new.self in
    let b = c.loop-id.ledger.books.present in
    let first : into_iter_items c.loop-id.id-iterator ≡ (c.in-Some.id, c.in-Some.total) ∷ rest = search rules in
    total_fits (c.in-Some.id, c.in-Some.total) rest b
    (subst (λ (l : List (TicketId × Totals)). AllByRecursion (λ (t : TicketId × Totals). AreTotals t.1) l) first c.loop-id.invariant.totals)
    (subst (λ (l : List (TicketId × Totals)). Fit l b) first c.loop-id.invariant.fit)

pub put_total-requires-clause-burnt : goal.put_total-requires-clause-burnt
put_total-requires-clause-burnt c = c.loop-id.invariant.within _

pub loop-id-preserved : goal.loop-id-preserved
loop-id-preserved c =
    let rest = into_iter_items c.next.new.self in
    let t : TicketId × Totals = (c.in-Some.id, c.in-Some.total) in
    let a = c.loop-id.ledger.books.present in
    let b = c.put_total.new.ledger.books.present in
    let first : into_iter_items c.loop-id.id-iterator ≡ t ∷ rest = search rules in
    let are = subst (λ (l : List (TicketId × Totals)). AllByRecursion (λ (x : TicketId × Totals). AreTotals x.1) l) first c.loop-id.invariant.totals in
    record {
      totals = are.1;
      fit = next_fit t rest a b (subst (λ (l : List (TicketId × Totals)). Fit l a) first c.loop-id.invariant.fit) c.in_ok-put_total.ensures;
      within = next_within t a b are.0 c.loop-id.invariant.within c.in_ok-put_total.ensures;
      goes = λ x p. c.loop-id.invariant.goes x
          (subst (λ (l : List (TicketId × Totals)). Adds (flat_map told_of l) a x) (sym first) (adds_then a b x (told_of t) (flat_map told_of rest) c.in_ok-put_total.ensures p));
    }

pub returns : goal.returns
returns c =
    let none : into_iter_items c.loop-id.id-iterator ≡ [] = grind (arith, common_steps) in
    let b = c.loop-id.ledger.books.present in
    c.loop-id.invariant.goes b (subst (λ (l : List (TicketId × Totals)). Adds (flat_map told_of l) b b) (sym none) (adds_nothing b))
