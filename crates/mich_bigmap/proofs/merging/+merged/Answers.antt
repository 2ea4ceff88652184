use Rattle.std.proofs.Common.{sym, ap, ◌∙◌, refl}
use Rattle.rules_data.specs.values.Val.{no_pair}
use Rattle.rules_data.specs.values.Tickets.{pair_tickets}
use Rattle.rules_data.specs.big_maps.Changes.{changed}
use Rattle.mich_bigmap.specs.Bases.{entries_in, seen}
use Rattle.mich_bigmap.specs.Stacked.{base_of, bases_of}
use Rattle.mich_bigmap.proofs.Below.{entries_at, entries_missed}
use Rattle.mich_bigmap.proofs.Distinct.{distinct_layers}
use Rattle.mich_bigmap.proofs.Meaning.{none_in}
use Rattle.mich_bigmap.proofs.Overwriting.{below_extends, below_ticketless, handed_same, handed_there}
use Rattle.mich_bigmap.proofs.Plain.{none_changed}
use Rattle.mich_bigmap.proofs.merging.+merged.Goals as goal

-- the changes are merged with those of the base, and over what that is over
pub returns : goal.returns
returns t c =
    let bs = bases_of c.args.layers.now in
    let layer = c.in-Some-below.layer.now in
    let rest = bases_of c.in-Some-below.rest.now in
    let at = sym c.in-Some-below.ensures.base in
    let extends = below_extends bs c.in-Some.number (base_of layer) rest (distinct_layers c.args.layers.now c.requires.layers.numbers) at in
    let answer = c.merged.result in
    let there = c.merged.ensures.there in
    record {
      same = handed_same answer rest bs _ _ extends there c.merged.ensures.same
          (c.in_ok-all.ensures.merged rest layer.over
          ∙ ap (changed (seen c.args.changes)) (sym (ap (entries_in bs) c.in-Some.is
          ∙ entries_at bs c.in-Some.number (base_of layer) rest at)));
      there = handed_there answer rest bs extends there;
      increasing = c.merged.ensures.increasing;
      ticketless = λ h t.
          let p = below_ticketless bs c.in-Some.number (base_of layer) rest at h in
          c.merged.ensures.ticketless p.1 (c.in_ok-all.ensures.ticketless p.0 t);
    }

-- there is no base
pub returns-in_default-clause-same : goal.returns-in_default-clause-same
returns-in_default-clause-same t c =
    let bs = bases_of c.args.layers.now in
    ap (changed (seen c.in_ok-alone.field-0)) (none_in bs) ∙ c.in_ok-alone.ensures.entries
    ∙ ap (changed (seen c.args.changes)) (sym (ap (entries_in bs) c.in_default.is ∙ none_in bs))

pub returns-in_default-clause-ticketless : goal.returns-in_default-clause-ticketless
returns-in_default-clause-ticketless t c = λ h none.
    ap pair_tickets c.in_ok-alone.ensures.puts ∙ none_changed c.args.changes no_pair none refl

pub returns-in_default-below-clause-same : goal.returns-in_default-below-clause-same
returns-in_default-below-clause-same t c =
    let bs = bases_of c.args.layers.now in
    ap (changed (seen c.in_ok-alone-2.field-0)) (none_in bs) ∙ c.in_ok-alone-2.ensures.entries
    ∙ ap (changed (seen c.args.changes)) (sym (ap (entries_in bs) c.in-Some.is
    ∙ entries_missed bs c.in-Some.number (sym c.in_default-below.ensures.base)))

pub returns-in_default-below-clause-ticketless : goal.returns-in_default-below-clause-ticketless
returns-in_default-below-clause-ticketless t c = λ h none.
    ap pair_tickets c.in_ok-alone-2.ensures.puts ∙ none_changed c.args.changes no_pair none refl
