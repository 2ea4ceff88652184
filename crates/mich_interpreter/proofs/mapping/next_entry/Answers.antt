use Rattle.std.proofs.Common.{List, subst}
use Rattle.mich_instr.specs.View.{codes}
use Rattle.mich_interpreter.specs.Ends.{StandsOn}
use Rattle.mich_interpreter.specs.Made.{Entry, table_mapping}
use Rattle.mich_interpreter.proofs.Results.{table_ends}
use Rattle.mich_interpreter.proofs.mapping.next_entry.Goals as goal

pub open_entry-requires : goal.open_entry-requires
open_entry-requires c =
    let r = c.requires in
    (r.0, r.1, r.2, r.3, r.4, subst (λ (l : List Entry). StandsOn (λ big. table_mapping big (codes c.args.body) (record c.args.work { left = l })) r.0 c.args.costs.now c.args.m.now r.1 r.2 r.3 r.4) c.in-Some.ensures r.5)

pub returns-in_ok-open_entry-in-Some-clause-acts : goal.returns-in_ok-open_entry-in-Some-clause-acts
returns-in_ok-open_entry-in-Some-clause-acts c = λ x fs d Z o h.
    c.in_ok-open_entry-in-Some.ensures.acts x fs d Z o
    (subst (λ (l : List Entry). StandsOn (λ big. table_mapping big (codes c.args.body) (record c.args.work { left = l })) x c.args.costs.now c.args.m.now fs d Z o) c.in-Some.ensures h)

pub returns-in_ok-push-in-None-clause-acts : goal.returns-in_ok-push-in-None-clause-acts
returns-in_ok-push-in-None-clause-acts c = λ x fs d Z o h.
    rw (c.in_ok-push-in-None.ensures x.sight, c.in_ok-made-in-None.ensures) (table_ends x.sight c.args.work c.in-None.ensures.0 h)
