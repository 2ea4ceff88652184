use Rattle.std.proofs.Common.{sym, ap, ◌∙◌, refl}
use Rattle.std.specs.List.{list_all}
use Rattle.std.specs.Map.Iter.{deref_pair}
use Rattle.std.specs.Cmp.Lexicographic.{nat_list_cmp_total}
use Rattle.std.proofs.lemmas.Map.Iter.{btree_map_turn}
use Rattle.mich_audit.proofs.Kept.{all_lined, one_unlined}
use Rattle.mich_audit.proofs.book.all_lined.Goals as goal

pub returns-then-not-sums : goal.returns-then-not-sums
returns-then-not-sums c = λ ps ls kept.
    sym (one_unlined ps ls c.args.book.now.entries kept c.in-Some._key.now c.in-Some.sums.now
    (btree_map_turn deref_pair c.tickets.yielded c.into_iter-key-iterator.result c.tickets._key-iterator c.next.new.self c.next.result (c.in-Some._key, c.in-Some.sums)
    c.tickets.yielded_by c.in-Some.is c.next.ensures.steps nat_list_cmp_total c.args.book.now c.into_iter-key-iterator.ensures.into_iter_gives.0 c.into_iter-key-iterator.ensures.into_iter_gives.5).1
    c.if-not-sums.true)

pub returns : goal.returns
returns c = λ ps ls kept.
    sym (all_lined ps ls c.args.book.now.entries kept (sym c.tickets.invariant ∙ ap (λ es. list_all (λ e. e.1.has_line) es) c.in-None.ensures.steps.0))
