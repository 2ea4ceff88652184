use Rattle.std.proofs.Common.{ℤ, ap, sym, ◌∙◌}
use Rattle.std.proofs.lemmas.Int.{to_z-of_z}
use Rattle.std.specs.BTreeMap.{is_at}
use Rattle.std.specs.Cmp.Lexicographic.{slice_cmp}
use Rattle.std.specs.Map.{set_value}
use Rattle.std.specs.Ordering.{nat_cmp}
use Rattle.mich_base.proofs.undo_lemmas.ForCallers.{changed_is_set, changed_none}
use Rattle.mich_report.specs.Amounts.{Amounts, with_amount}
use Rattle.mich_report.proofs.gathering.write_held.Goals as goal

pub returns-in_ok-put-in-Some-clause-new : goal.returns-in_ok-put-in-Some-clause-new
returns-in_ok-put-in-Some-clause-new c =
    let v = c.in-Some.purse.now in
    let test = is_at (slice_cmp nat_cmp c.args.who.now) in
    let es = c.args.purses.now.entries in
    (c.get_mut.follows.holds c.put.new.self).0
    ∙ ap (λ (x : Amounts). set_value test es x) c.in_ok-put-in-Some.ensures
    ∙ ap (λ (n : ℤ). set_value test es (with_amount c.args.id.now n v)) (to_z-of_z _ _ c.ranges.amount)
    ∙ changed_is_set test es (with_amount c.args.id.now c.args.amount) v (sym c.in-Some.ensures.value)

pub returns-in-None-clause-new : goal.returns-in-None-clause-new
returns-in-None-clause-new c = ap (λ m. m.entries) c.get_mut.follows.holds-at-none ∙ sym (changed_none _ _ _ (sym c.in-None.ensures.value))
