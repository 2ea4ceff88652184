use Rattle.std.proofs.Common.{◌≡◌, ◌+◌, ◌-◌, ◌^◌, min, sym, ap, ◌∙◌}
use Rattle.std.specs.Prelude.{unsigned_abs}
use Rattle.std.proofs.lemmas.Int.{to_z-of_z}
use Rattle.std.specs.BTreeMap.{is_at}
use Rattle.std.specs.Map.{set_value}
use Rattle.mich_base.proofs.undo_lemmas.ForCallers.{changed_is_set}
use Rattle.mich_tickets.specs.Lines.{by_identity}
use Rattle.mich_snapshot.proofs.Counts.{counted, is_there, more_found, not_there}
use Rattle.mich_snapshot.proofs.sums.Sums.add.Goals as goal

pub returns-in-Some : goal.returns-in-Some
returns-in-Some c = λ s found h.
    let es = c.args.self.now.found.entries in
    let id = c.args.id.now in
    let v = c.in-Some.sum.now in
    let seen = sym c.in-Some.ensures.value in
    let sum : c.saturating_add.result ≡ counted c.args.amount v =
    c.saturating_add.ensures ∙ ap (λ n. min (v + n) (2 ^ 128 - 1)) (c.unsigned_abs.ensures.value ∙ ap unsigned_abs (to_z-of_z _ _ c.ranges.amount)) in
    let written = (c.get_mut.follows.holds c.saturating_add.result).0 ∙ ap (set_value (is_at (by_identity id)) es) sum ∙ changed_is_set (is_at (by_identity id)) es (counted c.args.amount) v seen in
    (sym (is_there s found id es v h seen).0, λ e. more_found s found id c.args.amount es _ h written)

pub returns-in-None : goal.returns-in-None
returns-in-None c = λ s found h. (sym (not_there s found c.args.id.now c.args.self.now.found.entries h (sym c.in-None.ensures.value)), λ e. absurd cc)
