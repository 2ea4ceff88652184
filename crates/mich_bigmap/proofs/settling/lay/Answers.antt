use Rattle.std.proofs.Common.{◌≡◌, ℕ, IfOk, Result, Ok, Err, Some, sym, ◌∙◌, subst}
use Rattle.rules_data.specs.values.Val.{Pairs}
use Rattle.rules_data.specs.big_maps.Changes.{changed}
use Rattle.mich_base.specs.declared.memory.Memory.{Memory}
use Rattle.mich_bigmap.specs.Bases.{Bases, entries_in, seen}
use Rattle.mich_bigmap.specs.Ticketless.{HoldNoTickets}
use Rattle.mich_bigmap.proofs.settling.lay.Goals as goal

then : (r : Result ℕ Memory) (f : ℕ → Pairs) (ps qs : Pairs) → IfOk r (λ k. f k ≡ ps) → ps ≡ qs → IfOk r (λ k. f k ≡ qs)
then (Ok k) f ps qs h e = h ∙ e
then (Err m) f ps qs h e = tt

-- the merged changes stand for what the changes over the base stand for
pub returns-clause-same : goal.returns-clause-same
returns-clause-same c =
    let new = c.extend.new.self.bases.present in
    then c.extend.result (λ k. entries_in new (Some k)) _ _ c.extend.ensures.same
    (subst (λ (bs : Bases). changed (seen c.in_ok-under.all) (entries_in bs c.in_ok-under.under)
    ≡ changed (seen c.args.changes) (entries_in bs c.args.over)) c.layers.ensures.bases
    c.in_ok-under.ensures.same)

-- they put no ticket where neither the changes nor the store do
pub returns-clause-ticketless : goal.returns-clause-ticketless
returns-clause-ticketless c = λ h t.
    c.extend.ensures.ticketless h (c.in_ok-under.ensures.ticketless (subst HoldNoTickets (sym c.layers.ensures.bases) h) t)
