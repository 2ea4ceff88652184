use Rattle.std.proofs.Common.{◌≡◌, IfOk, Result, Ok, Err, sym, subst}
use Rattle.mich_bigmap.specs.Settling.{SettlesBig}
use Rattle.mich_bigmap.specs.Shared.{SharesBig}
use Rattle.mich_bigmap.proofs.Settled as s
use Rattle.mich_bigmap.proofs.Sharing as h
use Rattle.mich_term.proofs.ForCallers.Each as e
use Rattle.mich_term.specs.Layers.{FormedLayer}
use Rattle.mich_bigmap.specs.Layers.{BasedLayer}
use Rattle.mich_bigmap.proofs.settling_all.settle_big.Goals as goal

pub returns-in_err-whole-clause-lays : goal.returns-in_err-whole-clause-lays
returns-in_err-whole-clause-lays c = s.lays_same _

pub returns-then-not-shared-clause-lays : goal.returns-then-not-shared-clause-lays
returns-then-not-shared-clause-lays c = s.lays_same _

ok_is : {X E : Type 0} (r : Result X E) (x : X) (P : X → Type 0) → IfOk r (λ y. y ≡ x) → P x → IfOk r P
ok_is (Ok y) x P e p = subst P (sym e) p
ok_is (Err m) x P e p = tt

pub returns-clause-settles : goal.returns-clause-settles
returns-clause-settles c =
    let i = c.in_ok-settled.ensures in
    let old = c.args.store.now.bases.present in
    let new = c.settle.new.store.bases.present in
    ok_is c.new.result c.in_ok-settled.settled (SettlesBig old new c.args.big) c.new.ensures
    (subst (λ m. SettlesBig old new m c.in_ok-settled.settled) c.in_ok-whole.ensures
    (s.settles_of old new c.in_ok-whole.whole c.in_ok-settled.settled (subst (e.EachBig FormedLayer) (sym c.in_ok-whole.ensures) c.requires.formed)
    (subst (e.EachBig (BasedLayer old)) (sym c.in_ok-whole.ensures) c.requires.based) i.formed i.settled i.stays i.there i.same))

pub returns-clause-shared : goal.returns-clause-shared
returns-clause-shared c =
    let i = c.in_ok-settled.ensures in
    ok_is c.new.result c.in_ok-settled.settled (SharesBig c.args.shared c.args.big) c.new.ensures
    (subst (λ m. SharesBig c.args.shared m c.in_ok-settled.settled) c.in_ok-whole.ensures
    (h.big_settled c.args.shared c.in_ok-whole.whole c.in_ok-settled.settled c.if-not-shared.false i.settled i.stays))
