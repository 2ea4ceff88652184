use Rattle.std.proofs.Common.{subst, rules}
use Rattle.mich_term.specs.declared.value.Value.{the_lemmas}
use Rattle.mich_term.specs.Layers.{AreFormed, FormedLayer}
use Rattle.mich_bigmap.specs.Layers.{HasBases, BasedLayer}
use Rattle.mich_term.proofs.ForCallers.Each as e
use Rattle.mich_base.specs.TypeView.{kind}
use Rattle.mich_bigmap.proofs.Settled as s
use Rattle.mich_bigmap.proofs.Sharing as h
use Rattle.mich_bigmap.proofs.settling_all.+settle_all.Goals as goal

pub settle_all-settle_half-requires : goal.settle_all-settle_half-requires
settle_all-settle_half-requires t c = (
  search (rules, the_lemmas),
  ((e.in_pair FormedLayer _ _ (subst AreFormed c.in-Pair.is c.requires.formed)).0, (e.in_pair (BasedLayer _) _ _ (subst (HasBases _) c.in-Pair.is c.requires.based)).0),
)

pub settle_all-settle_half-requires-in-Pair : goal.settle_all-settle_half-requires-in-Pair
settle_all-settle_half-requires-in-Pair t c = (
  search (rules, the_lemmas),
  (
    (e.in_pair FormedLayer _ _ (subst AreFormed c.in-Pair.is c.requires.formed)).1,
    s.based_later _ _ _ c.in_ok-left-in-Pair.ensures.lays.others (e.in_pair (BasedLayer _) _ _ (subst (HasBases _) c.in-Pair.is c.requires.based)).1,
  ),
)

pub settle_all-returns-in_err-right-in-Pair-clause-lays : goal.settle_all-returns-in_err-right-in-Pair-clause-lays
settle_all-returns-in_err-right-in-Pair-clause-lays t c = s.lays_trans _ _ _ c.in_ok-left-in-Pair.ensures.lays c.in_err-right-in-Pair.ensures.lays

pub settle_all-returns-in_ok-right-in-Pair-clause-lays : goal.settle_all-returns-in_ok-right-in-Pair-clause-lays
settle_all-returns-in_ok-right-in-Pair-clause-lays t c = s.lays_trans _ _ _ c.in_ok-left-in-Pair.ensures.lays c.in_ok-right-in-Pair.ensures.lays

pub settle_all-returns-in_ok-right-in-Pair-clause-settles : goal.settle_all-returns-in_ok-right-in-Pair-clause-settles
settle_all-returns-in_ok-right-in-Pair-clause-settles t c =
    s.settles_from _ _ _ _ _ c.in-Pair.is
    (s.settles_pair _ _ _ _ _ _ _ (e.in_pair (BasedLayer _) _ _ (subst (HasBases _) c.in-Pair.is c.requires.based)).1
    c.in_ok-left-in-Pair.ensures.lays.others c.in_ok-right-in-Pair.ensures.lays.others c.in_ok-left-in-Pair.ensures.settles c.in_ok-right-in-Pair.ensures.settles)

pub settle_half-returns-in_err-into_value-clause-lays : goal.settle_half-returns-in_err-into_value-clause-lays
settle_half-returns-in_err-into_value-clause-lays t c = s.lays_same _

pub settle_all-returns-in_ok-right-in-Pair-clause-shared : goal.settle_all-returns-in_ok-right-in-Pair-clause-shared
settle_all-returns-in_ok-right-in-Pair-clause-shared t c =
    h.shares_from _ _ _ _ c.in-Pair.is
    (h.shares_pair (kind c.args.ty.now) _ _ _ _
    (h.shares_at _ _ _ _ c.first.ensures c.in_ok-left-in-Pair.ensures.shared)
    (h.shares_at _ _ _ _ c.second.ensures c.in_ok-right-in-Pair.ensures.shared))
