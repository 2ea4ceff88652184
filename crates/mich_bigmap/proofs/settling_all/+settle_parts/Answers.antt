use Rattle.std.proofs.Common.{◌≡◌, List, [], ◌∷◌, ◌++◌, sym, ap, ◌∙◌, subst, rules, append_assoc}
use Rattle.std.specs.Vec.Iter.{into_iter_items}
use Rattle.std.specs.List.{AllByRecursion}
use Rattle.std.specs.Map.{keys_of}
use Rattle.mich_term.specs.Keyed.{IsIncreasing}
use Rattle.mich_term.specs.declared.datum.Datum.{Datum}
use Rattle.mich_bigmap.specs.Settling.{SettlesAll, SettlesEntries}
use Rattle.mich_term.specs.declared.value.Value.{Value, the_lemmas}
use Rattle.mich_term.specs.Layers.{AreFormed, FormedLayer}
use Rattle.mich_bigmap.specs.Layers.{HasBases, BasedLayer}
use Rattle.mich_term.proofs.ForCallers.Each as e
use Rattle.mich_base.specs.TypeView.{kind}
use Rattle.mich_term.specs.Layers.{NoBigMap}
use Rattle.mich_bigmap.specs.Shared.{EntriesShareBy, ShareBy}
use Rattle.mich_bigmap.proofs.Settled as s
use Rattle.mich_bigmap.proofs.Sharing as h
use Rattle.mich_bigmap.proofs.settling_all.+settle_parts.Goals as goal

pub settle_parts-settle_link-requires : goal.settle_parts-settle_link-requires
settle_parts-settle_link-requires t c = (search (rules, the_lemmas), (e.in_some FormedLayer _ (subst AreFormed c.in-Some.is c.requires.formed), e.in_some (BasedLayer _) _ (subst (HasBases _) c.in-Some.is c.requires.based)))

pub settle_parts-returns-in_ok-settle_link-in-Some-clause-settles : goal.settle_parts-returns-in_ok-settle_link-in-Some-clause-settles
settle_parts-returns-in_ok-settle_link-in-Some-clause-settles t c = s.settles_from _ _ _ _ _ c.in-Some.is (s.settles_some _ _ _ _ c.in_ok-settle_link-in-Some.ensures.settles)

pub settle_parts-settle_link-requires-in-Left : goal.settle_parts-settle_link-requires-in-Left
settle_parts-settle_link-requires-in-Left t c = (search (rules, the_lemmas), (e.in_left FormedLayer _ (subst AreFormed c.in-Left.is c.requires.formed), e.in_left (BasedLayer _) _ (subst (HasBases _) c.in-Left.is c.requires.based)))

pub settle_parts-returns-in_ok-settle_link-in-Left-clause-settles : goal.settle_parts-returns-in_ok-settle_link-in-Left-clause-settles
settle_parts-returns-in_ok-settle_link-in-Left-clause-settles t c = s.settles_from _ _ _ _ _ c.in-Left.is (s.settles_left _ _ _ _ c.in_ok-settle_link-in-Left.ensures.settles)

pub settle_parts-settle_link-requires-in-Right : goal.settle_parts-settle_link-requires-in-Right
settle_parts-settle_link-requires-in-Right t c = (search (rules, the_lemmas), (e.in_right FormedLayer _ (subst AreFormed c.in-Right.is c.requires.formed), e.in_right (BasedLayer _) _ (subst (HasBases _) c.in-Right.is c.requires.based)))

pub settle_parts-returns-in_ok-settle_link-in-Right-clause-settles : goal.settle_parts-returns-in_ok-settle_link-in-Right-clause-settles
settle_parts-returns-in_ok-settle_link-in-Right-clause-settles t c = s.settles_from _ _ _ _ _ c.in-Right.is (s.settles_right _ _ _ _ c.in_ok-settle_link-in-Right.ensures.settles)

pub settle_parts-settle_link-requires-in-Pair : goal.settle_parts-settle_link-requires-in-Pair
settle_parts-settle_link-requires-in-Pair t c =
    (search (rules, the_lemmas), ((e.in_pair FormedLayer _ _ (subst AreFormed c.in-Pair.is c.requires.formed)).0, (e.in_pair (BasedLayer _) _ _ (subst (HasBases _) c.in-Pair.is c.requires.based)).0))

pub settle_parts-settle_link-requires-in-Pair-2 : goal.settle_parts-settle_link-requires-in-Pair-2
settle_parts-settle_link-requires-in-Pair-2 t c = (
  search (rules, the_lemmas),
  (
    (e.in_pair FormedLayer _ _ (subst AreFormed c.in-Pair.is c.requires.formed)).1,
    s.based_later _ _ _ c.in_ok-left-in-Pair.ensures.lays.others (e.in_pair (BasedLayer _) _ _ (subst (HasBases _) c.in-Pair.is c.requires.based)).1,
  ),
)

pub settle_parts-returns-in_err-right-in-Pair-clause-lays : goal.settle_parts-returns-in_err-right-in-Pair-clause-lays
settle_parts-returns-in_err-right-in-Pair-clause-lays t c = s.lays_trans _ _ _ c.in_ok-left-in-Pair.ensures.lays c.in_err-right-in-Pair.ensures.lays

pub settle_parts-returns-in_ok-right-in-Pair-clause-lays : goal.settle_parts-returns-in_ok-right-in-Pair-clause-lays
settle_parts-returns-in_ok-right-in-Pair-clause-lays t c = s.lays_trans _ _ _ c.in_ok-left-in-Pair.ensures.lays c.in_ok-right-in-Pair.ensures.lays

pub settle_parts-returns-in_ok-right-in-Pair-clause-settles : goal.settle_parts-returns-in_ok-right-in-Pair-clause-settles
settle_parts-returns-in_ok-right-in-Pair-clause-settles t c =
    s.settles_from _ _ _ _ _ c.in-Pair.is
    (s.settles_pair _ _ _ _ _ _ _ (e.in_pair (BasedLayer _) _ _ (subst (HasBases _) c.in-Pair.is c.requires.based)).1
    c.in_ok-left-in-Pair.ensures.lays.others c.in_ok-right-in-Pair.ensures.lays.others c.in_ok-left-in-Pair.ensures.settles c.in_ok-right-in-Pair.ensures.settles)

pub settle_parts-settle_list-requires : goal.settle_parts-settle_list-requires
settle_parts-settle_list-requires t c = (search (rules, the_lemmas), (e.in_list FormedLayer _ (subst AreFormed c.in-List.is c.requires.formed), e.in_list (BasedLayer _) _ (subst (HasBases _) c.in-List.is c.requires.based)))

pub settle_parts-settle_table-requires : goal.settle_parts-settle_table-requires
settle_parts-settle_table-requires t c = (search (rules, the_lemmas), (e.in_map FormedLayer _ (subst AreFormed c.in-Map.is c.requires.formed), e.in_map (BasedLayer _) _ (subst (HasBases _) c.in-Map.is c.requires.based)))

pub settle_parts-returns-in_ok-settle_list-in-List-clause-settles : goal.settle_parts-returns-in_ok-settle_list-in-List-clause-settles
settle_parts-returns-in_ok-settle_list-in-List-clause-settles t c = s.settles_from _ _ _ _ _ c.in-List.is (s.settles_list _ _ _ _ c.in_ok-settle_list-in-List.ensures.settles)

pub settle_parts-returns-in_ok-settle_table-in-Map-clause-settles : goal.settle_parts-returns-in_ok-settle_table-in-Map-clause-settles
settle_parts-returns-in_ok-settle_table-in-Map-clause-settles t c = s.settles_from _ _ _ _ _ c.in-Map.is (s.settles_map _ _ _ _ c.in_ok-settle_table-in-Map.ensures.settles)

pub settle_parts-returns-in_ok-settle_big-in-BigMap-clause-settles : goal.settle_parts-returns-in_ok-settle_big-in-BigMap-clause-settles
settle_parts-returns-in_ok-settle_big-in-BigMap-clause-settles t c = s.settles_from _ _ _ _ _ c.in-BigMap.is (s.settles_big _ _ _ _ c.in_ok-settle_big-in-BigMap.ensures.settles)

pub settle_parts-returns-in-Unit-clause-settles : goal.settle_parts-returns-in-Unit-clause-settles
settle_parts-returns-in-Unit-clause-settles t c = s.settles_from _ _ _ _ _ c.in-Unit.is (s.settles_unit _)

pub settle_parts-returns-in-Unit-clause-lays : goal.settle_parts-returns-in-Unit-clause-lays
settle_parts-returns-in-Unit-clause-lays t c = s.lays_same _

pub settle_parts-returns-in-Bool-clause-settles : goal.settle_parts-returns-in-Bool-clause-settles
settle_parts-returns-in-Bool-clause-settles t c = s.settles_from _ _ _ _ _ c.in-Bool.is (s.settles_bool _ c.in-Bool.b)

pub settle_parts-returns-in-Bool-clause-lays : goal.settle_parts-returns-in-Bool-clause-lays
settle_parts-returns-in-Bool-clause-lays t c = s.lays_same _

pub settle_parts-returns-in-Number-clause-settles : goal.settle_parts-returns-in-Number-clause-settles
settle_parts-returns-in-Number-clause-settles t c = s.settles_same _ _ _ c.in-Number.is (s.settles_number _ _)

pub settle_parts-returns-in-Number-clause-lays : goal.settle_parts-returns-in-Number-clause-lays
settle_parts-returns-in-Number-clause-lays t c = s.lays_same _

pub settle_parts-returns-in-Text-clause-settles : goal.settle_parts-returns-in-Text-clause-settles
settle_parts-returns-in-Text-clause-settles t c = s.settles_from _ _ _ _ _ c.in-Text.is (s.settles_text _ c.in-Text.text)

pub settle_parts-returns-in-Text-clause-lays : goal.settle_parts-returns-in-Text-clause-lays
settle_parts-returns-in-Text-clause-lays t c = s.lays_same _

pub settle_parts-returns-in-Bytes-clause-settles : goal.settle_parts-returns-in-Bytes-clause-settles
settle_parts-returns-in-Bytes-clause-settles t c = s.settles_from _ _ _ _ _ c.in-Bytes.is (s.settles_bytes _ c.in-Bytes.bytes)

pub settle_parts-returns-in-Bytes-clause-lays : goal.settle_parts-returns-in-Bytes-clause-lays
settle_parts-returns-in-Bytes-clause-lays t c = s.lays_same _

pub settle_parts-returns-in-None-clause-settles : goal.settle_parts-returns-in-None-clause-settles
settle_parts-returns-in-None-clause-settles t c = s.settles_from _ _ _ _ _ c.in-None.is (s.settles_none _)

pub settle_parts-returns-in-None-clause-lays : goal.settle_parts-returns-in-None-clause-lays
settle_parts-returns-in-None-clause-lays t c = s.lays_same _

pub settle_parts-returns-in-Set-clause-settles : goal.settle_parts-returns-in-Set-clause-settles
settle_parts-returns-in-Set-clause-settles t c = s.settles_from _ _ _ _ _ c.in-Set.is (s.settles_set _ c.in-Set.elements)

pub settle_parts-returns-in-Set-clause-lays : goal.settle_parts-returns-in-Set-clause-lays
settle_parts-returns-in-Set-clause-lays t c = s.lays_same _

pub settle_parts-returns-in-Lambda-clause-settles : goal.settle_parts-returns-in-Lambda-clause-settles
settle_parts-returns-in-Lambda-clause-settles t c = s.settles_from _ _ _ _ _ c.in-Lambda.is (s.settles_lambda _ c.in-Lambda.body c.in-Lambda.recursive)

pub settle_parts-returns-in-Lambda-clause-lays : goal.settle_parts-returns-in-Lambda-clause-lays
settle_parts-returns-in-Lambda-clause-lays t c = s.lays_same _

pub settle_parts-returns-in-Operation-clause-settles : goal.settle_parts-returns-in-Operation-clause-settles
settle_parts-returns-in-Operation-clause-settles t c = s.settles_from _ _ _ _ _ c.in-Operation.is (s.settles_operation _ c.in-Operation.number)

pub settle_parts-returns-in-Operation-clause-lays : goal.settle_parts-returns-in-Operation-clause-lays
settle_parts-returns-in-Operation-clause-lays t c = s.lays_same _

pub settle_parts-returns-in-Ticket-clause-settles : goal.settle_parts-returns-in-Ticket-clause-settles
settle_parts-returns-in-Ticket-clause-settles t c = s.settles_from _ _ _ _ _ c.in-Ticket.is (s.settles_ticket _ c.in-Ticket.ticket)

pub settle_parts-returns-in-Ticket-clause-lays : goal.settle_parts-returns-in-Ticket-clause-lays
settle_parts-returns-in-Ticket-clause-lays t c = s.lays_same _

pub settle_link-returns-in_err-into_value-clause-lays : goal.settle_link-returns-in_err-into_value-clause-lays
settle_link-returns-in_err-into_value-clause-lays t c = s.lays_same _

pub settle_list-loop-value-init : goal.settle_list-loop-value-init
settle_list-loop-value-init t c =
    let is : into_iter_items c.into_iter-value-iterator.result ≡ c.args.values = search rules in
    record {
      place = is;
      done = subst (λ (vs : List Value). SettlesAll c.args.store.now.bases.present c.args.store.now.bases.present [] vs) (sym c.new-copies.ensures) (s.settles_empty c.args.store.now.bases.present);
      formed = subst (AllByRecursion AreFormed) (sym is) c.requires.formed;
      based = subst (AllByRecursion (HasBases c.args.store.now.bases.present)) (sym is) c.requires.based;
      lays = s.lays_same c.args.store.now;
      shared = subst (λ (vs : List Value). ShareBy (kind c.args.ty.now) [] vs) (sym c.new-copies.ensures) (h.share_empty (kind c.args.ty.now));
    }

pub settle_list-settle_parts-requires : goal.settle_list-settle_parts-requires
settle_list-settle_parts-requires t c =
    let left = into_iter_items c.loop-value.value-iterator in
    let first : left ≡ c.in-Some.value ∷ into_iter_items c.next.new.self = search rules in
    let formed : AllByRecursion AreFormed (c.in-Some.value ∷ into_iter_items c.next.new.self) = subst (AllByRecursion AreFormed) first c.loop-value.invariant.formed in
    let based : AllByRecursion (HasBases c.args.store.now.bases.present) (c.in-Some.value ∷ into_iter_items c.next.new.self) = subst (AllByRecursion (HasBases c.args.store.now.bases.present)) first c.loop-value.invariant.based in
    (search (rules, the_lemmas), (formed.0, s.based_later _ _ _ c.loop-value.invariant.lays.others based.0))

pub settle_list-returns-in_err-settle_parts-clause-lays : goal.settle_list-returns-in_err-settle_parts-clause-lays
settle_list-returns-in_err-settle_parts-clause-lays t c = s.lays_trans _ _ _ c.loop-value.invariant.lays c.settle_parts.ensures.lays

pub settle_list-loop-value-preserved : goal.settle_list-loop-value-preserved
settle_list-loop-value-preserved t c =
    let old = c.args.store.now.bases.present in
    let rest = into_iter_items c.next.new.self in
    let first : into_iter_items c.loop-value.value-iterator ≡ c.in-Some.value ∷ rest = search rules in
    let formed : AllByRecursion AreFormed (c.in-Some.value ∷ rest) = subst (AllByRecursion AreFormed) first c.loop-value.invariant.formed in
    let based : AllByRecursion (HasBases old) (c.in-Some.value ∷ rest) = subst (AllByRecursion (HasBases old)) first c.loop-value.invariant.based in
    record {
      place = append_assoc c.loop-value.yielded (c.in-Some.value ∷ []) rest ∙ ap (λ (vs : List Value). c.loop-value.yielded ++ vs) (sym first) ∙ c.loop-value.invariant.place;
      done = subst (λ (vs : List Value). SettlesAll old c.settle_parts.new.store.bases.present (c.loop-value.yielded ++ c.in-Some.value ∷ []) vs) (sym c.in_ok-push.ensures.pushed)
          (s.settles_more _ _ _ _ _ _ _ c.loop-value.invariant.done based.0 c.loop-value.invariant.lays.others c.settle_parts.ensures.lays.others c.in_ok-settle_parts.ensures.settles);
      formed = formed.1;
      based = based.1;
      lays = s.lays_trans _ _ _ c.loop-value.invariant.lays c.settle_parts.ensures.lays;
      shared = subst (λ (vs : List Value). ShareBy (kind c.args.ty.now) (c.loop-value.yielded ++ c.in-Some.value ∷ []) vs) (sym c.in_ok-push.ensures.pushed)
          (h.share_more _ _ _ _ _ c.loop-value.invariant.shared c.in_ok-settle_parts.ensures.shared);
    }

pub settle_list-returns-in_err-push-clause-lays : goal.settle_list-returns-in_err-push-clause-lays
settle_list-returns-in_err-push-clause-lays t c = s.lays_trans _ _ _ c.loop-value.invariant.lays c.settle_parts.ensures.lays

pub settle_list-returns-in_err-into_value-clause-lays : goal.settle_list-returns-in_err-into_value-clause-lays
settle_list-returns-in_err-into_value-clause-lays t c = s.lays_same _

pub settle_table-returns-in_err-into_value-clause-lays : goal.settle_table-returns-in_err-into_value-clause-lays
settle_table-returns-in_err-into_value-clause-lays t c = s.lays_same _

pub settle_table-loop-key-init : goal.settle_table-loop-key-init
settle_table-loop-key-init t c =
    let is : c.into_iter-key-iterator.result ≡ c.args.table = search rules in
    record {
      place = is;
      done = subst (λ (vs : List (Datum × Value)). SettlesEntries c.args.store.now.bases.present c.args.store.now.bases.present [] vs) (sym c.new-copies.ensures) (s.settles_nothing c.args.store.now.bases.present);
      formed = subst (AllByRecursion (λ (x : Datum × Value). AreFormed x.1)) (sym is) c.requires.formed;
      based = subst (AllByRecursion (λ (x : Datum × Value). HasBases c.args.store.now.bases.present x.1)) (sym is) c.requires.based;
      here = subst (AllByRecursion (λ (x : Datum × Value). HasBases c.args.store.now.bases.present x.1)) (sym is) c.requires.based;
      lays = s.lays_same c.args.store.now;
      shared = subst (λ (vs : List (Datum × Value)). EntriesShareBy (kind c.args.ty.now) [] vs) (sym c.new-copies.ensures) (h.share_nothing (kind c.args.ty.now));
    }

pub settle_table-returns-in_err-settled-clause-lays : goal.settle_table-returns-in_err-settled-clause-lays
settle_table-returns-in_err-settled-clause-lays t c = s.lays_trans _ _ _ c.loop-key.invariant.lays c.settle_parts.ensures.lays

pub settle_table-returns-in_err-old-clause-lays : goal.settle_table-returns-in_err-old-clause-lays
settle_table-returns-in_err-old-clause-lays t c = s.lays_trans _ _ _ c.loop-key.invariant.lays c.settle_parts.ensures.lays

pub settle_table-loop-key-preserved : goal.settle_table-loop-key-preserved
settle_table-loop-key-preserved t c =
    let old = c.args.store.now.bases.present in
    let increasing = subst (λ (es : List (Datum × Value)). IsIncreasing (keys_of es)) c.get.ensures c.len-count.ensures.increasing in
    let rest = c.next.new.self in
    let one : Datum × Value = (c.in-Some.key, c.in-Some.value) in
    let first : c.loop-key.key-iterator ≡ one ∷ rest = search rules in
    let formed : AllByRecursion (λ (x : Datum × Value). AreFormed x.1) (one ∷ rest) = subst (AllByRecursion (λ (x : Datum × Value). AreFormed x.1)) first c.loop-key.invariant.formed in
    let based : AllByRecursion (λ (x : Datum × Value). HasBases old x.1) (one ∷ rest) = subst (AllByRecursion (λ (x : Datum × Value). HasBases old x.1)) first c.loop-key.invariant.based in
    let whole : c.loop-key.yielded ++ one ∷ rest ≡ c.args.table = ap (λ (vs : List (Datum × Value)). c.loop-key.yielded ++ vs) (sym first) ∙ c.loop-key.invariant.place in
    let last = s.entries_last _ _ _ _ _ rest c.args.table c.in-Some.key c.in-Some.value _ c.loop-key.invariant.done increasing whole c.in_ok-old.ensures.new in
    record {
      place = append_assoc c.loop-key.yielded (one ∷ []) rest ∙ whole;
      done = s.settles_entry _ _ _ _ _ _ c.in-Some.key c.in-Some.value _ c.loop-key.invariant.done based.0 c.loop-key.invariant.lays.others c.settle_parts.ensures.lays.others
          c.in_ok-settled.ensures.settles last;
      shared = h.share_entry _ _ _ _ c.in-Some.key c.in-Some.value _ c.loop-key.invariant.shared c.in_ok-settled.ensures.shared last;
      formed = formed.1;
      here = s.entries_based _ _ _ (s.extends_trans _ _ _ c.loop-key.invariant.lays.others c.settle_parts.ensures.lays.others) based.1;
      based = based.1;
      lays = s.lays_trans _ _ _ c.loop-key.invariant.lays c.settle_parts.ensures.lays;
    }

pub settle_parts-settle_big-requires-clause-formed : goal.settle_parts-settle_big-requires-clause-formed
settle_parts-settle_big-requires-clause-formed t c = e.in_big FormedLayer _ (subst AreFormed c.in-BigMap.is c.requires.formed)

pub settle_parts-settle_big-requires-clause-based : goal.settle_parts-settle_big-requires-clause-based
settle_parts-settle_big-requires-clause-based t c = e.in_big (BasedLayer _) _ (subst (HasBases _) c.in-BigMap.is c.requires.based)

pub settle_parts-returns-in_ok-settle_link-in-Some-clause-shared : goal.settle_parts-returns-in_ok-settle_link-in-Some-clause-shared
settle_parts-returns-in_ok-settle_link-in-Some-clause-shared t c =
    h.shares_from _ _ _ _ c.in-Some.is
    (h.shares_some (kind c.args.ty.now) _ _ (h.shares_at _ _ _ _ c.inner.ensures c.in_ok-settle_link-in-Some.ensures.shared))

pub settle_parts-returns-in_ok-settle_link-in-Left-clause-shared : goal.settle_parts-returns-in_ok-settle_link-in-Left-clause-shared
settle_parts-returns-in_ok-settle_link-in-Left-clause-shared t c =
    h.shares_from _ _ _ _ c.in-Left.is
    (h.shares_left (kind c.args.ty.now) _ _ (h.shares_at _ _ _ _ c.first.ensures c.in_ok-settle_link-in-Left.ensures.shared))

pub settle_parts-returns-in_ok-settle_link-in-Right-clause-shared : goal.settle_parts-returns-in_ok-settle_link-in-Right-clause-shared
settle_parts-returns-in_ok-settle_link-in-Right-clause-shared t c =
    h.shares_from _ _ _ _ c.in-Right.is
    (h.shares_right (kind c.args.ty.now) _ _ (h.shares_at _ _ _ _ c.second.ensures c.in_ok-settle_link-in-Right.ensures.shared))

pub settle_parts-returns-in_ok-right-in-Pair-clause-shared : goal.settle_parts-returns-in_ok-right-in-Pair-clause-shared
settle_parts-returns-in_ok-right-in-Pair-clause-shared t c =
    h.shares_from _ _ _ _ c.in-Pair.is
    (h.shares_pair (kind c.args.ty.now) _ _ _ _
    (h.shares_at _ _ _ _ c.first-in-Pair.ensures c.in_ok-left-in-Pair.ensures.shared)
    (h.shares_at _ _ _ _ c.second-in-Pair.ensures c.in_ok-right-in-Pair.ensures.shared))

pub settle_parts-returns-in_ok-settle_list-in-List-clause-shared : goal.settle_parts-returns-in_ok-settle_list-in-List-clause-shared
settle_parts-returns-in_ok-settle_list-in-List-clause-shared t c =
    h.shares_from _ _ _ _ c.in-List.is
    (h.shares_list (kind c.args.ty.now) _ _ (h.share_at _ _ _ _ c.inner-in-List.ensures c.in_ok-settle_list-in-List.ensures.shared))

pub settle_parts-returns-in_ok-settle_table-in-Map-clause-shared : goal.settle_parts-returns-in_ok-settle_table-in-Map-clause-shared
settle_parts-returns-in_ok-settle_table-in-Map-clause-shared t c =
    h.shares_from _ _ _ _ c.in-Map.is
    (h.shares_map (kind c.args.ty.now) _ _ (h.entries_share_at _ _ _ _ c.entry.ensures c.in_ok-settle_table-in-Map.ensures.shared))

pub settle_parts-returns-in_ok-settle_big-in-BigMap-clause-shared : goal.settle_parts-returns-in_ok-settle_big-in-BigMap-clause-shared
settle_parts-returns-in_ok-settle_big-in-BigMap-clause-shared t c =
    h.shares_from _ _ _ _ c.in-BigMap.is
    (h.shares_big (kind c.args.ty.now) _ _ (h.big_at _ _ _ _ c.shares.ensures c.in_ok-settle_big-in-BigMap.ensures.shared))

pub settle_parts-returns-in-Unit-clause-shared : goal.settle_parts-returns-in-Unit-clause-shared
settle_parts-returns-in-Unit-clause-shared t c = h.shares_from _ _ _ _ c.in-Unit.is (h.shares_plain _ _ (e.of_unit NoBigMap))

pub settle_parts-returns-in-Bool-clause-shared : goal.settle_parts-returns-in-Bool-clause-shared
settle_parts-returns-in-Bool-clause-shared t c = h.shares_from _ _ _ _ c.in-Bool.is (h.shares_plain _ _ (e.of_bool NoBigMap c.in-Bool.b))

pub settle_parts-returns-in-Number-clause-shared : goal.settle_parts-returns-in-Number-clause-shared
settle_parts-returns-in-Number-clause-shared t c = h.shares_plain _ _ (subst (e.Each NoBigMap) (sym c.in-Number.is) (e.of_number NoBigMap _))

pub settle_parts-returns-in-Text-clause-shared : goal.settle_parts-returns-in-Text-clause-shared
settle_parts-returns-in-Text-clause-shared t c = h.shares_from _ _ _ _ c.in-Text.is (h.shares_plain _ _ (e.of_text NoBigMap c.in-Text.text))

pub settle_parts-returns-in-Bytes-clause-shared : goal.settle_parts-returns-in-Bytes-clause-shared
settle_parts-returns-in-Bytes-clause-shared t c = h.shares_from _ _ _ _ c.in-Bytes.is (h.shares_plain _ _ (e.of_bytes NoBigMap c.in-Bytes.bytes))

pub settle_parts-returns-in-None-clause-shared : goal.settle_parts-returns-in-None-clause-shared
settle_parts-returns-in-None-clause-shared t c = h.shares_from _ _ _ _ c.in-None.is (h.shares_plain _ _ (e.of_none NoBigMap))

pub settle_parts-returns-in-Set-clause-shared : goal.settle_parts-returns-in-Set-clause-shared
settle_parts-returns-in-Set-clause-shared t c = h.shares_from _ _ _ _ c.in-Set.is (h.shares_plain _ _ (e.of_set NoBigMap c.in-Set.elements))

pub settle_parts-returns-in-Lambda-clause-shared : goal.settle_parts-returns-in-Lambda-clause-shared
settle_parts-returns-in-Lambda-clause-shared t c = h.shares_from _ _ _ _ c.in-Lambda.is (h.shares_plain _ _ (e.of_lambda NoBigMap c.in-Lambda.body c.in-Lambda.recursive))

pub settle_parts-returns-in-Operation-clause-shared : goal.settle_parts-returns-in-Operation-clause-shared
settle_parts-returns-in-Operation-clause-shared t c = h.shares_from _ _ _ _ c.in-Operation.is (h.shares_plain _ _ (e.of_operation NoBigMap c.in-Operation.number))

pub settle_parts-returns-in-Ticket-clause-shared : goal.settle_parts-returns-in-Ticket-clause-shared
settle_parts-returns-in-Ticket-clause-shared t c = h.shares_from _ _ _ _ c.in-Ticket.is (h.shares_plain _ _ (e.of_ticket NoBigMap c.in-Ticket.ticket))
