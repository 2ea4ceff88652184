-- Operations that wait, as a list whose last one is next.
use Rattle.std.proofs.Common.{◌≡◌, ℕ, true, is_some, List, [], ◌∷◌, ◌++◌, map, refl, sym, ap, ◌∙◌, subst}
use Rattle.std.specs.Prelude.{reverse}
use Rattle.std.specs.List.{AllByRecursion}
use Rattle.std.proofs.lemmas.List.{append-nil, append_assoc, map-append, reverse-append, reverse-reverse}
use Rattle.rules_data.specs.forms.Spelling.{contract_place}
use Rattle.rules_code.specs.evaluation.Operations.{transfer, origination, event}
use Rattle.rules_data.specs.values.Val.{Val}
use Rattle.rules_world.specs.world.Outcomes.{issued}
use Rattle.mich_base.specs.TypeView.{kind}
use Rattle.mich_forms.specs.Spelled.{address_bytes}
use Rattle.mich_bigmap.specs.Bases.{Bases}
use Rattle.mich_bigmap.specs.Extended.{Extends}
use Rattle.mich_bigmap.proofs.ForCallers.{based_later, val_later}
use Rattle.mich_ops.specs.Issued.{numbered}
use Rattle.mich_instr.specs.View.{script_node}
use Rattle.mich_ops.specs.declared.issued.Issued.{Issued}
use Rattle.mich_ops.specs.declared.issued.Issued.TheVariants as i
use Rattle.mich_machine.specs.Calls.{issued_in, IsHanded}
use Rattle.mich_operations.specs.Going.{issued_by, KeepsContracts}
use Rattle.mich_base.specs.Counted.{IsNotEmpty}
use Rattle.mich_world.specs.Holders.{contract_at}
use Rattle.mich_world.specs.World.{World}
use Rattle.mich_group.specs.Waiting.{sent, sent_by, all_sent, AreHanded}
use Rattle.mich_group.specs.declared.waiting.Sent.{Sent}

-- the last one is the next
pub all_sent_last : (bs : Bases) (ss : List Sent) (s : Sent) → all_sent bs (ss ++ s ∷ []) ≡ sent bs s ∷ all_sent bs ss
all_sent_last bs ss s = ap (map (sent bs)) (reverse-append ss (s ∷ []))

sent_map : (bs : Bases) (by : List ℕ) (is : List Issued) → map (sent bs) (map (sent_by by) is) ≡ map (issued_by bs by) is
sent_map bs by [] = refl
sent_map bs by (x ∷ is) = ap (λ t. issued_by bs by x ∷ t) (sent_map bs by is)

-- those that were sent go before the others
pub all_sent_more : (bs : Bases) (by : List ℕ) (ss : List Sent) (is : List Issued) → all_sent bs (ss ++ reverse (map (sent_by by) is)) ≡ map (issued_by bs by) is ++ all_sent bs ss
all_sent_more bs by ss is =
    ap (map (sent bs)) (reverse-append ss (reverse (map (sent_by by) is)) ∙ ap (λ t. t ++ reverse ss) (reverse-reverse (map (sent_by by) is)))
    ∙ map-append (sent bs) (map (sent_by by) is) (reverse ss)
    ∙ ap (λ t. t ++ all_sent bs ss) (sent_map bs by is)

-- one that is sent
pub send_one : (by : List ℕ) (ss : List Sent) (is : List Issued) (x : Issued) →
    (ss ++ sent_by by x ∷ []) ++ reverse (map (sent_by by) is) ≡ ss ++ reverse (map (sent_by by) (is ++ x ∷ []))
send_one by ss is x =
    append_assoc ss (sent_by by x ∷ []) (reverse (map (sent_by by) is))
    ∙ ap (λ t. ss ++ t) (sym (ap reverse (map-append (sent_by by) is (x ∷ [])) ∙ reverse-append (map (sent_by by) is) (sent_by by x ∷ [])))

-- ---- what they hand over

module _ {X : Type 0} (P : X → Type 0) where
  all_append : (xs ys : List X) → AllByRecursion P xs → AllByRecursion P ys → AllByRecursion P (xs ++ ys)
  all_append [] ys a b = b
  all_append (x ∷ xs) ys a b = (a.0, all_append xs ys a.1 b)

  all_front : (xs ys : List X) → AllByRecursion P (xs ++ ys) → AllByRecursion P xs
  all_front [] ys a = tt
  all_front (x ∷ xs) ys a = (a.0, all_front xs ys a.1)

  all_back : (xs ys : List X) → AllByRecursion P (xs ++ ys) → AllByRecursion P ys
  all_back [] ys a = a
  all_back (x ∷ xs) ys a = all_back xs ys a.1

-- what is so of each
abbrev IsHeld : World → Sent → Type 0
IsHeld v s = IsHanded v.store.bases.present s.operation × (is_some (contract_at v.funds.present s.by) ≡ true)

pub handed_front : (v : World) (ss : List Sent) (s : Sent) → AreHanded v (ss ++ s ∷ []) → AreHanded v ss
handed_front v ss s h = all_front (IsHeld v) ss (s ∷ []) h

pub handed_last : (v : World) (ss : List Sent) (s : Sent) → AreHanded v (ss ++ s ∷ []) → IsHanded v.store.bases.present s.operation × (is_some (contract_at v.funds.present s.by) ≡ true)
handed_last v ss s h = (all_back (IsHeld v) ss (s ∷ []) h).0

each_held : (v : World) (by : List ℕ) (ss : List Sent) (is : List Issued) → AllByRecursion (IsHanded v.store.bases.present) is →
    is_some (contract_at v.funds.present by) ≡ true → AreHanded v ss → AreHanded v (ss ++ reverse (map (sent_by by) is))
each_held v by ss [] a t h = subst (AreHanded v) (sym (append-nil ss)) h
each_held v by ss (x ∷ is) a t h =
    let e : ss ++ reverse (map (sent_by by) (x ∷ is)) ≡ (ss ++ reverse (map (sent_by by) is)) ++ sent_by by x ∷ []
    = ap (λ t. ss ++ t) (reverse-append (sent_by by x ∷ []) (map (sent_by by) is)) ∙ sym (append_assoc ss (reverse (map (sent_by by) is)) (sent_by by x ∷ [])) in
    subst (AreHanded v) (sym e)
    (all_append (IsHeld v) (ss ++ reverse (map (sent_by by) is)) (sent_by by x ∷ []) (each_held v by ss is a.1 t h) ((a.0, t), tt))

pub handed_each : (v : World) (by : List ℕ) (ss : List Sent) (is : List Issued) → AllByRecursion (IsHanded v.store.bases.present) is →
    (IsNotEmpty is → is_some (contract_at v.funds.present by) ≡ true) → AreHanded v ss → AreHanded v (ss ++ reverse (map (sent_by by) is))
handed_each v by ss [] a t h = subst (AreHanded v) (sym (append-nil ss)) h
handed_each v by ss (x ∷ is) a t h = each_held v by ss (x ∷ is) a (t tt) h

-- ---- bases that are added

issued_later : (old new : Bases) (x : Issued) → Extends old new → IsHanded old x → issued_in new x ≡ issued_in old x
issued_later old new (i.Transfer number argument amount to) e h =
    ap (λ (v : Val). numbered number (transfer v amount (address_bytes to))) (val_later old new argument e h.1)
issued_later old new (i.Origination number delegate amount script storage hash) e h =
    ap (λ (v : Val). numbered number (origination delegate amount (script_node script) v hash)) (val_later old new storage e h.1)
issued_later old new (i.Event number tag ty value) e h = ap (λ (v : Val). numbered number (event tag (kind ty) v)) (val_later old new value e h.1)

handed_later : (old new : Bases) (x : Issued) → Extends old new → IsHanded old x → IsHanded new x
handed_later old new (i.Transfer number argument amount to) e h = (h.0, based_later old new argument e h.1)
handed_later old new (i.Origination number delegate amount script storage hash) e h = (h.0, based_later old new storage e h.1, h.2)
handed_later old new (i.Event number tag ty value) e h = (h.0, based_later old new value e h.1)

map_later : (u v : World) (ss : List Sent) → Extends u.store.bases.present v.store.bases.present → AreHanded u ss →
    map (sent v.store.bases.present) ss ≡ map (sent u.store.bases.present) ss
map_later u v [] e h = refl
map_later u v (s ∷ ss) e h =
    λ j. issued (contract_place s.by) (issued_later u.store.bases.present v.store.bases.present s.operation e h.0.0 j).operation ∷ map_later u v ss e h.1 j

map_reverse : (bs : Bases) (ss : List Sent) → map (sent bs) (reverse ss) ≡ reverse (map (sent bs) ss)
map_reverse bs [] = refl
map_reverse bs (s ∷ ss) =
    ap (map (sent bs)) (reverse-append (s ∷ []) ss) ∙ map-append (sent bs) (reverse ss) (s ∷ [])
    ∙ ap (λ t. t ++ sent bs s ∷ []) (map_reverse bs ss) ∙ sym (reverse-append (sent bs s ∷ []) (map (sent bs) ss))

-- they stand for the same operations
pub sent_later : (u v : World) (ss : List Sent) → Extends u.store.bases.present v.store.bases.present → AreHanded u ss →
    all_sent v.store.bases.present ss ≡ all_sent u.store.bases.present ss
sent_later u v ss e h =
    map_reverse v.store.bases.present ss ∙ ap reverse (map_later u v ss e h) ∙ sym (map_reverse u.store.bases.present ss)

pub are_handed_later : (u v : World) (ss : List Sent) → Extends u.store.bases.present v.store.bases.present → KeepsContracts u v → AreHanded u ss → AreHanded v ss
are_handed_later u v [] e k h = tt
are_handed_later u v (s ∷ ss) e k h =
    ((handed_later u.store.bases.present v.store.bases.present s.operation e h.0.0, k s.by h.0.1), are_handed_later u v ss e k h.1)
