-- What is kept stands.
use Rattle.std.specs.Prelude.{if◌then◌else◌}
use Rattle.std.proofs.Common.{◌≡◌, ℕ, Bool, true, false, ◌||◌, ◌&&◌, ◌↔◌, ◌++◌, List, [], ◌∷◌, map, is_some, Some, refl, sym, ap, ◌∙◌, subst}
use Rattle.std.specs.List.{AllByRecursion}
use Rattle.mich_base.specs.undo.History.{History}
use Rattle.mich_bigmap.specs.Bases.{Bases}
use Rattle.mich_bigmap.specs.Formed.{is_there}
use Rattle.mich_bigmap.specs.Layers.{HasBases}
use Rattle.mich_bigmap.specs.Kept.{has, kept_of, with_over, all_of}
use Rattle.mich_bigmap.specs.Notes.{Notes}
use Rattle.mich_bigmap.specs.Reached.{Reached, named, over, IsReachedBase}
use Rattle.mich_bigmap.specs.Standing.{val_in}
use Rattle.mich_bigmap.specs.Stored.{Stored, with_kept}
use Rattle.mich_bigmap.specs.Ticketless.{HoldNoTickets}
use Rattle.mich_bigmap.proofs.ForCallers.{has_append, kept_based}
use Rattle.mich_world.specs.Storages.{named_in, IsStored, Stands}
use Rattle.mich_world.specs.declared.contract.Contract.{Contract}

first : (a b : Bool) → a ≡ true → (a || b) ≡ true
first true b h = refl
first false b h = cc

second : (a b : Bool) → b ≡ true → (a || b) ≡ true
second true b h = refl
second false b h = h

stand : (bs : Bases) (ns : List ℕ) (cs : List (List ℕ × Contract))
    → ((k : ℕ) → has k (all_of (map named_in cs)) ≡ true → is_there bs (Some k) ≡ true → has k ns ≡ true)
    → AllByRecursion (Stands bs (kept_of ns bs)) cs
stand bs ns [] h = tt
stand bs ns (c ∷ cs) h = (
  (λ based. kept_based bs ns c.1.storage based
      (λ k n. h k (has_append k (named_in c) (all_of (map named_in cs)) ∙ first (has k (named_in c)) (has k (all_of (map named_in cs))) n))),
  stand bs ns cs (λ k n. h k (has_append k (named_in c) (all_of (map named_in cs)) ∙ second (has k (named_in c)) (has k (all_of (map named_in cs))) n)),
)

noted : (a b t : Bool) → b ≡ true → t ≡ true → (a || (b && t)) ≡ true
noted true b t p q = refl
noted false true true p q = refl
noted false true false p q = cc
noted false false t p q = cc

-- after the storages' bases were noted
pub all_stand : (cs : List (List ℕ × Contract)) (old mid new : Stored) → Notes (all_of (map named_in cs)) old mid → new ≡ with_kept mid
    → AllByRecursion (Stands old.bases.present new.bases.present) cs
all_stand cs old mid new notes e =
    let bs = old.bases.present in
    let kept : new.bases.present ≡ kept_of mid.noted bs = ap (λ (s : Stored). s.bases.present) e ∙ ap (λ h. kept_of mid.noted h.present) notes.bases in
    subst (λ (x : Bases). AllByRecursion (Stands bs x) cs) (sym kept)
    (stand bs mid.noted cs (λ k n there. notes.noted k ∙ noted (has k old.noted) (has k (all_of (map named_in cs))) (is_there bs (Some k)) n there))

-- settled storages stay so
pub stored_standing : (old new : Bases) (cs : List (List ℕ × Contract)) → AllByRecursion (Stands old new) cs → AllByRecursion (λ c. IsStored old c.1) cs → AllByRecursion (λ c. IsStored new c.1) cs
stored_standing old new [] s h = tt
stored_standing old new (c ∷ cs) s h = (record { formed = h.0.formed; based = (s.0 h.0.based).0; shared = h.0.shared }, stored_standing old new cs s.1 h.1)

ticketless : (ns : List ℕ) (bs : Bases) → HoldNoTickets bs → HoldNoTickets (kept_of ns bs)
ticketless ns [] h = tt
ticketless ns (b ∷ bs) h =
    elim (has b.number ns) as (λ t. HoldNoTickets (if t then b ∷ kept_of (with_over b.over ns) bs else kept_of ns bs))
    [ true ↦ (h.0, ticketless (with_over b.over ns) bs h.1) | false ↦ ticketless ns bs h.1 ]

pub kept_ticketless : (old mid new : Stored) (ns : List ℕ) → Notes ns old mid → new ≡ with_kept mid → HoldNoTickets old.bases.present → HoldNoTickets new.bases.present
kept_ticketless old mid new ns notes e h =
    let kept : new.bases.present ≡ kept_of mid.noted old.bases.present = ap (λ (s : Stored). s.bases.present) e ∙ ap (λ x. kept_of mid.noted x.present) notes.bases in
    subst HoldNoTickets (sym kept) (ticketless mid.noted old.bases.present h)

-- ---- which bases are left

weaker : (a b t : Bool) → (a || (b && t)) ≡ true → (a || b) ≡ true
weaker true b t p = refl
weaker false true t p = refl
weaker false false t p = p

stronger : (a b t : Bool) → (a || b) ≡ true → t ≡ true → (a || (b && t)) ≡ true
stronger true b t p q = refl
stronger false b t p q = noted false b t p q

-- what is reached from some numbers is reached from others that have those of them that are there
reached_on : (ns ms : List ℕ) (bs : Bases) → ((k : ℕ) → has k ns ≡ true → is_there bs (Some k) ≡ true → has k ms ≡ true)
    → (k : ℕ) → is_there bs (Some k) ≡ true → Reached ns bs k → Reached ms bs k
reached_on ns ms bs h _ there (named k n) = named k (h k n there)
reached_on ns ms bs h _ there (over j k b below r e o t) = over j k b below (reached_on ns ms bs h j (ap is_some e) r) e o t

module _ (ns : List ℕ) (old mid : Stored) (notes : Notes ns old mid) where
  abbrev all : List ℕ
  all = old.noted ++ ns

  abbrev bases : Bases
  bases = old.bases.present

  in_use : (k : ℕ) → IsReachedBase mid.noted bases k → IsReachedBase all bases k
  in_use k (there, r) = (
    there,
    reached_on mid.noted all bases
        (λ j n t. has_append j old.noted ns ∙ weaker (has j old.noted) (has j ns) (is_there bases (Some j)) (sym (notes.noted j) ∙ n)) k there r,
  )

  noted_there : (k : ℕ) → IsReachedBase all bases k → IsReachedBase mid.noted bases k
  noted_there k (there, r) = (
    there,
    reached_on all mid.noted bases
        (λ j n t. notes.noted j ∙ stronger (has j old.noted) (has j ns) (is_there bases (Some j)) (sym (has_append j old.noted ns) ∙ n) t) k there r,
  )

  pub left_in_use : (new : Stored) → ((k : ℕ) → (is_there new.bases.present (Some k) ≡ true) ↔ IsReachedBase mid.noted mid.bases.present k)
      → (k : ℕ) → (is_there new.bases.present (Some k) ≡ true) ↔ IsReachedBase all bases k
  left_in_use new h k = (
    λ there. in_use k (subst (λ (x : History Bases). IsReachedBase mid.noted x.present k) notes.bases ((h k).0 there)),
    λ reached. (h k).1 (subst (λ (x : History Bases). IsReachedBase mid.noted x.present k) (sym notes.bases) (noted_there k reached)),
  )

-- ---- where the store is as it was

pub still : (old new : Stored) (cs : List (List ℕ × Contract)) → new ≡ old → AllByRecursion (Stands old.bases.present new.bases.present) cs
still old new [] e = tt
still old new (c ∷ cs) e = (
  (λ based. subst (λ (s : Stored). HasBases s.bases.present c.1.storage × (val_in s.bases.present c.1.storage ≡ val_in old.bases.present c.1.storage)) (sym e) (based, refl)),
  still old new cs e,
)
