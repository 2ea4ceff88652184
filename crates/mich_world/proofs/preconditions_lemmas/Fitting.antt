-- What the calls ask.
use Rattle.std.proofs.Common.{◌≡◌, ℕ, ℤ, pos, ◌+ℤ◌, ◌-ℤ◌, ◌≤ℤ◌, List, [], ◌∷◌, length, Some, sym, ap, ◌∙◌, subst, arith}
use Rattle.std.specs.Prelude.{neg_ℤ}
use Rattle.std.proofs.lemmas.Int.{ints}
use Rattle.std.specs.List.{All, AllByRecursion}
use Rattle.std.proofs.lemmas.List.Elements.{All-head, All-tail}
use Rattle.std.specs.Ordering.{nat_cmp}
use Rattle.std.specs.Cmp.Lexicographic.{slice_cmp}
use Rattle.std.specs.BTreeMap.{is_at}
use Rattle.rules_code.specs.evaluation.Operations.{Issued, operation_tickets}
use Rattle.rules_code.specs.evaluation.Surroundings.{Contract as PlainContract}
use Rattle.rules_data.specs.forms.Spelling.{implicit_place, contract_place}
use Rattle.rules_code.specs.steps.Changes.{amount_among, amount_in, identity_of, minted_in, burnt_in}
use Rattle.rules_data.specs.types.Kind.{Kind}
use Rattle.rules_data.specs.values.Tickets.{Identity, Held, tickets}
use Rattle.rules_data.specs.values.Val.{Val}
use Rattle.rules_world.specs.world.Forms.{IsTicket}
use Rattle.rules_world.specs.world.Gives.{as_value}
use Rattle.rules_world.specs.world.Good.{known_with, FitsIn, IsGoodContract, IsGoodOperation, MayRun}
use Rattle.rules_world.specs.world.Holdings.{held, held_by, minted_ever, burnt_ever}
use Rattle.rules_world.specs.world.Outcomes.{Setting, Counts}
use Rattle.rules_world.specs.world.Runs.{Finished}
use Rattle.rules_world.specs.world.RunLaws.{amount_returned}
use Rattle.rules_world.specs.world.Targets.{Target}
use Rattle.rules_world.specs.world.World.{World as PlainWorld, contract_at as plain_contract_at}
use Rattle.laws_world.proofs.accounts.ForCallers.{among_positive, burnt_positive, all_found}
use Rattle.laws_code.proofs.stacks.ForCallers.{tickets_good}
use Rattle.laws_world.specs.runs.RunEnds.{IsFinished}
use Rattle.laws_world.proofs.runs.ForCallers.{operation_good}
use Rattle.mich_bigmap.specs.Bases.{Bases}
use Rattle.mich_bigmap.specs.Standing.{val_in}
use Rattle.mich_bigmap.specs.Ticketless.{HoldNoTickets}
use Rattle.mich_bigmap.proofs.ForCallers.{tickets_in_store}
use Rattle.mich_term.specs.Layers.{AreFormed}
use Rattle.mich_term.specs.ValueView.{val}
use Rattle.mich_term.specs.declared.value.Value.{Value}
use Rattle.mich_tickets.specs.Limits.{IsPositive}
use Rattle.mich_tickets.specs.Most.{most}
use Rattle.mich_tickets.specs.Sums.{held_of}
use Rattle.mich_world.specs.Holders.{Holders, contract_at}
use Rattle.mich_world.specs.Standing.{StandsFor}
use Rattle.mich_world.specs.Storages.{AreStored, MayReplace, owner_of, stored_tickets}
use Rattle.mich_world.specs.World.{World}
use Rattle.mich_world.specs.simulation.Runs.{Runs}
use Rattle.mich_world.specs.preconditions.Laws.{CreditsFit, InstallsFit, CommitsFit}
use Rattle.mich_world.proofs.preconditions_lemmas.Room.{owner_part, has_room, positives}
use Rattle.mich_world.proofs.preconditions_lemmas.Waiting.{whole_of, one_in}
use Rattle.mich_world.proofs.simulation_lemmas.ForCallers.{amounts, stored_are, before_held, length_is, storage_held}
use Rattle.laws_data.proofs.forms_lemmas.ForCallers.{implicit_is, contract_is}

-- the tickets of a value are positive, where it stands for one that fits
value_positive : (bs : Bases) (v : Value) (w : PlainWorld) (a : Kind) → HoldNoTickets bs → AreFormed v → FitsIn w a (val_in bs v)
    → AllByRecursion IsPositive (tickets (val v))
value_positive bs v w a n f fits =
    subst (λ (ts : List Held). AllByRecursion IsPositive ts) (tickets_in_store bs v n f) (positives (tickets (val_in bs v)) (tickets_good (known_with w []) a (val_in bs v) fits))

same_room : (x y a b l : ℤ) → x ≡ y → a ≡ b → (y +ℤ b) ≤ℤ l → (x +ℤ a) ≤ℤ l
same_room x y a b l e f h = omega (arith, ints, e, f, h)

pub credits_fit : CreditsFit
credits_fit u w who t s m key =
    same_room (held_of u.ledger.books.present (identity_of t) (implicit_place who)) (held_by w (identity_of t) (implicit_place who))
    t.amount (amount_in (identity_of t) (as_value t)) most
    (s.those.held (identity_of t) (implicit_place who) (implicit_is who key))
    (sym (whole_of t) ∙ one_in (identity_of t) t)
    (has_room w (as_value t) (identity_of t) (implicit_place who) m)

pub installs_fit : InstallsFit
installs_fit u w hash given a s n f twenty fits m = record {
  positive = value_positive u.store.bases.present given w a n f fits;
  fits = λ j. same_room (held_of u.ledger.books.present j (contract_place hash)) (held_by w j (contract_place hash))
      (amount_among j (tickets (val given))) (amount_in j (val_in u.store.bases.present given)) most
      (s.those.held j (contract_place hash) (contract_is hash twenty))
      (amounts u.store.bases.present given j n f)
      (has_room w (val_in u.store.bases.present given) j (contract_place hash) m);
}

-- ---- the end of a run

returned_positive : (id : Identity) (w : PlainWorld) (is : List Issued) → All (λ i. IsGoodOperation w i.operation) is → pos 0 ≤ℤ amount_returned id is
returned_positive id w [] h = omega (arith, ints)
returned_positive id w (i ∷ is) h =
    sum (amount_among id (operation_tickets i.operation)) (amount_returned id is)
    (among_positive id (operation_tickets i.operation) (operation_good w i.operation (All-head (λ (j : Issued). IsGoodOperation w j.operation) i is h)))
    (returned_positive id w is (All-tail (λ (j : Issued). IsGoodOperation w j.operation) i is h))
  where
    sum : (a b : ℤ) → pos 0 ≤ℤ a → pos 0 ≤ℤ b → pos 0 ≤ℤ (a +ℤ b)
    sum a b h g = omega (arith, ints)

-- what is held before is as much as goes, and what comes has room
comes : (x own b s h arg m r burnt minted gone l after : ℤ) → x ≡ own → b ≡ own → own ≤ℤ h → (h +ℤ arg) ≤ℤ (minted -ℤ gone) → pos 0 ≤ℤ gone
    → arg +ℤ own +ℤ m ≡ s +ℤ r +ℤ burnt → pos 0 ≤ℤ r → pos 0 ≤ℤ burnt → (minted +ℤ m) ≤ℤ l → after ≡ s → ((x +ℤ neg_ℤ b) +ℤ after) ≤ℤ l
comes x own b s h arg m r burnt minted gone l after e f g room gp sum rp bp top a = omega (arith, ints, e, f, g, room, gp, sum, rp, bp, top, a)

goes : (x own b : ℤ) → x ≡ own → b ≡ own → b ≤ℤ x
goes x own b e f = omega (arith, ints, e, f)

module _ (u v : World) (w : PlainWorld) (s : Setting) (t : Target) (argument : Val) (counts : Counts) (f : Finished) (given : Value)
    (is : IsFinished s w t argument counts f) (st : StandsFor u w) (stored : AreStored u) (nu : HoldNoTickets u.store.bases.present)
    (r : Runs f.changes u v) (nv : HoldNoTickets v.store.bases.present) (m : MayRun w argument)
    (formed : AreFormed given) (same : val_in v.store.bases.present given ≡ is.storage) where
  abbrev owner : List ℕ
  owner = contract_place t.hash

  abbrev own : Identity → ℤ
  own j = amount_in j is.before.storage

  abbrev gone : Identity → ℤ
  gone j = amount_among j (stored_tickets (contract_at v.funds.present t.hash))

  twenty : length t.hash ≡ 20
  twenty = length_is w t.hash is.before m.sound.form is.there

  fits : FitsIn w t.script.storage (val_in v.store.bases.present given)
  fits = subst (λ (x : Val). FitsIn w t.script.storage x) (sym same) is.fits

  good_tickets : (c : PlainContract) → plain_contract_at w t.hash ≡ Some c → All IsTicket (tickets c.storage)
  good_tickets c e =
      let g = (all_found (is_at (slice_cmp nat_cmp t.hash)) (IsGoodContract w) w.contracts c m.sound.contracts e).1 in
      tickets_good (known_with w []) g.0.storage c.storage g.3

  old_positive : AllByRecursion IsPositive (stored_tickets (contract_at v.funds.present t.hash))
  old_positive =
      subst (λ (h : Holders). AllByRecursion IsPositive (stored_tickets (contract_at h t.hash))) (sym r.funds)
      (subst (λ (ts : List Held). AllByRecursion IsPositive ts)
      (sym (stored_are u.funds.present u.store.bases.present u.ledger.books.present w t.hash is.before st.those stored nu is.there))
      (positives (tickets is.before.storage) (good_tickets is.before is.there)))

  held_is : (j : Identity) → held_of v.ledger.books.present j owner ≡ own j
  held_is j = r.adds.held j owner ∙ st.those.held j owner (contract_is t.hash twenty) ∙ storage_held w t.hash is.before j twenty is.there

  gone_is : (j : Identity) → gone j ≡ own j
  gone_is j =
      ap (λ (h : Holders). amount_among j (stored_tickets (contract_at h t.hash))) r.funds
      ∙ before_held u.funds.present u.store.bases.present u.ledger.books.present w t.hash is.before j st.those stored nu is.there

  own_part : (j : Identity) → own j ≤ℤ held w j
  own_part j = subst (λ (z : ℤ). z ≤ℤ held w j) (storage_held w t.hash is.before j twenty is.there) (owner_part w m.sound j owner)

  may_replace : MayReplace (owner_of t.hash) v.ledger.books.present (stored_tickets (contract_at v.funds.present t.hash)) (tickets (val given))
  may_replace = record {
    leave = record { positive = old_positive; fits = λ j. goes (held_of v.ledger.books.present j owner) (own j) (gone j) (held_is j) (gone_is j) };
    positive = value_positive v.store.bases.present given w t.script.storage nv formed fits;
    fits = λ j. comes (held_of v.ledger.books.present j owner) (own j) (gone j) (amount_in j is.storage) (held w j) (amount_in j argument)
        (minted_in j f.changes) (amount_returned j f.returned) (burnt_in j f.changes) (minted_ever w j) (burnt_ever w j) most
        (amount_among j (tickets (val given))) (held_is j) (gone_is j) (own_part j)
        (m.tickets j) (burnt_positive j w.log m.sound.form.log) (is.tickets j) (returned_positive j w f.returned is.returned)
        (burnt_positive j f.changes is.changes) (is.minted j)
        (amounts v.store.bases.present given j nv formed ∙ ap (amount_in j) same);
  }

pub commits_fit : CommitsFit
commits_fit u v w s t argument counts f given is st stored nu r nv m formed same =
    may_replace u v w s t argument counts f given is st stored nu r nv m formed same
