-- Tickets.
use Rattle.std.proofs.Common.{◌≡◌, ℕ, zero, suc, ◌-◌, ◌^◌, Bool, true, false, ◌&&◌, List, [], ◌∷◌, ◌++◌, Option, Some, None, refl, sym, ap, ◌∙◌, subst, arith, pos}
use Rattle.std.specs.Prelude.{ℤ, ◌+ℤ◌, ◌≤ℤ◌, ◌<ℤ◌, int_le, int_lt, if◌then◌else◌}
use Rattle.std.specs.List.{flat_map}
use Rattle.std.specs.Ordering.{int_eq}
use Rattle.std.proofs.lemmas.Int.{ints}
use Rattle.std.proofs.lemmas.Bool.{and_parts}
use Rattle.std.proofs.lemmas.Bool.Decides.{Decides-int_eq}
use Rattle.rules_data.specs.forms.Spelling.{contract_place}
use Rattle.rules_data.specs.types.Kind.{Kind}
use Rattle.rules_data.specs.types.Kind as k
use Rattle.rules_data.specs.types.Attributes.{comparable}
use Rattle.rules_code.specs.instructions.Types as ty
use Rattle.rules_code.specs.instructions.Same.{same_kind}
use Rattle.rules_code.specs.instructions.Change.{Change, after, makes, where_true}
use Rattle.rules_code.specs.instructions.OtherChanges.{ticket_change}
use Rattle.rules_code.specs.instructions.Straight.{TicketRow}
use Rattle.rules_code.specs.instructions.Straight as i
use Rattle.rules_data.specs.values.Val.{Val}
use Rattle.rules_data.specs.values.Val as v
use Rattle.rules_data.specs.values.Forms.{is_ticket_amount}
use Rattle.rules_data.specs.values.Literals.{is_nat}
use Rattle.rules_data.specs.values.Tickets.{Identity, Held, tickets}
use Rattle.rules_code.specs.steps.Changes.{Change as TicketChange, minted, burnt, minted_in, amount_of, amount_in, identity_of, is_alike}
use Rattle.rules_code.specs.steps.Failure as failure
use Rattle.rules_code.specs.steps.Step.{Step, done, fails, kept, discarding}
use Rattle.rules_code.specs.steps.TicketSteps.{as_value, ticket_step_of, are_parts, split, join, ticket_step}
use Rattle.rules_code.specs.typing.Typing.{goes}
use Rattle.rules_code.specs.typing.Fits.{Known, Fits, AllFit}
use Rattle.rules_code.specs.evaluation.Surroundings.{Surroundings}
use Rattle.rules_code.specs.evaluation.Operations.{Tally}
use Rattle.rules_code.specs.evaluation.Outcome.{finish}
use Rattle.rules_code.specs.evaluation.Straight.{minted_so_far}
use Rattle.laws_code.specs.evaluation.Laws.{known, amount_on, IsGood, IsType, most_tickets}
use Rattle.laws_code.specs.stacks.Sound.{seen, total, Sound, KeepsFrom}
use Rattle.laws_data.proofs.types_lemmas.ForCallers.{same_kind_true}
use Rattle.laws_data.proofs.amounts.ForCallers.{among_append}
use Rattle.laws_code.proofs.stacks.ForCallers.{positive, on_positive, type_first, no_amount_compared, alike_is, alike_itself, comparable_value, stack_good, one_good}
use Rattle.laws_code.proofs.steps.Steps.{RowStep, finish_keeps, quiet_none, quiet_burns}
use Rattle.laws_code.proofs.steps.Ranges.{nat_high, nat_low, nat_from}
use Rattle.laws_code.proofs.steps.Arithmetic.{gives, on_natural}
use Rattle.laws_data.proofs.forms_lemmas.ForCallers.{place_address, contract_is}
use Rattle.std.proofs.lemmas.List.Elements.{All-push}
use Rattle.rules_text.specs.nodes.Limits.{most_minted}
use Rattle.rules_world.specs.world.Forms.{IsChange}

-- one more was minted
minted_last : (id : Identity) (cs : List TicketChange) (t : Held) →
    minted_in id (cs ++ minted t ∷ []) ≡ (minted_in id cs +ℤ amount_of id t)
minted_last id [] t = omega (arith, ints)
minted_last id (minted u ∷ cs) t = let h : minted_in id (cs ++ minted t ∷ []) ≡ (minted_in id cs +ℤ amount_of id t) =
    minted_last id cs t in omega (arith, ints)
minted_last id (burnt u ∷ cs) t = minted_last id cs t

not_less_than_none : (b : Bool) (n : ℕ) → pos 0 ≤ℤ (if b then pos n else pos 0)
not_less_than_none true n = omega (arith, ints)
not_less_than_none false n = omega (arith, ints)

amount_true : (n : ℤ) → is_ticket_amount n ≡ true → (pos 1 ≤ℤ n) × (n ≤ℤ pos (2 ^ 127 - 1))
amount_true n h = (grind (arith, ints), grind (arith, ints))

amount_is : (n : ℤ) → pos 1 ≤ℤ n → n ≤ℤ pos (2 ^ 127 - 1) → is_ticket_amount n ≡ true
amount_is n h g = grind (arith, ints)

at_most : (m n : ℤ) → int_le m n ≡ true → m ≤ℤ n
at_most m n h = grind (arith, ints)

above : (m n : ℤ) → int_lt m n ≡ true → m <ℤ n
above m n h = grind (arith, ints)

of_other : (b : Bool) (n : ℤ) → b ≡ false → (if b then n else pos 0) ≡ pos 0
of_other false n h = refl
of_other true n h = absurd cc

of_same : (b : Bool) (n : ℤ) → b ≡ true → (if b then n else pos 0) ≡ n
of_same true n h = refl
of_same false n h = absurd cc

-- amounts of one identity add up
parts_add : (b : Bool) (x y n : ℤ) → (x +ℤ y) ≡ n → ((if b then x else pos 0) +ℤ (if b then y else pos 0)) ≡
    (if b then n else pos 0)
parts_add true x y n h = h
parts_add false x y n h = omega (arith, ints)

module _ (e : Surroundings) (good : IsGood e) (m : Tally) where
  abbrev pub w : Known
  w = known e.contract_at m.issued

  abbrev pub Kept : List Val → List Kind → Step → Type 0
  Kept V B st = KeepsFrom (seen e) m.issued m.changes V (goes B) (finish st B m)

  -- ---- TICKET

  abbrev new_ticket : Kind → Val → ℕ → Held
  new_ticket a content n = record { issuer = contract_place e.environment.own; kind = a; content = content; amount = pos (suc n) }

  minted_now : (a : Kind) (A : List Kind) (content : Val) (n : ℕ) (V : List Val) → comparable a ≡ true → Fits w a content →
      is_nat (pos (suc n)) ≡ true → Sound (seen e) m.issued m.changes (a ∷ ty.nat ∷ A) (content ∷ v.number (pos (suc n)) ∷ V) →
      (b : Bool) → int_le (total (seen e) m.changes (identity_of (new_ticket a content n)) +ℤ pos (suc n)) most_minted ≡ b →
      Kept (content ∷ v.number (pos (suc n)) ∷ V) (k.option (k.ticket a) ∷ A)
      (if b then done (v.some (as_value (new_ticket a content n)) ∷ V)
      (minted (new_ticket a content n) ∷ []) else fails failure.integer_limit)
  minted_now a A content n V c f hn so false q = tt
  minted_now a A content n V c f hn so true q =
      let t : Held = new_ticket a content n in
      let within : (total (seen e) m.changes (identity_of t) +ℤ pos (suc n)) ≤ℤ most_tickets = at_most
      (total (seen e) m.changes (identity_of t) +ℤ pos (suc n)) most_minted q in (
        refl,
        record {
          fit = (
            (
              refl,
              f,
              amount_is (pos (suc n)) (omega (arith, ints)) (nat_high (pos (suc n)) hn),
              contract_is e.environment.own good.environment.own,
            ),
            so.fit.1.1,
          );
          grows = λ i j. j;
          tickets = λ id.
              let p : amount_in id content ≡ pos 0 = no_amount_compared id w a content c f in
              omega (arith, ints, minted_last id m.changes t);
          most = λ id. most_now id t within (is_alike id (identity_of t)) refl;
          mints = λ id. let p : pos 0 ≤ℤ minted_in id m.changes = so.mints id in
              let q : pos 0 ≤ℤ amount_of id t = not_less_than_none (is_alike id (identity_of t)) (suc n) in
              omega (arith, ints, minted_last id m.changes t);
          well = λ h. (
            h.0,
            All-push IsChange m.changes (minted t) h.1 (
              contract_is e.environment.own good.environment.own,
              amount_is (pos (suc n)) (omega (arith, ints)) (nat_high (pos (suc n)) hn),
              comparable_value w a content c f,
            ),
          );
        },
      )
    where
      most_now : (id : Identity) (t : Held) → (total (seen e) m.changes (identity_of (new_ticket a content n)) +ℤ pos (suc n))
          ≤ℤ most_tickets → (b : Bool) → is_alike id (identity_of (new_ticket a content n)) ≡ b →
          total (seen e) (m.changes ++ minted (new_ticket a content n) ∷ []) id ≤ℤ most_tickets
      most_now id t l false h =
          let z : amount_of id (new_ticket a content n) ≡ pos 0 = of_other (is_alike id (identity_of (new_ticket a content n)))
          (pos (suc n)) h in
          let r : total (seen e) m.changes id ≤ℤ most_tickets = so.most id in
          omega (arith, ints, minted_last id m.changes (new_ticket a content n))
      most_now id t l true h =
          let z : amount_of id (new_ticket a content n) ≡ pos (suc n) = of_same
          (is_alike id (identity_of (new_ticket a content n))) (pos (suc n)) h in
          let same : id ≡ identity_of (new_ticket a content n) = alike_is id (new_ticket a content n)
          (comparable_value w a content c f) h in
          let r : (total (seen e) m.changes id +ℤ pos (suc n)) ≤ℤ most_tickets = subst
          (λ x. (total (seen e) m.changes x +ℤ pos (suc n)) ≤ℤ most_tickets) (sym same) l in
          omega (arith, ints, minted_last id m.changes (new_ticket a content n))

  mints : (a : Kind) (A : List Kind) (content : Val) (n : ℕ) (V : List Val) → comparable a ≡ true → Fits w a content →
      is_nat (pos n) ≡ true → Sound (seen e) m.issued m.changes (a ∷ ty.nat ∷ A) (content ∷ v.number (pos n) ∷ V) →
      Kept (content ∷ v.number (pos n) ∷ V) (k.option (k.ticket a) ∷ A)
      (ticket_step_of (contract_place e.environment.own) (minted_so_far e m) a content n V)
  mints a A content zero V c f hn so =
      finish_keeps (seen e) m (a ∷ ty.nat ∷ A) (k.option (k.ticket a) ∷ A) (content ∷ v.number (pos 0) ∷ V)
      (kept (v.nothing ∷ V)) so
      (gives w (content ∷ v.number (pos 0) ∷ V) V (k.option (k.ticket a)) A v.nothing tt so.fit.1.1 (λ id. refl)
      (λ id. let p : pos 0 ≤ℤ amount_in id content = positive id w a content f in omega (arith, ints)))
  mints a A content (suc n) V c f hn so = minted_now a A content n V c f hn so
      (int_le (total (seen e) m.changes (identity_of (new_ticket a content n)) +ℤ pos (suc n)) most_minted) refl

  -- ---- READ_TICKET

  reads : (a : Kind) (A : List Kind) (issuer : List ℕ) (kind : Kind) (content : Val) (n : ℤ) (V : List Val) →
      IsType (k.ticket a) → AllFit w (k.ticket a ∷ A) (v.ticket issuer kind content n ∷ V) →
      RowStep w (v.ticket issuer kind content n ∷ V) (k.pair ty.address (k.pair a ty.nat) ∷ k.ticket a ∷ A)
      (kept (v.both (v.bytes issuer) (v.both content (v.number n)) ∷ v.ticket issuer kind content n ∷ V))
  reads a A issuer kind content n V is h =
      let r : (pos 1 ≤ℤ n) × (n ≤ℤ pos (2 ^ 127 - 1)) = amount_true n h.0.2 in
      gives w (v.ticket issuer kind content n ∷ V) (v.ticket issuer kind content n ∷ V) (k.pair ty.address (k.pair a ty.nat))
      (k.ticket a ∷ A) (v.both (v.bytes issuer) (v.both content (v.number n)))
      (place_address issuer h.0.3, (h.0.1, nat_from n (omega (arith, ints)) r.1)) h
      (λ id. among_append id (tickets content) [] ∙ (let p : amount_in id content ≡ pos 0 =
      no_amount_compared id w a content is.0.0 h.0.1 in omega (arith, ints)))
      (λ id. omega (arith, ints))

  -- ---- SPLIT_TICKET and JOIN_TICKETS

  abbrev one_ticket : List ℕ → Kind → Val → ℤ → Held
  one_ticket issuer kind content n = record { issuer = issuer; kind = kind; content = content; amount = n }

  splits : (a : Kind) (A : List Kind) (issuer : List ℕ) (kind : Kind) (content : Val) (n x y : ℤ) (V : List Val) →
      AllFit w (k.ticket a ∷ k.pair ty.nat ty.nat ∷ A) (v.ticket issuer kind content n ∷ v.both (v.number x) (v.number y) ∷ V) →
      RowStep w (v.ticket issuer kind content n ∷ v.both (v.number x) (v.number y) ∷ V)
      (k.option (k.pair (k.ticket a) (k.ticket a)) ∷ A) (split
      (record { issuer = issuer; kind = kind; content = content; amount = n }) x y V)
  splits a A issuer kind content n x y V h = by_test (are_parts x y n) refl
    where
      by_test : (b : Bool) → are_parts x y n ≡ b → RowStep w (v.ticket issuer kind content n ∷ v.both (v.number x)
          (v.number y) ∷ V) (k.option (k.pair (k.ticket a) (k.ticket a)) ∷ A)
          (if b then kept (v.some (v.both (v.ticket issuer kind content x) (v.ticket issuer kind content y)) ∷ V) else
          discarding (as_value (one_ticket issuer kind content n) ∷ []) (v.nothing ∷ V))
      by_test true q =
          let qs : ((int_lt (pos 0) x && int_lt (pos 0) y) ≡ true) × (int_eq (x +ℤ y) n ≡ true) = and_parts
          (int_lt (pos 0) x && int_lt (pos 0) y) (int_eq (x +ℤ y) n) q in
          let rs : (int_lt (pos 0) x ≡ true) × (int_lt (pos 0) y ≡ true) = and_parts (int_lt (pos 0) x) (int_lt (pos 0) y) qs.0 in
          let px : pos 0 <ℤ x = above (pos 0) x rs.0 in
          let py : pos 0 <ℤ y = above (pos 0) y rs.1 in
          let sum : (x +ℤ y) ≡ n = (Decides-int_eq (x +ℤ y) n).0 qs.1 in
          let r : (pos 1 ≤ℤ n) × (n ≤ℤ pos (2 ^ 127 - 1)) = amount_true n h.0.2 in (
            (
              (
                (h.0.0, h.0.1, amount_is x (omega (arith, ints)) (omega (arith, ints)), h.0.3),
                (h.0.0, h.0.1, amount_is y (omega (arith, ints)) (omega (arith, ints)), h.0.3),
              ),
              h.1.1,
            ),
            (λ id. let p : ((if is_alike id (identity_of (one_ticket issuer kind content n)) then x else pos 0) +ℤ
                (if is_alike id (identity_of (one_ticket issuer kind content n)) then y else pos 0)) ≡
                (if is_alike id (identity_of (one_ticket issuer kind content n)) then n else pos 0) = parts_add
                (is_alike id (identity_of (one_ticket issuer kind content n))) x y n sum in omega (arith, ints)),
            quiet_none,
          )
      by_test false q = (
        (tt, h.1.1),
        (λ id. let p : pos 0 ≤ℤ amount_in id (v.ticket issuer kind content n) = positive id w (k.ticket a)
            (v.ticket issuer kind content n) h.0 in omega (arith, ints)),
        quiet_burns (flat_map tickets (as_value (one_ticket issuer kind content n) ∷ []))
            (one_good w (k.ticket a) (v.ticket issuer kind content n) h.0),
      )

  joins : (a : Kind) (A : List Kind) (t u : Held) (V : List Val) → IsType (k.ticket a) →
      Sound (seen e) m.issued m.changes (k.pair (k.ticket a) (k.ticket a) ∷ A) (v.both (as_value t) (as_value u) ∷ V) →
      RowStep w (v.both (as_value t) (as_value u) ∷ V) (k.option (k.ticket a) ∷ A) (join t u V)
  joins a A t u V is so = by_test (is_alike (identity_of t) (identity_of u)) refl
    where
      by_test : (b : Bool) → is_alike (identity_of t) (identity_of u) ≡ b →
          RowStep w (v.both (as_value t) (as_value u) ∷ V) (k.option (k.ticket a) ∷ A)
          (if b then kept (v.some (as_value (record t { amount = t.amount +ℤ u.amount })) ∷ V) else discarding
          (as_value t ∷ as_value u ∷ []) (v.nothing ∷ V))
      by_test false q = (
        (tt, so.fit.1),
        (λ id.
            let p : pos 0 ≤ℤ (amount_of id t +ℤ pos 0) = positive id w (k.ticket a) (as_value t) so.fit.0.0 in
            let r : pos 0 ≤ℤ (amount_of id u +ℤ pos 0) = positive id w (k.ticket a) (as_value u) so.fit.0.1 in
            omega (arith, ints)),
        quiet_burns (flat_map tickets (as_value t ∷ as_value u ∷ []))
            (stack_good w (k.ticket a ∷ k.ticket a ∷ []) (as_value t ∷ as_value u ∷ []) (so.fit.0.0, (so.fit.0.1, tt))),
      )
      by_test true q =
          let same : identity_of t ≡ identity_of u = alike_is (identity_of t) u
          (comparable_value w a u.content is.0.0 so.fit.0.1.1) q in
          let at : amount_of (identity_of t) t ≡ t.amount = of_same (is_alike (identity_of t) (identity_of t)) t.amount
          (alike_itself (identity_of t)) in
          let au : amount_of (identity_of t) u ≡ u.amount = of_same (is_alike (identity_of t) (identity_of u)) u.amount q in
          let there : amount_on (identity_of t) (v.both (as_value t) (as_value u) ∷ V) ≤ℤ total (seen e) m.changes
          (identity_of t) = so.below (identity_of t) in
          let most : total (seen e) m.changes (identity_of t) ≤ℤ most_tickets = so.most (identity_of t) in
          let rest : pos 0 ≤ℤ amount_on (identity_of t) V = on_positive (identity_of t) w A V so.fit.1 in
          let rt : (pos 1 ≤ℤ t.amount) × (t.amount ≤ℤ pos (2 ^ 127 - 1)) = amount_true t.amount so.fit.0.0.2 in
          let ru : (pos 1 ≤ℤ u.amount) × (u.amount ≤ℤ pos (2 ^ 127 - 1)) = amount_true u.amount so.fit.0.1.2 in (
            (
              (
                so.fit.0.0.0,
                so.fit.0.0.1,
                amount_is (t.amount +ℤ u.amount) (omega (arith, ints))
                    (omega (arith, ints)),
                so.fit.0.0.3,
              ),
              so.fit.1,
            ),
            (λ id.
                let eq : is_alike id (identity_of t) ≡ is_alike id (identity_of u) = ap (is_alike id) same in
                let p : ((if is_alike id (identity_of t) then t.amount else pos 0) +ℤ
                (if is_alike id (identity_of t) then u.amount else pos 0)) ≡
                (if is_alike id (identity_of t) then t.amount +ℤ u.amount else pos 0) =
                parts_add (is_alike id (identity_of t)) t.amount u.amount (t.amount +ℤ u.amount) refl in
                let r : amount_of id u ≡ (if is_alike id (identity_of t) then u.amount else pos 0) = ap
                (λ b. if b then u.amount else pos 0) (sym eq) in
                omega (arith, ints)),
            quiet_none,
          )

  -- ---- all

  abbrev pub TicketFits : List Val → Option Change → Step → Type 0
  TicketFits V None st = Unit {0}
  TicketFits V (Some c) st = Kept V (after c) st

  makes_ticket : (j a : Kind) (A : List Kind) (content : Val) (x : ℤ) (V : List Val) →
      Sound (seen e) m.issued m.changes (j ∷ ty.nat ∷ A) (content ∷ v.number x ∷ V) → (q : Bool) →
      (same_kind j a && comparable a) ≡ q →
      TicketFits (content ∷ v.number x ∷ V) (where_true q (makes (k.option (k.ticket a)) A))
      (ticket_step e.environment (minted_so_far e m) (i.ticket a) (content ∷ v.number x ∷ V))
  makes_ticket j a A content x V so false q = tt
  makes_ticket j a A content x V so true q =
      let qs : (same_kind j a ≡ true) × (comparable a ≡ true) = and_parts (same_kind j a) (comparable a) q in
      let so' : Sound (seen e) m.issued m.changes (a ∷ ty.nat ∷ A) (content ∷ v.number x ∷ V) = subst
      (λ z. Sound (seen e) m.issued m.changes (z ∷ ty.nat ∷ A) (content ∷ v.number x ∷ V)) (same_kind_true j a qs.0) so in
      on_natural (λ x. is_nat x ≡ true → Sound (seen e) m.issued m.changes (a ∷ ty.nat ∷ A) (content ∷ v.number x ∷ V) →
      Kept (content ∷ v.number x ∷ V) (k.option (k.ticket a) ∷ A)
      (ticket_step e.environment (minted_so_far e m) (i.ticket a) (content ∷ v.number x ∷ V)))
      x (nat_low x so.fit.1.0) (λ n hn so. mints a A content n V qs.1 so.fit.0 hn so) so.fit.1.0 so'

  joined : (j a : Kind) (A : List Kind) (t u : Held) (V : List Val) →
      Sound (seen e) m.issued m.changes (k.pair (k.ticket j) (k.ticket a) ∷ A) (v.both (as_value t) (as_value u) ∷ V) →
      (q : Bool) → same_kind j a ≡ q →
      TicketFits (v.both (as_value t) (as_value u) ∷ V) (where_true q (makes (k.option (k.ticket j)) A)) (join t u V)
  joined j a A t u V so false q = tt
  joined j a A t u V so true q =
      let so' : Sound (seen e) m.issued m.changes (k.pair (k.ticket j) (k.ticket j) ∷ A) (v.both (as_value t) (as_value u) ∷ V) =
      subst (λ z. Sound (seen e) m.issued m.changes (k.pair (k.ticket j) (k.ticket z) ∷ A)
      (v.both (as_value t) (as_value u) ∷ V)) (sym (same_kind_true j a q)) so in
      finish_keeps (seen e) m (k.pair (k.ticket j) (k.ticket j) ∷ A) (k.option (k.ticket j) ∷ A)
      (v.both (as_value t) (as_value u) ∷ V) (join t u V) so'
      (joins j A t u V (type_first (k.ticket j) (k.ticket a) so.types.0) so')

  pub ticket_keeps : (r : TicketRow) (A : List Kind) (V : List Val) → Sound (seen e) m.issued m.changes A V →
      TicketFits V (ticket_change r A) (ticket_step e.environment (minted_so_far e m) r V)
  ticket_keeps (i.ticket a) (j ∷ ty.nat ∷ A) (content ∷ v.number x ∷ V) so = makes_ticket j a A content x V so
      (same_kind j a && comparable a) refl
  ticket_keeps (i.ticket a) (j ∷ ty.nat ∷ A) (content ∷ x ∷ V) so = let h = so.fit.1.0 in absurd cc
  ticket_keeps (i.ticket a) (j ∷ ty.nat ∷ A) (content ∷ []) so = absurd so.fit.1
  ticket_keeps (i.ticket a) (j ∷ ty.nat ∷ A) [] so = absurd so.fit
  ticket_keeps i.read_ticket (k.ticket a ∷ A) (v.ticket issuer kind content n ∷ V) so =
      finish_keeps (seen e) m (k.ticket a ∷ A) (k.pair ty.address (k.pair a ty.nat) ∷ k.ticket a ∷ A)
      (v.ticket issuer kind content n ∷ V) (ticket_step e.environment (minted_so_far e m) i.read_ticket
      (v.ticket issuer kind content n ∷ V)) so (reads a A issuer kind content n V so.types.0 so.fit)
  ticket_keeps i.read_ticket (k.ticket a ∷ A) (x ∷ V) so = absurd so.fit.0
  ticket_keeps i.read_ticket (k.ticket a ∷ A) [] so = absurd so.fit
  ticket_keeps i.split_ticket (k.ticket a ∷ k.pair ty.nat ty.nat ∷ A)
      (v.ticket issuer kind content n ∷ v.both (v.number x) (v.number y) ∷ V) so =
      finish_keeps (seen e) m (k.ticket a ∷ k.pair ty.nat ty.nat ∷ A) (k.option (k.pair (k.ticket a) (k.ticket a)) ∷ A)
      (v.ticket issuer kind content n ∷ v.both (v.number x) (v.number y) ∷ V)
      (ticket_step e.environment (minted_so_far e m) i.split_ticket
      (v.ticket issuer kind content n ∷ v.both (v.number x) (v.number y) ∷ V)) so
      (splits a A issuer kind content n x y V so.fit)
  ticket_keeps i.split_ticket (k.ticket a ∷ k.pair ty.nat ty.nat ∷ A)
      (v.ticket issuer kind content n ∷ v.both (v.number x) y ∷ V) so = let h = so.fit.1.0.1 in absurd cc
  ticket_keeps i.split_ticket (k.ticket a ∷ k.pair ty.nat ty.nat ∷ A) (v.ticket issuer kind content n ∷ v.both x y ∷ V) so =
      let h = so.fit.1.0.0 in absurd cc
  ticket_keeps i.split_ticket (k.ticket a ∷ k.pair ty.nat ty.nat ∷ A) (v.ticket issuer kind content n ∷ x ∷ V) so =
      absurd so.fit.1.0
  ticket_keeps i.split_ticket (k.ticket a ∷ k.pair ty.nat ty.nat ∷ A) (v.ticket issuer kind content n ∷ []) so = absurd so.fit.1
  ticket_keeps i.split_ticket (k.ticket a ∷ k.pair ty.nat ty.nat ∷ A) (x ∷ V) so = absurd so.fit.0
  ticket_keeps i.split_ticket (k.ticket a ∷ k.pair ty.nat ty.nat ∷ A) [] so = absurd so.fit
  ticket_keeps i.join_tickets (k.pair (k.ticket j) (k.ticket a) ∷ A)
      (v.both (v.ticket i1 k1 c1 n1) (v.ticket i2 k2 c2 n2) ∷ V) so =
      joined j a A (record { issuer = i1; kind = k1; content = c1; amount = n1 })
      (record { issuer = i2; kind = k2; content = c2; amount = n2 }) V so (same_kind j a) refl
  ticket_keeps i.join_tickets (k.pair (k.ticket j) (k.ticket a) ∷ A) (v.both (v.ticket i1 k1 c1 n1) y ∷ V) so = absurd so.fit.0.1
  ticket_keeps i.join_tickets (k.pair (k.ticket j) (k.ticket a) ∷ A) (v.both x y ∷ V) so = absurd so.fit.0.0
  ticket_keeps i.join_tickets (k.pair (k.ticket j) (k.ticket a) ∷ A) (x ∷ V) so = absurd so.fit.0
  ticket_keeps i.join_tickets (k.pair (k.ticket j) (k.ticket a) ∷ A) [] so = absurd so.fit
  ticket_keeps _ _ V so = tt
