-- Steps on tickets.
use Rattle.std.proofs.Common.{◌≡◌, ℕ, zero, suc, Bool, true, false, ◌&&◌, List, [], ◌∷◌, ◌++◌, refl, sym, ap, ◌∙◌, arith}
use Rattle.std.specs.Prelude.{ℤ, pos, ◌+ℤ◌, int_le, int_lt, if◌then◌else◌}
use Rattle.std.specs.List.{flat_map}
use Rattle.std.specs.Ordering.{int_eq}
use Rattle.std.proofs.lemmas.Bool.{and_parts}
use Rattle.std.proofs.lemmas.Int.{ints}
use Rattle.std.proofs.Math.IntN.{+ℤ_assoc, +ℤ_idr}
use Rattle.rules_text.specs.nodes.Limits.{most_minted}
use Rattle.rules_data.specs.forms.Spelling.{contract_place}
use Rattle.rules_data.specs.types.Kind.{Kind}
use Rattle.rules_data.specs.types.Kind as k
use Rattle.rules_data.specs.types.Attributes.{comparable}
use Rattle.rules_data.specs.values.Val.{Val}
use Rattle.rules_data.specs.values.Val as v
use Rattle.rules_data.specs.values.Tickets.{Identity, Held, tickets}
use Rattle.rules_code.specs.instructions.Types as t
use Rattle.rules_code.specs.instructions.Straight.{TicketRow}
use Rattle.rules_code.specs.instructions.Straight as i
use Rattle.rules_code.specs.instructions.Same.{same_kind}
use Rattle.rules_code.specs.instructions.Change.{makes}
use Rattle.rules_code.specs.instructions.OtherChanges.{shown, ticket_change}
use Rattle.rules_code.specs.steps.Failure as failure
use Rattle.rules_code.specs.steps.Environment.{Environment}
use Rattle.rules_code.specs.steps.Changes.{minted, identity_of, is_alike, amount_of, amount_among}
use Rattle.rules_code.specs.steps.Step.{done, fails, kept, discarding}
use Rattle.rules_code.specs.steps.TicketSteps.{as_value, mint, ticket_step_of, are_parts, split, join, ticket_step}
use Rattle.laws_tickets.specs.totals.Agreement.{Agrees, AllAgree}
use Rattle.laws_tickets.specs.totals.Totals.{amount_on}
use Rattle.laws_tickets.proofs.totals.ForCallers.{equal_balances, same_agrees, nothing_compared, same_int, split_amount, join_amount, KeepsStep, KeepsChange, keeps_same, keeps_discarding, keeps_wrong, change_where, one_for}

-- ---- TICKET

minted_sum : (t v : ℤ) → t +ℤ v +ℤ pos 0 ≡ v +ℤ (t +ℤ pos 0)
minted_sum t v = omega (arith, ints)

mint_keeps : (before : ℤ) (t : Held) (a : Kind) (A : List Kind) (V W : List Val) → comparable a ≡ true → Agrees a t.content →
    AllAgree A W → flat_map tickets V ≡ flat_map tickets W →
    KeepsStep (k.option (k.ticket a) ∷ A) V (mint before t W)
mint_keeps before t a A V W c g h e = by_test (int_le (before +ℤ t.amount) most_minted)
  where
    by_test : (b : Bool) → KeepsStep (k.option (k.ticket a) ∷ A) V (if b then done (v.some (as_value t) ∷ W) (minted t ∷ []) else fails failure.integer_limit)
    by_test true = (
      ((c, g), h),
      (λ id. minted_sum (amount_of id t) (amount_on id W) ∙ ap
          (λ ts. amount_among id ts +ℤ (amount_of id t +ℤ pos 0)) (sym e)),
    )
    by_test false = tt

made_keeps : (issuer : List ℕ) (total : Identity → ℤ) (a : Kind) (content : Val) (n : ℕ) (A : List Kind) (V W : List Val) →
    comparable a ≡ true → Agrees a content → AllAgree A W → flat_map tickets V ≡ flat_map tickets W →
    KeepsStep (k.option (k.ticket a) ∷ A) V (ticket_step_of issuer total a content n W)
made_keeps issuer total a content zero A V W c g h e = keeps_same (k.option (k.ticket a) ∷ A) V (v.nothing ∷ W) (tt, h) e
made_keeps issuer total a content (suc n) A V W c g h e =
    let t : Held = record { issuer = issuer; kind = a; content = content; amount = pos (suc n) } in
    mint_keeps (total (identity_of t)) t a A V W c g h e

-- ---- SPLIT_TICKET and JOIN_TICKETS

split_keeps : (t : Held) (x y : ℤ) (a : Kind) (A : List Kind) (V : List Val) → comparable a ≡ true → Agrees a t.content →
    AllAgree A V →
    KeepsStep (k.option (k.pair (k.ticket a) (k.ticket a)) ∷ A) (as_value t ∷ v.both (v.number x) (v.number y) ∷ V)
    (split t x y V)
split_keeps t x y a A V c g h = by_test (are_parts x y t.amount) refl
  where
    by_test : (b : Bool) → are_parts x y t.amount ≡ b →
        KeepsStep (k.option (k.pair (k.ticket a) (k.ticket a)) ∷ A) (as_value t ∷ v.both (v.number x) (v.number y) ∷ V)
        (if b then kept (v.some (v.both (as_value (record t { amount = x }))
        (as_value (record t { amount = y }))) ∷ V) else discarding (as_value t ∷ []) (v.nothing ∷ V))
    by_test true e =
        let p = and_parts (int_lt (pos 0) x && int_lt (pos 0) y) (int_eq (x +ℤ y) t.amount) e in (
          (((c, g), (c, g)), h),
          equal_balances (as_value t ∷ v.both (v.number x) (v.number y) ∷ V)
              (v.some (v.both (as_value (record t { amount = x })) (as_value (record t { amount = y }))) ∷ V)
              (λ id. ap (λ z. z +ℤ amount_on id V) (split_amount id t x y (same_int (x +ℤ y) t.amount p.1))
              ∙ +ℤ_assoc (amount_of id (record t { amount = x })) (amount_of id (record t { amount = y })) (amount_on id V)),
        )
    by_test false e =
        keeps_discarding (k.option (k.pair (k.ticket a) (k.ticket a)) ∷ A) (as_value t ∷ v.both (v.number x) (v.number y) ∷ V)
        (as_value t ∷ []) (v.nothing ∷ V) (tt, h)
        (λ id. ap (λ z. z +ℤ amount_on id V) (sym (+ℤ_idr (amount_of id t))))

gone_sum : (t u v : ℤ) → t +ℤ (u +ℤ v) ≡ t +ℤ (u +ℤ pos 0) +ℤ v
gone_sum t u v = omega (arith, ints)

join_keeps : (t u : Held) (a : Kind) (A : List Kind) (V : List Val) → comparable a ≡ true → Agrees a t.content → AllAgree A V →
    KeepsStep (k.option (k.ticket a) ∷ A) (v.both (as_value t) (as_value u) ∷ V) (join t u V)
join_keeps t u a A V c g h = by_test (is_alike (identity_of t) (identity_of u)) refl
  where
    by_test : (b : Bool) → is_alike (identity_of t) (identity_of u) ≡ b →
        KeepsStep (k.option (k.ticket a) ∷ A) (v.both (as_value t) (as_value u) ∷ V)
        (if b then kept (v.some (as_value (record t { amount = t.amount +ℤ u.amount })) ∷ V) else discarding
        (as_value t ∷ as_value u ∷ []) (v.nothing ∷ V))
    by_test true e = (
      ((c, g), h),
      equal_balances (v.both (as_value t) (as_value u) ∷ V) (v.some (as_value (record t { amount = t.amount +ℤ u.amount })) ∷ V)
          (λ id. sym (+ℤ_assoc (amount_of id t) (amount_of id u) (amount_on id V)) ∙ ap (λ z. z +ℤ amount_on id V)
          (join_amount id t u e)),
    )
    by_test false e =
        keeps_discarding (k.option (k.ticket a) ∷ A) (v.both (as_value t) (as_value u) ∷ V) (as_value t ∷ as_value u ∷ [])
        (v.nothing ∷ V) (tt, h)
        (λ id. gone_sum (amount_of id t) (amount_of id u) (amount_on id V))

-- ---- all

shown_nothing : (issuer : List ℕ) (content : Val) (n : ℤ) → tickets content ≡ [] →
    tickets (v.both (v.bytes issuer) (v.both content (v.number n))) ≡ []
shown_nothing issuer content n e = ap (λ ts. ts ++ []) e

pub ticket_keeps : (e : Environment) (total : Identity → ℤ) (r : TicketRow) (A : List Kind) (V : List Val) → AllAgree A V →
    KeepsChange (ticket_change r A) V (ticket_step e total r V)
ticket_keeps e total (i.ticket a) (j ∷ t.nat ∷ A) (content ∷ v.number (pos n) ∷ V) h =
    change_where (same_kind j a && comparable a) (makes (k.option (k.ticket a)) A) (content ∷ v.number (pos n) ∷ V)
    (ticket_step e total (i.ticket a) (content ∷ v.number (pos n) ∷ V)) (λ f.
    let p = and_parts (same_kind j a) (comparable a) f in
    let g : Agrees a content = same_agrees j a content p.0 h.0 in
    made_keeps (contract_place e.own) total a content n A (content ∷ v.number (pos n) ∷ V) V p.1 g h.1.1
    (ap (λ ts. ts ++ flat_map tickets V) (nothing_compared a content p.1 g)))
ticket_keeps e total (i.ticket a) (j ∷ t.nat ∷ A) _ h = keeps_wrong _ _
ticket_keeps e total i.read_ticket (k.ticket a ∷ A) (v.ticket issuer b content n ∷ V) h =
    one_for (shown a) (k.ticket a ∷ A) (v.ticket issuer b content n ∷ V) (v.both (v.bytes issuer) (v.both content (v.number n)))
    (v.ticket issuer b content n ∷ V)
    (refl, (h.0.1, refl)) (shown_nothing issuer content n (nothing_compared a content h.0.0 h.0.1)) h refl
ticket_keeps e total i.split_ticket (k.ticket a ∷ k.pair t.nat t.nat ∷ A)
    (v.ticket issuer b content n ∷ v.both (v.number x) (v.number y) ∷ V) h =
    split_keeps (record { issuer = issuer; kind = b; content = content; amount = n }) x y a A V h.0.0 h.0.1 h.1.1
ticket_keeps e total i.join_tickets (k.pair (k.ticket a) (k.ticket b) ∷ A)
    (v.both (v.ticket issuer c content n) (v.ticket issuer' c' content' n') ∷ V) h =
    change_where (same_kind a b) (makes (k.option (k.ticket a)) A)
    (v.both (v.ticket issuer c content n) (v.ticket issuer' c' content' n') ∷ V)
    (ticket_step e total i.join_tickets (v.both (v.ticket issuer c content n) (v.ticket issuer' c' content' n') ∷ V)) (λ f.
    join_keeps (record { issuer = issuer; kind = c; content = content; amount = n })
    (record { issuer = issuer'; kind = c'; content = content'; amount = n' }) a A V h.0.0.0 h.0.0.1 h.1)
ticket_keeps e total i.join_tickets (k.pair (k.ticket a) (k.ticket b) ∷ A) _ h = keeps_wrong _ _
ticket_keeps e total _ _ _ h = tt
