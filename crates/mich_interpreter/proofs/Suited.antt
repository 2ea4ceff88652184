-- What instructions without bodies ask of a run, besides values that fit.
use Rattle.std.proofs.Common.{◌≡◌, ℕ, List, [], ◌∷◌, ◌++◌, map, subst, arith}
use Rattle.std.specs.Prelude.{ℤ, pos, ◌+ℤ◌, ◌≤ℤ◌}
use Rattle.std.specs.List.{All, flat_map}
use Rattle.std.proofs.lemmas.Int.{ints}
use Rattle.std.proofs.lemmas.List.Elements.{All-tail}
use Rattle.rules_text.specs.nodes.Tree.{Tree}
use Rattle.rules_data.specs.types.Kind.{Kind}
use Rattle.rules_code.specs.instructions.Straight.{Straight}
use Rattle.rules_data.specs.values.Tickets.{Identity, tickets}
use Rattle.rules_code.specs.steps.Changes.{amount_among}
use Rattle.rules_code.specs.evaluation.Operations.{Issued, operation_tickets}
use Rattle.rules_code.specs.evaluation.Outcome.{Outcome}
use Rattle.laws_code.specs.evaluation.Laws.{amount_issued}
use Rattle.laws_code.specs.stacks.Sound.{IsSoundIssue}
use Rattle.mich_frames.proofs.operands.ForCallers.{issued_positive, tickets_handed, row_suits, row_positive}
use Rattle.mich_gas.specs.declared.costs.Costs.{Costs}
use Rattle.mich_instr.specs.Code as made
use Rattle.mich_frames.specs.Fine.{minted_by, burnt_by}
use Rattle.mich_frames.specs.Frames.{Frame}
use Rattle.mich_stack.specs.Views.{plain}
use Rattle.mich_step.specs.Rule.{Suits}
use Rattle.mich_step.proofs.ForCallers.{suits_same, tickets_same}
use Rattle.mich_tickets.specs.Limits.{IsReady, IsWithin}
use Rattle.mich_tickets.specs.Sums.{minted_of, burnt_of}
use Rattle.mich_interpreter.specs.Issues.{issued_by}
use Rattle.mich_interpreter.specs.View.{Beyond, tops, around, tally}
use Rattle.mich_interpreter.specs.Ends.{Meets}
use Rattle.mich_state.specs.declared.state.State.{State}
use Rattle.mich_interpreter.proofs.Told.{minted_by_now, burnt_is}

-- ---- operations that were issued before a view, and in it

no_amount : (a : ℤ) → a ≡ pos 0 +ℤ a
no_amount a = omega (arith, ints)

grouped : (a b c d : ℤ) → d ≡ b +ℤ c → a +ℤ d ≡ (a +ℤ b) +ℤ c
grouped a b c d e = omega (arith, ints, e)

amount_both : (id : Identity) (is js : List Issued) → amount_issued id (is ++ js) ≡ amount_issued id is +ℤ amount_issued id js
amount_both id [] js = no_amount (amount_issued id js)
amount_both id (i ∷ is) js =
    grouped (amount_among id (operation_tickets i.operation)) (amount_issued id is) (amount_issued id js) (amount_issued id (is ++ js)) (amount_both id is js)

All-last : (P : Issued → Type 0) (is js : List Issued) → All P (is ++ js) → All P js
All-last P [] js h = h
All-last P (i ∷ is) js h = All-last P is js (All-tail P i (is ++ js) h)

enough : (b now first more all v m n : ℤ) → b ≡ now +ℤ first → m ≡ n → all ≡ first +ℤ more → pos 0 ≤ℤ more → (now +ℤ all +ℤ v) ≤ℤ n → (b +ℤ v) ≤ℤ m
enough b now first more all v m n e f g h l = omega (arith, ints, e, f, g, h, l)

-- ---- a run

module _ (x : Beyond) (costs : Costs) (m : State) {fs : List Frame} {d : ℕ} {Z : List Kind} {o : Outcome} (r : Straight) {app : Tree} (h : Meets (made.straight r app) x costs m fs d Z o) where
  -- big maps are seen with their tickets
  pub suits_plain : Suits r (plain m.stack)
  suits_plain = suits_same r (tops x.sight m.stack) (plain m.stack) (x.shows m.stack) (row_suits h)

  abbrev later : List Issued
  later = map (issued_by x.sight) m.issued

  within_so : (id : Identity) → IsWithin m.ledger.books.present id (flat_map tickets (tops x.sight m.stack))
  within_so id =
      enough (burnt_of m.ledger.books.present id) (burnt_by (around x costs m) (tally x m).changes id) (amount_issued id x.before.issued) (amount_issued id later) (amount_issued id (tally x m).issued)
      (amount_among id (flat_map tickets (tops x.sight m.stack))) (minted_of m.ledger.books.present id) (minted_by (around x costs m) (tally x m).changes id)
      (burnt_is x.before m id) (minted_by_now x.before m id) (amount_both id x.before.issued later)
      (issued_positive id x.contract_at later (All-last (λ (i : Issued). IsSoundIssue x.contract_at i.operation) x.before.issued later h.holds.well.0)) (tickets_handed h.holds id)

  pub ready_tops : IsReady m.ledger.books.present (flat_map tickets (tops x.sight m.stack))
  ready_tops = record { positive = row_positive h; within = within_so }

  pub ready_plain : IsReady m.ledger.books.present (flat_map tickets (plain m.stack))
  ready_plain = subst (IsReady m.ledger.books.present) (tickets_same (tops x.sight m.stack) (plain m.stack) (x.shows m.stack)) ready_tops
