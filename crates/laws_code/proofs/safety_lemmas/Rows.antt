-- Instructions without bodies.
use Rattle.std.proofs.Common.{◌≡◌, ℕ, List, Option, Some, None, sym, ap, ◌∙◌, subst}
use Rattle.rules_text.specs.nodes.Tree.{Tree, Trees}
use Rattle.rules_text.specs.declared.nodes.Primitive.{Primitive}
use Rattle.rules_data.specs.types.Kind.{Kind}
use Rattle.rules_code.specs.instructions.Change.{Change, after, makes}
use Rattle.rules_code.specs.instructions.Rules.{Ruled, ruled, faulty, rule}
use Rattle.rules_code.specs.instructions.Straight.{Straight, HashRow, on_stack, on_pairs, on_unions, on_collections, on_numbers, on_truth, on_text, on_hashes, on_environment, on_operations, on_tickets}
use Rattle.rules_code.specs.instructions.Straight as i
use Rattle.rules_data.specs.values.Val.{Val}
use Rattle.rules_code.specs.instructions.OtherChanges.{environment_kind, operation_change, ticket_change}
use Rattle.rules_code.specs.steps.TicketSteps.{ticket_step}
use Rattle.rules_code.specs.steps.Reading.{environment_step}
use Rattle.rules_code.specs.steps.Step.{Step}
use Rattle.rules_code.specs.steps.Costs.{kind_of, weight_of}
use Rattle.rules_code.specs.typing.Typing.{goes}
use Rattle.rules_code.specs.typing.Acts.{of_rule}
use Rattle.rules_code.specs.evaluation.Surroundings.{Surroundings}
use Rattle.rules_code.specs.evaluation.Operations.{Tally}
use Rattle.rules_code.specs.evaluation.Outcome.{Run, finish}
use Rattle.rules_code.specs.evaluation.Straight.{minted_so_far, row_run, ruled_run}
use Rattle.laws_code.specs.evaluation.Laws.{known, IsGood}
use Rattle.laws_code.specs.stacks.Sound.{seen, Sound, KeepsFrom, SafeRun}
use Rattle.laws_code.proofs.stacks.ForCallers.{keeps_charge}
use Rattle.laws_code.proofs.steps.ForCallers.{StepFits, finish_keeps, collection_keeps, number_keeps, logic_keeps, text_keeps, DecodedAreSmall, HashCarries, hash_keeps, environment_keeps, TicketFits, ticket_keeps}
use Rattle.laws_code.proofs.typed.ForCallers.{RowTypes, Taken, RuledTypes, rule_taken}
use Rattle.laws_code.proofs.safety_lemmas.StackRows.{stack_keeps}
use Rattle.laws_code.proofs.safety_lemmas.PairRows.{pair_keeps, union_keeps}
use Rattle.laws_code.proofs.safety_lemmas.OperationRows.{ViewKeeps, OperationFits, operation_keeps}
use Rattle.laws_code.proofs.control.ForCallers.{SafeNodes}

hash_carries : (r : HashRow) → RowTypes (on_hashes r) → HashCarries r
hash_carries i.pack h = tt
hash_carries (i.unpack a) h = h.0
hash_carries i.blake2b h = tt
hash_carries i.sha256 h = tt
hash_carries i.sha512 h = tt
hash_carries i.hash_key h = tt

-- what VIEW does is known
abbrev pub ViewsKeep : Type 0
ViewsKeep = (q : Tree → Run) → SafeNodes q → (e : Surroundings) (d : ℕ) (m : Tally) → IsGood e → ViewKeeps q e d m

module _ (small : DecodedAreSmall) (views : ViewsKeep) (q : Tree → Run) (sq : SafeNodes q) where
  abbrev RowKept : Straight → Option Change → Surroundings → ℕ → List Val → Tally → Type 0
  RowKept r None e d V m = Unit {0}
  RowKept r (Some c) e d V m = KeepsFrom (seen e) m.issued m.changes V (goes (after c)) (row_run q r e d (after c) V m)

  by_step : (e : Surroundings) (m : Tally) (A : List Kind) (V : List Val) (o : Option Change) (s : Step) →
      Sound (seen e) m.issued m.changes A V → StepFits (known e.contract_at m.issued) V o s →
      (B : List Kind) (c : Change) → o ≡ Some c → B ≡ after c → KeepsFrom (seen e) m.issued m.changes V (goes B) (finish s B m)
  by_step e m A V None s so h B c e1 e2 = absurd cc
  by_step e m A V (Some b) s so h B c e1 e2 =
      let same : b ≡ c = cc in
      let whole : B ≡ after b = e2 ∙ ap after (sym same) in
      subst (λ X. KeepsFrom (seen e) m.issued m.changes V (goes X) (finish s X m)) (sym whole)
      (finish_keeps (seen e) m A (after b) V s so h)

  row_keeps : (r : Straight) (e : Surroundings) (d : ℕ) (A : List Kind) (V : List Val) (m : Tally) → IsGood e →
      Sound (seen e) m.issued m.changes A V → (B : List Kind) → Taken r A B →
      KeepsFrom (seen e) m.issued m.changes V (goes B) (row_run q r e d B V m)
  row_keeps (on_stack r) e d A V m g so B t = by_step e m A V _ _ so
      (stack_keeps (known e.contract_at m.issued) r A V so.fit) B t.effect t.changes t.stack
  row_keeps (on_pairs r) e d A V m g so B t = by_step e m A V _ _ so
      (pair_keeps (known e.contract_at m.issued) r A V so.fit) B t.effect t.changes t.stack
  row_keeps (on_unions r) e d A V m g so B t = by_step e m A V _ _ so
      (union_keeps (known e.contract_at m.issued) r A V so.fit) B t.effect t.changes t.stack
  row_keeps (on_collections r) e d A V m g so B t = by_step e m A V _ _ so
      (collection_keeps (known e.contract_at m.issued) r A V so.fit) B t.effect t.changes t.stack
  row_keeps (on_numbers r) e d A V m g so B t = by_step e m A V _ _ so
      (number_keeps (known e.contract_at m.issued) r A V so.fit) B t.effect t.changes t.stack
  row_keeps (on_truth r) e d A V m g so B t = by_step e m A V _ _ so
      (logic_keeps (known e.contract_at m.issued) r A V so.fit) B t.effect t.changes t.stack
  row_keeps (on_text r) e d A V m g so B t = by_step e m A V _ _ so
      (text_keeps (known e.contract_at m.issued) r A V so.fit) B t.effect t.changes t.stack
  row_keeps (on_hashes r) e d A V m g so B t = by_step e m A V _ _ so
      (hash_keeps small e m.issued r A V (hash_carries r t.carries) so.fit) B t.effect t.changes t.stack
  row_keeps (on_environment r) e d A V m g so B t = by_step e m A V (makes (environment_kind r) A)
      (environment_step e.environment r V) so (environment_keeps
      (known e.contract_at m.issued) e.environment g.environment r A V so.fit) B t.effect t.changes t.stack
  row_keeps (on_operations r) e d A V m g so B t = by_change (operation_change r A)
      (operation_keeps q e d m (views q sq e d m g) r A V t.carries so) t.effect t.changes t.stack
    where
      by_change : (o : Option Change) → OperationFits q e d m (views q sq e d m g) r V o → (c : Change) → o ≡ Some c →
          B ≡ after c → KeepsFrom (seen e) m.issued m.changes V (goes B) (row_run q (on_operations r) e d B V m)
      by_change None h c e1 e2 = absurd cc
      by_change (Some b) h c e1 e2 =
          let same : b ≡ c = cc in
          let whole : B ≡ after b = e2 ∙ ap after (sym same) in
          subst (λ X. KeepsFrom (seen e) m.issued m.changes V (goes X) (row_run q (on_operations r) e d X V m)) (sym whole) h
  row_keeps (on_tickets r) e d A V m g so B t = by_change (ticket_change r A)
      (ticket_keeps e g m r A V so) t.effect t.changes t.stack
    where
      by_change : (o : Option Change) → TicketFits e g m V o (ticket_step e.environment (minted_so_far e m) r V) →
          (c : Change) → o ≡ Some c → B ≡ after c → KeepsFrom (seen e) m.issued m.changes V (goes B)
          (row_run q (on_tickets r) e d B V m)
      by_change None h c e1 e2 = absurd cc
      by_change (Some b) h c e1 e2 =
          let same : b ≡ c = cc in
          let whole : B ≡ after b = e2 ∙ ap after (sym same) in
          subst (λ X. KeepsFrom (seen e) m.issued m.changes V (goes X) (row_run q (on_tickets r) e d X V m)) (sym whole) h

  ruled_keeps : (r : Ruled) (e : Surroundings) (d : ℕ) (A : List Kind) (V : List Val) (m : Tally) → IsGood e →
      Sound (seen e) m.issued m.changes A V → RuledTypes r A →
      KeepsFrom (seen e) m.issued m.changes V (of_rule r) (ruled_run q r e d A V m)
  ruled_keeps (ruled row B) e d A V m g so t =
      keeps_charge (seen e) m V (goes B) e.prices (kind_of row) (weight_of row V) (λ m. row_run q row e d B V m)
      (λ h. row_keeps row e d A V (record m { gas = h }) g so B t)
  ruled_keeps (faulty l) e d A V m g so t = tt

  pub rows_keep : (name : Option Primitive) (annots : List (List ℕ)) (ts : Trees) →
      SafeRun (λ c A. of_rule (rule name annots ts A)) (λ e d A V m. ruled_run q (rule name annots ts A) e d A V m)
  rows_keep name annots ts e d A V m g so = ruled_keeps (rule name annots ts A) e d A V m g so
      (rule_taken name annots ts A so.types)
