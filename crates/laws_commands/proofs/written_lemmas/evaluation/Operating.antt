-- Instructions without bodies.
use Rattle.std.proofs.Common.{◌≡◌, ◌<◌, ◌^◌, ℕ, Bool, true, false, ◌&&◌, List, [], ◌∷◌, Option, Some, None, drop, refl, sym, ap, ◌∙◌, subst, pos}
use Rattle.std.specs.Prelude.{option_map, if◌then◌else◌}
use Rattle.std.specs.Str.{bytes_eq}
use Rattle.rules_text.specs.nodes.Tree.{Tree, Trees, size}
use Rattle.rules_text.specs.declared.nodes.Primitive.{Primitive}
use Rattle.rules_data.specs.forms.Spelling.{default_name, name_of, place_of, entrypoint_of, spelled_address}
use Rattle.rules_data.specs.types.Kind.{Kind}
use Rattle.rules_data.specs.types.Kind as k
use Rattle.rules_data.specs.types.Attributes.{pushable}
use Rattle.rules_code.specs.instructions.Types as ty
use Rattle.rules_code.specs.instructions.Same.{same_kind}
use Rattle.rules_code.specs.instructions.Change.{Change, after, makes, where_true}
use Rattle.rules_code.specs.instructions.OtherChanges.{operation_change}
use Rattle.rules_code.specs.instructions.Rules.{Ruled, ruled, faulty, rule}
use Rattle.rules_code.specs.instructions.Straight.{Straight, OperationRow, TicketRow, on_stack, on_pairs, on_unions, on_collections, on_numbers, on_truth, on_text, on_hashes, on_environment, on_operations, on_tickets}
use Rattle.rules_code.specs.instructions.Straight as i
use Rattle.rules_data.specs.values.Val.{Val}
use Rattle.rules_data.specs.values.Val as v
use Rattle.rules_code.specs.steps.Steps.{step}
use Rattle.rules_code.specs.steps.Costs.{kind_of, weight_of}
use Rattle.rules_code.specs.typing.Nodes.{tree_type}
use Rattle.rules_code.specs.typing.Fits.{Fits}
use Rattle.rules_code.specs.evaluation.Surroundings.{Surroundings}
use Rattle.rules_code.specs.evaluation.Operations.{Tally, transfer, event}
use Rattle.rules_code.specs.evaluation.Outcome.{Outcome, stack, Run, finish}
use Rattle.rules_code.specs.evaluation.Contracts.{Lookup, chosen_entrypoint, takes, address_where, contract_named, contract_of}
use Rattle.rules_code.specs.evaluation.Trying.{trial}
use Rattle.rules_code.specs.evaluation.Operating.{operation_run}
use Rattle.rules_code.specs.evaluation.Straight.{minted_so_far, row_run, ruled_run}
use Rattle.laws_data.proofs.types_lemmas.ForCallers.{same_kind_true}
use Rattle.laws_code.specs.evaluation.Laws.{known}
use Rattle.laws_code.specs.stacks.Sound.{SafeRun}
use Rattle.laws_code.proofs.typed.ForCallers.{Taken, RuledTypes, rule_taken}
use Rattle.laws_commands.specs.written.Written.{HasForm, IsByte, AreBytes, IsWritten}
use Rattle.laws_commands.proofs.written_lemmas.values.Bytes.{implicit_bytes, text_bytes}
use Rattle.laws_commands.proofs.written_lemmas.values.Fitting.{fits_form}
use Rattle.laws_commands.proofs.written_lemmas.values.Mints.{step_mints}
use Rattle.laws_commands.proofs.common.Steps.{MayMint, MayStep}
use Rattle.laws_commands.proofs.written_lemmas.values.Steps.{MayHold, optional_written, step_keeps}
use Rattle.laws_commands.proofs.written_lemmas.evaluation.Tags.{IsNamed, IsNamedRule, rule_named}
use Rattle.laws_commands.proofs.written_lemmas.evaluation.Given.{spelled_bytes}
use Rattle.laws_commands.proofs.written_lemmas.evaluation.Minted.{compared_stored, content_is}
use Rattle.laws_commands.proofs.written_lemmas.evaluation.Stands.{Keeps, Begins, KeepsRun, refuelled, keeps_charge, keeps_finish, keeps_issue}
use Rattle.laws_commands.proofs.written_lemmas.evaluation.Views.{keeps_view}
use Rattle.laws_commands.proofs.common.Lists.{all_take, all_drop, OnSome}

abbrev BytesIf : Option (List ℕ) → Type 0
BytesIf None = Unit {0}
BytesIf (Some b) = AreBytes b

default_bytes : AreBytes default_name
default_bytes = text_bytes default_name refl

pub name_is : (b : List ℕ) → AreBytes b → AreBytes (name_of b)
name_is [] h = default_bytes
name_is (c ∷ b) h = h

chosen_bytes : (a b : List ℕ) → AreBytes a → AreBytes b → BytesIf (chosen_entrypoint a b)
chosen_bytes a b h g = by (bytes_eq a default_name) (bytes_eq b default_name)
  where
    by : (p q : Bool) → BytesIf (if p then Some b else if q then Some a else None)
    by true q = g
    by false true = h
    by false false = tt

named_bytes : (at : Lookup) (place : List ℕ) (a : Kind) (o : Option (List ℕ)) → AreBytes place → BytesIf o →
    BytesIf (contract_named at place a o)
named_bytes at place a None h g = tt
named_bytes at place a (Some name) h g = by (takes at place name a)
  where
    by : (q : Bool) → BytesIf (address_where q (spelled_address place name))
    by true = spelled_bytes place name h g
    by false = tt

contract_is : (at : Lookup) (name : List ℕ) (a : Kind) (address : List ℕ) → AreBytes name → AreBytes address →
    BytesIf (contract_of at name a address)
contract_is at name a address h g =
    named_bytes at (place_of address) a (chosen_entrypoint (entrypoint_of address) name) (all_take IsByte 22 address g)
    (chosen_bytes (entrypoint_of address) name (name_is (drop 22 address) (all_drop IsByte 22 address g)) h)

some_bytes : (o : Option (List ℕ)) → BytesIf o → OnSome IsWritten (option_map v.bytes o)
some_bytes None h = tt
some_bytes (Some b) h = h

module _ (There : List ℕ → Type 0) where
  abbrev KeepsAfter : Option Change → (List Kind → Outcome) → Type 0
  KeepsAfter None go = Unit {0}
  KeepsAfter (Some c) go = Keeps There (go (after c))

  after_where : (b : Bool) (c : Option Change) (go : List Kind → Outcome) → (b ≡ true → KeepsAfter c go) → KeepsAfter (where_true b c) go
  after_where true c go h = h refl
  after_where false c go h = tt

  module _ (again : Tree → Run) (sa : (t : Tree) → size t < 2 ^ 32 → SafeRun (tree_type t) (again t))
      (ka : (t : Tree) → size t < 2 ^ 32 → HasForm t → KeepsRun There (tree_type t) (again t)) where
    module _ (e : Surroundings) (d : ℕ) (m : Tally) where
      operation_keeps : (r : OperationRow) (A : List Kind) (V : List Val) → IsNamed (on_operations r) → Begins There e A V m →
          KeepsAfter (operation_change r A) (λ B. operation_run again r e d B V m)
      operation_keeps i.address (k.contract a ∷ A) (v.bytes b ∷ V) n g = (g.values, g.tally)
      operation_keeps i.implicit_account (ty.key_hash ∷ A) (v.bytes b ∷ V) n g = ((implicit_bytes b g.values.0, g.values.1), g.tally)
      operation_keeps (i.contract name a) (ty.address ∷ A) (v.bytes b ∷ V) n g = (
        (
          optional_written (option_map v.bytes (contract_of e.contract_at name a b))
              (some_bytes (contract_of e.contract_at name a b) (contract_is e.contract_at name a b n.0 g.values.0)),
          g.values.1,
        ),
        g.tally,
      )
      operation_keeps i.transfer_tokens (a ∷ ty.mutez ∷ k.contract c ∷ A) (x ∷ v.number (pos amount) ∷ v.bytes b ∷ V) n g =
          after_where (same_kind a c) (makes k.operation A) _ (λ q.
          keeps_issue There (transfer x amount b) m (λ o m. stack (k.operation ∷ A) (o ∷ V) m) (g.values.0, g.values.1.1.0, g.sound.fit.1.1.0.0)
          g.tally (λ l j t. ((tt, g.values.1.1.1), t)))
      operation_keeps i.transfer_tokens (a ∷ ty.mutez ∷ k.contract c ∷ A) _ n g = after_where (same_kind a c) (makes k.operation A) _
          (λ q. tt)
      operation_keeps (i.emit tag a) (c ∷ A) (x ∷ V) n g =
          after_where (same_kind c a && pushable c) (makes k.operation A) _ (λ q.
          keeps_issue There (event tag a x) m (λ o m. stack (k.operation ∷ A) (o ∷ V) m) (n, g.values.0) g.tally (λ l j t. ((tt, g.values.1), t)))
      operation_keeps (i.emit tag a) (c ∷ A) [] n g = absurd g.sound.fit
      operation_keeps (i.view name a c) (b ∷ ty.address ∷ A) (x ∷ v.bytes address ∷ V) n g =
          after_where (same_kind a b) (makes (k.option c) A) _ (λ q.
          keeps_view There again sa ka e d m name a c A x address V
          (subst (λ z. Begins There e (z ∷ ty.address ∷ A) (x ∷ v.bytes address ∷ V) m) (sym (same_kind_true a b q)) g))
      operation_keeps (i.view name a c) (b ∷ ty.address ∷ A) _ n g = after_where (same_kind a b) (makes (k.option c) A) _ (λ q. tt)
      operation_keeps _ _ V n g = tt

    -- ---- all

    after_is : (o : Option Change) (c : Change) (B : List Kind) (go : List Kind → Outcome) → o ≡ Some c → B ≡ after c → KeepsAfter o go →
        Keeps There (go B)
    after_is (Some b) c B go e f h = let l : b ≡ c = cc in subst (λ C. Keeps There (go C)) (ap after l ∙ sym f) h
    after_is None c B go e f h = absurd cc

    by_step : (e : Surroundings) (A : List Kind) (V : List Val) (m : Tally) → Begins There e A V m → (r : Straight) → MayStep MayHold r V →
        (B : List Kind) →
        Keeps There (finish (step e.environment (minted_so_far e m) (trial e) r V) B m)
    by_step e A V m g r may B =
        keeps_finish There (step e.environment (minted_so_far e m) (trial e) r V) B m
        (step_keeps e.environment g.sees.environment g.good.environment.own (minted_so_far e m) (trial e) r V may g.values)
        e.environment.own g.own (step_mints e.environment.own e.environment refl (minted_so_far e m) (trial e) r V) g.tally

    may_mint : (e : Surroundings) (r : TicketRow) (A B : List Kind) (V : List Val) (m : Tally) → Taken (on_tickets r) A B → Begins There e A V m →
        MayMint MayHold r V
    may_mint e (i.ticket a) (c ∷ A) B (x ∷ V) m t g =
        let K = known e.contract_at m.issued in
        let types = content_is c a A B t in (
          fits_form K c x g.sound.fit.0 g.values.0,
          types.1,
          types.2,
          compared_stored K a x types.1 (subst (λ z. Fits K z x) types.0 g.sound.fit.0),
        )
    may_mint e (i.ticket a) [] B (x ∷ V) m t g = absurd g.sound.fit
    may_mint e (i.ticket a) A B [] m t g = tt
    may_mint e i.read_ticket A B V m t g = tt
    may_mint e i.split_ticket A B V m t g = tt
    may_mint e i.join_tickets A B V m t g = tt

    row_keeps : (r : Straight) (e : Surroundings) (d : ℕ) (A B : List Kind) (V : List Val) (m : Tally) → IsNamed r → Taken r A B →
        Begins There e A V m →
        Keeps There (row_run again r e d B V m)
    row_keeps (on_stack r) e d A B V m n t g = by_step e A V m g (on_stack r) tt B
    row_keeps (on_pairs r) e d A B V m n t g = by_step e A V m g (on_pairs r) tt B
    row_keeps (on_unions r) e d A B V m n t g = by_step e A V m g (on_unions r) tt B
    row_keeps (on_collections r) e d A B V m n t g = by_step e A V m g (on_collections r) tt B
    row_keeps (on_numbers r) e d A B V m n t g = by_step e A V m g (on_numbers r) tt B
    row_keeps (on_truth r) e d A B V m n t g = by_step e A V m g (on_truth r) tt B
    row_keeps (on_text r) e d A B V m n t g = by_step e A V m g (on_text r) tt B
    row_keeps (on_hashes r) e d A B V m n t g = by_step e A V m g (on_hashes r) tt B
    row_keeps (on_environment r) e d A B V m n t g = by_step e A V m g (on_environment r) tt B
    row_keeps (on_operations r) e d A B V m n t g =
        after_is (operation_change r A) t.effect B (λ C. operation_run again r e d C V m) t.changes t.stack (operation_keeps e d m r A V n g)
    row_keeps (on_tickets r) e d A B V m n t g = by_step e A V m g (on_tickets r) (may_mint e r A B V m t g) B

    ruled_keeps : (u : Ruled) (e : Surroundings) (d : ℕ) (A : List Kind) (V : List Val) (m : Tally) → IsNamedRule u → RuledTypes u A →
        Begins There e A V m →
        Keeps There (ruled_run again u e d A V m)
    ruled_keeps (ruled r B) e d A V m n t g =
        keeps_charge There e.prices (kind_of r) (weight_of r V) m (λ m. row_run again r e d B V m) (λ gas. row_keeps r e d A B V
        (record m { gas = gas }) n t (refuelled There gas g))
    ruled_keeps (faulty l) e d A V m n t g = tt

    pub keeps_ruled : (name : Option Primitive) (annots : List (List ℕ)) (ts : Trees) (e : Surroundings) (d : ℕ) (A : List Kind)
        (V : List Val) (m : Tally) → Begins There e A V m →
        Keeps There (ruled_run again (rule name annots ts A) e d A V m)
    keeps_ruled name annots ts e d A V m g =
        ruled_keeps (rule name annots ts A) e d A V m (rule_named name annots ts A) (rule_taken name annots ts A g.sound.types) g
