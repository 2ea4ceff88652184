-- Contracts and operations.
use Rattle.std.proofs.Common.{◌≡◌, ℕ, nat_lt, Bool, true, false, ◌&&◌, List, [], ◌∷◌, ◌++◌, Option, Some, None, refl, sym, ap, subst, arith, pos, ◌∙◌}
use Rattle.std.specs.Prelude.{◌≤◌, ◌^◌, ◌-◌, int_le, ℤ, ◌≤ℤ◌, ◌==◌, ◌||◌, option_map, option_and_then, if◌then◌else◌}
use Rattle.std.proofs.lemmas.List.{append-nil}
use Rattle.std.specs.List.{list_any}
use Rattle.std.proofs.lemmas.Int.{ints}
use Rattle.std.proofs.lemmas.Bool.Decides.{nat_tests}
use Rattle.rules_text.specs.nodes.Limits.{operation_limit}
use Rattle.rules_text.specs.nodes.Tree.{Tree}
use Rattle.rules_data.specs.forms.Spelling.{implicit_place, default_name, spelled_address, IsPlace, is_key_hash, is_address}
use Rattle.rules_data.specs.types.Kind.{Kind}
use Rattle.rules_data.specs.types.Kind as k
use Rattle.rules_data.specs.types.Attributes.{pushable, packable}
use Rattle.rules_code.specs.instructions.Types as ty
use Rattle.rules_code.specs.instructions.Same.{same_kind}
use Rattle.rules_code.specs.instructions.Change.{Change, after, makes, where_true}
use Rattle.rules_code.specs.instructions.OtherChanges.{operation_change}
use Rattle.rules_code.specs.instructions.Straight.{OperationRow, on_operations}
use Rattle.rules_code.specs.instructions.Straight as i
use Rattle.rules_data.specs.values.Val.{Val}
use Rattle.rules_data.specs.values.Val as v
use Rattle.rules_data.specs.values.Tickets.{Identity}
use Rattle.rules_code.specs.steps.Changes.{amount_in}
use Rattle.rules_code.specs.steps.Step.{optional}
use Rattle.rules_code.specs.typing.Typing.{goes}
use Rattle.rules_code.specs.typing.Fits.{Known, AllFit, Fits}
use Rattle.rules_code.specs.evaluation.Surroundings.{Surroundings}
use Rattle.rules_code.specs.evaluation.Operations.{Operation, transfer, event, Issued, Tally}
use Rattle.rules_code.specs.evaluation.Outcome.{stack, Run}
use Rattle.rules_code.specs.evaluation.Contracts.{Lookup, takes, has_kind, entry_in, contract_in, contract_of, is_contract_of, viewed}
use Rattle.rules_code.specs.evaluation.Issuing.{with_operation, issued_where, issue}
use Rattle.rules_code.specs.evaluation.Operating.{view_run, operation_run}
use Rattle.laws_code.specs.evaluation.Laws.{known, amount_on, most_mutez}
use Rattle.laws_code.specs.stacks.Sound.{IsSoundIssue, Seen, seen, Sound, KeepsFrom}
use Rattle.laws_code.proofs.stacks.ForCallers.{positive, all_grow, knows_grow, after_still, GivesContract, contract_gives, taken_there, spelled_is, default_is}
use Rattle.laws_data.proofs.types_lemmas.ForCallers.{same_kind_true}
use Rattle.laws_code.proofs.steps.ForCallers.{on_natural, amount_low}
use Rattle.laws_data.proofs.forms_lemmas.ForCallers.{implicit_is}
use Rattle.laws_code.proofs.typed.ForCallers.{RowTypes}
use Rattle.std.proofs.lemmas.Bool.{and_parts}
use Rattle.std.proofs.lemmas.List.Elements.{All-push}
use Rattle.rules_data.specs.values.Literals.{is_amount}

-- ---- what is issued

or_keeps : (b c d : Bool) → (b || c) ≡ true → (c ≡ true → d ≡ true) → (b || d) ≡ true
or_keeps true c d h f = refl
or_keeps false c d h f = f h

or_right : (b c : Bool) → c ≡ true → (b || c) ≡ true
or_right true c h = refl
or_right false c h = h

any_append : (f : Issued → Bool) (is js : List Issued) → list_any f is ≡ true → list_any f (is ++ js) ≡ true
any_append f [] js h = absurd cc
any_append f (x ∷ is) js h = or_keeps (f x) (list_any f is) (list_any f (is ++ js)) h (any_append f is js)

any_last : (f : Issued → Bool) (is : List Issued) (x : Issued) → f x ≡ true → list_any f (is ++ x ∷ []) ≡ true
any_last f [] x h = ap (λ b. b || false) h
any_last f (y ∷ is) x h = or_right (f y) (list_any f (is ++ x ∷ [])) (any_last f is x h)

same_number : (n : ℕ) → (n == n) ≡ true
same_number n = grind (arith, nat_tests)

module _ (e : Seen) (m : Tally) where
  issued_fits : (op : Operation) (A B : List Kind) (V W : List Val) → Sound e m.issued m.changes A V →
      AllFit (known e.contract_at m.issued) B W → ((id : Identity) → amount_on id W ≤ℤ amount_on id V) →
      IsSoundIssue e.contract_at op → (b : Bool) →
      KeepsFrom e m.issued m.changes V (goes (k.operation ∷ B)) (issued_where b op m (λ o m. stack (k.operation ∷ B) (o ∷ W) m))
  issued_fits op A B V W so h le good false = tt
  issued_fits op A B V W so h le good true =
      let more : (j : ℕ) → list_any (λ i. i.number == j) m.issued ≡ true →
      list_any (λ i. i.number == j) (with_operation m op).issued ≡ true = λ j q. any_append
      (λ i. i.number == j) m.issued _ q in (
        refl,
        record {
          fit = (
            any_last (λ i. i.number == m.operations) m.issued (record { number = m.operations; operation = op })
                (same_number m.operations),
            all_grow (known e.contract_at m.issued) (known e.contract_at (with_operation m op).issued)
                (knows_grow e m.issued (with_operation m op).issued more) B W h,
          );
          grows = more;
          tickets = λ id. let p : amount_on id W ≤ℤ amount_on id V = le id in omega (arith, ints);
          most = so.most;
          mints = so.mints;
          well = λ h. (
            All-push (λ i. IsSoundIssue e.contract_at i.operation) m.issued
                (record { number = m.operations; operation = op }) h.0 good,
            h.1,
          );
        },
      )

  pub issue_keeps : (op : Operation) (A B : List Kind) (V W : List Val) → Sound e m.issued m.changes A V →
      AllFit (known e.contract_at m.issued) B W → ((id : Identity) → amount_on id W ≤ℤ amount_on id V) →
      IsSoundIssue e.contract_at op →
      KeepsFrom e m.issued m.changes V (goes (k.operation ∷ B)) (issue op m (λ o m. stack (k.operation ∷ B) (o ∷ W) m))
  issue_keeps op A B V W so h le good = issued_fits op A B V W so h le good (nat_lt m.operations operation_limit)

-- ---- the rows

pub amount_most : (n : ℕ) → is_amount (pos n) ≡ true → n ≤ most_mutez
amount_most n h =
    let high : int_le (pos n) (pos (2 ^ 63 - 1)) ≡ true = (and_parts (int_le (pos 0) (pos n))
    (int_le (pos n) (pos (2 ^ 63 - 1))) h).1 in
    grind (arith, ints)

unit_account : (at : Lookup) (b : List ℕ) → is_key_hash b ≡ true →
    (is_address (implicit_place b) ≡ true) × (is_contract_of at ty.unit (implicit_place b) ≡ true)
unit_account at b h =
    let place : IsPlace (implicit_place b) = implicit_is b h in
    let spelled : spelled_address (implicit_place b) default_name ≡ implicit_place b = append-nil (implicit_place b) in
    let taken : takes at (implicit_place b) default_name ty.unit ≡ true = taken_account h in (
      subst (λ x. is_address x ≡ true) spelled (spelled_is (implicit_place b) default_name place default_is),
      subst (λ x. is_contract_of at ty.unit x ≡ true) spelled
          (taken_there at (implicit_place b) default_name ty.unit place default_is taken),
    )
  where
    by_test : (q : Bool) → q ≡ true → (if q then true else has_kind ty.unit
        (option_and_then (entry_in default_name) (contract_in at (implicit_place b)))) ≡ true
    by_test true e = refl
    by_test false e = absurd cc

    taken_account : is_key_hash b ≡ true → takes at (implicit_place b) default_name ty.unit ≡ true
    taken_account h = by_test (is_key_hash b) h

-- what VIEW promises
abbrev pub ViewKeeps : (Tree → Run) → Surroundings → ℕ → Tally → Type 0
ViewKeeps q e d m = (name address : List ℕ) (a b : Kind) (A : List Kind) (x : Val) (V : List Val) → packable b ≡ true →
    is_address address ≡ true → Sound (seen e) m.issued m.changes (a ∷ ty.address ∷ A) (x ∷ v.bytes address ∷ V) →
    KeepsFrom (seen e) m.issued m.changes (x ∷ v.bytes address ∷ V) (goes (k.option b ∷ A))
    (view_run q e d a b (viewed e.contract_at name a b address) x (k.option b ∷ A) V m)

module _ (q : Tree → Run) (e : Surroundings) (d : ℕ) (m : Tally) (views : ViewKeeps q e d m) where
  abbrev pub w : Known
  w = known e.contract_at m.issued

  abbrev pub OperationFits : OperationRow → List Val → Option Change → Type 0
  OperationFits r V None = Unit {0}
  OperationFits r V (Some c) = KeepsFrom (seen e) m.issued m.changes V (goes (after c)) (operation_run q r e d (after c) V m)

  still : (A B : List Kind) (V W : List Val) → Sound (seen e) m.issued m.changes A V → AllFit w B W →
      ((id : Identity) → amount_on id W ≤ℤ amount_on id V) → KeepsFrom (seen e) m.issued m.changes V (goes B) (stack B W m)
  still A B V W so h le = (refl, after_still A B W m so h le)

  optional_contract : (a : Kind) (A : List Kind) (b : List ℕ) (V : List Val) (o : Option (List ℕ)) →
      GivesContract e.contract_at a o → Sound (seen e) m.issued m.changes (ty.address ∷ A) (v.bytes b ∷ V) →
      KeepsFrom (seen e) m.issued m.changes (v.bytes b ∷ V) (goes (k.option (k.contract a) ∷ A))
      (stack (k.option (k.contract a) ∷ A) (optional (option_map v.bytes o) ∷ V) m)
  optional_contract a A b V None g so = still (ty.address ∷ A) (k.option (k.contract a) ∷ A) (v.bytes b ∷ V) (v.nothing ∷ V) so
      (tt, so.fit.1) (λ id. omega (arith, ints))
  optional_contract a A b V (Some c) g so = still (ty.address ∷ A) (k.option (k.contract a) ∷ A) (v.bytes b ∷ V)
      (v.some (v.bytes c) ∷ V) so (g, so.fit.1) (λ id. omega (arith, ints))

  transfers : (a c : Kind) (A : List Kind) (x : Val) (n : ℤ) (b : List ℕ) (V : List Val) →
      Sound (seen e) m.issued m.changes (a ∷ ty.mutez ∷ k.contract c ∷ A) (x ∷ v.number n ∷ v.bytes b ∷ V) → (p : Bool) →
      same_kind a c ≡ p → OperationFits i.transfer_tokens (x ∷ v.number n ∷ v.bytes b ∷ V) (where_true p (makes k.operation A))
  transfers a c A x n b V so false r = tt
  transfers a c A x n b V so true r =
      on_natural (λ n. Sound (seen e) m.issued m.changes (a ∷ ty.mutez ∷ k.contract c ∷ A) (x ∷ v.number n ∷ v.bytes b ∷ V) →
      OperationFits i.transfer_tokens (x ∷ v.number n ∷ v.bytes b ∷ V) (makes k.operation A))
      n (amount_low n so.fit.1.0)
      (λ amount so. issue_keeps (seen e) m (transfer x amount b) (a ∷ ty.mutez ∷ k.contract c ∷ A) A
      (x ∷ v.number (pos amount) ∷ v.bytes b ∷ V) V so so.fit.1.1.1
      (λ id. let p : pos 0 ≤ℤ amount_in id x = positive id w a x so.fit.0 in omega (arith, ints)) (
        c,
        m.issued,
        so.types.1.1.0.0,
        so.fit.1.1.0.1,
        subst (λ z. Fits w z x) (same_kind_true a c r) so.fit.0,
        amount_most amount so.fit.1.0,
      )) so

  emits : (tag : List ℕ) (a c : Kind) (A : List Kind) (x : Val) (V : List Val) →
      Sound (seen e) m.issued m.changes (c ∷ A) (x ∷ V) → (p : Bool) → (same_kind c a && pushable c) ≡ p →
      OperationFits (i.emit tag a) (x ∷ V) (where_true p (makes k.operation A))
  emits tag a c A x V so false r = tt
  emits tag a c A x V so true r =
      let qs : (same_kind c a ≡ true) × (pushable c ≡ true) = and_parts (same_kind c a) (pushable c) r in
      let same : c ≡ a = same_kind_true c a qs.0 in
      issue_keeps (seen e) m (event tag a x) (c ∷ A) A (x ∷ V) V so so.fit.1
      (λ id. let p : pos 0 ≤ℤ amount_in id x = positive id w c x so.fit.0 in omega (arith, ints))
      (m.issued, ap pushable (sym same) ∙ qs.1, subst (λ z. Fits w z x) same so.fit.0)

  looks : (name : List ℕ) (a c b : Kind) (A : List Kind) (x : Val) (address : List ℕ) (V : List Val) → packable c ≡ true →
      Sound (seen e) m.issued m.changes (b ∷ ty.address ∷ A) (x ∷ v.bytes address ∷ V) → (p : Bool) → same_kind a b ≡ p →
      OperationFits (i.view name a c) (x ∷ v.bytes address ∷ V) (where_true p (makes (k.option c) A))
  looks name a c b A x address V pc so false r = tt
  looks name a c b A x address V pc so true r =
      views name address a c A x V pc so.fit.1.0
      (subst (λ z. Sound (seen e) m.issued m.changes (z ∷ ty.address ∷ A) (x ∷ v.bytes address ∷ V))
      (sym (same_kind_true a b r)) so)

  pub operation_keeps : (r : OperationRow) (A : List Kind) (V : List Val) → RowTypes (on_operations r) →
      Sound (seen e) m.issued m.changes A V → OperationFits r V (operation_change r A)
  operation_keeps i.address (k.contract a ∷ A) (v.bytes b ∷ V) t so = still (k.contract a ∷ A) (ty.address ∷ A) (v.bytes b ∷ V)
      (v.bytes b ∷ V) so (so.fit.0.0, so.fit.1) (λ id. omega (arith, ints))
  operation_keeps i.address (k.contract a ∷ A) (x ∷ V) t so = absurd so.fit.0
  operation_keeps i.address (k.contract a ∷ A) [] t so = absurd so.fit
  operation_keeps i.implicit_account (ty.key_hash ∷ A) (v.bytes b ∷ V) t so =
      still (ty.key_hash ∷ A) (k.contract ty.unit ∷ A) (v.bytes b ∷ V) (v.bytes (implicit_place b) ∷ V) so
      (unit_account e.contract_at b so.fit.0, so.fit.1) (λ id. omega (arith, ints))
  operation_keeps i.implicit_account (ty.key_hash ∷ A) (x ∷ V) t so = let h = so.fit.0 in absurd cc
  operation_keeps i.implicit_account (ty.key_hash ∷ A) [] t so = absurd so.fit
  operation_keeps (i.contract name a) (ty.address ∷ A) (v.bytes b ∷ V) t so = optional_contract a A b V
      (contract_of e.contract_at name a b) (contract_gives e.contract_at name a b t.2 so.fit.0) so
  operation_keeps (i.contract name a) (ty.address ∷ A) (x ∷ V) t so = let h = so.fit.0 in absurd cc
  operation_keeps (i.contract name a) (ty.address ∷ A) [] t so = absurd so.fit
  operation_keeps i.transfer_tokens (a ∷ ty.mutez ∷ k.contract c ∷ A) (x ∷ v.number n ∷ v.bytes b ∷ V) t so =
      transfers a c A x n b V so (same_kind a c) refl
  operation_keeps i.transfer_tokens (a ∷ ty.mutez ∷ k.contract c ∷ A) (x ∷ v.number n ∷ y ∷ V) t so = absurd so.fit.1.1.0
  operation_keeps i.transfer_tokens (a ∷ ty.mutez ∷ k.contract c ∷ A) (x ∷ v.number n ∷ []) t so = absurd so.fit.1.1
  operation_keeps i.transfer_tokens (a ∷ ty.mutez ∷ k.contract c ∷ A) (x ∷ y ∷ V) t so = let h = so.fit.1.0 in absurd cc
  operation_keeps i.transfer_tokens (a ∷ ty.mutez ∷ k.contract c ∷ A) (x ∷ []) t so = absurd so.fit.1
  operation_keeps i.transfer_tokens (a ∷ ty.mutez ∷ k.contract c ∷ A) [] t so = absurd so.fit
  operation_keeps (i.emit tag a) (c ∷ A) (x ∷ V) t so = emits tag a c A x V so (same_kind c a && pushable c) refl
  operation_keeps (i.emit tag a) (c ∷ A) [] t so = absurd so.fit
  operation_keeps (i.emit tag a) [] V t so = tt
  operation_keeps (i.view name a c) (b ∷ ty.address ∷ A) (x ∷ v.bytes address ∷ V) t so = looks name a c b A x address V t.0 so
      (same_kind a b) refl
  operation_keeps (i.view name a c) (b ∷ ty.address ∷ A) (x ∷ y ∷ V) t so = let h = so.fit.1.0 in absurd cc
  operation_keeps (i.view name a c) (b ∷ ty.address ∷ A) (x ∷ []) t so = absurd so.fit.1
  operation_keeps (i.view name a c) (b ∷ ty.address ∷ A) [] t so = absurd so.fit
  operation_keeps _ _ V t so = tt
