-- CREATE_CONTRACT.
use Rattle.std.proofs.Common.{◌≡◌, ℕ, ◌<◌, ◌^◌, Bool, true, false, List, [], ◌∷◌, length, Option, Some, None, refl, arith, pos, subst, sym}
use Rattle.std.specs.Prelude.{◌≤ℤ◌, if◌then◌else◌}
use Rattle.std.proofs.lemmas.Int.{ints}
use Rattle.rules_text.specs.nodes.Tree.{Tree, Trees, none, more, sizes, size}
use Rattle.rules_text.specs.declared.nodes.Primitive.{Primitive}
use Rattle.rules_data.specs.forms.Spelling.{contract_place}
use Rattle.rules_data.specs.declared.gas.Kind.TheVariants as g
use Rattle.rules_data.specs.types.Kind.{Kind}
use Rattle.rules_data.specs.types.Kind as k
use Rattle.rules_code.specs.instructions.Types as ty
use Rattle.rules_code.specs.instructions.Same.{same_kind}
use Rattle.rules_code.specs.instructions.Context.{Context}
use Rattle.rules_code.specs.instructions.Context as place
use Rattle.rules_code.specs.instructions.Arguments.{Found, found, fault}
use Rattle.rules_code.specs.instructions.Forms as f
use Rattle.rules_data.specs.values.Val.{Val}
use Rattle.rules_data.specs.values.Val as v
use Rattle.rules_code.specs.steps.Changes.{amount_in}
use Rattle.rules_code.specs.typing.Typing.{goes}
use Rattle.rules_code.specs.typing.Typing as typing
use Rattle.rules_code.specs.typing.Stacks as asked
use Rattle.rules_code.specs.typing.Scripts.{Script}
use Rattle.rules_code.specs.typing.Acts.{outside_views, of_script}
use Rattle.rules_code.specs.typing.Nodes.{script_in, found_at, script}
use Rattle.rules_code.specs.typing.Fits.{Known, Fits}
use Rattle.rules_code.specs.evaluation.Surroundings.{Surroundings}
use Rattle.rules_code.specs.evaluation.Operations.{origination, new_contract, Tally}
use Rattle.rules_code.specs.evaluation.Outcome.{Outcome, stack, stuck}
use Rattle.rules_code.specs.evaluation.Branches.{paid}
use Rattle.rules_code.specs.evaluation.Given.{on_goes, on_origination, create_run}
use Rattle.rules_code.specs.evaluation.Issuing.{issue, with_origination}
use Rattle.laws_code.specs.evaluation.Laws.{known}
use Rattle.laws_code.specs.stacks.Sound.{seen, Sound, KeepsFrom, SafeRun}
use Rattle.laws_code.proofs.stacks.ForCallers.{positive, keeps_charge}
use Rattle.laws_code.proofs.steps.ForCallers.{on_natural, amount_low}
use Rattle.laws_data.proofs.forms_lemmas.ForCallers.{place_address, contract_is}
use Rattle.laws_code.proofs.safety_lemmas.OperationRows.{issue_keeps, amount_most}
use Rattle.laws_code.proofs.control.ForCallers.{act_typer}
use Rattle.laws_data.proofs.types_lemmas.ForCallers.{same_kind_true}

new_length : (group index : ℕ) → length (new_contract group index) ≡ 20
new_length group index = refl

-- a script that is found elsewhere is found at the start
found_there : (t : Tree) (s : Script) → script_in (more t none) 1 ≡ found s → script t ≡ found s
found_there t s h = by (script t) h
  where
    by : (q : Found Script) → found_at 1 q ≡ found s → q ≡ found s
    by (found r) g = g
    by (fault l) g = absurd cc

module _ (e : Surroundings) (m : Tally) (t : Tree) (small : size t < 2 ^ 32) where
  abbrev creates_on : List Val → List Kind → Outcome
  creates_on V B = on_origination V (λ delegate amount storage V. paid e g.CreateContract m (λ m.
      let hash = new_contract e.group m.originations in
      issue (origination delegate amount t storage hash) (with_origination m)
      (λ o m. stack B (o ∷ v.bytes (contract_place hash) ∷ V) m)))

  -- the script that is found of the node has this type of storage
  abbrev Finds : Kind → Type 0
  Finds a = (s : Script) × (script t ≡ found s) × (s.storage ≡ a)

  made : (a : Kind) → Finds a → (A : List Kind) (delegate : Option (List ℕ)) (x : Val) (amount : ℕ) (storage : Val)
      (V : List Val) →
      Sound (seen e) m.issued m.changes (k.option ty.key_hash ∷ ty.mutez ∷ a ∷ A) (x ∷ v.number (pos amount) ∷ storage ∷ V) →
      KeepsFrom (seen e) m.issued m.changes (x ∷ v.number (pos amount) ∷ storage ∷ V) (goes (k.operation ∷ ty.address ∷ A))
      (paid e g.CreateContract m (λ m.
      let hash = new_contract e.group m.originations in
      issue (origination delegate amount t storage hash) (with_origination m)
      (λ o m. stack (k.operation ∷ ty.address ∷ A) (o ∷ v.bytes (contract_place hash) ∷ V) m)))
  made a fd A delegate x amount storage V so =
      let w : Known = known e.contract_at m.issued in
      keeps_charge (seen e) m (x ∷ v.number (pos amount) ∷ storage ∷ V)
      (goes (k.operation ∷ ty.address ∷ A)) e.prices g.CreateContract 0
      (λ m. let hash = new_contract e.group m.originations in
      issue (origination delegate amount t storage hash) (with_origination m)
      (λ o m. stack (k.operation ∷ ty.address ∷ A) (o ∷ v.bytes (contract_place hash) ∷ V) m))
      (λ h. issue_keeps (seen e) (with_origination (record m { gas = h }))
      (origination delegate amount t storage (new_contract e.group m.originations))
      (k.option ty.key_hash ∷ ty.mutez ∷ a ∷ A) (ty.address ∷ A) (x ∷ v.number (pos amount) ∷ storage ∷ V)
      (v.bytes (contract_place (new_contract e.group m.originations)) ∷ V) so (
        place_address (contract_place (new_contract e.group m.originations))
            (contract_is (new_contract e.group m.originations) (new_length e.group m.originations)),
        so.fit.1.1.1,
      )
      (λ id.
      let p : pos 0 ≤ℤ amount_in id x = positive id w (k.option ty.key_hash) x so.fit.0 in
      let q : pos 0 ≤ℤ amount_in id storage = positive id w a storage so.fit.1.1.0 in omega (arith, ints)) (
        fd.0,
        m.issued,
        fd.1,
        small,
        subst (λ z. Fits w z storage) (sym fd.2) so.fit.1.1.0,
        amount_most amount so.fit.1.0,
      ))

  by_delegate : (a : Kind) → Finds a → (A : List Kind) (x : Val) (amount : ℕ) (storage : Val) (V : List Val) →
      Sound (seen e) m.issued m.changes (k.option ty.key_hash ∷ ty.mutez ∷ a ∷ A) (x ∷ v.number (pos amount) ∷ storage ∷ V) →
      KeepsFrom (seen e) m.issued m.changes (x ∷ v.number (pos amount) ∷ storage ∷ V) (goes (k.operation ∷ ty.address ∷ A))
      (creates_on (x ∷ v.number (pos amount) ∷ storage ∷ V) (k.operation ∷ ty.address ∷ A))
  by_delegate a fd A v.nothing amount storage V so = made a fd A None v.nothing amount storage V so
  by_delegate a fd A (v.some (v.bytes b)) amount storage V so = made a fd A (Some b) (v.some (v.bytes b)) amount storage V so
  by_delegate a fd A (v.some x) amount storage V so = let h = so.fit.0 in absurd cc
  by_delegate a fd A x amount storage V so = absurd so.fit.0

  by_stack : (a : Kind) → Finds a → (A : List Kind) (V : List Val) → Sound (seen e) m.issued m.changes
      (k.option ty.key_hash ∷ ty.mutez ∷ a ∷ A) V →
      KeepsFrom (seen e) m.issued m.changes V (goes (k.operation ∷ ty.address ∷ A)) (creates_on V (k.operation ∷ ty.address ∷ A))
  by_stack a fd A (x ∷ v.number n ∷ storage ∷ V) so =
      on_natural (λ n. Sound (seen e) m.issued m.changes (k.option ty.key_hash ∷ ty.mutez ∷ a ∷ A)
      (x ∷ v.number n ∷ storage ∷ V) →
      KeepsFrom (seen e) m.issued m.changes (x ∷ v.number n ∷ storage ∷ V) (goes (k.operation ∷ ty.address ∷ A))
      (creates_on (x ∷ v.number n ∷ storage ∷ V) (k.operation ∷ ty.address ∷ A)))
      n (amount_low n so.fit.1.0) (λ amount so. by_delegate a fd A x amount storage V so) so
  by_stack a fd A (x ∷ v.number n ∷ []) so = absurd so.fit.1.1
  by_stack a fd A (x ∷ y ∷ V) so = let h = so.fit.1.0 in absurd cc
  by_stack a fd A (x ∷ []) so = absurd so.fit.1
  by_stack a fd A [] so = absurd so.fit

  by_script : (q : Found Script) → script_in (more t none) 1 ≡ q → (a : Kind) (A : List Kind) (V : List Val) →
      Sound (seen e) m.issued m.changes (k.option ty.key_hash ∷ ty.mutez ∷ a ∷ A) V →
      KeepsFrom (seen e) m.issued m.changes V (of_script q a A) (on_goes (of_script q a A) (creates_on V))
  by_script (found s) is a A V so = by_test (same_kind s.storage a) refl
    where
      by_test : (b : Bool) → same_kind s.storage a ≡ b → KeepsFrom (seen e) m.issued m.changes V
          (if b then goes (k.operation ∷ ty.address ∷ A) else typing.bad 0)
          (on_goes (if b then goes (k.operation ∷ ty.address ∷ A) else typing.bad 0) (creates_on V))
      by_test true g = by_stack a (s, found_there t s is, same_kind_true s.storage a g) A V so
      by_test false g = tt
  by_script (fault l) is a A V so = tt

  by_types : (q : Found Script) → script_in (more t none) 1 ≡ q → (A : List Kind) (V : List Val) →
      Sound (seen e) m.issued m.changes A V →
      KeepsFrom (seen e) m.issued m.changes V (asked.on_origination A (λ a A. of_script q a A))
      (on_goes (asked.on_origination A (λ a A. of_script q a A)) (creates_on V))
  by_types q is (k.option ty.key_hash ∷ ty.mutez ∷ a ∷ A) V so = by_script q is a A V so
  by_types q is _ V so = tt

  by_context : (c : Context) (q : Found Script) → script_in (more t none) 1 ≡ q → (A : List Kind) (V : List Val) →
      Sound (seen e) m.issued m.changes A V →
      KeepsFrom (seen e) m.issued m.changes V (outside_views c (asked.on_origination A (λ a A. of_script q a A)))
      (on_goes (outside_views c (asked.on_origination A (λ a A. of_script q a A))) (creates_on V))
  by_context (place.main es) q is A V so = by_types q is A V so
  by_context place.view q is A V so = tt
  by_context place.lambda q is A V so = by_types q is A V so

pub creates : (name : Option Primitive) (annots : List (List ℕ)) (ts : Trees) → sizes ts < 2 ^ 32 →
    SafeRun (act_typer f.create_contract name annots ts) (λ e d A V m. create_run ts
    (act_typer f.create_contract name annots ts e.context A) e d A V m)
creates name annots (more t none) small e d A V m gd so = by_context e m t (omega (arith, small)) e.context
    (script_in (more t none) 1) refl A V so
creates name annots none small e d A V m gd so = no_script e.context
  where
    no_script : (c : Context) → KeepsFrom (seen e) m.issued m.changes V (outside_views c (typing.bad 0)) stuck
    no_script (place.main es) = tt
    no_script place.view = tt
    no_script place.lambda = tt
creates name annots (more t (more u ts)) small e d A V m gd so = no_script e.context
  where
    no_script : (c : Context) → KeepsFrom (seen e) m.issued m.changes V (outside_views c (typing.bad 0)) stuck
    no_script (place.main es) = tt
    no_script place.view = tt
    no_script place.lambda = tt
