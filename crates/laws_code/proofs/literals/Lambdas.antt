-- LAMBDA and LAMBDA_REC.
use Rattle.std.proofs.Common.{◌≡◌, ℕ, ◌+◌, ◌<◌, ◌^◌, Bool, true, false, List, [], ◌∷◌, Option, refl, sym, subst, arith}
use Rattle.std.specs.Prelude.{nat_le, if◌then◌else◌}
use Rattle.std.proofs.lemmas.Int.{ints}
use Rattle.rules_text.specs.nodes.Limits.{type_limit}
use Rattle.rules_text.specs.nodes.Tree.{int, str, bytes, prim, seq, Trees, none, more, size, sizes}
use Rattle.rules_text.specs.declared.nodes.Primitive.{Primitive}
use Rattle.rules_data.specs.declared.gas.Kind.{Kind as Priced}
use Rattle.rules_data.specs.declared.gas.Kind.TheVariants as g
use Rattle.rules_data.specs.types.Kind.{Kind, nodes}
use Rattle.rules_data.specs.types.Kind as k
use Rattle.rules_code.specs.instructions.Same.{same_kinds}
use Rattle.rules_code.specs.instructions.Context as place
use Rattle.rules_code.specs.instructions.Arguments.{Found, found, fault}
use Rattle.rules_code.specs.instructions.Control.{Arrow, lambda_of, call_kinds}
use Rattle.rules_code.specs.instructions.Forms as f
use Rattle.rules_data.specs.values.Val.{Val}
use Rattle.rules_data.specs.values.Val as v
use Rattle.rules_code.specs.typing.Typing.{Typing, goes, fails, shift, made, ends}
use Rattle.rules_code.specs.typing.Typing as typing
use Rattle.rules_code.specs.typing.Acts.{lambda_type, lambda_rec_type}
use Rattle.rules_code.specs.typing.Nodes.{trees_type, body as body_type}
use Rattle.rules_code.specs.typing.Fits.{Leads}
use Rattle.rules_code.specs.evaluation.Surroundings.{Surroundings}
use Rattle.rules_code.specs.evaluation.Operations.{Tally}
use Rattle.rules_code.specs.evaluation.Outcome.{stack, stuck}
use Rattle.rules_code.specs.evaluation.Branches.{paid}
use Rattle.rules_code.specs.evaluation.Given.{on_goes, lambda_run}
use Rattle.laws_code.specs.stacks.Sound.{seen, Sound, KeepsFrom, SafeRun}
use Rattle.laws_code.proofs.stacks.ForCallers.{after_still, keeps_charge}
use Rattle.laws_data.proofs.types_lemmas.ForCallers.{same_kinds_true}
use Rattle.laws_code.proofs.control.ForCallers.{act_typer}

-- ---- LAMBDA and LAMBDA_REC

pub leads_ends : (t : Typing) (C : List Kind) (u : Typing) (B : List Kind) → ends t C u ≡ goes B → Leads t C × (u ≡ goes B)
leads_ends (goes D) C u B e = by_test (same_kinds D C) refl e
  where
    by_test : (q : Bool) → same_kinds D C ≡ q → (if q then u else typing.bad 0) ≡ goes B → (D ≡ C) × (u ≡ goes B)
    by_test true p e = (same_kinds_true D C p, e)
    by_test false p e = absurd cc
leads_ends fails C u B e = (tt, e)
leads_ends (typing.bad l) C u B e = absurd cc

pub leads_shift : (l : ℕ) (t : Typing) (C : List Kind) → Leads (shift l t) C → Leads t C
leads_shift l (goes B) C h = h
leads_shift l fails C h = h
leads_shift l (typing.bad m) C h = absurd h

pub leads_more : (l : ℕ) (t : Typing) (C : List Kind) → Leads t C → Leads (shift l t) C
leads_more l (goes B) C h = h
leads_more l fails C h = h
leads_more l (typing.bad m) C h = absurd h

-- a body that is kept as a lambda
module _ (e : Surroundings) (d : ℕ) (A : List Kind) (V : List Val) (m : Tally) (so : Sound (seen e) m.issued m.changes A V) where
  pub lambda_stack : (a r : Kind) (ts : Trees) (b : Bool) (kind : Priced) → size (seq ts) < 2 ^ 32 →
      Leads (trees_type ts place.lambda (call_kinds a r b)) (r ∷ []) →
      KeepsFrom (seen e) m.issued m.changes V (goes (k.lambda a r ∷ A))
      (paid e kind m (λ m. stack (k.lambda a r ∷ A) (v.lambda (seq ts) b ∷ V) m))
  lambda_stack a r ts b kind small leads =
      keeps_charge (seen e) m V (goes (k.lambda a r ∷ A)) e.prices kind 0
      (λ m. stack (k.lambda a r ∷ A) (v.lambda (seq ts) b ∷ V) m)
      (λ h. (
        refl,
        after_still A (k.lambda a r ∷ A) (v.lambda (seq ts) b ∷ V) (record m { gas = h }) so
            ((tt, small, leads_more 1 (trees_type ts place.lambda (call_kinds a r b)) (r ∷ []) leads), so.fit)
            (λ id. omega (arith, ints)),
      ))

  -- by the typing of the whole
  pub by_goes : (t : Typing) (kind : Priced) (b : Bool) (ts : Trees) (a r : Kind) → size (seq ts) < 2 ^ 32 →
      ((B : List Kind) → t ≡ goes B → (B ≡ k.lambda a r ∷ A) × Leads (trees_type ts place.lambda (call_kinds a r b)) (r ∷ []))
      → (t ≡ fails → ⊥) →
      KeepsFrom (seen e) m.issued m.changes V t (on_goes t (λ B. paid e kind m (λ m. stack B (v.lambda (seq ts) b ∷ V) m)))
  by_goes (goes B) kind b ts a r small h n =
      let hs = h B refl in
      subst (λ X. KeepsFrom (seen e) m.issued m.changes V (goes X) (paid e kind m (λ m. stack X (v.lambda (seq ts) b ∷ V) m)))
      (sym hs.0) (lambda_stack a r ts b kind small hs.1)
  by_goes fails kind b ts a r small h n = absurd (n refl)
  by_goes (typing.bad l) kind b ts a r small h n = tt

-- ---- LAMBDA

pub lambda_leads : (x : Arrow) (at : ℕ) (ts : Trees) (A B : List Kind) →
    lambda_type x (λ c A. shift at (trees_type ts c A)) A ≡ goes B →
    (B ≡ k.lambda x.argument x.result ∷ A) × Leads (trees_type ts place.lambda (call_kinds x.argument x.result false))
    (x.result ∷ [])
lambda_leads x at ts A B e =
    let hs = leads_ends (shift at (trees_type ts place.lambda (x.argument ∷ []))) (x.result ∷ [])
    (made (k.lambda x.argument x.result) A) B e in (
      made_is (nat_le (nodes (k.lambda x.argument x.result)) type_limit) hs.1,
      leads_shift at
          (trees_type ts place.lambda (x.argument ∷ [])) (x.result ∷ []) hs.0,
    )
  where
    made_is : (q : Bool) → (if q then goes (k.lambda x.argument x.result ∷ A) else typing.bad 0) ≡ goes B →
        B ≡ k.lambda x.argument x.result ∷ A
    made_is true e = cc
    made_is false e = absurd cc

pub rec_leads : (x : Arrow) (at : ℕ) (ts : Trees) (A B : List Kind) →
    lambda_rec_type x (λ c A. shift at (trees_type ts c A)) A ≡ goes B →
    (B ≡ k.lambda x.argument x.result ∷ A) × Leads (trees_type ts place.lambda (call_kinds x.argument x.result true))
    (x.result ∷ [])
rec_leads x at ts A B e = by_test (nat_le (nodes (k.lambda x.argument x.result)) type_limit) e
  where
    by_test : (q : Bool) → (if q then ends (shift at (trees_type ts place.lambda (call_kinds x.argument x.result true)))
        (x.result ∷ []) (goes (k.lambda x.argument x.result ∷ A)) else typing.bad 0) ≡ goes B →
        (B ≡ k.lambda x.argument x.result ∷ A) × Leads (trees_type ts place.lambda (call_kinds x.argument x.result true))
        (x.result ∷ [])
    by_test true e =
        let hs = leads_ends (shift at (trees_type ts place.lambda (call_kinds x.argument x.result true))) (x.result ∷ [])
        (goes (k.lambda x.argument x.result ∷ A)) B e in
        let same : goes (k.lambda x.argument x.result ∷ A) ≡ goes B = hs.1 in
        (cc, leads_shift at (trees_type ts place.lambda (call_kinds x.argument x.result true)) (x.result ∷ []) hs.0)
    by_test false e = absurd cc

-- such a typing is no failure
pub ends_no_fail : (t : Typing) (C : List Kind) (u : Typing) → (u ≡ fails → ⊥) → ends t C u ≡ fails → ⊥
ends_no_fail (goes B) C u h e = by_test (same_kinds B C) e
  where
    by_test : (q : Bool) → (if q then u else typing.bad 0) ≡ fails → ⊥
    by_test true e = h e
    by_test false e = cc
ends_no_fail fails C u h e = h e
ends_no_fail (typing.bad l) C u h e = cc

pub made_no_fail : (a : Kind) (A : List Kind) → made a A ≡ fails → ⊥
made_no_fail a A e = by_test (nat_le (nodes a) type_limit) e
  where
    by_test : (q : Bool) → (if q then goes (a ∷ A) else typing.bad 0) ≡ fails → ⊥
    by_test true e = cc
    by_test false e = cc

pub rec_no_fail : (x : Arrow) (at : ℕ) (ts : Trees) (A : List Kind) →
    lambda_rec_type x (λ c A. shift at (trees_type ts c A)) A ≡ fails → ⊥
rec_no_fail x at ts A e = by_test (nat_le (nodes (k.lambda x.argument x.result)) type_limit) e
  where
    by_test : (q : Bool) → (if q then ends (shift at (trees_type ts place.lambda (call_kinds x.argument x.result true)))
        (x.result ∷ []) (goes (k.lambda x.argument x.result ∷ A)) else typing.bad 0) ≡ fails → ⊥
    by_test true e = ends_no_fail (shift at (trees_type ts place.lambda (call_kinds x.argument x.result true))) (x.result ∷ [])
        (goes (k.lambda x.argument x.result ∷ A)) (λ h. cc) e
    by_test false e = cc

-- a body that is no sequence is a fault
module _ (e : Surroundings) (A : List Kind) (V : List Val) (m : Tally) where
  pub no_lambda : (l : ℕ) (q : Found Arrow) → KeepsFrom (seen e) m.issued m.changes V
      (typing.on_found q (λ x. lambda_type x (λ c A. typing.bad l) A)) stuck
  no_lambda l (found x) = tt
  no_lambda l (fault n) = tt

  pub no_rec : (l : ℕ) (q : Found Arrow) → KeepsFrom (seen e) m.issued m.changes V
      (typing.on_found q (λ x. lambda_rec_type x (λ c A. typing.bad l) A)) stuck
  no_rec l (found x) = by_test (nat_le (nodes (k.lambda x.argument x.result)) type_limit)
    where
      by_test : (q : Bool) → KeepsFrom (seen e) m.issued m.changes V (if q then typing.bad l else typing.bad 0) stuck
      by_test true = tt
      by_test false = tt
  no_rec l (fault n) = tt

module _ (name : Option Primitive) (annots : List (List ℕ)) where
  pub lambdas : (ts : Trees) → sizes ts < 2 ^ 32 → SafeRun (act_typer f.lambda name annots ts)
      (λ e d A V m. lambda_run g.Lambda false ts (act_typer f.lambda name annots ts e.context A) e d A V m)
  lambdas (more a (more r (more (seq ts) none))) small e d A V m gd so = by_arrow
      (lambda_of (more a (more r (more (seq ts) none))))
    where
      by_arrow : (x : Found Arrow) → KeepsFrom (seen e) m.issued m.changes V
          (typing.on_found x (λ x. lambda_type x (body_type (seq ts) (1 + size a + size r)) A))
          (on_goes (typing.on_found x (λ x. lambda_type x (body_type (seq ts) (1 + size a + size r)) A))
          (λ B. paid e g.Lambda m (λ m. stack B (v.lambda (seq ts) false ∷ V) m)))
      by_arrow (found x) =
          by_goes e d A V m so (lambda_type x (body_type (seq ts) (1 + size a + size r)) A) g.Lambda false ts x.argument
          x.result (omega arith) (λ B q. lambda_leads x (1 + size a + size r + 1) ts A B q)
          (λ q. ends_no_fail _ (x.result ∷ []) (made (k.lambda x.argument x.result) A)
          (made_no_fail (k.lambda x.argument x.result) A) q)
      by_arrow (fault l) = tt
  lambdas none small e d A V m gd so = tt
  lambdas (more a none) small e d A V m gd so = tt
  lambdas (more a (more r none)) small e d A V m gd so = tt
  lambdas (more a (more r (more (int n) none))) small e d A V m gd so = no_lambda e A V m (1 + size a + size r)
      (lambda_of (more a (more r (more (int n) none))))
  lambdas (more a (more r (more (str n) none))) small e d A V m gd so = no_lambda e A V m (1 + size a + size r)
      (lambda_of (more a (more r (more (str n) none))))
  lambdas (more a (more r (more (bytes n) none))) small e d A V m gd so = no_lambda e A V m (1 + size a + size r)
      (lambda_of (more a (more r (more (bytes n) none))))
  lambdas (more a (more r (more (prim n x y) none))) small e d A V m gd so = no_lambda e A V m (1 + size a + size r)
      (lambda_of (more a (more r (more (prim n x y) none))))
  lambdas (more a (more r (more b (more c ts)))) small e d A V m gd so = tt

  pub lambda_recs : (ts : Trees) → sizes ts < 2 ^ 32 → SafeRun (act_typer f.lambda_rec name annots ts)
      (λ e d A V m. lambda_run g.LambdaRec true ts (act_typer f.lambda_rec name annots ts e.context A) e d A V m)
  lambda_recs (more a (more r (more (seq ts) none))) small e d A V m gd so = by_arrow
      (lambda_of (more a (more r (more (seq ts) none))))
    where
      by_arrow : (x : Found Arrow) → KeepsFrom (seen e) m.issued m.changes V
          (typing.on_found x (λ x. lambda_rec_type x (body_type (seq ts) (1 + size a + size r)) A))
          (on_goes (typing.on_found x (λ x. lambda_rec_type x (body_type (seq ts) (1 + size a + size r)) A))
          (λ B. paid e g.LambdaRec m (λ m. stack B (v.lambda (seq ts) true ∷ V) m)))
      by_arrow (found x) =
          by_goes e d A V m so (lambda_rec_type x (body_type (seq ts) (1 + size a + size r)) A) g.LambdaRec true ts x.argument
          x.result (omega arith) (λ B q. rec_leads x (1 + size a + size r + 1) ts A B q)
          (λ q. rec_no_fail x (1 + size a + size r + 1) ts A q)
      by_arrow (fault l) = tt
  lambda_recs none small e d A V m gd so = tt
  lambda_recs (more a none) small e d A V m gd so = tt
  lambda_recs (more a (more r none)) small e d A V m gd so = tt
  lambda_recs (more a (more r (more (int n) none))) small e d A V m gd so = no_rec e A V m (1 + size a + size r)
      (lambda_of (more a (more r (more (int n) none))))
  lambda_recs (more a (more r (more (str n) none))) small e d A V m gd so = no_rec e A V m (1 + size a + size r)
      (lambda_of (more a (more r (more (str n) none))))
  lambda_recs (more a (more r (more (bytes n) none))) small e d A V m gd so = no_rec e A V m (1 + size a + size r)
      (lambda_of (more a (more r (more (bytes n) none))))
  lambda_recs (more a (more r (more (prim n x y) none))) small e d A V m gd so = no_rec e A V m (1 + size a + size r)
      (lambda_of (more a (more r (more (prim n x y) none))))
  lambda_recs (more a (more r (more b (more c ts)))) small e d A V m gd so = tt
