-- The walk over an instruction without bodies is its step.
use Rattle.std.proofs.Common.{◌≡◌, ℕ, ◌+◌, Bool, true, false, ◌&&◌, cond, Option, Some, None, List, [], ◌∷◌, refl, sym, ap, ◌∙◌}
use Rattle.std.specs.List.{list_all}
use Rattle.std.specs.Prelude.{option_and_then}
use Rattle.rules_text.specs.declared.nodes.Primitive.{Primitive}
use Rattle.rules_text.specs.declared.nodes.Primitive.TheVariants as p
use Rattle.rules_text.specs.nodes.Tree.{Trees, none, more}
use Rattle.rules_data.specs.forms.Spelling.{is_entrypoint, default_name}
use Rattle.rules_data.specs.types.Attributes.{pushable}
use Rattle.rules_data.specs.types.Entrypoints.{Entry as Entrypoint, find_entry, field_name}
use Rattle.rules_data.specs.types.Kind.{Kind}
use Rattle.rules_data.specs.types.Kind as k
use Rattle.rules_code.specs.instructions.Arguments.{Found, found, fault, and_then, no_argument, checked_name}
use Rattle.rules_code.specs.instructions.Context.{Context, main, view, lambda}
use Rattle.rules_code.specs.instructions.Forms.{Form, form_of}
use Rattle.rules_code.specs.instructions.Forms as f
use Rattle.rules_code.specs.instructions.Instructions.{instruction}
use Rattle.rules_code.specs.instructions.Rules.{with_instruction}
use Rattle.rules_code.specs.instructions.Same.{same_kind, same_kinds}
use Rattle.rules_code.specs.instructions.Types as t
use Rattle.rules_code.specs.typing.Acts.{of_rule, of_entry, self_type}
use Rattle.rules_code.specs.typing.Scripts.{is_small}
use Rattle.rules_code.specs.typing.Stacks.{on_call, on_captured, on_shown, on_never}
use Rattle.rules_code.specs.typing.Typing.{goes, fails, bad, made, on_found}
use Rattle.rules_code.specs.certificates.Blocks.{blocks}
use Rattle.rules_code.specs.certificates.Derivation.{Entry, before, end, failing, of_blocks, tellers}
use Rattle.mich_cert.specs.Arguments.{is_named, named_or}
use Rattle.mich_cert.specs.Bodiless.{straight_fits, calls, falls, entry_fits, self_fits, own_fits, bodiless_fits, bodiless_walk}
use Rattle.mich_cert.specs.Leading.{leads, after_of}
use Rattle.mich_cert.specs.Walk.{past, told, ends_so, leading, typed_by, step_by, AreSmall}
use Rattle.mich_cert.specs.Ways.{way_of, bodiless_of}
use Rattle.mich_cert.specs.declared.way.Bodiless.{Bodiless}
use Rattle.mich_cert.specs.declared.way.Bodiless.TheVariants as bodiless
use Rattle.mich_cert.specs.declared.way.Way.TheVariants as way
use Rattle.mich_cert.proofs.BareFits.{bare_leads, one_leads, two_leads, more_lead}
use Rattle.mich_cert.proofs.BodyRows.{failwith_rules, never_rules}
use Rattle.mich_cert.proofs.Plain.{plain_rules}
use Rattle.mich_cert.proofs.Small.{other_top}
use Rattle.mich_cert.proofs.Straight.{rule_leads, rule_goes, straight_leads, straight_goes}
use Rattle.mich_cert.proofs.WrittenRows.{self_rules}

-- the stack that is told, if one is, is within the limit
abbrev IsSmallEnd : Option (List Kind) → Type 0
IsSmallEnd None = Unit {0}
IsSmallEnd (Some B) = list_all is_small B ≡ true

told_small : (es : List Entry) → AreSmall es → IsSmallEnd (told es)
told_small [] h = tt
told_small (before l A ∷ es) h = h.0
told_small (end l A ∷ es) h = h.0
told_small (failing l ∷ es) h = tt

-- ---- the names of each kind

of_transfer : (P : Primitive → Type 0) → P p.OpTransferTokens → (op : Primitive) → bodiless_of op ≡ bodiless.Transfer → P op
of_transfer P a p.OpTransferTokens h = a
of_transfer P a op h = absurd cc

of_call : (P : Primitive → Type 0) → P p.OpExec → P p.OpApply → (op : Primitive) → bodiless_of op ≡ bodiless.Call → P op
of_call P a b p.OpExec h = a
of_call P a b p.OpApply h = b
of_call P a b op h = absurd cc

of_fail : (P : Primitive → Type 0) → P p.OpFailwith → P p.OpNever → (op : Primitive) → bodiless_of op ≡ bodiless.Fail → P op
of_fail P a b p.OpFailwith h = a
of_fail P a b p.OpNever h = b
of_fail P a b op h = absurd cc

of_self : (P : Primitive → Type 0) → P p.OpSelf → (op : Primitive) → bodiless_of op ≡ bodiless.SelfContract → P op
of_self P a p.OpSelf h = a
of_self P a op h = absurd cc

-- which of them have a form of their own
abbrev IsStraight : Primitive → Type 0
IsStraight op = form_of (Some op) ≡ f.straight

straight_form : (op : Primitive) → way_of op ≡ way.Bodiless → bodiless_of op ≡ bodiless.Straight → IsStraight op
straight_form p.OpIf h g = absurd cc
straight_form p.OpIfNone h g = absurd cc
straight_form p.OpIfLeft h g = absurd cc
straight_form p.OpIfCons h g = absurd cc
straight_form p.OpLoop h g = absurd cc
straight_form p.OpLoopLeft h g = absurd cc
straight_form p.OpIter h g = absurd cc
straight_form p.OpDip h g = absurd cc
straight_form p.OpMap h g = absurd cc
straight_form p.OpLambda h g = absurd cc
straight_form p.OpLambdaRec h g = absurd cc
straight_form p.OpPush h g = absurd cc
straight_form p.OpCreateContract h g = absurd cc
straight_form p.OpTransferTokens h g = absurd cc
straight_form p.OpExec h g = absurd cc
straight_form p.OpApply h g = absurd cc
straight_form p.OpFailwith h g = absurd cc
straight_form p.OpNever h g = absurd cc
straight_form p.OpSelf h g = absurd cc
straight_form op h g = refl

-- ---- an instruction by its arguments

given_leads : (op : Primitive) (annots : List (List ℕ)) (ts : Trees) (A B : List Kind) → bodiless_of op ≡ bodiless.Straight →
    straight_fits op (is_named (field_name annots)) ts A (Some B) ≡ leads (after_of (instruction (Some op) annots ts) A) B
given_leads op annots none A B h = bare_leads op annots A B h
given_leads op annots (more t none) A B h = one_leads annots t A B op
given_leads op annots (more t (more u none)) A B h = two_leads annots t u A B op
given_leads op annots (more t (more u (more v ts))) A B h = more_lead op annots t u v ts A B

straight_is : (op : Primitive) (annots : List (List ℕ)) (ts : Trees) (c : Context) (A : List Kind) (o : Option (List Kind)) →
    IsStraight op → bodiless_of op ≡ bodiless.Straight → IsSmallEnd o →
    straight_fits op (is_named (field_name annots)) ts A o ≡ ends_so (typed_by (Some op) annots ts c A) o
straight_is op annots ts c A None h g s = sym (straight_goes (Some op) annots ts c A h)
straight_is op annots ts c A (Some B) h g s = given_leads op annots ts A B g ∙ straight_leads (Some op) annots ts c A B h s

-- ---- others

transfer_by : (annots : List (List ℕ)) (ts : Trees) (A : List Kind) (o : Option (List Kind)) → IsSmallEnd o →
    calls p.OpTransferTokens ts A o ≡ ends_so (of_rule (with_instruction (instruction (Some p.OpTransferTokens) annots ts) A)) o
transfer_by annots none A None s = sym (rule_goes (instruction (Some p.OpTransferTokens) annots none) A)
transfer_by annots none A (Some B) s = plain_rules p.OpTransferTokens A B ∙ rule_leads (instruction (Some p.OpTransferTokens) annots none) A B s
transfer_by annots (more t ts) A None s = refl
transfer_by annots (more t ts) A (Some B) s = refl

transfer_is : (annots : List (List ℕ)) (ts : Trees) (c : Context) (A : List Kind) (o : Option (List Kind)) → IsSmallEnd o →
    bodiless_fits bodiless.Transfer p.OpTransferTokens annots ts c A o ≡ ends_so (typed_by (Some p.OpTransferTokens) annots ts c A) o
transfer_is annots ts (main es) A o s = transfer_by annots ts A o s
transfer_is annots ts view A o s = refl
transfer_is annots ts lambda A o s = transfer_by annots ts A o s

call_goes : (A : List Kind) → false ≡ ends_so (on_call A (λ r A. goes (r ∷ A))) None
call_goes (a ∷ k.lambda b r ∷ A) = by (same_kind a b)
  where
    by : (q : Bool) → false ≡ ends_so (cond q (goes (r ∷ A)) (bad 0)) None
    by true = refl
    by false = refl
call_goes [] = refl
call_goes (a ∷ []) = refl
call_goes (a ∷ b ∷ A) = refl

exec_is : (annots : List (List ℕ)) (ts : Trees) (c : Context) (A : List Kind) (o : Option (List Kind)) →
    calls p.OpExec ts A o ≡ ends_so (typed_by (Some p.OpExec) annots ts c A) o
exec_is annots none c A None = call_goes A
exec_is annots none c A (Some B) = plain_rules p.OpExec A B
exec_is annots (more t ts) c A None = refl
exec_is annots (more t ts) c A (Some B) = refl

capture_goes : (A : List Kind) → false ≡ ends_so (on_captured A (λ b r A. goes (k.lambda b r ∷ A))) None
capture_goes (a ∷ k.lambda (k.pair b d) r ∷ A) = by (same_kind a b && pushable a)
  where
    by : (q : Bool) → false ≡ ends_so (cond q (goes (k.lambda d r ∷ A)) (bad 0)) None
    by true = refl
    by false = refl
capture_goes [] = refl
capture_goes (a ∷ []) = refl
capture_goes (a ∷ k.lambda b r ∷ A) = refl
capture_goes (a ∷ b ∷ A) = refl

apply_is : (annots : List (List ℕ)) (ts : Trees) (c : Context) (A : List Kind) (o : Option (List Kind)) →
    calls p.OpApply ts A o ≡ ends_so (typed_by (Some p.OpApply) annots ts c A) o
apply_is annots none c A None = capture_goes A
apply_is annots none c A (Some B) = plain_rules p.OpApply A B
apply_is annots (more t ts) c A None = refl
apply_is annots (more t ts) c A (Some B) = refl

shown_goes : (A B : List Kind) → false ≡ ends_so (on_shown A) (Some B)
shown_goes [] B = refl
shown_goes (a ∷ A) B = by (pushable a)
  where
    by : (q : Bool) → false ≡ ends_so (cond q fails (bad 0)) (Some B)
    by true = refl
    by false = refl

failwith_is : (annots : List (List ℕ)) (ts : Trees) (c : Context) (A : List Kind) (o : Option (List Kind)) →
    falls p.OpFailwith ts A o ≡ ends_so (typed_by (Some p.OpFailwith) annots ts c A) o
failwith_is annots none c A None = failwith_rules A
failwith_is annots none c A (Some B) = shown_goes A B
failwith_is annots (more t ts) c A None = refl
failwith_is annots (more t ts) c A (Some B) = refl

never_goes : (A B : List Kind) → false ≡ ends_so (on_never A) (Some B)
never_goes (t.never ∷ A) B = refl
never_goes A B = refl

never_is : (annots : List (List ℕ)) (ts : Trees) (c : Context) (A : List Kind) (o : Option (List Kind)) →
    falls p.OpNever ts A o ≡ ends_so (typed_by (Some p.OpNever) annots ts c A) o
never_is annots none c A None = never_rules A
never_is annots none c A (Some B) = never_goes A B
never_is annots (more t ts) c A None = refl
never_is annots (more t ts) c A (Some B) = refl

-- ---- SELF

made_ends : (a : Kind) (A B : List Kind) → list_all is_small B ≡ true → same_kinds (a ∷ A) B ≡ ends_so (made a A) (Some B)
made_ends a A B h = by (is_small a) refl
  where
    large : (B : List Kind) → list_all is_small B ≡ true → is_small a ≡ false → same_kinds (a ∷ A) B ≡ false
    large [] h e = refl
    large (b ∷ B) h e = ap (λ q. q && same_kinds A B) (other_top a b B e h)

    by : (q : Bool) → is_small a ≡ q → same_kinds (a ∷ A) B ≡ ends_so (cond q (goes (a ∷ A)) (bad 0)) (Some B)
    by true e = refl
    by false e = large B h e

made_goes : (q : Bool) (a : Kind) (A : List Kind) → false ≡ ends_so (cond q (goes (a ∷ A)) (bad 0)) None
made_goes true a A = refl
made_goes false a A = refl

entry_is : (e : Option Entrypoint) (A B : List Kind) → list_all is_small B ≡ true → entry_fits e A B ≡ ends_so (of_entry e A) (Some B)
entry_is None A B h = refl
entry_is (Some e) A B h = self_rules e.kind A B ∙ made_ends (k.contract e.kind) A B h

entry_goes : (e : Option Entrypoint) (A : List Kind) → false ≡ ends_so (of_entry e A) None
entry_goes None A = refl
entry_goes (Some e) A = made_goes (is_small (k.contract e.kind)) (k.contract e.kind) A

self_named : (name : List ℕ) (c : Context) (A : List Kind) (o : Option (List Kind)) → IsSmallEnd o → self_fits c (Some name) A o ≡ ends_so (self_type name c A) o
self_named name (main es) A None s = entry_goes (find_entry name es) A
self_named name (main es) A (Some B) s = entry_is (find_entry name es) A B s
self_named name view A None s = refl
self_named name view A (Some B) s = refl
self_named name lambda A None s = refl
self_named name lambda A (Some B) s = refl

no_name : (c : Context) (A : List Kind) (o : Option (List Kind)) → self_fits c None A o ≡ false
no_name c A None = refl
no_name (main es) A (Some B) = refl
no_name view A (Some B) = refl
no_name lambda A (Some B) = refl

named_self : (n : Option (List ℕ)) (c : Context) (A : List Kind) (o : Option (List Kind)) → IsSmallEnd o →
    self_fits c (named_or default_name n) A o ≡ ends_so (on_found (and_then (checked_name default_name n) (λ name. no_argument none name)) (λ name. self_type name c A)) o
named_self None c A o s = self_named default_name c A o s
named_self (Some name) c A o s = by (is_entrypoint name)
  where
    by : (q : Bool) →
        self_fits c (cond q (Some name) None) A o
        ≡ ends_so (on_found (and_then (cond q (found name) (fault 0)) (λ name. no_argument none name)) (λ name. self_type name c A)) o
    by true = self_named name c A o s
    by false = no_name c A o

no_self : (q : Found (List ℕ)) (c : Context) (A : List Kind) (o : Option (List Kind)) →
    false ≡ ends_so (on_found (and_then {B = List ℕ} q (λ name. fault 0)) (λ name. self_type name c A)) o
no_self (found name) c A o = refl
no_self (fault l) c A o = refl

self_is : (annots : List (List ℕ)) (ts : Trees) (c : Context) (A : List Kind) (o : Option (List Kind)) → IsSmallEnd o →
    own_fits annots ts c A o ≡ ends_so (typed_by (Some p.OpSelf) annots ts c A) o
self_is annots none c A o s = named_self (field_name annots) c A o s
self_is annots (more t ts) c A o s = no_self (checked_name default_name (field_name annots)) c A o

-- ---- all

module _ (op : Primitive) (annots : List (List ℕ)) (ts : Trees) (c : Context) (A : List Kind) (h : way_of op ≡ way.Bodiless) where
  fits_by : (w : Bodiless) → bodiless_of op ≡ w → (o : Option (List Kind)) → IsSmallEnd o → bodiless_fits w op annots ts c A o ≡ ends_so (typed_by (Some op) annots ts c A) o
  fits_by bodiless.Transfer g o s = of_transfer (λ op. bodiless_fits bodiless.Transfer op annots ts c A o ≡ ends_so (typed_by (Some op) annots ts c A) o) (transfer_is annots ts c A o s) op g
  fits_by bodiless.Call g o s =
      of_call (λ op. calls op ts A o ≡ ends_so (typed_by (Some op) annots ts c A) o) (exec_is annots ts c A o) (apply_is annots ts c A o) op g
  fits_by bodiless.Fail g o s =
      of_fail (λ op. falls op ts A o ≡ ends_so (typed_by (Some op) annots ts c A) o) (failwith_is annots ts c A o) (never_is annots ts c A o) op g
  fits_by bodiless.SelfContract g o s = of_self (λ op. own_fits annots ts c A o ≡ ends_so (typed_by (Some op) annots ts c A) o) (self_is annots ts c A o s) op g
  fits_by bodiless.Straight g o s = straight_is op annots ts c A o (straight_form op h g) g s

  abbrev inner_of : Form → ℕ → List Entry
  inner_of form at = of_blocks (tellers ts (at + 1)) (blocks form ts c A)

  nothing_by : (w : Bodiless) → bodiless_of op ≡ w → (at : ℕ) → inner_of (form_of (Some op)) at ≡ []
  nothing_by bodiless.Transfer g at = of_transfer (λ op. inner_of (form_of (Some op)) at ≡ []) refl op g
  nothing_by bodiless.Call g at = of_call (λ op. inner_of (form_of (Some op)) at ≡ []) refl refl op g
  nothing_by bodiless.Fail g at = of_fail (λ op. inner_of (form_of (Some op)) at ≡ []) refl refl op g
  nothing_by bodiless.SelfContract g at = of_self (λ op. inner_of (form_of (Some op)) at ≡ []) refl op g
  nothing_by bodiless.Straight g at = ap (λ form. inner_of form at) (straight_form op h g)

  pub bodiless_step : (at : ℕ) (es : List Entry) → AreSmall es → (r : Option (List Entry)) → r ≡ bodiless_walk op annots ts c A es → r ≡ step_by (Some op) annots ts at c A es
  bodiless_step at es s r e =
      e ∙ ap (λ q. cond q (Some es) None) (fits_by (bodiless_of op) refl (told es) (told_small es s))
      ∙ sym (ap (λ (X : List Entry). option_and_then (leading (typed_by (Some op) annots ts c A)) (past X es)) (nothing_by (bodiless_of op) refl at))
