-- What certifying answers.
use Rattle.std.proofs.Common.{◌≡◌, ℕ, ◌<◌, true, false, cond, Option, Some, None, List, sym, ap, ◌∙◌, subst, arith, ◌+◌}
use Rattle.std.specs.Prelude.{nat_le, length, [], Result, Ok}
use Rattle.std.proofs.lemmas.Bool.Decides.{nat_tests}
use Rattle.rules_text.specs.nodes.Limits.{statement_limit}
use Rattle.rules_text.specs.nodes.Tree.{Tree, depth}
use Rattle.rules_text.specs.text.Printed.{printed}
use Rattle.rules_code.specs.instructions.Arguments.{found, fault}
use Rattle.rules_code.specs.typing.Nodes.{script}
use Rattle.rules_code.specs.typing.Scripts.{Script}
use Rattle.rules_code.specs.certificates.Certificates.{certified, ill_typed, too_deep, too_long, certifying, certificate, certified_node, of_accepted, of_typing, unless_deep, within_line, deep_entry, script_levels}
use Rattle.rules_code.specs.certificates.Derivation.{Entry, derivation}
use Rattle.rules_code.specs.typing.Nodes.{script_at}
use Rattle.mich_base.specs.View.{trees}
use Rattle.mich_base.specs.declared.node.Node.{Node}
use Rattle.mich_instr.specs.Code.{ScriptCode}
use Rattle.mich_instr.specs.View.{script_code}
use Rattle.mich_instr.specs.Typed.{IsScript, is_script}
use Rattle.mich_instr.specs.declared.instr.Script.{Script as CodeScript}
use Rattle.mich_check.specs.Scripts.{IsTyped}
use Rattle.mich_cert.specs.telling.Certified.{IsAnswer, certified_with}
use Rattle.mich_cert.specs.telling.Told.{weights, IsLine, IsTold, Adds}
use Rattle.mich_cert.specs.telling.Tops.{deep_top}
use Rattle.mich_cert.specs.telling.Walk.{script_entries}
use Rattle.mich_cert.specs.declared.telling.error.CertError.{CertError}
use Rattle.mich_cert.specs.declared.telling.told.Told.{Told}
use Rattle.mich_cert.specs.declared.telling.told.Line.{Line}
use Rattle.mich_cert.proofs.telling_lemmas.FlatEntries.{deep_by_tops}
use Rattle.mich_cert.proofs.telling_lemmas.ToldOutlines.{derivation_is}
use Rattle.mich_cert.proofs.telling_lemmas.Weights.{weights_le}

pub ill_typed_script : (t : Tree) (l : ℕ) → script t ≡ fault l → certifying t ≡ ill_typed l
ill_typed_script t l e = ap (λ f. of_typing f t) e

accepted_script : (t : Tree) (s : Script) → script t ≡ found s → certifying t ≡ of_accepted t
accepted_script t s e = ap (λ f. of_typing f t) e

pub deep_script : (t : Tree) (s : Script) → script t ≡ found s → nat_le (depth t) script_levels ≡ false → certifying t ≡ too_deep 0
deep_script t s e h = accepted_script t s e ∙ ap (λ b. cond b (unless_deep (deep_entry (derivation t)) (certificate t)) (too_deep 0)) h

pub flat_script : (t : Tree) (s : Script) → script t ≡ found s → nat_le (depth t) script_levels ≡ true → (es : List Entry) → derivation t ≡ es →
    certifying t ≡ unless_deep (deep_top es) (certified_node t es)
flat_script t s e h es d =
    accepted_script t s e ∙ ap (λ b. cond b (unless_deep (deep_entry (derivation t)) (certificate t)) (too_deep 0)) h
    ∙ ap (λ o. unless_deep o (certificate t)) (deep_by_tops t) ∙ ap (λ es. unless_deep (deep_top es) (certified_node t es)) d

-- ---- the line

pub long_line : (t : Tree) (es : List Entry) → statement_limit < weights es → within_line (certified_node t es) ≡ too_long
long_line t es h =
    let w = weights_le t es in
    let f : nat_le (length (printed (certified_node t es))) statement_limit ≡ false = grind (arith, nat_tests, w, h) in
    ap (λ b. cond b (certified (certified_node t es)) too_long) f

pub short_line : (n : Tree) (left : ℕ) → left + length (printed n) ≡ statement_limit → within_line n ≡ certified n
short_line n left h =
    let f : nat_le (length (printed n)) statement_limit ≡ true = grind (arith, nat_tests, h) in
    ap (λ b. cond b (certified n) too_long) f

pub other_line : (n : Tree) → statement_limit < length (printed n) → within_line n ≡ too_long
other_line n h =
    let f : nat_le (length (printed n)) statement_limit ≡ false = grind (arith, nat_tests, h) in
    ap (λ b. cond b (certified n) too_long) f

-- ---- the typed script

found_by : {t : Tree} {w : ScriptCode} → IsScript t w → (q : Script) × (script t ≡ found q)
found_by (is_script g h k) = (_, g)

typed_found : (t : Tree) (s : CodeScript) → IsTyped t (Ok s) → (q : Script) × (script t ≡ found q)
typed_found t s h = found_by (subst (λ t. IsScript t (script_code s)) h.0 h.1)

pub deep_typed : (t : Tree) (s : CodeScript) → IsTyped t (Ok s) → nat_le (depth t) script_levels ≡ false → certifying t ≡ too_deep 0
deep_typed t s h l = let q = typed_found t s h in deep_script t q.0 q.1 l

pub ill_typed_at : (t : Tree) (l : ℕ) → script_at t 0 ≡ fault l → certifying t ≡ ill_typed l
ill_typed_at t l e = ill_typed_script t l e

-- ---- the answers

pub refused_at : (t : Tree) (l : ℕ) (f : (m : ℕ) × (script t ≡ fault m) × (l ≡ 0 + m)) → certifying t ≡ ill_typed l
refused_at t l f = let k : f.0 ≡ l = (let h = f.2 in omega (arith, h)) in ill_typed_script t f.0 f.1 ∙ ap ill_typed k

pub certified_as : (t : Tree) (s : Script) → script t ≡ found s → nat_le (depth t) script_levels ≡ true → (start told : Told) → IsTold start [] → Adds start told (script_entries 0 t) →
    (r : Result Node CertError) → ((es : List Entry) → IsTold told es → IsAnswer (unless_deep (deep_top es) (certified_node t es)) r) → IsAnswer (certifying t) r
certified_as t s e l start told i a r h =
    subst (λ c. IsAnswer c r) (sym (flat_script t s e l (script_entries 0 t) (derivation_is t s e))) (h (script_entries 0 t) (a [] i))

module _ (t : Tree) (told : Told) (es : List Entry) (i : IsTold told es) where
  deep_is : (o : Option ℕ) → told.deep ≡ o → unless_deep (deep_top es) (certified_node t es) ≡ unless_deep o (certified_node t es)
  deep_is o e = ap (λ o. unless_deep o (certified_node t es)) (sym i.deep ∙ e)

  pub deep_answer : (l : ℕ) → told.deep ≡ Some l → unless_deep (deep_top es) (certified_node t es) ≡ too_deep l
  deep_answer l e = deep_is (Some l) e

  pub long_answer : told.deep ≡ None → told.line ≡ None → unless_deep (deep_top es) (certified_node t es) ≡ too_long
  long_answer e f = deep_is None e ∙ long_line t es (subst (IsLine es) f i.line)

  pub line_answer : told.deep ≡ None → (x : Line) → told.line ≡ Some x → (n : Tree) → n ≡ certified_with t (trees x.entries) → (r : Result Node CertError) → IsAnswer (within_line n) r →
      IsAnswer (unless_deep (deep_top es) (certified_node t es)) r
  line_answer e x f n w r a =
      let line : IsLine es (Some x) = subst (IsLine es) f i.line in
      subst (λ c. IsAnswer c r) (sym (deep_is None e ∙ ap within_line (ap (certified_with t) (sym line.0) ∙ sym w))) a
