-- Answers to certificates: a node is valid or not, and has one answer.
use Rattle.std.proofs.Common.{◌≡◌, ◌⊎◌, inl, inr, ℕ, Bool, true, false, List, [], ◌∷◌, Option, Some, None, refl, sym, ap, ◌∙◌, subst}
use Rattle.std.specs.Prelude.{codes}
use Rattle.rules_text.specs.nodes.Tree.{Tree, prim, more}
use Rattle.rules_text.specs.declared.text.TextKind.{TextKind}
use Rattle.rules_audit.specs.Same.{same_tree}
use Rattle.rules_code.specs.instructions.Arguments.{Found, found, fault}
use Rattle.rules_code.specs.typing.Scripts.{Script}
use Rattle.rules_code.specs.typing.Nodes.{script}
use Rattle.rules_code.specs.certificates.Certificates.{certificate, IsValid}
use Rattle.rules_world.specs.lines.Nodes.{line, word}
use Rattle.rules_files.specs.commands.Answers.{Answer, done_with, refused_with, misplaced}
use Rattle.rules_files.specs.commands.Certificates.{IsVerified, IsAloneVerified, IsListedVerified}
use Rattle.rules_files.specs.commands.Lines.{text_kind_name}
use Rattle.rules_files.specs.commands.Places.{Placed}
use Rattle.mich_audit.proofs.Same.{trees_decided}

-- ---- a node is valid or not

-- the first argument of an application
abbrev first_argument : Tree → Option Tree
first_argument (prim name annots (more t ts)) = Some t
first_argument t = None

script_is : (n : Tree) (v : IsValid n) → first_argument n ≡ Some v.script_node
script_is n v = ap first_argument v.is_certificate

not_bare : (n : Tree) → first_argument n ≡ None → IsValid n → ⊥
not_bare n e v = let f = script_is n v in absurd cc

module _ (n t : Tree) (e : first_argument n ≡ Some t) where
  same_script : (v : IsValid n) → v.script_node ≡ t
  same_script v = let f = script_is n v in cc

  decided : (f : Found Script) → script t ≡ f → (b : Bool) → same_tree n (certificate t) ≡ b → IsValid n ⊎ (IsValid n → ⊥)
  decided (found s) g true h = inl (record { script_node = t; accepted = s; is_accepted = g; is_certificate = (trees_decided n (certificate t)).0 h })
  decided (found s) g false h = inr (λ v.
      let same : same_tree n (certificate t) ≡ true = (trees_decided n (certificate t)).1 (v.is_certificate ∙ ap certificate (same_script v)) in
      absurd cc)
  decided (fault l) g b h = inr (λ v.
      let typed : script t ≡ found v.accepted = subst (λ u. script u ≡ found v.accepted) (same_script v) v.is_accepted in
      absurd cc)

valid_or_not : (n : Tree) → IsValid n ⊎ (IsValid n → ⊥)
valid_or_not n = by (first_argument n) refl
  where
    by : (o : Option Tree) → first_argument n ≡ o → IsValid n ⊎ (IsValid n → ⊥)
    by None e = inr (not_bare n e)
    by (Some t) e = decided n t e (script t) refl (same_tree n (certificate t)) refl

-- ---- it has an answer, and one

verdict : (t : Tree) → (answer : Answer) × IsVerified t answer
verdict t = elim (valid_or_not t) [
  | inl v ↦ (done_with (line (word (codes "Valid"))), inl (v, refl))
  | inr w ↦ (record { status = 2; lines = line (word (codes "Invalid")) ∷ [] }, inr (w, refl))
]

verified_one : (t : Tree) (a b : Answer) → IsVerified t a → IsVerified t b → a ≡ b
verified_one t a b (inl (v, e)) (inl (w, f)) = e ∙ sym f
verified_one t a b (inl (v, e)) (inr (w, f)) = absurd (w v)
verified_one t a b (inr (v, e)) (inl (w, f)) = absurd (v w)
verified_one t a b (inr (v, e)) (inr (w, f)) = e ∙ sym f

alone_answer : (size : ℕ) (ss : List Placed) → (answer : Answer) × IsAloneVerified size ss answer
alone_answer size [] = (misplaced size, refl)
alone_answer size (s ∷ []) = verdict s.node
alone_answer size (s ∷ r ∷ ss) = (misplaced r.place, refl)

alone_one : (size : ℕ) (ss : List Placed) (a b : Answer) → IsAloneVerified size ss a → IsAloneVerified size ss b → a ≡ b
alone_one size [] a b e f = e ∙ sym f
alone_one size (s ∷ []) a b e f = verified_one s.node a b e f
alone_one size (s ∷ r ∷ ss) a b e f = e ∙ sym f

pub verified_answer : (o : Option (TextKind × ℕ)) (size : ℕ) (ss : List Placed) → (answer : Answer) × IsListedVerified o size ss answer
verified_answer (Some f) size ss = (refused_with (text_kind_name f.0) f.1, refl)
verified_answer None size ss = alone_answer size ss

pub listed_one : (o : Option (TextKind × ℕ)) (size : ℕ) (ss : List Placed) (a b : Answer) → IsListedVerified o size ss a → IsListedVerified o size ss b → a ≡ b
listed_one (Some x) size ss a b e f = e ∙ sym f
listed_one None size ss a b e f = alone_one size ss a b e f
