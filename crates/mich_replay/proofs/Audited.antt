-- Audits of texts that are longer than they may be.
use Rattle.std.proofs.Common.{◌≡◌, ◌⊎◌, inl, inr, ℕ, zero, suc, ◌+◌, ◌-◌, ◌<◌, ◌≤◌, ◌==◌, Bool, true, false, List, [], ◌∷◌, ◌++◌, length, Option, Some, None, refl, sym, ap, ◌∙◌, subst, arith}
use Rattle.std.specs.Prelude.{if◌then◌else◌}
use Rattle.std.proofs.lemmas.Bool.Decides.{Decides-eqb}
use Rattle.rules_text.specs.nodes.Limits.{file_limit}
use Rattle.rules_text.specs.nodes.Tree.{Tree}
use Rattle.rules_text.specs.text.Token.{Token}
use Rattle.rules_text.specs.text.Syntax.{element_tokens}
use Rattle.rules_text.specs.text.Text.{Leads, EndsAt, IsNode}
use Rattle.mich_text.proofs.ForCallers.{no_sign, one_statement, no_fault_at_node, no_node_at_end}
use Rattle.rules_audit.specs.Lines.{Line, line_of}
use Rattle.rules_audit.specs.Form.{Form, bad_form, ended, Holds, Tells, can_follow, IsForm, audit_limit, pieces, pieces_of}
use Rattle.rules_audit.specs.Audits.{verdict_on}
use Rattle.rules_files.specs.commands.Answers.{Answer}
use Rattle.rules_files.specs.commands.Audits.{IsAuditAnswer, verdict_answer}
use Rattle.mich_audit.proofs.OneVerdict.{one_verdict}
use Rattle.mich_replay.proofs.Readable.{Readable, is_node, is_fault, is_end, readable}

some_left : (left : ℕ) → (suc left == 0) ≡ false
some_left left = by (suc left == 0) refl where
  by : (r : Bool) → (suc left == 0) ≡ r → r ≡ false
  by false e = refl
  by true e = let zero_is : suc left ≡ 0 = (Decides-eqb (suc left) 0).0 e in absurd (omega (arith, zero_is))

one_less : (left : ℕ) → suc left - 1 ≡ left
one_less left = omega arith

-- the first byte of a piece, where bytes may be read
step : (left : ℕ) (begun : List ℕ) (c : ℕ) (cs : List ℕ) → pieces (suc left) begun (c ∷ cs) ≡ (if c == 10 then Some begun ∷ pieces left [] cs else pieces left (begun ++ c ∷ []) cs)
step left begun c cs =
    ap (λ b. if b then None ∷ [] else if c == 10 then Some begun ∷ pieces (suc left - 1) [] cs else pieces (suc left - 1) (begun ++ c ∷ []) cs) (some_left left)
    ∙ ap (λ (n : ℕ). if c == 10 then Some begun ∷ pieces n [] cs else pieces n (begun ++ c ∷ []) cs) (one_less left)

pieces_on : (left : ℕ) (begun file more : List ℕ) → left < length file → pieces left begun (file ++ more) ≡ pieces left begun file
pieces_on left begun [] more h = absurd (omega (arith, h))
pieces_on zero begun (c ∷ cs) more h = refl
pieces_on (suc left) begun (c ∷ cs) more h =
    step left begun c (cs ++ more)
    ∙ (λ i. if c == 10 then Some begun ∷ pieces_on left [] cs more (omega (arith, h)) i else pieces_on left (begun ++ c ∷ []) cs more (omega (arith, h)) i)
    ∙ sym (step left begun c cs)

-- a text that is longer hasn't the form
longer_bad : (left : ℕ) (begun file : List ℕ) → left < length file → (before : List Line) (form : Form) → IsForm before (pieces left begun file) form → (n : ℕ) × (form ≡ bad_form n)
longer_bad left begun [] h before form is = absurd (omega (arith, h))
longer_bad zero begun (c ∷ cs) h before form (inl is) = absurd is.1
longer_bad zero begun (c ∷ cs) h before form (inr is) = (length before + 1, is.1)
longer_bad (suc left) begun (c ∷ cs) h before form is =
    by (c == 10) (λ ls g. longer_bad left [] cs (omega (arith, h)) ls form g) (λ g. longer_bad left (begun ++ c ∷ []) cs (omega (arith, h)) before form g)
    (subst (λ (ps : List (Option (List ℕ))). IsForm before ps form) (step left begun c cs) is) where
      by : (b : Bool) → ((ls : List Line) → IsForm ls (pieces left [] cs) form → (n : ℕ) × (form ≡ bad_form n))
          → (IsForm before (pieces left (begun ++ c ∷ []) cs) form → (n : ℕ) × (form ≡ bad_form n))
          → IsForm before (if b then Some begun ∷ pieces left [] cs else pieces left (begun ++ c ∷ []) cs) form → (n : ℕ) × (form ≡ bad_form n)
      by true next on (inl g) = next (g.0 ∷ before) g.3
      by true next on (inr g) = (length before + 1, g.1)
      by false next on g = on g

past_audit : (n : ℕ) → file_limit < n → audit_limit < n
past_audit n h = omega (arith, h)

pub audit_on : (file more : List ℕ) → file_limit < length file → (answer : Answer) → IsAuditAnswer file answer → IsAuditAnswer (file ++ more) answer
audit_on file more past answer p =
    let same : pieces_of (file ++ more) ≡ pieces_of file = pieces_on audit_limit [] file more (past_audit (length file) past) in
    (p.0, (p.1.0, subst (λ (ps : List (Option (List ℕ))). IsForm [] ps p.1.0) (sym same) p.1.1, p.1.2), p.2)

pub audit_refused : (file : List ℕ) → file_limit < length file → (answer : Answer) → IsAuditAnswer file answer → answer.status ≡ 2
audit_refused file past answer p =
    let bad : (n : ℕ) × (p.1.0 ≡ bad_form n) = longer_bad audit_limit [] file (past_audit (length file) past) [] p.1.0 p.1.1 in
    ap (λ (a : Answer). a.status) (p.2 ∙ ap verdict_answer (p.1.2 ∙ ap verdict_on bad.1))

pub audit_one : (file : List ℕ) (a b : Answer) → IsAuditAnswer file a → IsAuditAnswer file b → a ≡ b
audit_one file a b m n = m.2 ∙ ap verdict_answer (one_verdict file m.0 n.0 m.1 n.1) ∙ sym n.2

-- ---- each text has a form

-- the line that a piece tells, or that it tells none
abbrev Told : List ℕ → Type 0
Told piece = ((l : Line) × Tells (Some piece) l × ((m : Line) → Tells (Some piece) m → m ≡ l)) ⊎ ((l : Line) → Tells (Some piece) l → ⊥)

same_some : (l m : Line) → Some l ≡ Some m → l ≡ m
same_some l m e = cc

told_of : (piece : List ℕ) (t : Tree) → ((u : Tree) → Holds piece u → u ≡ t) → Holds piece t → (o : Option Line) → line_of t ≡ o → Told piece
told_of piece t one h (Some l) e = inl (l, (t, h, e), λ m tells. same_some m l (sym tells.2 ∙ ap line_of (one tells.0 tells.1) ∙ e))
told_of piece t one h None e = inr (λ l tells. let no_line : None ≡ Some l = sym e ∙ sym (ap line_of (one tells.0 tells.1)) ∙ tells.2 in absurd cc)

-- the piece ends behind its node
ended_node : (piece : List ℕ) (t : Tree) (start end : ℕ) → IsNode 0 piece t start end → end ≡ 0 → IsNode 0 piece t start 0
ended_node piece t start end n e = record {
  stands = record {
    tokens = n.stands.tokens;
    first = n.stands.first;
    rest = n.stands.rest;
    begins = n.stands.begins;
    leads = n.stands.leads;
    statement = n.stands.statement;
    start_is = n.stands.start_is;
    ends = subst (EndsAt n.stands.rest) e n.stands.ends;
  };
  clean = λ k left h. subst (λ (e : ℕ). left ≤ e) e (n.clean k left h);
}

told_bare : (piece : List ℕ) (t : Tree) (start end : ℕ) (n : IsNode 0 piece t start end) (rest : List ℕ) → n.stands.rest ≡ rest → Told piece
unfolding ended_node
told_bare piece t start end n [] bare =
    let ends : end ≡ 0 = subst (λ (r : List ℕ). EndsAt r end) bare n.stands.ends in
    told_of piece t (λ u g. (one_statement piece u t g.start 0 start end g.node.stands n.stands).0) (record { start = start; node = ended_node piece t start end n ends; bare = bare }) (line_of t) refl
told_bare piece t start end n (c ∷ cs) sign =
    let ends : EndsAt (c ∷ cs) end = subst (λ (r : List ℕ). EndsAt r end) sign n.stands.ends in
    let leads : Leads piece (element_tokens n.stands.statement.element) (Some (c ∷ cs)) =
    subst (λ (ts : List Token). Leads piece ts (Some (c ∷ cs))) n.stands.statement.tokens (subst (λ (r : List ℕ). Leads piece n.stands.tokens (Some r)) sign n.stands.leads) in
    inr (λ l tells. no_sign piece tells.0 (tells.1.start, tells.1.node, tells.1.bare) n.stands.statement.element (c ∷ cs) ends.0 leads ends.1)

told : (piece : List ℕ) → Told piece
told piece = by (readable 0 piece) where
  by : Readable 0 piece → Told piece
  by (is_node t start end n) = told_bare piece t start end n n.stands.rest refl
  by (is_fault kind left f) = inr (λ l tells. no_fault_at_node 0 piece kind left tells.0 tells.1.start 0 f tells.1.node)
  by (is_end e) = inr (λ l tells. no_node_at_end 0 piece tells.0 tells.1.start 0 e tells.1.node)

form_of : (ps : List (Option (List ℕ))) (before : List Line) → (form : Form) × IsForm before ps form
form_of [] before = (ended before, refl)
form_of (None ∷ ps) before = (bad_form (length before + 1), inr ((λ l tells. absurd tells), refl))
form_of (Some piece ∷ ps) before = by (told piece) (λ l. form_of ps (l ∷ before)) where
  take : (l : Line) → Tells (Some piece) l → ((m : Line) → Tells (Some piece) m → m ≡ l) → ((form : Form) × IsForm (l ∷ before) ps form) → (b : Bool) → can_follow before l ≡ b
      → (form : Form) × IsForm before (Some piece ∷ ps) form
  take l tells one next true e = (next.0, inl (l, tells, e, next.1))
  take l tells one next false e = (bad_form (length before + 1), inr ((λ m other. ap (can_follow before) (one m other) ∙ e), refl))

  by : Told piece → ((l : Line) → (form : Form) × IsForm (l ∷ before) ps form) → (form : Form) × IsForm before (Some piece ∷ ps) form
  by (inl p) next = take p.0 p.1 p.2 (next p.0) (can_follow before p.0) refl
  by (inr none) next = (bad_form (length before + 1), inr ((λ l tells. absurd (none l tells)), refl))

pub audit_answers : (file : List ℕ) → (answer : Answer) × IsAuditAnswer file answer
audit_answers file =
    let f = form_of (pieces_of file) [] in
    (verdict_answer (verdict_on f.0), (verdict_on f.0, (f.0, f.1, refl), refl))
