-- A text has one verdict.
use Rattle.std.proofs.Common.{◌≡◌, inl, inr, ℕ, true, false, List, [], ◌∷◌, Option, Some, None, sym, ap, ◌∙◌, subst}
use Rattle.rules_text.specs.nodes.Tree.{Tree}
use Rattle.rules_audit.specs.Lines.{Line, line_of}
use Rattle.rules_audit.specs.Form.{Holds, Tells, Form, IsForm, pieces_of}
use Rattle.rules_audit.specs.Verdicts.{Verdict}
use Rattle.rules_audit.specs.Audits.{IsVerdict, verdict_on}
use Rattle.mich_text.proofs.ForCallers.{one_statement}

one_node : (piece : List ℕ) (t u : Tree) → Holds piece t → Holds piece u → t ≡ u
one_node piece t u h g = (one_statement piece t u h.start 0 g.start 0 h.node.stands g.node.stands).0

same_some : (l m : Line) → Some l ≡ Some m → l ≡ m
same_some l m e = cc

one_line : (p : Option (List ℕ)) (l m : Line) → Tells p l → Tells p m → l ≡ m
one_line (Some piece) l m h g = same_some l m (sym h.2 ∙ ap line_of (one_node piece h.0 g.0 h.1 g.1) ∙ g.2)
one_line None l m h g = absurd h

pub one_form : (before : List Line) (ps : List (Option (List ℕ))) (f g : Form) → IsForm before ps f → IsForm before ps g → f ≡ g
one_form before [] f g h i = h ∙ sym i
one_form before (p ∷ ps) f g (inl h) (inl i) =
    let same : h.0 ≡ i.0 = one_line p h.0 i.0 h.1 i.1 in
    one_form (i.0 ∷ before) ps f g (subst (λ l. IsForm (l ∷ before) ps f) same h.3) i.3
one_form before (p ∷ ps) f g (inl h) (inr i) = let no : false ≡ true = sym (i.0 h.0 h.1) ∙ h.2 in absurd cc
one_form before (p ∷ ps) f g (inr h) (inl i) = let no : false ≡ true = sym (h.0 i.0 i.1) ∙ i.2 in absurd cc
one_form before (p ∷ ps) f g (inr h) (inr i) = h.1 ∙ sym i.1

pub one_verdict : (file : List ℕ) (v w : Verdict) → IsVerdict file v → IsVerdict file w → v ≡ w
one_verdict file v w h g = h.2 ∙ ap verdict_on (one_form [] (pieces_of file) h.0 g.0 h.1 g.1) ∙ sym g.2
