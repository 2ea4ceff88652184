-- A text that is one statement without its `;`.
use Rattle.std.proofs.Common.{◌≡◌, ℕ, ◌≤◌, ◌<◌, inl, inr, Bool, true, false, List, [], ◌∷◌, ◌++◌, length, Some, Ok, refl, sym, ap, ◌∙◌, subst, arith}
use Rattle.rules_text.specs.nodes.Tree.{Tree}
use Rattle.rules_text.specs.text.Token.{Token}
use Rattle.rules_text.specs.text.Lexical.{token_at}
use Rattle.rules_text.specs.text.Syntax.{Element, element_tokens}
use Rattle.rules_text.specs.declared.text.TextKind.{TextKind}
use Rattle.rules_text.specs.declared.text.TextKind.TheVariants.{TooLong}
use Rattle.rules_text.specs.text.Text.{Leads, EndsAt, Stands, IsLimit, IsStatementLimit, IsFileLimit, IsNode, past_limit}
use Rattle.mich_base.specs.View.{tree}
use Rattle.mich_text.specs.Plain.{IsFaultWithoutLimits, IsNodeWithoutLimits, IsEndWithoutLimits}
use Rattle.mich_text.specs.Limited.{IsOnly}
use Rattle.mich_text.specs.Parts.{IsAlone}
use Rattle.mich_text.specs.Results.{EndsClosed, IsRead}
use Rattle.mich_text.specs.declared.plain.Found.{Found}
use Rattle.mich_text.proofs.grammar.Signs.{no_inner}
use Rattle.mich_text.proofs.readings.Reading.{From, compare, same_rest}
use Rattle.mich_text.proofs.readings.Unique.{no_statement_at_end}
use Rattle.mich_text.proofs.tokens.Ahead.{no_token}
use Rattle.mich_text.proofs.limits.OneReading.{no_fault_at_node}
use Rattle.mich_text.proofs.limits.Unlimited.{fault_same, node_same}

module _ (text : List ℕ) where
  -- its tokens aren't those before a `;`
  pub no_sign : (t : Tree) (alone : IsAlone text t) (e : Element) (rest behind : List ℕ) → Leads text (element_tokens e) (Some rest)
      → token_at rest ≡ Ok (Token.semicolon, behind) → ⊥
  no_sign t alone e rest behind leads sign = elim (compare text p.tokens p.rest (element_tokens e) (Some rest) p.leads leads) [
    | inl f ↦ by f.more f.from
    | inr g ↦
        let same : (g.token, g.behind) ≡ (Token.semicolon, behind) = one_read g.at rest (g.token, g.behind) (Token.semicolon, behind) (same_rest g.at rest (sym g.rest_is)) g.read sign in
        no_inner p.statement.element e g.more (sym p.statement.tokens ∙ g.tokens
        ∙ ap (λ (u : Token). element_tokens e ++ u ∷ g.more) (ap (λ (x : Token × List ℕ). x.0) same))
  ] where
    p : Stands text t alone.0 0
    p = alone.1.stands

    one_read : (a b : List ℕ) (x y : Token × List ℕ) → a ≡ b → token_at a ≡ Ok x → token_at b ≡ Ok y → x ≡ y
    one_read a b x y e f g = cc (sym f ∙ ap token_at e ∙ g)

    by : (more : List Token) → From p.rest more (Some rest) → ⊥
    by [] f = no_token behind Token.semicolon (sym (ap token_at (same_rest rest p.rest f ∙ alone.2)) ∙ sign)
    by (u ∷ more) f = no_token f.0 u (sym (ap token_at alone.2) ∙ f.1)

  pub past_none : (t : Tree) (left : ℕ) → IsLimit 0 text left → IsAlone text t → ⊥
  past_none t left (inl s) alone =
      omega (arith, s.some, alone.1.clean TooLong left (past_limit (refl, inl (record { limit = s; goes_on = λ e rest behind leads sign. absurd (no_sign t alone e rest behind leads sign) }))))
  past_none t left (inr f) alone = omega (arith, f.some, alone.1.clean TooLong left (past_limit (refl, inr f)))

  module _ (none : (limit : ℕ) → IsLimit 0 text limit → ⊥) where
    pub open_alone : (t : Tree) (start end : ℕ) (n : IsNodeWithoutLimits text t start end) → n.stands.rest ≡ [] → IsAlone text t
    open_alone t start end n bare =
        let node : IsNode 0 text t start end = node_same 0 text none t start end n in
        let none_left : end ≡ 0 = ends n.stands.rest bare n.stands.ends in (
          start,
          record {
            stands = record {
              tokens = n.stands.tokens;
              first = n.stands.first;
              rest = n.stands.rest;
              begins = n.stands.begins;
              leads = n.stands.leads;
              statement = n.stands.statement;
              start_is = n.stands.start_is;
              ends = subst (EndsAt n.stands.rest) none_left n.stands.ends;
            };
            clean = λ k left h. subst (λ (e : ℕ). left ≤ e) none_left (node.clean k left h);
          },
          bare,
        ) where
          ends : (rest : List ℕ) → rest ≡ [] → EndsAt rest end → end ≡ 0
          ends rest e h = subst (λ (r : List ℕ). EndsAt r end) e h

    pub closed_none : (t u : Tree) (start end : ℕ) (n : IsNodeWithoutLimits text u start end) → 0 < length n.stands.rest → IsAlone text t → ⊥
    closed_none t u start end n some alone = by n.stands.rest n.stands.leads n.stands.ends some where
      by : (rest : List ℕ) → Leads text n.stands.tokens (Some rest) → EndsAt rest end → 0 < length rest → ⊥
      by [] leads ends some = omega (arith, some)
      by (c ∷ rest) leads ends some =
          no_sign t alone n.stands.statement.element (c ∷ rest) ends.0 (subst (λ (ts : List Token). Leads text ts (Some (c ∷ rest))) n.stands.statement.tokens leads) ends.1

    pub fault_none : (t : Tree) (k : TextKind) (left : ℕ) → IsFaultWithoutLimits text k left → IsAlone text t → ⊥
    fault_none t k left f alone = no_fault_at_node 0 text k left t alone.0 0 (fault_same 0 text none k left f) alone.1

    pub found_closed : (found : Found) → found.closed ≡ true → IsRead text (Ok (Some found)) → (t : Tree) → IsAlone text t → ⊥
    found_closed found e read t alone =
        closed_none t (tree found.node) found.start found.end read.0 (subst (λ (b : Bool). EndsClosed b read.0.stands.rest) e read.1) alone

    pub found_open : (found : Found) → found.closed ≡ false → IsRead text (Ok (Some found)) → IsAlone text (tree found.node)
    found_open found e read =
        open_alone (tree found.node) found.start found.end read.0 (subst (λ (b : Bool). EndsClosed b read.0.stands.rest) e read.1)

  pub end_none : (t : Tree) → IsEndWithoutLimits text → IsAlone text t → ⊥
  end_none t e alone = no_statement_at_end text t alone.0 0 e alone.1.stands

  -- there is none where both are 0
  pub no_limit : (statement file : ℕ) → IsOnly (IsStatementLimit text) statement → IsOnly (IsFileLimit 0 text) file → statement ≡ 0 → file ≡ 0
      → (limit : ℕ) → IsLimit 0 text limit → ⊥
  no_limit statement file s f e g limit (inl h) = omega (arith, h.some, s.1 limit h, e)
  no_limit statement file s f e g limit (inr h) = omega (arith, h.some, f.1 limit h, g)
