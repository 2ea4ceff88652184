-- Block comments that don't end.
use Rattle.std.proofs.Common.{◌≡◌, ℕ, ◌<◌, inl, inr, List, [], ◌∷◌, ◌++◌, Some, None, Ok, refl, sym, ap, subst, ◌∙◌, arith}
use Rattle.std.proofs.lemmas.List.{append-nil}
use Rattle.rules_text.specs.nodes.Limits.{depth_limit}
use Rattle.rules_text.specs.nodes.Tree.{Tree}
use Rattle.rules_text.specs.text.Token.{Token}
use Rattle.rules_text.specs.declared.text.TextKind.TheVariants.{Unclosed}
use Rattle.rules_text.specs.text.Lexical.{token_at, after_gap}
use Rattle.rules_text.specs.text.Text.{Leads, Stands}
use Rattle.rules_text.specs.declared.text.TextKind.{TextKind}
use Rattle.rules_text.specs.text.Syntax.{IsFront, IsFrontWithin, element_tokens}
use Rattle.mich_text.specs.Plain.{HoldsWithoutLimits, flawed, in_comment, is_open, unexpected as is_unexpected, too_deep as is_too_deep, IsFaultWithoutLimits}
use Rattle.mich_text.specs.Machine.{Stack, step}
use Rattle.mich_text.proofs.grammar.Fronts.{is_front}
use Rattle.mich_text.proofs.grammar.Whole.{NoStatement}
use Rattle.mich_text.proofs.readings.Ends.{end_sign, not_passed}
use Rattle.mich_text.proofs.readings.Reading.{same_rest, From, compare, leads_more, At, Further, flaw_there, comment_there, end_there, unexpected_there, deep_there}
use Rattle.mich_text.proofs.readings.Verdict.{is_fault, shape_here, within_here}
use Rattle.mich_text.proofs.tokens.Read.{clash, okay_is}

no_leads : (text : List ℕ) (ts : List Token) (rest : List ℕ) → after_gap text ≡ None → Leads text ts (Some rest) → ⊥
no_leads text [] rest g p = cc (sym g ∙ p)
no_leads text (t ∷ ts) rest g p = cc (sym g ∙ p.2)

comment_holds : (text : List ℕ) (k : TextKind) (other : ℕ) → after_gap text ≡ None → HoldsWithoutLimits text k other → other ≡ 0
comment_holds text k other g (flawed p) = absurd (no_leads text p.before p.here g p.leads)
comment_holds text k other g (in_comment p) = p.left_is
comment_holds text k other g (is_open p) = p.left_is
comment_holds text k other g (is_unexpected p) = absurd (no_leads text p.before p.here g p.leads)
comment_holds text k other g (is_too_deep p) = absurd (no_leads text p.before p.here g p.leads)

-- before the first token
pub comment_first : (text : List ℕ) → after_gap text ≡ None → IsFaultWithoutLimits text Unclosed 0
comment_first text g = record {
  holds = in_comment (record { before = []; leads = g; kind_is = refl; left_is = refl });
  first = λ k other p. inr (comment_holds text k other g p, omega arith);
  within = λ tree from end p. absurd (no_leads text p.tokens p.rest g p.leads);
}

-- behind a token that was taken
pub comment_behind : (text : List ℕ) (ts : List Token) (here : List ℕ) (s r : Stack) (behind : List ℕ) (t : Token) → At text ts here s
    → token_at here ≡ Ok (t, behind) → step depth_limit s t ≡ Ok r → after_gap behind ≡ None → NoStatement (ts ++ t ∷ [])
    → IsFaultWithoutLimits text Unclosed 0
comment_behind text ts here s r behind t a e taken g lacks =
    is_fault text ts here s Unclosed 0 a (in_comment (record {
      before = ts ++ t ∷ [];
      leads = leads_more text ts here behind t None a.leads e g;
      kind_is = refl;
      left_is = refl;
    })) (λ k other f. inr (
      zero k other f,
      omega arith,
    )) within where
      gone : (u : Token) (more : List Token) (rest : List ℕ) → From here (u ∷ more) (Some rest) → ⊥
      gone u more rest from =
          let same : (u, from.0) ≡ (t, behind) = okay_is (u, from.0) (t, behind) (sym from.1 ∙ e) in
          no_leads from.0 more rest (ap (λ (q : Token × List ℕ). after_gap q.1) same ∙ g) from.2

      zero : (k : TextKind) (other : ℕ) → Further ts here k other → other ≡ 0
      zero k other (flaw_there [] there from some wrong) = absurd (clash there wrong (ap token_at (same_rest there here from) ∙ e))
      zero k other (flaw_there (u ∷ more) there from some wrong) = absurd (gone u more there from)
      zero k other (comment_there more from kind_is left_is) = left_is
      zero k other (end_there more from kind_is left_is) = left_is
      zero k other (unexpected_there [] there shape from begins ends kind_is left_is) =
          absurd (ends t (shape_here text ts here s a behind t e r taken shape there from begins)
          (subst (λ (l : List Token). IsFront (l ++ t ∷ [])) (sym (append-nil ts))
          (is_front depth_limit (ts ++ t ∷ []) (within_here text ts here s a behind t e r taken))))
      zero k other (unexpected_there (u ∷ more) there shape from begins ends kind_is left_is) = absurd (gone u more there from)
      zero k other (deep_there [] there shape from begins ends kind_is left_is) =
          absurd (ends t (shape_here text ts here s a behind t e r taken shape there from begins)
          (subst (λ (l : List Token). IsFrontWithin depth_limit (l ++ t ∷ [])) (sym (append-nil ts))
          (within_here text ts here s a behind t e r taken)))
      zero k other (deep_there (u ∷ more) there shape from begins ends kind_is left_is) = absurd (gone u more there from)

      within : (tree : Tree) (from end : ℕ) → Stands text tree from end → end < 0
      within tree from end p = elim (compare text ts here p.tokens (Some p.rest) a.leads p.leads) [
        | inl f ↦ absurd (by f.more f.from f.tokens)
        | inr f ↦ absurd (not_passed text ts here s tree from end a p f)
      ] where
        by : (more : List Token) → From here more (Some p.rest) → p.tokens ≡ ts ++ more → ⊥
        by [] f h =
            let read : token_at p.rest ≡ Ok (t, behind) = ap token_at (same_rest p.rest here f) ∙ e in
            let sign : t ≡ Token.semicolon = end_sign p.rest behind end t p.ends read in
            let tokens : ts ≡ element_tokens p.statement.element = sym (append-nil ts) ∙ sym h ∙ p.statement.tokens in
            lacks p.statement.element [] (ap (λ (l : List Token). l ++ t ∷ []) tokens
            ∙ ap (λ (u : Token). element_tokens p.statement.element ++ u ∷ []) sign)
        by (u ∷ more) f h = gone u more p.rest f
