-- What a text is where the input ends.
use Rattle.std.proofs.Common.{◌≡◌, ℕ, ◌<◌, inl, inr, true, false, List, [], ◌∷◌, ◌++◌, length, Option, Some, refl, sym, ap, subst, ◌∙◌, arith}
use Rattle.std.proofs.lemmas.List.{append-nil}
use Rattle.rules_text.specs.nodes.Limits.{depth_limit}
use Rattle.rules_text.specs.nodes.Tree.{Tree}
use Rattle.rules_text.specs.text.Token.{Token}
use Rattle.rules_text.specs.declared.text.TextKind.TheVariants.{Unclosed}
use Rattle.rules_text.specs.text.Lexical.{after_gap}
use Rattle.rules_text.specs.text.Text.{Leads, Stands}
use Rattle.rules_text.specs.declared.text.TextKind.{TextKind}
use Rattle.rules_text.specs.text.Syntax.{IsWhole, unended, nothing, element_tokens}
use Rattle.mich_text.specs.Plain.{is_open, IsFaultWithoutLimits, IsNodeWithoutLimits, IsEndWithoutLimits}
use Rattle.mich_text.specs.Machine.{Stack, finish, is_root, has_statement, ended_tree}
use Rattle.mich_text.proofs.grammar.Fronts.{is_front_within, is_front}
use Rattle.mich_text.proofs.grammar.Whole.{is_statement, whole_is_root, is_nothing}
use Rattle.mich_text.proofs.readings.Ends.{not_passed}
use Rattle.mich_text.proofs.readings.Reading.{same_rest, From, compare, At, Further, flaw_there, comment_there, end_there, unexpected_there, deep_there, further}
use Rattle.mich_text.proofs.readings.Verdict.{is_fault}
use Rattle.mich_text.proofs.tokens.Ahead.{token_shorter}

module _ (text : List ℕ) (ts : List Token) (s : Stack) (a : At text ts [] s) where
  no_more : (t : Token) (more : List Token) (rest : Option (List ℕ)) → From [] (t ∷ more) rest → ⊥
  no_more t more rest from = absurd (omega (arith, token_shorter [] from.0 t from.1))

  -- all conditions that hold here
  ends_here : (k : TextKind) (other : ℕ) → Further ts [] k other → other ≡ 0
  ends_here k other (flaw_there [] there from some wrong) = absurd (omega (arith, ap length (same_rest there [] from)))
  ends_here k other (flaw_there (t ∷ more) there from some wrong) = absurd (no_more t more _ from)
  ends_here k other (comment_there more from kind_is left_is) = left_is
  ends_here k other (end_there more from kind_is left_is) = left_is
  ends_here k other (unexpected_there [] there shape from begins ends kind_is left_is) = left_is ∙ ap length (same_rest there [] from)
  ends_here k other (unexpected_there (t ∷ more) there shape from begins ends kind_is left_is) = absurd (no_more t more _ from)
  ends_here k other (deep_there [] there shape from begins ends kind_is left_is) = left_is ∙ ap length (same_rest there [] from)
  ends_here k other (deep_there (t ∷ more) there shape from begins ends kind_is left_is) = absurd (no_more t more _ from)

  -- in a parenthesis or sequence
  pub open_at_end : is_root (finish s) ≡ false → IsFaultWithoutLimits text Unclosed 0
  open_at_end r =
      is_fault text ts [] s Unclosed 0 a (is_open (record {
        before = ts;
        leads = a.leads;
        front = is_front depth_limit ts (is_front_within depth_limit s ts a.runs);
        open_still = still;
        kind_is = refl;
        left_is = refl;
      })) (λ k other f. inr (ends_here k other f, omega arith)) within where
        still : IsWhole ts → ⊥
        still w = cc (sym r ∙ whole_is_root depth_limit s ts a.runs w)

        one : (e : _) → ts ≡ element_tokens e → IsWhole ts
        one e h = record { whole = unended nothing e; tokens = h }

        within : (tree : Tree) (from end : ℕ) → Stands text tree from end → end < 0
        within tree from end p = elim (compare text ts [] p.tokens (Some p.rest) a.leads p.leads) [
          | inl g ↦ absurd (by g.more g.from g.tokens)
          | inr g ↦ absurd (not_passed text ts [] s tree from end a p g)
        ] where
          by : (more : List Token) → From [] more (Some p.rest) → p.tokens ≡ ts ++ more → ⊥
          by [] g e = still (one p.statement.element (sym (append-nil ts) ∙ sym e ∙ p.statement.tokens))
          by (t ∷ more) g e = no_more t more _ g

  -- behind a statement without `;`
  pub unclosed_node : (first : List ℕ) (d : Tree) → after_gap text ≡ Some first → has_statement (finish s) ≡ true
      → (n : IsNodeWithoutLimits text (ended_tree (finish s) d) (length first) 0) × (n.stands.rest ≡ [])
  unclosed_node first d begins h = (
    record {
      stands =
          record {
            tokens = ts;
            first = first;
            rest = [];
            begins = begins;
            leads = a.leads;
            statement = is_statement depth_limit s ts d a.runs h;
            start_is = refl;
            ends = refl;
          };
      clean = λ k left p. omega (arith, ends_here k left (further text ts [] s k left a p));
    },
    refl,
  )

  pub node_at_end : (first : List ℕ) (d : Tree) → after_gap text ≡ Some first → has_statement (finish s) ≡ true
      → IsNodeWithoutLimits text (ended_tree (finish s) d) (length first) 0
  node_at_end first d begins h = (unclosed_node first d begins h).0

  -- nothing was read
  pub nothing_here : is_root (finish s) ≡ true → has_statement (finish s) ≡ false → IsEndWithoutLimits text
  nothing_here r h = subst (λ (l : List Token). Leads text l (Some [])) (is_nothing depth_limit s ts a.runs r h a.lacks) a.leads
