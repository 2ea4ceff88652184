-- A statement with its `;`, in a text and in its front.
use Rattle.std.proofs.Common.{◌≡◌, ℕ, ◌+◌, ◌-◌, ◌≤◌, ◌<◌, inr, List, [], ◌∷◌, ◌++◌, length, drop, Option, Some, Ok, refl, sym, ap, ◌∙◌, arith}
use Rattle.std.proofs.lemmas.List.{length-append}
use Rattle.rules_text.specs.nodes.Tree.{Tree}
use Rattle.rules_text.specs.text.Token.{Token, token_shape}
use Rattle.rules_text.specs.text.Lexical.{after_gap, token_at, first_shape, shape_of, shape_at}
use Rattle.rules_text.specs.declared.text.Shape.{Shape}
use Rattle.rules_text.specs.declared.text.Shape.TheVariants.{Semicolon}
use Rattle.rules_text.specs.text.Text.{Leads, EndsAt, Stands}
use Rattle.mich_text.proofs.tokens.Shapes.{token_shape_is}
use Rattle.mich_text.proofs.tokens.Ahead.{token_shorter, leads_le}
use Rattle.mich_text.proofs.tokens.Read.{okay_is}
use Rattle.mich_text.proofs.tokens.Gaps.{gap_cut}
use Rattle.mich_text.proofs.tokens.Cut.{leads_cut}
use Rattle.mich_text.proofs.readings.Reading.{same_rest}
use Rattle.mich_text.proofs.readings.Fed.{leads_on}
use Rattle.mich_text.proofs.readings.Unique.{no_tokens}

head_is : (c d : ℕ) (r s : List ℕ) → c ∷ r ≡ d ∷ s → (c ≡ d) × (r ≡ s)
head_is c d r s e = (ap (λ (l : List ℕ). first l) e, ap (λ (l : List ℕ). drop 1 l) e)
  where
    first : List ℕ → ℕ
    first [] = 0
    first (x ∷ l) = x

-- a byte of this shape is the whole token
sign_again : (c : ℕ) (rest : List ℕ) → shape_of c ≡ Some Semicolon → token_at (c ∷ rest) ≡ Ok (Token.semicolon, rest)
unfolding token_at
sign_again c rest e = ap (λ (o : Option Shape). shape_at o (c ∷ rest)) e

pub sign_rest : (c : ℕ) (rest behind : List ℕ) → token_at (c ∷ rest) ≡ Ok (Token.semicolon, behind) → behind ≡ rest
sign_rest c rest behind e =
    ap (λ (x : Token × List ℕ). x.1) (okay_is (Token.semicolon, behind) (Token.semicolon, rest)
    (sym e ∙ sign_again c rest (token_shape_is (c ∷ rest) Token.semicolon behind e)))

ends_cut : (more rest b : List ℕ) (end : ℕ) → rest ≡ b ++ more → length more < length rest → EndsAt rest end → EndsAt b (end - length more)
ends_cut more [] b end e h p = absurd (omega (arith, h))
ends_cut more (c ∷ r) [] end e h p = absurd (omega (arith, h, ap (λ (l : List ℕ). length l) e))
ends_cut more (c ∷ r) (d ∷ b) end e h p =
    let same = head_is c d r (b ++ more) e in
    let shape : shape_of d ≡ Some Semicolon = ap shape_of (sym same.0) ∙ token_shape_is (c ∷ r) Token.semicolon p.0 p.1 in
    let count : end ≡ length b + length more = p.2 ∙ ap (λ (l : List ℕ). length l) (sign_rest c r p.0 p.1 ∙ same.1)
    ∙ length-append b more in
    (b, sign_again d b shape, omega (arith, count))

pub ends_kept : (more : List ℕ) (c : ℕ) (rest : List ℕ) (end : ℕ) → EndsAt (c ∷ rest) end → EndsAt (c ∷ (rest ++ more)) (end + length more)
ends_kept more c rest end p =
    let same = sign_rest c rest p.0 p.1 in (
      rest ++ more,
      sign_again c (rest ++ more) (token_shape_is (c ∷ rest) Token.semicolon p.0 p.1),
      omega (arith, p.2, ap (λ (l : List ℕ). length l) same, length-append rest more),
    )

-- tokens come behind the first byte
first_le : (text first rest : List ℕ) (ts : List Token) → after_gap text ≡ Some first → Leads text ts (Some rest)
    → length rest ≤ length first
first_le text first rest [] e p = omega (arith, ap (λ (l : List ℕ). length l) (same_rest first rest (sym e ∙ p)))
first_le text first rest (t ∷ ts) e p =
    let same : length p.0 ≡ length first = ap (λ (l : List ℕ). length l) (same_rest p.0 first (sym p.2 ∙ e)) in
    omega (arith, same, token_shorter p.0 p.1 t p.3, leads_le p.1 ts rest p.4)

-- where tokens are read one begins
first_begins : (text first rest : List ℕ) (ts : List Token) → (ts ≡ [] → ⊥) → after_gap text ≡ Some first → Leads text ts (Some rest)
    → (shape : Shape) × (first_shape first ≡ Some shape)
first_begins text first rest [] some e p = absurd (some refl)
first_begins text first rest (t ∷ ts) some e p =
    let same : p.0 ≡ first = same_rest p.0 first (sym p.2 ∙ e) in
    (token_shape t, ap first_shape (sym same) ∙ token_shape_is p.0 t p.1 p.3)

module _ (front more : List ℕ) (tree : Tree) (start end : ℕ) where
  -- a statement whose `;` stands in the front
  pub stands_cut : (p : Stands (front ++ more) tree start end) → length more < length p.rest
      → Stands front tree (start - length more) (end - length more)
  stands_cut p h =
      let g = leads_cut front more p.tokens p.rest p.leads h in
      let f = gap_cut front more p.first p.begins (omega (arith, h, first_le (front ++ more) p.first p.rest p.tokens p.begins p.leads)) in
      let count : length p.first ≡ length f.0 + length more = ap (λ (l : List ℕ). length l) f.1 ∙ length-append f.0 more in
      record {
        tokens = p.tokens;
        first = f.0;
        rest = g.0;
        begins = f.2;
        leads = g.2;
        statement = p.statement;
        start_is = omega (arith, p.start_is, count);
        ends = ends_cut more p.rest g.0 end g.1 h p.ends;
      }

  -- as many bytes behind it are left
  pub cut_rest : (p : Stands (front ++ more) tree start end) (h : length more < length p.rest)
      → length (stands_cut p h).rest + length more ≡ length p.rest
  unfolding stands_cut
  cut_rest p h =
      let g = leads_cut front more p.tokens p.rest p.leads h in
      let same : length g.0 + length more ≡ length p.rest = omega (arith, ap (λ (l : List ℕ). length l) g.1, length-append g.0 more) in
      same

  -- a statement of the front with its `;`
  pub stands_kept : (p : Stands front tree start end) → 0 < length p.rest
      → Stands (front ++ more) tree (start + length more) (end + length more)
  stands_kept p h =
      let none : p.tokens ≡ [] → ⊥ = λ e. no_tokens p.statement.element (sym p.statement.tokens ∙ e) in
      record {
        tokens = p.tokens;
        first = p.first ++ more;
        rest = p.rest ++ more;
        begins = leads_on front more [] p.first p.begins (inr (first_begins front p.first p.rest p.tokens none p.begins p.leads));
        leads = leads_on front more p.tokens p.rest p.leads (inr (rest_begins p.rest end p.ends h));
        statement = p.statement;
        start_is = omega (arith, p.start_is, length-append p.first more);
        ends = closed p.rest h p.ends;
      } where
        rest_begins : (rest : List ℕ) (end : ℕ) → EndsAt rest end → 0 < length rest → (shape : Shape) × (first_shape rest ≡ Some shape)
        rest_begins [] end p h = absurd (omega (arith, h))
        rest_begins (c ∷ rest) end p h = (Semicolon, token_shape_is (c ∷ rest) Token.semicolon p.0 p.1)

        closed : (rest : List ℕ) → 0 < length rest → EndsAt rest end → EndsAt (rest ++ more) (end + length more)
        closed [] h p = absurd (omega (arith, h))
        closed (c ∷ rest) h p = ends_kept more c rest end p
