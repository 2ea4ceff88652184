-- Each way in which the reader ends, and what the text then is.
use Rattle.std.proofs.Common.{◌≡◌, ℕ, ◌≤◌, ◌<◌, ◌⊎◌, inl, inr, true, List, [], ◌∷◌, ◌++◌, length, Some, None, pos, Ok, Err, refl, sym, ap, subst, ◌∙◌, arith}
use Rattle.std.proofs.lemmas.List.{append-nil}
use Rattle.rules_text.specs.nodes.Limits.{depth_limit}
use Rattle.rules_text.specs.nodes.Tree.{Tree}
use Rattle.rules_text.specs.text.Token.{Token, token_shape}
use Rattle.rules_text.specs.declared.text.Shape.{Shape}
use Rattle.rules_text.specs.declared.text.Shape.TheVariants.{Digits, Quoted, Word, Note, OpenBrace, CloseBrace, OpenParen, CloseParen, Semicolon}
use Rattle.rules_text.specs.declared.text.TextKind.TheVariants.{Unexpected, TooDeep}
use Rattle.rules_text.specs.text.Fault.{Flaw}
use Rattle.rules_text.specs.text.Lexical.{token_at, after_gap, first_shape}
use Rattle.rules_text.specs.text.Text.{EndsAt, Stands}
use Rattle.rules_text.specs.declared.text.TextKind.{TextKind}
use Rattle.rules_text.specs.text.Syntax.{IsFront, IsFrontWithin}
use Rattle.mich_text.specs.Plain.{rank_without_limits, HoldsWithoutLimits, flawed, unexpected as is_unexpected, too_deep as is_too_deep, IsFaultWithoutLimits, IsNodeWithoutLimits}
use Rattle.mich_text.specs.Machine.{Stack, start, unexpected, too_deep, finish, has_statement, ended_tree, ready_for, refused, step, put}
use Rattle.mich_text.proofs.grammar.Fronts.{is_front_within, is_front, step_ok, run_more, no_front, no_front_within, deeper_front}
use Rattle.mich_text.proofs.grammar.Whole.{NoStatement, is_statement}
use Rattle.mich_text.proofs.readings.Ends.{behind_le, not_passed, stands_behind}
use Rattle.mich_text.proofs.readings.Reading.{same_rest, From, compare, leads_more, At, Further, flaw_there, comment_there, end_there, unexpected_there, deep_there, further}
use Rattle.mich_text.proofs.tokens.Ahead.{flaw_le, leads_le}
use Rattle.mich_text.proofs.tokens.Read.{clash, okay_is, same_flaw}
use Rattle.mich_text.proofs.tokens.Shapes.{token_shape_is}

-- ---- the faults

abbrev pub Before : TextKind → ℕ → TextKind → ℕ → Type 0
Before kind left k other = (other < left) ⊎ ((other ≡ left) × (rank_without_limits kind ≤ rank_without_limits k))

abbrev FirstSeen : List Token → List ℕ → TextKind → ℕ → Type 0
FirstSeen ts here kind left = (k : TextKind) (other : ℕ) → Further ts here k other → Before kind left k other

pub is_fault : (text : List ℕ) (ts : List Token) (here : List ℕ) (s : Stack) (kind : TextKind) (left : ℕ) → At text ts here s
    → HoldsWithoutLimits text kind left → FirstSeen ts here kind left
    → ((tree : Tree) (from end : ℕ) → Stands text tree from end → end < left) → IsFaultWithoutLimits text kind left
is_fault text ts here s kind left a h f w =
    record { holds = h; first = λ k other g. f k other (further text ts here s k other a g); within = w }

token_of : Shape → Token
token_of Digits = Token.number (pos 0)
token_of Quoted = Token.string []
token_of Word = Token.name []
token_of Note = Token.annotation []
token_of OpenBrace = Token.open_brace
token_of CloseBrace = Token.close_brace
token_of OpenParen = Token.open_paren
token_of CloseParen = Token.close_paren
token_of Semicolon = Token.semicolon

shape_of_token : (shape : Shape) → token_shape (token_of shape) ≡ shape
unfolding token_of
shape_of_token Digits = refl
shape_of_token Quoted = refl
shape_of_token Word = refl
shape_of_token Note = refl
shape_of_token OpenBrace = refl
shape_of_token CloseBrace = refl
shape_of_token OpenParen = refl
shape_of_token CloseParen = refl
shape_of_token Semicolon = refl

same_shape : (a b : Shape) → Some a ≡ Some b → a ≡ b
same_shape a b e = cc

module _ (text : List ℕ) (ts : List Token) (here : List ℕ) (s : Stack) (a : At text ts here s) (some : 0 < length here) where
  end_lt : (more : List Token) → From here more (Some []) → 0 < length here
  end_lt more f = some

  -- nothing but the rest itself has no further token
  not_end : (n : ℕ) → n ≡ 0 → n < length here
  not_end n e = omega arith

  -- a token that is wrong in itself, at its first byte
  pub flawed_first : (f : Flaw) → token_at here ≡ Err f → f.left ≡ length here → IsFaultWithoutLimits text f.kind f.left
  flawed_first f e at =
      is_fault text ts here s f.kind f.left a (flawed (record { before = ts; here = here; leads = a.leads; some = some; wrong = e })) first
      (λ tree from end p. rw at (stands_behind text ts here s tree from end a some p)) where
        own : rank_without_limits f.kind ≡ 0
        own = (flaw_le here f e).1

        first : FirstSeen ts here f.kind f.left
        first k other (flaw_there [] there from _ wrong) =
            let same : f ≡ record { kind = k; left = other } = same_flaw f (record { kind = k; left = other }) here e
            (ap token_at (sym (same_rest there here from)) ∙ wrong) in
            inr (ap (λ (d : Flaw). d.left) (sym same), omega (arith, own))
        first k other (flaw_there (t ∷ more) there from _ wrong) = absurd (clash here e from.1)
        first k other (comment_there more from kind_is left_is) = inl (rw at (not_end other left_is))
        first k other (end_there more from kind_is left_is) = inl (rw at (not_end other left_is))
        first k other (unexpected_there [] there shape from begins ends kind_is left_is) =
            inr (left_is ∙ ap length (same_rest there here from) ∙ sym at, omega (arith, own))
        first k other (unexpected_there (t ∷ more) there shape from begins ends kind_is left_is) = absurd (clash here e from.1)
        first k other (deep_there [] there shape from begins ends kind_is left_is) =
            inr (left_is ∙ ap length (same_rest there here from) ∙ sym at, omega (arith, own))
        first k other (deep_there (t ∷ more) there shape from begins ends kind_is left_is) = absurd (clash here e from.1)

  -- a token that can't stand here
  pub unexpected_here : (shape : Shape) → first_shape here ≡ Some shape → refused depth_limit (ready_for shape s) shape ≡ Some unexpected
      → ((f : Flaw) → token_at here ≡ Err f → f.left ≡ length here → ⊥) → IsFaultWithoutLimits text Unexpected (length here)
  unexpected_here shape e no_place fine =
      is_fault text ts here s Unexpected (length here) a (is_unexpected (record {
        before = ts;
        here = here;
        shape = shape;
        leads = a.leads;
        begins = e;
        front = is_front depth_limit ts (is_front_within depth_limit s ts a.runs);
        ends = ends;
        kind_is = refl;
        left_is = refl;
      })) first (λ tree from end p. stands_behind text ts here s tree from end a some p) where
        ends : (t : Token) → token_shape t ≡ shape → IsFront (ts ++ t ∷ []) → ⊥
        ends t h = no_front depth_limit s ts t a.runs (rw h no_place)

        first : FirstSeen ts here Unexpected (length here)
        first k other (flaw_there [] there from _ wrong) =
            let mine : token_at here ≡ Err (record { kind = k; left = other }) = ap token_at (sym (same_rest there here from)) ∙ wrong in
            inl (omega (arith, (flaw_le here (record { kind = k; left = other }) mine).0, fine (record { kind = k; left = other }) mine))
        first k other (flaw_there (t ∷ more) there from _ wrong) =
            inl (omega (arith, behind_le here more t there from, (flaw_le there (record { kind = k; left = other }) wrong).0))
        first k other (comment_there more from kind_is left_is) = inl (not_end other left_is)
        first k other (end_there more from kind_is left_is) = inl (not_end other left_is)
        first k other (unexpected_there [] there shape from begins ends kind_is left_is) =
            inr (left_is ∙ ap length (same_rest there here from), rw kind_is (omega arith))
        first k other (unexpected_there (t ∷ more) there shape from begins ends kind_is left_is) =
            inl (omega (arith, behind_le here more t there from))
        first k other (deep_there [] there shape from begins ends kind_is left_is) =
            inr (left_is ∙ ap length (same_rest there here from), rw kind_is (omega arith))
        first k other (deep_there (t ∷ more) there shape from begins ends kind_is left_is) =
            inl (omega (arith, behind_le here more t there from))

  -- a node that is too deep
  pub deep_here : (shape : Shape) → first_shape here ≡ Some shape → refused depth_limit (ready_for shape s) shape ≡ Some too_deep
      → ((f : Flaw) → token_at here ≡ Err f → f.left ≡ length here → ⊥) → IsFaultWithoutLimits text TooDeep (length here)
  deep_here shape e no_place fine =
      is_fault text ts here s TooDeep (length here) a (is_too_deep (record {
        before = ts;
        here = here;
        shape = shape;
        leads = a.leads;
        begins = e;
        within = is_front_within depth_limit s ts a.runs;
        front = front;
        deep = deep;
        kind_is = refl;
        left_is = refl;
      })) first (λ tree from end p. stands_behind text ts here s tree from end a some p) where
        front : (t : Token) → token_shape t ≡ shape → IsFront (ts ++ t ∷ [])
        front t h = deeper_front depth_limit s ts t a.runs (rw h no_place)

        deep : (t : Token) → token_shape t ≡ shape → IsFrontWithin depth_limit (ts ++ t ∷ []) → ⊥
        deep t h = no_front_within depth_limit s ts t a.runs (rw h no_place)

        first : FirstSeen ts here TooDeep (length here)
        first k other (flaw_there [] there from _ wrong) =
            let mine : token_at here ≡ Err (record { kind = k; left = other }) = ap token_at (sym (same_rest there here from)) ∙ wrong in
            inl (omega (arith, (flaw_le here (record { kind = k; left = other }) mine).0, fine (record { kind = k; left = other }) mine))
        first k other (flaw_there (t ∷ more) there from _ wrong) =
            inl (omega (arith, behind_le here more t there from, (flaw_le there (record { kind = k; left = other }) wrong).0))
        first k other (comment_there more from kind_is left_is) = inl (not_end other left_is)
        first k other (end_there more from kind_is left_is) = inl (not_end other left_is)
        first k other (unexpected_there [] there other_shape from begins ends kind_is left_is) =
            let same : shape ≡ other_shape = same_shape shape other_shape
            (sym e ∙ ap first_shape (sym (same_rest there here from)) ∙ begins) in
            absurd (ends (token_of shape) (shape_of_token shape ∙ same) (subst (λ (l : List Token). IsFront (l ++ token_of shape ∷ []))
            (sym (append-nil ts)) (front (token_of shape) (shape_of_token shape))))
        first k other (unexpected_there (t ∷ more) there shape from begins ends kind_is left_is) =
            inl (omega (arith, behind_le here more t there from))
        first k other (deep_there [] there shape from begins ends kind_is left_is) =
            inr (left_is ∙ ap length (same_rest there here from), rw kind_is (omega arith))
        first k other (deep_there (t ∷ more) there shape from begins ends kind_is left_is) =
            inl (omega (arith, behind_le here more t there from))

  ends_well : (rest : List ℕ) (end : ℕ) → 0 < length rest → EndsAt rest end
      → (behind : List ℕ) × (token_at rest ≡ Ok (Token.semicolon, behind))
  ends_well [] end h p = absurd (omega arith)
  ends_well (c ∷ rest) end h p = (p.0, p.1)

  -- no statement stands where a token is wrong
  stands_not : (f : Flaw) → token_at here ≡ Err f → (tree : Tree) (from end : ℕ) → Stands text tree from end → ⊥
  stands_not f e tree from end p = elim (compare text ts here p.tokens (Some p.rest) a.leads p.leads) [
    | inl g ↦ by g.more g.from
    | inr g ↦ not_passed text ts here s tree from end a p g
  ] where
    by : (more : List Token) → From here more (Some p.rest) → ⊥
    by [] g =
        let same : p.rest ≡ here = same_rest p.rest here g in
        let q = ends_well p.rest end (rw same some) p.ends in
        clash here e (ap token_at (sym same) ∙ q.1)
    by (t ∷ more) g = clash here e g.1

  -- a token that can stand here and is wrong further back
  pub flawed_later : (f : Flaw) (shape : Shape) → token_at here ≡ Err f → first_shape here ≡ Some shape
      → refused depth_limit (ready_for shape s) shape ≡ None → IsFaultWithoutLimits text f.kind f.left
  flawed_later f shape e g fits =
      is_fault text ts here s f.kind f.left a (flawed (record { before = ts; here = here; leads = a.leads; some = some; wrong = e })) first
      (λ tree from end p. absurd (stands_not f e tree from end p)) where
        front : (t : Token) → token_shape t ≡ shape → IsFrontWithin depth_limit (ts ++ t ∷ [])
        front t h =
            is_front_within depth_limit (put t (ready_for (token_shape t) s)) (ts ++ t ∷ [])
            (run_more depth_limit start s _ ts t a.runs (step_ok depth_limit s t (rw h fits)))

        first : FirstSeen ts here f.kind f.left
        first k other (flaw_there [] there from _ wrong) =
            let same : f ≡ record { kind = k; left = other } = same_flaw f (record { kind = k; left = other }) here e
            (ap token_at (sym (same_rest there here from)) ∙ wrong) in
            inr (ap (λ (d : Flaw). d.left) (sym same), omega (arith, (flaw_le here f e).1))
        first k other (flaw_there (t ∷ more) there from _ wrong) = absurd (clash here e from.1)
        first k other (comment_there [] from kind_is left_is) = absurd (cc from)
        first k other (comment_there (t ∷ more) from kind_is left_is) = absurd (clash here e from.1)
        first k other (end_there [] from kind_is left_is) = absurd (omega (arith, ap length (same_rest [] here from)))
        first k other (end_there (t ∷ more) from kind_is left_is) = absurd (clash here e from.1)
        first k other (unexpected_there [] there other_shape from begins ends kind_is left_is) =
            let same : shape ≡ other_shape = same_shape shape other_shape
            (sym g ∙ ap first_shape (sym (same_rest there here from)) ∙ begins) in
            absurd (ends (token_of shape) (shape_of_token shape ∙ same) (subst (λ (l : List Token). IsFront (l ++ token_of shape ∷ []))
            (sym (append-nil ts)) (is_front depth_limit (ts ++ token_of shape ∷ []) (front (token_of shape) (shape_of_token shape)))))
        first k other (unexpected_there (t ∷ more) there shape from begins ends kind_is left_is) = absurd (clash here e from.1)
        first k other (deep_there [] there other_shape from begins ends kind_is left_is) =
            let same : shape ≡ other_shape = same_shape shape other_shape
            (sym g ∙ ap first_shape (sym (same_rest there here from)) ∙ begins) in
            absurd (ends (token_of shape) (shape_of_token shape ∙ same)
            (subst (λ (l : List Token). IsFrontWithin depth_limit (l ++ token_of shape ∷ [])) (sym (append-nil ts))
            (front (token_of shape) (shape_of_token shape))))
        first k other (deep_there (t ∷ more) there shape from begins ends kind_is left_is) = absurd (clash here e from.1)

-- ---- behind a token that was taken

module _ (text : List ℕ) (ts : List Token) (here : List ℕ) (s : Stack) (a : At text ts here s) (behind : List ℕ) (t : Token)
    (e : token_at here ≡ Ok (t, behind)) (r : Stack) (taken : step depth_limit s t ≡ Ok r) where
  -- no condition holds at the token's first byte
  pub shape_here : (shape : Shape) (there : List ℕ) → Some there ≡ Some here → first_shape there ≡ Some shape → token_shape t ≡ shape
  shape_here shape there f g =
      same_shape (token_shape t) shape (sym (token_shape_is here t behind e) ∙ ap first_shape (sym (same_rest there here f)) ∙ g)

  pub within_here : IsFrontWithin depth_limit (ts ++ t ∷ [])
  within_here = is_front_within depth_limit r (ts ++ t ∷ []) (run_more depth_limit start s r ts t a.runs taken)

  leads_behind : (u : Token) (more : List Token) (rest : List ℕ) → From here (u ∷ more) (Some rest) → length rest ≤ length behind
  leads_behind u more rest from =
      let same : (u, from.0) ≡ (t, behind) = okay_is (u, from.0) (t, behind) (sym from.1 ∙ e) in
      omega (arith, leads_le from.0 more rest from.2, ap (λ (q : Token × List ℕ). length q.1) same)

  pub behind_here : (k : TextKind) (left : ℕ) → Further ts here k left → left ≤ length behind
  behind_here k left (flaw_there [] there from some wrong) = absurd (clash there wrong (ap token_at (same_rest there here from) ∙ e))
  behind_here k left (flaw_there (u ∷ more) there from some wrong) =
      omega (arith, leads_behind u more there from, (flaw_le there (record { kind = k; left = left }) wrong).0)
  behind_here k left (comment_there more from kind_is left_is) = omega arith
  behind_here k left (end_there more from kind_is left_is) = omega arith
  behind_here k left (unexpected_there [] there shape from begins ends kind_is left_is) =
      absurd (ends t (shape_here shape there from begins)
      (subst (λ (l : List Token). IsFront (l ++ t ∷ [])) (sym (append-nil ts)) (is_front depth_limit (ts ++ t ∷ []) within_here)))
  behind_here k left (unexpected_there (u ∷ more) there shape from begins ends kind_is left_is) =
      omega (arith, leads_behind u more there from)
  behind_here k left (deep_there [] there shape from begins ends kind_is left_is) =
      absurd (ends t (shape_here shape there from begins)
      (subst (λ (l : List Token). IsFrontWithin depth_limit (l ++ t ∷ [])) (sym (append-nil ts)) within_here))
  behind_here k left (deep_there (u ∷ more) there shape from begins ends kind_is left_is) = omega (arith, leads_behind u more there from)

  -- the parser goes on
  pub at_next : (next : List ℕ) → after_gap behind ≡ Some next → NoStatement (ts ++ t ∷ []) → At text (ts ++ t ∷ []) next r
  at_next next g lacks =
      record {
        leads = leads_more text ts here behind t (Some next) a.leads e g;
        runs = run_more depth_limit start s r ts t a.runs taken;
        lacks = lacks;
      }

-- a statement with its `;`
pub closed_node : (text : List ℕ) (ts : List Token) (here : List ℕ) (s r : Stack) (first behind : List ℕ) (d : Tree) → At text ts here s
    → 0 < length here → after_gap text ≡ Some first → token_at here ≡ Ok (Token.semicolon, behind)
    → step depth_limit s Token.semicolon ≡ Ok r → has_statement (finish s) ≡ true
    → (n : IsNodeWithoutLimits text (ended_tree (finish s) d) (length first) (length behind)) × (0 < length n.stands.rest)
closed_node text ts [] s r first behind d a some begins e taken h = absurd (omega arith)
closed_node text ts (c ∷ here) s r first behind d a some begins e taken h = (
  record {
    stands =
        record {
          tokens = ts;
          first = first;
          rest = c ∷ here;
          begins = begins;
          leads = a.leads;
          statement = is_statement depth_limit s ts d a.runs h;
          start_is = refl;
          ends = (behind, e, refl);
        };
    clean =
        λ k left p. behind_here text ts (c ∷ here) s a behind Token.semicolon e r taken k left (further text ts (c ∷ here) s k left a p);
  },
  some,
)

pub node_at_sign : (text : List ℕ) (ts : List Token) (here : List ℕ) (s r : Stack) (first behind : List ℕ) (d : Tree) → At text ts here s
    → 0 < length here → after_gap text ≡ Some first → token_at here ≡ Ok (Token.semicolon, behind)
    → step depth_limit s Token.semicolon ≡ Ok r → has_statement (finish s) ≡ true
    → IsNodeWithoutLimits text (ended_tree (finish s) d) (length first) (length behind)
node_at_sign text ts here s r first behind d a some begins e taken h =
    (closed_node text ts here s r first behind d a some begins e taken h).0
