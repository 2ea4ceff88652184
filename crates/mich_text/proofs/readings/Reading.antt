-- What the text is, from what the parser has read of it.
use Rattle.std.proofs.Common.{◌≡◌, ℕ, ◌<◌, ◌⊎◌, inl, inr, List, [], ◌∷◌, ◌++◌, length, Option, Some, None, Ok, Err, refl, sym, ap, subst, ◌∙◌, append_assoc, arith}
use Rattle.rules_text.specs.nodes.Limits.{depth_limit}
use Rattle.rules_text.specs.text.Token.{Token, token_shape}
use Rattle.rules_text.specs.declared.text.Shape.{Shape}
use Rattle.rules_text.specs.declared.text.TextKind.TheVariants.{Unclosed, Unexpected, TooDeep}
use Rattle.rules_text.specs.text.Fault.{Flaw}
use Rattle.rules_text.specs.text.Lexical.{token_at, after_gap, first_shape}
use Rattle.rules_text.specs.text.Text.{Leads}
use Rattle.rules_text.specs.declared.text.TextKind.{TextKind}
use Rattle.rules_text.specs.text.Syntax.{IsFront, IsFrontWithin}
use Rattle.mich_text.specs.Plain.{HoldsWithoutLimits, flawed, in_comment, is_open, unexpected as is_unexpected, too_deep as is_too_deep}
use Rattle.mich_text.specs.Machine.{Stack, run, start}
use Rattle.mich_text.proofs.grammar.Fronts.{run_split, is_front_within, is_front}
use Rattle.mich_text.proofs.grammar.Whole.{NoStatement}
use Rattle.mich_text.proofs.tokens.Ahead.{token_shorter, no_token, leads_le}
use Rattle.mich_text.proofs.tokens.Read.{okay_is}
use Rattle.mich_text.proofs.tokens.Shapes.{token_shape_is}

-- ---- one text has one sequence of tokens

-- from a boundary on
abbrev pub From : List ℕ → List Token → Option (List ℕ) → Type 0
From here [] rest = rest ≡ Some here
From here (t ∷ ts) rest = (behind : List ℕ) × (token_at here ≡ Ok (t, behind)) × Leads behind ts rest

-- further on from here
pub record IsFurther (ts : List Token) (here : List ℕ) (others : List Token) (rest : Option (List ℕ)) : Type 0 where
  pub more : List Token
  pub tokens : others ≡ ts ++ more
  pub from : From here more rest

-- a boundary that was passed
pub record IsPassed (ts others : List Token) (rest : Option (List ℕ)) : Type 0 where
  pub at : List ℕ
  pub token : Token
  pub more : List Token
  pub behind : List ℕ
  pub tokens : ts ≡ others ++ token ∷ more
  pub rest_is : rest ≡ Some at
  pub read : token_at at ≡ Ok (token, behind)

pub same_rest : (a b : List ℕ) → Some a ≡ Some b → a ≡ b
same_rest a b e = cc

pub compare : (text : List ℕ) (ts : List Token) (here : List ℕ) (others : List Token) (rest : Option (List ℕ)) → Leads text ts (Some here)
    → Leads text others rest → IsFurther ts here others rest ⊎ IsPassed ts others rest
compare text [] here [] rest p q = inl (record { more = []; tokens = refl; from = sym q ∙ p })
compare text [] here (t ∷ others) rest p q =
    let same : q.0 ≡ here = same_rest q.0 here (sym q.2 ∙ p) in
    inl (record { more = t ∷ others; tokens = refl; from = (q.1, subst (λ (x : List ℕ). token_at x ≡ Ok (t, q.1)) same q.3, q.4) })
compare text (t ∷ ts) here [] rest p q =
    inr (record { at = p.0; token = t; more = ts; behind = p.1; tokens = refl; rest_is = sym q ∙ p.2; read = p.3 })
compare text (t ∷ ts) here (u ∷ others) rest p q =
    let same : p.0 ≡ q.0 = same_rest p.0 q.0 (sym p.2 ∙ q.2) in
    let read : (t, p.1) ≡ (u, q.1) = okay_is (t, p.1) (u, q.1) (sym p.3 ∙ ap token_at same ∙ q.3) in
    let token : t ≡ u = ap (λ (x : Token × List ℕ). x.0) read in
    let tail : Leads p.1 others rest = subst (λ (x : List ℕ). Leads x others rest) (sym (ap (λ (x : Token × List ℕ). x.1) read)) q.4 in
    elim (compare p.1 ts here others rest p.4 tail) [
      | inl f ↦ inl (record {
        more = f.more;
        tokens = ap (λ (x : Token). x ∷ others) (sym token)
            ∙ ap (λ (l : List Token). t ∷ l) f.tokens;
        from = f.from;
      })
      | inr g ↦ inr (record {
        at = g.at;
        token = g.token;
        more = g.more;
        behind = g.behind;
        tokens = ap (λ (l : List Token). t ∷ l) g.tokens
            ∙ ap (λ (x : Token). x ∷ (others ++ g.token ∷ g.more)) token;
        rest_is = g.rest_is;
        read = g.read;
      })
    ]

pub leads_more : (text : List ℕ) (ts : List Token) (here behind : List ℕ) (t : Token) (rest : Option (List ℕ)) → Leads text ts (Some here)
    → token_at here ≡ Ok (t, behind) → after_gap behind ≡ rest → Leads text (ts ++ t ∷ []) rest
leads_more text [] here behind t rest p read gap = (here, behind, p, read, gap)
leads_more text (u ∷ ts) here behind t rest p read gap = (p.0, p.1, p.2, p.3, leads_more p.1 ts here behind t rest p.4 read gap)

-- ---- how far the parser is

pub record At (text : List ℕ) (ts : List Token) (here : List ℕ) (s : Stack) : Type 0 where
  pub leads : Leads text ts (Some here)
  pub runs : run depth_limit start ts ≡ Ok s
  pub lacks : NoStatement ts

-- the tokens up to one that was taken are a front
passed_front : (s : Stack) (ts others more : List Token) (t : Token) → run depth_limit start ts ≡ Ok s → ts ≡ others ++ t ∷ more
    → IsFrontWithin depth_limit (others ++ t ∷ [])
passed_front s ts others more t e f =
    let split = run_split depth_limit start s (others ++ t ∷ []) more
    (ap (run depth_limit start) (append_assoc others (t ∷ []) more ∙ sym f) ∙ e) in
    is_front_within depth_limit split.0 (others ++ t ∷ []) split.1

-- a condition that holds, seen from here
pub data Further (ts : List Token) (here : List ℕ) (kind : TextKind) (left : ℕ) : Type 0 where
  flaw_there : (more : List Token) (there : List ℕ) → From here more (Some there) → 0 < length there
      → token_at there ≡ Err (record { kind = kind; left = left }) → Further ts here kind left
  comment_there : (more : List Token) → From here more None → kind ≡ Unclosed → left ≡ 0 → Further ts here kind left
  end_there : (more : List Token) → From here more (Some []) → kind ≡ Unclosed → left ≡ 0 → Further ts here kind left
  unexpected_there : (more : List Token) (there : List ℕ) (shape : Shape) → From here more (Some there) → first_shape there ≡ Some shape
      → ((t : Token) → token_shape t ≡ shape → IsFront ((ts ++ more) ++ t ∷ []) → ⊥) → kind ≡ Unexpected → left ≡ length there
      → Further ts here kind left
  deep_there : (more : List Token) (there : List ℕ) (shape : Shape) → From here more (Some there) → first_shape there ≡ Some shape
      → ((t : Token) → token_shape t ≡ shape → IsFrontWithin depth_limit ((ts ++ more) ++ t ∷ []) → ⊥) → kind ≡ TooDeep
      → left ≡ length there → Further ts here kind left

shape_of_passed : (at behind : List ℕ) (t : Token) (shape : Shape) → token_at at ≡ Ok (t, behind) → first_shape at ≡ Some shape
    → token_shape t ≡ shape
shape_of_passed at behind t shape e f = same (token_shape t) shape (sym (token_shape_is at t behind e) ∙ f) where
  same : (a b : Shape) → Some a ≡ Some b → a ≡ b
  same a b g = cc

pub further : (text : List ℕ) (ts : List Token) (here : List ℕ) (s : Stack) (kind : TextKind) (left : ℕ) → At text ts here s
    → HoldsWithoutLimits text kind left → Further ts here kind left
further text ts here s kind left a (flawed p) = elim (compare text ts here p.before (Some p.here) a.leads p.leads) [
  | inl f ↦ flaw_there f.more p.here f.from p.some p.wrong
  | inr g ↦ absurd (clash (same_rest p.here g.at g.rest_is) p.wrong g.read)
] where
  clash : {x y : List ℕ} {r : Token × List ℕ} {d : Flaw} → x ≡ y → token_at x ≡ Err d → token_at y ≡ Ok r → ⊥
  clash e f g = cc (sym f ∙ ap token_at e ∙ g)
further text ts here s kind left a (in_comment p) = elim (compare text ts here p.before None a.leads p.leads) [
  | inl f ↦ comment_there f.more f.from p.kind_is p.left_is
  | inr g ↦ absurd (cc g.rest_is)
]
further text ts here s kind left a (is_open p) = elim (compare text ts here p.before (Some []) a.leads p.leads) [
  | inl f ↦ end_there f.more f.from p.kind_is p.left_is
  | inr g ↦ absurd (no_token g.behind g.token (ap token_at (same_rest [] g.at g.rest_is) ∙ g.read))
]
further text ts here s kind left a (is_unexpected p) = elim (compare text ts here p.before (Some p.here) a.leads p.leads) [
  | inl f ↦ unexpected_there f.more p.here p.shape f.from p.begins
      (λ t e h. p.ends t e (subst (λ (l : List Token). IsFront (l ++ t ∷ [])) (sym f.tokens) h)) p.kind_is p.left_is
  | inr g ↦ absurd (p.ends g.token
      (shape_of_passed p.here g.behind g.token p.shape (ap token_at (same_rest p.here g.at g.rest_is) ∙ g.read) p.begins)
      (is_front depth_limit (p.before ++ g.token ∷ []) (passed_front s ts p.before g.more g.token a.runs g.tokens)))
]
further text ts here s kind left a (is_too_deep p) = elim (compare text ts here p.before (Some p.here) a.leads p.leads) [
  | inl f ↦ deep_there f.more p.here p.shape f.from p.begins
      (λ t e h. p.deep t e (subst (λ (l : List Token). IsFrontWithin depth_limit (l ++ t ∷ [])) (sym f.tokens) h)) p.kind_is p.left_is
  | inr g ↦ absurd (p.deep g.token
      (shape_of_passed p.here g.behind g.token p.shape (ap token_at (same_rest p.here g.at g.rest_is) ∙ g.read) p.begins)
      (passed_front s ts p.before g.more g.token a.runs g.tokens))
]

-- ---- tokens on the way

-- the place of one of the tokens that lead on
pub record Passes (text : List ℕ) (before : List Token) (t : Token) (rest : List ℕ) : Type 0 where
  pub here : List ℕ
  pub behind : List ℕ
  pub leads : Leads text before (Some here)
  pub read : token_at here ≡ Ok (t, behind)
  pub further : length rest < length here

pub passes : (text : List ℕ) (before behind : List Token) (t : Token) (rest : List ℕ) → Leads text (before ++ t ∷ behind) (Some rest)
    → Passes text before t rest
passes text [] behind t rest p =
    record {
      here = p.0;
      behind = p.1;
      leads = p.2;
      read = p.3;
      further = omega (arith, token_shorter p.0 p.1 t p.3, leads_le p.1 behind rest p.4);
    }
passes text (u ∷ before) behind t rest p =
    let q = passes p.1 before behind t rest p.4 in
    record { here = q.here; behind = q.behind; leads = (p.0, p.1, p.2, p.3, q.leads); read = q.read; further = q.further }
