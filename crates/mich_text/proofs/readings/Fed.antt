-- A statement that was read with its `;` is read again with more bytes behind it.
use Rattle.std.proofs.Common.{◌≡◌, ℕ, ◌+◌, ◌-◌, ◌<◌, ◌⊎◌, inl, inr, Bool, true, false, cond, eqb, List, [], ◌∷◌, ◌++◌, length, Option, Some, None, Ok, refl, sym, ap, subst, ◌∙◌, arith}
use Rattle.std.proofs.lemmas.List.{length-append}
use Rattle.rules_text.specs.nodes.Limits.{depth_limit}
use Rattle.rules_text.specs.nodes.Tree.{Tree}
use Rattle.rules_text.specs.text.Token.{Token}
use Rattle.mich_text.specs.Machine.{Stack, finish, has_statement, ended_tree, step}
use Rattle.rules_text.specs.text.Lexical.{is_white, opens, closes, after_gap, after_slash, after_line, after_block, token_at, shape_of, first_shape}
use Rattle.rules_text.specs.declared.text.Shape.{Shape}
use Rattle.rules_text.specs.text.Text.{Leads}
use Rattle.mich_text.specs.Plain.{IsNodeWithoutLimits}
use Rattle.mich_text.proofs.tokens.Ahead.{no_token}
use Rattle.mich_text.proofs.readings.Reading.{At}
use Rattle.mich_text.proofs.tokens.Stable.{token_stable}
use Rattle.mich_text.proofs.readings.Verdict.{node_at_sign}

-- what follows a gap stays, unless it is a lone `/`
abbrev GapSame : List ℕ → Option (List ℕ) → Option (List ℕ) → Type 0
GapSame more None again = Unit {0}
GapSame more (Some []) again = Unit {0}
GapSame more (Some (c ∷ [])) again = (c ≡ 47 → ⊥) → again ≡ Some (c ∷ more)
GapSame more (Some (c ∷ d ∷ rest)) again = again ≡ Some (c ∷ d ∷ (rest ++ more))

last_same : (c : ℕ) (rest more : List ℕ) → GapSame more (Some (c ∷ rest)) (Some (c ∷ (rest ++ more)))
last_same c [] more = λ _. refl
last_same c (d ∷ rest) more = refl

either_same : (b : Bool) (more : List ℕ) (x y v w : Option (List ℕ)) → GapSame more x v → GapSame more y w
    → GapSame more (cond b x y) (cond b v w)
either_same true more x y v w p q = p
either_same false more x y v w p q = q

mutual
  gap_same : (text more : List ℕ) → GapSame more (after_gap text) (after_gap (text ++ more))
  gap_same [] more = tt
  gap_same (c ∷ rest) more =
      either_same (is_white c) more _ _ _ _ (gap_same rest more)
      (either_same (eqb c 35) more _ _ _ _ (line_same rest more)
      (either_same (eqb c 47) more _ (Some (c ∷ rest)) _ (Some (c ∷ (rest ++ more))) (slash_same rest more) (last_same c rest more)))

  slash_same : (rest more : List ℕ) → GapSame more (after_slash rest) (after_slash (rest ++ more))
  slash_same [] more = λ h. absurd (h refl)
  slash_same (c ∷ rest) more =
      either_same (eqb c 42) more _ (Some (47 ∷ c ∷ rest)) _ (Some (47 ∷ c ∷ (rest ++ more))) (block_same 1 rest more) refl

  line_same : (rest more : List ℕ) → GapSame more (after_line rest) (after_line (rest ++ more))
  line_same [] more = tt
  line_same (c ∷ rest) more = either_same (eqb c 10) more _ _ _ _ (gap_same rest more) (line_same rest more)

  block_same : (levels : ℕ) (rest more : List ℕ) → GapSame more (after_block levels rest) (after_block levels (rest ++ more))
  block_same levels [] more = tt
  block_same levels (c ∷ []) more = tt
  block_same levels (c ∷ d ∷ rest) more =
      either_same (opens c d) more _ _ _ _ (block_same (levels + 1) rest more)
      (either_same (closes c d) more _ _ _ _
      (either_same (eqb levels 1) more _ _ _ _ (gap_same rest more) (block_same (levels - 1) rest more))
      (block_same levels (d ∷ rest) more))

-- what follows a gap stays, where a `/` has a byte behind it
gap_kept : (text more rest : List ℕ) (c : ℕ) → after_gap text ≡ Some (c ∷ rest) → (c ≡ 47 → 0 < length rest)
    → after_gap (text ++ more) ≡ Some (c ∷ (rest ++ more))
gap_kept text more [] c e h =
    (subst (λ (x : Option (List ℕ)). GapSame more x (after_gap (text ++ more))) e (gap_same text more)) (λ s. omega (arith, h s))
gap_kept text more (d ∷ rest) c e h = subst (λ (x : Option (List ℕ)). GapSame more x (after_gap (text ++ more))) e (gap_same text more)

gap_stable : (text more rest : List ℕ) (c : ℕ) → after_gap text ≡ Some (c ∷ rest) → (c ≡ 47 → ⊥)
    → after_gap (text ++ more) ≡ Some (c ∷ (rest ++ more))
gap_stable text more rest c e h = gap_kept text more rest c e (λ s. absurd (h s))

-- no token begins with `/`
no_slash : (c : ℕ) (rest behind : List ℕ) (t : Token) → token_at (c ∷ rest) ≡ Ok (t, behind) → c ≡ 47 → ⊥
unfolding token_at
no_slash c rest behind t e h =
    let same : token_at (47 ∷ rest) ≡ Ok (t, behind) = subst (λ (x : ℕ). token_at (x ∷ rest) ≡ Ok (t, behind)) h e in
    cc same

-- nothing leads on from the end
from_nothing : (ts : List Token) (c : ℕ) (rest : List ℕ) → Leads [] ts (Some (c ∷ rest)) → ⊥
from_nothing [] c rest p = cc p
from_nothing (t ∷ ts) c rest p = no_token p.1 t (ap token_at (none p.0 p.2) ∙ p.3) where
  none : (x : List ℕ) → Some [] ≡ Some x → [] ≡ x
  none x e = cc

leads_kept : (text more : List ℕ) (ts : List Token) (c : ℕ) (rest : List ℕ) → (c ≡ 47 → 0 < length rest) → Leads text ts (Some (c ∷ rest))
    → Leads (text ++ more) ts (Some (c ∷ (rest ++ more)))
leads_kept text more [] c rest h p = gap_kept text more rest c p h
leads_kept text more (t ∷ ts) c rest h ([], behind, gap, read, tail) = absurd (no_token behind t read)
leads_kept text more (t ∷ ts) c rest h (d ∷ here, [], gap, read, tail) = absurd (from_nothing ts c rest tail)
leads_kept text more (t ∷ ts) c rest h (d ∷ here, e ∷ behind, gap, read, tail) = (
  d ∷ (here ++ more),
  e ∷ (behind ++ more),
  gap_stable text more here d gap (no_slash d here (e ∷ behind) t read),
  token_stable (d ∷ here) more behind t e read,
  leads_kept (e ∷ behind) more ts c rest h tail,
)

pub leads_stable : (text more : List ℕ) (ts : List Token) (c : ℕ) (rest : List ℕ) → (c ≡ 47 → ⊥) → Leads text ts (Some (c ∷ rest))
    → Leads (text ++ more) ts (Some (c ∷ (rest ++ more)))
leads_stable text more ts c rest h p = leads_kept text more ts c rest (λ s. absurd (h s)) p

shape_no_slash : (c : ℕ) (rest : List ℕ) (shape : Shape) → first_shape (c ∷ rest) ≡ Some shape → c ≡ 47 → ⊥
shape_no_slash c rest shape e s =
    let same : shape_of 47 ≡ Some shape = ap shape_of (sym s) ∙ e in
    cc same

-- tokens that lead to two bytes or more, or to a byte that begins a token, lead there with more bytes behind
pub leads_on : (text more : List ℕ) (ts : List Token) (here : List ℕ) → Leads text ts (Some here)
    → (1 < length here) ⊎ ((shape : Shape) × (first_shape here ≡ Some shape)) → Leads (text ++ more) ts (Some (here ++ more))
leads_on text more ts [] p (inl h) = absurd (omega (arith, h))
leads_on text more ts [] p (inr h) = absurd (cc h.1)
leads_on text more ts (c ∷ rest) p (inl h) = leads_kept text more ts c rest (λ s. omega (arith, h)) p
leads_on text more ts (c ∷ rest) p (inr h) = leads_kept text more ts c rest (λ s. absurd (shape_no_slash c rest h.0 h.1 s)) p

pub at_stable : (text more : List ℕ) (ts : List Token) (c : ℕ) (rest : List ℕ) (s : Stack) → (c ≡ 47 → ⊥) → At text ts (c ∷ rest) s
    → At (text ++ more) ts (c ∷ (rest ++ more)) s
at_stable text more ts c rest s h a = record { leads = leads_stable text more ts c rest h a.leads; runs = a.runs; lacks = a.lacks }

-- a `;` is one byte
sign_read : (c : ℕ) (rest : List ℕ) → c ≡ 59 → token_at (c ∷ rest) ≡ Ok (Token.semicolon, rest)
unfolding token_at
sign_read c rest h = rw h refl

-- a statement with its `;`, whatever follows
pub node_stable : (text : List ℕ) (ts : List Token) (c d : ℕ) (rest first : List ℕ) (s r : Stack) (tree : Tree) → At text ts (c ∷ rest) s
    → c ≡ 59 → after_gap text ≡ Some (d ∷ first) → (d ≡ 47 → ⊥) → step depth_limit s Token.semicolon ≡ Ok r
    → has_statement (finish s) ≡ true
    → (more : List ℕ) → IsNodeWithoutLimits (text ++ more) (ended_tree (finish s) tree) (length (d ∷ first) + length more)
    (length rest + length more)
node_stable text ts c d rest first s r tree a sign begins other taken h more =
    let n = length-append (d ∷ first) more in
    let m = length-append rest more in
    let semicolon = sign_read c (rest ++ more) sign in
    let node = node_at_sign (text ++ more) ts (c ∷ (rest ++ more)) s r (d ∷ (first ++ more)) (rest ++ more) tree
    (at_stable text more ts c rest s (λ e. omega arith) a) (omega arith)
    (gap_stable text more first d begins other) semicolon taken h in
    subst (λ (x : ℕ). IsNodeWithoutLimits (text ++ more) (ended_tree (finish s) tree) x (length rest + length more)) n
    (subst (λ (x : ℕ). IsNodeWithoutLimits (text ++ more) (ended_tree (finish s) tree) (length (d ∷ (first ++ more))) x) m node)
