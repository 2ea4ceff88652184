-- One token, from what each part of the code says of it.
use Rattle.std.proofs.Common.{◌≡◌, ℕ, ◌<◌, Bool, true, false, cond, eqb, List, [], ◌∷◌, length, get_or, Option, Some, None, Result, Ok, Err, refl, sym, ap, subst, ◌∙◌, arith}
use Rattle.std.proofs.lemmas.Bool.{eqb-true, eqb-false}
use Rattle.rules_text.specs.nodes.Limits.{depth_limit}
use Rattle.rules_text.specs.text.Token.{Token, token_shape}
use Rattle.mich_text.specs.Machine.{Stack, Refusal, finish, has_statement, ready_for, refused, put, step}
use Rattle.rules_text.specs.text.Lexical.{token_at, first_shape, shape_of}
use Rattle.mich_text.specs.Results.{kind_of, first_flaw, Refuses, at_first_byte, no_place, later, IsPlaced, IsStep}
use Rattle.rules_text.specs.declared.text.Shape.{Shape}
use Rattle.rules_text.specs.text.Fault.{Flaw}
use Rattle.mich_text.specs.declared.fault.LexError.{LexError}
use Rattle.mich_text.specs.declared.fault.LexError.TheVariants as errors
use Rattle.rules_text.specs.declared.text.TextKind.TheVariants.{BadChar}
use Rattle.mich_text.specs.declared.plain.Step.{Step as CodeStep}
use Rattle.mich_text.specs.declared.plain.Step.TheVariants.{Taken, Statement}
use Rattle.mich_text.proofs.tokens.Shapes.{token_shape_is}
use Rattle.mich_text.proofs.grammar.Fronts.{step_ok}
use Rattle.mich_text.proofs.tokens.Read.{clash, err_is}

pub bad_char : (here : List ℕ) (s : Stack) → 0 < length here → shape_of (get_or here 0 0) ≡ None
    → Refuses here s (record { kind = BadChar; left = length here })
unfolding token_at
bad_char [] s h e = absurd (omega arith)
bad_char (c ∷ rest) s h e = at_first_byte (rw e refl) refl

pub shape_read : (here : List ℕ) (shape : Shape) → 0 < length here → shape_of (get_or here 0 0) ≡ Some shape → first_shape here ≡ Some shape
shape_read [] shape h e = absurd (omega arith)
shape_read (c ∷ rest) shape h e = e

pub own_flaw : (here : List ℕ) (s : Stack) (own : Flaw) (shape : Shape) (refusal : Option Refusal) → token_at here ≡ Err own
    → first_shape here ≡ Some shape → refusal ≡ refused depth_limit (ready_for shape s) shape
    → Refuses here s (first_flaw own refusal (length here))
own_flaw here s own shape None e f g = later shape e f (sym g)
own_flaw here s own shape (Some r) e f g = by (eqb own.left (length here)) refl where
  by : (b : Bool) → eqb own.left (length here) ≡ b → Refuses here s (cond b own (record { kind = kind_of r; left = length here }))
  by true h = at_first_byte e (eqb-true own.left (length here) h)
  by false h =
      no_place shape r f (sym g) refl
      (λ other k m. eqb-false own.left (length here) h (ap (λ (d : Flaw). d.left) (err_is own other (sym e ∙ k)) ∙ m))

pub refused_place : (here behind : List ℕ) (s : Stack) (t : Token) (shape : Shape) (r : Refusal) → token_at here ≡ Ok (t, behind)
    → first_shape here ≡ Some shape → refused depth_limit (ready_for shape s) shape ≡ Some r
    → Refuses here s (record { kind = kind_of r; left = length here })
refused_place here behind s t shape r e f g = no_place shape r f g refl (λ own k m. clash here k e)

same_shape : (a b : Shape) → Some a ≡ Some b → a ≡ b
same_shape a b e = cc

pub placed : (here behind : List ℕ) (s r : Stack) (t : Token) (shape : Shape) (result : Result CodeStep LexError)
    → token_at here ≡ Ok (t, behind) → first_shape here ≡ Some shape → refused depth_limit (ready_for shape s) shape ≡ None
    → IsPlaced t behind (ready_for shape s) r result → IsStep here s r result
placed here behind s r t shape result e f g p = by result (subst (λ (x : Shape). IsPlaced t behind (ready_for x s) r result) same p) where
  same : shape ≡ token_shape t
  same = same_shape shape (token_shape t) (sym f ∙ token_shape_is here t behind e)

  fits : refused depth_limit (ready_for (token_shape t) s) (token_shape t) ≡ None
  fits = subst (λ (x : Shape). refused depth_limit (ready_for x s) x ≡ None) same g

  ends : t ≡ Token.semicolon → has_statement (ready_for (token_shape t) s) ≡ has_statement (finish s)
  ends h = ap (λ (u : Token). has_statement (ready_for (token_shape u) s)) h

  by : (x : Result CodeStep LexError) → IsPlaced t behind (ready_for (token_shape t) s) r x → IsStep here s r x
  by (Ok (Taken rest)) q = (
    t,
    e ∙ ap (λ (l : List ℕ). Ok (t, l)) (sym q.0),
    step_ok depth_limit s t fits ∙ ap (λ (x : Stack). Ok x) (sym q.1),
    λ h. sym (ends h)
        ∙ q.2 h,
  )
  by (Ok (Statement rest)) q = (
    put t (ready_for (token_shape t) s),
    e ∙ rw (q.1, q.0) refl,
    subst (λ (u : Token). step depth_limit s u ≡ Ok (put t (ready_for (token_shape t) s))) q.1 (step_ok depth_limit s t fits),
    sym (ends q.1) ∙ q.2,
    q.3 ∙ ap (λ (u : Token). ready_for (token_shape u) s) q.1,
  )
  by (Err errors.Memory) q = tt
  by (Err (errors.Flaw d)) q = absurd q
