-- The walk over the body of a loop.
use Rattle.std.proofs.Common.{◌≡◌, ℕ, ◌+◌, Bool, true, false, ◌&&◌, cond, Option, Some, None, List, [], ◌∷◌, ◌++◌, refl, sym, ap, ◌∙◌}
use Rattle.std.specs.Prelude.{option_and_then}
use Rattle.std.proofs.lemmas.List.{append-nil}
use Rattle.rules_text.specs.declared.nodes.Primitive.{Primitive}
use Rattle.rules_text.specs.declared.nodes.Primitive.TheVariants as p
use Rattle.rules_text.specs.nodes.Tree.{Tree, none, more}
use Rattle.rules_data.specs.types.Kind.{Kind}
use Rattle.rules_data.specs.types.Kind as k
use Rattle.rules_code.specs.instructions.Types as t
use Rattle.rules_code.specs.instructions.Context.{Context}
use Rattle.rules_code.specs.instructions.Same.{same_kinds}
use Rattle.rules_code.specs.typing.Nodes.{body}
use Rattle.rules_code.specs.typing.Typing.{Typing, goes, fails, bad}
use Rattle.rules_code.specs.typing.Typing as typing
use Rattle.rules_code.specs.certificates.Derivation.{Entry, block_entries}
use Rattle.mich_cert.specs.Table.{begins, ends, leaves}
use Rattle.mich_cert.specs.Walk.{past, told, is_stack, Ended, ended, Confirmed, body_of, leading, step_by, loop_ends, loop_walk}
use Rattle.mich_cert.specs.declared.words.Word.TheVariants as w
use Rattle.mich_cert.proofs.Branches.{nowhere}
use Rattle.mich_cert.proofs.Tests.{or_rest}
use Rattle.mich_cert.proofs.SameTypes.{same_kinds_symm}
use Rattle.mich_cert.proofs.Spelling.{nil, put, spelled, names_a, names_b, names_pair}
use Rattle.mich_cert.proofs.Walk.{from, body_from}

-- the body ends with this stack, if it doesn't fail
abbrev pub ends_with : List Kind → Option (List Kind) → Bool
ends_with E None = true
ends_with E (Some F) = same_kinds E F

abbrev looped : List Kind → List Kind → Ended → Option (List Entry)
looped E L u = option_and_then (λ M. cond (ends_with E u.ends && same_kinds L M) (Some u.rest) None) (told u.rest)

-- a body that doesn't begin as it should
not_begun : (x : Confirmed) (Q : Option (List Kind) → Bool) (R : List Kind → Bool) (o : Option (List Kind)) →
    option_and_then (λ M. cond (false && Q x.ends && R M) (Some x.rest) None) o ≡ None
not_begun x Q R None = refl
not_begun x Q R (Some M) = refl

one_from : (S E L : List Kind) (x : Option Confirmed) →
    option_and_then (λ x. option_and_then (λ M. cond (same_kinds S x.begins && ends_with E x.ends && same_kinds L M) (Some x.rest) None) (told x.rest)) x
    ≡ option_and_then (looped E L) (from S x)
one_from S E L None = refl
one_from S E L (Some x) = by (same_kinds S x.begins)
  where
    by : (q : Bool) →
        option_and_then (λ M. cond (q && ends_with E x.ends && same_kinds L M) (Some x.rest) None) (told x.rest)
        ≡ option_and_then (looped E L) (cond q (Some record { ends = x.ends; rest = x.rest }) None)
    by true = refl
    by false = not_begun x (ends_with E) (same_kinds L) (told x.rest)

pub turned : (L : List Kind) (es : List Entry) (o : Option (List Kind)) (q : Bool) → told es ≡ o →
    option_and_then (λ M. cond (q && same_kinds L M) (Some es) None) o ≡ leading (cond q (goes L) (bad 0)) es
turned L es None true e = sym (ap (λ o. cond (is_stack L o) (Some es) None) e)
turned L es None false e = refl
turned L es (Some M) true e = sym (ap (λ o. cond (is_stack L o) (Some es) None) e)
turned L es (Some M) false e = refl

one_ended : (E L : List Kind) (T : Typing) (o : Option (List Entry)) →
    option_and_then (looped E L) (ended T o) ≡ option_and_then (leading (typing.ends T E (goes L))) o
one_ended E L (goes B) None = refl
one_ended E L (goes B) (Some es) =
    ap (λ q. option_and_then (λ M. cond (q && same_kinds L M) (Some es) None) (told es)) (same_kinds_symm E B) ∙ turned L es (told es) (same_kinds B E) refl
one_ended E L fails None = refl
one_ended E L fails (Some es) = turned L es (told es) true refl
one_ended E L (bad l) o = sym (nowhere l o)

abbrev pub turning : (List Kind → Bool) → (Option (List Kind) → Bool) → (List Kind → Bool) → Tree → ℕ → Context → List Entry → Option (List Entry)
turning P Q R b at c es = option_and_then (λ x. option_and_then (λ M. cond (P x.begins && Q x.ends && R M) (Some x.rest) None) (told x.rest)) (body_of b at c es)

-- a body that should begin and end with these stacks, behind which another stands
pub body_turned : (S E L : List Kind) (b : Tree) (at j : ℕ) (c : Context) (es : List Entry) →
    turning (same_kinds S) (ends_with E) (same_kinds L) b at c es
    ≡ option_and_then (leading (typing.ends (body b j c S) E (goes L))) (past (block_entries b at c S) es)
body_turned S E L b at j c es =
    one_from S E L (body_of b at c es)
    ∙ ap (option_and_then (looped E L)) (body_from b at j c S es)
    ∙ one_ended E L (body b j c S) (past (block_entries b at c S) es)

ends_are : (op : Primitive) (A E : List Kind) → ((F : List Kind) → ends op A F ≡ same_kinds E F) → (o : Option (List Kind)) → loop_ends op A o ≡ ends_with E o
ends_are op A E h None = refl
ends_are op A E h (Some F) = h F

stacks_turned : (op : Primitive) (A S E L : List Kind) (b : Tree) (at : ℕ) (c : Context) (es : List Entry) →
    ((B : List Kind) → begins op A B ≡ same_kinds S B) → ((B : List Kind) → ends op A B ≡ same_kinds E B) → ((B : List Kind) → leaves op A B ≡ same_kinds L B) →
    loop_walk op b (at + 1) c A es
    ≡ option_and_then (leading (typing.ends (body b 1 c S) E (goes L))) (past (block_entries b (at + 1) c S ++ []) es)
stacks_turned op A S E L b at c es h g f =
    ap (λ (P : List Kind → Bool). turning P (loop_ends op A) (leaves op A) b (at + 1) c es) (λ i B. h B i)
    ∙ ap (λ (Q : Option (List Kind) → Bool). turning (same_kinds S) Q (leaves op A) b (at + 1) c es) (λ i o. ends_are op A E g o i)
    ∙ ap (λ (R : List Kind → Bool). turning (same_kinds S) (ends_with E) R b (at + 1) c es) (λ i B. f B i)
    ∙ body_turned S E L b (at + 1) 1 c es
    ∙ ap (λ (X : List Entry). option_and_then (leading (typing.ends (body b 1 c S) E (goes L))) (past X es)) (sym (append-nil (block_entries b (at + 1) c S)))

none_turned : (op : Primitive) (A : List Kind) (b : Tree) (at : ℕ) (c : Context) (es : List Entry) →
    ((B : List Kind) → begins op A B ≡ false) → loop_walk op b (at + 1) c A es ≡ None
none_turned op A b at c es h =
    ap (λ (P : List Kind → Bool). turning P (loop_ends op A) (leaves op A) b (at + 1) c es) (λ i B. h B i) ∙ by (body_of b (at + 1) c es)
  where
    by : (x : Option Confirmed) →
        option_and_then (λ x. option_and_then (λ M. cond (false && loop_ends op A x.ends && leaves op A M) (Some x.rest) None) (told x.rest)) x ≡ None
    by None = refl
    by (Some x) = not_begun x (loop_ends op A) (leaves op A) (told x.rest)

module _ (annots : List (List ℕ)) (b : Tree) (at : ℕ) (c : Context) where
  pub loop_walked : (A : List Kind) (es : List Entry) → loop_walk p.OpLoop b (at + 1) c A es ≡ step_by (Some p.OpLoop) annots (more b none) at c A es
  loop_walked (t.bool ∷ A) es = stacks_turned p.OpLoop (t.bool ∷ A) A (t.bool ∷ A) A b at c es (λ B. refl) (λ B. refl) (λ B. refl)
  loop_walked A es = none_turned p.OpLoop A b at c es (λ B. refl)

  pub loop_left_walked : (A : List Kind) (es : List Entry) → loop_walk p.OpLoopLeft b (at + 1) c A es ≡ step_by (Some p.OpLoopLeft) annots (more b none) at c A es
  loop_left_walked (k.or l r ∷ A) es =
      stacks_turned p.OpLoopLeft (k.or l r ∷ A) (l ∷ A) (k.or l r ∷ A) (r ∷ A) b at c es
      (spelled (w.A ∷ []) (record { a = Some l; b = Some r; c = None }) A (l ∷ A) (put names_a nil)) (λ B. refl)
      (spelled (w.B ∷ []) (record { a = Some l; b = Some r; c = None }) A (r ∷ A) (put names_b nil))
  loop_left_walked A es = none_turned p.OpLoopLeft A b at c es (λ B. refl)

  pub iter_walked : (A : List Kind) (es : List Entry) → loop_walk p.OpIter b (at + 1) c A es ≡ step_by (Some p.OpIter) annots (more b none) at c A es
  iter_walked (k.list a ∷ A) es =
      stacks_turned p.OpIter (k.list a ∷ A) (a ∷ A) A A b at c es
      (λ B. or_rest _ _ refl ∙ or_rest _ _ refl ∙ spelled (w.A ∷ []) (record { a = Some a; b = None; c = None }) A (a ∷ A) (put names_a nil) B) (λ B. refl) (λ B. refl)
  iter_walked (k.set a ∷ A) es =
      stacks_turned p.OpIter (k.set a ∷ A) (a ∷ A) A A b at c es
      (λ B. or_rest _ _ refl ∙ spelled (w.A ∷ []) (record { a = Some a; b = None; c = None }) A (a ∷ A) (put names_a nil) B) (λ B. refl) (λ B. refl)
  iter_walked (k.map a v ∷ A) es =
      stacks_turned p.OpIter (k.map a v ∷ A) (k.pair a v ∷ A) A A b at c es
      (spelled (w.Pair ∷ w.A ∷ w.B ∷ []) (record { a = Some a; b = Some v; c = None }) A (k.pair a v ∷ A) (put (names_pair names_a names_b) nil)) (λ B. refl) (λ B. refl)
  iter_walked A es = none_turned p.OpIter A b at c es (λ B. refl)
