-- The walk over the two branches of an instruction.
use Rattle.std.proofs.Common.{◌≡◌, ℕ, ◌+◌, ◌-◌, Bool, true, false, ◌&&◌, cond, Option, Some, None, List, [], ◌∷◌, ◌++◌, refl, sym, ap, ◌∙◌}
use Rattle.std.specs.Prelude.{option_and_then, slice_get}
use Rattle.std.proofs.lemmas.List.{append-nil}
use Rattle.rules_text.specs.declared.nodes.Primitive.{Primitive}
use Rattle.rules_text.specs.declared.nodes.Primitive.TheVariants as p
use Rattle.rules_text.specs.nodes.Tree.{Tree, none, more, size}
use Rattle.rules_data.specs.types.Kind.{Kind}
use Rattle.rules_data.specs.types.Kind as k
use Rattle.rules_code.specs.instructions.Types as t
use Rattle.rules_code.specs.instructions.Context.{Context}
use Rattle.rules_code.specs.instructions.Same.{same_kinds}
use Rattle.rules_code.specs.typing.Nodes.{body}
use Rattle.rules_code.specs.typing.Typing.{Typing, goes, fails, bad, join}
use Rattle.rules_code.specs.certificates.Derivation.{Entry, block_entries, told_by, tellers}
use Rattle.mich_cert.specs.Table.{branch_begins}
use Rattle.mich_cert.specs.Walk.{past, told, is_stack, Ended, ended, Confirmed, body_of, leading, step_by, joined, branch_walk}
use Rattle.mich_cert.proofs.BodyRows.{if_none_begins, if_left_begins, if_cons_begins}
use Rattle.mich_cert.proofs.Tellers.{second_told}
use Rattle.mich_cert.proofs.Walk.{past_append, from, body_from}

-- ---- what leads nowhere

pub nowhere : (l : ℕ) (o : Option (List Entry)) → option_and_then (leading (bad l)) o ≡ None
nowhere l None = refl
nowhere l (Some es) = refl

no_branches : (x : Option Confirmed) (G : List Entry → Option Confirmed) (J : Confirmed → Confirmed → Bool) →
    option_and_then (λ x. option_and_then (λ y. cond (false && J x y) (Some y.rest) None) (G x.rest)) x ≡ None
no_branches None G J = refl
no_branches (Some x) G J = by (G x.rest)
  where
    by : (y : Option Confirmed) → option_and_then (λ y. cond (false && J x y) (Some y.rest) None) y ≡ None
    by None = refl
    by (Some y) = refl

-- ---- the branches should begin with these stacks

abbrev ends_joined : Ended → Ended → Option (List Entry)
ends_joined u v = cond (joined u.ends v.ends (told v.rest)) (Some v.rest) None

second_from : (S : List Kind) (o : Option (List Kind)) (y : Option Confirmed) →
    option_and_then (λ y. cond ((true && same_kinds S y.begins) && joined o y.ends (told y.rest)) (Some y.rest) None) y
    ≡ option_and_then (λ v. cond (joined o v.ends (told v.rest)) (Some v.rest) None) (from S y)
second_from S o None = refl
second_from S o (Some y) = by (same_kinds S y.begins)
  where
    by : (q : Bool) → cond ((true && q) && joined o y.ends (told y.rest)) (Some y.rest) None
        ≡ option_and_then (λ (v : Ended). cond (joined o v.ends (told v.rest)) (Some v.rest) None) (cond q (Some record { ends = y.ends; rest = y.rest }) None)
    by true = refl
    by false = refl

no_second : (S : List Kind) (o : Option (List Kind)) (y : Option Confirmed) →
    option_and_then (λ y. cond ((false && same_kinds S y.begins) && joined o y.ends (told y.rest)) (Some y.rest) None) y ≡ None
no_second S o None = refl
no_second S o (Some y) = refl

both_from : (S R : List Kind) (x : Option Confirmed) (G : List Entry → Option Confirmed) →
    option_and_then (λ x. option_and_then (λ y. cond ((same_kinds S x.begins && same_kinds R y.begins) && joined x.ends y.ends (told y.rest)) (Some y.rest) None) (G x.rest)) x
    ≡ option_and_then (λ u. option_and_then (λ v. ends_joined u v) (from R (G u.rest))) (from S x)
both_from S R None G = refl
both_from S R (Some x) G = by (same_kinds S x.begins)
  where
    by : (q : Bool) →
        option_and_then (λ y. cond ((q && same_kinds R y.begins) && joined x.ends y.ends (told y.rest)) (Some y.rest) None) (G x.rest)
        ≡ option_and_then (λ (u : Ended). option_and_then (λ v. ends_joined u v) (from R (G u.rest))) (cond q (Some record { ends = x.ends; rest = x.rest }) None)
    by true = second_from R x.ends (G x.rest)
    by false = no_second R x.ends (G x.rest)

-- ---- the ends of both

joined_two : (B C : List Kind) (es : List Entry) (q : Bool) →
    cond (q && is_stack B (told es)) (Some es) None ≡ leading (cond q (goes B) (bad 0)) es
joined_two B C es true = refl
joined_two B C es false = refl

joined_goes : (B : List Kind) (U : Typing) (o : Option (List Entry)) →
    option_and_then (λ v. cond (joined (Some B) v.ends (told v.rest)) (Some v.rest) None) (ended U o) ≡ option_and_then (leading (join (goes B) U)) o
joined_goes B (goes C) None = refl
joined_goes B (goes C) (Some es) = joined_two B C es (same_kinds B C)
joined_goes B fails None = refl
joined_goes B fails (Some es) = refl
joined_goes B (bad l) o = sym (nowhere l o)

joined_fails : (U : Typing) (o : Option (List Entry)) →
    option_and_then (λ v. cond (joined None v.ends (told v.rest)) (Some v.rest) None) (ended U o) ≡ option_and_then (leading U) o
joined_fails (goes C) None = refl
joined_fails (goes C) (Some es) = refl
joined_fails fails None = refl
joined_fails fails (Some es) = refl
joined_fails (bad l) o = sym (nowhere l o)

both_ended : (T U : Typing) (Y : List Entry) (o : Option (List Entry)) →
    option_and_then (λ u. option_and_then (λ v. ends_joined u v) (ended U (past Y u.rest))) (ended T o)
    ≡ option_and_then (leading (join T U)) (option_and_then (past Y) o)
both_ended (goes B) U Y None = refl
both_ended (goes B) U Y (Some es) = joined_goes B U (past Y es)
both_ended fails U Y None = refl
both_ended fails U Y (Some es) = joined_fails U (past Y es)
both_ended (bad l) U Y o = sym (nowhere l (option_and_then (past Y) o))

-- two bodies that should begin with these stacks
two_walked : (b d : Tree) (at : ℕ) (c : Context) (S R : List Kind) (es : List Entry) →
    option_and_then (λ x. option_and_then (λ y. cond ((same_kinds S x.begins && same_kinds R y.begins) && joined x.ends y.ends (told y.rest)) (Some y.rest) None) (body_of d (at + size b) c x.rest)) (body_of b at c es)
    ≡ option_and_then (leading (join (body b 1 c S) (body d (1 + size b) c R))) (past (block_entries b at c S ++ (block_entries d (at + size b) c R ++ [])) es)
two_walked b d at c S R es =
    let X : List Entry = block_entries b at c S in
    let Y : List Entry = block_entries d (at + size b) c R in
    both_from S R (body_of b at c es) (λ fs. body_of d (at + size b) c fs)
    ∙ ap (λ o. option_and_then (λ u. option_and_then (λ v. ends_joined u v) (from R (body_of d (at + size b) c u.rest))) o) (body_from b at 1 c S es)
    ∙ ap (λ (G : List Entry → Option Ended). option_and_then (λ (u : Ended). option_and_then (λ v. ends_joined u v) (G u.rest)) (ended (body b 1 c S) (past X es)))
    (λ i fs. body_from d (at + size b) (1 + size b) c R fs i)
    ∙ both_ended (body b 1 c S) (body d (1 + size b) c R) Y (past X es)
    ∙ sym (
    ap (λ Z. option_and_then (leading (join (body b 1 c S) (body d (1 + size b) c R))) (past (X ++ Z) es)) (append-nil Y)
    ∙ ap (λ o. option_and_then (leading (join (body b 1 c S) (body d (1 + size b) c R))) o) (past_append X Y es)
    )

-- ---- branches

abbrev walked : (List Kind → List Kind → Bool) → Tree → Tree → ℕ → Context → List Entry → Option (List Entry)
walked T b d at c es =
    option_and_then (λ x. option_and_then (λ y. cond (T x.begins y.begins && joined x.ends y.ends (told y.rest)) (Some y.rest) None) (body_of d (at + size b) c x.rest)) (body_of b at c es)

stacks_walked : (op : Primitive) (A S R : List Kind) (b d : Tree) (at : ℕ) (c : Context) (es : List Entry) →
    ((B C : List Kind) → branch_begins op A B C ≡ (same_kinds S B && same_kinds R C)) →
    branch_walk op b d (at + 1) c A es
    ≡ option_and_then (leading (join (body b 1 c S) (body d (1 + size b) c R)))
    (past (block_entries b (at + 1) c S ++ (told_by (slice_get (tellers (more b (more d none)) (at + 1)) (1 + size b - 1)) c R ++ [])) es)
stacks_walked op A S R b d at c es h =
    ap (λ (T : List Kind → List Kind → Bool). walked T b d (at + 1) c es) (λ i B C. h B C i)
    ∙ two_walked b d (at + 1) c S R es
    ∙ ap (λ Y. option_and_then (leading (join (body b 1 c S) (body d (1 + size b) c R))) (past (block_entries b (at + 1) c S ++ (Y ++ [])) es))
    (sym (second_told b d none (at + 1) c R))

none_walked : (op : Primitive) (A : List Kind) (b d : Tree) (at : ℕ) (c : Context) (es : List Entry) →
    ((B C : List Kind) → branch_begins op A B C ≡ false) → branch_walk op b d (at + 1) c A es ≡ None
none_walked op A b d at c es h =
    ap (λ (T : List Kind → List Kind → Bool). walked T b d (at + 1) c es) (λ i B C. h B C i)
    ∙ no_branches (body_of b (at + 1) c es) (λ fs. body_of d (at + 1 + size b) c fs) (λ x y. joined x.ends y.ends (told y.rest))

module _ (annots : List (List ℕ)) (b d : Tree) (at : ℕ) (c : Context) where
  pub if_walked : (A : List Kind) (es : List Entry) → branch_walk p.OpIf b d (at + 1) c A es ≡ step_by (Some p.OpIf) annots (more b (more d none)) at c A es
  if_walked (t.bool ∷ A) es = stacks_walked p.OpIf (t.bool ∷ A) A A b d at c es (λ B C. refl)
  if_walked A es = none_walked p.OpIf A b d at c es (λ B C. refl)

  pub if_none_walked : (A : List Kind) (es : List Entry) →
      branch_walk p.OpIfNone b d (at + 1) c A es ≡ step_by (Some p.OpIfNone) annots (more b (more d none)) at c A es
  if_none_walked (k.option a ∷ A) es = stacks_walked p.OpIfNone (k.option a ∷ A) A (a ∷ A) b d at c es (if_none_begins (k.option a ∷ A))
  if_none_walked A es = none_walked p.OpIfNone A b d at c es (λ B C. refl)

  pub if_left_walked : (A : List Kind) (es : List Entry) →
      branch_walk p.OpIfLeft b d (at + 1) c A es ≡ step_by (Some p.OpIfLeft) annots (more b (more d none)) at c A es
  if_left_walked (k.or l r ∷ A) es = stacks_walked p.OpIfLeft (k.or l r ∷ A) (l ∷ A) (r ∷ A) b d at c es (if_left_begins (k.or l r ∷ A))
  if_left_walked A es = none_walked p.OpIfLeft A b d at c es (λ B C. refl)

  pub if_cons_walked : (A : List Kind) (es : List Entry) →
      branch_walk p.OpIfCons b d (at + 1) c A es ≡ step_by (Some p.OpIfCons) annots (more b (more d none)) at c A es
  if_cons_walked (k.list a ∷ A) es = stacks_walked p.OpIfCons (k.list a ∷ A) (a ∷ k.list a ∷ A) A b d at c es (if_cons_begins (k.list a ∷ A))
  if_cons_walked A es = none_walked p.OpIfCons A b d at c es (λ B C. refl)
