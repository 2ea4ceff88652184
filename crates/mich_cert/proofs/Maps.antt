-- The walk over the body of MAP.
use Rattle.std.proofs.Common.{◌≡◌, ℕ, ◌+◌, Bool, true, false, ◌&&◌, cond, Option, Some, None, List, [], ◌∷◌, ◌++◌, refl, sym, ap, ◌∙◌, subst}
use Rattle.std.specs.Prelude.{option_and_then}
use Rattle.std.proofs.lemmas.List.{append-nil}
use Rattle.rules_text.specs.declared.nodes.Primitive.TheVariants as p
use Rattle.rules_text.specs.nodes.Tree.{Tree, none, more}
use Rattle.rules_data.specs.types.Kind.{Kind}
use Rattle.rules_data.specs.types.Kind as k
use Rattle.rules_code.specs.instructions.Context.{Context}
use Rattle.rules_code.specs.instructions.Same.{same_kind, same_kinds}
use Rattle.rules_code.specs.typing.Nodes.{body}
use Rattle.rules_code.specs.typing.Typing.{Typing, goes, fails, bad, mapped, made_of}
use Rattle.rules_code.specs.certificates.Derivation.{Entry, block_entries}
use Rattle.laws_data.proofs.types_lemmas.ForCallers.{same_kinds_refl, same_kinds_true}
use Rattle.mich_cert.specs.Table as table
use Rattle.mich_cert.specs.Walk.{past, told, Ended, ended, Confirmed, body_of, leading, step_by, AreSmall, map_walk}
use Rattle.mich_cert.specs.Words.{nothing, line}
use Rattle.mich_cert.specs.declared.words.Word.TheVariants as w
use Rattle.mich_cert.proofs.Branches.{nowhere}
use Rattle.mich_cert.proofs.CountedRows.{and_false}
use Rattle.mich_cert.proofs.Tests.{or_rest}
use Rattle.mich_cert.proofs.Loops.{turned}
use Rattle.mich_cert.proofs.Small.{made_leads, past_small}
use Rattle.mich_cert.proofs.Spelling.{nil, put, spelled, names_a, names_b, names_pair}
use Rattle.mich_cert.proofs.Walk.{from, body_from}

-- ---- the test

and_true : (q : Bool) → q ≡ (q && true)
and_true true = refl
and_true false = refl

and_falses : (q r : Bool) → false ≡ (q && (r && false))
and_falses true r = sym (and_false r)
and_falses false r = refl

-- what a body ends with, as a part of what is made on a stack
abbrev makes_so : (Kind → Kind) → List Kind → List Kind → List Kind → Bool
makes_so f A [] D = false
makes_so f A (x ∷ C) D = same_kinds C A && same_kinds (f x ∷ A) D

same_below : (q : Bool) (C A : List Kind) → cond q (same_kinds C A) false ≡ (same_kinds C A && (q && true))
same_below true C A = and_true (same_kinds C A)
same_below false C A = sym (and_false (same_kinds C A))

-- the stacks below are one, whichever two are compared
below_is : (q : Bool) (C A D : List Kind) → (same_kinds A D && cond q (same_kinds C D) false) ≡ (same_kinds C A && (q && same_kinds A D))
below_is q C A D = by (same_kinds A D) refl
  where
    here : (same_kinds A A && cond q (same_kinds C A) false) ≡ (same_kinds C A && (q && same_kinds A A))
    here =
        ap (λ r. r && cond q (same_kinds C A) false) (same_kinds_refl A) ∙ same_below q C A
        ∙ sym (ap (λ r. same_kinds C A && (q && r)) (same_kinds_refl A))

    by : (r : Bool) → same_kinds A D ≡ r → (same_kinds A D && cond q (same_kinds C D) false) ≡ (same_kinds C A && (q && same_kinds A D))
    by true e = subst (λ E. (same_kinds A E && cond q (same_kinds C E) false) ≡ (same_kinds C A && (q && same_kinds A E))) (same_kinds_true A D e) here
    by false e =
        ap (λ r. r && cond q (same_kinds C D) false) e ∙ and_falses (same_kinds C A) q
        ∙ sym (ap (λ r. same_kinds C A && (q && r)) e)

list_makes : (a : Kind) (A C D : List Kind) →
    (line (w.List ∷ w.A ∷ []) (w.List ∷ w.B ∷ []) nothing (k.list a ∷ A) D && line (w.A ∷ []) (w.List ∷ w.A ∷ []) nothing C D) ≡ makes_so k.list A C D
list_makes a A [] (k.list y ∷ D) = and_false (same_kinds A D)
list_makes a A [] [] = refl
list_makes a A [] (d ∷ D) = refl
list_makes a A (x ∷ C) [] = sym (and_false (same_kinds C A))
list_makes a A (x ∷ C) (k.list y ∷ D) = by (same_kind x y) refl
  where
    by : (q : Bool) → same_kind x y ≡ q →
        (line (w.List ∷ w.A ∷ []) (w.List ∷ w.B ∷ []) nothing (k.list a ∷ A) (k.list y ∷ D) && line (w.A ∷ []) (w.List ∷ w.A ∷ []) nothing (x ∷ C) (k.list y ∷ D))
        ≡ makes_so k.list A (x ∷ C) (k.list y ∷ D)
    by true e = rw e (below_is true C A D)
    by false e = rw e (below_is false C A D)
list_makes a A (x ∷ C) (d ∷ D) = sym (and_false (same_kinds C A))

option_makes : (a : Kind) (A C D : List Kind) →
    (line (w.Option ∷ w.A ∷ []) (w.Option ∷ w.B ∷ []) nothing (k.option a ∷ A) D && line (w.A ∷ []) (w.Option ∷ w.A ∷ []) nothing C D) ≡ makes_so k.option A C D
option_makes a A [] (k.option y ∷ D) = and_false (same_kinds A D)
option_makes a A [] [] = refl
option_makes a A [] (d ∷ D) = refl
option_makes a A (x ∷ C) [] = sym (and_false (same_kinds C A))
option_makes a A (x ∷ C) (k.option y ∷ D) = by (same_kind x y) refl
  where
    by : (q : Bool) → same_kind x y ≡ q →
        (line (w.Option ∷ w.A ∷ []) (w.Option ∷ w.B ∷ []) nothing (k.option a ∷ A) (k.option y ∷ D) && line (w.A ∷ []) (w.Option ∷ w.A ∷ []) nothing (x ∷ C) (k.option y ∷ D))
        ≡ makes_so k.option A (x ∷ C) (k.option y ∷ D)
    by true e = rw e (below_is true C A D)
    by false e = rw e (below_is false C A D)
option_makes a A (x ∷ C) (d ∷ D) = sym (and_false (same_kinds C A))

map_makes : (a v : Kind) (A C D : List Kind) →
    (line (w.Map ∷ w.A ∷ w.B ∷ []) (w.Map ∷ w.A ∷ w.C ∷ []) nothing (k.map a v ∷ A) D && line (w.B ∷ []) (w.Map ∷ w.A ∷ w.B ∷ []) nothing C D) ≡ makes_so (k.map a) A C D
map_makes a v A [] (k.map j y ∷ D) = and_false (line (w.Map ∷ w.A ∷ w.B ∷ []) (w.Map ∷ w.A ∷ w.C ∷ []) nothing (k.map a v ∷ A) (k.map j y ∷ D))
map_makes a v A [] [] = refl
map_makes a v A [] (d ∷ D) = refl
map_makes a v A (x ∷ C) [] = sym (and_false (same_kinds C A))
map_makes a v A (x ∷ C) (k.map j y ∷ D) = by (same_kind a j) refl (same_kind x y) refl
  where
    by : (r : Bool) → same_kind a j ≡ r → (q : Bool) → same_kind x y ≡ q →
        (line (w.Map ∷ w.A ∷ w.B ∷ []) (w.Map ∷ w.A ∷ w.C ∷ []) nothing (k.map a v ∷ A) (k.map j y ∷ D) && line (w.B ∷ []) (w.Map ∷ w.A ∷ w.B ∷ []) nothing (x ∷ C) (k.map j y ∷ D))
        ≡ makes_so (k.map a) A (x ∷ C) (k.map j y ∷ D)
    by true f true e = rw (e, f) (below_is true C A D)
    by true f false e = rw (e, f) (below_is false C A D)
    by false f true e = rw (e, f) (sym (and_false (same_kinds C A)))
    by false f false e = rw (e, f) (sym (and_false (same_kinds C A)))
map_makes a v A (x ∷ C) (d ∷ D) = sym (and_false (same_kinds C A))

-- ---- the walk

abbrev fits : (List Kind → List Kind → List Kind → Bool) → Option Confirmed → Option (List Entry)
fits T x = option_and_then (λ x. option_and_then (λ E. option_and_then (λ D. cond (T x.begins E D) (Some x.rest) None) (told x.rest)) x.ends) x

abbrev makes : (Kind → Kind) → List Kind → Ended → Option (List Entry)
makes f A u = option_and_then (λ E. option_and_then (λ D. cond (makes_so f A E D) (Some u.rest) None) (told u.rest)) u.ends

begun_so : (q : Bool) (f : Kind → Kind) (A : List Kind) (es : List Entry) (e o : Option (List Kind)) →
    option_and_then (λ E. option_and_then (λ D. cond (q && makes_so f A E D) (Some es) None) o) e
    ≡ cond q (option_and_then (λ E. option_and_then (λ D. cond (makes_so f A E D) (Some es) None) o) e) None
begun_so true f A es e o = refl
begun_so false f A es None o = refl
begun_so false f A es (Some E) None = refl
begun_so false f A es (Some E) (Some D) = refl

from_makes : (f : Kind → Kind) (S A : List Kind) (x : Option Confirmed) →
    fits (λ B E D. same_kinds S B && makes_so f A E D) x ≡ option_and_then (makes f A) (from S x)
from_makes f S A None = refl
from_makes f S A (Some x) = begun_so (same_kinds S x.begins) f A x.rest x.ends (told x.rest) ∙ by (same_kinds S x.begins)
  where
    by : (q : Bool) →
        cond q (option_and_then (λ E. option_and_then (λ D. cond (makes_so f A E D) (Some x.rest) None) (told x.rest)) x.ends) None
        ≡ option_and_then (makes f A) (cond q (Some record { ends = x.ends; rest = x.rest }) None)
    by true = refl
    by false = refl

nothing_made : (f : Kind → Kind) (A : List Kind) (es : List Entry) (o : Option (List Kind)) → option_and_then (λ D. cond (makes_so f A [] D) (Some es) None) o ≡ None
nothing_made f A es None = refl
nothing_made f A es (Some D) = refl

part_made : (f : Kind → Kind) (A C : List Kind) (x : Kind) (es : List Entry) → AreSmall es →
    option_and_then (λ D. cond (makes_so f A (x ∷ C) D) (Some es) None) (told es) ≡ leading (made_of f (cond (same_kinds C A) (Some x) None) A) es
part_made f A C x es h = by (same_kinds C A)
  where
    no : (o : Option (List Kind)) → option_and_then (λ D. cond (false && same_kinds (f x ∷ A) D) (Some es) None) o ≡ None
    no None = refl
    no (Some D) = refl

    by : (q : Bool) →
        option_and_then (λ D. cond (q && same_kinds (f x ∷ A) D) (Some es) None) (told es) ≡ leading (made_of f (cond q (Some x) None) A) es
    by true = turned (f x ∷ A) es (told es) true refl ∙ sym (made_leads (f x) A es h)
    by false = no (told es)

ended_makes : (f : Kind → Kind) (A : List Kind) (T : Typing) (o : Option (List Entry)) → ((es : List Entry) → o ≡ Some es → AreSmall es) →
    option_and_then (makes f A) (ended T o) ≡ option_and_then (leading (mapped T f A)) o
ended_makes f A (goes C) None h = refl
ended_makes f A (goes []) (Some es) h = nothing_made f A es (told es)
ended_makes f A (goes (x ∷ C)) (Some es) h = part_made f A C x es (h es refl)
ended_makes f A fails None h = refl
ended_makes f A fails (Some es) h = refl
ended_makes f A (bad l) o h = sym (nowhere l o)

body_mapped : (f : Kind → Kind) (A S : List Kind) (T : List Kind → List Kind → List Kind → Bool) (b : Tree) (at : ℕ) (c : Context) (es : List Entry) → AreSmall es →
    ((B E D : List Kind) → T B E D ≡ (same_kinds S B && makes_so f A E D)) →
    fits T (body_of b at c es) ≡ option_and_then (leading (mapped (body b 1 c S) f A)) (past (block_entries b at c S ++ []) es)
body_mapped f A S T b at c es h e =
    ap (λ (U : List Kind → List Kind → List Kind → Bool). fits U (body_of b at c es)) (λ i B E D. e B E D i)
    ∙ from_makes f S A (body_of b at c es)
    ∙ ap (option_and_then (makes f A)) (body_from b at 1 c S es)
    ∙ ended_makes f A (body b 1 c S) (past (block_entries b at c S) es) (λ fs g. past_small (block_entries b at c S) es fs g h)
    ∙ ap (λ (X : List Entry). option_and_then (leading (mapped (body b 1 c S) f A)) (past X es)) (sym (append-nil (block_entries b at c S)))

no_map : (A : List Kind) (b : Tree) (at : ℕ) (c : Context) (es : List Entry) → ((B E D : List Kind) → table.mapped A B E D ≡ false) → map_walk b at c A es ≡ None
no_map A b at c es e = ap (λ (U : List Kind → List Kind → List Kind → Bool). fits U (body_of b at c es)) (λ i B E D. e B E D i) ∙ all (body_of b at c es)
  where
    over : (x : Confirmed) (e o : Option (List Kind)) → option_and_then (λ E. option_and_then (λ D. cond false (Some x.rest) None) o) e ≡ None
    over x None o = refl
    over x (Some E) None = refl
    over x (Some E) (Some D) = refl

    all : (x : Option Confirmed) → fits (λ B E D. false) x ≡ None
    all None = refl
    all (Some x) = over x x.ends (told x.rest)

-- the first of three tests
three_parts : (q r s u : Bool) → q ≡ u → ((q && r) && s) ≡ (u && (r && s))
three_parts true r s u e = ap (λ v. v && (r && s)) e
three_parts false r s u e = ap (λ v. v && (r && s)) e

module _ (annots : List (List ℕ)) (b : Tree) (at : ℕ) (c : Context) where
  pub map_walked : (A : List Kind) (es : List Entry) → AreSmall es → map_walk b (at + 1) c A es ≡ step_by (Some p.OpMap) annots (more b none) at c A es
  map_walked (k.list a ∷ A) es h =
      body_mapped k.list A (a ∷ A) (table.mapped (k.list a ∷ A)) b (at + 1) c es h (λ B E D.
      or_rest _ _ refl ∙ or_rest _ _ refl
      ∙ three_parts _ _ _ _ (spelled (w.A ∷ []) (record { a = Some a; b = None; c = None }) A (a ∷ A) (put names_a nil) B)
      ∙ ap (λ q. same_kinds (a ∷ A) B && q) (list_makes a A E D))
  map_walked (k.option a ∷ A) es h =
      body_mapped k.option A (a ∷ A) (table.mapped (k.option a ∷ A)) b (at + 1) c es h (λ B E D.
      or_rest _ _ refl
      ∙ three_parts _ _ _ _ (spelled (w.A ∷ []) (record { a = Some a; b = None; c = None }) A (a ∷ A) (put names_a nil) B)
      ∙ ap (λ q. same_kinds (a ∷ A) B && q) (option_makes a A E D))
  map_walked (k.map a v ∷ A) es h =
      body_mapped (k.map a) A (k.pair a v ∷ A) (table.mapped (k.map a v ∷ A)) b (at + 1) c es h (λ B E D.
      three_parts _ _ _ _ (spelled (w.Pair ∷ w.A ∷ w.B ∷ []) (record { a = Some a; b = Some v; c = None }) A (k.pair a v ∷ A) (put (names_pair names_a names_b) nil) B)
      ∙ ap (λ q. same_kinds (k.pair a v ∷ A) B && q) (map_makes a v A E D))
  map_walked A es h = no_map A b (at + 1) c es (λ B E D. refl)
