-- The walk over the body of DIP.
use Rattle.std.proofs.Common.{◌≡◌, ℕ, zero, suc, ◌+◌, Bool, true, false, ◌&&◌, cond, nat_le, Option, Some, None, List, [], ◌∷◌, ◌++◌, length, take, drop, refl, sym, ap, ◌∙◌}
use Rattle.std.specs.Prelude.{option_and_then}
use Rattle.std.proofs.lemmas.List.{append-nil}
use Rattle.rules_text.specs.declared.nodes.Primitive.TheVariants as p
use Rattle.rules_text.specs.nodes.Limits.{count_limit}
use Rattle.rules_text.specs.nodes.Tree.{Tree, none, more, size}
use Rattle.rules_data.specs.types.Kind.{Kind}
use Rattle.rules_code.specs.instructions.Arguments.{Found, found, fault, count_argument}
use Rattle.rules_code.specs.instructions.Context.{Context}
use Rattle.rules_code.specs.instructions.Same.{same_kind, same_kinds}
use Rattle.rules_code.specs.typing.Acts.{dip_type}
use Rattle.rules_code.specs.typing.Nodes.{body}
use Rattle.rules_code.specs.typing.Typing.{Typing, goes, fails, bad, under}
use Rattle.rules_code.specs.typing.Typing as typing
use Rattle.rules_code.specs.certificates.Blocks.{block}
use Rattle.rules_code.specs.certificates.Blocks as blocks_of
use Rattle.rules_code.specs.certificates.Derivation.{Entry, block_entries, of_blocks, tellers}
use Rattle.mich_cert.specs.Counted.{dips}
use Rattle.mich_cert.specs.Walk.{past, told, Ended, ended, Confirmed, body_of, leading, step_by, dip_walk}
use Rattle.mich_cert.proofs.Branches.{nowhere}
use Rattle.mich_cert.proofs.CountedRows.{and_false, more_le, none_le, too_many}
use Rattle.mich_cert.proofs.Loops.{turned}
use Rattle.mich_cert.proofs.Tellers.{second_told}
use Rattle.mich_cert.proofs.Walk.{from, body_from}

-- ---- the test

and_move : (q r s u : Bool) → (q && (r && (s && u))) ≡ (r && (s && (q && u)))
and_move true r s u = refl
and_move false true true u = refl
and_move false true false u = refl
and_move false false s u = refl

and_falses : (q r : Bool) → (q && (r && false)) ≡ false
and_falses true r = and_false r
and_falses false r = refl

dips_is : (n : ℕ) (A B E D : List Kind) → dips n A B E D ≡ (nat_le n (length A) && (same_kinds (drop n A) B && same_kinds (take n A ++ E) D))
dips_is zero A B E D = ap (λ q. q && (same_kinds A B && same_kinds E D)) (sym (none_le (length A)))
dips_is (suc n) [] B E D = ap (λ q. q && (same_kinds [] B && same_kinds E D)) (sym (too_many n))
dips_is (suc n) (a ∷ A) B E [] = sym (and_falses (nat_le (suc n) (suc (length A))) (same_kinds (drop n A) B))
dips_is (suc n) (a ∷ A) B E (d ∷ D) =
    ap (λ q. same_kind a d && q) (dips_is n A B E D)
    ∙ and_move (same_kind a d) (nat_le n (length A)) (same_kinds (drop n A) B) (same_kinds (take n A ++ E) D)
    ∙ ap (λ q. q && (same_kinds (drop n A) B && (same_kind a d && same_kinds (take n A ++ E) D))) (sym (more_le n (length A)))

-- ---- the walk

abbrev fits : (List Kind → List Kind → List Kind → Bool) → Option Confirmed → Option (List Entry)
fits T x = option_and_then (λ x. option_and_then (λ E. option_and_then (λ D. cond (T x.begins E D) (Some x.rest) None) (told x.rest)) x.ends) x

abbrev dipped : Bool → List Kind → Ended → Option (List Entry)
dipped q U u = option_and_then (λ E. option_and_then (λ D. cond (q && same_kinds (U ++ E) D) (Some u.rest) None) (told u.rest)) u.ends

end_fits : (q r : Bool) (U : List Kind) (x : Confirmed) (e : Option (List Kind)) (o : Option (List Kind)) →
    option_and_then (λ E. option_and_then (λ D. cond (q && (r && same_kinds (U ++ E) D)) (Some x.rest) None) o) e
    ≡ cond r (option_and_then (λ E. option_and_then (λ D. cond (q && same_kinds (U ++ E) D) (Some x.rest) None) o) e) None
end_fits q true U x e o = refl
end_fits q false U x None o = refl
end_fits q false U x (Some E) None = refl
end_fits true false U x (Some E) (Some D) = refl
end_fits false false U x (Some E) (Some D) = refl

from_fits : (q : Bool) (S U : List Kind) (x : Option Confirmed) →
    fits (λ B E D. q && (same_kinds S B && same_kinds (U ++ E) D)) x ≡ option_and_then (dipped q U) (from S x)
from_fits q S U None = refl
from_fits q S U (Some x) = end_fits q (same_kinds S x.begins) U x x.ends (told x.rest) ∙ by (same_kinds S x.begins)
  where
    by : (r : Bool) →
        cond r (option_and_then (λ E. option_and_then (λ D. cond (q && same_kinds (U ++ E) D) (Some x.rest) None) (told x.rest)) x.ends) None
        ≡ option_and_then (dipped q U) (cond r (Some record { ends = x.ends; rest = x.rest }) None)
    by true = refl
    by false = refl

under_what : (q : Bool) (U B : List Kind) (es : List Entry) → leading (cond q (goes (U ++ B)) (bad 0)) es ≡ leading (cond q (under U (goes B)) (bad 0)) es
under_what true U B es = refl
under_what false U B es = refl

no_under : (q : Bool) (U : List Kind) (es : List Entry) → None ≡ leading (cond q (under U fails) (bad 0)) es
no_under true U es = refl
no_under false U es = refl

no_bad : (q : Bool) (U : List Kind) (l : ℕ) (o : Option (List Entry)) → None ≡ option_and_then (leading (cond q (under U (bad l)) (bad 0))) o
no_bad true U l o = sym (nowhere l o)
no_bad false U l o = sym (nowhere 0 o)

ended_fits : (q : Bool) (U : List Kind) (T : Typing) (o : Option (List Entry)) →
    option_and_then (dipped q U) (ended T o) ≡ option_and_then (leading (cond q (under U T) (bad 0))) o
ended_fits q U (goes B) None = refl
ended_fits q U (goes B) (Some es) = turned (U ++ B) es (told es) q refl ∙ under_what q U B es
ended_fits q U fails None = refl
ended_fits q U fails (Some es) = no_under q U es
ended_fits q U (bad l) o = no_bad q U l o

body_dipped : (n : ℕ) (b : Tree) (at k : ℕ) (c : Context) (A : List Kind) (es : List Entry) →
    dip_walk n b at c A es ≡ option_and_then (leading (dip_type n (λ c A. body b k c A) c A)) (past (block_entries b at c (drop n A) ++ []) es)
body_dipped n b at k c A es =
    ap (λ (T : List Kind → List Kind → List Kind → Bool). fits T (body_of b at c es)) (λ i B E D. dips_is n A B E D i)
    ∙ from_fits (nat_le n (length A)) (drop n A) (take n A) (body_of b at c es)
    ∙ ap (option_and_then (dipped (nat_le n (length A)) (take n A))) (body_from b at k c (drop n A) es)
    ∙ ended_fits (nat_le n (length A)) (take n A) (body b k c (drop n A)) (past (block_entries b at c (drop n A)) es)
    ∙ ap (λ X. option_and_then (leading (dip_type n (λ c A. body b k c A) c A)) (past X es)) (sym (append-nil (block_entries b at c (drop n A))))

-- what DIP with a count leads to, by its count
abbrev by_count : Tree → Tree → ℕ → Context → List Kind → List Entry → Found ℕ → Option (List Entry)
by_count t b at c A es q =
    option_and_then (leading (typing.on_found q (λ n. dip_type n (λ c A. body b (1 + size t) c A) c A)))
    (past (of_blocks (tellers (more t (more b none)) (at + 1)) (blocks_of.on_found q (λ n. block (1 + size t) c (drop n A) ∷ []))) es)

module _ (annots : List (List ℕ)) (b : Tree) (at : ℕ) (c : Context) where
  pub dip_walked : (A : List Kind) (es : List Entry) → dip_walk 1 b (at + 1) c A es ≡ step_by (Some p.OpDip) annots (more b none) at c A es
  dip_walked A es = body_dipped 1 b (at + 1) 1 c A es

  pub counted_walked : (t : Tree) (n : ℕ) (A : List Kind) (es : List Entry) → count_argument 0 count_limit 1 t ≡ found n →
      dip_walk n b (at + 1 + size t) c A es ≡ step_by (Some p.OpDip) annots (more t (more b none)) at c A es
  counted_walked t n A es e =
      body_dipped n b (at + 1 + size t) (1 + size t) c A es
      ∙ ap (λ (Y : List Entry). option_and_then (leading (dip_type n (λ c A. body b (1 + size t) c A) c A)) (past (Y ++ []) es)) (sym (second_told t b none (at + 1) c (drop n A)))
      ∙ sym (ap (by_count t b at c A es) e)

  pub uncounted_walked : (t : Tree) (l : ℕ) (A : List Kind) (es : List Entry) → count_argument 0 count_limit 1 t ≡ fault l →
      step_by (Some p.OpDip) annots (more t (more b none)) at c A es ≡ None
  uncounted_walked t l A es e = ap (by_count t b at c A es) e
