-- The walk over the entries of a block, an instruction at a time.
use Rattle.std.proofs.Common.{◌≡◌, ℕ, ◌+◌, ◌==◌, Bool, true, false, ◌&&◌, cond, Option, Some, None, List, [], ◌∷◌, ◌++◌, refl, sym, ap, ◌∙◌}
use Rattle.std.specs.Prelude.{option_and_then}
use Rattle.rules_text.specs.nodes.Tree.{Tree, int, str, bytes, prim, seq, Trees, none, more, size}
use Rattle.rules_data.specs.types.Kind.{Kind}
use Rattle.rules_code.specs.instructions.Context.{Context}
use Rattle.rules_code.specs.instructions.Same.{same_kinds}
use Rattle.rules_code.specs.typing.Nodes.{tree_type, trees_type, body}
use Rattle.rules_code.specs.typing.Typing.{Typing, goes, fails, bad, shift, in_block}
use Rattle.rules_code.specs.certificates.Derivation.{Entry, before, end, failing, tree_entries, trees_entries, block_entries}
use Rattle.rules_code.specs.certificates.Derivation as derivation
use Rattle.laws_data.proofs.types_lemmas.ForCallers.{same_kinds_refl, same_kinds_true}
use Rattle.mich_cert.specs.Walk.{same_entry, past, told, is_stack, is_no_stack, ends_so, Ended, ended, Confirmed, confirmed, rest_of, block_of, own_entry, last_entry, body_of, inner, leading, step_of}

-- ---- entries

pub past_append : (X Y es : List Entry) → past (X ++ Y) es ≡ option_and_then (past Y) (past X es)
past_append [] Y es = refl
past_append (d ∷ X) Y [] = refl
past_append (d ∷ X) Y (e ∷ es) = by (past_append X Y es) (same_entry d e)
  where
    by : past (X ++ Y) es ≡ option_and_then (past Y) (past X es) → (q : Bool) → cond q (past (X ++ Y) es) None ≡ option_and_then (past Y) (cond q (past X es) None)
    by h true = h
    by h false = refl

pub tree_first : (t : Tree) (at : ℕ) (c : Context) (A : List Kind) → tree_entries t at c A ≡ before at A ∷ inner t at c A
tree_first (prim name annots ts) at c A = refl
tree_first (seq ts) at c A = refl
tree_first (int n) at c A = refl
tree_first (str s) at c A = refl
tree_first (bytes b) at c A = refl

-- entries that begin otherwise
abbrev left_out : Bool → List Entry → List Entry → Option (List Entry)
left_out q ds es = cond q (past ds es) None

no_match : (q : Bool) (ds es : List Entry) → left_out (q && false) ds es ≡ None
no_match true ds es = refl
no_match false ds es = refl

untold_before : (at : ℕ) (A : List Kind) (D es : List Entry) → is_stack A (told es) ≡ false → past (before at A ∷ D) es ≡ None
untold_before at A D [] h = refl
untold_before at A D (before l B ∷ es) h = ap (λ q. left_out (at == l && q) D es) h ∙ no_match (at == l) D es
untold_before at A D (end l B ∷ es) h = refl
untold_before at A D (failing l ∷ es) h = refl

untold_end : (at : ℕ) (A : List Kind) (es : List Entry) → is_stack A (told es) ≡ false → past (end at A ∷ []) es ≡ None
untold_end at A [] h = refl
untold_end at A (before l B ∷ es) h = refl
untold_end at A (end l B ∷ es) h = ap (λ q. left_out (at == l && q) [] es) h ∙ no_match (at == l) [] es
untold_end at A (failing l ∷ es) h = refl

untold : (ts : Trees) (block at : ℕ) (c : Context) (A : List Kind) (es : List Entry) → is_stack A (told es) ≡ false → past (trees_entries ts block at c A) es ≡ None
untold none block at c A es h = untold_end block A es h
untold (more t ts) block at c A es h =
    let K : List Entry = derivation.behind block (tree_type t c A) (λ B. trees_entries ts block (at + size t) c B) in
    ap (λ D. past (D ++ K) es) (tree_first t at c A) ∙ untold_before at A (inner t at c A ++ K) es h

stack_told : (A : List Kind) (o : Option (List Kind)) → is_stack A o ≡ true → o ≡ Some A
stack_told A None h = absurd cc
stack_told A (Some B) h = ap Some (sym (same_kinds_true A B h))

-- ---- ends

pub ended_none : (t : Typing) → ended t None ≡ None
ended_none (goes B) = refl
ended_none fails = refl
ended_none (bad l) = refl

pub ended_shift : (k : ℕ) (t : Typing) (r : Option (List Entry)) → ended (shift k t) r ≡ ended t r
ended_shift k (goes B) r = refl
ended_shift k fails r = refl
ended_shift k (bad l) r = refl

pub ends_shift : (k : ℕ) (t : Typing) (o : Option (List Kind)) → ends_so (shift k t) o ≡ ends_so t o
ends_shift k (goes B) o = refl
ends_shift k fails o = refl
ends_shift k (bad l) o = refl

-- what is confirmed of a block that should begin with a stack
abbrev pub from : List Kind → Option Confirmed → Option Ended
from A None = None
from A (Some x) = cond (same_kinds A x.begins) (Some record { ends = x.ends; rest = x.rest }) None

from_same : (A : List Kind) (r : Option Ended) → from A (confirmed A r) ≡ r
from_same A None = refl
from_same A (Some e) = rw (same_kinds_refl A) refl

from_other : (A B : List Kind) (r : Option Ended) → same_kinds A B ≡ false → from A (confirmed B r) ≡ None
from_other A B None h = refl
from_other A B (Some e) h = rw h refl

from_told : (A : List Kind) (o : Option (List Kind)) (F : List Kind → Option Ended) → is_stack A o ≡ false →
    from A (option_and_then (λ B. confirmed B (F B)) o) ≡ None
from_told A None F h = refl
from_told A (Some B) F h = from_other A B (F B) h

pub block_from : (ts : Trees) (at : ℕ) (c : Context) (A : List Kind) (es : List Entry) →
    from A (block_of ts at c es) ≡ ended (trees_type ts c A) (past (trees_entries ts at (at + 1) c A) es)
block_from ts at c A es = by (is_stack A (told es)) refl
  where
    by : (q : Bool) → is_stack A (told es) ≡ q → from A (block_of ts at c es) ≡ ended (trees_type ts c A) (past (trees_entries ts at (at + 1) c A) es)
    by true h =
        ap (λ o. from A (option_and_then (λ B. confirmed B (option_and_then (λ C. ended (trees_type ts c C) (past (trees_entries ts at (at + 1) c C) es)) o)) o)) (stack_told A (told es) h)
        ∙ from_same A (ended (trees_type ts c A) (past (trees_entries ts at (at + 1) c A) es))
    by false h =
        from_told A (told es) (λ B. rest_of ts at (at + 1) c false es) h
        ∙ sym (ap (ended (trees_type ts c A)) (untold ts at (at + 1) c A es h) ∙ ended_none (trees_type ts c A))

-- a body that should begin with a stack, of a node at a location
pub body_from : (t : Tree) (at k : ℕ) (c : Context) (A : List Kind) (es : List Entry) →
    from A (body_of t at c es) ≡ ended (body t k c A) (past (block_entries t at c A) es)
body_from (seq ts) at k c A es = block_from ts at c A es ∙ sym (ended_shift (k + 1) (trees_type ts c A) _)
body_from (prim name annots ts) at k c A es = refl
body_from (int n) at k c A es = refl
body_from (str s) at k c A es = refl
body_from (bytes b) at k c A es = refl

-- ---- an instruction at a time

-- the rest of a block behind an instruction
abbrev pub going : Trees → ℕ → ℕ → Context → Option (List Entry) → Option Ended
going ts block at c fs = option_and_then (λ es. rest_of ts block at c (is_no_stack (told es)) es) fs

goes_on : (C : List Kind) (ts : Trees) (block at k : ℕ) (c : Context) (es : List Entry) →
    ended (shift k (trees_type ts c C)) (past (trees_entries ts block at c C) es) ≡ going ts block at c (leading (goes C) es)
goes_on C ts block at k c es = ended_shift k (trees_type ts c C) (past (trees_entries ts block at c C) es) ∙ by (is_stack C (told es)) refl
  where
    by : (q : Bool) → is_stack C (told es) ≡ q → ended (trees_type ts c C) (past (trees_entries ts block at c C) es) ≡ going ts block at c (leading (goes C) es)
    by true h =
        let o : told es ≡ Some C = stack_told C (told es) h in
        sym (
        ap (λ q. going ts block at c (cond q (Some es) None)) h
        ∙ ap (λ s. rest_of ts block at c (is_no_stack s) es) o
        ∙ ap (λ s. option_and_then (λ A. ended (trees_type ts c A) (past (trees_entries ts block at c A) es)) s) o
        )
    by false h =
        ap (ended (trees_type ts c C)) (untold ts block at c C es h) ∙ ended_none (trees_type ts c C)
        ∙ sym (ap (λ q. going ts block at c (cond q (Some es) None)) h)

after_step : (t : Typing) (ts : Trees) (block at k : ℕ) (c : Context) (es : List Entry) →
    ended (in_block t ts (λ C. shift k (trees_type ts c C))) (past (derivation.behind block t (λ C. trees_entries ts block at c C)) es)
    ≡ going ts block at c (leading t es)
after_step (goes C) ts block at k c es = goes_on C ts block at k c es
after_step fails none block at k c [] = refl
after_step fails none block at k c (before l B ∷ es) = refl
after_step fails none block at k c (end l B ∷ es) = refl
after_step fails none block at k c (failing l ∷ es) = refl
after_step fails (more t ts) block at k c [] = refl
after_step fails (more t ts) block at k c (before l B ∷ es) = refl
after_step fails (more t ts) block at k c (end l B ∷ es) = refl
after_step fails (more t ts) block at k c (failing l ∷ es) = refl
after_step (bad l) ts block at k c es = refl

-- behind the entry of an instruction that stands where it should
abbrev pub stepped : Tree → Trees → ℕ → ℕ → Context → List Kind → List Entry → Option Ended
stepped t ts block at c B es = going ts block (at + size t) c (step_of t at c B es)

stepped_is : (t : Tree) (ts : Trees) (block at : ℕ) (c : Context) (B : List Kind) (es : List Entry) →
    ended (trees_type (more t ts) c B) (past (inner t at c B ++ derivation.behind block (tree_type t c B) (λ C. trees_entries ts block (at + size t) c C)) es)
    ≡ stepped t ts block at c B es
stepped_is t ts block at c B es =
    let K : List Entry = derivation.behind block (tree_type t c B) (λ C. trees_entries ts block (at + size t) c C) in
    ap (ended (trees_type (more t ts) c B)) (past_append (inner t at c B) K es) ∙ by (past (inner t at c B) es)
  where
    by : (o : Option (List Entry)) →
        ended (trees_type (more t ts) c B) (option_and_then (past (derivation.behind block (tree_type t c B) (λ C. trees_entries ts block (at + size t) c C))) o)
        ≡ going ts block (at + size t) c (option_and_then (leading (tree_type t c B)) o)
    by None = ended_none (trees_type (more t ts) c B)
    by (Some fs) = after_step (tree_type t c B) ts block (at + size t) (size t) c fs

-- the next instruction of a block, with its entry first
abbrev pub next_step : Tree → Trees → ℕ → ℕ → Context → List Entry → Option Ended
next_step t ts block at c es = option_and_then (λ p. stepped t ts block at c p.0 p.1) (own_entry at es)

first_step : (t : Tree) (ts : Trees) (block at : ℕ) (c : Context) (B : List Kind) (es : List Entry) (q : Bool) →
    ended (trees_type (more t ts) c B)
    (cond (q && true) (past (inner t at c B ++ derivation.behind block (tree_type t c B) (λ C. trees_entries ts block (at + size t) c C)) es) None)
    ≡ option_and_then (λ (p : List Kind × List Entry). stepped t ts block at c p.0 p.1) (cond q (Some (B, es)) None)
first_step t ts block at c B es true = stepped_is t ts block at c B es
first_step t ts block at c B es false = ended_none (trees_type (more t ts) c B)

pub block_step : (t : Tree) (ts : Trees) (block at : ℕ) (c : Context) (es : List Entry) → rest_of (more t ts) block at c false es ≡ next_step t ts block at c es
block_step t ts block at c [] = refl
block_step t ts block at c (failing l ∷ es) = refl
block_step t ts block at c (end l B ∷ es) =
    let K : List Entry = derivation.behind block (tree_type t c B) (λ C. trees_entries ts block (at + size t) c C) in
    ap (λ D. ended (trees_type (more t ts) c B) (past (D ++ K) (end l B ∷ es))) (tree_first t at c B) ∙ ended_none (trees_type (more t ts) c B)
block_step t ts block at c (before l B ∷ es) =
    let K : List Entry = derivation.behind block (tree_type t c B) (λ C. trees_entries ts block (at + size t) c C) in
    ap (λ D. ended (trees_type (more t ts) c B) (past (D ++ K) (before l B ∷ es))) (tree_first t at c B)
    ∙ ap (λ q. ended (trees_type (more t ts) c B) (cond (at == l && q) (past (inner t at c B ++ K) es) None)) (same_kinds_refl B)
    ∙ first_step t ts block at c B es (at == l)

-- ---- the end of a block

end_there : (B : List Kind) (es : List Entry) (q : Bool) →
    ended (goes B) (cond (q && true) (Some es) None) ≡ cond q (Some record { ends = Some B; rest = es }) None
end_there B es true = refl
end_there B es false = refl

fails_there : (es : List Entry) (q : Bool) → ended fails (cond q (Some es) None) ≡ cond q (Some record { ends = None; rest = es }) None
fails_there es true = refl
fails_there es false = refl

pub block_end : (block at : ℕ) (c : Context) (q : Bool) (es : List Entry) → rest_of none block at c q es ≡ last_entry block q es
block_end block at c false [] = refl
block_end block at c false (before l B ∷ es) = refl
block_end block at c false (failing l ∷ es) = refl
block_end block at c false (end l B ∷ es) =
    ap (λ q. ended (goes B) (cond (block == l && q) (Some es) None)) (same_kinds_refl B) ∙ end_there B es (block == l)
block_end block at c true [] = refl
block_end block at c true (before l B ∷ es) = refl
block_end block at c true (end l B ∷ es) = refl
block_end block at c true (failing l ∷ es) = fails_there es (block == l)
