-- Elements of a list, read one by one.
use Rattle.std.proofs.Common.{◌≡◌, ℕ, ◌+◌, ◌<◌, ◌≤◌, List, [], ◌∷◌, ◌++◌, map, drop, length, get_or, refl, sym, ap, ◌∙◌}
use Rattle.std.proofs.lemmas.List.{map-append, append-nil}
use Rattle.rules_text.specs.nodes.Tree.{Tree, Trees, none, more, size}
use Rattle.rules_data.specs.values.Val.{Val, Vals, no_val, more_vals, list}
use Rattle.rules_data.specs.values.Literals.{Pending, Literal, good, bad, with_pending, mapped, Reader, read_elements}
use Rattle.mich_term.specs.View.{vals_of}
use Rattle.mich_term.specs.ValueView.{val, vals}
use Rattle.mich_term.specs.declared.value.Value.{Value}
use Rattle.mich_base.specs.View.{tree, trees}
use Rattle.mich_base.specs.declared.node.Node.{Node}
use Rattle.mich_data.specs.declared.error.ValueError.{ValueError}
use Rattle.mich_data.specs.declared.error.ValueError.TheVariants as error
use Rattle.mich_data.specs.Answers.{IsFault}
use Rattle.mich_data.proofs.Places.{left_at, left_end}
use Rattle.mich_data.proofs.Steps.{mapped_good, mapped_bad, then_good, then_bad}

-- these values before others
abbrev pub put_before : List Val → Vals → Vals
put_before [] ws = ws
put_before (x ∷ xs) ws = more_vals x (put_before xs ws)

put_before-more : (xs : List Val) (x : Val) (ws : Vals) → put_before (xs ++ x ∷ []) ws ≡ put_before xs (more_vals x ws)
put_before-more [] x ws = refl
put_before-more (y ∷ ys) x ws = ap (more_vals y) (put_before-more ys x ws)

put_before-none : (xs : List Val) → put_before xs no_val ≡ vals_of xs
put_before-none [] = refl
put_before-none (x ∷ xs) = ap (more_vals x) (put_before-none xs)

pub before_nothing : (r : Literal Vals) → r ≡ mapped (put_before []) r
before_nothing (good ws ps) = refl
before_nothing (bad l) = refl

pub before_more : (xs : List Val) (x : Val) (ps : List Pending) (r : Literal Vals) →
    mapped (put_before xs) (with_pending ps (mapped (more_vals x) r)) ≡ mapped (put_before (xs ++ x ∷ [])) (with_pending ps r)
before_more xs x ps (good ws qs) = ap (λ vs. good vs (ps ++ qs)) (sym (put_before-more xs x ws))
before_more xs x ps (bad l) = refl

pub before_end : (xs : List Val) (ps : List Pending) → mapped (put_before xs) (with_pending ps (good no_val [])) ≡ good (vals_of xs) ps
before_end xs ps = ap (λ vs. good vs (ps ++ [])) (put_before-none xs) ∙ ap (good (vals_of xs)) (append-nil ps)

pub elements_start : (r : Literal Vals) → r ≡ mapped (put_before (map val [])) r
elements_start r = before_nothing r

pub elements_step : (whole : Literal Vals) (r : Reader) (vs ws : List Value) (v : Value) (t : Tree) (ts : Trees) (at : ℕ) (ps qs : List Pending) →
    whole ≡ mapped (put_before (map val vs)) (with_pending ps (read_elements r at (more t ts))) → with_pending ps (r at t) ≡ good (val v) qs → ws ≡ vs ++ v ∷ [] →
    whole ≡ mapped (put_before (map val ws)) (with_pending qs (read_elements r (at + size t) ts))
elements_step whole r vs ws v t ts at ps qs e f g =
    e
    ∙ ap (mapped (put_before (map val vs))) (then_good (r at t) (λ x. mapped (more_vals x) (read_elements r (at + size t) ts)) (val v) ps qs f)
    ∙ before_more (map val vs) (val v) qs (read_elements r (at + size t) ts)
    ∙ ap (λ xs. mapped (put_before xs) (with_pending qs (read_elements r (at + size t) ts))) (sym (ap (map val) g ∙ map-append val vs (v ∷ [])))

fault_whole : (whole : Literal Vals) (xs : List Val) (r : Literal Vals) (l : ℕ) → whole ≡ mapped (put_before xs) r → r ≡ bad l → whole ≡ bad l
fault_whole whole xs r l e f = e ∙ ap (mapped (put_before xs)) f

pub elements_fault : (ps : List Pending) (whole : Literal Vals) (r : Reader) (vs : List Value) (t : Tree) (ts : Trees) (at : ℕ) (qs : List Pending) (e : ValueError) →
    with_pending ps whole ≡ mapped (put_before (map val vs)) (with_pending qs (read_elements r at (more t ts))) → IsFault (with_pending qs (r at t)) e →
    IsFault (with_pending ps (mapped list whole)) e
elements_fault ps whole r vs t ts at qs (error.NotOfType l) e f =
    mapped_bad list whole l ps
    (fault_whole (with_pending ps whole) (map val vs) (with_pending qs (read_elements r at (more t ts))) l e
    (then_bad (r at t) (λ x. mapped (more_vals x) (read_elements r (at + size t) ts)) l qs f))
elements_fault ps whole r vs t ts at qs error.Memory e f = tt

pub elements_end : (ps : List Pending) (whole : Literal Vals) (r : Reader) (vs : List Value) (at : ℕ) (qs : List Pending) →
    with_pending ps whole ≡ mapped (put_before (map val vs)) (with_pending qs (read_elements r at none)) → with_pending ps (mapped list whole) ≡ good (list (vals vs)) qs
elements_end ps whole r vs at qs e = mapped_good list whole (vals vs) ps qs (e ∙ before_end (map val vs) qs)

-- ---- the same at the places of a slice

module _ (ns : List Node) (i : ℕ) (n : Node) (h : i < length ns) (e : n ≡ get_or ns i n) where
  pub elements_go : (whole : Literal Vals) (r : Reader) (vs ws : List Value) (v : Value) (at next : ℕ) (ps qs : List Pending) →
      whole ≡ mapped (put_before (map val vs)) (with_pending ps (read_elements r at (trees (drop i ns)))) → with_pending ps (r at (tree n)) ≡ good (val v) qs → next ≡ at + size (tree n) →
      ws ≡ vs ++ v ∷ [] → whole ≡ mapped (put_before (map val ws)) (with_pending qs (read_elements r next (trees (drop (i + 1) ns))))
  elements_go whole r vs ws v at next ps qs f g k l =
      elements_step whole r vs ws v (tree n) (trees (drop (i + 1) ns)) at ps qs
      (f ∙ ap (λ ts. mapped (put_before (map val vs)) (with_pending ps (read_elements r at ts))) (left_at ns i n h e)) g l
      ∙ ap (λ m. mapped (put_before (map val ws)) (with_pending qs (read_elements r m (trees (drop (i + 1) ns))))) (sym k)

  pub elements_fail : (ps : List Pending) (whole : Literal Vals) (r : Reader) (vs : List Value) (at : ℕ) (qs : List Pending) (x : ValueError) →
      with_pending ps whole ≡ mapped (put_before (map val vs)) (with_pending qs (read_elements r at (trees (drop i ns)))) → IsFault (with_pending qs (r at (tree n))) x →
      IsFault (with_pending ps (mapped list whole)) x
  elements_fail ps whole r vs at qs x f g =
      elements_fault ps whole r vs (tree n) (trees (drop (i + 1) ns)) at qs x
      (f ∙ ap (λ ts. mapped (put_before (map val vs)) (with_pending qs (read_elements r at ts))) (left_at ns i n h e)) g

pub elements_done : (ns : List Node) (i : ℕ) → length ns ≤ i → (ps : List Pending) (whole : Literal Vals) (r : Reader) (vs : List Value) (at : ℕ) (qs : List Pending) →
    with_pending ps whole ≡ mapped (put_before (map val vs)) (with_pending qs (read_elements r at (trees (drop i ns)))) → with_pending ps (mapped list whole) ≡ good (list (vals vs)) qs
elements_done ns i h ps whole r vs at qs f =
    elements_end ps whole r vs at qs (f ∙ ap (λ ts. mapped (put_before (map val vs)) (with_pending qs (read_elements r at ts))) (left_end ns i h))
