-- Elements of a set, read one by one.
use Rattle.std.proofs.Common.{◌≡◌, ℕ, ◌+◌, ◌-◌, ◌<◌, ◌≤◌, drop, length, get_or, Bor, Err, true, false, cond, Option, Some, None, List, [], ◌∷◌, ◌++◌, map, option_map, sym, ap, ◌∙◌, subst}
use Rattle.std.specs.Prelude.{slice_get}
use Rattle.std.proofs.lemmas.List.{map-append}
use Rattle.std.proofs.lemmas.Bool.{cond-true, cond-false}
use Rattle.rules_text.specs.nodes.Tree.{Tree, Trees, none, more, size}
use Rattle.rules_data.specs.values.Val.{Val, Vals, more_vals, set}
use Rattle.rules_data.specs.values.Literals.{Pending, Literal, good, bad, with_pending, mapped, Reader, is_behind, read_increasing}
use Rattle.mich_term.specs.View.{datum, datums}
use Rattle.mich_term.specs.Keyed.{put, IsIncreasing}
use Rattle.mich_term.proofs.ForCallers.{put_last, by_lawful}
use Rattle.mich_term.specs.declared.datum.Datum.{Datum}
use Rattle.mich_base.specs.View.{tree, trees}
use Rattle.mich_base.specs.declared.node.Node.{Node}
use Rattle.mich_data.specs.declared.error.ValueError.{ValueError}
use Rattle.mich_data.specs.declared.error.ValueError.TheVariants as error
use Rattle.mich_data.specs.Answers.{IsFault, IsKeyBehind}
use Rattle.mich_data.proofs.Places.{left_at, left_end}
use Rattle.mich_data.proofs.Steps.{mapped_good, mapped_bad, then_good, then_bad}
use Rattle.mich_data.proofs.Lists.{put_before, before_nothing, before_more, before_end}
use Rattle.mich_data.proofs.Keys.{last_value, last_of-more, stays_increasing, none_increases, last_told}

-- how far a set is read: so much of it is in order, and what is left is read behind it
pub record IsReadUpTo (whole : Literal Vals) (r : Reader) (ds : List Datum) (at : ℕ) (ts : Trees) (ps : List Pending) : Type 0 where
  pub same : whole ≡ mapped (put_before (map datum ds)) (with_pending ps (read_increasing r (last_value ds) at ts))
  pub increasing : IsIncreasing ds

pub set_start : (ps : List Pending) (r : Reader) (at : ℕ) (ts : Trees) → IsReadUpTo (with_pending ps (read_increasing r None at ts)) r [] at ts ps
set_start ps r at ts = record { same = before_nothing (with_pending ps (read_increasing r None at ts)); increasing = none_increases }

put_is_last : (ds : List Datum) (d : Datum) → IsIncreasing ds → is_behind (last_value ds) (datum d) ≡ true → put d ds ≡ ds ++ d ∷ []
put_is_last ds d s b = put_last by_lawful ds [] d (stays_increasing ds d s b)

pub set_step : (whole : Literal Vals) (r : Reader) (ds es : List Datum) (d : Datum) (x : Val) (t : Tree) (ts : Trees) (at : ℕ) (ps qs : List Pending) →
    IsReadUpTo whole r ds at (more t ts) ps → with_pending ps (r at t) ≡ good x qs → is_behind (last_value ds) x ≡ true → datum d ≡ x → es ≡ put d ds →
    IsReadUpTo whole r es (at + size t) ts qs
set_step whole r ds es d x t ts at ps qs h f b e g =
    let c : is_behind (last_value ds) (datum d) ≡ true = ap (is_behind (last_value ds)) e ∙ b in
    let new : es ≡ ds ++ d ∷ [] = g ∙ put_is_last ds d h.increasing c in
    let next : Literal Vals = read_increasing r (Some x) (at + size t) ts in
    let values : map datum es ≡ map datum ds ++ x ∷ [] = ap (map datum) new ∙ map-append datum ds (d ∷ []) ∙ ap (λ y. map datum ds ++ y ∷ []) e in
    let last : last_value es ≡ Some x = ap last_value new ∙ ap (option_map datum) (last_of-more ds d) ∙ ap Some e in
    record {
      same =
          h.same
          ∙ ap (mapped (put_before (map datum ds))) (then_good (r at t)
          (λ y. cond (is_behind (last_value ds) y) (mapped (more_vals y) (read_increasing r (Some y) (at + size t) ts)) (bad at)) x ps qs f)
          ∙ ap (λ u. mapped (put_before (map datum ds)) (with_pending qs u)) (cond-true (is_behind (last_value ds) x) (mapped (more_vals x) next) (bad at) b)
          ∙ before_more (map datum ds) x qs next
          ∙ ap (λ xs. mapped (put_before xs) (with_pending qs next)) (sym values)
          ∙ ap (λ o. mapped (put_before (map datum es)) (with_pending qs (read_increasing r o (at + size t) ts))) (sym last);
      increasing = subst IsIncreasing (sym new) (stays_increasing ds d h.increasing c);
    }

pub set_fault : (ps : List Pending) (whole : Literal Vals) (r : Reader) (ds : List Datum) (t : Tree) (ts : Trees) (at : ℕ) (qs : List Pending) (e : ValueError) →
    IsReadUpTo (with_pending ps whole) r ds at (more t ts) qs → IsFault (with_pending qs (r at t)) e → IsFault (with_pending ps (mapped set whole)) e
set_fault ps whole r ds t ts at qs (error.NotOfType l) h f =
    mapped_bad set whole l ps (h.same ∙ ap (mapped (put_before (map datum ds))) (then_bad (r at t)
    (λ y. cond (is_behind (last_value ds) y) (mapped (more_vals y) (read_increasing r (Some y) (at + size t) ts)) (bad at)) l qs f))
set_fault ps whole r ds t ts at qs error.Memory h f = tt

pub set_misfit : (ps : List Pending) (whole : Literal Vals) (r : Reader) (ds : List Datum) (x : Val) (t : Tree) (ts : Trees) (at : ℕ) (qs rs : List Pending) →
    IsReadUpTo (with_pending ps whole) r ds at (more t ts) qs → with_pending qs (r at t) ≡ good x rs → is_behind (last_value ds) x ≡ false →
    with_pending ps (mapped set whole) ≡ bad at
set_misfit ps whole r ds x t ts at qs rs h f b =
    mapped_bad set whole at ps (h.same
    ∙ ap (mapped (put_before (map datum ds))) (then_good (r at t)
    (λ y. cond (is_behind (last_value ds) y) (mapped (more_vals y) (read_increasing r (Some y) (at + size t) ts)) (bad at)) x qs rs f)
    ∙ ap (λ u. mapped (put_before (map datum ds)) (with_pending rs u))
    (cond-false (is_behind (last_value ds) x) (mapped (more_vals x) (read_increasing r (Some x) (at + size t) ts)) (bad at) b))

pub set_end : (ps : List Pending) (whole : Literal Vals) (r : Reader) (ds : List Datum) (at : ℕ) (qs : List Pending) →
    IsReadUpTo (with_pending ps whole) r ds at none qs → with_pending ps (mapped set whole) ≡ good (set (datums ds)) qs
set_end ps whole r ds at qs h = mapped_good set whole (datums ds) ps qs (h.same ∙ before_end (map datum ds) qs)

-- ---- the same at the places of a slice

module _ (ns : List Node) (i : ℕ) (n : Node) (h : i < length ns) (e : n ≡ get_or ns i n) where
  at_place : (whole : Literal Vals) (r : Reader) (ds : List Datum) (at : ℕ) (ps : List Pending) → IsReadUpTo whole r ds at (trees (drop i ns)) ps →
      IsReadUpTo whole r ds at (more (tree n) (trees (drop (i + 1) ns))) ps
  at_place whole r ds at ps g = subst (λ ts. IsReadUpTo whole r ds at ts ps) (left_at ns i n h e) g

  pub set_go : (whole : Literal Vals) (r : Reader) (ds es : List Datum) (d : Datum) (o : Option (Bor Datum)) (x : Val) (at next : ℕ) (ps qs : List Pending) →
      IsReadUpTo whole r ds at (trees (drop i ns)) ps → with_pending ps (r at (tree n)) ≡ good x qs → next ≡ at + size (tree n) →
      option_map (λ y. y.now) o ≡ slice_get ds (length ds - 1) → is_behind (option_map (λ y. datum y.now) o) x ≡ true → datum d ≡ x → es ≡ put d ds →
      IsReadUpTo whole r es next (trees (drop (i + 1) ns)) qs
  set_go whole r ds es d o x at next ps qs g f k l b m w =
      subst (λ j. IsReadUpTo whole r es j (trees (drop (i + 1) ns)) qs) (sym k)
      (set_step whole r ds es d x (tree n) (trees (drop (i + 1) ns)) at ps qs (at_place whole r ds at ps g) f (ap (λ y. is_behind y x) (sym (last_told o ds l)) ∙ b) m w)

  pub set_fail : (ps : List Pending) (whole : Literal Vals) (r : Reader) (ds : List Datum) (at : ℕ) (qs : List Pending) (x : ValueError) →
      IsReadUpTo (with_pending ps whole) r ds at (trees (drop i ns)) qs → IsFault (with_pending qs (r at (tree n))) x → IsFault (with_pending ps (mapped set whole)) x
  set_fail ps whole r ds at qs x g f = set_fault ps whole r ds (tree n) (trees (drop (i + 1) ns)) at qs x (at_place (with_pending ps whole) r ds at qs g) f

  pub set_out_of_order : (ps : List Pending) (whole : Literal Vals) (r : Reader) (ds : List Datum) (o : Option (Bor Datum)) (x : Val) (at : ℕ) (qs rs : List Pending) (y : ValueError) →
      IsReadUpTo (with_pending ps whole) r ds at (trees (drop i ns)) qs → with_pending qs (r at (tree n)) ≡ good x rs →
      option_map (λ z. z.now) o ≡ slice_get ds (length ds - 1) → IsKeyBehind (is_behind (option_map (λ z. datum z.now) o) x) x at (Err y) → IsFault (with_pending ps (mapped set whole)) y
  set_out_of_order ps whole r ds o x at qs rs (error.NotOfType m) g f l b =
      set_misfit ps whole r ds x (tree n) (trees (drop (i + 1) ns)) at qs rs (at_place (with_pending ps whole) r ds at qs g) f (ap (λ z. is_behind z x) (sym (last_told o ds l)) ∙ b.0)
      ∙ ap bad (sym b.1)
  set_out_of_order ps whole r ds o x at qs rs error.Memory g f l b = tt

pub set_done : (ns : List Node) (i : ℕ) → length ns ≤ i → (ps : List Pending) (whole : Literal Vals) (r : Reader) (ds : List Datum) (at : ℕ) (qs : List Pending) →
    IsReadUpTo (with_pending ps whole) r ds at (trees (drop i ns)) qs → with_pending ps (mapped set whole) ≡ good (set (datums ds)) qs
set_done ns i h ps whole r ds at qs g = set_end ps whole r ds at qs (subst (λ ts. IsReadUpTo (with_pending ps whole) r ds at ts qs) (left_end ns i h) g)
