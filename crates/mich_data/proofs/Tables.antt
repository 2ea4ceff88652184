-- Entries of a map, read one by one.
use Rattle.std.proofs.Common.{◌≡◌, ℕ, ◌+◌, ◌-◌, ◌<◌, ◌≤◌, drop, get_or, Bor, Err, true, false, cond, Option, Some, None, List, [], ◌∷◌, ◌++◌, map, option_map, length, refl, sym, ap, ◌∙◌, subst}
use Rattle.std.specs.Prelude.{slice_get}
use Rattle.std.specs.Map.{keys_of}
use Rattle.std.specs.List.{AllByRecursion}
use Rattle.std.proofs.lemmas.List.{map-append, append-nil}
use Rattle.std.proofs.lemmas.Bool.{cond-true, cond-false}
use Rattle.rules_text.specs.nodes.Tree.{Tree, Trees, none, more, size}
use Rattle.rules_data.specs.values.Val.{Val, Pairs, no_pair, more_pairs}
use Rattle.rules_data.specs.values.Literals.{Pending, Literal, good, bad, with_pending, mapped, Reader, is_behind, Entry, read_binding, read_entry, read_entries}
use Rattle.mich_term.specs.View.{datum}
use Rattle.rules_data.specs.types.Kind.{Kind}
use Rattle.mich_term.specs.ValueView.{val, pairs, put_pairs, big_pairs}
use Rattle.mich_term.proofs.ForCallers.{big_is, table_step, with_last, by_lawful}
use Rattle.mich_term.specs.declared.value.BigMap.{BigMap, out-BigMap, roll-BigMap, out-roll-BigMap}
use Rattle.mich_term.specs.declared.value.Value.TheOpen.{BigMap-F}
use Rattle.mich_data.specs.Whole.{put_of, AreWholeEntries, IsPut, LiesWhole, IsWhole}
use Rattle.mich_term.specs.Keyed.{with, IsIncreasing}
use Rattle.mich_term.specs.declared.datum.Datum.{Datum}
use Rattle.mich_term.specs.declared.value.Value.{Value}
use Rattle.mich_base.specs.View.{tree, trees}
use Rattle.mich_base.specs.declared.node.Node.{Node}
use Rattle.mich_data.specs.declared.error.ValueError.{ValueError}
use Rattle.mich_data.specs.declared.error.ValueError.TheVariants as error
use Rattle.mich_data.specs.Answers.{IsFault, IsKeyBehind}
use Rattle.mich_data.proofs.Places.{left_at, left_end}
use Rattle.mich_data.proofs.Steps.{mapped_good, mapped_bad, then_good, then_bad}
use Rattle.mich_data.proofs.Keys.{last_value, last_of-more, stays_increasing, none_increases, last_key_told}

-- ---- one entry

abbrev bound : Reader → Reader → Option Val → ℕ → Tree → Tree → Val → Literal Entry
bound r q before at t u x = cond (is_behind before x) (mapped (λ y. record { key = x; value = y }) (q (at + 1 + size t) u)) (bad at)

module _ (r q : Reader) (before : Option Val) (at : ℕ) (t u : Tree) (ps : List Pending) where
  behind_key : (x : Val) (qs : List Pending) → with_pending ps (r (at + 1) t) ≡ good x qs → is_behind before x ≡ true →
      with_pending ps (read_binding r q before at t u) ≡ with_pending qs (mapped (λ y. record { key = x; value = y }) (q (at + 1 + size t) u))
  behind_key x qs f b =
      then_good (r (at + 1) t) (bound r q before at t u) x ps qs f
      ∙ ap (with_pending qs) (cond-true (is_behind before x) (mapped (λ y. record { key = x; value = y }) (q (at + 1 + size t) u)) (bad at) b)

  pub binding_good : (x y : Val) (qs rs : List Pending) → with_pending ps (r (at + 1) t) ≡ good x qs → is_behind before x ≡ true →
      with_pending qs (q (at + 1 + size t) u) ≡ good y rs → with_pending ps (read_binding r q before at t u) ≡ good (record { key = x; value = y }) rs
  binding_good x y qs rs f b g = behind_key x qs f b ∙ mapped_good (λ z. record { key = x; value = z }) (q (at + 1 + size t) u) y qs rs g

  pub binding_go : (x y k : Val) (next : ℕ) (qs rs : List Pending) → with_pending ps (r (at + 1) t) ≡ good x qs → next ≡ at + 1 + size t → is_behind before x ≡ true → k ≡ x →
      with_pending qs (q next u) ≡ good y rs → with_pending ps (read_binding r q before at t u) ≡ good (record { key = k; value = y }) rs
  binding_go x y k next qs rs f e b same g =
      binding_good x y qs rs f b (ap (λ j. with_pending qs (q j u)) (sym e) ∙ g) ∙ ap (λ z. good (record { key = z; value = y }) rs) (sym same)

  pub binding_key : (e : ValueError) → IsFault (with_pending ps (r (at + 1) t)) e → IsFault (with_pending ps (read_binding r q before at t u)) e
  binding_key (error.NotOfType l) f = then_bad (r (at + 1) t) (bound r q before at t u) l ps f
  binding_key error.Memory f = tt

  pub binding_order : (x : Val) (qs : List Pending) → with_pending ps (r (at + 1) t) ≡ good x qs → is_behind before x ≡ false →
      with_pending ps (read_binding r q before at t u) ≡ bad at
  binding_order x qs f b =
      then_good (r (at + 1) t) (bound r q before at t u) x ps qs f
      ∙ ap (with_pending qs) (cond-false (is_behind before x) (mapped (λ y. record { key = x; value = y }) (q (at + 1 + size t) u)) (bad at) b)

  pub binding_value : (x : Val) (qs : List Pending) (e : ValueError) → with_pending ps (r (at + 1) t) ≡ good x qs → is_behind before x ≡ true →
      IsFault (with_pending qs (q (at + 1 + size t) u)) e → IsFault (with_pending ps (read_binding r q before at t u)) e
  binding_value x qs (error.NotOfType l) f b g = behind_key x qs f b ∙ mapped_bad (λ z. record { key = x; value = z }) (q (at + 1 + size t) u) l qs g
  binding_value x qs error.Memory f b g = tt

  pub binding_misfit : (x : Val) (qs : List Pending) (e : ValueError) → with_pending ps (r (at + 1) t) ≡ good x qs → IsKeyBehind (is_behind before x) x at (Err e) →
      IsFault (with_pending ps (read_binding r q before at t u)) e
  binding_misfit x qs (error.NotOfType l) f b = binding_order x qs f b.0 ∙ ap bad (sym b.1)
  binding_misfit x qs error.Memory f b = tt

  pub binding_second : (x : Val) (next : ℕ) (qs : List Pending) (e : ValueError) → with_pending ps (r (at + 1) t) ≡ good x qs → next ≡ at + 1 + size t → is_behind before x ≡ true →
      IsFault (with_pending qs (q next u)) e → IsFault (with_pending ps (read_binding r q before at t u)) e
  binding_second x next qs e f n b g = binding_value x qs e f b (subst (λ j. IsFault (with_pending qs (q j u)) e) n g)

-- ---- all entries

-- these entries before others
abbrev pub pairs_before : List (Datum × Value) → Pairs → Pairs
pairs_before [] ps = ps
pairs_before (e ∷ es) ps = more_pairs (datum e.0) (val e.1) (pairs_before es ps)

pairs_before-more : (es : List (Datum × Value)) (d : Datum) (v : Value) (ps : Pairs) → pairs_before (es ++ (d, v) ∷ []) ps ≡ pairs_before es (more_pairs (datum d) (val v) ps)
pairs_before-more [] d v ps = refl
pairs_before-more (e ∷ es) d v ps = ap (more_pairs (datum e.0) (val e.1)) (pairs_before-more es d v ps)

pairs_before-none : (es : List (Datum × Value)) → pairs_before es no_pair ≡ pairs es
pairs_before-none [] = refl
pairs_before-none (e ∷ es) = ap (more_pairs (datum e.0) (val e.1)) (pairs_before-none es)

before_nothing : (r : Literal Pairs) → r ≡ mapped (pairs_before []) r
before_nothing (good ws ps) = refl
before_nothing (bad l) = refl

before_more : (es : List (Datum × Value)) (d : Datum) (v : Value) (ps : List Pending) (r : Literal Pairs) →
    mapped (pairs_before es) (with_pending ps (mapped (more_pairs (datum d) (val v)) r)) ≡ mapped (pairs_before (es ++ (d, v) ∷ [])) (with_pending ps r)
before_more es d v ps (good ws qs) = ap (λ u. good u (ps ++ qs)) (sym (pairs_before-more es d v ws))
before_more es d v ps (bad l) = refl

-- how far entries are read: so many of them are in order, and what is left is read behind them
pub record AreReadUpTo (whole : Literal Pairs) (r q : Reader) (es : List (Datum × Value)) (at : ℕ) (ts : Trees) (ps : List Pending) : Type 0 where
  pub same : whole ≡ mapped (pairs_before es) (with_pending ps (read_entries r q (last_value (keys_of es)) at ts))
  pub increasing : IsIncreasing (keys_of es)

pub entries_start : (ps : List Pending) (r q : Reader) (at : ℕ) (ts : Trees) → AreReadUpTo (with_pending ps (read_entries r q None at ts)) r q [] at ts ps
entries_start ps r q at ts = record { same = before_nothing (with_pending ps (read_entries r q None at ts)); increasing = none_increases }

with_is_last : (es : List (Datum × Value)) (d : Datum) (v : Value) → IsIncreasing (keys_of es) → is_behind (last_value (keys_of es)) (datum d) ≡ true → with d v es ≡ es ++ (d, v) ∷ []
with_is_last es d v s b =
    with_last by_lawful es [] d v (subst IsIncreasing (sym (map-append (λ e. e.0) es ((d, v) ∷ []))) (stays_increasing (keys_of es) d s b))

pub entries_step : (whole : Literal Pairs) (r q : Reader) (es fs : List (Datum × Value)) (d : Datum) (v : Value) (t : Tree) (ts : Trees) (at : ℕ) (ps qs : List Pending) →
    AreReadUpTo whole r q es at (more t ts) ps → with_pending ps (read_entry r q (last_value (keys_of es)) at t) ≡ good (record { key = datum d; value = val v }) qs →
    is_behind (last_value (keys_of es)) (datum d) ≡ true → fs ≡ with d v es → AreReadUpTo whole r q fs (at + size t) ts qs
entries_step whole r q es fs d v t ts at ps qs h f b g =
    let new : fs ≡ es ++ (d, v) ∷ [] = g ∙ with_is_last es d v h.increasing b in
    let next : Literal Pairs = read_entries r q (Some (datum d)) (at + size t) ts in
    let keys : keys_of fs ≡ keys_of es ++ d ∷ [] = ap keys_of new ∙ map-append (λ e. e.0) es ((d, v) ∷ []) in
    let last : last_value (keys_of fs) ≡ Some (datum d) = ap last_value keys ∙ ap (option_map datum) (last_of-more (keys_of es) d) in
    record {
      same =
          h.same
          ∙ ap (mapped (pairs_before es)) (then_good (read_entry r q (last_value (keys_of es)) at t)
          (λ e. mapped (more_pairs e.key e.value) (read_entries r q (Some e.key) (at + size t) ts)) (record { key = datum d; value = val v }) ps qs f)
          ∙ before_more es d v qs next
          ∙ ap (λ l. mapped (pairs_before l) (with_pending qs next)) (sym new)
          ∙ ap (λ o. mapped (pairs_before fs) (with_pending qs (read_entries r q o (at + size t) ts))) (sym last);
      increasing = subst IsIncreasing (sym keys) (stays_increasing (keys_of es) d h.increasing b);
    }

pub entries_fault : (ps : List Pending) (whole : Literal Pairs) (r q : Reader) (es : List (Datum × Value)) (t : Tree) (ts : Trees) (at : ℕ) (qs : List Pending) (e : ValueError) →
    AreReadUpTo (with_pending ps whole) r q es at (more t ts) qs → IsFault (with_pending qs (read_entry r q (last_value (keys_of es)) at t)) e → IsFault (with_pending ps whole) e
entries_fault ps whole r q es t ts at qs (error.NotOfType l) h f =
    h.same ∙ ap (mapped (pairs_before es)) (then_bad (read_entry r q (last_value (keys_of es)) at t)
    (λ e. mapped (more_pairs e.key e.value) (read_entries r q (Some e.key) (at + size t) ts)) l qs f)
entries_fault ps whole r q es t ts at qs error.Memory h f = tt

pub entries_end : (ps : List Pending) (whole : Literal Pairs) (r q : Reader) (es : List (Datum × Value)) (at : ℕ) (qs : List Pending) →
    AreReadUpTo (with_pending ps whole) r q es at none qs → with_pending ps whole ≡ good (pairs es) qs
entries_end ps whole r q es at qs h = h.same ∙ ap (λ u. good u (qs ++ [])) (pairs_before-none es) ∙ ap (good (pairs es)) (append-nil qs)

-- ---- the same at the places of a slice

module _ (ns : List Node) (i : ℕ) (n : Node) (h : i < length ns) (e : n ≡ get_or ns i n) where
  at_place : (whole : Literal Pairs) (r q : Reader) (es : List (Datum × Value)) (at : ℕ) (ps : List Pending) → AreReadUpTo whole r q es at (trees (drop i ns)) ps →
      AreReadUpTo whole r q es at (more (tree n) (trees (drop (i + 1) ns))) ps
  at_place whole r q es at ps g = subst (λ ts. AreReadUpTo whole r q es at ts ps) (left_at ns i n h e) g

  pub entries_go : (whole : Literal Pairs) (r q : Reader) (es fs : List (Datum × Value)) (d : Datum) (v : Value) (o : Option (Bor Datum)) (at next : ℕ) (ps qs : List Pending) →
      AreReadUpTo whole r q es at (trees (drop i ns)) ps →
      with_pending ps (read_entry r q (option_map (λ y. datum y.now) o) at (tree n)) ≡ good (record { key = datum d; value = val v }) qs → next ≡ at + size (tree n) →
      is_behind (option_map (λ y. datum y.now) o) (datum d) ≡ true →
      option_map (λ y. y.now) o ≡ option_map (λ y. y.0) (slice_get es (length es - 1)) → fs ≡ with d v es →
      AreReadUpTo whole r q fs next (trees (drop (i + 1) ns)) qs
  entries_go whole r q es fs d v o at next ps qs g f k b l w =
      let last : option_map (λ y. datum y.now) o ≡ last_value (keys_of es) = last_key_told o es l in
      subst (λ j. AreReadUpTo whole r q fs j (trees (drop (i + 1) ns)) qs) (sym k)
      (entries_step whole r q es fs d v (tree n) (trees (drop (i + 1) ns)) at ps qs (at_place whole r q es at ps g)
      (ap (λ y. with_pending ps (read_entry r q y at (tree n))) (sym last) ∙ f) (ap (λ y. is_behind y (datum d)) (sym last) ∙ b) w)

  pub entries_fail : (ps : List Pending) (whole : Literal Pairs) (r q : Reader) (es : List (Datum × Value)) (o : Option (Bor Datum)) (at : ℕ) (qs : List Pending) (x : ValueError) →
      AreReadUpTo (with_pending ps whole) r q es at (trees (drop i ns)) qs → option_map (λ y. y.now) o ≡ option_map (λ y. y.0) (slice_get es (length es - 1)) →
      IsFault (with_pending qs (read_entry r q (option_map (λ y. datum y.now) o) at (tree n))) x → IsFault (with_pending ps whole) x
  entries_fail ps whole r q es o at qs x g l f =
      entries_fault ps whole r q es (tree n) (trees (drop (i + 1) ns)) at qs x (at_place (with_pending ps whole) r q es at qs g)
      (subst (λ y. IsFault (with_pending qs (read_entry r q y at (tree n))) x) (last_key_told o es l) f)

pub entries_done : (ns : List Node) (i : ℕ) → length ns ≤ i → (ps : List Pending) (whole : Literal Pairs) (r q : Reader) (es : List (Datum × Value)) (at : ℕ) (qs : List Pending) →
    AreReadUpTo (with_pending ps whole) r q es at (trees (drop i ns)) qs → with_pending ps whole ≡ good (pairs es) qs
entries_done ns i h ps whole r q es at qs g = entries_end ps whole r q es at qs (subst (λ ts. AreReadUpTo (with_pending ps whole) r q es at ts qs) (left_end ns i h) g)

-- ---- what is put into a big map

puts_are : (es : List (Datum × Value)) → put_pairs (map put_of es) ≡ pairs es
puts_are [] = refl
puts_are (e ∷ es) = ap (more_pairs (datum e.0) (val e.1)) (puts_are es)

put_keys : (es : List (Datum × Value)) → keys_of (map put_of es) ≡ keys_of es
put_keys [] = refl
put_keys (e ∷ es) = ap (λ ds. e.0 ∷ ds) (put_keys es)

put_whole : (a : Kind) (es : List (Datum × Value)) → AreWholeEntries a es → AllByRecursion (λ c. IsPut (IsWhole a) c.1) (map put_of es)
put_whole a [] h = tt
put_whole a (e ∷ es) h = (h.0, put_whole a es h.1)

-- an entry is put behind those before it
pub overlay_step : (cs ds : List (Datum × Option Value)) (left rest all : List (Datum × Value)) (d : Datum) (v : Value) →
    cs ++ map put_of left ≡ map put_of all → IsIncreasing (keys_of all) → left ≡ (d, v) ∷ rest → ds ≡ with d (Some v) cs → ds ++ map put_of rest ≡ map put_of all
overlay_step cs ds left rest all d v e s f g =
    table_step cs (map put_of left) (map put_of rest) (map put_of all) ds d d (Some v) (Some v) (ap (map put_of) f) e
    (subst IsIncreasing (sym (put_keys all)) s) refl refl g

pub overlay_end : (cs all : List (Datum × Option Value)) (left : List (Datum × Value)) → cs ++ map put_of left ≡ all → left ≡ [] → cs ≡ all
overlay_end cs all left e f = sym (append-nil cs) ∙ sym (ap (λ l. cs ++ map put_of l) f) ∙ e

-- the fields of a big map
pub big_opened : (b : BigMap) (l : BigMap-F Value BigMap) → b ≡ roll-BigMap l → out-BigMap b ≡ l
big_opened b l e = ap out-BigMap e ∙ out-roll-BigMap l

-- a big map that puts these entries
pub big_pairs_put : (b : BigMap) (es : List (Datum × Value)) → (out-BigMap b).overlay ≡ map put_of es → big_pairs b ≡ pairs es
big_pairs_put b es h = big_is b ∙ ap put_pairs h ∙ puts_are es

pub big_lies_whole : (a : Kind) (b : BigMap) (es : List (Datum × Value)) → (out-BigMap b).base ≡ None →
    (out-BigMap b).overlay ≡ map put_of es → IsIncreasing (keys_of es) → AreWholeEntries a es → LiesWhole (IsWhole a) b
big_lies_whole a b es alone puts increasing h = record {
  alone = alone;
  keys = subst IsIncreasing (sym (ap keys_of puts ∙ put_keys es)) increasing;
  puts = subst (AllByRecursion (λ c. IsPut (IsWhole a) c.1)) (sym puts) (put_whole a es h);
}
