-- What `keep` and a note make of a store.
use Rattle.std.proofs.Common.{◌≡◌, ℕ, zero, suc, ◌+◌, ◌<◌, ◌-◌, take, get_or, ◌==◌, ◌||◌, ◌&&◌, Bool, true, false, List, [], ◌∷◌, ◌++◌, length, map, Some, None, refl, sym, ap, ◌∙◌, arith, subst, append-nil}
use Rattle.std.specs.Prelude.{is_some, option_map, if◌then◌else◌}
use Rattle.std.specs.List.{AllByRecursion}
use Rattle.std.specs.Map.{values_of}
use Rattle.mich_bigmap.specs.Bases.{Bases, Changes, base_at}
use Rattle.mich_bigmap.specs.Formed.{is_there}
use Rattle.mich_bigmap.specs.Kept.{has, kept_of, all_of, with_over, names, big_names, big_names_step, named_there, named_entry, named_change, changes_name}
use Rattle.mich_term.specs.declared.datum.Datum.{Datum}
use Rattle.mich_term.specs.declared.value.Value.{Value}
use Rattle.mich_term.specs.declared.value.Value.TheFolds.{map-BigMap}
use Rattle.mich_term.specs.declared.value.BigMap.{BigMap}
use Rattle.mich_bigmap.proofs.Standing.{opened}
use Rattle.std.proofs.lemmas.List.{map-append}
use Rattle.std.specs.declared.option.Option.{Option}
use Rattle.mich_bigmap.specs.Notes.{Notes}
use Rattle.mich_bigmap.specs.Marked.{mark_one, marked, clear_one, cleared}
use Rattle.mich_bigmap.specs.Stacked.{base_of, stacked, bases_of, number_of, AreLayers}
use Rattle.mich_bigmap.specs.Stored.{Stored, stored, with_kept, noted_of, history_of, below_each, IsStore}
use Rattle.mich_bigmap.specs.declared.layers.Layer.{Layer}
use Rattle.mich_bigmap.proofs.Journal.{below_none}
use Rattle.mich_bigmap.proofs.Noted.{there, has_marked, layers_noted, given_noted, stacked_noted, length_noted, base_of_marked, base_of_cleared, cleared_none}

pub keep_store : (ls ms : List Layer) (kept next : ℕ) → ms ≡ cleared ls → AreLayers ls → AllByRecursion (λ l. number_of l < next) ls → kept ≡ length ms → IsStore ms kept next
keep_store ls ms kept next e a g k = record {
  layers = subst AreLayers (sym e) (layers_noted clear_one base_of_cleared ls a);
  given = subst (λ (x : List Layer). AllByRecursion (λ l. number_of l < next) x) (sym e) (given_noted clear_one base_of_cleared next ls g);
  within = omega (arith, k);
}

pub keep_stored : (old ls ms : List Layer) (before kept : ℕ) → ms ≡ cleared ls → bases_of ls ≡ kept_of (noted_of old) (bases_of old) → kept ≡ length ms → stored ms kept ≡ with_kept (stored old before)
keep_stored old ls ms before kept e b k =
    let none : length ms - kept ≡ 0 = omega (arith, k) in
    let bases : bases_of ms ≡ kept_of (noted_of old) (bases_of old) = ap bases_of e ∙ stacked_noted clear_one base_of_cleared ls [] ∙ b in
    let noted : noted_of ms ≡ [] = ap noted_of e ∙ cleared_none ls in
    let past : below_each (length ms - kept) (bases_of ms) ≡ [] = ap (λ n. below_each n (bases_of ms)) none ∙ below_none (bases_of ms) in
    λ i. record { bases = record { present = bases i; past = past i }; noted = noted i }

pub note_store : (k : ℕ) (ls ms : List Layer) (kept next : ℕ) → ms ≡ marked k ls → IsStore ls kept next → IsStore ms kept next
note_store k ls ms kept next e s = subst (λ (x : List Layer). IsStore x kept next) (sym e) (record {
  layers = layers_noted (mark_one k) (base_of_marked k) ls s.layers;
  given = given_noted (mark_one k) (base_of_marked k) next ls s.given;
  within = omega (arith, length_noted (mark_one k) ls, s.within);
})

pub note_bases : (k : ℕ) (ls ms : List Layer) (kept : ℕ) → ms ≡ marked k ls → history_of (bases_of ms) (length ms - kept) ≡ history_of (bases_of ls) (length ls - kept)
note_bases k ls ms kept e =
    ap (λ (x : List Layer). history_of (bases_of x) (length x - kept)) e
    ∙ (λ i. history_of (stacked_noted (mark_one k) (base_of_marked k) ls [] i) (length_noted (mark_one k) ls i - kept))

there_is : (j : ℕ) (ls : List Layer) (bs : Bases) → is_some (base_at (stacked ls bs) j) ≡ (there j ls || is_some (base_at bs j))
there_is j [] bs = refl
there_is j (l ∷ ls) bs = there_is j ls (base_of l ∷ bs) ∙ step (l.number == j) (there j ls)
  where
    step : (b c : Bool) → (c || is_some (if b then Some (base_of l, bs) else base_at bs j)) ≡ ((b || c) || is_some (base_at bs j))
    step true true = refl
    step true false = refl
    step false true = refl
    step false false = refl

pub note_noted : (k : ℕ) (ls ms : List Layer) (j : ℕ) → ms ≡ marked k ls → has j (noted_of ms) ≡ (has j (noted_of ls) || ((k == j) && is_there (bases_of ls) (Some j)))
note_noted k ls ms j e =
    ap (λ (x : List Layer). has j (noted_of x)) e ∙ has_marked k j ls
    ∙ ap (λ t. ((k == j) && t) || has j (noted_of ls)) (or_false (there j ls) ∙ sym (there_is j ls []))
    ∙ turn ((k == j) && is_some (base_at (bases_of ls) j)) (has j (noted_of ls))
  where
    or_false : (b : Bool) → b ≡ (b || false)
    or_false true = refl
    or_false false = refl

    turn : (a b : Bool) → (a || b) ≡ (b || a)
    turn true true = refl
    turn true false = refl
    turn false true = refl
    turn false false = refl

-- ---- notes of many

pub notes_none : (s : Stored) → Notes [] s s
notes_none s = record { bases = refl; noted = λ k. step (has k s.noted) }
  where
    step : (b : Bool) → b ≡ (b || (false && true))
    step true = refl
    step false = refl

pub has_append : (k : ℕ) (ns ms : List ℕ) → has k (ns ++ ms) ≡ (has k ns || has k ms)
has_append k [] ms = refl
has_append k (n ∷ ns) ms = ap (λ t. (n == k) || t) (has_append k ns ms) ∙ assoc (n == k) (has k ns) (has k ms)
  where
    assoc : (a b c : Bool) → (a || (b || c)) ≡ ((a || b) || c)
    assoc true b c = refl
    assoc false b c = refl

pub notes_append : (ns ms : List ℕ) (a b c : Stored) → Notes ns a b → Notes ms b c → Notes (ns ++ ms) a c
notes_append ns ms a b c p q = record {
  bases = q.bases ∙ p.bases;
  noted = λ k.
      q.noted k
      ∙ (λ i. p.noted k i || (has k ms && is_there (p.bases i).present (Some k)))
      ∙ join (has k a.noted) (has k ns) (has k ms) (is_there a.bases.present (Some k))
      ∙ ap (λ t. has k a.noted || (t && is_there a.bases.present (Some k))) (sym (has_append k ns ms));
}
  where
    join : (x n m t : Bool) → ((x || (n && t)) || (m && t)) ≡ (x || ((n || m) && t))
    join true n m t = refl
    join false true true true = refl
    join false true true false = refl
    join false true false true = refl
    join false true false false = refl
    join false false m t = refl

all_last : (nss : List (List ℕ)) (ns : List ℕ) → all_of (nss ++ ns ∷ []) ≡ all_of nss ++ ns
all_last [] ns = append-nil ns
all_last (x ∷ nss) ns = ap (λ t. x ++ t) (all_last nss ns) ∙ assoc x (all_of nss) ns
  where
    assoc : (x y z : List ℕ) → x ++ (y ++ z) ≡ (x ++ y) ++ z
    assoc [] y z = refl
    assoc (a ∷ x) y z = ap (λ t. a ∷ t) (assoc x y z)

pub notes_next : (nss mss : List (List ℕ)) (ns : List ℕ) (a b c : Stored) → mss ≡ nss ++ ns ∷ [] → Notes (all_of nss) a b → Notes ns b c → Notes (all_of mss) a c
notes_next nss mss ns a b c e p q = subst (λ (x : List ℕ). Notes x a c) (sym (ap all_of e ∙ all_last nss ns)) (notes_append (all_of nss) ns a b c p q)

changes_last : (cs : List (Datum × Option (List ℕ))) (c : Datum × Option (List ℕ)) → changes_name (cs ++ c ∷ []) ≡ changes_name cs ++ named_there c.1
changes_last [] c = append-nil (named_there c.1)
changes_last (x ∷ cs) c = ap (λ t. named_there x.1 ++ t) (changes_last cs c) ∙ assoc (named_there x.1) (changes_name cs) (named_there c.1)
  where
    assoc : (x y z : List ℕ) → x ++ (y ++ z) ≡ (x ++ y) ++ z
    assoc [] y z = refl
    assoc (a ∷ x) y z = ap (λ t. a ∷ t) (assoc x y z)

-- one change more
pub changes_next : (cs ds : Changes) (c : Datum × Option Value) (a b d : Stored) → ds ≡ cs ++ c ∷ [] → Notes (changes_name (map named_change cs)) a b → Notes (named_there (option_map names c.1)) b d → Notes (changes_name (map named_change ds)) a d
changes_next cs ds c a b d e p q =
    let n : changes_name (map named_change ds) ≡ changes_name (map named_change cs) ++ named_there (option_map names c.1)
    = ap (λ x. changes_name (map named_change x)) e ∙ ap changes_name (map-append named_change cs (c ∷ [])) ∙ changes_last (map named_change cs) (named_change c) in
    subst (λ (x : List ℕ). Notes x a d) (sym n) (notes_append (changes_name (map named_change cs)) (named_there (option_map names c.1)) a b d p q)

-- what a big map names
pub opened_names : (base : Option ℕ) (cs : Changes)
    → big_names_step (map-BigMap Value BigMap (List ℕ) (List ℕ) names big_names (opened base cs)) ≡ with_over base [] ++ changes_name (map named_change cs)
opened_names base cs = ap (λ t. with_over base [] ++ t) (go cs)
  where
    go : (es : Changes) → changes_name (map-BigMap Value BigMap (List ℕ) (List ℕ) names big_names (opened base es)).overlay ≡ changes_name (map named_change es)
    go [] = refl
    go (e ∷ es) = by_case e.1 (go es)
      where
        by_case : (o : Option Value) → changes_name (map-BigMap Value BigMap (List ℕ) (List ℕ) names big_names (opened base es)).overlay ≡ changes_name (map named_change es)
            → changes_name (map-BigMap Value BigMap (List ℕ) (List ℕ) names big_names (opened base ((e.0, o) ∷ es))).overlay ≡ changes_name (map named_change ((e.0, o) ∷ es))
        by_case None later = later
        by_case (Some v) later = ap (λ t. names v ++ t) later

pub taken_more : {A : Type 0} (xs : List A) (i : ℕ) (d : A) → i < length xs → take (i + 1) xs ≡ take i xs ++ get_or xs i d ∷ []
taken_more xs i d lt = let one : i + 1 ≡ suc i = omega arith in ap (λ n. take n xs) one ∙ go xs i d lt
  where
    go : {A : Type 0} (xs : List A) (i : ℕ) (d : A) → i < length xs → take (suc i) xs ≡ take i xs ++ get_or xs i d ∷ []
    go [] i d lt = absurd (omega arith)
    go (x ∷ xs) zero d lt = refl
    go (x ∷ xs) (suc i) d lt = ap (λ t. x ∷ t) (go xs i d (omega arith))

-- the order in which numbers are noted makes no difference
notes_swapped : (ns ms : List ℕ) (a b : Stored) → Notes (ns ++ ms) a b → Notes (ms ++ ns) a b
notes_swapped ns ms a b p = record {
  bases = p.bases;
  noted = λ k.
      p.noted k
      ∙ ap (λ t. has k a.noted || (t && is_there a.bases.present (Some k))) (has_append k ns ms ∙ swapped (has k ns) (has k ms) ∙ sym (has_append k ms ns));
}
  where
    swapped : (x y : Bool) → (x || y) ≡ (y || x)
    swapped true true = refl
    swapped true false = refl
    swapped false true = refl
    swapped false false = refl

pub values_before : (vs ws : List Value) (v : Value) (a b c : Stored) → ws ≡ v ∷ vs → Notes (all_of (map names vs)) a b → Notes (names v) b c → Notes (all_of (map names ws)) a c
values_before vs ws v a b c e p q =
    subst (λ (l : List Value). Notes (all_of (map names l)) a c) (sym e)
    (notes_swapped (all_of (map names vs)) (names v) a c (notes_append (all_of (map names vs)) (names v) a b c p q))

pub entries_next : (es : List (Datum × Value)) (e : Datum × Value) (a b c : Stored) → Notes (all_of (values_of (map named_entry es))) a b → Notes (names e.1) b c → Notes (all_of (values_of (map named_entry (es ++ e ∷ [])))) a c
entries_next es e a b c p q = notes_next (values_of (map named_entry es)) (values_of (map named_entry (es ++ e ∷ []))) (names e.1) a b c
    (ap values_of (map-append named_entry es (e ∷ [])) ∙ map-append (λ x. x.1) (map named_entry es) (named_entry e ∷ [])) p q
