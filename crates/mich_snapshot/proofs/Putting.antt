-- What is put behind what was there, and which binary forms in it are too long.
use Rattle.std.proofs.Common.{◌≡◌, ◌<◌, ◌≤◌, ◌+◌, ℕ, suc, Bool, true, false, ◌||◌, List, [], ◌∷◌, ◌++◌, length, get_or, drop, reverse, take, Some, None, Result, Ok, Err, refl, sym, ap, subst, ◌∙◌, append_assoc, append-nil, arith}
use denote.Param.Weighed.{most}
use Rattle.std.proofs.lemmas.List.{reverse-reverse}
use Rattle.std.specs.Prelude.{OnOk, if◌then◌else◌, option_map}
use Rattle.std.specs.declared.option.Option.{Option}
use Rattle.std.proofs.lemmas.List.Folds.{list_any-append}
use Rattle.std.specs.List.{list_any}
use Rattle.rules_text.specs.nodes.Tree.{Tree}
use Rattle.rules_text.specs.binary.Encoding.{spelt, too_long, no_code}
use Rattle.rules_text.specs.binary.Spelling.{field, spelling}
use Rattle.rules_data.specs.values.Val.{Pairs}
use Rattle.rules_files.specs.snapshots.Loading.{is_long}
use Rattle.rules_files.specs.snapshots.Spelling.{count_pairs, count_vals, eight, node_spelling}
use Rattle.mich_base.specs.declared.memory.Memory.{Memory}
use Rattle.mich_term.specs.View.{datums}
use Rattle.mich_term.specs.ValueView.{big_pairs, pairs, put_first, put_pairs, val, vals}
use Rattle.mich_term.specs.declared.datum.Datum.{Datum}
use Rattle.mich_term.specs.declared.value.Value.{Value}
use Rattle.mich_term.specs.declared.value.BigMap.{BigMap, out-BigMap}
use Rattle.mich_term.proofs.ForCallers.{big_is}
use Rattle.mich_snapshot.specs.declared.errors.SaveError.{SaveError}
use Rattle.mich_snapshot.specs.declared.errors.SaveError.TheVariants as errors
use Rattle.mich_snapshot.specs.Puts.{IsPut}
use Rattle.mich_snapshot.proofs.Fits.{turned_at}

-- ---- texts

pub put_both : (a b c x y : List ℕ) → b ≡ a ++ x → c ≡ b ++ y → c ≡ a ++ (x ++ y)
put_both a b c x y first second = second ∙ (ap (λ (l : List ℕ). l ++ y) first ∙ append_assoc a x y)

pub put_three : (a b c d x y z : List ℕ) → b ≡ a ++ x → c ≡ b ++ y → d ≡ c ++ z → d ≡ a ++ (x ++ (y ++ z))
put_three a b c d x y z first second third = put_both a b d x (y ++ z) first (put_both b c d y z second third)

pub put_four_parts : (a b c d e x y z w : List ℕ) → b ≡ a ++ x → c ≡ b ++ y → d ≡ c ++ z → e ≡ d ++ w → e ≡ a ++ (x ++ (y ++ (z ++ w)))
put_four_parts a b c d e x y z w first second third fourth = put_both a b e x (y ++ (z ++ w)) first (put_three b c d e y z w second third fourth)

-- one more is put of what is left
pub put_next : (a b x rest left whole : List ℕ) → b ≡ a ++ x → left ≡ x ++ rest → a ++ left ≡ whole → b ++ rest ≡ whole
put_next a b x rest left whole p f h =
    ap (λ (l : List ℕ). l ++ rest) p ∙ append_assoc a x rest ∙ ap (λ (l : List ℕ). a ++ l) (sym f) ∙ h

-- nothing is left
pub put_all : (a left whole : List ℕ) → left ≡ [] → a ++ left ≡ whole → a ≡ whole
put_all a left whole none h = sym (append-nil a) ∙ ap (λ (l : List ℕ). a ++ l) (sym none) ∙ h

-- ---- forms that are too long

none_of : (b c d : Bool) → b ≡ c || d → c ≡ false → d ≡ false → b ≡ false
none_of b c d e p q = e ∙ ap (λ (x : Bool). x || d) p ∙ q

first_of : (b c d : Bool) → b ≡ c || d → c ≡ true → b ≡ true
first_of b c d e p = e ∙ ap (λ (x : Bool). x || d) p

second_of : (b c d : Bool) → b ≡ c || d → c ≡ false → b ≡ d
second_of b c d e p = e ∙ ap (λ (x : Bool). x || d) p

abbrev pub any_long : List Tree → Bool
any_long = list_any is_long

pub long_next : (ts us : List Tree) (w : Bool) → any_long ts ≡ false → any_long (ts ++ us) ≡ w → any_long us ≡ w
long_next ts us w p h = sym (second_of (any_long (ts ++ us)) (any_long ts) (any_long us) (list_any-append is_long ts us) p) ∙ h

pub long_now : (ts us : List Tree) (w : Bool) → any_long ts ≡ true → any_long (ts ++ us) ≡ w → w ≡ true
long_now ts us w p h = sym h ∙ first_of (any_long (ts ++ us)) (any_long ts) (any_long us) (list_any-append is_long ts us) p

-- ---- both

-- a text without forms, and then one
pub put_behind : (a b c x y : List ℕ) (w : Bool) (r : Result (Unit {0}) SaveError) → b ≡ a ++ x → IsPut b c y w r → IsPut a c (x ++ y) w r
put_behind a b c x y w (Ok u) p h = (put_both a b c x y p h.0, h.1)
put_behind a b c x y w (Err errors.TooLong) p h = h
put_behind a b c x y w (Err errors.Memory) p h = tt

-- one, and then another
pub put_then : (a b c x y : List ℕ) (ts us : List Tree) (r : Result (Unit {0}) SaveError) → b ≡ a ++ x → any_long ts ≡ false → IsPut b c y (any_long us) r
    → IsPut a c (x ++ y) (any_long (ts ++ us)) r
put_then a b c x y ts us (Ok u) p q h =
    (put_both a b c x y p h.0, none_of (any_long (ts ++ us)) (any_long ts) (any_long us) (list_any-append is_long ts us) q h.1)
put_then a b c x y ts us (Err errors.TooLong) p q h = second_of (any_long (ts ++ us)) (any_long ts) (any_long us) (list_any-append is_long ts us) q ∙ h
put_then a b c x y ts us (Err errors.Memory) p q h = tt

-- the first of what is left isn't put
pub put_stops : (a b c d x y : List ℕ) (ts us : List Tree) (w : Bool) (e : SaveError)
    → IsPut a b x (any_long ts) (Err e) → any_long (ts ++ us) ≡ w → IsPut c d y w (Err e)
put_stops a b c d x y ts us w errors.TooLong h s = long_now ts us w h s
put_stops a b c d x y ts us w errors.Memory h s = tt

-- what isn't put says nothing of the bytes
pub put_other : (a b c d x y : List ℕ) (w : Bool) (e : SaveError) → IsPut a b x w (Err e) → IsPut c d y w (Err e)
put_other a b c d x y w errors.TooLong h = h
put_other a b c d x y w errors.Memory h = tt

-- the first of the forms isn't put
pub put_fails_at : (a b c d x y : List ℕ) (t : Tree) (us : List Tree) (e : SaveError)
    → IsPut a b x (is_long t) (Err e) → IsPut c d y (any_long (t ∷ us)) (Err e)
put_fails_at a b c d x y t us errors.TooLong h = ap (λ (q : Bool). q || any_long us) h
put_fails_at a b c d x y t us errors.Memory h = tt

-- a fact of what was done
pub on_ok : (P Q : Type 0) (r : Result (Unit {0}) Memory) → (P → Q) → OnOk r P → OnOk r Q
on_ok P Q (Ok u) f h = f h
on_ok P Q (Err e) f h = tt

-- ---- counts

pub list_counted : (vs : List Value) → count_vals (vals vs) ≡ length vs
list_counted [] = refl
list_counted (v ∷ vs) = ap suc (list_counted vs)

pub set_counted : (ds : List Datum) → count_vals (datums ds) ≡ length ds
set_counted [] = refl
set_counted (d ∷ ds) = ap suc (set_counted ds)

pub table_counted : (es : List (Datum × Value)) → count_pairs (pairs es) ≡ length es
table_counted [] = refl
table_counted (e ∷ es) = ap suc (table_counted es)

pub puts_counted : (cs : List (Datum × Option Value)) → count_pairs (put_pairs cs) ≤ length cs
puts_counted [] = omega arith
puts_counted (c ∷ cs) = at c.1 (puts_counted cs)
  where
    at : (o : Option Value) → count_pairs (put_pairs cs) ≤ length cs → count_pairs (put_first c.0 (option_map val o) (put_pairs cs)) ≤ suc (length cs)
    at (Some x) h = omega arith
    at None h = omega arith

pub big_counted : (m : BigMap) → count_pairs (big_pairs m) ≤ length (out-BigMap m).overlay
big_counted m = subst (λ (es : Pairs). count_pairs es ≤ length (out-BigMap m).overlay) (sym (big_is m)) (puts_counted (out-BigMap m).overlay)

-- a count, and what it counts
pub counted_first : (a b rest : List ℕ) (m n : ℕ) → b ≡ a ++ eight m → m ≡ n → b ++ rest ≡ a ++ (eight n ++ rest)
counted_first a b rest m n p e = ap (λ (l : List ℕ). l ++ rest) (p ∙ ap (λ (k : ℕ). a ++ eight k) e) ∙ append_assoc a (eight n) rest

-- ---- nodes

pub node_put : (a b : List ℕ) (t : Tree) (bytes : List ℕ) → spelt t ≡ Ok bytes → b ≡ a ++ field bytes → (b ≡ a ++ node_spelling t) × (is_long t ≡ false)
node_put a b t bytes h p = at (is_long t) refl h
  where
    at : (q : Bool) → is_long t ≡ q → (if q then Err too_long else Ok (spelling t)) ≡ Ok bytes → (b ≡ a ++ node_spelling t) × (is_long t ≡ false)
    at true e f = absurd cc
    at false e f = let same : bytes ≡ spelling t = cc in (p ∙ ap (λ (l : List ℕ). a ++ field l) same, e)

pub node_long : (t : Tree) → spelt t ≡ Err too_long → is_long t ≡ true
node_long t h = at (is_long t) h
  where
    at : (q : Bool) → (if q then Err too_long else Ok (spelling t)) ≡ Err too_long → q ≡ true
    at true f = refl
    at false f = absurd cc

pub node_coded : (t : Tree) (l : ℕ) → spelt t ≡ Err (no_code l) → ⊥
node_coded t l h = at (is_long t) h
  where
    at : (q : Bool) → (if q then Err too_long else Ok (spelling t)) ≡ Err (no_code l) → ⊥
    at true f = absurd cc
    at false f = absurd cc

-- ---- lists, whose heads are last

-- what is measured of a value is no more than the most of all
one_most : (h : Value → ℕ) (vs ws : List Value) (x : Value) → h x ≤ most h (vs ++ x ∷ ws)
one_most h [] ws x = omega arith
one_most h (v ∷ vs) ws x = let rest : h x ≤ most h (vs ++ x ∷ ws) = one_most h vs ws x in omega arith

pub turned_most : (h : Value → ℕ) (values items : List Value) (i : ℕ) (x : Value)
    → items ≡ reverse values → i < length items → x ≡ get_or items i x → h x ≤ most h values
turned_most h values items i x t p e =
    subst (λ (vs : List Value). h x ≤ most h vs) (sym (turned_at items i x p e) ∙ ap reverse t ∙ reverse-reverse values)
    (one_most h (reverse (drop (i + 1) items)) (reverse (take i items)) x)
