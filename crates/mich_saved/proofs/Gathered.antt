-- Elements and entries that are in order, as sets, maps and big maps hold them.
use Rattle.std.proofs.Common.{◌≡◌, Bool, true, false, cond, ◌&&◌, List, [], ◌∷◌, ◌++◌, map, Option, Some, None, refl, sym, ap, subst, ◌∙◌, append_assoc}
use Rattle.std.proofs.lemmas.List.{append-nil}
use Rattle.std.specs.List.{AllByRecursion}
use Rattle.std.specs.List.Sorted.{IsStrictlySortedBy}
use Rattle.std.specs.Map.{keys_of}
use Rattle.std.specs.Ordering.{is_lt}
use Rattle.std.specs.declared.cmp.Ordering.{Ordering}
use Rattle.std.specs.declared.cmp.Ordering.TheVariants.{Less, Equal, Greater}
use Rattle.rules_data.specs.values.Val.{Val, Vals, more_vals, Pairs}
use Rattle.rules_data.specs.values.Val as v
use Rattle.rules_data.specs.values.Order.{order}
use Rattle.rules_files.specs.snapshots.Rules.{are_increasing, keys}
use Rattle.mich_term.specs.Keyed.{IsIncreasing, by, put, with}
use Rattle.mich_term.specs.View.{datum, datums}
use Rattle.mich_term.specs.ValueView.{val, pairs, put_pairs, big_pairs}
use Rattle.mich_term.specs.declared.datum.Datum.{Datum}
use Rattle.mich_term.specs.declared.value.Value.{Value}
use Rattle.mich_term.specs.declared.value.BigMap.{BigMap, out-BigMap, roll-BigMap, out-roll-BigMap}
use Rattle.mich_term.specs.declared.value.Value.TheOpen.{BigMap-F}
use Rattle.mich_term.proofs.ForCallers.{by_lawful, put_last, table_step, with_last, big_is}
use Rattle.mich_saved.specs.Kept.{in_order, set_kept}
use Rattle.mich_saved.specs.Pushes.{put_of}

-- ---- in order one by one

and_first : (a b : Bool) → a && b ≡ true → a ≡ true
and_first true b e = refl
and_first false b e = e

and_second : (a b : Bool) → a && b ≡ true → b ≡ true
and_second true b e = e
and_second false b e = absurd cc

less : (o : Ordering) → is_lt o ≡ true → o ≡ Less
less Less e = refl
less Equal e = absurd cc
less Greater e = absurd cc

above_all : (d x : Datum) (ds : List Datum) → by d x ≡ Less → AllByRecursion (λ y. by x y ≡ Less) ds → AllByRecursion (λ y. by d y ≡ Less) ds
above_all d x [] h all = tt
above_all d x (y ∷ ds) h all = (by_lawful.trans d x y h all.0, above_all d x ds h all.1)

all_above : (d : Datum) (ds : List Datum) → are_increasing (datums (d ∷ ds)) ≡ true → AllByRecursion (λ y. by d y ≡ Less) ds
all_above d [] h = tt
all_above d (e ∷ es) h =
    let first : by d e ≡ Less = less (by d e) (and_first (is_lt (by d e)) (are_increasing (datums (e ∷ es))) h) in
    (first, above_all d e es first (all_above e es (and_second (is_lt (by d e)) (are_increasing (datums (e ∷ es))) h)))

behind_first : (d : Datum) (ds : List Datum) → are_increasing (datums (d ∷ ds)) ≡ true → are_increasing (datums ds) ≡ true
behind_first d [] h = refl
behind_first d (e ∷ es) h = and_second (is_lt (by d e)) (are_increasing (datums (e ∷ es))) h

pub sorted : (ds : List Datum) → are_increasing (datums ds) ≡ true → IsIncreasing ds
unfolding IsStrictlySortedBy
sorted [] h = tt
sorted (d ∷ ds) h = (all_above d ds h, sorted ds (behind_first d ds h))

keys_are : (es : List (Datum × Value)) → keys (pairs es) ≡ datums (keys_of es)
keys_are [] = refl
keys_are (e ∷ es) = ap (more_vals (datum e.0)) (keys_are es)

pub sorted_keys : (es : List (Datum × Value)) → are_increasing (keys (pairs es)) ≡ true → IsIncreasing (keys_of es)
sorted_keys es h = sorted (keys_of es) (ap are_increasing (sym (keys_are es)) ∙ h)

-- ---- the tests

below_next : (x y : Val) (ys : Vals) (w : Bool) → is_lt (order x y) ≡ true → are_increasing (more_vals x (more_vals y ys)) ≡ w → are_increasing (more_vals y ys) ≡ w
below_next x y ys w lt so_far = sym (ap (λ (b : Bool). b && are_increasing (more_vals y ys)) lt) ∙ so_far

not_below : (x y : Val) (ys : Vals) (w : Bool) → is_lt (order x y) ≡ false → are_increasing (more_vals x (more_vals y ys)) ≡ w → false ≡ w
not_below x y ys w lt so_far = sym (ap (λ (b : Bool). b && are_increasing (more_vals y ys)) lt) ∙ so_far

pub order_goes : (before x : Datum) (left rest : List Datum) (o : Ordering) (w : Bool) → left ≡ x ∷ rest → o ≡ order (datum before) (datum x) → is_lt o ≡ true
    → are_increasing (more_vals (datum before) (datums left)) ≡ w → are_increasing (more_vals (datum x) (datums rest)) ≡ w
order_goes before x left rest o w is same lt so_far =
    below_next (datum before) (datum x) (datums rest) w (ap is_lt (sym same) ∙ lt) (sym (ap (λ (ds : List Datum). are_increasing (more_vals (datum before) (datums ds))) is) ∙ so_far)

pub order_fails : (before x : Datum) (left rest : List Datum) (o : Ordering) (w : Bool) → left ≡ x ∷ rest → o ≡ order (datum before) (datum x) → is_lt o ≡ false
    → are_increasing (more_vals (datum before) (datums left)) ≡ w → false ≡ w
order_fails before x left rest o w is same lt so_far =
    not_below (datum before) (datum x) (datums rest) w (ap is_lt (sym same) ∙ lt) (sym (ap (λ (ds : List Datum). are_increasing (more_vals (datum before) (datums ds))) is) ∙ so_far)

pub order_ends : (before : Datum) (left : List Datum) (w : Bool) → left ≡ [] → are_increasing (more_vals (datum before) (datums left)) ≡ w → true ≡ w
order_ends before left w is so_far = sym (ap (λ (ds : List Datum). are_increasing (more_vals (datum before) (datums ds))) is) ∙ so_far

pub keys_go : (before : Datum) (x : Datum × Value) (left rest : List (Datum × Value)) (o : Ordering) (w : Bool) → left ≡ x ∷ rest → o ≡ order (datum before) (datum x.0) → is_lt o ≡ true
    → are_increasing (more_vals (datum before) (keys (pairs left))) ≡ w → are_increasing (more_vals (datum x.0) (keys (pairs rest))) ≡ w
keys_go before x left rest o w is same lt so_far =
    below_next (datum before) (datum x.0) (keys (pairs rest)) w (ap is_lt (sym same) ∙ lt)
    (sym (ap (λ (es : List (Datum × Value)). are_increasing (more_vals (datum before) (keys (pairs es)))) is) ∙ so_far)

pub keys_fail : (before : Datum) (x : Datum × Value) (left rest : List (Datum × Value)) (o : Ordering) (w : Bool) → left ≡ x ∷ rest → o ≡ order (datum before) (datum x.0) → is_lt o ≡ false
    → are_increasing (more_vals (datum before) (keys (pairs left))) ≡ w → false ≡ w
keys_fail before x left rest o w is same lt so_far =
    not_below (datum before) (datum x.0) (keys (pairs rest)) w (ap is_lt (sym same) ∙ lt)
    (sym (ap (λ (es : List (Datum × Value)). are_increasing (more_vals (datum before) (keys (pairs es)))) is) ∙ so_far)

pub keys_end : (before : Datum) (left : List (Datum × Value)) (w : Bool) → left ≡ [] → are_increasing (more_vals (datum before) (keys (pairs left))) ≡ w → true ≡ w
keys_end before left w is so_far = sym (ap (λ (es : List (Datum × Value)). are_increasing (more_vals (datum before) (keys (pairs es)))) is) ∙ so_far

-- ---- sets and maps are filled from their least element on

pub set_goes : (kept iter rest all new : List Datum) (x : Datum) → iter ≡ x ∷ rest → are_increasing (datums all) ≡ true → kept ++ iter ≡ all → new ≡ put x kept → new ++ rest ≡ all
set_goes kept iter rest all new x step s so_far n =
    let whole : kept ++ x ∷ rest ≡ all = ap (λ (l : List Datum). kept ++ l) (sym step) ∙ so_far in
    ap (λ (l : List Datum). l ++ rest) (n ∙ put_last by_lawful kept rest x (subst IsIncreasing (sym whole) (sorted all s))) ∙ (append_assoc kept (x ∷ []) rest ∙ whole)

pub set_ends : (kept iter all : List Datum) → iter ≡ [] → kept ++ iter ≡ all → kept ≡ all
set_ends kept iter all e so_far = sym (append-nil kept) ∙ (sym (ap (λ (l : List Datum). kept ++ l) e) ∙ so_far)

pub map_goes : (kept iter rest all new : List (Datum × Value)) (k : Datum) (x : Value) → iter ≡ (k, x) ∷ rest → are_increasing (keys (pairs all)) ≡ true → kept ++ iter ≡ all
    → new ≡ with k x kept → new ++ rest ≡ all
map_goes kept iter rest all new k x step s so_far n =
    let whole : kept ++ (k, x) ∷ rest ≡ all = ap (λ (l : List (Datum × Value)). kept ++ l) (sym step) ∙ so_far in
    ap (λ (l : List (Datum × Value)). l ++ rest) (n ∙ with_last by_lawful kept rest k x (subst (λ (l : List (Datum × Value)). IsIncreasing (keys_of l)) (sym whole) (sorted_keys all s)))
    ∙ (append_assoc kept ((k, x) ∷ []) rest ∙ whole)

pub map_ends : (kept iter all : List (Datum × Value)) → iter ≡ [] → kept ++ iter ≡ all → kept ≡ all
map_ends kept iter all e so_far = sym (append-nil kept) ∙ (sym (ap (λ (l : List (Datum × Value)). kept ++ l) e) ∙ so_far)

pub put_keys : (es : List (Datum × Value)) → keys_of (map put_of es) ≡ keys_of es
put_keys [] = refl
put_keys (e ∷ es) = ap (λ (ds : List Datum). e.0 ∷ ds) (put_keys es)

pub overlay_goes : (cs ds : List (Datum × Option Value)) (left rest all : List (Datum × Value)) (k : Datum) (x : Value) → left ≡ (k, x) ∷ rest
    → are_increasing (keys (pairs all)) ≡ true → cs ++ map put_of left ≡ map put_of all → ds ≡ with k (Some x) cs → ds ++ map put_of rest ≡ map put_of all
overlay_goes cs ds left rest all k x f s e g =
    table_step cs (map put_of left) (map put_of rest) (map put_of all) ds k k (Some x) (Some x) (ap (map put_of) f) e
    (subst IsIncreasing (sym (put_keys all)) (sorted_keys all s)) refl refl g

pub overlay_ends : (cs all : List (Datum × Option Value)) (left : List (Datum × Value)) → left ≡ [] → cs ++ map put_of left ≡ all → cs ≡ all
overlay_ends cs all left f e = sym (append-nil cs) ∙ (sym (ap (λ (l : List (Datum × Value)). cs ++ map put_of l) f) ∙ e)

-- ---- what is kept

pub set_is_kept : (ds es : List Datum) (b : Bool) → b ≡ are_increasing (datums ds) → b ≡ true → es ≡ ds → Some (v.set (datums es)) ≡ set_kept (datums ds)
set_is_kept ds es b h t e =
    ap (λ (l : List Datum). Some (v.set (datums l))) e ∙ sym (ap (λ (w : Bool). cond w (Some (v.set (datums ds))) None) (sym h ∙ t))

pub set_is_left : (ds : List Datum) (b : Bool) → b ≡ are_increasing (datums ds) → b ≡ false → None ≡ set_kept (datums ds)
set_is_left ds b h f = sym (ap (λ (w : Bool). cond w (Some (v.set (datums ds))) None) (sym h ∙ f))

pub entries_are_left : (made : Pairs → Val) (es : List (Datum × Value)) (b : Bool) → b ≡ are_increasing (keys (pairs es)) → b ≡ false → None ≡ in_order made (Some (pairs es))
entries_are_left made es b h f = sym (ap (λ (w : Bool). cond w (Some (made (pairs es))) None) (sym h ∙ f))

kept_in_order : (made : Pairs → Val) (es : List (Datum × Value)) (b : Bool) → b ≡ are_increasing (keys (pairs es)) → b ≡ true → Some (made (pairs es)) ≡ in_order made (Some (pairs es))
kept_in_order made es b h t = sym (ap (λ (w : Bool). cond w (Some (made (pairs es))) None) (sym h ∙ t))

pub map_is_kept : (es fs : List (Datum × Value)) (b : Bool) → b ≡ are_increasing (keys (pairs es)) → b ≡ true → fs ≡ es → Some (v.table (pairs fs)) ≡ in_order v.table (Some (pairs es))
map_is_kept es fs b h t e = ap (λ (l : List (Datum × Value)). Some (v.table (pairs l))) e ∙ kept_in_order v.table es b h t

pub big_is_kept : (es : List (Datum × Value)) (x : Val) (b : Bool) → b ≡ are_increasing (keys (pairs es)) → b ≡ true → x ≡ v.big_table (pairs es) → Some x ≡ in_order v.big_table (Some (pairs es))
big_is_kept es x b h t e = ap Some e ∙ kept_in_order v.big_table es b h t

-- ---- the entries that a big map puts

puts_are : (es : List (Datum × Value)) → put_pairs (map put_of es) ≡ pairs es
puts_are [] = refl
puts_are (e ∷ es) = ap (v.more_pairs (datum e.0) (val e.1)) (puts_are es)

pub big_opened : (b : BigMap) (l : BigMap-F Value BigMap) → b ≡ roll-BigMap l → out-BigMap b ≡ l
big_opened b l e = ap out-BigMap e ∙ out-roll-BigMap l

pub big_pairs_put : (b : BigMap) (es : List (Datum × Value)) → (out-BigMap b).overlay ≡ map put_of es → big_pairs b ≡ pairs es
big_pairs_put b es h = big_is b ∙ (ap put_pairs h ∙ puts_are es)
