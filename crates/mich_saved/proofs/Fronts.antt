-- Values read one behind the other, as a loop reads them.
use Rattle.std.proofs.Common.{◌≡◌, ℕ, suc, ◌-◌, ◌+◌, ◌≤◌, ◌<◌, List, [], ◌∷◌, ◌++◌, map, Option, Some, None, option_map, Result, Ok, Err, refl, sym, ap, ◌∙◌, arith}
use Rattle.std.proofs.lemmas.List.{map_push}
use Rattle.rules_text.specs.binary.Reading.{Spot}
use Rattle.rules_data.specs.values.Val.{Val, Vals, no_val, more_vals, Pairs, no_pair}
use Rattle.rules_files.specs.snapshots.Reading.{Reader, ◌>>=◌, vals_at}
use Rattle.mich_term.specs.View.{datum, vals_of, pairs_of}
use Rattle.mich_term.specs.ValueView.{val, vals, entry, pairs}
use Rattle.mich_term.specs.declared.datum.Datum.{Datum}
use Rattle.mich_term.specs.declared.value.Value.{Value}
use Rattle.mich_saved.specs.Kept.{item_kept, items_kept_at, entry_kept, pairs_kept_at}
use Rattle.mich_saved.specs.Pushes.{pushed, entry_pushed}
use Rattle.mich_saved.specs.Results.{Fails}
use Rattle.mich_saved.specs.declared.errors.LoadError.{LoadError}
use Rattle.mich_saved.specs.declared.errors.LoadError.TheVariants as errors

-- a read that failed, failed with the whole
pub fails_with : {A B : Type 0} (e : LoadError) (read : Result A ℕ) (whole : Result B ℕ) → ((place : ℕ) → read ≡ Err place → whole ≡ Err place) → Fails e read → Fails e whole
fails_with errors.Memory read whole h f = tt
fails_with (errors.BadForm place) read whole h f = h place f
fails_with (errors.Unsound place) read whole h f = absurd f

-- ---- values that are kept

abbrev pub ahead : Option (List Val) → Option Vals → Option Vals
ahead None xs = None
ahead (Some []) xs = xs
ahead (Some (y ∷ ys)) xs = item_kept (Some y) (ahead (Some ys) xs)

abbrev pub more : Option (List Val) → Option Val → Option (List Val)
more (Some ys) (Some y) = Some (ys ++ y ∷ [])
more ys y = None

-- what was read before, and what is still read
abbrev pub with_front : Option (List Val) → Result (Option Vals × Spot) ℕ → Result (Option Vals × Spot) ℕ
with_front front read = read >>= λ x. Ok (ahead front x.0, x.1)

none_ahead : (y : Val) → item_kept (Some y) None ≡ None
none_ahead y = refl

ahead_more : (front : Option (List Val)) (o : Option Val) (xs : Option Vals) → ahead front (item_kept o xs) ≡ ahead (more front o) xs
ahead_more None o xs = refl
ahead_more (Some []) (Some y) xs = refl
ahead_more (Some []) None xs = refl
ahead_more (Some (z ∷ zs)) (Some y) xs = ap (item_kept (Some z)) (ahead_more (Some zs) (Some y) xs)
ahead_more (Some (z ∷ zs)) None xs = ap (item_kept (Some z)) (ahead_more (Some zs) None xs)

ahead_end : (front : Option (List Val)) → ahead front (Some no_val) ≡ option_map vals_of front
ahead_end None = refl
ahead_end (Some []) = refl
ahead_end (Some (y ∷ ys)) = ap (item_kept (Some y)) (ahead_end (Some ys))

regroup : (front : Option (List Val)) (o : Option Val) (read : Result (Option Vals × Spot) ℕ) → with_front front (read >>= λ xs. Ok (item_kept o xs.0, xs.1)) ≡ with_front (more front o) read
regroup front o (Ok x) = ap (λ (xs : Option Vals). Ok (xs, x.1)) (ahead_more front o x.0)
regroup front o (Err place) = refl

-- the values of the code
abbrev pub seen : Option (List Value) → Option (List Val)
seen kept = option_map (map val) kept

pub pushed_seen : (kept : Option (List Value)) (v : Option Value) → seen (pushed kept v) ≡ more (seen kept) (option_map val v)
pushed_seen (Some vs) (Some v) = ap Some (map_push val vs v)
pushed_seen (Some vs) None = refl
pushed_seen None v = refl

pub goes_on : (item : Reader (Option Val)) (kept after_kept : Option (List Value)) (v : Option Value) (count i : ℕ) (here after : Spot) (whole : Result (Option Vals × Spot) ℕ) → i < count
    → item here ≡ Ok (option_map val v, after) → after_kept ≡ pushed kept v
    → with_front (seen kept) (items_kept_at item (count - i) here) ≡ whole → with_front (seen after_kept) (items_kept_at item (count - (i + 1)) after) ≡ whole
goes_on item kept after_kept v count i here after whole lt h p so_far =
    let k : count - i ≡ suc (count - (i + 1)) = omega arith in
    let one : with_front (seen kept) (items_kept_at item (count - i) here) ≡ with_front (more (seen kept) (option_map val v)) (items_kept_at item (count - (i + 1)) after) = rw (k, h) (regroup (seen kept) (option_map val v) (items_kept_at item (count - (i + 1)) after)) in
    let same : seen after_kept ≡ more (seen kept) (option_map val v) = ap seen p ∙ pushed_seen kept v in
    ap (λ f. with_front f (items_kept_at item (count - (i + 1)) after)) same ∙ (sym one ∙ so_far)

pub ends : (e : LoadError) (item : Reader (Option Val)) (kept : Option (List Value)) (count i : ℕ) (here : Spot) (whole : Result (Option Vals × Spot) ℕ) → i < count → Fails e (item here)
    → with_front (seen kept) (items_kept_at item (count - i) here) ≡ whole → Fails e whole
ends e item kept count i here whole lt f so_far =
    let k : count - i ≡ suc (count - (i + 1)) = omega arith in
    let failed : (place : ℕ) → item here ≡ Err place → whole ≡ Err place = λ place h.
    let one : with_front (seen kept) (items_kept_at item (count - i) here) ≡ Err place = rw (k, h) refl in sym so_far ∙ one in
    fails_with e (item here) whole failed f

seen_vals : (kept : Option (List Value)) → option_map vals_of (seen kept) ≡ option_map vals kept
seen_vals (Some vs) = refl
seen_vals None = refl

pub is_done : (item : Reader (Option Val)) (kept : Option (List Value)) (count i : ℕ) (here : Spot) (whole : Result (Option Vals × Spot) ℕ) → count ≤ i
    → with_front (seen kept) (items_kept_at item (count - i) here) ≡ whole → whole ≡ Ok (option_map vals kept, here)
is_done item kept count i here whole le so_far =
    let k : count - i ≡ 0 = omega arith in
    let one : with_front (seen kept) (items_kept_at item (count - i) here) ≡ Ok (option_map vals_of (seen kept), here) = rw k (ap (λ (xs : Option Vals). Ok (xs, here)) (ahead_end (seen kept))) in
    sym so_far ∙ (one ∙ ap (λ (xs : Option Vals). Ok (xs, here)) (seen_vals kept))

-- ---- comparable values

abbrev pub vals_ahead : List Val → Vals → Vals
vals_ahead [] xs = xs
vals_ahead (y ∷ ys) xs = more_vals y (vals_ahead ys xs)

abbrev pub with_vals : List Val → Result (Vals × Spot) ℕ → Result (Vals × Spot) ℕ
with_vals front read = read >>= λ x. Ok (vals_ahead front x.0, x.1)

vals_more : (front : List Val) (y : Val) (xs : Vals) → vals_ahead front (more_vals y xs) ≡ vals_ahead (front ++ y ∷ []) xs
vals_more [] y xs = refl
vals_more (z ∷ zs) y xs = ap (more_vals z) (vals_more zs y xs)

vals_end : (front : List Val) → vals_ahead front no_val ≡ vals_of front
vals_end [] = refl
vals_end (y ∷ ys) = ap (more_vals y) (vals_end ys)

regroup_vals : (front : List Val) (y : Val) (read : Result (Vals × Spot) ℕ) → with_vals front (read >>= λ xs. Ok (more_vals y xs.0, xs.1)) ≡ with_vals (front ++ y ∷ []) read
regroup_vals front y (Ok x) = ap (λ (xs : Vals). Ok (xs, x.1)) (vals_more front y x.0)
regroup_vals front y (Err place) = refl

pub vals_go_on : (item : Reader Val) (ds es : List Datum) (d : Datum) (count i : ℕ) (here after : Spot) (whole : Result (Vals × Spot) ℕ) → i < count
    → item here ≡ Ok (datum d, after) → es ≡ ds ++ d ∷ []
    → with_vals (map datum ds) (vals_at item (count - i) here) ≡ whole → with_vals (map datum es) (vals_at item (count - (i + 1)) after) ≡ whole
vals_go_on item ds es d count i here after whole lt h p so_far =
    let k : count - i ≡ suc (count - (i + 1)) = omega arith in
    let one : with_vals (map datum ds) (vals_at item (count - i) here) ≡ with_vals (map datum ds ++ datum d ∷ []) (vals_at item (count - (i + 1)) after) = rw (k, h) (regroup_vals (map datum ds) (datum d) (vals_at item (count - (i + 1)) after)) in
    let same : map datum es ≡ map datum ds ++ datum d ∷ [] = ap (map datum) p ∙ map_push datum ds d in
    ap (λ f. with_vals f (vals_at item (count - (i + 1)) after)) same ∙ (sym one ∙ so_far)

pub vals_end_in : (e : LoadError) (item : Reader Val) (ds : List Datum) (count i : ℕ) (here : Spot) (whole : Result (Vals × Spot) ℕ) → i < count → Fails e (item here)
    → with_vals (map datum ds) (vals_at item (count - i) here) ≡ whole → Fails e whole
vals_end_in e item ds count i here whole lt f so_far =
    let k : count - i ≡ suc (count - (i + 1)) = omega arith in
    let failed : (place : ℕ) → item here ≡ Err place → whole ≡ Err place = λ place h.
    let one : with_vals (map datum ds) (vals_at item (count - i) here) ≡ Err place = rw (k, h) refl in sym so_far ∙ one in
    fails_with e (item here) whole failed f

pub vals_are_done : (item : Reader Val) (ds : List Datum) (count i : ℕ) (here : Spot) (whole : Result (Vals × Spot) ℕ) → count ≤ i
    → with_vals (map datum ds) (vals_at item (count - i) here) ≡ whole → whole ≡ Ok (vals_of (map datum ds), here)
vals_are_done item ds count i here whole le so_far =
    let k : count - i ≡ 0 = omega arith in
    let one : with_vals (map datum ds) (vals_at item (count - i) here) ≡ Ok (vals_of (map datum ds), here) = rw k (ap (λ (xs : Vals). Ok (xs, here)) (vals_end (map datum ds))) in
    sym so_far ∙ one

-- ---- entries that are kept

abbrev pub entries_ahead : Option (List (Datum × Val)) → Option Pairs → Option Pairs
entries_ahead None xs = None
entries_ahead (Some []) xs = xs
entries_ahead (Some (y ∷ ys)) xs = entry_kept (datum y.0) (Some y.1) (entries_ahead (Some ys) xs)

abbrev pub more_entries : Option (List (Datum × Val)) → Datum → Option Val → Option (List (Datum × Val))
more_entries (Some ys) d (Some y) = Some (ys ++ (d, y) ∷ [])
more_entries ys d y = None

abbrev pub with_entries : Option (List (Datum × Val)) → Result (Option Pairs × Spot) ℕ → Result (Option Pairs × Spot) ℕ
with_entries front read = read >>= λ x. Ok (entries_ahead front x.0, x.1)

entries_more : (front : Option (List (Datum × Val))) (d : Datum) (o : Option Val) (xs : Option Pairs) → entries_ahead front (entry_kept (datum d) o xs) ≡ entries_ahead (more_entries front d o) xs
entries_more None d o xs = refl
entries_more (Some []) d (Some y) xs = refl
entries_more (Some []) d None xs = refl
entries_more (Some (z ∷ zs)) d (Some y) xs = ap (entry_kept (datum z.0) (Some z.1)) (entries_more (Some zs) d (Some y) xs)
entries_more (Some (z ∷ zs)) d None xs = ap (entry_kept (datum z.0) (Some z.1)) (entries_more (Some zs) d None xs)

entries_end : (front : Option (List (Datum × Val))) → entries_ahead front (Some no_pair) ≡ option_map pairs_of front
entries_end None = refl
entries_end (Some []) = refl
entries_end (Some (y ∷ ys)) = ap (entry_kept (datum y.0) (Some y.1)) (entries_end (Some ys))

regroup_entries : (front : Option (List (Datum × Val))) (d : Datum) (o : Option Val) (read : Result (Option Pairs × Spot) ℕ)
    → with_entries front (read >>= λ xs. Ok (entry_kept (datum d) o xs.0, xs.1)) ≡ with_entries (more_entries front d o) read
regroup_entries front d o (Ok x) = ap (λ (xs : Option Pairs). Ok (xs, x.1)) (entries_more front d o x.0)
regroup_entries front d o (Err place) = refl

abbrev pub seen_entries : Option (List (Datum × Value)) → Option (List (Datum × Val))
seen_entries kept = option_map (map entry) kept

entry_seen : (kept : Option (List (Datum × Value))) (d : Datum) (v : Option Value) → seen_entries (entry_pushed kept d v) ≡ more_entries (seen_entries kept) d (option_map val v)
entry_seen (Some es) d (Some v) = ap Some (map_push entry es (d, v))
entry_seen (Some es) d None = refl
entry_seen None d v = refl

pub entries_go_on : (key : Reader Val) (value : Reader (Option Val)) (kept after_kept : Option (List (Datum × Value))) (d : Datum) (v : Option Value) (count i : ℕ) (here mid after : Spot)
    (whole : Result (Option Pairs × Spot) ℕ) → i < count → key here ≡ Ok (datum d, mid) → value mid ≡ Ok (option_map val v, after) → after_kept ≡ entry_pushed kept d v
    → with_entries (seen_entries kept) (pairs_kept_at key value (count - i) here) ≡ whole → with_entries (seen_entries after_kept) (pairs_kept_at key value (count - (i + 1)) after) ≡ whole
entries_go_on key value kept after_kept d v count i here mid after whole lt h l p so_far =
    let k : count - i ≡ suc (count - (i + 1)) = omega arith in
    let one : with_entries (seen_entries kept) (pairs_kept_at key value (count - i) here) ≡ with_entries (more_entries (seen_entries kept) d (option_map val v)) (pairs_kept_at key value (count - (i + 1)) after) =
    rw (k, h, l) (regroup_entries (seen_entries kept) d (option_map val v) (pairs_kept_at key value (count - (i + 1)) after)) in
    let same : seen_entries after_kept ≡ more_entries (seen_entries kept) d (option_map val v) = ap seen_entries p ∙ entry_seen kept d v in
    ap (λ f. with_entries f (pairs_kept_at key value (count - (i + 1)) after)) same ∙ (sym one ∙ so_far)

pub key_ends : (e : LoadError) (key : Reader Val) (value : Reader (Option Val)) (kept : Option (List (Datum × Value))) (count i : ℕ) (here : Spot) (whole : Result (Option Pairs × Spot) ℕ)
    → i < count → Fails e (key here) → with_entries (seen_entries kept) (pairs_kept_at key value (count - i) here) ≡ whole → Fails e whole
key_ends e key value kept count i here whole lt f so_far =
    let k : count - i ≡ suc (count - (i + 1)) = omega arith in
    let failed : (place : ℕ) → key here ≡ Err place → whole ≡ Err place = λ place h.
    let one : with_entries (seen_entries kept) (pairs_kept_at key value (count - i) here) ≡ Err place = rw (k, h) refl in sym so_far ∙ one in
    fails_with e (key here) whole failed f

pub entry_ends : (e : LoadError) (key : Reader Val) (value : Reader (Option Val)) (kept : Option (List (Datum × Value))) (d : Datum) (count i : ℕ) (here mid : Spot)
    (whole : Result (Option Pairs × Spot) ℕ) → i < count → key here ≡ Ok (datum d, mid) → Fails e (value mid)
    → with_entries (seen_entries kept) (pairs_kept_at key value (count - i) here) ≡ whole → Fails e whole
entry_ends e key value kept d count i here mid whole lt g f so_far =
    let k : count - i ≡ suc (count - (i + 1)) = omega arith in
    let failed : (place : ℕ) → value mid ≡ Err place → whole ≡ Err place = λ place h.
    let one : with_entries (seen_entries kept) (pairs_kept_at key value (count - i) here) ≡ Err place = rw (k, g, h) refl in sym so_far ∙ one in
    fails_with e (value mid) whole failed f

seen_pairs : (kept : Option (List (Datum × Value))) → option_map pairs_of (seen_entries kept) ≡ option_map pairs kept
seen_pairs (Some es) = refl
seen_pairs None = refl

pub entries_are_done : (key : Reader Val) (value : Reader (Option Val)) (kept : Option (List (Datum × Value))) (count i : ℕ) (here : Spot) (whole : Result (Option Pairs × Spot) ℕ) → count ≤ i
    → with_entries (seen_entries kept) (pairs_kept_at key value (count - i) here) ≡ whole → whole ≡ Ok (option_map pairs kept, here)
entries_are_done key value kept count i here whole le so_far =
    let k : count - i ≡ 0 = omega arith in
    let one : with_entries (seen_entries kept) (pairs_kept_at key value (count - i) here) ≡ Ok (option_map pairs_of (seen_entries kept), here) =
    rw k (ap (λ (xs : Option Pairs). Ok (xs, here)) (entries_end (seen_entries kept))) in
    sym so_far ∙ (one ∙ ap (λ (xs : Option Pairs). Ok (xs, here)) (seen_pairs kept))

-- ---- where loops begin

nothing_before : (read : Result (Option Vals × Spot) ℕ) → with_front (Some []) read ≡ read
nothing_before (Ok x) = refl
nothing_before (Err place) = refl

pub starts : (item : Reader (Option Val)) (rows : List Value) (count : ℕ) (here : Spot) → rows ≡ []
    → with_front (seen (Some rows)) (items_kept_at item (count - 0) here) ≡ items_kept_at item count here
starts item rows count here e =
    let n : count - 0 ≡ count = omega arith in
    ap (λ (vs : List Value). with_front (seen (Some vs)) (items_kept_at item (count - 0) here)) e
    ∙ (nothing_before (items_kept_at item (count - 0) here) ∙ ap (λ (m : ℕ). items_kept_at item m here) n)

no_vals_before : (read : Result (Vals × Spot) ℕ) → with_vals [] read ≡ read
no_vals_before (Ok x) = refl
no_vals_before (Err place) = refl

pub vals_start : (item : Reader Val) (ds : List Datum) (count : ℕ) (here : Spot) → ds ≡ [] → with_vals (map datum ds) (vals_at item (count - 0) here) ≡ vals_at item count here
vals_start item ds count here e =
    let n : count - 0 ≡ count = omega arith in
    ap (λ (xs : List Datum). with_vals (map datum xs) (vals_at item (count - 0) here)) e
    ∙ (no_vals_before (vals_at item (count - 0) here) ∙ ap (λ (m : ℕ). vals_at item m here) n)

no_entries_before : (read : Result (Option Pairs × Spot) ℕ) → with_entries (Some []) read ≡ read
no_entries_before (Ok x) = refl
no_entries_before (Err place) = refl

pub entries_start : (key : Reader Val) (value : Reader (Option Val)) (rows : List (Datum × Value)) (count : ℕ) (here : Spot) → rows ≡ []
    → with_entries (seen_entries (Some rows)) (pairs_kept_at key value (count - 0) here) ≡ pairs_kept_at key value count here
entries_start key value rows count here e =
    let n : count - 0 ≡ count = omega arith in
    ap (λ (es : List (Datum × Value)). with_entries (seen_entries (Some es)) (pairs_kept_at key value (count - 0) here)) e
    ∙ (no_entries_before (pairs_kept_at key value (count - 0) here) ∙ ap (λ (m : ℕ). pairs_kept_at key value m here) n)

pub ruleset vals_steps = (vals_start, vals_go_on, vals_end_in, vals_are_done)

pub ruleset entry_steps = (entries_start, key_ends, entry_ends)
