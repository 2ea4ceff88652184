-- What instructions and frames make of the values on the stack and in what is pending.
use Rattle.std.proofs.Common.{◌≡◌, ◌<◌, ◌^◌, ℕ, suc, Bool, true, false, List, [], ◌∷◌, ◌++◌, length, take, drop, refl, ap, ◌∙◌, subst, arith, append_assoc, sym}
use Rattle.std.specs.Prelude.{ℤ, pos, ◌+ℤ◌, ◌-ℤ◌, ◌≤ℤ◌}
use Rattle.std.specs.List.{AllByRecursion}
use Rattle.std.proofs.lemmas.Int.{ints}
use Rattle.std.proofs.lemmas.List.{append-nil, length-append}
use Rattle.rules_text.specs.nodes.Tree.{Tree, Trees, seq, size}
use Rattle.rules_data.specs.types.Kind.{Kind}
use Rattle.rules_data.specs.types.Kind as k
use Rattle.rules_data.specs.types.Attributes.{packable}
use Rattle.rules_code.specs.instructions.Types as t
use Rattle.rules_code.specs.instructions.Context.{Context}
use Rattle.rules_code.specs.instructions.Context as place
use Rattle.rules_code.specs.instructions.Control.{call_kinds}
use Rattle.rules_data.specs.values.Val.{Val, Vals, no_val, more_vals}
use Rattle.rules_data.specs.values.Val as v
use Rattle.rules_data.specs.values.Tickets.{Identity, tickets, all_tickets}
use Rattle.rules_code.specs.typing.Typing.{goes}
use Rattle.rules_code.specs.typing.Nodes.{tree_type}
use Rattle.rules_code.specs.typing.Fits.{Known, Fits, AllFit, Leads}
use Rattle.rules_code.specs.steps.Changes.{Change, amount_in, minted_in, burnt_in}
use Rattle.rules_code.specs.evaluation.Operations.{Issued, Tally}
use Rattle.rules_code.specs.evaluation.Outcome.{stack}
use Rattle.rules_code.specs.evaluation.Calls.{call_values}
use Rattle.rules_code.specs.evaluation.Items.{elements, with_items, rebuilt}
use Rattle.rules_code.specs.evaluation.Evaluation.{tree_run, eval_task}
use Rattle.laws_code.specs.evaluation.Laws.{known, IsCharged, IsType, IsGood, amount_on, amount_issued}
use Rattle.laws_data.proofs.amounts.ForCallers.{among_append}
use Rattle.laws_code.specs.stacks.Sound.{seen, AllTypes, Sound}
use Rattle.laws_code.proofs.stacks.ForCallers.{on-append, on_positive, positive, Knows, fits_grow, fits_packed, all_grow, fit-append, knows_grow, no_amount, no_amount_compared, packable_duplicable, type_list, type_element, type_entry, type_option}
use Rattle.laws_code.proofs.control.ForCallers.{fit_drop, types_drop, good_in_lambda, element_amount, entry_amount, tree_types}
use Rattle.laws_code.proofs.typed.ForCallers.{Types, both_types, contexts}
use Rattle.laws_tickets.proofs.held.ForCallers.{Leaves, node_leaves, take_fit, take_types, split_amount, all_one_grow, all_one_last, one_kind_positive, elements_fit, entries_fit, IsMade, list_made, table_made, some_made, none_made}
use Rattle.mich_instr.specs.Typed.{HasParts, of_list, of_set, of_map, IsMapped, to_list, to_option, to_map}
use Rattle.rules_code.specs.evaluation.Contracts.{Viewed, is_contract_of}
use Rattle.laws_code.proofs.safety_lemmas.ForCallers.{Seeing, good_in_view}
use Rattle.mich_frames.specs.Around.{Around, at, viewing_at}
use Rattle.mich_frames.specs.Pending.{Mapping, Pending}
use Rattle.mich_frames.specs.Pending as p
use Rattle.mich_frames.specs.Shapes.{items_in}
use Rattle.mich_frames.specs.Fine.{stock, minted_by, burnt_by, IsMapping, PendingFits, IsFine}

-- ---- what is pending

pub stock_positive : (id : Identity) (w : Known) (ps : List Pending) → PendingFits w ps → pos 0 ≤ℤ stock id ps
stock_positive id w [] h = omega (arith, ints)
stock_positive id w (p.rest ts ∷ ps) h = stock_positive id w ps h
stock_positive id w (p.turns A ts ∷ ps) h = stock_positive id w ps h
stock_positive id w (p.left_turns a b A ts ∷ ps) h = stock_positive id w ps h
stock_positive id w (p.each a A ts xs ∷ ps) h =
    let i = stock_positive id w ps h.2 in let j = one_kind_positive id w a xs h.1 in omega (arith, ints, i, j)
stock_positive id w (p.mapping m ys xs ∷ ps) h =
    let i = stock_positive id w ps h.1 in
    let j = one_kind_positive id w m.result ys h.0.results in let l = one_kind_positive id w m.item xs h.0.items in omega (arith, ints, i, j, l)
stock_positive id w (p.making m ys xs ∷ ps) h =
    let i = stock_positive id w ps h.1 in
    let j = one_kind_positive id w m.result ys h.0.results in let l = one_kind_positive id w m.item xs h.0.items in omega (arith, ints, i, j, l)
stock_positive id w (p.under A W ∷ ps) h =
    let i = stock_positive id w ps h.2 in let j = on_positive id w A W h.1 in omega (arith, ints, i, j)
stock_positive id w (p.call e r A W ∷ ps) h =
    let i = stock_positive id w ps h.3 in let j = on_positive id w A W h.2 in omega (arith, ints, i, j)
stock_positive id w (p.viewing e burnt is cs b A W ∷ ps) h = omega (arith, ints)

mapping_grows : (w u : Known) → Knows w u → (m : Mapping) (left : ℕ) (ys xs : List Val) → IsMapping w m left ys xs → IsMapping u m left ys xs
mapping_grows w u g m left ys xs h = record {
  kinds = h.kinds;
  item = h.item;
  whole = h.whole;
  origin = h.origin;
  fits = fits_grow w u g m.collection h.origin h.fits;
  count = h.count;
  alike = h.alike;
  results = all_one_grow w u g m.result ys h.results;
  items = all_one_grow w u g m.item xs h.items;
}

pending_grows : (w u : Known) → Knows w u → (ps : List Pending) → PendingFits w ps → PendingFits u ps
pending_grows w u g [] h = tt
pending_grows w u g (p.rest ts ∷ ps) h = pending_grows w u g ps h
pending_grows w u g (p.turns A ts ∷ ps) h = pending_grows w u g ps h
pending_grows w u g (p.left_turns a b A ts ∷ ps) h = pending_grows w u g ps h
pending_grows w u g (p.each a A ts xs ∷ ps) h = (h.0, all_one_grow w u g a xs h.1, pending_grows w u g ps h.2)
pending_grows w u g (p.mapping m ys xs ∷ ps) h = (mapping_grows w u g m (length xs) ys xs h.0, pending_grows w u g ps h.1)
pending_grows w u g (p.making m ys xs ∷ ps) h = (mapping_grows w u g m (suc (length xs)) ys xs h.0, pending_grows w u g ps h.1)
pending_grows w u g (p.under A W ∷ ps) h = (h.0, all_grow w u g A W h.1, pending_grows w u g ps h.2)
pending_grows w u g (p.call e r A W ∷ ps) h = (h.0, h.1, all_grow w u g A W h.2, pending_grows w u g ps h.3)
pending_grows w u g (p.viewing e burnt is cs b A W ∷ ps) h = h

-- ---- the stack of a call

call_types : (a r : Kind) (b : Bool) → IsType a → IsType (k.lambda a r) → AllTypes (call_kinds a r b)
call_types a r true h i = (h, (i, tt))
call_types a r false h i = (h, tt)

call_fit : (w : Known) (a r : Kind) (x : Val) (ts : Trees) (b : Bool) → Fits w a x → Fits w (k.lambda a r) (v.lambda (seq ts) b) → AllFit w (call_kinds a r b) (call_values x ts b)
call_fit w a r x ts true h i = (h, (i, tt))
call_fit w a r x ts false h i = (h, tt)

call_amount : (id : Identity) (x : Val) (ts : Trees) (b : Bool) → amount_on id (call_values x ts b) ≡ amount_in id x
call_amount id x ts true = omega (arith, ints)
call_amount id x ts false = omega (arith, ints)

-- ---- what MAP goes over, and what it makes

mapping_begins : (w : Known) (s a b : Kind) (A : List Kind) (x : Val) (ts : Trees) → IsMapped s a b (with_items s b) → IsType a → IsType (with_items s b) → Fits w s x → AllByRecursion (Fits w a) (items_in x) →
    IsMapping w (record { item = a; result = b; collection = s; over = x; below = A; body = ts }) (length (items_in x)) [] (items_in x)
mapping_begins w s a b A x ts kinds item whole fit items = record {
  kinds = kinds;
  item = item;
  whole = whole;
  origin = x;
  fits = fit;
  count = omega arith;
  alike = λ zs e. refl;
  results = tt;
  items = items;
}

-- the collection of all results
rebuilt_fits : (w : Known) (s a b r : Kind) (x : Val) (ys : List Val) → IsMapped s a b r → Fits w s x → length ys ≡ length (items_in x) → AllByRecursion (Fits w b) ys → IsMade w b r ys (rebuilt x ys)
rebuilt_fits w s a b r x ys kinds fit n h = by x ys kinds fit n h
  where
    by : {s a b r : Kind} (x : Val) (ys : List Val) → IsMapped s a b r → Fits w s x → length ys ≡ length (items_in x) → AllByRecursion (Fits w b) ys → IsMade w b r ys (rebuilt x ys)
    by (v.list xs) ys (to_list {b = b}) fit n h = list_made w b xs ys h
    by (v.table es) ys (to_map {a = a} {b = b} {d = d}) fit n h = table_made w a b d es ys fit h
    by (v.some x) ys (to_option {b = b}) fit n h = some_made w b x ys n h
    by v.nothing ys (to_option {b = b}) fit n h = none_made w b ys h
    by _ ys to_list fit n h = absurd fit
    by _ ys to_map fit n h = absurd fit
    by _ ys to_option fit n h = absurd fit

-- ---- values that move

still_below : (s s' t : ℤ) → s' ≤ℤ s → s ≤ℤ t → s' ≤ℤ t
still_below s s' t h i = omega (arith, ints, h, i)

still_within : (v s v' s' i b t : ℤ) → (v' +ℤ s') ≤ℤ (v +ℤ s) → (v +ℤ s +ℤ i +ℤ b) ≤ℤ t → (v' +ℤ s' +ℤ i +ℤ b) ≤ℤ t
still_within v s v' s' i b t h g = omega (arith, ints, h, g)

abbrev kn : Around → List Issued → Known
kn u is = known u.contract_at is

module _ {u : Around} {is : List Issued} {cs : List Change} where
  -- other values, with no more tickets, in front of what else is pending
  pub moved : {c : Context} {ps : List Pending} {A : List Kind} {V : List Val} → IsFine u c ps A V is cs → (c' : Context) (ps' : List Pending) (A' : List Kind) (V' : List Val) → IsGood (at u c') → AllTypes A' →
      AllFit (kn u is) A' V' → PendingFits (kn u is) ps' → ((id : Identity) → (amount_on id V' +ℤ stock id ps') ≤ℤ (amount_on id V +ℤ stock id ps)) → IsFine u c' ps' A' V' is cs
  moved {c = c} {ps = ps} {A = A} {V = V} h c' ps' A' V' good types fits pending le = record {
    good = good;
    types = types;
    fits = fits;
    pending = pending;
    well = h.well;
    mints = h.mints;
    most = h.most;
    below = λ id. still_below (amount_on id V +ℤ stock id ps) (amount_on id V' +ℤ stock id ps') (minted_by u cs id) (le id) (h.below id);
    within = λ id.
        still_within (amount_on id V) (stock id ps) (amount_on id V') (stock id ps') (amount_issued id is) (burnt_by u cs id) (minted_by u cs id) (le id) (h.within id);
  }

  module _ {c : Context} where
    -- the same in front of something that holds no values
    pub over_rest : {ps : List Pending} {A : List Kind} {V : List Val} (ts : Trees) → IsFine u c ps A V is cs → IsFine u c (p.rest ts ∷ ps) A V is cs
    over_rest {ps = ps} {A = A} {V = V} ts h = moved h c (p.rest ts ∷ ps) A V h.good h.types h.fits h.pending (λ id. omega (arith, ints))

    pub behind_rest : {ps : List Pending} {A : List Kind} {V : List Val} (ts us : Trees) → IsFine u c (p.rest ts ∷ ps) A V is cs → IsFine u c (p.rest us ∷ ps) A V is cs
    behind_rest {ps = ps} {A = A} {V = V} ts us h = moved h c (p.rest us ∷ ps) A V h.good h.types h.fits h.pending (λ id. omega (arith, ints))

    pub off_rest : {ps : List Pending} {A : List Kind} {V : List Val} (ts : Trees) → IsFine u c (p.rest ts ∷ ps) A V is cs → IsFine u c ps A V is cs
    off_rest {ps = ps} {A = A} {V = V} ts h = moved h c ps A V h.good h.types h.fits h.pending (λ id. omega (arith, ints))

    pub over_turns : {ps : List Pending} {A : List Kind} {V : List Val} (B : List Kind) (ts : Trees) → IsFine u c ps A V is cs → IsFine u c (p.turns B ts ∷ ps) A V is cs
    over_turns {ps = ps} {A = A} {V = V} B ts h = moved h c (p.turns B ts ∷ ps) A V h.good h.types h.fits h.pending (λ id. omega (arith, ints))

    pub off_turns : {ps : List Pending} {A : List Kind} {V : List Val} (B : List Kind) (ts : Trees) → IsFine u c (p.turns B ts ∷ ps) A V is cs → IsFine u c ps A V is cs
    off_turns {ps = ps} {A = A} {V = V} B ts h = moved h c ps A V h.good h.types h.fits h.pending (λ id. omega (arith, ints))

    pub over_left : {ps : List Pending} {A : List Kind} {V : List Val} (a b : Kind) (B : List Kind) (ts : Trees) → IsFine u c ps A V is cs → IsFine u c (p.left_turns a b B ts ∷ ps) A V is cs
    over_left {ps = ps} {A = A} {V = V} a b B ts h = moved h c (p.left_turns a b B ts ∷ ps) A V h.good h.types h.fits h.pending (λ id. omega (arith, ints))

    pub off_left : {ps : List Pending} {A : List Kind} {V : List Val} (a b : Kind) (B : List Kind) (ts : Trees) → IsFine u c (p.left_turns a b B ts ∷ ps) A V is cs → IsFine u c ps A V is cs
    off_left {ps = ps} {A = A} {V = V} a b B ts h = moved h c ps A V h.good h.types h.fits h.pending (λ id. omega (arith, ints))

    -- ---- the top of the stack

    pub off_top : {ps : List Pending} {a : Kind} {A : List Kind} {x : Val} {V : List Val} → IsFine u c ps (a ∷ A) (x ∷ V) is cs → IsFine u c ps A V is cs
    off_top {ps = ps} {a = a} {A = A} {x = x} {V = V} h =
        moved h c ps A V h.good h.types.1 h.fits.1 h.pending (λ id. let i = positive id (kn u is) a x h.fits.0 in omega (arith, ints, i))

    pub new_top : {ps : List Pending} {a : Kind} {A : List Kind} {x : Val} {V : List Val} (b : Kind) (y : Val) → IsType b → Fits (kn u is) b y → ((id : Identity) → amount_in id y ≤ℤ amount_in id x) →
        IsFine u c ps (a ∷ A) (x ∷ V) is cs → IsFine u c ps (b ∷ A) (y ∷ V) is cs
    new_top {ps = ps} {A = A} {V = V} b y type fit le h =
        moved h c ps (b ∷ A) (y ∷ V) h.good (type, h.types.1) (fit, h.fits.1) h.pending (λ id. let i = le id in omega (arith, ints, i))

    -- the first element of a list, above the others
    pub first_on_top : {ps : List Pending} {a : Kind} {A : List Kind} {x : Val} {xs : Vals} {V : List Val} → IsFine u c ps (k.list a ∷ A) (v.list (more_vals x xs) ∷ V) is cs → IsFine u c ps (a ∷ k.list a ∷ A) (x ∷ v.list xs ∷ V) is cs
    first_on_top {ps = ps} {a = a} {A = A} {x = x} {xs = xs} {V = V} h =
        moved h c ps (a ∷ k.list a ∷ A) (x ∷ v.list xs ∷ V) h.good (type_list a h.types.0, h.types) (h.fits.0.0, (h.fits.0.1, h.fits.1)) h.pending
        (λ id. let i = among_append id (tickets x) (all_tickets xs) in omega (arith, ints, i))

    -- so many values, which are laid aside, and come back
    pub aside : {ps : List Pending} {A : List Kind} {V : List Val} (n : ℕ) → IsFine u c ps A V is cs → IsFine u c (p.under (take n A) (take n V) ∷ ps) (drop n A) (drop n V) is cs
    aside {ps = ps} {A = A} {V = V} n h =
        moved h c (p.under (take n A) (take n V) ∷ ps) (drop n A) (drop n V) h.good (types_drop n A h.types) (fit_drop (kn u is) n A V h.fits) (take_types n A h.types, take_fit (kn u is) n A V h.fits, h.pending)
        (λ id. let i = split_amount id n V in omega (arith, ints, i))

    pub back : {ps : List Pending} {A B : List Kind} {W V : List Val} → IsFine u c (p.under A W ∷ ps) B V is cs → IsFine u c ps (A ++ B) (W ++ V) is cs
    back {ps = ps} {A = A} {B = B} {W = W} {V = V} h =
        moved h c ps (A ++ B) (W ++ V) h.good (both_types A B h.pending.0 h.types) (fit-append (kn u is) A B W V h.pending.1 h.fits) h.pending.2 (λ id. let i = on-append id W V in omega (arith, ints, i))

    -- ---- ITER

    goes_over : {ps : List Pending} {s a : Kind} {A : List Kind} {x : Val} {V : List Val} (ts : Trees) → IsType a → AllByRecursion (Fits (kn u is) a) (items_in x) → ((id : Identity) → amount_on id (items_in x) ≤ℤ amount_in id x) →
        IsFine u c ps (s ∷ A) (x ∷ V) is cs → IsFine u c (p.each a A ts (items_in x) ∷ ps) A V is cs
    goes_over {ps = ps} {a = a} {A = A} {x = x} {V = V} ts type fit le h =
        moved h c (p.each a A ts (items_in x) ∷ ps) A V h.good h.types.1 h.fits.1 (type, fit, h.pending) (λ id. let i = le id in omega (arith, ints, i))

    pub over_items : {ps : List Pending} {s a : Kind} {A : List Kind} {x : Val} {V : List Val} (ts : Trees) → HasParts s a → IsFine u c ps (s ∷ A) (x ∷ V) is cs → IsFine u c (p.each a A ts (items_in x) ∷ ps) A V is cs
    over_items {ps = ps} {A = A} {x = x} {V = V} ts parts h = by x parts h
      where
        by : {s a : Kind} (x : Val) → HasParts s a → IsFine u c ps (s ∷ A) (x ∷ V) is cs → IsFine u c (p.each a A ts (items_in x) ∷ ps) A V is cs
        by (v.list xs) (of_list {a = a}) h = goes_over ts (type_list a h.types.0) (elements_fit (kn u is) a xs h.fits.0) (λ id. let i = element_amount id xs in omega (arith, ints, i)) h
        by (v.set xs) (of_set {a = a}) h =
            goes_over ts (type_element a h.types.0) (elements_fit (kn u is) a xs h.fits.0.0) (λ id. let i = set_amount id a xs h.types.0.0.0 h.fits.0.0 in omega (arith, ints, i)) h
          where
            set_amount : (id : Identity) (a : Kind) (xs : Vals) → Rattle.rules_data.specs.types.Attributes.comparable a ≡ true → Rattle.rules_data.specs.values.Forms.AllHave (Fits (kn u is) a) xs → amount_on id (elements xs) ≡ pos 0
            set_amount id a no_val c h = refl
            set_amount id a (more_vals x xs) c h =
                let i = set_amount id a xs c h.1 in let j = no_amount_compared id (kn u is) a x c h.0 in omega (arith, ints, i, j)
        by (v.table es) (of_map {a = a} {b = b}) h =
            goes_over ts (type_entry a b h.types.0) (entries_fit (kn u is) a b es h.fits.0.0) (λ id. let i = entry_amount id (kn u is) a b es h.types.0.0.0 h.fits.0.0 in omega (arith, ints, i)) h
        by _ of_list h = absurd h.fits.0
        by _ of_set h = absurd h.fits.0
        by _ of_map h = absurd h.fits.0

    pub next_item : {ps : List Pending} {a : Kind} {B : List Kind} {ts : Trees} {x : Val} {xs : List Val} {V : List Val} → IsFine u c (p.each a B ts (x ∷ xs) ∷ ps) B V is cs → IsFine u c (p.each a B ts xs ∷ ps) (a ∷ B) (x ∷ V) is cs
    next_item {ps = ps} {a = a} {B = B} {ts = ts} {x = x} {xs = xs} {V = V} h =
        moved h c (p.each a B ts xs ∷ ps) (a ∷ B) (x ∷ V) h.good (h.pending.0, h.types) (h.pending.1.0, h.fits) (h.pending.0, h.pending.1.1, h.pending.2) (λ id. omega (arith, ints))

    pub no_item : {ps : List Pending} {a : Kind} {B : List Kind} {ts : Trees} {V : List Val} → IsFine u c (p.each a B ts [] ∷ ps) B V is cs → IsFine u c ps B V is cs
    no_item {ps = ps} {B = B} {V = V} h = moved h c ps B V h.good h.types h.fits h.pending.2 (λ id. omega (arith, ints))

    -- ---- MAP

    maps_over : {ps : List Pending} {V : List Val} (m : Mapping) → IsMapping (kn u is) m (length (items_in m.over)) [] (items_in m.over) → ((id : Identity) → amount_on id (items_in m.over) ≤ℤ amount_in id m.over) →
        IsFine u c ps (m.collection ∷ m.below) (m.over ∷ V) is cs → IsFine u c (p.mapping m [] (items_in m.over) ∷ ps) m.below V is cs
    maps_over {ps = ps} {V = V} m fit le h =
        moved h c (p.mapping m [] (items_in m.over) ∷ ps) m.below V h.good h.types.1 h.fits.1 (fit, h.pending) (λ id. let i = le id in omega (arith, ints, i))

    pub over_mapped : {ps : List Pending} {s a b r : Kind} {A : List Kind} {x : Val} {V : List Val} (ts : Trees) → IsMapped s a b r → IsType r → IsFine u c ps (s ∷ A) (x ∷ V) is cs →
        IsFine u c (p.mapping (record { item = a; result = b; collection = s; over = x; below = A; body = ts }) [] (items_in x) ∷ ps) A V is cs
    over_mapped {ps = ps} {A = A} {x = x} {V = V} ts kinds whole h = by x kinds whole h
      where
        by : {s a b r : Kind} (x : Val) → IsMapped s a b r → IsType r → IsFine u c ps (s ∷ A) (x ∷ V) is cs →
            IsFine u c (p.mapping (record { item = a; result = b; collection = s; over = x; below = A; body = ts }) [] (items_in x) ∷ ps) A V is cs
        by (v.list xs) (to_list {a = a} {b = b}) whole h =
            maps_over _ (mapping_begins (kn u is) (k.list a) a b A (v.list xs) ts to_list (type_list a h.types.0) whole h.fits.0 (elements_fit (kn u is) a xs h.fits.0)) (λ id. let i = element_amount id xs in omega (arith, ints, i)) h
        by (v.table es) (to_map {a = a} {b = b} {d = d}) whole h =
            maps_over _ (mapping_begins (kn u is) (k.map a b) (k.pair a b) d A (v.table es) ts to_map (type_entry a b h.types.0) whole h.fits.0 (entries_fit (kn u is) a b es h.fits.0.0))
            (λ id. let i = entry_amount id (kn u is) a b es h.types.0.0.0 h.fits.0.0 in omega (arith, ints, i)) h
        by (v.some y) (to_option {a = a} {b = b}) whole h =
            maps_over _ (mapping_begins (kn u is) (k.option a) a b A (v.some y) ts to_option (type_option a h.types.0) whole h.fits.0 (h.fits.0, tt)) (λ id. omega (arith, ints)) h
        by v.nothing (to_option {a = a} {b = b}) whole h =
            maps_over _ (mapping_begins (kn u is) (k.option a) a b A v.nothing ts to_option (type_option a h.types.0) whole h.fits.0 tt) (λ id. omega (arith, ints)) h
        by _ to_list whole h = absurd h.fits.0
        by _ to_map whole h = absurd h.fits.0
        by _ to_option whole h = absurd h.fits.0

    pub next_mapped : {ps : List Pending} {m : Mapping} {ys xs : List Val} {x : Val} {V : List Val} → IsFine u c (p.mapping m ys (x ∷ xs) ∷ ps) m.below V is cs →
        IsFine u c (p.making m ys xs ∷ ps) (m.item ∷ m.below) (x ∷ V) is cs
    next_mapped {ps = ps} {m = m} {ys = ys} {xs = xs} {x = x} {V = V} h =
        let g = h.pending.0 in
        let next : IsMapping (kn u is) m (suc (length xs)) ys xs = record {
          kinds = g.kinds;
          item = g.item;
          whole = g.whole;
          origin = g.origin;
          fits = g.fits;
          count = g.count;
          alike = g.alike;
          results = g.results;
          items = g.items.1;
        } in
        moved h c (p.making m ys xs ∷ ps) (m.item ∷ m.below) (x ∷ V) h.good (g.item, h.types) (g.items.0, h.fits) (next, h.pending.1) (λ id. omega (arith, ints))

    pub one_made : {ps : List Pending} {m : Mapping} {ys xs : List Val} {y : Val} {V : List Val} → IsFine u c (p.making m ys xs ∷ ps) (m.result ∷ m.below) (y ∷ V) is cs →
        IsFine u c (p.mapping m (ys ++ y ∷ []) xs ∷ ps) m.below V is cs
    one_made {ps = ps} {m = m} {ys = ys} {xs = xs} {y = y} {V = V} h =
        let g = h.pending.0 in
        let next : IsMapping (kn u is) m (length xs) (ys ++ y ∷ []) xs = record {
          kinds = g.kinds;
          item = g.item;
          whole = g.whole;
          origin = g.origin;
          fits = g.fits;
          count = let e = length-append ys (y ∷ []) in let f = g.count in omega (arith, e, f);
          alike = λ zs same. rw append_assoc (g.alike (y ∷ zs) (ap suc same));
          results = all_one_last (kn u is) m.result ys y g.results h.fits.0;
          items = g.items;
        } in
        moved h c (p.mapping m (ys ++ y ∷ []) xs ∷ ps) m.below V h.good h.types.1 h.fits.1 (next, h.pending.1) (λ id. let i = on-append id ys (y ∷ []) in omega (arith, ints, i))

    pub all_made : {ps : List Pending} {m : Mapping} {ys : List Val} {V : List Val} → IsFine u c (p.mapping m ys [] ∷ ps) m.below V is cs → IsFine u c ps (with_items m.collection m.result ∷ m.below) (rebuilt m.over ys ∷ V) is cs
    all_made {ps = ps} {m = m} {ys = ys} {V = V} h =
        let g = h.pending.0 in
        let n : length ys ≡ length (items_in g.origin) = let e = g.count in omega (arith, e) in
        let same : rebuilt g.origin ys ≡ rebuilt m.over ys = rw append-nil at (g.alike [] refl) in
        let made : IsMade (kn u is) m.result (with_items m.collection m.result) ys (rebuilt m.over ys) =
        subst (IsMade (kn u is) m.result (with_items m.collection m.result) ys) same (rebuilt_fits (kn u is) m.collection m.item m.result (with_items m.collection m.result) g.origin ys g.kinds g.fits n g.results) in
        moved h c ps (with_items m.collection m.result ∷ m.below) (rebuilt m.over ys ∷ V) h.good (g.whole, h.types) (made.fits, h.fits) h.pending.1 (λ id. let i = made.amount id in omega (arith, ints, i))

    -- what is kept of the collection may be another value that is rebuilt alike
    pub other_kept : {ps : List Pending} {m : Mapping} {ys xs : List Val} {A : List Kind} {V : List Val} (other : Val) → ((zs : List Val) → length zs ≡ length xs → rebuilt m.over (ys ++ zs) ≡ rebuilt other (ys ++ zs)) →
        IsFine u c (p.mapping m ys xs ∷ ps) A V is cs → IsFine u c (p.mapping (record m { over = other }) ys xs ∷ ps) A V is cs
    other_kept {ps = ps} {m = m} {ys = ys} {xs = xs} {A = A} {V = V} other alike h =
        let g = h.pending.0 in
        let next : IsMapping (kn u is) (record m { over = other }) (length xs) ys xs = record {
          kinds = g.kinds;
          item = g.item;
          whole = g.whole;
          origin = g.origin;
          fits = g.fits;
          count = g.count;
          alike = λ zs same. g.alike zs same ∙ alike zs same;
          results = g.results;
          items = g.items;
        } in
        moved h c (p.mapping (record m { over = other }) ys xs ∷ ps) A V h.good h.types h.fits (next, h.pending.1) (λ id. omega (arith, ints))

  -- ---- calls

  pub in_call : {c : Context} {ps : List Pending} {a r : Kind} {A : List Kind} {x : Val} {ts : Trees} {b : Bool} {W : List Val} → IsFine u c ps (a ∷ k.lambda a r ∷ A) (x ∷ v.lambda (seq ts) b ∷ W) is cs →
      IsFine u place.lambda (p.call (at u c) r A W ∷ ps) (call_kinds a r b) (call_values x ts b) is cs
  in_call {c = c} {ps = ps} {a = a} {r = r} {A = A} {x = x} {ts = ts} {b = b} {W = W} h =
      moved h place.lambda (p.call (at u c) r A W ∷ ps) (call_kinds a r b) (call_values x ts b) (good_in_lambda (at u c) h.good) (call_types a r b h.types.0 h.types.1.0)
      (call_fit (kn u is) a r x ts b h.fits.0 h.fits.1.0) (h.good, h.types.1.1, h.fits.1.1, h.pending) (λ id. let i = call_amount id x ts b in omega (arith, ints, i))

  pub called_back : {c c' : Context} {ps : List Pending} {r : Kind} {B : List Kind} {V W : List Val} → IsFine u c (p.call (at u c') r B W ∷ ps) (r ∷ []) V is cs → IsFine u c' ps (r ∷ B) (V ++ W) is cs
  called_back {c' = c'} {ps = ps} {r = r} {B = B} {V = V} {W = W} h =
      moved h c' ps (r ∷ B) (V ++ W) h.pending.0 (h.types.0, h.pending.1) (fit-append (kn u is) (r ∷ []) B V W h.fits h.pending.2) h.pending.3 (λ id. let i = on-append id V W in omega (arith, ints, i))

  -- a body of a lambda on top
  pub lambda_below : {c : Context} {ps : List Pending} {a r : Kind} {A : List Kind} {x : Val} {ts : Trees} {b : Bool} {W : List Val} → IsFine u c ps (a ∷ k.lambda a r ∷ A) (x ∷ v.lambda (seq ts) b ∷ W) is cs →
      (size (seq ts) < 2 ^ 32) × Leads (tree_type (seq ts) place.lambda (call_kinds a r b)) (r ∷ [])
  lambda_below h = (h.fits.1.0.1, h.fits.1.0.2)

-- ---- views

view_below : (x st ev mi : ℤ) → x ≡ pos 0 → st ≤ℤ ev → pos 0 ≤ℤ mi → (x +ℤ st +ℤ pos 0 +ℤ pos 0) ≤ℤ (ev +ℤ mi)
view_below x st ev mi e h g = omega (arith, ints, e, h, g)

view_within : (x st ev mi i b : ℤ) → x ≡ pos 0 → st ≤ℤ ev → pos 0 ≤ℤ mi → (x +ℤ st +ℤ pos 0 +ℤ pos 0 +ℤ i +ℤ ((pos 0 -ℤ (i +ℤ b)) +ℤ b)) ≤ℤ (ev +ℤ mi)
view_within x st ev mi i b e h g = omega (arith, ints, e, h, g)

caller_below : (x y w s t : ℤ) → pos 0 ≤ℤ x → pos 0 ≤ℤ y → (x +ℤ (y +ℤ w) +ℤ s) ≤ℤ t → (w +ℤ s) ≤ℤ t
caller_below x y w s t h g l = omega (arith, ints, h, g, l)

caller_within : (x y w s i b t : ℤ) → pos 0 ≤ℤ x → pos 0 ≤ℤ y → (x +ℤ (y +ℤ w) +ℤ s +ℤ i +ℤ b) ≤ℤ t → (w +ℤ s +ℤ i +ℤ b) ≤ℤ t
caller_within x y w s i b t h g l = omega (arith, ints, h, g, l)

back_below : (y w s t : ℤ) → y ≡ pos 0 → (w +ℤ s) ≤ℤ t → (y +ℤ w +ℤ s) ≤ℤ t
back_below y w s t e h = omega (arith, ints, e, h)

back_within : (y w s i b t : ℤ) → y ≡ pos 0 → (w +ℤ s +ℤ i +ℤ b) ≤ℤ t → (y +ℤ w +ℤ s +ℤ i +ℤ b) ≤ℤ t
back_within y w s i b t e h = omega (arith, ints, e, h)

both_amount : (id : Identity) (x y : Val) → amount_in id (v.both x y) ≡ amount_in id x +ℤ amount_in id y
both_amount id x y = among_append id (tickets x) (tickets y)

-- a view begins on its input and a copy of the storage
pub in_view : {u : Around} {c : Context} {ps : List Pending} {a : Kind} {A : List Kind} {x address : Val} {W : List Val} {is : List Issued} {cs : List Change} (b : Kind) (seen_view : Viewed) → Seeing (at u c) a b seen_view → packable b ≡ true →
    AllTypes (k.option b ∷ A) → IsFine u c ps (a ∷ t.address ∷ A) (x ∷ address ∷ W) is cs →
    IsFine (viewing_at u seen_view is cs) place.view (p.viewing (at u c) u.burnt is cs b (k.option b ∷ A) W ∷ ps) (k.pair a seen_view.storage ∷ []) (v.both x seen_view.contract.storage ∷ []) is cs
in_view {u = u} {c = c} {ps = ps} {a = a} {A = A} {x = x} {address = address} {W = W} {is = is} {cs = cs} b seen_view s output types h =
    let K : Known = known u.contract_at is in
    let storage : Val = seen_view.contract.storage in
    let fresh : Knows (known u.contract_at []) K = record { contracts = λ c r h. h; issued = λ n h. absurd cc } in
    let stored : Fits K seen_view.storage storage = subst (λ z. Fits K z storage) s.stored (fits_grow (known u.contract_at []) K fresh s.good.reading.storage storage s.good.fits) in
    let no_tickets : (id : Identity) → amount_in id x ≡ pos 0 = λ id. no_amount id K a x (packable_duplicable a s.packs) h.fits.0 in
    record {
      good = good_in_view (at u c) h.good a b seen_view s;
      types = (s.whole, tt);
      fits = ((h.fits.0, stored), tt);
      pending = (
        record {
          good = h.good;
          output = output;
          below = A;
          kinds = refl;
          types = types;
          fits = h.fits.1.1;
          well = h.well;
          mints = h.mints;
          most = h.most;
          within_minted = λ id.
              caller_below (amount_in id x) (amount_in id address) (amount_on id W) (stock id ps) (minted_by u cs id) (positive id K a x h.fits.0) (positive id K t.address address h.fits.1.0) (h.below id);
          within = λ id.
              caller_within (amount_in id x) (amount_in id address) (amount_on id W) (stock id ps) (amount_issued id is) (burnt_by u cs id) (minted_by u cs id)
              (positive id K a x h.fits.0) (positive id K t.address address h.fits.1.0) (h.within id);
        },
        h.pending,
      );
      well = h.well;
      mints = h.mints;
      most = h.most;
      below = λ id.
          subst (λ z. (z +ℤ pos 0 +ℤ pos 0) ≤ℤ (u.minted id +ℤ minted_in id cs)) (sym (both_amount id x storage))
          (view_below (amount_in id x) (amount_in id storage) (u.minted id) (minted_in id cs) (no_tickets id) (s.good.tickets id) (h.mints id));
      within = λ id.
          subst (λ z. (z +ℤ pos 0 +ℤ pos 0 +ℤ amount_issued id is +ℤ ((pos 0 -ℤ (amount_issued id is +ℤ burnt_in id cs)) +ℤ burnt_in id cs)) ≤ℤ (u.minted id +ℤ minted_in id cs)) (sym (both_amount id x storage))
          (view_within (amount_in id x) (amount_in id storage) (u.minted id) (minted_in id cs) (amount_issued id is) (burnt_in id cs) (no_tickets id) (s.good.tickets id) (h.mints id));
    }

-- what it gives comes on top of the caller's stack
pub viewed_back : {u u' : Around} {c c' : Context} {ps : List Pending} {b : Kind} {B : List Kind} {is is' : List Issued} {cs cs' : List Change} {y : Val} {X W : List Val} → u'.contract_at ≡ u.contract_at →
    IsFine u c (p.viewing (at u' c') u'.burnt is cs b B W ∷ ps) (b ∷ []) (y ∷ X) is' cs' → IsFine u' c' ps B (v.some y ∷ W) is cs
viewed_back {u = u} {u' = u'} {c' = c'} {ps = ps} {b = b} {B = B} {is = is} {is' = is'} {cs = cs} {y = y} {W = W} same h =
    let g = h.pending.0 in
    let K : Known = known u'.contract_at is in
    let fit : Fits K b y = fits_packed (known u.contract_at is') K (λ d a t. subst (λ l. is_contract_of l a d ≡ true) (sym same) t) b y g.output h.fits.0 in
    let none : (id : Identity) → amount_in id y ≡ pos 0 = λ id. no_amount id K b y (packable_duplicable b g.output) fit in
    record {
      good = g.good;
      types = g.types;
      fits = subst (λ A. AllFit K A (v.some y ∷ W)) (sym g.kinds) (fit, g.fits);
      pending = h.pending.1;
      well = g.well;
      mints = g.mints;
      most = g.most;
      below = λ id. back_below (amount_in id y) (amount_on id W) (stock id ps) (minted_by u' cs id) (none id) (g.within_minted id);
      within = λ id. back_within (amount_in id y) (amount_on id W) (stock id ps) (amount_issued id is) (burnt_by u' cs id) (minted_by u' cs id) (none id) (g.within id);
    }

-- ---- a node that ends

sum_below : (v w s m m' t : ℤ) → (w +ℤ (t +ℤ m)) ≤ℤ (v +ℤ (t +ℤ m')) → (v +ℤ s) ≤ℤ (t +ℤ m) → (w +ℤ s) ≤ℤ (t +ℤ m')
sum_below v w s m m' t h i = omega (arith, ints, h, i)

sum_within : (v w s i i' b b' m m' t g : ℤ) → w +ℤ i' +ℤ b' +ℤ m ≡ v +ℤ i +ℤ b +ℤ m' → (v +ℤ s +ℤ i +ℤ (g +ℤ b)) ≤ℤ (t +ℤ m) → (w +ℤ s +ℤ i' +ℤ (g +ℤ b')) ≤ℤ (t +ℤ m')
sum_within v w s i i' b b' m m' t g e h = omega (arith, ints, e, h)

part_below : (v s t : ℤ) → pos 0 ≤ℤ s → (v +ℤ s) ≤ℤ t → v ≤ℤ t
part_below v s t h i = omega (arith, ints, h, i)

module _ {u : Around} {c : Context} {ps : List Pending} where
  pub sound_here : {A : List Kind} {V : List Val} {is : List Issued} {cs : List Change} → IsFine u c ps A V is cs → Sound (seen (at u c)) is cs A V
  sound_here {A = A} {V = V} {is = is} {cs = cs} h = record {
    types = h.types;
    fit = h.fits;
    below = λ id. part_below (amount_on id V) (stock id ps) (minted_by u cs id) (stock_positive id (known u.contract_at is) ps h.pending) (h.below id);
    most = h.most;
    mints = h.mints;
  }

  pub node_types : {A : List Kind} {V : List Val} {is : List Issued} {cs : List Change} (t : Tree) (B : List Kind) → tree_type t c A ≡ goes B → IsFine u c ps A V is cs → AllTypes B
  node_types {A = A} t B same h = subst Types same (tree_types t c (contexts (at u c) h.good) A h.types)

  pub node_ends : {A : List Kind} {V : List Val} (m : Tally) (d : ℕ) (t : Tree) (M B : List Kind) (W : List Val) (n : Tally) → IsCharged u.prices → size t < 2 ^ 32 → Leads (tree_type t c A) M →
      tree_run eval_task t (at u c) d A V m ≡ stack B W n → IsFine u c ps A V m.issued m.changes → IsFine u c ps M W n.issued n.changes
  node_ends {A = A} {V = V} m d t M B W n charged small leads same h =
      let l : Leaves (at u c) m V M W n = node_leaves (at u c) d t A M B V W m n charged small leads h.good (sound_here h) same in
      let a = l.after in
      record {
        good = h.good;
        types = l.types;
        fits = a.fit;
        pending = pending_grows (known u.contract_at m.issued) (known u.contract_at n.issued) (knows_grow (seen (at u c)) m.issued n.issued a.grows) ps h.pending;
        well = a.well h.well;
        mints = a.mints;
        most = a.most;
        below = λ id. sum_below (amount_on id V) (amount_on id W) (stock id ps) (minted_in id m.changes) (minted_in id n.changes) (u.minted id) (a.tickets id) (h.below id);
        within = λ id.
            sum_within (amount_on id V) (amount_on id W) (stock id ps) (amount_issued id m.issued) (amount_issued id n.issued) (burnt_in id m.changes) (burnt_in id n.changes)
            (minted_in id m.changes) (minted_in id n.changes) (u.minted id) (u.burnt id) (l.totals id) (h.within id);
      }
