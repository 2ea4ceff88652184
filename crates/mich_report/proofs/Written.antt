-- What is found in amounts after a write.
use Rattle.std.proofs.Common.{◌≡◌, Bool, true, false, cond, ℤ, pos, List, [], ◌∷◌, map, Some, None, refl, sym, ap, ◌∙◌, arith}
use Rattle.std.specs.Prelude.{◌&&◌, ◌<ℤ◌, ℕ, int_lt, if◌then◌else◌, is_some, option_map, unwrap_or}
use Rattle.std.specs.declared.option.Option.{Option}
use Rattle.std.specs.declared.cmp.Ordering.{Ordering}
use Rattle.std.specs.declared.cmp.Ordering.TheVariants.{Less, Equal, Greater}
use Rattle.std.specs.Ordering.{nat_cmp, match_ordering}
use Rattle.std.specs.Cmp.Lexicographic.{slice_cmp}
use Rattle.std.specs.BTreeMap.{is_at, insert_entry}
use Rattle.std.specs.List.{AllByRecursion}
use Rattle.std.specs.List.Sorted.{IsStrictlySortedBy}
use Rattle.std.specs.Map.{lookup, keys_of}
use Rattle.std.proofs.lemmas.Cmp.{nat_list_cmp_total}
use Rattle.rules_data.specs.values.Tickets.{Identity}
use Rattle.rules_data.specs.values.Val.{is_comparable}
use Rattle.rules_world.specs.world.World.{identity_order}
use Rattle.laws_world.proofs.accounts.ForCallers.{identity_total}
use Rattle.laws_world.specs.lines.Laws.{AreInOrder, amount_told}
use Rattle.laws_world.proofs.lines_lemmas.ForCallers.{are_alike, all_exact}
use Rattle.mich_term.proofs.ForCallers.{datum_comparable}
use Rattle.mich_term.specs.TicketView.{identity}
use Rattle.mich_term.specs.declared.ticket.TicketId.{TicketId}
use Rattle.mich_tickets.proofs.ForCallers.{found_inserted, found_changed, found_close}
use Rattle.mich_base.proofs.undo_lemmas.ForCallers.{changed_none}
use Rattle.mich_base.specs.undo.Undone.{changed_at}
use Rattle.mich_report.specs.Amounts.{by_print, Amounts, seen, is_of, amount_in, with_amount, Purses, amounts_on, held_in, written}

-- ---- as they are printed

told_same : (j : Identity) (es : Amounts) → lookup (is_at (identity_order j)) (map seen es) ≡ lookup (is_of j) es
told_same j [] = refl
told_same j (e ∷ es) = ap (λ (o : Option ℤ). cond (is_of j e.0) (Some e.1) o) (told_same j es)

-- an amount is the one that is told
pub amount_seen : (j : Identity) (es : Amounts) → amount_told j (map seen es) ≡ amount_in j es
amount_seen j es = ap (λ (o : Option ℤ). unwrap_or o (pos 0)) (told_same j es)

all_less : (k : TicketId) (es : Amounts) → AllByRecursion (λ y. by_print k y ≡ Less) (keys_of es)
    → AllByRecursion (λ y. identity_order (identity k) y ≡ Less) (keys_of (map seen es))
all_less k [] h = tt
all_less k (e ∷ es) h = (h.0, all_less k es h.1)

seen_sorted : (es : Amounts) → IsStrictlySortedBy by_print (keys_of es) → IsStrictlySortedBy identity_order (keys_of (map seen es))
unfolding IsStrictlySortedBy
seen_sorted [] h = tt
seen_sorted (e ∷ es) h = (all_less e.0 es h.0, seen_sorted es h.1)

seen_positive : (es : Amounts) → AllByRecursion (λ e. pos 0 <ℤ e.1) es → AllByRecursion (λ e. pos 0 <ℤ e.1) (map seen es)
seen_positive [] h = tt
seen_positive (e ∷ es) h = (h.0, seen_positive es h.1)

seen_comparable : (es : Amounts) → AllByRecursion (λ f. is_comparable f.0.content ≡ true) (map seen es)
seen_comparable [] = tt
seen_comparable (e ∷ es) = (datum_comparable e.0.content, seen_comparable es)

-- a list in the order of tickets that tells the same is that of the amounts
pub one_list : (fs : List (Identity × ℤ)) (es : Amounts) → AreInOrder fs → IsStrictlySortedBy by_print (keys_of es)
    → AllByRecursion (λ e. pos 0 <ℤ e.1) es → ((j : Identity) → amount_in j es ≡ amount_told j fs) → map seen es ≡ fs
one_list fs es f sorted positive same =
    sym (all_exact fs (map seen es) (seen_comparable es)
    (are_alike identity_order identity_total fs (map seen es) f.order (seen_sorted es sorted) f.positive (seen_positive es positive)
    (λ j. sym (same j) ∙ sym (amount_seen j es))))

nothing_sorted : IsStrictlySortedBy by_print []
unfolding IsStrictlySortedBy
nothing_sorted = tt

-- a list that tells nothing is empty
pub no_list : (fs : List (Identity × ℤ)) → AreInOrder fs → ((j : Identity) → pos 0 ≡ amount_told j fs) → [] ≡ fs
no_list fs f same = one_list fs [] f nothing_sorted tt same

-- ---- writes

pub amount_written : (j : Identity) (id : TicketId) (n : ℤ) (es : Amounts) → amount_in j (with_amount id n es) ≡ written j id n (amount_in j es)
amount_written j id n es = by (int_lt (pos 0) n)
  where
    there : (c : Bool) → unwrap_or (cond c (Some n) (lookup (is_of j) es)) (pos 0) ≡ (if c && true then n else amount_in j es)
    there true = refl
    there false = refl

    none : (c : Bool) → amount_in j es ≡ (if c && false then n else amount_in j es)
    none true = refl
    none false = refl

    by : (b : Bool) → amount_in j (if b then insert_entry by_print es id n else es) ≡ (if is_of j id && b then n else amount_in j es)
    by true = ap (λ (o : Option ℤ). unwrap_or o (pos 0)) (found_inserted identity_total identity j id n es) ∙ there (is_of j id)
    by false = none (is_of j id)

pub positive_test : (n : ℤ) → int_lt (pos 0) n ≡ true → pos 0 <ℤ n
positive_test n h = grind arith

-- amounts stay positive
pub positive_put : (id : TicketId) (n : ℤ) (es : Amounts) → pos 0 <ℤ n → AllByRecursion (λ e. pos 0 <ℤ e.1) es
    → AllByRecursion (λ e. pos 0 <ℤ e.1) (insert_entry by_print es id n)
positive_put id n [] p h = (p, tt)
positive_put id n (e ∷ es) p h = by (by_print id e.0) (positive_put id n es p h.1)
  where
    by : (r : Ordering) → AllByRecursion (λ e. pos 0 <ℤ e.1) (insert_entry by_print es id n)
        → AllByRecursion (λ e. pos 0 <ℤ e.1) (match_ordering r ((id, n) ∷ e ∷ es) ((e.0, n) ∷ es) (e ∷ insert_entry by_print es id n))
    by Less g = (p, h)
    by Equal g = (p, h.1)
    by Greater g = (h.0, g)

-- ---- accounts

abbrev pub Accounts : Type 0
Accounts = List ℕ

-- what is written for an account, for each
abbrev pub written_for : Accounts → Accounts → Identity → TicketId → ℤ → ℤ → ℤ
written_for o who j id n before = if is_at (slice_cmp nat_cmp o) who then written j id n before else before

pub purse_changed : (o who : Accounts) (j : Identity) (id : TicketId) (n : ℤ) (ps : Purses) (es : Amounts)
    → lookup (is_at (slice_cmp nat_cmp who)) ps ≡ Some es
    → held_in (changed_at (is_at (slice_cmp nat_cmp who)) ps (with_amount id n)) o j ≡ written_for o who j id n (held_in ps o j)
purse_changed o who j id n ps es found =
    ap (λ (x : Option Amounts). amount_in j (amounts_on x)) (found_changed nat_list_cmp_total (λ (x : Accounts). x) o who (with_amount id n) ps)
    ∙ by (is_at (slice_cmp nat_cmp o) who) refl
  where
    by : (b : Bool) → is_at (slice_cmp nat_cmp o) who ≡ b
        → amount_in j (amounts_on (cond b (option_map (with_amount id n) (lookup (is_at (slice_cmp nat_cmp o)) ps)) (lookup (is_at (slice_cmp nat_cmp o)) ps)))
        ≡ (if b then written j id n (held_in ps o j) else held_in ps o j)
    by true e =
        let here : lookup (is_at (slice_cmp nat_cmp o)) ps ≡ Some es = found_close nat_list_cmp_total (λ (x : Accounts). x) o who ps e ∙ found in
        ap (λ (x : Option Amounts). amount_in j (amounts_on (option_map (with_amount id n) x))) here
        ∙ amount_written j id n es
        ∙ ap (λ (x : Option Amounts). written j id n (amount_in j (amounts_on x))) (sym here)
    by false e = refl

pub purse_inserted : (o who : Accounts) (j : Identity) (id : TicketId) (n : ℤ) (ps : Purses)
    → lookup (is_at (slice_cmp nat_cmp who)) ps ≡ None
    → held_in (insert_entry (slice_cmp nat_cmp) ps who (with_amount id n [])) o j ≡ written_for o who j id n (held_in ps o j)
purse_inserted o who j id n ps none =
    ap (λ (x : Option Amounts). amount_in j (amounts_on x)) (found_inserted nat_list_cmp_total (λ (x : Accounts). x) o who (with_amount id n []) ps)
    ∙ by (is_at (slice_cmp nat_cmp o) who) refl
  where
    by : (b : Bool) → is_at (slice_cmp nat_cmp o) who ≡ b
        → amount_in j (amounts_on (cond b (Some (with_amount id n [])) (lookup (is_at (slice_cmp nat_cmp o)) ps)))
        ≡ (if b then written j id n (held_in ps o j) else held_in ps o j)
    by true e =
        let here : lookup (is_at (slice_cmp nat_cmp o)) ps ≡ None = found_close nat_list_cmp_total (λ (x : Accounts). x) o who ps e ∙ none in
        amount_written j id n [] ∙ ap (λ (x : Option Amounts). written j id n (amount_in j (amounts_on x))) (sym here)
    by false e = refl

-- ---- what the code tells

there_is : {X : Type 0} (o : Option X) → is_some o ≡ true → (x : X) × (o ≡ Some x)
there_is (Some x) h = (x, refl)
there_is None h = absurd cc

there_is_none : {X : Type 0} (o : Option X) → is_some o ≡ false → o ≡ None
there_is_none (Some x) h = absurd cc
there_is_none None h = refl

pub purse_written : (o who : Accounts) (j : Identity) (id : TicketId) (n : ℤ) (ps new : Purses)
    → new ≡ changed_at (is_at (slice_cmp nat_cmp who)) ps (with_amount id n) → is_some (lookup (is_at (slice_cmp nat_cmp who)) ps) ≡ true
    → held_in new o j ≡ written_for o who j id n (held_in ps o j)
purse_written o who j id n ps new e there =
    let p = there_is (lookup (is_at (slice_cmp nat_cmp who)) ps) there in
    ap (λ (x : Purses). held_in x o j) e ∙ purse_changed o who j id n ps p.0 p.1

pub purse_added : (o who : Accounts) (j : Identity) (id : TicketId) (n : ℤ) (ps mid new : Purses) (es : Amounts)
    → mid ≡ changed_at (is_at (slice_cmp nat_cmp who)) ps (with_amount id n) → is_some (lookup (is_at (slice_cmp nat_cmp who)) ps) ≡ false
    → es ≡ with_amount id n [] → new ≡ insert_entry (slice_cmp nat_cmp) mid who es
    → held_in new o j ≡ written_for o who j id n (held_in ps o j)
purse_added o who j id n ps mid new es m none e i =
    let absent = there_is_none (lookup (is_at (slice_cmp nat_cmp who)) ps) none in
    let same : mid ≡ ps = m ∙ changed_none (is_at (slice_cmp nat_cmp who)) ps (with_amount id n) absent in
    ap (λ (x : Purses). held_in x o j) (i ∙ (λ k. insert_entry (slice_cmp nat_cmp) (same k) who (e k)))
    ∙ purse_inserted o who j id n ps absent
