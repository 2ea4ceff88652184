-- What walks over the lines of a ledger write.
use Rattle.std.proofs.Common.{◌≡◌, Bool, true, false, cond, ℕ, ℤ, pos, List, [], ◌∷◌, Some, None, refl, sym, ap, ◌∙◌, arith}
use Rattle.std.specs.Prelude.{◌&&◌, ◌≤ℤ◌, int_lt, if◌then◌else◌, unwrap_or}
use Rattle.std.specs.declared.option.Option.{Option}
use Rattle.std.specs.declared.cmp.Ordering.{Ordering}
use Rattle.std.specs.declared.cmp.Ordering.TheVariants.{Less}
use Rattle.std.specs.Ordering.{nat_cmp, is_eq}
use Rattle.std.specs.Cmp.{IsTotalOrder}
use Rattle.std.specs.Cmp.Lexicographic.{slice_cmp}
use Rattle.std.specs.List.{AllByRecursion}
use Rattle.std.specs.List.Sorted.{IsStrictlySortedBy}
use Rattle.std.specs.Map.{lookup, keys_of}
use Rattle.std.proofs.lemmas.Cmp.{nat_list_cmp_total}
use Rattle.std.proofs.lemmas.Map.Keys.{sorted_head, sorted_tail}
use Rattle.rules_data.specs.forms.Spelling.{implicit_place}
use Rattle.rules_data.specs.values.Tickets.{Identity}
use Rattle.laws_world.proofs.accounts.ForCallers.{alike_equal, equal_of}
use Rattle.mich_forms.specs.Spelled.{place_bytes}
use Rattle.mich_forms.specs.declared.places.Place.{Place}
use Rattle.mich_forms.specs.declared.places.Place.TheVariants as place
use Rattle.mich_term.specs.IdentityOrder.{identity_lawful}
use Rattle.mich_term.specs.TicketView.{identity}
use Rattle.mich_term.specs.declared.ticket.TicketId.{TicketId}
use Rattle.mich_tickets.proofs.ForCallers.{alike}
use Rattle.mich_tickets.specs.Lines.{Lines, by_identity, line_of, is_of as is_of_line}
use Rattle.mich_tickets.specs.Owned.{Owned, by_place, amount_at}
use Rattle.mich_tickets.specs.declared.line.Line.{Line}
use Rattle.mich_report.specs.Amounts.{is_of, is_account, paid, settled, written}

-- ---- nothing is found behind a key that is found

module _ {Q K : Type 0} {R : Q → Q → Ordering} (total : IsTotalOrder R) (name : K → Q) where
  abbrev at : Q → K → Bool
  at q k = is_eq (R q (name k))

  none_behind : {X : Type 0} (q : Q) (k : K) (es : List (K × X)) → at q k ≡ true → AllByRecursion (λ y. R (name k) (name y) ≡ Less) (keys_of es)
      → lookup (at q) es ≡ None
  none_behind q k [] h less = refl
  none_behind {X} q k (e ∷ es) h less =
      let other : at q e.0 ≡ false = ap is_eq (total.congr q (name k) (name e.0) (equal_of (R q (name k)) h) ∙ less.0) in
      ap (λ b. cond b (Some e.1) (lookup (at q) es)) other ∙ none_behind q k es h less.1

-- ---- owners

account_same : (o : List ℕ) (p : Place) → is_account o p ≡ is_eq (slice_cmp nat_cmp (implicit_place o) (place_bytes p))
account_same o (place.Implicit who) = refl
account_same o (place.Contract hash) = refl

none_written : (j : Identity) (id : TicketId) (n : ℤ) → written j id (pos 0) n ≡ n
none_written j id n = by (is_of j id)
  where
    by : (b : Bool) → (if b && false then pos 0 else n) ≡ n
    by true = refl
    by false = refl

-- the amount of one owner is written
pub owners_paid : (o : List ℕ) (j : Identity) (id : TicketId) (os : Owned) (n : ℤ) → IsStrictlySortedBy by_place (keys_of os)
    → paid o j id os n ≡ written j id (amount_at (implicit_place o) os) n
owners_paid o j id [] n sorted = sym (none_written j id n)
owners_paid o j id (e ∷ es) n sorted =
    ap (λ b. paid o j id es (if b then written j id e.1 n else n)) (account_same o e.0)
    ∙ by (λ m. owners_paid o j id es m (sorted_tail by_place e.0 (keys_of es) sorted)) (is_eq (slice_cmp nat_cmp (implicit_place o) (place_bytes e.0))) refl
  where
    by : ((m : ℤ) → paid o j id es m ≡ written j id (amount_at (implicit_place o) es) m)
        → (b : Bool) → is_eq (slice_cmp nat_cmp (implicit_place o) (place_bytes e.0)) ≡ b
        → paid o j id es (if b then written j id e.1 n else n)
        ≡ written j id (unwrap_or (cond b (Some e.1) (lookup (λ p. is_eq (slice_cmp nat_cmp (implicit_place o) (place_bytes p))) es)) (pos 0)) n
    by rest true h =
        let none : lookup (λ p. is_eq (slice_cmp nat_cmp (implicit_place o) (place_bytes p))) es ≡ None
        = none_behind nat_list_cmp_total place_bytes (implicit_place o) e.0 es h (sorted_head by_place e.0 (keys_of es) sorted) in
        rest (written j id e.1 n)
        ∙ ap (λ (x : Option ℤ). written j id (unwrap_or x (pos 0)) (written j id e.1 n)) none
        ∙ none_written j id (written j id e.1 n)
    by rest false h = rest n

-- ---- lines

same_line : (j : Identity) (k : TicketId) → is_of_line j k ≡ is_of j k
same_line j k = alike j (identity k) ∙ alike_equal j (identity k)

-- what the line of a ticket writes
abbrev pub written_on : (Line → ℤ) → Option Line → ℤ → ℤ
written_on f None n = n
written_on f (Some l) n = if int_lt (pos 0) (f l) then f l else n

pub lines_settled : (f : Line → ℤ) (j : Identity) (ls : Lines) (n : ℤ) → IsStrictlySortedBy by_identity (keys_of ls)
    → settled f j ls n ≡ written_on f (line_of j ls) n
lines_settled f j [] n sorted = refl
lines_settled f j (e ∷ es) n sorted =
    ap (λ b. settled f j es (if b && int_lt (pos 0) (f e.1) then f e.1 else n)) (sym (same_line j e.0))
    ∙ by (λ m. lines_settled f j es m (sorted_tail by_identity e.0 (keys_of es) sorted)) (is_of_line j e.0) refl
  where
    by : ((m : ℤ) → settled f j es m ≡ written_on f (line_of j es) m)
        → (b : Bool) → is_of_line j e.0 ≡ b
        → settled f j es (if b && int_lt (pos 0) (f e.1) then f e.1 else n) ≡ written_on f (cond b (Some e.1) (line_of j es)) n
    by rest true h =
        let none : line_of j es ≡ None
        = none_behind identity_lawful identity j e.0 es h (sorted_head by_identity e.0 (keys_of es) sorted) in
        rest (if int_lt (pos 0) (f e.1) then f e.1 else n)
        ∙ ap (λ (x : Option Line). written_on f x (if int_lt (pos 0) (f e.1) then f e.1 else n)) none
    by rest false h = rest n

not_less : (n : ℤ) → pos 0 ≤ℤ n → (if int_lt (pos 0) n then n else pos 0) ≡ n
not_less n h = by (int_lt (pos 0) n) refl
  where
    by : (b : Bool) → int_lt (pos 0) n ≡ b → (if b then n else pos 0) ≡ n
    by true e = refl
    by false e = grind arith

-- an amount that is not negative is written as it is
pub written_line : (f : Line → ℤ) (o : Option Line) (n : ℤ) → pos 0 ≤ℤ n → n ≡ elim o as (λ _. ℤ) [ None ↦ pos 0 | Some l ↦ f l ] → written_on f o (pos 0) ≡ n
written_line f None n h e = sym e
written_line f (Some l) n h e = ap (λ m. if int_lt (pos 0) m then m else pos 0) (sym e) ∙ not_less n h
