-- What is found of tickets, as it is counted.
use Rattle.std.proofs.Common.{◌≡◌, ℕ, ◌+◌, ◌-◌, ◌^◌, ◌<◌, min, nat_eq, Bool, true, false, cond, List, [], ◌∷◌, Option, Some, None, refl, sym, ap, subst, ◌∙◌, arith, eqb-true, eq-eqb, map, ◌++◌}
use Rattle.std.specs.Prelude.{ℤ, pos, negsuc, ◌≤ℤ◌, FitsSigned, ◌||◌, unsigned_abs, option_map, if◌then◌else◌}
use Rattle.std.specs.Int.{w128}
use Rattle.std.specs.List.{list_any}
use Rattle.std.specs.Cmp.{both_ways}
use Rattle.std.proofs.lemmas.Bool.Decides.{Decides-int_eq}
use Rattle.std.proofs.lemmas.Int.{ints}
use Rattle.std.specs.BTreeMap.{insert_entry}
use Rattle.std.specs.Map.{lookup}
use Rattle.std.specs.Ordering.{int_eq, is_eq}
use Rattle.mich_base.specs.undo.Undone.{changed_at}
use Rattle.rules_code.specs.steps.Changes.{is_alike}
use Rattle.rules_data.specs.values.Tickets.{Identity}
use Rattle.rules_files.specs.snapshots.Rules.{has_total}
use Rattle.rules_files.specs.snapshots.State.{State, Total}
use Rattle.mich_term.specs.IdentityOrder.{identity_lawful}
use Rattle.mich_term.specs.TicketView.{identity}
use Rattle.mich_term.specs.declared.ticket.TicketId.{TicketId}
use Rattle.mich_tickets.specs.Lines.{by_identity, is_of}
use Rattle.mich_snapshot.specs.Sums.{AreFound, IsFound, Sums, more, nothing}
use Rattle.mich_tickets.proofs.ForCallers.{alike}
use Rattle.mich_snapshot.proofs.Alikes.{alike_back}
use Rattle.mich_tickets.proofs.ForCallers.{found_changed, found_inserted}

-- ---- nothing yet

abbrev any_of : Identity → List TicketId → Bool
any_of j [] = false
any_of j (k ∷ ks) = is_of j k || any_of j ks

-- the keys are there, each with nothing
abbrev pub AreNothing : List TicketId → Sums → Type 0
AreNothing ks es = (j : Identity) → lookup (is_of j) es ≡ (if any_of j ks then Some 0 else None)

any_push : (j : Identity) (ks : List TicketId) (k : TicketId) → any_of j (ks ++ k ∷ []) ≡ (is_of j k || any_of j ks)
any_push j [] k = refl
any_push j (l ∷ ls) k = ap (λ b. is_of j l || b) (any_push j ls k) ∙ swap (is_of j l) (is_of j k) (any_of j ls)
  where
    swap : (a b c : Bool) → a || (b || c) ≡ (b || (a || c))
    swap true true c = refl
    swap true false c = refl
    swap false b c = refl

pub nothing_more : (ks : List TicketId) (k : TicketId) (es fs : Sums) → AreNothing ks es → fs ≡ insert_entry by_identity es k 0 → AreNothing (ks ++ k ∷ []) fs
nothing_more ks k es fs h e j =
    ap (lookup (is_of j)) e ∙ found_inserted identity_lawful identity j k 0 es ∙ ap (λ (o : Option ℕ). cond (is_of j k) (Some 0) o) (h j) ∙ joined (is_of j k) (any_of j ks)
    ∙ ap (λ b. if b then Some 0 else None) (sym (any_push j ks k))
  where
    joined : (a b : Bool) → cond {A = Option ℕ} a (Some 0) (if b then Some 0 else None) ≡ (if a || b then Some 0 else None)
    joined true b = refl
    joined false b = refl

any_total : (j : Identity) (ks : List TicketId) (ts : List Total) → map identity ks ≡ map (λ t. t.identity) ts → any_of j ks ≡ list_any (λ t. is_alike t.identity j) ts
any_total j [] [] e = refl
any_total j [] (t ∷ ts) e = absurd cc
any_total j (k ∷ ks) [] e = absurd cc
any_total j (k ∷ ks) (t ∷ ts) e =
    let first : identity k ≡ t.identity = cc in
    let rest : map identity ks ≡ map (λ t. t.identity) ts = cc in
    let here = alike j (identity k) ∙ ap (is_alike j) first ∙ alike_back j t.identity in
    λ i. here i || any_total j ks ts rest i

pub nothing_found : (s : State) (ks : List TicketId) (es : Sums) → AreNothing ks es → map identity ks ≡ map (λ t. t.identity) s.tickets → AreFound s nothing es
nothing_found s ks es h e j = subst (λ o. IsFound (has_total s j) 0 o) (sym (h j)) (by (any_of j ks) (any_total j ks s.tickets e))
  where
    by : (b : Bool) → b ≡ has_total s j → IsFound (has_total s j) 0 (if b then Some 0 else None)
    by true g = (sym g, refl)
    by false g = sym g

-- ---- more

-- with more in it, counted up to 2^128 - 1
abbrev pub counted : ℤ → ℕ → ℕ
counted amount n = min (n + unsigned_abs amount) (2 ^ 128 - 1)

pub more_found : (s : State) (found : Identity → ℕ) (k : TicketId) (amount : ℤ) (es fs : Sums) → AreFound s found es
    → fs ≡ changed_at (λ q. is_eq (by_identity k q)) es (counted amount) → AreFound s (more found (identity k) amount) fs
more_found s found k amount es fs h e j =
    subst (λ o. IsFound (has_total s j) (more found (identity k) amount j) o) (sym (ap (lookup (is_of j)) e ∙ found_changed identity_lawful identity j k (counted amount) es))
    (by (is_of j k) (is_alike j (identity k)) (alike j (identity k)) (lookup (is_of j) es) (h j))
  where
    sum : (n a m : ℕ) → m ≡ min n (2 ^ 128 - 1) → min (m + a) (2 ^ 128 - 1) ≡ min (n + a) (2 ^ 128 - 1)
    sum n a m g = omega arith

    same : (n m : ℕ) → m ≡ min n (2 ^ 128 - 1) → m ≡ min (n + 0) (2 ^ 128 - 1)
    same n m g = omega arith

    by : (b c : Bool) → b ≡ c → (o : Option ℕ) → IsFound (has_total s j) (found j) o
        → IsFound (has_total s j) (found j + (if c then unsigned_abs amount else 0)) (cond b (option_map (counted amount) o) o)
    by true true g None f = f
    by true true g (Some n) f = (f.0, sum (found j) (unsigned_abs amount) n f.1)
    by false false g None f = f
    by false false g (Some n) f = (f.0, same (found j) n f.1)
    by true false g o f = absurd cc
    by false true g o f = absurd cc

pub is_amount : (n v a : ℕ) (amount : ℤ) → v ≡ min n (2 ^ 128 - 1) → pos 0 ≤ℤ amount → FitsSigned w128 amount → a ≡ unsigned_abs amount → nat_eq v a ≡ int_eq (pos n) amount
is_amount n v a (pos m) e h fits g =
    let below : m < 2 ^ 127 = omega (arith, ints) in
    both_ways (nat_eq v a) (int_eq (pos n) (pos m))
    (λ t. (Decides-int_eq (pos n) (pos m)).1 (ap pos (same m below g e (eqb-true v a t))))
    (λ t. let is : pos n ≡ pos m = (Decides-int_eq (pos n) (pos m)).0 t in eq-eqb v a (back m below g e (omega (arith, ints))))
  where
    same : (m : ℕ) → m < 2 ^ 127 → a ≡ m → v ≡ min n (2 ^ 128 - 1) → v ≡ a → n ≡ m
    same m below g e t = omega arith

    back : (m : ℕ) → m < 2 ^ 127 → a ≡ m → v ≡ min n (2 ^ 128 - 1) → n ≡ m → v ≡ a
    back m below g e t = omega arith
is_amount n v a (negsuc m) e h fits g = absurd (omega (arith, ints))

-- ---- look-ups

pub is_there : (s : State) (found : Identity → ℕ) (k : TicketId) (es : Sums) (n : ℕ) → AreFound s found es → lookup (is_of (identity k)) es ≡ Some n
    → (has_total s (identity k) ≡ true) × (n ≡ min (found (identity k)) (2 ^ 128 - 1))
is_there s found k es n h e = subst (IsFound (has_total s (identity k)) (found (identity k))) e (h (identity k))

pub not_there : (s : State) (found : Identity → ℕ) (k : TicketId) (es : Sums) → AreFound s found es → lookup (is_of (identity k)) es ≡ None
    → has_total s (identity k) ≡ false
not_there s found k es h e = subst (IsFound (has_total s (identity k)) (found (identity k))) e (h (identity k))
