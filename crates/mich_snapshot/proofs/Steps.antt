-- Tickets and holdings are found one by one.
use Rattle.std.proofs.Common.{◌≡◌, ℕ, Bool, true, false, ◌&&◌, List, [], ◌∷◌, Option, Some, None, refl, sym, ap, subst, ◌∙◌}
use Rattle.std.specs.Prelude.{ℤ}
use Rattle.rules_code.specs.steps.Changes.{identity_of}
use Rattle.rules_data.specs.values.Tickets.{Held, Identity}
use Rattle.rules_files.specs.snapshots.Rules.{are_holdings, has_total, is_holding}
use Rattle.rules_files.specs.snapshots.State.{State}
use Rattle.mich_snapshot.specs.Sums.{AreFound, Finds, Sums, have_totals, more, more_held, more_tickets}

-- ---- tickets

-- these tickets are left of all
pub record TicketsLeft (s : State) (found : Identity → ℕ) (all left : List Held) (es : Sums) : Type 0 where
  pub now : Identity → ℕ
  pub sums : AreFound s now es
  pub test : have_totals s all ≡ have_totals s left
  pub adds : more_tickets found all ≡ more_tickets now left

pub tickets_start : (s : State) (found : Identity → ℕ) (all : List Held) (es : Sums) → AreFound s found es → TicketsLeft s found all all es
tickets_start s found all es h = record { now = found; sums = h; test = refl; adds = refl }

pub tickets_go : (s : State) (found : Identity → ℕ) (all : List Held) (t : Held) (left : List Held) (es fs : Sums) (b : Bool) → b ≡ true → TicketsLeft s found all (t ∷ left) es
    → ((f : Identity → ℕ) → AreFound s f es → Finds s (has_total s (identity_of t)) (more f (identity_of t) t.amount) fs b) → TicketsLeft s found all left fs
tickets_go s found all t left es fs b said w finds =
    let h = finds w.now w.sums in record {
      now = more w.now (identity_of t) t.amount;
      sums = h.1 said;
      test = w.test ∙ ap (λ x. x && have_totals s left) (sym h.0 ∙ said);
      adds = w.adds;
    }

pub tickets_stop : (s : State) (found g : Identity → ℕ) (all : List Held) (t : Held) (left : List Held) (es fs : Sums) (b : Bool) → b ≡ false → TicketsLeft s found all (t ∷ left) es
    → ((f : Identity → ℕ) → AreFound s f es → Finds s (has_total s (identity_of t)) (more f (identity_of t) t.amount) fs b) → Finds s (have_totals s all) g fs false
tickets_stop s found g all t left es fs b wrong w finds =
    let h = finds w.now w.sums in
    (sym (w.test ∙ ap (λ x. x && have_totals s left) (sym h.0 ∙ wrong)), λ e. absurd cc)

pub tickets_end : (s : State) (found : Identity → ℕ) (all : List Held) (es : Sums) → TicketsLeft s found all [] es → Finds s (have_totals s all) (more_tickets found all) es true
tickets_end s found all es w = (sym w.test, λ e. subst (λ (f : Identity → ℕ). AreFound s f es) (sym w.adds) w.sums)

-- ---- holdings

pub record HoldingsLeft (s : State) (found : Identity → ℕ) (all : List (Identity × ℤ)) (former : Option Identity) (left : List (Identity × ℤ)) (es : Sums) : Type 0 where
  pub now : Identity → ℕ
  pub sums : AreFound s now es
  pub test : are_holdings s None all ≡ are_holdings s former left
  pub adds : more_held found all ≡ more_held now left

pub holdings_start : (s : State) (found : Identity → ℕ) (all : List (Identity × ℤ)) (es : Sums) → AreFound s found es → HoldingsLeft s found all None all es
holdings_start s found all es h = record { now = found; sums = h; test = refl; adds = refl }

pub holdings_go : (s : State) (found : Identity → ℕ) (all : List (Identity × ℤ)) (former : Option Identity) (h : Identity × ℤ) (left : List (Identity × ℤ)) (es fs : Sums) (b : Bool)
    → b ≡ true → HoldingsLeft s found all former (h ∷ left) es → ((f : Identity → ℕ) → AreFound s f es → Finds s (is_holding s former h) (more f h.0 h.1) fs b)
    → HoldingsLeft s found all (Some h.0) left fs
holdings_go s found all former h left es fs b said w finds =
    let told = finds w.now w.sums in record {
      now = more w.now h.0 h.1;
      sums = told.1 said;
      test = w.test ∙ ap (λ x. x && are_holdings s (Some h.0) left) (sym told.0 ∙ said);
      adds = w.adds;
    }

pub holdings_stop : (s : State) (found g : Identity → ℕ) (all : List (Identity × ℤ)) (former : Option Identity) (h : Identity × ℤ) (left : List (Identity × ℤ)) (es fs : Sums) (b : Bool)
    → b ≡ false → HoldingsLeft s found all former (h ∷ left) es → ((f : Identity → ℕ) → AreFound s f es → Finds s (is_holding s former h) (more f h.0 h.1) fs b)
    → Finds s (are_holdings s None all) g fs false
holdings_stop s found g all former h left es fs b wrong w finds =
    let told = finds w.now w.sums in
    (sym (w.test ∙ ap (λ x. x && are_holdings s (Some h.0) left) (sym told.0 ∙ wrong)), λ e. absurd cc)

pub holdings_end : (s : State) (found : Identity → ℕ) (all : List (Identity × ℤ)) (former : Option Identity) (es : Sums) → HoldingsLeft s found all former [] es
    → Finds s (are_holdings s None all) (more_held found all) es true
holdings_end s found all former es w = (sym w.test, λ e. subst (λ (f : Identity → ℕ). AreFound s f es) (sym w.adds) w.sums)
