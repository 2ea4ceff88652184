-- The rules of holdings and accounts, one after the other.
use Rattle.std.proofs.Common.{◌≡◌, ℕ, Bool, true, false, ◌&&◌, List, Option, None, Some, refl, sym, ap, ◌∙◌, arith}
use Rattle.std.specs.Prelude.{ℤ, pos, int_lt, ◌<ℤ◌, ◌≤ℤ◌, Result, IfOk, IfSome, is_some, option_map}
use Rattle.std.proofs.lemmas.Int.{ints}
use Rattle.std.proofs.lemmas.Result.{IfOk-weaker}
use Rattle.rules_data.specs.values.Tickets.{Identity}
use Rattle.rules_world.specs.world.World.{Account, identity_order}
use Rattle.rules_files.specs.snapshots.Rules.{are_holdings, byte_order, has_total, is_above, is_account, is_content, is_holding}
use Rattle.rules_files.specs.snapshots.State.{State}
use Rattle.mich_base.specs.declared.memory.Memory.{Memory}
use Rattle.mich_term.specs.TicketView.{identity}
use Rattle.mich_term.specs.declared.ticket.TicketId.{TicketId}
use Rattle.mich_snapshot.specs.Sums.{Finds, Sums}

none_after : (a : Bool) → a && false ≡ false
none_after true = refl
none_after false = refl

all_after : (a : Bool) → a && true ≡ a
all_after true = refl
all_after false = refl

pub not_positive : (n : ℤ) → n <ℤ pos 1 → int_lt (pos 0) n ≡ false
not_positive n h = grind (arith, ints)

pub is_positive : (n : ℤ) → pos 1 ≤ℤ n → int_lt (pos 0) n ≡ true
is_positive n h = grind (arith, ints)

-- the first three rules of a holding
abbrev pub begins_well : State → Identity × ℤ → Bool
begins_well s h = int_lt (pos 0) h.1 && is_content h.0 && has_total s h.0

pub none_positive : (s : State) (h : Identity × ℤ) → int_lt (pos 0) h.1 ≡ false → begins_well s h ≡ false
none_positive s h e = ap (λ x. x && is_content h.0 && has_total s h.0) e

pub no_content : (s : State) (h : Identity × ℤ) → is_content h.0 ≡ false → begins_well s h ≡ false
no_content s h e = ap (λ x. int_lt (pos 0) h.1 && x && has_total s h.0) e ∙ ap (λ x. x && has_total s h.0) (none_after (int_lt (pos 0) h.1))

pub then_found : (s : State) (h : Identity × ℤ) (found : Identity → ℕ) (es : Sums) (b : Bool) → int_lt (pos 0) h.1 ≡ true → is_content h.0 ≡ true → Finds s (has_total s h.0) found es b
    → Finds s (begins_well s h) found es b
then_found s h found es b positive content finds = (finds.0 ∙ sym (λ k. positive k && content k && has_total s h.0), finds.1)

pub holding_below : (s : State) (former : Option Identity) (h : Identity × ℤ) → is_above identity_order former h.0 ≡ false → is_holding s former h ≡ false
holding_below s former h below = ap (λ x. begins_well s h && x) below ∙ none_after (begins_well s h)

pub holding_above : (s : State) (former : Option Identity) (h : Identity × ℤ) → is_above identity_order former h.0 ≡ true → is_holding s former h ≡ begins_well s h
holding_above s former h above = ap (λ x. begins_well s h && x) above ∙ all_after (begins_well s h)

-- what is found by rules that come to the same
pub found_alike : (s : State) (f : Identity → ℕ) (es : Sums) (x y : Bool) (r : Result Bool Memory) → y ≡ x → IfOk r (Finds s x f es) → IfOk r (Finds s y f es)
found_alike s f es x y r e h = IfOk-weaker r (Finds s x f es) (Finds s y f es) (λ b finds. (finds.0 ∙ sym e, finds.1)) h

-- the ticket that the next one is to be above
pub stands_next : (o : Option TicketId) (id : TicketId) → is_some o ≡ true → IfSome o (λ p. p ≡ id) → option_map identity o ≡ Some (identity id)
stands_next None id e h = absurd cc
stands_next (Some p) id e h = ap (λ (i : TicketId). Some (identity i)) h

pub account_below : (s : State) (former : Option (List ℕ)) (a : List ℕ × Account) → is_above byte_order former a.0 ≡ false → is_account s former a ≡ false
account_below s former a h = ap (λ x. x && are_holdings s None a.1.holdings) h

pub account_is : (s : State) (former : Option (List ℕ)) (a : List ℕ × Account) → is_above byte_order former a.0 ≡ true → is_account s former a ≡ are_holdings s None a.1.holdings
account_is s former a h = ap (λ x. x && are_holdings s None a.1.holdings) h
