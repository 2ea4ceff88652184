-- Steps of arithmetic and logic, whose values hold no tickets.
use Rattle.std.proofs.Common.{◌≡◌, ℕ, Bool, true, ◌&&◌, List, ◌∷◌, ◌++◌, Option, Some, None, refl, ap, ◌∙◌}
use Rattle.std.specs.Prelude.{ℤ, pos, ◌+ℤ◌, ◌-ℤ◌, ◌*ℤ◌, neg_ℤ, unsigned_abs, not, option_map}
use Rattle.std.specs.List.{flat_map}
use Rattle.std.proofs.lemmas.Bool.{and_parts}
use Rattle.rules_data.specs.numbers.Limits.{int_or_limit}
use Rattle.rules_data.specs.numbers.Integers.{division, shifted_left, shifted_right}
use Rattle.rules_data.specs.numbers.Bytes.{natural_bytes, integer_bytes, natural_in, integer_in}
use Rattle.rules_data.specs.numbers.Mutez.{mutez_sum, mutez_difference, mutez_product}
use Rattle.rules_data.specs.types.Kind.{Kind}
use Rattle.rules_data.specs.types.Kind as k
use Rattle.rules_data.specs.types.Attributes.{comparable}
use Rattle.rules_data.specs.values.Val.{Val}
use Rattle.rules_data.specs.values.Val as v
use Rattle.rules_data.specs.values.Order.{order}
use Rattle.rules_data.specs.values.Tickets.{tickets}
use Rattle.rules_code.specs.instructions.Types as t
use Rattle.rules_code.specs.instructions.Straight.{NumberRow, LogicRow}
use Rattle.rules_code.specs.instructions.Straight as i
use Rattle.rules_code.specs.instructions.Same.{same_kind}
use Rattle.rules_code.specs.instructions.Change.{makes}
use Rattle.rules_code.specs.instructions.NumberChanges.{sum, difference, product, scaled, quotient, signed, conjunction, of_bools, of_nats, against_zero, number_change, logic_change}
use Rattle.rules_code.specs.steps.Step.{kept, optional}
use Rattle.rules_code.specs.steps.Numbers as n
use Rattle.rules_code.specs.steps.Numbers.{give_number, give_amount, natural, comparison, number_step, logic_step}
use Rattle.laws_tickets.specs.totals.Agreement.{Agrees, AllAgree}
use Rattle.laws_tickets.proofs.totals.ForCallers.{back_agrees, nothing_compared, KeepsStep, KeepsChange, keeps_same, keeps_wrong, change_where, step_limit, one_for}
use Rattle.laws_tickets.proofs.steps.NumberKinds.{IsSimple, sum_simple, difference_simple, product_simple, scaled_simple, signed_simple, conjunction_simple, IsQuotient, quotient_agrees, quotient_is, quotient_none, natural_agrees, natural_none, number_for, of_two_keeps, of_one_keeps}

-- ---- arithmetic

pub number_keeps : (r : NumberRow) (A : List Kind) (V : List Val) → AllAgree A V →
    KeepsChange (number_change r A) V (number_step r V)
number_keeps i.add_numbers A (v.number x ∷ v.number y ∷ V) h =
    of_two_keeps sum IsSimple sum_simple (v.number x) (v.number y) A V (number_step i.add_numbers (v.number x ∷ v.number y ∷ V)) h
    (λ a B s g.
    step_limit (int_or_limit (x +ℤ y)) (a ∷ B) (v.number x ∷ v.number y ∷ V) (give_number V)
    (λ z. number_for a B (v.number x ∷ v.number y ∷ V) z V s g refl))
number_keeps i.add_numbers A _ h = keeps_wrong _ _
number_keeps i.sub A (v.number x ∷ v.number y ∷ V) h =
    of_two_keeps difference IsSimple difference_simple (v.number x) (v.number y) A V
    (number_step i.sub (v.number x ∷ v.number y ∷ V)) h (λ a B s g.
    step_limit (int_or_limit (x -ℤ y)) (a ∷ B) (v.number x ∷ v.number y ∷ V) (give_number V)
    (λ z. number_for a B (v.number x ∷ v.number y ∷ V) z V s g refl))
number_keeps i.sub A _ h = keeps_wrong _ _
number_keeps i.mul_numbers A (v.number x ∷ v.number y ∷ V) h =
    of_two_keeps product IsSimple product_simple (v.number x) (v.number y) A V
    (number_step i.mul_numbers (v.number x ∷ v.number y ∷ V)) h (λ a B s g.
    step_limit (int_or_limit (x *ℤ y)) (a ∷ B) (v.number x ∷ v.number y ∷ V) (give_number V)
    (λ z. number_for a B (v.number x ∷ v.number y ∷ V) z V s g refl))
number_keeps i.mul_numbers A _ h = keeps_wrong _ _
number_keeps i.mul_amounts A (v.number (pos x) ∷ v.number (pos y) ∷ V) h =
    of_two_keeps scaled IsSimple scaled_simple (v.number (pos x)) (v.number (pos y)) A V
    (number_step i.mul_amounts (v.number (pos x) ∷ v.number (pos y) ∷ V)) h (λ a B s g.
    step_limit (mutez_product x y) (a ∷ B) (v.number (pos x) ∷ v.number (pos y) ∷ V) (give_amount V)
    (λ z. number_for a B (v.number (pos x) ∷ v.number (pos y) ∷ V) (pos z) V s g refl))
number_keeps i.mul_amounts A _ h = keeps_wrong _ _
number_keeps i.ediv A (v.number x ∷ v.number y ∷ V) h =
    of_two_keeps (λ a b. option_map k.option (quotient a b)) IsQuotient quotient_is (v.number x) (v.number y) A V
    (number_step i.ediv (v.number x ∷ v.number y ∷ V)) h (λ a B s g.
    step_limit (division x y) (a ∷ B) (v.number x ∷ v.number y ∷ V) (λ q. kept (n.quotient q ∷ V)) (λ q.
    one_for a B (v.number x ∷ v.number y ∷ V) (n.quotient q) V (quotient_agrees a q s) (quotient_none q) g refl))
number_keeps i.ediv A _ h = keeps_wrong _ _
number_keeps i.neg A (v.number x ∷ V) h =
    of_one_keeps signed IsSimple signed_simple (v.number x) A V (number_step i.neg (v.number x ∷ V)) h (λ a B s g.
    step_limit (int_or_limit (neg_ℤ x)) (a ∷ B) (v.number x ∷ V) (give_number V)
    (λ z. number_for a B (v.number x ∷ V) z V s g refl))
number_keeps i.neg A _ h = keeps_wrong _ _
number_keeps i.add_amounts (t.mutez ∷ t.mutez ∷ A) (v.number (pos x) ∷ v.number (pos y) ∷ V) h =
    step_limit (mutez_sum x y) (t.mutez ∷ A) (v.number (pos x) ∷ v.number (pos y) ∷ V) (give_amount V)
    (λ z. number_for t.mutez A (v.number (pos x) ∷ v.number (pos y) ∷ V) (pos z) V tt h.1.1 refl)
number_keeps i.sub_mutez (t.mutez ∷ t.mutez ∷ A) (v.number (pos x) ∷ v.number (pos y) ∷ V) h =
    by_difference (mutez_difference x y)
  where
    by_difference : (d : Option ℕ) →
        KeepsStep (k.option t.mutez ∷ A) (v.number (pos x) ∷ v.number (pos y) ∷ V)
        (kept (optional (option_map (λ n. v.number (pos n)) d) ∷ V))
    by_difference None =
        keeps_same (k.option t.mutez ∷ A) (v.number (pos x) ∷ v.number (pos y) ∷ V) (v.nothing ∷ V) (tt, h.1.1) refl
    by_difference (Some m) =
        keeps_same (k.option t.mutez ∷ A) (v.number (pos x) ∷ v.number (pos y) ∷ V) (v.some (v.number (pos m)) ∷ V)
        (refl, h.1.1) refl
number_keeps i.abs (t.int ∷ A) (v.number x ∷ V) h =
    step_limit (int_or_limit (pos (unsigned_abs x))) (t.nat ∷ A) (v.number x ∷ V) (give_number V)
    (λ z. number_for t.nat A (v.number x ∷ V) z V tt h.1 refl)
number_keeps i.int (t.nat ∷ A) (v.number x ∷ V) h = number_for t.int A (v.number x ∷ V) x V tt h.1 refl
number_keeps i.isnat (t.int ∷ A) (v.number x ∷ V) h =
    one_for (k.option t.nat) A (v.number x ∷ V) (natural x) V (natural_agrees x) (natural_none x) h.1 refl
number_keeps i.lsl (t.nat ∷ t.nat ∷ A) (v.number x ∷ v.number y ∷ V) h =
    step_limit (shifted_left x y) (t.nat ∷ A) (v.number x ∷ v.number y ∷ V) (give_number V)
    (λ z. number_for t.nat A (v.number x ∷ v.number y ∷ V) z V tt h.1.1 refl)
number_keeps i.lsr (t.nat ∷ t.nat ∷ A) (v.number x ∷ v.number y ∷ V) h =
    step_limit (shifted_right x y) (t.nat ∷ A) (v.number x ∷ v.number y ∷ V) (give_number V)
    (λ z. number_for t.nat A (v.number x ∷ v.number y ∷ V) z V tt h.1.1 refl)
number_keeps i.nat_to_bytes (t.nat ∷ A) (v.number (pos x) ∷ V) h =
    one_for t.bytes A (v.number (pos x) ∷ V) (v.bytes (natural_bytes x)) V refl refl h.1 refl
number_keeps i.int_to_bytes (t.int ∷ A) (v.number x ∷ V) h =
    one_for t.bytes A (v.number x ∷ V) (v.bytes (integer_bytes x)) V refl refl h.1 refl
number_keeps i.bytes_to_nat (t.bytes ∷ A) (v.bytes b ∷ V) h =
    step_limit (int_or_limit (pos (natural_in b))) (t.nat ∷ A) (v.bytes b ∷ V) (give_number V)
    (λ z. number_for t.nat A (v.bytes b ∷ V) z V tt h.1 refl)
number_keeps i.bytes_to_int (t.bytes ∷ A) (v.bytes b ∷ V) h =
    step_limit (int_or_limit (integer_in b)) (t.int ∷ A) (v.bytes b ∷ V) (give_number V)
    (λ z. number_for t.int A (v.bytes b ∷ V) z V tt h.1 refl)
number_keeps _ _ _ h = tt

-- ---- logic and comparison

-- a truth value in place of others
truth_for : (B : List Kind) (V : List Val) (b : Bool) (W : List Val) → AllAgree B W → flat_map tickets V ≡ flat_map tickets W →
    KeepsStep (t.bool ∷ B) V (kept (v.truth b ∷ W))
truth_for B V b W h f = keeps_same (t.bool ∷ B) V (v.truth b ∷ W) (refl, h) f

bools_keep : (A : List Kind) (b c d : Bool) (V : List Val) → AllAgree A (v.truth b ∷ v.truth c ∷ V) →
    KeepsChange (of_bools A) (v.truth b ∷ v.truth c ∷ V) (kept (v.truth d ∷ V))
bools_keep (t.bool ∷ t.bool ∷ A) b c d V h = truth_for A (v.truth b ∷ v.truth c ∷ V) d V h.1.1 refl
bools_keep _ b c d V h = tt

nats_keep : (A : List Kind) (x y z : ℤ) (V : List Val) → AllAgree A (v.number x ∷ v.number y ∷ V) →
    KeepsChange (of_nats A) (v.number x ∷ v.number y ∷ V) (kept (v.number z ∷ V))
nats_keep (t.nat ∷ t.nat ∷ A) x y z V h = number_for t.nat A (v.number x ∷ v.number y ∷ V) z V tt h.1.1 refl
nats_keep _ x y z V h = tt

zero_keeps : (A : List Kind) (x : ℤ) (b : Bool) (V : List Val) → AllAgree A (v.number x ∷ V) →
    KeepsChange (against_zero A) (v.number x ∷ V) (kept (v.truth b ∷ V))
zero_keeps (t.int ∷ A) x b V h = truth_for A (v.number x ∷ V) b V h.1 refl
zero_keeps _ x b V h = tt

pub logic_keeps : (r : LogicRow) (A : List Kind) (V : List Val) → AllAgree A V → KeepsChange (logic_change r A) V (logic_step r V)
logic_keeps i.and_bools A (v.truth b ∷ v.truth c ∷ V) h = bools_keep A b c _ V h
logic_keeps i.and_bools A _ h = keeps_wrong _ _
logic_keeps i.or_bools A (v.truth b ∷ v.truth c ∷ V) h = bools_keep A b c _ V h
logic_keeps i.or_bools A _ h = keeps_wrong _ _
logic_keeps i.xor_bools A (v.truth b ∷ v.truth c ∷ V) h = bools_keep A b c _ V h
logic_keeps i.xor_bools A _ h = keeps_wrong _ _
logic_keeps i.and_numbers A (v.number x ∷ v.number y ∷ V) h =
    of_two_keeps conjunction IsSimple conjunction_simple (v.number x) (v.number y) A V
    (logic_step i.and_numbers (v.number x ∷ v.number y ∷ V)) h (λ a B s g.
    number_for a B (v.number x ∷ v.number y ∷ V) _ V s g refl)
logic_keeps i.and_numbers A _ h = keeps_wrong _ _
logic_keeps i.or_numbers A (v.number x ∷ v.number y ∷ V) h = nats_keep A x y _ V h
logic_keeps i.or_numbers A _ h = keeps_wrong _ _
logic_keeps i.xor_numbers A (v.number x ∷ v.number y ∷ V) h = nats_keep A x y _ V h
logic_keeps i.xor_numbers A _ h = keeps_wrong _ _
logic_keeps i.not_number A (v.number x ∷ V) h =
    of_one_keeps signed IsSimple signed_simple (v.number x) A V (logic_step i.not_number (v.number x ∷ V)) h
    (λ a B s g. number_for a B (v.number x ∷ V) _ V s g refl)
logic_keeps i.not_number A _ h = keeps_wrong _ _
logic_keeps i.eq A (v.number x ∷ V) h = zero_keeps A x _ V h
logic_keeps i.eq A _ h = keeps_wrong _ _
logic_keeps i.neq A (v.number x ∷ V) h = zero_keeps A x _ V h
logic_keeps i.neq A _ h = keeps_wrong _ _
logic_keeps i.lt A (v.number x ∷ V) h = zero_keeps A x _ V h
logic_keeps i.lt A _ h = keeps_wrong _ _
logic_keeps i.gt A (v.number x ∷ V) h = zero_keeps A x _ V h
logic_keeps i.gt A _ h = keeps_wrong _ _
logic_keeps i.le A (v.number x ∷ V) h = zero_keeps A x _ V h
logic_keeps i.le A _ h = keeps_wrong _ _
logic_keeps i.ge A (v.number x ∷ V) h = zero_keeps A x _ V h
logic_keeps i.ge A _ h = keeps_wrong _ _
logic_keeps i.not_bool (t.bool ∷ A) (v.truth b ∷ V) h = truth_for A (v.truth b ∷ V) (not b) V h.1 refl
logic_keeps i.compare (a ∷ b ∷ A) (x ∷ y ∷ V) h =
    change_where (same_kind a b && comparable a) (makes t.int A) (x ∷ y ∷ V) (logic_step i.compare (x ∷ y ∷ V)) (λ e.
    let c : comparable a ≡ true = (and_parts (same_kind a b) (comparable a) e).1 in
    let d : Agrees a y = back_agrees a b y (and_parts (same_kind a b) (comparable a) e).0 h.1.0 in
    number_for t.int A (x ∷ y ∷ V) (comparison (order x y)) V tt h.1.1
    (ap (λ ts. ts ++ (tickets y ++ flat_map tickets V)) (nothing_compared a x c h.0) ∙ ap (λ ts. ts ++ flat_map tickets V)
    (nothing_compared a y c d)))
logic_keeps i.compare (a ∷ b ∷ A) _ h = keeps_wrong _ _
logic_keeps _ _ _ h = tt
