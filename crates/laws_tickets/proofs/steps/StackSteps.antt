-- Steps on the order of the stack, and on options, unions and lists.
use Rattle.std.proofs.Common.{◌≡◌, ℕ, zero, suc, ◌-◌, List, [], ◌∷◌, ◌++◌, Some, refl, sym, ap, ◌∙◌, append_assoc, length}
use Rattle.std.specs.Prelude.{◌+ℤ◌, nat_le, take, drop, slice_get, insert, remove}
use Rattle.std.specs.List.{flat_map}
use Rattle.std.proofs.lemmas.List.{take-append-drop}
use Rattle.rules_data.specs.types.Kind.{Kind}
use Rattle.rules_data.specs.types.Kind as k
use Rattle.rules_data.specs.types.Attributes.{duplicable}
use Rattle.rules_data.specs.values.Val.{Val, list, no_val, more_vals}
use Rattle.rules_data.specs.values.Val as v
use Rattle.rules_data.specs.values.Tickets.{Identity, tickets, all_tickets}
use Rattle.rules_code.specs.instructions.Straight.{StackRow, UnionRow}
use Rattle.rules_code.specs.instructions.Straight as i
use Rattle.rules_code.specs.instructions.Types as t
use Rattle.rules_code.specs.instructions.Same.{same_kind}
use Rattle.rules_code.specs.instructions.Change.{makes, keeps}
use Rattle.rules_code.specs.instructions.Change as c
use Rattle.rules_code.specs.instructions.StackChanges.{stack_change}
use Rattle.rules_code.specs.instructions.DataChanges.{union_change}
use Rattle.rules_code.specs.steps.Changes.{amount_in}
use Rattle.rules_code.specs.steps.Step.{kept, discarding}
use Rattle.rules_code.specs.steps.Stack.{stack_step, union_step}
use Rattle.laws_tickets.specs.totals.Agreement.{Agrees, AllAgree}
use Rattle.laws_tickets.specs.totals.Totals.{amount_on}
use Rattle.laws_tickets.proofs.totals.ForCallers.{on_append, on_cons, equal_balances, swapped, same_agrees, nothing_in, KeepsChange, keeps_same, keeps_discarding, change_where, change_then, step_where, step_some, agree_append, agree_take, agree_drop, agree_get}

-- ---- the order of the stack

pub split_amount : (id : Identity) (n : ℕ) (V : List Val) → amount_on id V ≡ amount_on id (take n V) +ℤ amount_on id (drop n V)
split_amount id n V = ap (amount_on id) (sym (take-append-drop n V)) ∙ on_append id (take n V) (drop n V)

swap_amount : (id : Identity) (x y : Val) (V : List Val) → amount_on id (x ∷ y ∷ V) ≡ amount_on id (y ∷ x ∷ V)
swap_amount id x y V =
    on_cons id x (y ∷ V) ∙ ap (λ z. amount_in id x +ℤ z) (on_cons id y V) ∙ swapped (amount_in id x) (amount_in id y)
    (amount_on id V)
    ∙ ap (λ z. amount_in id y +ℤ z) (sym (on_cons id x V)) ∙ sym (on_cons id y (x ∷ V))

-- a value taken from its place to the top
dig_amount : (id : Identity) (n : ℕ) (V : List Val) (x : Val) → slice_get V n ≡ Some x →
    amount_on id V ≡ amount_on id (x ∷ remove V n)
dig_amount id n [] x e = absurd cc
dig_amount id zero (y ∷ V) x e = let f : y ≡ x = cc in ap (λ z. amount_on id (z ∷ V)) f
dig_amount id (suc n) (y ∷ V) x e =
    on_cons id y V ∙ ap (λ z. amount_in id y +ℤ z) (dig_amount id n V x e) ∙ sym (on_cons id y (x ∷ remove V n))
    ∙ swap_amount id y x (remove V n)

-- a value put from the top into a place
dug_amount : (id : Identity) (n : ℕ) (V : List Val) (x : Val) → amount_on id (x ∷ V) ≡ amount_on id (insert V n x)
dug_amount id n V x =
    on_cons id x V ∙ ap (λ z. amount_in id x +ℤ z) (split_amount id n V) ∙ swapped (amount_in id x) (amount_on id (take n V))
    (amount_on id (drop n V))
    ∙ ap (λ z. amount_on id (take n V) +ℤ z) (sym (on_cons id x (drop n V))) ∙ sym (on_append id (take n V) (x ∷ drop n V))

pub stack_keeps : (r : StackRow) (A : List Kind) (V : List Val) → AllAgree A V → KeepsChange (stack_change r A) V (stack_step r V)
stack_keeps (i.drop n) A V h =
    change_where (nat_le n (length A)) (keeps (drop n A)) V (stack_step (i.drop n) V) (λ e.
    step_where (nat_le n (length V)) (drop n A) V (discarding (take n V) (drop n V)) (λ f.
    keeps_discarding (drop n A) V (take n V) (drop n V) (agree_drop n A V h) (λ id. split_amount id n V)))
stack_keeps (i.dup n) A V h =
    change_then (slice_get A (n - 1)) (λ a. c.where_true (duplicable a) (makes a A)) V (stack_step (i.dup n) V) (λ a e.
    change_where (duplicable a) (makes a A) V (stack_step (i.dup n) V) (λ d.
    step_some (slice_get V (n - 1)) (a ∷ A) V (λ x. kept (x ∷ V)) (λ x f.
    let g : Agrees a x = agree_get (n - 1) A V a x h e f in
    keeps_same (a ∷ A) V (x ∷ V) (g, h) (sym (ap (λ ts. ts ++ flat_map tickets V) (nothing_in a x d g))))))
stack_keeps i.swap (a ∷ b ∷ A) (x ∷ y ∷ V) h =
    ((h.1.0, (h.0, h.1.1)), equal_balances (x ∷ y ∷ V) (y ∷ x ∷ V) (λ id. swap_amount id x y V))
stack_keeps (i.dig n) A V h =
    change_then (slice_get A n) (λ a. keeps (a ∷ remove A n)) V (stack_step (i.dig n) V) (λ a e.
    step_some (slice_get V n) (a ∷ remove A n) V (λ x. kept (x ∷ remove V n)) (λ x f. (
      (
        agree_get n A V a x h e f,
        agree_append (take n A) (drop (suc n) A) (take n V) (drop (suc n) V) (agree_take n A V h)
            (agree_drop (suc n) A V h),
      ),
      equal_balances V (x ∷ remove V n) (λ id. dig_amount id n V x f),
    )))
stack_keeps (i.dug n) (a ∷ A) (x ∷ V) h =
    change_where (nat_le n (length A)) (keeps (insert A n a)) (x ∷ V) (stack_step (i.dug n) (x ∷ V)) (λ e.
    step_where (nat_le n (length V)) (insert A n a) (x ∷ V) (kept (insert V n x)) (λ f. (
      agree_append (take n A) (a ∷ drop n A) (take n V) (x ∷ drop n V) (agree_take n A V h.1) (h.0, agree_drop n A V h.1),
      equal_balances (x ∷ V) (insert V n x) (λ id. dug_amount id n V x),
    )))
stack_keeps i.unit A V h = keeps_same (t.unit ∷ A) V (v.unit ∷ V) (refl, h) refl
stack_keeps (i.cast b) (a ∷ A) (x ∷ V) h =
    change_where (same_kind a b) (keeps (a ∷ A)) (x ∷ V) (stack_step (i.cast b) (x ∷ V))
    (λ e. keeps_same (a ∷ A) (x ∷ V) (x ∷ V) h refl)
stack_keeps i.rename (a ∷ A) (x ∷ V) h = keeps_same (a ∷ A) (x ∷ V) (x ∷ V) h refl
stack_keeps _ [] [] h = tt
stack_keeps _ [] (x ∷ V) h = absurd h
stack_keeps _ (a ∷ A) [] h = absurd h
stack_keeps _ (a ∷ []) (x ∷ V) h = tt
stack_keeps _ (a ∷ b ∷ A) (x ∷ []) h = absurd h.1

-- ---- options, unions and lists

pub union_keeps : (r : UnionRow) (A : List Kind) (V : List Val) → AllAgree A V → KeepsChange (union_change r A) V (union_step r V)
union_keeps (i.left b) (a ∷ A) (x ∷ V) h = keeps_same (k.or a b ∷ A) (x ∷ V) (v.left x ∷ V) h refl
union_keeps (i.right a) (b ∷ A) (x ∷ V) h = keeps_same (k.or a b ∷ A) (x ∷ V) (v.right x ∷ V) h refl
union_keeps i.some (a ∷ A) (x ∷ V) h = keeps_same (k.option a ∷ A) (x ∷ V) (v.some x ∷ V) h refl
union_keeps (i.none a) A V h = keeps_same (k.option a ∷ A) V (v.nothing ∷ V) (tt, h) refl
union_keeps (i.nil a) A V h = keeps_same (k.list a ∷ A) V (v.list no_val ∷ V) (tt, h) refl
union_keeps i.cons (a ∷ k.list b ∷ A) (x ∷ v.list xs ∷ V) h =
    change_where (same_kind a b) (keeps (k.list b ∷ A)) (x ∷ v.list xs ∷ V) (union_step i.cons (x ∷ v.list xs ∷ V)) (λ e.
    keeps_same (k.list b ∷ A) (x ∷ v.list xs ∷ V) (v.list (more_vals x xs) ∷ V) ((same_agrees a b x e h.0, h.1.0), h.1.1)
    (sym (append_assoc (tickets x) (all_tickets xs) (flat_map tickets V))))
union_keeps i.cons (a ∷ k.list b ∷ A) _ h = change_where (same_kind a b) (keeps (k.list b ∷ A)) _ _ (λ e. tt)
union_keeps _ _ _ h = tt
