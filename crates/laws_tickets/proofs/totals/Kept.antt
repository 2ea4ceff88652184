-- Steps that keep the tickets: the values after a step agree with the types, and what there is balances.
use Rattle.std.proofs.Common.{◌≡◌, ℕ, zero, suc, Bool, true, false, List, [], ◌∷◌, ◌++◌, Option, Some, None, refl, sym, ap, ◌∙◌, subst}
use Rattle.std.specs.Prelude.{◌+ℤ◌, take, drop, slice_get, option_map, option_and_then, Result, Ok, Err}
use Rattle.std.specs.List.{flat_map}
use Rattle.rules_data.specs.numbers.Limits.{Limit}
use Rattle.rules_data.specs.types.Kind.{Kind}
use Rattle.rules_data.specs.values.Val.{Val}
use Rattle.rules_data.specs.values.Tickets.{Identity, tickets}
use Rattle.rules_code.specs.instructions.Change.{Change, after}
use Rattle.rules_code.specs.instructions.Change as c
use Rattle.rules_code.specs.steps.Step.{Step, done, fails, wrong, kept, discarding, on_some, where_true, within_limit}
use Rattle.laws_tickets.specs.totals.Agreement.{Agrees, AllAgree}
use Rattle.laws_tickets.specs.totals.Totals.{amount_on}
use Rattle.laws_tickets.proofs.totals.Amounts.{Balances, same_balances, discard_balances}

-- what a step leaves agrees with the types B, and it balances from the values V
abbrev pub KeepsStep : List Kind → List Val → Step → Type 0
KeepsStep B V (done W changes) = AllAgree B W × Balances V W changes
KeepsStep B V (fails f) = Unit {0}
KeepsStep B V wrong = Unit {0}

-- the same, where the types fit
abbrev pub KeepsChange : Option Change → List Val → Step → Type 0
KeepsChange None V s = Unit {0}
KeepsChange (Some d) V s = KeepsStep (after d) V s

-- no ticket moves, or tickets stand in one order
pub keeps_same : (B : List Kind) (V W : List Val) → AllAgree B W → flat_map tickets V ≡ flat_map tickets W →
    KeepsStep B V (kept W)
keeps_same B V W a e = (a, same_balances V W e)

pub keeps_discarding : (B : List Kind) (V gone W : List Val) → AllAgree B W →
    ((id : Identity) → amount_on id V ≡ amount_on id gone +ℤ amount_on id W) → KeepsStep B V (discarding gone W)
keeps_discarding B V gone W a e = (a, discard_balances V W gone e)

pub keeps_wrong : (d : Option Change) (V : List Val) → KeepsChange d V wrong
keeps_wrong None V = tt
keeps_wrong (Some d) V = tt

-- ---- tests on both sides

pub change_where : (b : Bool) (d : Option Change) (V : List Val) (s : Step) → (b ≡ true → KeepsChange d V s) →
    KeepsChange (c.where_true b d) V s
change_where true d V s h = h refl
change_where false d V s h = tt

pub change_then : {A : Type 0} (o : Option A) (f : A → Option Change) (V : List Val) (s : Step) →
    ((x : A) → o ≡ Some x → KeepsChange (f x) V s) → KeepsChange (option_and_then f o) V s
change_then (Some x) f V s h = h x refl
change_then None f V s h = tt

pub change_map : {A : Type 0} (o : Option A) (f : A → Change) (V : List Val) (s : Step) →
    ((x : A) → o ≡ Some x → KeepsStep (after (f x)) V s) → KeepsChange (option_map f o) V s
change_map (Some x) f V s h = h x refl
change_map None f V s h = tt

pub step_where : (b : Bool) (B : List Kind) (V : List Val) (s : Step) → (b ≡ true → KeepsStep B V s) →
    KeepsStep B V (where_true b s)
step_where true B V s h = h refl
step_where false B V s h = tt

pub step_some : {A : Type 0} (o : Option A) (B : List Kind) (V : List Val) (go : A → Step) →
    ((x : A) → o ≡ Some x → KeepsStep B V (go x)) → KeepsStep B V (on_some o go)
step_some (Some x) B V go h = h x refl
step_some None B V go h = tt

pub step_limit : {A : Type 0} (r : Result A Limit) (B : List Kind) (V : List Val) (go : A → Step) →
    ((x : A) → KeepsStep B V (go x)) → KeepsStep B V (within_limit r go)
step_limit (Ok x) B V go h = h x
step_limit (Err l) B V go h = tt

-- ---- agreement in the places of a stack

pub agree_append : (A B : List Kind) (V W : List Val) → AllAgree A V → AllAgree B W → AllAgree (A ++ B) (V ++ W)
agree_append [] B [] W h g = g
agree_append (a ∷ A) B (x ∷ V) W h g = (h.0, agree_append A B V W h.1 g)
agree_append [] B (x ∷ V) W h g = absurd h
agree_append (a ∷ A) B [] W h g = absurd h

pub agree_take : (n : ℕ) (A : List Kind) (V : List Val) → AllAgree A V → AllAgree (take n A) (take n V)
agree_take zero A V h = tt
agree_take (suc n) [] [] h = tt
agree_take (suc n) (a ∷ A) (x ∷ V) h = (h.0, agree_take n A V h.1)
agree_take (suc n) [] (x ∷ V) h = absurd h
agree_take (suc n) (a ∷ A) [] h = absurd h

pub agree_drop : (n : ℕ) (A : List Kind) (V : List Val) → AllAgree A V → AllAgree (drop n A) (drop n V)
agree_drop zero A V h = h
agree_drop (suc n) [] [] h = tt
agree_drop (suc n) (a ∷ A) (x ∷ V) h = agree_drop n A V h.1
agree_drop (suc n) [] (x ∷ V) h = absurd h
agree_drop (suc n) (a ∷ A) [] h = absurd h

pub agree_get : (n : ℕ) (A : List Kind) (V : List Val) (a : Kind) (x : Val) → AllAgree A V → slice_get A n ≡ Some a →
    slice_get V n ≡ Some x → Agrees a x
agree_get n [] V a x h e f = absurd cc
agree_get n (b ∷ A) [] a x h e f = absurd cc
agree_get zero (b ∷ A) (y ∷ V) a x h e f =
    let i : b ≡ a = cc in
    let j : y ≡ x = cc in
    subst (λ z. Agrees a z) j (subst (λ d. Agrees d y) i h.0)
agree_get (suc n) (b ∷ A) (y ∷ V) a x h e f = agree_get n A V a x h.1 e f

-- one value without tickets in place of others without
pub one_for : (a : Kind) (B : List Kind) (V : List Val) (y : Val) (W : List Val) → Agrees a y → tickets y ≡ [] → AllAgree B W →
    flat_map tickets V ≡ flat_map tickets W → KeepsStep (a ∷ B) V (kept (y ∷ W))
one_for a B V y W g e h f = keeps_same (a ∷ B) V (y ∷ W) (g, h) (f ∙ sym (ap (λ ts. ts ++ flat_map tickets W) e))
