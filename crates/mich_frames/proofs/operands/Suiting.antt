-- Values that fit their types suit the instruction that typing chose.
use Rattle.std.proofs.Common.{◌≡◌, ◌-◌, ◌^◌, ℕ, zero, suc, Bool, true, false, ◌&&◌, List, [], ◌∷◌, Option, Some, None, refl, sym, ap, subst, arith}
use Rattle.std.specs.Prelude.{ℤ, pos, ◌+ℤ◌, ◌≤ℤ◌, int_le, if◌then◌else◌, slice_get, option_and_then, IfSome}
use Rattle.std.proofs.lemmas.Bool.{and_parts}
use Rattle.std.proofs.lemmas.Int.{ints}
use Rattle.rules_text.specs.nodes.Limits.{most_minted}
use Rattle.rules_data.specs.types.Kind.{Kind}
use Rattle.rules_data.specs.types.Kind as k
use Rattle.rules_data.specs.types.Attributes.{comparable, duplicable}
use Rattle.rules_code.specs.instructions.Types as t
use Rattle.rules_code.specs.instructions.Same.{same_kind}
use Rattle.rules_code.specs.instructions.Change.{Change, makes, where_true}
use Rattle.rules_code.specs.instructions.StackChanges.{stack_change}
use Rattle.rules_code.specs.instructions.DataChanges.{collection_change}
use Rattle.rules_code.specs.instructions.NumberChanges.{number_change}
use Rattle.rules_code.specs.instructions.OtherChanges.{ticket_change}
use Rattle.rules_code.specs.instructions.Straight.{Straight, StackRow, CollectionRow, NumberRow, TicketRow, on_stack, on_pairs, on_unions, on_collections, on_numbers, on_truth, on_text, on_hashes, on_environment, on_operations, on_tickets}
use Rattle.rules_code.specs.instructions.Straight as i
use Rattle.rules_data.specs.values.Val.{Val, number, both, ticket}
use Rattle.rules_data.specs.values.Tickets.{Identity, Held, tickets}
use Rattle.rules_code.specs.typing.Fits.{Known, Fits, AllFit}
use Rattle.rules_code.specs.steps.Changes.{Change as Told, amount_of, is_alike, identity_of}
use Rattle.rules_code.specs.evaluation.Operations.{Issued}
use Rattle.laws_data.proofs.types_lemmas.ForCallers.{same_kind_true}
use Rattle.laws_code.specs.evaluation.Laws.{known, amount_on}
use Rattle.laws_code.specs.stacks.Sound.{Seen, AllTypes, total, Sound}
use Rattle.laws_code.proofs.stacks.ForCallers.{on_positive, alike_itself, comparable_value, nothing_in}
use Rattle.laws_code.proofs.typed.ForCallers.{Taken}
use Rattle.mich_stack.specs.Keys.{IsKeyOnTop}
use Rattle.mich_step.specs.collections.Keys.{SuitsCollections}
use Rattle.mich_step.specs.Ends.{SuitsStack, SuitsNumbers}
use Rattle.mich_step.specs.Rule.{SuitsTickets, Suits}

where_holds : (b : Bool) (o : Option Change) (c : Change) → where_true b o ≡ Some c → b ≡ true
where_holds true o c e = refl
where_holds false o c e = absurd cc

-- ---- DUP

get_fits : (w : Known) (n : ℕ) (A : List Kind) (V : List Val) (a : Kind) (x : Val) → AllFit w A V → slice_get A n ≡ Some a → slice_get V n ≡ Some x → Fits w a x
get_fits w n [] V a x h e g = absurd cc
get_fits w n (b ∷ A) [] a x h e g = absurd h
get_fits w zero (b ∷ A) (y ∷ V) a x h e g = let p : b ≡ a = cc in let q : y ≡ x = cc in subst (λ a. Fits w a x) p (subst (λ x. Fits w b x) q h.0)
get_fits w (suc n) (b ∷ A) (y ∷ V) a x h e g = get_fits w n A V a x h.1 e g

-- what is copied holds no ticket
copied : (w : Known) (n : ℕ) (A : List Kind) (V : List Val) (c : Change) → option_and_then (λ a. where_true (duplicable a) (makes a A)) (slice_get A n) ≡ Some c → AllFit w A V →
    IfSome (slice_get V n) (λ v. tickets v ≡ [])
copied w n A V c e h = by (slice_get A n) (slice_get V n) e (λ a x p q. get_fits w n A V a x h p q) refl refl
  where
    by : (o : Option Kind) (p : Option Val) → option_and_then (λ a. where_true (duplicable a) (makes a A)) o ≡ Some c → ((a : Kind) (x : Val) → slice_get A n ≡ Some a → slice_get V n ≡ Some x → Fits w a x) →
        slice_get A n ≡ o → slice_get V n ≡ p → IfSome p (λ v. tickets v ≡ [])
    by None p e fit f g = absurd cc
    by (Some a) None e fit f g = tt
    by (Some a) (Some x) e fit f g = nothing_in w a x (where_holds (duplicable a) (makes a A) c e) (fit a x f g)

stack_suits : (w : Known) (r : StackRow) (A : List Kind) (V : List Val) (c : Change) → stack_change r A ≡ Some c → AllFit w A V → SuitsStack r V
stack_suits w (i.dup n) A V c e h = copied w (n - 1) A V c e h
stack_suits w (i.drop n) A V c e h = tt
stack_suits w i.swap A V c e h = tt
stack_suits w (i.dig n) A V c e h = tt
stack_suits w (i.dug n) A V c e h = tt
stack_suits w i.unit A V c e h = tt
stack_suits w (i.cast a) A V c e h = tt
stack_suits w i.rename A V c e h = tt

-- ---- keys

key_on_top : (w : Known) (j : Kind) (A : List Kind) (V : List Val) → comparable j ≡ true → AllFit w (j ∷ A) V → IsKeyOnTop V
key_on_top w j A [] c h = absurd h
key_on_top w j A (x ∷ V) c h = comparable_value w j x c h.0

key_of : (w : Known) (j k : Kind) (A : List Kind) (V : List Val) → same_kind j k ≡ true → comparable k ≡ true → AllFit w (j ∷ A) V → IsKeyOnTop V
key_of w j k A V same c h = key_on_top w j A V (subst (λ z. comparable z ≡ true) (sym (same_kind_true j k same)) c) h

collections_suit : (w : Known) (r : CollectionRow) (A : List Kind) (V : List Val) (c : Change) → AllTypes A → collection_change r A ≡ Some c → AllFit w A V → SuitsCollections r V
collections_suit w i.mem_set (j ∷ k.set a ∷ A) V c ty e h = key_of w j a (k.set a ∷ A) V (where_holds (same_kind j a) _ c e) ty.1.0.0.0 h
collections_suit w i.mem_set _ V c ty e h = absurd cc
collections_suit w i.mem_map (j ∷ k.map a b ∷ A) V c ty e h = key_of w j a (k.map a b ∷ A) V (where_holds (same_kind j a) _ c e) ty.1.0.0.0 h
collections_suit w i.mem_map _ V c ty e h = absurd cc
collections_suit w i.get_map (j ∷ k.map a b ∷ A) V c ty e h = key_of w j a (k.map a b ∷ A) V (where_holds (same_kind j a) _ c e) ty.1.0.0.0 h
collections_suit w i.get_map _ V c ty e h = absurd cc
collections_suit w i.update_set (j ∷ t.bool ∷ k.set a ∷ A) V c ty e h = key_of w j a (t.bool ∷ k.set a ∷ A) V (where_holds (same_kind j a) _ c e) ty.1.1.0.0.0 h
collections_suit w i.update_set _ V c ty e h = absurd cc
collections_suit w i.update_map (j ∷ k.option o ∷ k.map a b ∷ A) V c ty e h =
    key_of w j a (k.option o ∷ k.map a b ∷ A) V (and_parts (same_kind j a) (same_kind o b) (where_holds (same_kind j a && same_kind o b) _ c e)).0 ty.1.1.0.0.0 h
collections_suit w i.update_map _ V c ty e h = absurd cc
collections_suit w i.get_and_update_map (j ∷ k.option o ∷ k.map a b ∷ A) V c ty e h =
    key_of w j a (k.option o ∷ k.map a b ∷ A) V (and_parts (same_kind j a) (same_kind o b) (where_holds (same_kind j a && same_kind o b) _ c e)).0 ty.1.1.0.0.0 h
collections_suit w i.get_and_update_map _ V c ty e h = absurd cc
collections_suit w (i.empty_set a) A V c ty e h = tt
collections_suit w (i.empty_map a b) A V c ty e h = tt
collections_suit w (i.empty_big_map a b) A V c ty e h = tt
collections_suit w i.size_list A V c ty e h = tt
collections_suit w i.size_set A V c ty e h = tt
collections_suit w i.size_map A V c ty e h = tt
collections_suit w i.mem_big_map A V c ty e h = tt
collections_suit w i.get_big_map A V c ty e h = tt
collections_suit w i.update_big_map A V c ty e h = tt
collections_suit w i.get_and_update_big_map A V c ty e h = tt

-- ---- shifts

abbrev StartsWithNats : List Kind → Type 0
StartsWithNats A = (B : List Kind) × (A ≡ t.nat ∷ t.nat ∷ B)

left_nats : (A : List Kind) (c : Change) → number_change i.lsl A ≡ Some c → StartsWithNats A
left_nats (t.nat ∷ t.nat ∷ A) c e = (A, refl)
left_nats _ c e = absurd cc

right_nats : (A : List Kind) (c : Change) → number_change i.lsr A ≡ Some c → StartsWithNats A
right_nats (t.nat ∷ t.nat ∷ A) c e = (A, refl)
right_nats _ c e = absurd cc

nat_positive : (x : ℤ) → Rattle.rules_data.specs.values.Literals.is_nat x ≡ true → pos 0 ≤ℤ x
nat_positive x h = let low : int_le (pos 0) x ≡ true = (and_parts (int_le (pos 0) x) (int_le x (pos (2 ^ 127 - 1))) h).0 in grind (arith, ints)

both_positive : (w : Known) (A : List Kind) (x y : ℤ) (V : List Val) → StartsWithNats A → AllFit w A (number x ∷ number y ∷ V) → (pos 0 ≤ℤ x) × (pos 0 ≤ℤ y)
both_positive w A x y V nats h =
    let f : AllFit w (t.nat ∷ t.nat ∷ nats.0) (number x ∷ number y ∷ V) = subst (λ A. AllFit w A (number x ∷ number y ∷ V)) nats.1 h in
    (nat_positive x f.0, nat_positive y f.1.0)

left_suits : (w : Known) (A : List Kind) (V : List Val) → StartsWithNats A → AllFit w A V → SuitsNumbers i.lsl V
left_suits w A (number x ∷ number y ∷ V) nats h = both_positive w A x y V nats h
left_suits w A _ nats h = tt

right_suits : (w : Known) (A : List Kind) (V : List Val) → StartsWithNats A → AllFit w A V → SuitsNumbers i.lsr V
right_suits w A (number x ∷ number y ∷ V) nats h = both_positive w A x y V nats h
right_suits w A _ nats h = tt

numbers_suit : (w : Known) (r : NumberRow) (A : List Kind) (V : List Val) (c : Change) → number_change r A ≡ Some c → AllFit w A V → SuitsNumbers r V
numbers_suit w i.lsl A V c e h = left_suits w A V (left_nats A c e) h
numbers_suit w i.lsr A V c e h = right_suits w A V (right_nats A c e) h
numbers_suit w i.add_numbers A V c e h = tt
numbers_suit w i.add_amounts A V c e h = tt
numbers_suit w i.sub A V c e h = tt
numbers_suit w i.sub_mutez A V c e h = tt
numbers_suit w i.mul_numbers A V c e h = tt
numbers_suit w i.mul_amounts A V c e h = tt
numbers_suit w i.ediv A V c e h = tt
numbers_suit w i.abs A V c e h = tt
numbers_suit w i.neg A V c e h = tt
numbers_suit w i.int A V c e h = tt
numbers_suit w i.isnat A V c e h = tt
numbers_suit w i.nat_to_bytes A V c e h = tt
numbers_suit w i.int_to_bytes A V c e h = tt
numbers_suit w i.bytes_to_nat A V c e h = tt
numbers_suit w i.bytes_to_int A V c e h = tt

-- ---- tickets

alike_sum : (x y r t m : ℤ) → (x +ℤ (y +ℤ pos 0) +ℤ r) ≤ℤ t → t ≤ℤ m → pos 0 ≤ℤ r → (x +ℤ y) ≤ℤ m
alike_sum x y r t m h i j = omega (arith, ints, h, i, j)

-- two tickets that are alike are together no more than were minted
joined : (e : Seen) (is : List Issued) (cs : List Told) (A : List Kind) (V : List Val) (s u : Held) →
    Sound e is cs A (both (ticket s.issuer s.kind s.content s.amount) (ticket u.issuer u.kind u.content u.amount) ∷ V) → is_alike (identity_of s) (identity_of u) ≡ true → (s.amount +ℤ u.amount) ≤ℤ most_minted
joined e is cs A V s u so alike =
    let id : Identity = identity_of s in
    let below : (amount_of id s +ℤ (amount_of id u +ℤ pos 0) +ℤ amount_on id V) ≤ℤ total e cs id = so.below id in
    let first : amount_of id s ≡ s.amount = ap (λ b. if b then s.amount else pos 0) (alike_itself id) in
    let second : amount_of id u ≡ u.amount = ap (λ b. if b then u.amount else pos 0) alike in
    alike_sum s.amount u.amount (amount_on id V) (total e cs id) most_minted
    (subst (λ y. (s.amount +ℤ (y +ℤ pos 0) +ℤ amount_on id V) ≤ℤ total e cs id) second
    (subst (λ x. (x +ℤ (amount_of id u +ℤ pos 0) +ℤ amount_on id V) ≤ℤ total e cs id) first below))
    (so.most id) (rest_positive A so.fit)
  where
    rest_positive : (A : List Kind) → AllFit (known e.contract_at is) A (both (ticket s.issuer s.kind s.content s.amount) (ticket u.issuer u.kind u.content u.amount) ∷ V) → pos 0 ≤ℤ amount_on (identity_of s) V
    rest_positive [] h = absurd h
    rest_positive (a ∷ A) h = on_positive (identity_of s) (known e.contract_at is) A V h.1

join_suits : (e : Seen) (is : List Issued) (cs : List Told) (A : List Kind) (V : List Val) → Sound e is cs A V → SuitsTickets i.join_tickets V
join_suits e is cs A (both (ticket issuer kind content n) (ticket issuer' kind' content' n') ∷ V) so = λ alike.
    joined e is cs A V (record { issuer = issuer; kind = kind; content = content; amount = n }) (record { issuer = issuer'; kind = kind'; content = content'; amount = n' }) so alike
join_suits e is cs A _ so = tt

content_suits : (w : Known) (a : Kind) (A : List Kind) (V : List Val) (c : Change) → ticket_change (i.ticket a) A ≡ Some c → AllFit w A V → IsKeyOnTop V
content_suits w a (j ∷ t.nat ∷ A) V c e h =
    let both = and_parts (same_kind j a) (comparable a) (where_holds (same_kind j a && comparable a) _ c e) in
    key_of w j a (t.nat ∷ A) V both.0 both.1 h
content_suits w a _ V c e h = absurd cc

tickets_suit : (e : Seen) (is : List Issued) (cs : List Told) (r : TicketRow) (A : List Kind) (V : List Val) (c : Change) → ticket_change r A ≡ Some c → Sound e is cs A V → SuitsTickets r V
tickets_suit e is cs (i.ticket a) A V c same so = content_suits (known e.contract_at is) a A V c same so.fit
tickets_suit e is cs i.join_tickets A V c same so = join_suits e is cs A V so
tickets_suit e is cs i.read_ticket A V c same so = tt
tickets_suit e is cs i.split_ticket A V c same so = tt

-- ---- all rows

pub suits : (e : Seen) (is : List Issued) (cs : List Told) (r : Straight) (A B : List Kind) (V : List Val) → Taken r A B → Sound e is cs A V → Suits r V
suits e is cs (on_stack r) A B V taken so = stack_suits (known e.contract_at is) r A V taken.effect taken.changes so.fit
suits e is cs (on_collections r) A B V taken so = collections_suit (known e.contract_at is) r A V taken.effect so.types taken.changes so.fit
suits e is cs (on_numbers r) A B V taken so = numbers_suit (known e.contract_at is) r A V taken.effect taken.changes so.fit
suits e is cs (on_tickets r) A B V taken so = tickets_suit e is cs r A V taken.effect taken.changes so
suits e is cs (on_pairs r) A B V taken so = tt
suits e is cs (on_unions r) A B V taken so = tt
suits e is cs (on_truth r) A B V taken so = tt
suits e is cs (on_text r) A B V taken so = tt
suits e is cs (on_hashes r) A B V taken so = tt
suits e is cs (on_environment r) A B V taken so = tt
suits e is cs (on_operations r) A B V taken so = tt
