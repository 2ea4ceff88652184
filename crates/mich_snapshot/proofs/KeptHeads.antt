-- The rules of the head, the costs and the sums hold of a state as of what was kept of it.
use Rattle.std.proofs.Common.{◌≡◌, ℕ, suc, ◌+◌, ◌*◌, ◌-◌, ◌^◌, Bool, true, false, ◌&&◌, List, [], ◌∷◌, ◌++◌, length, Some, None, refl, sym, ap, ◌∙◌, arith}
use Rattle.std.specs.Int.{w64}
use Rattle.std.specs.List.{flat_map}
use Rattle.std.proofs.lemmas.List.{length-append}
use Rattle.rules_data.specs.gas.Kinds.{kinds_by_name}
use Rattle.rules_files.specs.snapshots.Rules.{first_fault, part}
use Rattle.rules_files.specs.snapshots.Spelling.{costs_spelling, eight, four, head_spelling, magic, mark, price_spelling, profile, signed, sums_spelling}
use Rattle.rules_files.specs.snapshots.Spelt.{IsSpelt}
use Rattle.mich_snapshot.proofs.Faults.{fails, holds, text_of}
use Rattle.std.specs.Prelude.{◌==◌, nat_le, ◌||◌, not, if◌then◌else◌}
use Rattle.std.specs.List.{list_all, sum_by}
use Rattle.std.proofs.lemmas.List.Sums.{sum_by-cons}
use Rattle.rules_data.specs.gas.Prices.{Price}
use Rattle.rules_text.specs.nodes.Limits.{most_level, most_mutez, most_rate}
use Rattle.rules_code.specs.evaluation.Surroundings.{Contract}
use Rattle.rules_world.specs.world.World.{Account}
use Rattle.rules_files.specs.snapshots.State.{State}
use Rattle.rules_files.specs.snapshots.Rules.{is_head, are_costs, are_sums, all_mutez, is_price, is_standard}
use Rattle.mich_saved.specs.KeptStates.{IsKeptAccount, IsKeptState, IsPlacedContract}
use Rattle.mich_saved.specs.Parts.{Head, KeptContract, KeptState}
use Rattle.mich_saved.specs.Sound.{Each}
use Rattle.mich_snapshot.specs.Heads.{all_kept_mutez, front_parts, is_kept_head, are_kept_costs, are_kept_sums}

same_length : {A B : Type 0} (R : A → B → Type 0) (xs : List A) (ys : List B) → Each R xs ys → length xs ≡ length ys
same_length R [] [] e = refl
same_length R (x ∷ xs) (y ∷ ys) e = ap suc (same_length R xs ys e.1)
same_length R [] (y ∷ ys) e = absurd e
same_length R (x ∷ xs) [] e = absurd e

kept_sum : {A B : Type 0} (f : A → ℕ) (g : B → ℕ) (R : A → B → Type 0) → ((x : A) (y : B) → R x y → f x ≡ g y) → (xs : List A) (ys : List B) → Each R xs ys → sum_by f xs ≡ sum_by g ys
kept_sum f g R same [] [] e = refl
kept_sum f g R same (x ∷ xs) (y ∷ ys) e = sum_by-cons f x xs ∙ (λ i. same x y e.0 i + kept_sum f g R same xs ys e.1 i) ∙ sym (sum_by-cons g y ys)
kept_sum f g R same [] (y ∷ ys) e = absurd e
kept_sum f g R same (x ∷ xs) [] e = absurd e

account_sum : (xs : List (List ℕ × Account)) (ys : List (ℕ × (List ℕ × Account))) → Each IsKeptAccount xs ys → sum_by (λ a. a.1.balance) xs ≡ sum_by (λ a. a.1.1.balance) ys
account_sum xs ys e = kept_sum (λ (a : List ℕ × Account). a.1.balance) (λ (a : ℕ × (List ℕ × Account)). a.1.1.balance) IsKeptAccount (λ x y h. ap (λ (a : List ℕ × Account). a.1.balance) h) xs ys e

contract_sum : (xs : List (List ℕ × Contract)) (ys : List (ℕ × (List ℕ × KeptContract))) → Each IsPlacedContract xs ys → sum_by (λ c. c.1.balance) xs ≡ sum_by (λ c. c.1.1.balance) ys
contract_sum xs ys e = kept_sum (λ (c : List ℕ × Contract). c.1.balance) (λ (c : ℕ × (List ℕ × KeptContract)). c.1.1.balance) IsPlacedContract (λ x y h. h.balance) xs ys e

-- ---- the rules

abbrev head_rule : Head → List Price → ℕ → ℕ → Bool
head_rule h prices accounts contracts =
    nat_le h.level most_level
    && nat_le h.groups (2 ^ 63 - 1)
    && nat_le h.rate (if h.pays then most_rate else 0)
    && (h.started || not (nat_le 1 h.groups || nat_le 1 accounts || nat_le 1 contracts))
    && (h.costs_stood || list_all is_standard prices)

pub head_kept : (s : State) (k : KeptState) → IsKeptState s k → is_head s ≡ is_kept_head k
head_kept s k e =
    ap (λ (h : Head). head_rule h s.prices (length s.accounts) (length s.contracts)) e.head
    ∙ ap (λ (ps : List Price). head_rule k.head ps (length s.accounts) (length s.contracts)) e.prices
    ∙ ap (λ (n : ℕ). head_rule k.head k.prices n (length s.contracts)) (same_length IsKeptAccount s.accounts k.accounts e.accounts)
    ∙ ap (λ (n : ℕ). head_rule k.head k.prices (length k.accounts) n) (same_length IsPlacedContract s.contracts k.contracts e.contracts)

pub costs_kept : (s : State) (k : KeptState) → IsKeptState s k → are_costs s ≡ are_kept_costs k
costs_kept s k e = ap (list_all is_price) e.prices

mutez_kept : (s : State) (k : KeptState) → IsKeptState s k → all_mutez s ≡ all_kept_mutez k
mutez_kept s k e =
    let accounts = account_sum s.accounts k.accounts e.accounts in
    let contracts = contract_sum s.contracts k.contracts e.contracts in
    λ i. accounts i + contracts i + e.fees i + e.storage_burn i

abbrev sums_rule : ℕ → Bool → ℕ → Bool
sums_rule mutez pays burn = nat_le mutez most_mutez && (pays || burn == 0)

pub sums_kept : (s : State) (k : KeptState) → IsKeptState s k → are_sums s ≡ are_kept_sums k
sums_kept s k e =
    ap (λ (n : ℕ). sums_rule n s.pays s.storage_burn) (mutez_kept s k e)
    ∙ ap (λ (h : Head). sums_rule (all_kept_mutez k) h.pays s.storage_burn) e.head
    ∙ ap (λ (n : ℕ). sums_rule (all_kept_mutez k) k.head.pays n) e.storage_burn

-- ---- their places

one_byte : (b : Bool) → length (mark b) ≡ 1
one_byte true = refl
one_byte false = refl

profile_byte : (b : Bool) → length (profile b) ≡ 1
profile_byte true = refl
profile_byte false = refl

added : (m n : ℕ) (a b : List ℕ) → length a ≡ m → length b ≡ n → length (a ++ b) ≡ m + n
added m n a b h e = omega (arith, length-append a b, h, e)

head_length : (s : State) → IsSpelt s → length (head_spelling s) ≡ 43
head_length s h =
    let marks = mark s.costs_stood ++ mark s.started in
    let groups = eight s.groups ++ marks in
    let rate = eight s.rate ++ groups in
    let pays = profile s.pays ++ rate in
    let moment = signed w64 s.moment ++ pays in
    let level = four s.level ++ moment in
    let two : length marks ≡ 2 = added 1 1 (mark s.costs_stood) (mark s.started) (one_byte s.costs_stood) (one_byte s.started) in
    let ten : length groups ≡ 10 = added 8 2 (eight s.groups) marks refl two in
    let eighteen : length rate ≡ 18 = added 8 10 (eight s.rate) groups refl ten in
    let nineteen : length pays ≡ 19 = added 1 18 (profile s.pays) rate (profile_byte s.pays) eighteen in
    let below : length moment ≡ 27 = added 8 19 (signed w64 s.moment) pays refl nineteen in
    let behind : length level ≡ 31 = added 4 27 (four s.level) moment refl below in
    added 8 35 magic (s.chain ++ level) refl (added 4 31 s.chain level h.chain behind)

prices_length : (ps : List Price) → length (flat_map price_spelling ps) ≡ 8 * length ps
prices_length [] = refl
prices_length (p ∷ ps) = omega (arith, prices_length ps, length-append (price_spelling p) (flat_map price_spelling ps))

costs_length : (s : State) → IsSpelt s → length (costs_spelling s) ≡ 784
unfolding kinds_by_name
costs_length s h = let count : length s.prices ≡ length kinds_by_name = h.prices.0 in omega (arith, prices_length s.prices)

sums_length : (s : State) → length (sums_spelling s) ≡ 16
sums_length s = added 8 8 (eight s.fees) (eight s.storage_burn) refl refl

pub front_length : (s : State) → IsSpelt s → length (text_of (front_parts s)) ≡ 843
front_length s h =
    added 43 800 (head_spelling s) (costs_spelling s ++ (sums_spelling s ++ [])) (head_length s h)
    (added 784 16 (costs_spelling s) (sums_spelling s ++ []) (costs_length s h) (added 16 0 (sums_spelling s) [] (sums_length s) refl))

behind_head : (s : State) (k : KeptState) → IsSpelt s → IsKeptState s k → is_kept_head k ≡ true
    → first_fault 0 (front_parts s) ≡ first_fault 43 (part (costs_spelling s) (are_costs s) ∷ part (sums_spelling s) (are_sums s) ∷ [])
behind_head s k spelt e h =
    holds 0 (part (head_spelling s) (is_head s)) (part (costs_spelling s) (are_costs s) ∷ part (sums_spelling s) (are_sums s) ∷ []) (head_kept s k e ∙ h)
    ∙ ap (λ (n : ℕ). first_fault (0 + n) (part (costs_spelling s) (are_costs s) ∷ part (sums_spelling s) (are_sums s) ∷ [])) (head_length s spelt)

pub costs_fail : (s : State) (k : KeptState) → IsSpelt s → IsKeptState s k → is_kept_head k ≡ true → are_kept_costs k ≡ false → first_fault 0 (front_parts s) ≡ Some 43
costs_fail s k spelt e h c = behind_head s k spelt e h ∙ fails 43 (part (costs_spelling s) (are_costs s)) (part (sums_spelling s) (are_sums s) ∷ []) (costs_kept s k e ∙ c)

behind_costs : (s : State) (k : KeptState) → IsSpelt s → IsKeptState s k → is_kept_head k ≡ true → are_kept_costs k ≡ true
    → first_fault 0 (front_parts s) ≡ first_fault 827 (part (sums_spelling s) (are_sums s) ∷ [])
behind_costs s k spelt e h c =
    behind_head s k spelt e h ∙ holds 43 (part (costs_spelling s) (are_costs s)) (part (sums_spelling s) (are_sums s) ∷ []) (costs_kept s k e ∙ c)
    ∙ ap (λ (n : ℕ). first_fault (43 + n) (part (sums_spelling s) (are_sums s) ∷ [])) (costs_length s spelt)

pub sums_fail : (s : State) (k : KeptState) → IsSpelt s → IsKeptState s k → is_kept_head k ≡ true → are_kept_costs k ≡ true → are_kept_sums k ≡ false
    → first_fault 0 (front_parts s) ≡ Some 827
sums_fail s k spelt e h c u = behind_costs s k spelt e h c ∙ fails 827 (part (sums_spelling s) (are_sums s)) [] (sums_kept s k e ∙ u)

pub heads_hold : (s : State) (k : KeptState) → IsSpelt s → IsKeptState s k → is_kept_head k ≡ true → are_kept_costs k ≡ true → are_kept_sums k ≡ true
    → first_fault 0 (front_parts s) ≡ None
heads_hold s k spelt e h c u = behind_costs s k spelt e h c ∙ holds 827 (part (sums_spelling s) (are_sums s)) [] (sums_kept s k e ∙ u)
