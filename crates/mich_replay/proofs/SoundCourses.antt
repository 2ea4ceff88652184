-- The course that goes on from a sound state.
use Rattle.std.proofs.Common.{◌≡◌, ◌≤◌, ◌<◌, ◌+◌, ◌^◌, ℕ, zero, suc, Bool, true, false, ◌&&◌, ◌||◌, not, List, [], ◌∷◌, length, map, take, Option, None, refl, sym, ap, ◌∙◌, arith}
use Rattle.std.proofs.lemmas.Bool.{and_parts}
use Rattle.std.proofs.lemmas.Bool.Decides.{nat_tests}
use Rattle.std.proofs.lemmas.Nat.{from_be_bytes-to_be_bytes_8}
use Rattle.std.specs.Int.{w64, from_be_bytes, to_be_bytes}
use Rattle.std.proofs.lemmas.List.Sums.{sum_by-cons}
use Rattle.std.specs.List.{list_all, sum_by}
use Rattle.std.specs.Prelude.{◌-◌, nat_le, slice_get, unwrap_or, if◌then◌else◌}
use Rattle.rules_code.specs.evaluation.Surroundings.{Contract}
use Rattle.rules_data.specs.gas.Kinds as kinds
use Rattle.rules_data.specs.gas.Prices.{Price, standard_price}
use Rattle.rules_files.specs.snapshots.Course.{course_of, world_of}
use Rattle.rules_files.specs.snapshots.Rules.{all_mutez, has_begun, is_contract, is_head, is_price, is_sound, is_standard}
use Rattle.rules_files.specs.snapshots.Spelling.{contract_spelling}
use Rattle.rules_files.specs.snapshots.Spelt.{IsSpelt, IsSpeltContract}
use Rattle.rules_files.specs.snapshots.State.{State}
use Rattle.rules_text.specs.nodes.Limits.{most_level, most_rate}
use Rattle.rules_world.specs.world.Balances.{supply}
use Rattle.rules_world.specs.world.Good.{IsGood, IsNewGroup}
use Rattle.rules_world.specs.world.World.{Account}
use Rattle.laws_files.specs.Laws.{IsGoodCourse}
use Rattle.mich_snapshot.proofs.SoundParts.{contract_parts, each_holds, sound_parts}

-- ---- the head

or_none : (a b : Bool) → (a || b) ≡ false → (a ≡ false) × (b ≡ false)
or_none true b e = absurd cc
or_none false b e = (refl, e)

not_false : (b : Bool) → not b ≡ true → b ≡ false
not_false true e = absurd cc
not_false false e = refl

or_right : (a b : Bool) → (a || b) ≡ true → a ≡ false → b ≡ true
or_right true b h e = absurd cc
or_right false b h e = h

none_there : {A : Type 0} (xs : List A) → nat_le 1 (length xs) ≡ false → xs ≡ []
none_there [] e = refl
none_there (x ∷ xs) e = absurd (grind (arith, nat_tests, e))

-- what the rules of the head say
pub record IsHeadOf (s : State) : Type 0 where
  pub groups : s.groups < 2 ^ 63
  pub marks : (s.started || not (has_begun s)) ≡ true

most : (n : ℕ) → nat_le n (2 ^ 63 - 1) ≡ true → n < 2 ^ 63
most n e = grind (arith, nat_tests, e)

head_is : (s : State) → is_head s ≡ true → IsHeadOf s
head_is s h =
    let level = nat_le s.level most_level in
    let groups = nat_le s.groups (2 ^ 63 - 1) in
    let rate = nat_le s.rate (if s.pays then most_rate else 0) in
    let marks = s.started || not (has_begun s) in
    let d = and_parts (level && groups && rate && marks) (s.costs_stood || list_all is_standard s.prices) h in
    let c = and_parts (level && groups && rate) marks d.0 in
    let b = and_parts (level && groups) rate c.0 in
    let a = and_parts level groups b.0 in
    record { groups = most s.groups a.1; marks = c.1 }

-- where a profile may stand, there are no accounts and no contracts
pub nobody_there : (s : State) → is_sound s ≡ true → (course_of s).at_head ≡ true → (s.accounts ≡ []) × (s.contracts ≡ [])
nobody_there s sound head =
    let marks = or_none s.costs_stood s.started (not_false (s.costs_stood || s.started) head) in
    let begun : has_begun s ≡ false = not_false (has_begun s) (or_right s.started (not (has_begun s)) (head_is s (sound_parts s sound).head).marks marks.1) in
    let b = or_none (nat_le 1 s.groups || nat_le 1 (length s.accounts)) (nat_le 1 (length s.contracts)) begun in
    let a = or_none (nat_le 1 s.groups) (nat_le 1 (length s.accounts)) b.0 in
    (none_there s.accounts a.1, none_there s.contracts b.1)

pub groups_few : (s : State) → is_sound s ≡ true → s.groups < 2 ^ 63
groups_few s sound = (head_is s (sound_parts s sound).head).groups

-- ---- prices

price_charged : (p : Price) → is_price p ≡ true → 1 ≤ p.base
price_charged p h =
    let b = and_parts (nat_le 1 p.base && nat_le p.base Rattle.rules_text.specs.nodes.Limits.most_price) (nat_le p.coefficient Rattle.rules_text.specs.nodes.Limits.most_price) h in
    let a = and_parts (nat_le 1 p.base) (nat_le p.base Rattle.rules_text.specs.nodes.Limits.most_price) b.0 in
    least p.base a.0
  where
    least : (n : ℕ) → nat_le 1 n ≡ true → 1 ≤ n
    least n e = grind (arith, nat_tests, e)

listed_charged : (ps : List Price) (n : ℕ) → list_all is_price ps ≡ true → 1 ≤ (unwrap_or (slice_get ps n) standard_price).base
listed_charged [] n h = omega arith
listed_charged (p ∷ ps) zero h = price_charged p (and_parts (is_price p) (list_all is_price ps) h).0
listed_charged (p ∷ ps) (suc n) h = listed_charged ps n (and_parts (is_price p) (list_all is_price ps) h).1

-- ---- groups

-- the group that made a contract is one that there was
other_group : (s : State) (number : ℕ) → s.groups < number → number < 2 ^ 64 → (former : Option (List ℕ)) (c : List ℕ × Contract) → IsSpeltContract c → is_contract s former c ≡ true →
    ¬ (take 8 c.0 ≡ to_be_bytes w64 number)
other_group s number more small former c spelt h = λ same.
    let hash = (contract_parts s former c h).hash in
    let n = from_be_bytes w64 (take 8 c.0) in
    let is : n ≡ number = ap (from_be_bytes w64) same ∙ from_be_bytes-to_be_bytes_8 number small in
    past n number s.groups is more (within hash)
  where
    past : (n number groups : ℕ) → n ≡ number → groups < number → n ≤ groups → ⊥
    past n number groups e more within = omega (arith, e, more, within)

    within : Rattle.rules_files.specs.snapshots.Rules.is_hash s c.0 ≡ true → from_be_bytes w64 (take 8 c.0) ≤ s.groups
    within h =
        let n = from_be_bytes w64 (take 8 c.0) in
        let b = and_parts (nat_le 1 n && nat_le n s.groups) _ h in
        let a = and_parts (nat_le 1 n) (nat_le n s.groups) b.0 in
        at_most n s.groups a.1
      where
        at_most : (m k : ℕ) → nat_le m k ≡ true → m ≤ k
        at_most m k e = grind (arith, nat_tests, e)

new_groups : (s : State) → IsSpelt s → is_sound s ≡ true → (number : ℕ) → s.groups < number → number < 2 ^ 64 → IsNewGroup number (world_of s)
new_groups s spelt sound number more small =
    each_holds contract_spelling (is_contract s) (λ c. c.0) IsSpeltContract (λ c. ¬ (take 8 c.0 ≡ to_be_bytes w64 number))
    (other_group s number more small) None s.contracts spelt.contracts.1 (sound_parts s sound).contracts

-- ---- mutez

mapped_sum : {X Y : Type 0} (f : Y → ℕ) (g : X → Y) (xs : List X) → sum_by f (map g xs) ≡ sum_by (λ x. f (g x)) xs
mapped_sum f g [] = refl
mapped_sum f g (x ∷ xs) = sum_by-cons f (g x) (map g xs) ∙ ap (λ n. f (g x) + n) (mapped_sum f g xs) ∙ sym (sum_by-cons (λ y. f (g y)) x xs)

supply_is : (s : State) → supply (world_of s) ≡ all_mutez s
supply_is s =
    let accounts = mapped_sum (λ (a : Account). a.balance) (λ (e : List ℕ × Account). e.1) s.accounts in
    let contracts = mapped_sum (λ (c : Contract). c.balance) (λ (e : List ℕ × Contract). e.1) s.contracts in
    λ i. accounts i + contracts i + s.fees + s.storage_burn

-- its course is good, where its world is
pub sound_course : (s : State) → IsSpelt s → is_sound s ≡ true → IsGood (world_of s) [] → IsGoodCourse (course_of s)
sound_course s spelt sound good = record {
  whole = record { good = good; mutez = supply_is s };
  charged = λ kind. listed_charged s.prices (kinds.place kind) (sound_parts s sound).costs;
  new = new_groups s spelt sound;
}
