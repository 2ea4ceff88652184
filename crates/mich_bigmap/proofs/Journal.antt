-- The bases before and after one is added or taken back.
use Rattle.std.proofs.Common.{◌≡◌, ℕ, zero, suc, ◌<◌, ◌≤◌, ◌+◌, ◌-◌, ◌==◌, true, false, List, [], ◌∷◌, ◌++◌, length, map, None, refl, sym, ap, ◌∙◌, arith, subst, take}
use Rattle.std.specs.Prelude.{if◌then◌else◌}
use Rattle.std.specs.declared.cmp.Ordering.TheVariants.{Less}
use Rattle.std.specs.Ordering.{nat_cmp}
use Rattle.std.specs.Map.{keys_of}
use Rattle.std.specs.List.{AllByRecursion}
use Rattle.std.specs.List.Sorted.{IsStrictlySortedBy}
use Rattle.std.proofs.lemmas.Bool.Decides.{nat_tests}
use Rattle.mich_base.specs.undo.History.{height_of, grown, stepped_back}
use Rattle.mich_term.specs.Keyed.{IsIncreasing}
use Rattle.mich_bigmap.specs.Bases.{Base, Bases, base_at}
use Rattle.mich_bigmap.specs.Stacked.{base_of, stacked, bases_of, number_of}
use Rattle.mich_bigmap.specs.Stored.{below_each, history_of, noted_of, IsStore}
use Rattle.mich_bigmap.specs.declared.layers.Layer.{Layer}
use Rattle.mich_bigmap.proofs.Below.{NoneIs, passed}

-- ---- lists of layers with one more at the end

pub stacked_more : (ls : List Layer) (l : Layer) (bs : Bases) → stacked (ls ++ l ∷ []) bs ≡ base_of l ∷ stacked ls bs
stacked_more [] l bs = refl
stacked_more (m ∷ ls) l bs = stacked_more ls l (base_of m ∷ bs)

length_stacked : (ls : List Layer) (bs : Bases) → length (stacked ls bs) ≡ length ls + length bs
length_stacked [] bs = omega arith
length_stacked (l ∷ ls) bs = omega (arith, length_stacked ls (base_of l ∷ bs))

length_more : (ls : List Layer) (l : Layer) → length (ls ++ l ∷ []) ≡ length ls + 1
length_more [] l = omega arith
length_more (m ∷ ls) l = omega (arith, length_more ls l)

all_more : (P : Layer → Type 0) (ls : List Layer) (l : Layer) → AllByRecursion P ls → P l → AllByRecursion P (ls ++ l ∷ [])
all_more P [] l a h = (h, tt)
all_more P (m ∷ ls) l a h = (a.0, all_more P ls l a.1 h)

all_front : (P : Layer → Type 0) (ls : List Layer) (l : Layer) → AllByRecursion P (ls ++ l ∷ []) → AllByRecursion P ls
all_front P [] l a = tt
all_front P (m ∷ ls) l a = (a.0, all_front P ls l a.1)

all_mapped : (P Q : Layer → Type 0) → ((l : Layer) → P l → Q l) → (ls : List Layer) → AllByRecursion P ls → AllByRecursion Q ls
all_mapped P Q f [] a = tt
all_mapped P Q f (l ∷ ls) a = (f l a.0, all_mapped P Q f ls a.1)

numbers_more : (P : ℕ → Type 0) (ls : List Layer) (l : Layer) → AllByRecursion P (map number_of ls) → P (number_of l) → AllByRecursion P (map number_of (ls ++ l ∷ []))
numbers_more P [] l a h = (h, tt)
numbers_more P (m ∷ ls) l a h = (a.0, numbers_more P ls l a.1 h)

numbers_front : (P : ℕ → Type 0) (ls : List Layer) (l : Layer) → AllByRecursion P (map number_of (ls ++ l ∷ [])) → AllByRecursion P (map number_of ls)
numbers_front P [] l a = tt
numbers_front P (m ∷ ls) l a = (a.0, numbers_front P ls l a.1)

less : (m n : ℕ) → m < n → nat_cmp m n ≡ Less
less m n h = grind (arith, nat_tests)

sorted_more : (ls : List Layer) (l : Layer) → IsStrictlySortedBy nat_cmp (map number_of ls) → AllByRecursion (λ m. number_of m < number_of l) ls → IsStrictlySortedBy nat_cmp (map number_of (ls ++ l ∷ []))
unfolding IsStrictlySortedBy
sorted_more [] l s a = (tt, tt)
sorted_more (m ∷ ls) l s a = (numbers_more (λ k. nat_cmp m.number k ≡ Less) ls l s.0 (less m.number l.number a.0), sorted_more ls l s.1 a.1)

sorted_front : (ls : List Layer) (l : Layer) → IsStrictlySortedBy nat_cmp (map number_of (ls ++ l ∷ [])) → IsStrictlySortedBy nat_cmp (map number_of ls)
unfolding IsStrictlySortedBy
sorted_front [] l s = tt
sorted_front (m ∷ ls) l s = (numbers_front (λ k. nat_cmp m.number k ≡ Less) ls l s.0, sorted_front ls l s.1)

noted_front : (ls ms : List Layer) → noted_of (ls ++ ms) ≡ [] → noted_of ls ≡ []
noted_front [] ms h = refl
noted_front (l ∷ ls) ms h = (elim l.noted as (λ b. (if b then l.number ∷ noted_of (ls ++ ms) else noted_of (ls ++ ms)) ≡ [] → (if b then l.number ∷ noted_of ls else noted_of ls) ≡ [])
    [ true ↦ λ q. cc | false ↦ λ q. noted_front ls ms q ]) h

-- ---- the invariant

pub empty_store : IsStore [] 0 0
unfolding IsStrictlySortedBy
empty_store = record { layers = record { numbers = tt; keys = tt }; given = tt; within = omega arith }

pub store_more : (ls new : List Layer) (kept next : ℕ) (l : Layer) → new ≡ ls ++ l ∷ [] → number_of l ≡ next → IsIncreasing (keys_of l.changes) → IsStore ls kept next → IsStore new kept (next + 1)
store_more ls new kept next l e n k s =
    let below : AllByRecursion (λ m. number_of m < number_of l) ls = subst (λ x. AllByRecursion (λ m. number_of m < x) ls) (sym n) s.given in
    subst (λ ms. IsStore ms kept (next + 1)) (sym e) (record {
      layers = record { numbers = sorted_more ls l s.layers.numbers below; keys = all_more _ ls l s.layers.keys k };
      given = all_more _ ls l (all_mapped _ _ (λ m (h : number_of m < next). omega arith) ls s.given) (omega arith);
      within = omega (arith, length_more ls l, s.within);
    })

store_front : (ls : List Layer) (kept next : ℕ) (l : Layer) → kept ≤ length ls → IsStore (ls ++ l ∷ []) kept next → IsStore ls kept next
store_front ls kept next l w s = record {
  layers = record { numbers = sorted_front ls l s.layers.numbers; keys = all_front _ ls l s.layers.keys };
  given = all_front _ ls l s.given;
  within = w;
}

-- ---- histories

last_of_each : (n : ℕ) (b : Base) (bs : Bases) → below_each (n + 1) (b ∷ bs) ≡ bs ∷ below_each n bs
last_of_each n b bs =
    let some : (n + 1 == 0) ≡ false = grind (arith, nat_tests) in
    let one : n + 1 - 1 ≡ n = omega arith in
    ap (λ t. if t then [] else bs ∷ below_each (n + 1 - 1) bs) some ∙ ap (λ m. bs ∷ below_each m bs) one

pub below_none : (bs : Bases) → below_each 0 bs ≡ []
below_none [] = refl
below_none (b ∷ bs) = refl

pub length_below : (n : ℕ) (bs : Bases) → n ≤ length bs → length (below_each n bs) ≡ n
length_below zero bs le = ap length (below_none bs)
length_below (suc n) [] le = absurd (omega arith)
length_below (suc n) (b ∷ bs) le =
    let one : suc n ≡ n + 1 = omega arith in
    ap (λ m. length (below_each m (b ∷ bs))) one ∙ ap length (last_of_each n b bs) ∙ (let more = length_below n bs (omega arith) in omega (arith, more))

pub height_is : (ls : List Layer) (kept : ℕ) → kept ≤ length ls → length ls - kept ≡ height_of (history_of (bases_of ls) (length ls - kept))
height_is ls kept le = sym (length_below (length ls - kept) (bases_of ls) (omega (arith, length_stacked ls [])))

pub history_more : (ls new : List Layer) (kept : ℕ) (l : Layer) → new ≡ ls ++ l ∷ [] → kept ≤ length ls
    → history_of (bases_of new) (length new - kept) ≡ grown (history_of (bases_of ls) (length ls - kept)) (base_of l ∷ bases_of ls)
history_more ls new kept l e le =
    let n = length ls - kept in
    let one : length (ls ++ l ∷ []) - kept ≡ n + 1 = omega (arith, length_more ls l) in
    ap (λ ms. history_of (bases_of ms) (length ms - kept)) e
    ∙ (λ i. history_of (stacked_more ls l [] i) (one i))
    ∙ ap (λ ps. record { present = base_of l ∷ bases_of ls; past = ps }) (last_of_each n (base_of l) (bases_of ls))

back_one : (ls : List Layer) (kept : ℕ) (l : Layer) → kept ≤ length ls
    → history_of (bases_of ls) (length ls - kept) ≡ stepped_back (bases_of (ls ++ l ∷ [])) (below_each (length (ls ++ l ∷ []) - kept) (bases_of (ls ++ l ∷ [])))
back_one ls kept l le = ap (λ h. stepped_back h.present h.past) (sym (history_more ls (ls ++ l ∷ []) kept l refl le))

-- a list that isn't empty has a last layer
split_last : (l : Layer) (ls : List Layer) → (m : Layer) × (l ∷ ls ≡ take (length ls) (l ∷ ls) ++ m ∷ [])
split_last l [] = (l, refl)
split_last l (k ∷ ls) =
    let more = split_last k ls in
    let one : length (k ∷ ls) ≡ suc (length ls) = omega arith in
    (more.0, ap (λ t. l ∷ t) more.1 ∙ sym (ap (λ n. take n (l ∷ k ∷ ls) ++ more.0 ∷ []) one))

-- what taking the last layer away leaves
pub history_back : (ls : List Layer) (kept next : ℕ) → kept < length ls → IsStore ls kept next
    → record {
      store : IsStore (take (length ls - 1) ls) kept next;
      bases : history_of (bases_of (take (length ls - 1) ls)) (length (take (length ls - 1) ls) - kept) ≡ stepped_back (bases_of ls) (below_each (length ls - kept) (bases_of ls));
      noted : noted_of ls ≡ [] → noted_of (take (length ls - 1) ls) ≡ [];
    }
history_back [] kept next lt s = absurd (omega arith)
history_back (k ∷ ls) kept next lt s =
    let one : length (k ∷ ls) - 1 ≡ length ls = omega arith in
    let new = take (length (k ∷ ls) - 1) (k ∷ ls) in
    let last = split_last k ls in
    let l = last.0 in
    let e : k ∷ ls ≡ new ++ l ∷ [] = last.1 ∙ sym (ap (λ n. take n (k ∷ ls) ++ l ∷ []) one) in
    let within : kept ≤ length new = omega (arith, ap length e, length_more new l) in
    record {
      store = store_front new kept next l within (subst (λ ms. IsStore ms kept next) e s);
      bases = back_one new kept l within ∙ ap (λ ms. stepped_back (bases_of ms) (below_each (length ms - kept) (bases_of ms))) (sym e);
      noted = λ h. noted_front new (l ∷ []) (ap noted_of (sym e) ∙ h);
    }

-- where nothing was added nothing is taken back
pub history_stays : (ls : List Layer) (kept : ℕ) → length ls ≤ kept → history_of (bases_of ls) (length ls - kept) ≡ stepped_back (bases_of ls) (below_each (length ls - kept) (bases_of ls))
history_stays ls kept le =
    let none : length ls - kept ≡ 0 = omega arith in
    let empty : below_each (length ls - kept) (bases_of ls) ≡ [] = ap (λ n. below_each n (bases_of ls)) none ∙ below_none (bases_of ls) in
    ap (λ ps. record { present = bases_of ls; past = ps }) empty ∙ sym (ap (stepped_back (bases_of ls)) empty)

-- ---- notes

pub noted_more : (ls new : List Layer) (l : Layer) → new ≡ ls ++ l ∷ [] → l.noted ≡ false → noted_of new ≡ noted_of ls
noted_more ls new l e n = ap noted_of e ∙ go ls
  where
    go : (ls : List Layer) → noted_of (ls ++ l ∷ []) ≡ noted_of ls
    go [] = ap (λ b. if b then l.number ∷ [] else []) n
    go (m ∷ ls) = ap (λ t. if m.noted then m.number ∷ t else t) (go ls)

-- ---- numbers

pub number_unused : (ls : List Layer) (kept next : ℕ) → IsStore ls kept next → base_at (bases_of ls) next ≡ None
number_unused ls kept next s = passed next ls [] (apart ls s.given)
  where
    apart : (ms : List Layer) → AllByRecursion (λ l. number_of l < next) ms → NoneIs next ms
    apart [] a = tt
    apart (l ∷ ms) a = (different l.number a.0, apart ms a.1)
      where
        different : (n : ℕ) → n < next → (n == next) ≡ false
        different n h = grind (arith, nat_tests)
