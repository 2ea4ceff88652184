-- Contracts that a group makes are new.
use Rattle.std.proofs.Common.{◌≡◌, ◌≢◌, ◌≤◌, ◌<◌, ◌^◌, ◌+◌, ℕ, suc, List, [], ◌∷◌, ◌++◌, length, take, drop, None, refl, sym, ap, ◌∙◌, arith, le_refl}
use Rattle.std.specs.Int.{w32, w64, to_be_bytes, from_be_bytes}
use Rattle.std.proofs.lemmas.Nat.{from_be_bytes-to_be_bytes_4}
use Rattle.rules_code.specs.evaluation.Operations.{Issued, new_contract}
use Rattle.rules_world.specs.world.World.{World, contract_at}
use Rattle.rules_world.specs.world.Outcomes.{Waiting}
use Rattle.rules_world.specs.world.Runs.{waiting_of}
use Rattle.laws_world.specs.operations.Fresh.{made_by, made_by_issued, made_by_waiting, IsNew, IsApart, AreNew, AreAbsent, IsFresh}

-- ---- the number in them

number_of : List ℕ → ℕ
number_of hash = from_be_bytes w32 (take 4 (drop 8 hash))

number_back : (group i : ℕ) → i < 2 ^ 32 → number_of (new_contract group i) ≡ i
unfolding number_of
number_back group i small = from_be_bytes-to_be_bytes_4 i small

pub new_length : (group i : ℕ) → length (new_contract group i) ≡ 20
new_length group i = refl

pub new_apart : (group i j : ℕ) → i < 2 ^ 32 → j < 2 ^ 32 → new_contract group i ≡ new_contract group j → i ≡ j
new_apart group i j h g same = sym (number_back group i h) ∙ ap number_of same ∙ number_back group j g

pub take_group : (group i : ℕ) → take 8 (new_contract group i) ≡ to_be_bytes w64 group
take_group group i = refl

-- ---- lists of them

later_apart : (group n m : ℕ) (h k : List ℕ) → m ≤ 2 ^ 32 → IsNew group n m h → IsNew group 0 n k → h ≢ k
later_apart group n m h k small a b same =
    let one : a.0 ≡ b.0 = new_apart group a.0 b.0 (omega arith) (omega arith) (sym a.3 ∙ same ∙ b.3) in
    omega arith

all_apart : (group n m : ℕ) (h : List ℕ) (ks : List (List ℕ)) → m ≤ 2 ^ 32 → IsNew group n m h → AreNew group 0 n ks →
    IsApart h ks
all_apart group n m h [] small a b = tt
all_apart group n m h (k ∷ ks) small a b = (later_apart group n m h k small a b.0, all_apart group n m h ks small a b.2)

apart_append : (h : List ℕ) (ks ls : List (List ℕ)) → IsApart h ks → IsApart h ls → IsApart h (ks ++ ls)
apart_append h [] ls a b = b
apart_append h (k ∷ ks) ls a b = (a.0, apart_append h ks ls a.1 b)

wider : (group n m : ℕ) (ks : List (List ℕ)) → n ≤ m → AreNew group 0 n ks → AreNew group 0 m ks
wider group n m [] le a = tt
wider group n m (k ∷ ks) le a = ((a.0.0, a.0.1, omega arith, a.0.3), a.1, wider group n m ks le a.2)

new_append : (group n m : ℕ) (hs ks : List (List ℕ)) → n ≤ m → m ≤ 2 ^ 32 → AreNew group n m hs → AreNew group 0 n ks →
    AreNew group 0 m (hs ++ ks)
new_append group n m [] ks le small a b = wider group n m ks le b
new_append group n m (h ∷ hs) ks le small a b = (
  (a.0.0, omega arith, a.0.2, a.0.3),
  apart_append h hs ks a.1
      (all_apart group n m h ks small a.0 b),
  new_append group n m hs ks le small a.2 b,
)

absent_append : (w : World) (hs ks : List (List ℕ)) → AreAbsent w hs → AreAbsent w ks → AreAbsent w (hs ++ ks)
absent_append w [] ks a b = b
absent_append w (h ∷ hs) ks a b = (a.0, absent_append w hs ks a.1 b)

absent_later : (group n m : ℕ) (w : World) (hs : List (List ℕ)) → m ≤ 2 ^ 32 →
    ((i : ℕ) → n ≤ i → i < 2 ^ 32 → contract_at w (new_contract group i) ≡ None) → AreNew group n m hs → AreAbsent w hs
absent_later group n m w [] small later a = tt
absent_later group n m w (h ∷ hs) small later a = (
  ap (contract_at w) a.0.3
      ∙ later a.0.0 a.0.1 (omega arith),
  absent_later group n m w hs small later a.2,
)

-- ---- steps

module _ (group : ℕ) (w x : World) where
  absent_step : (hs : List (List ℕ)) → ((q : List ℕ) → contract_at w q ≡ None → contract_at x q ≡ None) → AreAbsent w hs →
      AreAbsent x hs
  absent_step [] none a = tt
  absent_step (h ∷ hs) none a = (none h a.0, absent_step hs none a.1)

  absent_apart : (h : List ℕ) (hs : List (List ℕ)) → ((q : List ℕ) → q ≢ h → contract_at w q ≡ None → contract_at x q ≡ None) →
      IsApart h hs → AreAbsent w hs → AreAbsent x hs
  absent_apart h [] none p a = tt
  absent_apart h (k ∷ hs) none p a = (none k (λ e. p.0 (sym e)) a.0, absent_apart h hs none p.1 a.1)

  -- no contract comes to be
  pub fresh_step : (n : ℕ) (hs : List (List ℕ)) → ((q : List ℕ) → contract_at w q ≡ None → contract_at x q ≡ None) →
      IsFresh group n w hs → IsFresh group n x hs
  fresh_step n hs none f = record {
    waiting = f.waiting;
    absent = absent_step hs none f.absent;
    later = λ i le small. none
        (new_contract group i) (f.later i le small);
  }

  -- none comes to be, and others begin to wait
  pub fresh_emitted : (n m : ℕ) (hs ks : List (List ℕ)) → n ≤ m → m ≤ 2 ^ 32 →
      ((q : List ℕ) → contract_at w q ≡ None → contract_at x q ≡ None) → AreNew group n m hs → IsFresh group n w ks →
      IsFresh group m x (hs ++ ks)
  fresh_emitted n m hs ks le small none a f =
      let g = fresh_step n ks none f in
      record {
        waiting = new_append group n m hs ks le small a f.waiting;
        absent = absent_append x hs ks (absent_later group n m x hs small g.later a) g.absent;
        later = λ i below bound. g.later i (omega arith) bound;
      }

  -- the one that waits first comes to be
  pub fresh_made : (n : ℕ) (h : List ℕ) (ks : List (List ℕ)) → n ≤ 2 ^ 32 →
      ((q : List ℕ) → q ≢ h → contract_at w q ≡ None → contract_at x q ≡ None) → IsFresh group n w (h ∷ ks) →
      IsFresh group n x ks
  fresh_made n h ks small none f = record {
    waiting = f.waiting.2;
    absent = absent_apart h ks none f.waiting.1 f.absent.1;
    later = λ i le bound. none (new_contract group i) (other i le bound) (f.later i le bound);
  }
    where
      other : (i : ℕ) → n ≤ i → i < 2 ^ 32 → new_contract group i ≢ h
      other i le bound same =
          let a = f.waiting.0 in
          let one : i ≡ a.0 = new_apart group i a.0 bound (omega arith) (same ∙ a.3) in
          omega arith

  -- the next one comes to be
  pub fresh_next : (n : ℕ) (ks : List (List ℕ)) → n < 2 ^ 32 →
      ((q : List ℕ) → q ≢ new_contract group n → contract_at w q ≡ None → contract_at x q ≡ None) → IsFresh group n w ks →
      IsFresh group (suc n) x ks
  fresh_next n ks small none f = record {
    waiting = wider group n (suc n) ks (omega arith) f.waiting;
    absent = absent_apart (new_contract group n) ks none (all_apart group n (suc n) (new_contract group n) ks (omega arith)
        (n, le_refl n, omega arith, refl) f.waiting) f.absent;
    later = λ i le bound. none (new_contract group i) (other i le bound) (f.later i (omega arith) bound);
  }
    where
      other : (i : ℕ) → suc n ≤ i → i < 2 ^ 32 → new_contract group i ≢ new_contract group n
      other i le bound same = let one : i ≡ n = new_apart group i n bound small same in omega arith

-- ---- what a run emits

pub made_emitted : (sender : List ℕ) (is : List Issued) (waiting : List Waiting) →
    made_by_waiting (waiting_of sender is ++ waiting) ≡ made_by_issued is ++ made_by_waiting waiting
made_emitted sender [] waiting = refl
made_emitted sender (i ∷ is) waiting =
    ap (λ hs. made_by i.operation ++ hs) (made_emitted sender is waiting)
    ∙ sym (Rattle.std.proofs.Common.append_assoc (made_by i.operation) (made_by_issued is) (made_by_waiting waiting))
