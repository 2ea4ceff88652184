-- No spelling is a proper prefix of another.
use Rattle.std.proofs.Common.{◌≡◌, ℕ, zero, suc, ◌+◌, ◌*◌, ◌/◌, ◌%◌, ◌^◌, ◌<◌, ◌≤◌, Bool, true, false, cond, nat_lt, min, List, [], ◌∷◌, ◌++◌, length, take, drop, refl, sym, ap, ◌∙◌, append_assoc, arith, ◌⊎◌, inl, inr}
use Rattle.std.specs.Prelude.{ℤ, pos, negsuc}
use Rattle.std.specs.Int.{w32, from_be_bytes, to_be_bytes}
use Rattle.std.proofs.lemmas.Bool.Decides.{nat_tests}
use Rattle.std.proofs.lemmas.List.{append-nil}
use Rattle.std.proofs.lemmas.Nat.{from_be_bytes-to_be_bytes_4}
use Rattle.rules_text.specs.nodes.Tree.{Tree, int, str, bytes, prim, seq, Trees, none, more}
use Rattle.rules_text.specs.binary.Spelling.{groups_within, groups, signed_groups, integer, field, joined, short, application, count, code, spelling, spellings}
use Rattle.laws_data.specs.binary.Laws.{NoPrefix}
use Rattle.laws_data.proofs.binary_lemmas.Integers.{IsRun, longer_run}
use Rattle.laws_data.proofs.binary_lemmas.Lengths.{HasLengths, HaveLengths, lengths}

abbrev head : List ℕ → ℕ
head [] = 0
head (b ∷ bs) = b

append_split : (p q x y : List ℕ) → length p ≡ length q → p ++ x ≡ q ++ y → (p ≡ q) × (x ≡ y)
append_split [] [] x y h e = (refl, e)
append_split [] (c ∷ q) x y h e = absurd (omega arith)
append_split (b ∷ p) [] x y h e = absurd (omega arith)
append_split (b ∷ p) (c ∷ q) x y h e =
    let first : b ≡ c = cc in
    let rest : p ++ x ≡ q ++ y = cc in
    let tail = append_split p q x y (omega arith) rest in
    (cc (tail.0), tail.1)

field_split : (p q x y : List ℕ) → length p < 2 ^ 32 → length q < 2 ^ 32 → field p ++ x ≡ field q ++ y → (p ≡ q) × (x ≡ y)
unfolding field
field_split p q x y h i e =
    let heads : to_be_bytes w32 (length p) ≡ to_be_bytes w32 (length q) = ap (λ (r : List ℕ). take 4 r) e in
    let lengths : length p ≡ length q = sym (from_be_bytes-to_be_bytes_4 (length p) h) ∙ ap (from_be_bytes w32) heads ∙ from_be_bytes-to_be_bytes_4 (length q) i in
    append_split p q x y lengths (ap (λ (r : List ℕ). drop 4 r) e)

run_split : (p q x y : List ℕ) → IsRun p → IsRun q → p ++ x ≡ q ++ y → (p ≡ q) × (x ≡ y)
run_split [] q x y r s e = absurd r
run_split (b ∷ p) [] x y r s e = absurd s
run_split (b ∷ []) (c ∷ []) x y r s e = let first : b ≡ c = cc in (cc first, cc)
run_split (b ∷ []) (c ∷ d ∷ q) x y r s e = let first : b ≡ c = cc in absurd (omega (arith, first, r, s.0))
run_split (b ∷ d ∷ p) (c ∷ []) x y r s e = let first : b ≡ c = cc in absurd (omega (arith, first, r.0, s))
run_split (b ∷ d ∷ p) (c ∷ f ∷ q) x y r s e =
    let first : b ≡ c = cc in
    let rest : (d ∷ p) ++ x ≡ (f ∷ q) ++ y = cc in
    let tail = run_split (d ∷ p) (f ∷ q) x y r.1 s.1 rest in
    (cc (first, tail.0), tail.1)

run_by : (n : ℕ) (gs : List ℕ) (t : Bool) → nat_lt n 128 ≡ t → (128 ≤ n → IsRun gs) → IsRun (cond t (n ∷ []) ((128 + n % 128) ∷ gs))
run_by n gs true t later = grind (arith, nat_tests)
run_by n gs false t later = longer_run (128 + n % 128) gs (omega arith) (later (grind (arith, nat_tests)))

groups_run : (k n : ℕ) → n ≤ k → IsRun (groups_within k n)
groups_run zero n h = omega arith
groups_run (suc k) n h = run_by n (groups_within k (n / 128)) (nat_lt n 128) refl (λ l. groups_run k (n / 128) (omega (arith, l)))

signed_by : (sign n : ℕ) (gs : List ℕ) (t : Bool) → nat_lt n 64 ≡ t → sign ≤ 64 → IsRun gs → IsRun (cond t ((sign + n) ∷ []) ((128 + sign + n % 64) ∷ gs))
signed_by sign n gs true t h r = grind (arith, nat_tests)
signed_by sign n gs false t h r = longer_run (128 + sign + n % 64) gs (omega arith) r

signed_run : (sign n : ℕ) → sign ≤ 64 → IsRun (signed_groups sign n)
unfolding groups
signed_run sign n h = signed_by sign n (groups (n / 64)) (nat_lt n 64) refl h (groups_run (n / 64) (n / 64) (omega arith))

pub integer_run : (z : ℤ) → IsRun (integer z)
unfolding integer
integer_run (pos n) = signed_run 0 n (omega arith)
integer_run (negsuc n) = signed_run 64 (suc n) (omega arith)

-- how two lists of this begin
abbrev Splits : List ℕ → List ℕ → Type 0
Splits p q = (x y : List ℕ) → p ++ x ≡ q ++ y → (p ≡ q) × (x ≡ y)

short_split : (tag c d : ℕ) (p q m l : List ℕ) → length m < 2 ^ 32 → length l < 2 ^ 32 → Splits p q → Splits (short tag c p m) (short tag d q l)
short_split tag c d p q [] [] h i args x y e =
    let first : c ≡ d = cc in
    let rest : p ++ x ≡ q ++ y = cc in
    let a = args x y rest in
    (cc (first, a.0), a.1)
short_split tag c d p q [] (l ∷ ls) h i args x y e = absurd (omega (arith, ap head e))
short_split tag c d p q (m ∷ ms) [] h i args x y e = absurd (omega (arith, ap head e))
short_split tag c d p q (m ∷ ms) (l ∷ ls) h i args x y e =
    let first : c ≡ d = cc in
    let rest : (p ++ field (m ∷ ms)) ++ x ≡ (q ++ field (l ∷ ls)) ++ y = cc in
    let a = args (field (m ∷ ms) ++ x) (field (l ∷ ls) ++ y) (sym (append_assoc p (field (m ∷ ms)) x) ∙ rest ∙ append_assoc q (field (l ∷ ls)) y) in
    let n = field_split (m ∷ ms) (l ∷ ls) x y h i a.1 in
    (cc (first, a.0, ap field n.0), n.1)

long_split : (c d : ℕ) (p q m l : List ℕ) → length p < 2 ^ 32 → length q < 2 ^ 32 → length m < 2 ^ 32 → length l < 2 ^ 32 → Splits ((9 ∷ c ∷ field p) ++ field m) ((9 ∷ d ∷ field q) ++ field l)
long_split c d p q m l f g h i x y e =
    let first : c ≡ d = cc in
    let rest : (field p ++ field m) ++ x ≡ (field q ++ field l) ++ y = cc in
    let a = field_split p q (field m ++ x) (field l ++ y) f g (sym (append_assoc (field p) (field m) x) ∙ rest ∙ append_assoc (field q) (field l) y) in
    let n = field_split m l x y h i a.1 in
    (cc (first, ap field a.0, ap field n.0), n.1)

short_head : (tag c : ℕ) (p m x : List ℕ) → (tag ≤ head (short tag c p m ++ x)) × (head (short tag c p m ++ x) ≤ tag + 1)
short_head tag c p [] x = (omega arith, omega arith)
short_head tag c p (m ∷ ms) x = (omega arith, omega arith)

-- the tag tells how many arguments there are, up to three
application_head : (c n : ℕ) (p m x : List ℕ) → (3 + 2 * min n 3 ≤ head (application c n p m ++ x)) × (head (application c n p m ++ x) ≤ 4 + 2 * min n 3) × (head (application c n p m ++ x) ≤ 9)
unfolding application
application_head c zero p m x = let h = short_head 3 c p m x in (h.0, h.1, omega (arith, h.1))
application_head c (suc zero) p m x = let h = short_head 5 c p m x in (h.0, h.1, omega (arith, h.1))
application_head c (suc (suc zero)) p m x = let h = short_head 7 c p m x in (h.0, h.1, omega (arith, h.1))
application_head c (suc (suc (suc n))) p m x = (omega arith, omega arith, omega arith)

split_by : (c d n k : ℕ) (p q m l : List ℕ) → min n 3 ≡ min k 3 → length p < 2 ^ 32 → length q < 2 ^ 32 → length m < 2 ^ 32 → length l < 2 ^ 32 → (n ≡ k → Splits p q)
    → Splits (application c n p m) (application d k q l)
unfolding application
split_by c d zero zero p q m l same f g h i args = short_split 3 c d p q m l h i (args refl)
split_by c d (suc zero) (suc zero) p q m l same f g h i args = short_split 5 c d p q m l h i (args refl)
split_by c d (suc (suc zero)) (suc (suc zero)) p q m l same f g h i args = short_split 7 c d p q m l h i (args refl)
split_by c d (suc (suc (suc n))) (suc (suc (suc k))) p q m l same f g h i args = long_split c d p q m l f g h i
split_by c d zero (suc k) p q m l same f g h i args = absurd (omega (arith, same))
split_by c d (suc n) zero p q m l same f g h i args = absurd (omega (arith, same))
split_by c d (suc zero) (suc (suc k)) p q m l same f g h i args = absurd (omega (arith, same))
split_by c d (suc (suc n)) (suc zero) p q m l same f g h i args = absurd (omega (arith, same))
split_by c d (suc (suc zero)) (suc (suc (suc k))) p q m l same f g h i args = absurd (omega (arith, same))
split_by c d (suc (suc (suc n))) (suc (suc zero)) p q m l same f g h i args = absurd (omega (arith, same))

application_split : (c d n k : ℕ) (p q m l : List ℕ) → length p < 2 ^ 32 → length q < 2 ^ 32 → length m < 2 ^ 32 → length l < 2 ^ 32 → (n ≡ k → Splits p q)
    → Splits (application c n p m) (application d k q l)
application_split c d n k p q m l f g h i args x y e =
    let a = application_head c n p m x in
    let b = application_head d k q l y in
    let same : min n 3 ≡ min k 3 = omega (arith, a.0, a.1, b.0, b.1, ap head e) in
    split_by c d n k p q m l same f g h i args x y e

tagged : (tag : ℕ) (p q : List ℕ) → Splits p q → Splits (tag ∷ p) (tag ∷ q)
tagged tag p q s x y e = let rest : p ++ x ≡ q ++ y = cc in let a = s x y rest in (cc (a.0), a.1)

fielded : (tag : ℕ) (p q : List ℕ) → length p < 2 ^ 32 → length q < 2 ^ 32 → Splits (tag ∷ field p) (tag ∷ field q)
fielded tag p q h i = tagged tag (field p) (field q) (λ x y e. let a = field_split p q x y h i e in (ap field a.0, a.1))

-- a head that is no application's
other : (tag c n : ℕ) (p m x y r : List ℕ) → (tag < 3) ⊎ (9 < tag) → (tag ∷ r) ++ x ≡ application c n p m ++ y → ⊥
other tag c n p m x y r (inl h) e = let b = application_head c n p m y in omega (arith, h, b.0, b.1, b.2, ap head e)
other tag c n p m x y r (inr h) e = let b = application_head c n p m y in omega (arith, h, b.0, b.1, b.2, ap head e)

mutual
  split : (t u : Tree) → HasLengths t → HasLengths u → Splits (spelling t) (spelling u)
  split (int n) (int k) h i x y e = tagged 0 (integer n) (integer k) (λ v w d. run_split (integer n) (integer k) v w (integer_run n) (integer_run k) d) x y e
  split (str a) (str b) h i x y e = fielded 1 a b h i x y e
  split (bytes a) (bytes b) h i x y e = fielded 10 a b h i x y e
  split (seq ts) (seq us) h i x y e = fielded 2 (spellings ts) (spellings us) h.0 i.0 x y e
  split (prim a notes args) (prim b marks others) h i x y e =
      application_split (code a) (code b) (count args) (count others) (spellings args) (spellings others) (joined notes) (joined marks) h.0 i.0 h.1 i.1 (λ same. splits args others h.2 i.2 same) x y e
  split (prim a notes args) (int k) h i x y e = absurd (other 0 (code a) (count args) (spellings args) (joined notes) y x (integer k) (inl (omega arith)) (sym e))
  split (prim a notes args) (str b) h i x y e = absurd (other 1 (code a) (count args) (spellings args) (joined notes) y x (field b) (inl (omega arith)) (sym e))
  split (prim a notes args) (bytes b) h i x y e = absurd (other 10 (code a) (count args) (spellings args) (joined notes) y x (field b) (inr (omega arith)) (sym e))
  split (prim a notes args) (seq us) h i x y e = absurd (other 2 (code a) (count args) (spellings args) (joined notes) y x (field (spellings us)) (inl (omega arith)) (sym e))
  split (int n) (prim b marks others) h i x y e = absurd (other 0 (code b) (count others) (spellings others) (joined marks) x y (integer n) (inl (omega arith)) e)
  split (str a) (prim b marks others) h i x y e = absurd (other 1 (code b) (count others) (spellings others) (joined marks) x y (field a) (inl (omega arith)) e)
  split (bytes a) (prim b marks others) h i x y e = absurd (other 10 (code b) (count others) (spellings others) (joined marks) x y (field a) (inr (omega arith)) e)
  split (seq ts) (prim b marks others) h i x y e = absurd (other 2 (code b) (count others) (spellings others) (joined marks) x y (field (spellings ts)) (inl (omega arith)) e)
  split t u h i x y e = absurd (omega (arith, ap head e))

  splits : (ts us : Trees) → HaveLengths ts → HaveLengths us → count ts ≡ count us → Splits (spellings ts) (spellings us)
  splits none none h i c x y e = (refl, e)
  splits none (more u us) h i c x y e = absurd (omega (arith, c))
  splits (more t ts) none h i c x y e = absurd (omega (arith, c))
  splits (more t ts) (more u us) h i c x y e =
      let a = split t u h.0 i.0 (spellings ts ++ x) (spellings us ++ y) (sym (append_assoc (spelling t) (spellings ts) x) ∙ e ∙ append_assoc (spelling u) (spellings us) y) in
      let b = splits ts us h.1 i.1 (omega (arith, c)) x y a.1 in
      (cc (a.0, b.0), b.1)

pub no_prefix : NoPrefix
no_prefix t u m h i e = (split t u (lengths t h) (lengths u i) m [] (e ∙ sym (append-nil (spelling u)))).1
