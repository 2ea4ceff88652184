-- Reading nodes one behind the other, as a loop does.
use Rattle.std.proofs.Common.{◌≡◌, ℕ, zero, suc, ◌-◌, ◌+◌, ◌≤◌, ◌<◌, List, [], ◌∷◌, ◌++◌, length, Result, Ok, Err, refl, sym, ap, ◌∙◌, arith, ◌⊎◌, inl, inr, nat_eq, Bool, true, false}
use Rattle.std.proofs.lemmas.Bool.{eqb-true}
use Rattle.std.proofs.lemmas.Bool.Decides.{nat_tests}
use Rattle.rules_text.specs.nodes.Tree.{Tree, Trees, none, more, trees_of}
use Rattle.rules_text.specs.binary.Reading.{Spot, Fault, ◌>>=◌, arguments_at, nodes_within}
use Rattle.mich_binary.specs.declared.errors.DecodeError.{DecodeError}
use Rattle.mich_binary.specs.declared.errors.DecodeError.TheVariants as errors
use Rattle.mich_binary.specs.Results.{Fails}

pub none_left : (n : ℕ) (b : Bool) → b ≡ nat_eq n 0 → b ≡ true → n ≡ 0
none_left n b is e = eqb-true n 0 (sym is ∙ e)

pub some_left : (n : ℕ) (b : Bool) → b ≡ nat_eq n 0 → b ≡ false → 0 < n
some_left zero b is e = absurd (cc)
some_left (suc n) b is e = omega arith

abbrev pub Reader : Type 0
Reader = Spot → Result (Tree × Spot) Fault

abbrev pub ahead : List Tree → Trees → Trees
ahead [] ts = ts
ahead (u ∷ us) ts = more u (ahead us ts)

-- what was read before, and what is still read
abbrev pub with_front : List Tree → Result (Trees × Spot) Fault → Result (Trees × Spot) Fault
with_front front read = read >>= λ x. Ok (ahead front x.0, x.1)

ahead_more : (front : List Tree) (t : Tree) (ts : Trees) → ahead front (more t ts) ≡ ahead (front ++ t ∷ []) ts
ahead_more [] t ts = refl
ahead_more (u ∷ us) t ts = ap (more u) (ahead_more us t ts)

ahead_none : (front : List Tree) → ahead front none ≡ trees_of front
ahead_none [] = refl
ahead_none (u ∷ us) = ap (more u) (ahead_none us)

regroup : (front : List Tree) (t : Tree) (read : Result (Trees × Spot) Fault) → with_front front (read >>= λ x. Ok (more t x.0, x.1)) ≡ with_front (front ++ t ∷ []) read
regroup front t (Ok x) = ap (λ (ts : Trees). Ok (ts, x.1)) (ahead_more front t x.0)
regroup front t (Err f) = refl

pub goes_on : (node : Reader) (front : List Tree) (count i : ℕ) (here after : Spot) (t : Tree) (total : Result (Trees × Spot) Fault) → i < count → node here ≡ Ok (t, after)
    → with_front front (arguments_at node (count - i) here) ≡ total → with_front (front ++ t ∷ []) (arguments_at node (count - (i + 1)) after) ≡ total
goes_on node front count i here after t total lt h so_far =
    let k : count - i ≡ suc (count - (i + 1)) = omega arith in
    let one : with_front front (arguments_at node (count - i) here) ≡ with_front (front ++ t ∷ []) (arguments_at node (count - (i + 1)) after) = rw (k, h) (regroup front t (arguments_at node (count - (i + 1)) after)) in
    sym one ∙ so_far

pub ends : (e : DecodeError) (node : Reader) (front : List Tree) (count i : ℕ) (here : Spot) (total : Result (Trees × Spot) Fault) → i < count → Fails e (node here)
    → with_front front (arguments_at node (count - i) here) ≡ total → Fails e total
ends errors.Memory node front count i here total lt h so_far = tt
ends (errors.Fault kind place) node front count i here total lt h so_far =
    let k : count - i ≡ suc (count - (i + 1)) = omega arith in
    let one : with_front front (arguments_at node (count - i) here) ≡ Err (record { kind = kind; place = place }) = rw (k, h) refl in
    sym so_far ∙ one

pub is_done : (node : Reader) (front : List Tree) (count i : ℕ) (here : Spot) (total : Result (Trees × Spot) Fault) → count ≤ i → with_front front (arguments_at node (count - i) here) ≡ total → total ≡ Ok (trees_of front, here)
is_done node front count i here total le so_far =
    let k : count - i ≡ 0 = omega arith in
    let one : with_front front (arguments_at node (count - i) here) ≡ Ok (trees_of front, here) = rw k (ap (λ (ts : Trees). Ok (ts, here)) (ahead_none front)) in
    sym so_far ∙ one

one_within : (node : Reader) (n : ℕ) (s : Spot) → 0 < n → 0 < length s.left → nodes_within node n s ≡ (node s >>= λ first. nodes_within node (n - 1) first.1 >>= λ others. Ok (more first.0 others.0, others.1))
one_within node n s h some =
    let k : n ≡ suc (n - 1) = omega arith in
    let no : nat_eq (length s.left) 0 ≡ false = grind (arith, nat_tests) in
    ap (λ m. nodes_within node m s) k ∙ rw no refl

pub goes_on_within : (node : Reader) (front : List Tree) (count i : ℕ) (here after : Spot) (t : Tree) (total : Result (Trees × Spot) Fault) → i < count → 0 < length here.left → node here ≡ Ok (t, after)
    → with_front front (nodes_within node (count - i) here) ≡ total → with_front (front ++ t ∷ []) (nodes_within node (count - (i + 1)) after) ≡ total
goes_on_within node front count i here after t total lt some h so_far =
    let k : count - i - 1 ≡ count - (i + 1) = omega arith in
    let one : with_front front (nodes_within node (count - i) here) ≡ with_front (front ++ t ∷ []) (nodes_within node (count - (i + 1)) after) = rw (one_within node (count - i) here (omega arith) some, h, k) (regroup front t (nodes_within node (count - (i + 1)) after)) in
    sym one ∙ so_far

pub ends_within : (e : DecodeError) (node : Reader) (front : List Tree) (count i : ℕ) (here : Spot) (total : Result (Trees × Spot) Fault) → i < count → 0 < length here.left → Fails e (node here)
    → with_front front (nodes_within node (count - i) here) ≡ total → Fails e total
ends_within errors.Memory node front count i here total lt some h so_far = tt
ends_within (errors.Fault kind place) node front count i here total lt some h so_far =
    let one : with_front front (nodes_within node (count - i) here) ≡ Err (record { kind = kind; place = place }) = rw (one_within node (count - i) here (omega arith) some, h) refl in
    sym so_far ∙ one

none_within : (node : Reader) (n : ℕ) (s : Spot) → length s.left ≡ 0 → nodes_within node n s ≡ Ok (none, s)
none_within node zero s e = refl
none_within node (suc n) s e = let yes : nat_eq (length s.left) 0 ≡ true = grind (arith, nat_tests) in rw yes refl

pub is_done_within : (node : Reader) (front : List Tree) (n : ℕ) (here : Spot) (total : Result (Trees × Spot) Fault) → (n ≡ 0) ⊎ (length here.left ≡ 0) → with_front front (nodes_within node n here) ≡ total → total ≡ Ok (trees_of front, here)
is_done_within node front n here total (inl z) so_far =
    let one : with_front front (nodes_within node n here) ≡ Ok (trees_of front, here) = rw z (ap (λ (ts : Trees). Ok (ts, here)) (ahead_none front)) in
    sym so_far ∙ one
is_done_within node front n here total (inr e) so_far =
    let one : with_front front (nodes_within node n here) ≡ Ok (trees_of front, here) = rw (none_within node n here e) (ap (λ (ts : Trees). Ok (ts, here)) (ahead_none front)) in
    sym so_far ∙ one
