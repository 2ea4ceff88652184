-- A node that is decoded has no more nodes than there were bytes.
use Rattle.std.proofs.Common.{◌≡◌, ℕ, zero, suc, ◌+◌, ◌≤◌, nat_lt, Bool, true, false, List, [], ◌∷◌, length, take, drop, Option, Some, None, refl, subst, arith}
use Rattle.std.specs.Prelude.{ℤ, ◌==◌, Result, Ok, Err, slice_get, if◌then◌else◌}
use Rattle.std.specs.Int.{w32, from_be_bytes}
use Rattle.std.specs.List.{prefix_len}
use Rattle.std.proofs.lemmas.Bool.Decides.{nat_tests}
use Rattle.rules_text.specs.nodes.Limits.{depth_limit, byte_limit}
use Rattle.rules_text.specs.nodes.Tree.{Tree, prim, Trees, none, more, size, sizes}
use Rattle.rules_text.specs.nodes.Primitives.{name_of_code}
use Rattle.rules_text.specs.binary.Spelling.{count}
use Rattle.rules_text.specs.declared.binary.DecodeKind.TheVariants.{BadTag, BadLength, BadString, Trailing, TooWide}
use Rattle.rules_text.specs.declared.binary.Tag.{Tag}
use Rattle.rules_text.specs.declared.binary.Tag.TheVariants as tags
use Rattle.rules_text.specs.binary.Reading.{Fault, Spot, ◌>>=◌, fault, past, byte_of, byte_at, field_of, field_at, narrow_field_at, goes_on, integer_of, integer_by, integer_at, is_text, string_at, bytes_at, annotations_of, any_annotations, annotations_at, any_annotations_at, short_annotations_at, name_by, name_at, arguments_at, nodes_within, nodes_at, application_at, many_at, node_by, tags_in_order, tag_by, tag_at, node_at, decoded}
use Rattle.laws_code.proofs.steps.ForCallers.{DecodedAreSmall}

-- what was read and the bytes that are left are together no more than this
abbrev Took : {A : Type 0} → (A → ℕ) → ℕ → Result (A × Spot) Fault → Type 0
Took f n (Ok x) = f x.0 + length x.1.left ≤ n
Took f n (Err e) = Unit {0}

took_then : {A B : Type 0} (f : A → ℕ) (g : B → ℕ) (n : ℕ) (r : Result (A × Spot) Fault)
    (next : A × Spot → Result (B × Spot) Fault) → Took f n r →
    ((x : A × Spot) → f x.0 + length x.1.left ≤ n → Took g n (next x)) → Took g n (r >>= next)
took_then f g n (Ok x) next h k = k x h
took_then f g n (Err e) next h k = tt

drop_less : (n : ℕ) (xs : List ℕ) → n ≤ length xs → n + length (drop n xs) ≡ length xs
drop_less zero xs h = omega arith
drop_less (suc n) [] h = absurd (omega arith)
drop_less (suc n) (x ∷ xs) h = let i : n + length (drop n xs) ≡ length xs = drop_less n xs (omega arith) in omega arith

take_less : (n : ℕ) (xs : List ℕ) → length (take n xs) ≤ n
take_less zero xs = omega arith
take_less (suc n) [] = omega arith
take_less (suc n) (x ∷ xs) = let i : length (take n xs) ≤ n = take_less n xs in omega arith

not_less : (m n : ℕ) → nat_lt m n ≡ false → n ≤ m
not_less m n h = grind (arith, nat_tests)

byte_took : (s : Spot) → Took (λ b. 1) (length s.left) (byte_at s)
unfolding byte_at
byte_took s = by s.left
  where
    by : (xs : List ℕ) → Took (λ b. 1) (length xs) (byte_of s.place xs)
    by [] = tt
    by (b ∷ bs) = omega arith

-- a field: its bytes and four more
abbrev field_size : Spot → ℕ
field_size f = length f.left + 4

field_of_took : (n : ℕ) (s : Spot) → Took field_size (length s.left) (field_of n s)
field_of_took n s = by_test (nat_lt (length s.left) (4 + n)) refl
  where
    by_test : (b : Bool) → nat_lt (length s.left) (4 + n) ≡ b →
        Took field_size (length s.left) (if b then fault BadLength s.place else Ok
        (record { place = s.place + 4; left = take n (drop 4 s.left) }, past (4 + n) s))
    by_test true e = tt
    by_test false e =
        let l : 4 + n ≤ length s.left = not_less (length s.left) (4 + n) e in
        let d : (4 + n) + length (drop (4 + n) s.left) ≡ length s.left = drop_less (4 + n) s.left l in
        let t : length (take n (drop 4 s.left)) ≤ n = take_less n (drop 4 s.left) in
        omega arith

field_took : (s : Spot) → Took field_size (length s.left) (field_at s)
unfolding field_at
field_took s = by_test (nat_lt (length s.left) 4)
  where
    by_test : (b : Bool) → Took field_size (length s.left) (if b then fault BadLength s.place else field_of
        (from_be_bytes w32 (take 4 s.left)) s)
    by_test true = tt
    by_test false = field_of_took (from_be_bytes w32 (take 4 s.left)) s

narrow_took : (s : Spot) → Took field_size (length s.left) (narrow_field_at s)
unfolding narrow_field_at
narrow_took s = took_then field_size field_size (length s.left) (field_at s) _ (field_took s)
    (λ f h. by_test f h (nat_lt byte_limit (length f.0.left)))
  where
    by_test : (f : Spot × Spot) → field_size f.0 + length f.1.left ≤ length s.left → (b : Bool) →
        Took field_size (length s.left) (if b then fault TooWide s.place else Ok f)
    by_test f h true = tt
    by_test f h false = h

integer_by_took : (o : Option ℤ) (n : ℕ) (s : Spot) → n ≤ length s.left → 1 ≤ n → Took (λ z. 1) (length s.left) (integer_by o n s)
integer_by_took None n s h g = tt
integer_by_took (Some z) n s h g = let d : n + length (drop n s.left) ≡ length s.left = drop_less n s.left h in omega arith

integer_took : (s : Spot) → Took (λ z. 1) (length s.left) (integer_at s)
unfolding integer_at
integer_took s = by_test (nat_lt (length s.left) (prefix_len goes_on s.left + 1)) refl
  where
    by_test : (b : Bool) → nat_lt (length s.left) (prefix_len goes_on s.left + 1) ≡ b →
        Took (λ z. 1) (length s.left) (if b then fault BadLength s.place else integer_by
        (integer_of (take (prefix_len goes_on s.left + 1) s.left)) (prefix_len goes_on s.left + 1) s)
    by_test true e = tt
    by_test false e = integer_by_took (integer_of (take (prefix_len goes_on s.left + 1) s.left))
        (prefix_len goes_on s.left + 1) s (not_less (length s.left) (prefix_len goes_on s.left + 1) e) (omega arith)

string_took : (s : Spot) → Took (λ z. 1) (length s.left) (string_at s)
unfolding string_at
string_took s = took_then field_size (λ z. 1) (length s.left) (narrow_field_at s) _ (narrow_took s)
    (λ f h. by_test f h (nat_lt (prefix_len is_text f.0.left) (length f.0.left)))
  where
    by_test : (f : Spot × Spot) → field_size f.0 + length f.1.left ≤ length s.left → (b : Bool) →
        Took (λ z. 1) (length s.left) (if b then fault BadString (f.0.place + prefix_len is_text f.0.left) else Ok
        (f.0.left, f.1))
    by_test f h true = tt
    by_test f h false = omega arith

bytes_took : (s : Spot) → Took (λ z. 1) (length s.left) (bytes_at s)
unfolding bytes_at
bytes_took s = took_then field_size (λ z. 1) (length s.left) (narrow_field_at s) _ (narrow_took s) (λ f h. omega arith)

-- annotations
kept_took : {A : Type 0} (n : ℕ) (s : Spot) (r : Result A Fault) → length s.left ≤ n →
    Took {A = A} (λ z. 0) n (r >>= (λ x. Ok (x, s)))
kept_took n s (Ok x) h = omega arith
kept_took n s (Err e) h = tt

annotations_took : (s : Spot) → Took (λ z. 0) (length s.left) (annotations_at s)
unfolding annotations_at
annotations_took s = took_then field_size (λ z. 0) (length s.left) (field_at s) _ (field_took s)
    (λ f h. kept_took (length s.left) f.1 (annotations_of f.0) (omega arith))

any_annotations_took : (s : Spot) → Took (λ z. 0) (length s.left) (any_annotations_at s)
unfolding any_annotations_at
any_annotations_took s = took_then field_size (λ z. 0) (length s.left) (field_at s) _ (field_took s)
    (λ f h. kept_took (length s.left) f.1 (any_annotations f.0 f.0.left) (omega arith))

short_took : (b : Bool) (s : Spot) → Took (λ z. 0) (length s.left) (short_annotations_at b s)
short_took true s = annotations_took s
short_took false s = omega arith

-- names
named_took : (o : Option (List ℕ)) (n p : ℕ) (s : Spot) → 1 + length s.left ≤ n → Took (λ z. 1) n (name_by o p s)
named_took None n p s h = tt
named_took (Some name) n p s h = h

name_took : (s : Spot) → Took (λ z. 1) (length s.left) (name_at s)
unfolding name_at
name_took s = took_then (λ b. 1) (λ z. 1) (length s.left) (byte_at s) _ (byte_took s)
    (λ c h. named_took (name_of_code c.0) (length s.left) s.place c.1 h)

tagged_took : (o : Option Tag) (n p : ℕ) (s : Spot) → 1 + length s.left ≤ n → Took (λ z. 1) n (tag_by o p s)
tagged_took None n p s h = tt
tagged_took (Some tag) n p s h = h

tag_took : (s : Spot) → Took (λ z. 1) (length s.left) (tag_at s)
unfolding tag_at
tag_took s = took_then (λ b. 1) (λ z. 1) (length s.left) (byte_at s) _ (byte_took s)
    (λ b h. tagged_took (slice_get tags_in_order b.0) (length s.left) s.place b.1 h)

-- less is left of more
took_more : {A : Type 0} (f g : A → ℕ) (m n : ℕ) (r : Result (A × Spot) Fault) → Took f m r →
    ((x : A × Spot) → f x.0 + length x.1.left ≤ m → g x.0 + length x.1.left ≤ n) → Took g n r
took_more f g m n (Ok x) h k = k x h
took_more f g m n (Err e) h k = tt

-- nodes one behind the other
more_took : (first : Tree × Spot) (n : ℕ) (r : Result (Trees × Spot) Fault) → size first.0 + length first.1.left ≤ n →
    Took sizes (length first.1.left) r →
    Took sizes n (r >>= (λ others. Ok (more first.0 others.0, others.1)))
more_took first n (Ok x) h k = omega arith
more_took first n (Err e) h k = tt

module _ (node : Spot → Result (Tree × Spot) Fault) (takes : (s : Spot) → Took size (length s.left) (node s)) where
  arguments_took : (n : ℕ) (s : Spot) → Took sizes (length s.left) (arguments_at node n s)
  arguments_took zero s = omega arith
  arguments_took (suc n) s = took_then size sizes (length s.left) (node s) _ (takes s)
      (λ first h. more_took first (length s.left) (arguments_at node n first.1) h (arguments_took n first.1))

  within_took : (n : ℕ) (s : Spot) → Took sizes (length s.left) (nodes_within node n s)
  within_took zero s = omega arith
  within_took (suc n) s = by_test (length s.left == 0) (λ first h. more_took first (length s.left)
      (nodes_within node n first.1) h (within_took n first.1))
    where
      by_test : (b : Bool) → ((first : Tree × Spot) → size first.0 + length first.1.left ≤ length s.left →
          Took sizes (length s.left) (nodes_within node n first.1 >>= (λ others. Ok (more first.0 others.0, others.1)))) →
          Took sizes (length s.left) (if b then Ok (none, s) else
          (node s >>= (λ first. nodes_within node n first.1 >>= (λ others. Ok (more first.0 others.0, others.1)))))
      by_test true k = omega arith
      by_test false k = took_then size sizes (length s.left) (node s) _ (takes s) k

  ended_took : (f : Spot × Spot) (n : ℕ) (r : Result (Trees × Spot) Fault) → field_size f.0 + length f.1.left ≤ n →
      Took sizes (length f.0.left) r → Took (λ ts. sizes ts + 1) n (r >>= (λ nodes. Ok (nodes.0, f.1)))
  ended_took f n (Ok x) h k = omega arith
  ended_took f n (Err e) h k = tt

  nodes_took : (s : Spot) → Took (λ ts. sizes ts + 1) (length s.left) (nodes_at node s)
  unfolding nodes_at
  nodes_took s = took_then field_size (λ ts. sizes ts + 1) (length s.left) (field_at s) _ (field_took s)
      (λ f h. ended_took f (length s.left) (nodes_within node (length f.0.left) f.0) h (within_took (length f.0.left) f.0))

  -- an application from its arguments and annotations
  applied_took : (name : List ℕ) (args : Trees × Spot) (n m : ℕ) (r : Result (List (List ℕ) × Spot) Fault) →
      Took (λ z. 0) m r → sizes args.0 + 1 + m ≤ n →
      Took size n (r >>= (λ annotations. Ok (prim name annotations.0 args.0, annotations.1)))
  applied_took name args n m (Ok x) h k = omega arith
  applied_took name args n m (Err e) h k = tt

  named_args : (name : List ℕ × Spot) (n : ℕ) (b : Bool) (r : Result (Trees × Spot) Fault) → 1 + length name.1.left ≤ n →
      Took sizes (length name.1.left) r →
      Took size n
      (r >>= (λ args. short_annotations_at b args.1 >>= (λ annotations. Ok
      (prim name.0 annotations.0 args.0, annotations.1))))
  named_args name n b (Ok args) h k = applied_took name.0 args n (length args.1.left) (short_annotations_at b args.1)
      (short_took b args.1) (omega arith)
  named_args name n b (Err e) h k = tt

  application_took : (n : ℕ) (b : Bool) (s : Spot) → Took size (length s.left) (application_at node n b s)
  unfolding application_at
  application_took n b s = took_then (λ z. 1) size (length s.left) (name_at s) _ (name_took s)
      (λ name h. named_args name (length s.left) b (arguments_at node n name.1) h (arguments_took n name.1))

  many_args : (name : List ℕ × Spot) (n place : ℕ) (r : Result (Trees × Spot) Fault) → 1 + length name.1.left ≤ n →
      Took (λ ts. sizes ts + 1) (length name.1.left) r →
      Took size n
      (r >>= (λ args. if nat_lt (count args.0) 3 then fault BadTag place else
      (any_annotations_at args.1 >>= (λ annotations. Ok (prim name.0 annotations.0 args.0, annotations.1)))))
  many_args name n place (Ok args) h k = by_test (nat_lt (count args.0) 3)
    where
      by_test : (b : Bool) → Took size n (if b then fault BadTag place else
          (any_annotations_at args.1 >>= (λ annotations. Ok (prim name.0 annotations.0 args.0, annotations.1))))
      by_test true = tt
      by_test false = applied_took name.0 args n (length args.1.left) (any_annotations_at args.1) (any_annotations_took args.1)
          (omega arith)
  many_args name n place (Err e) h k = tt

  many_took : (place : ℕ) (s : Spot) → Took size (length s.left) (many_at node place s)
  unfolding many_at
  many_took place s = took_then (λ z. 1) size (length s.left) (name_at s) _ (name_took s)
      (λ name h. many_args name (length s.left) place (nodes_at node name.1) h (nodes_took name.1))

  -- behind the tag, which is one more byte
  by_took : (tag : Tag) (place : ℕ) (s : Spot) → Took size (1 + length s.left) (node_by node tag place s)
  unfolding node_by
  by_took tags.Integer place s = took_then (λ z. 1) size (1 + length s.left) (integer_at s) _
      (took_more (λ z. 1) (λ z. 1) (length s.left) (1 + length s.left) (integer_at s) (integer_took s) (λ x k. omega arith))
      (λ z h. omega arith)
  by_took tags.Text place s = took_then (λ z. 1) size (1 + length s.left) (string_at s) _
      (took_more (λ z. 1) (λ z. 1) (length s.left) (1 + length s.left) (string_at s) (string_took s) (λ x k. omega arith))
      (λ z h. omega arith)
  by_took tags.Sequence place s = took_then (λ ts. sizes ts + 1) size (1 + length s.left) (nodes_at node s) _
      (took_more (λ ts. sizes ts + 1) (λ ts. sizes ts + 1) (length s.left) (1 + length s.left) (nodes_at node s) (nodes_took s)
      (λ x k. omega arith)) (λ z h. omega arith)
  by_took tags.Alone place s = took_more size size (length s.left) (1 + length s.left) (application_at node 0 false s)
      (application_took 0 false s) (λ x k. omega arith)
  by_took tags.AloneAnnotated place s = took_more size size (length s.left) (1 + length s.left) (application_at node 0 true s)
      (application_took 0 true s) (λ x k. omega arith)
  by_took tags.One place s = took_more size size (length s.left) (1 + length s.left) (application_at node 1 false s)
      (application_took 1 false s) (λ x k. omega arith)
  by_took tags.OneAnnotated place s = took_more size size (length s.left) (1 + length s.left) (application_at node 1 true s)
      (application_took 1 true s) (λ x k. omega arith)
  by_took tags.Two place s = took_more size size (length s.left) (1 + length s.left) (application_at node 2 false s)
      (application_took 2 false s) (λ x k. omega arith)
  by_took tags.TwoAnnotated place s = took_more size size (length s.left) (1 + length s.left) (application_at node 2 true s)
      (application_took 2 true s) (λ x k. omega arith)
  by_took tags.Many place s = took_more size size (length s.left) (1 + length s.left) (many_at node place s)
      (many_took place s) (λ x k. omega arith)
  by_took tags.Bytes place s = took_then (λ z. 1) size (1 + length s.left) (bytes_at s) _
      (took_more (λ z. 1) (λ z. 1) (length s.left) (1 + length s.left) (bytes_at s) (bytes_took s) (λ x k. omega arith))
      (λ z h. omega arith)

node_took : (n : ℕ) (s : Spot) → Took size (length s.left) (node_at n s)
unfolding node_at
node_took zero s = took_then (λ z. 1) size (length s.left) (tag_at s) _ (tag_took s) (λ tag h. tt)
node_took (suc n) s =
    took_then (λ z. 1) size (length s.left) (tag_at s) _ (tag_took s)
    (λ tag h. took_more size size (1 + length tag.1.left) (length s.left) (node_by (node_at n) tag.0 s.place tag.1)
    (by_took (node_at n) (node_took n) tag.0 s.place tag.1) (λ x k. omega arith))

root_small : (b : List ℕ) (t : Tree) (r : Result (Tree × Spot) Fault) → Took size (length b) r →
    (r >>= (λ root. if length root.1.left == 0 then Ok root.0 else fault Trailing root.1.place)) ≡ Ok t → size t ≤ length b
root_small b t (Err e) h q = absurd cc
root_small b t (Ok x) h q = by_test (length x.1.left == 0) q
  where
    by_test : (c : Bool) → (if c then Ok x.0 else fault Trailing x.1.place) ≡ Ok t → size t ≤ length b
    by_test true q = let same : x.0 ≡ t = cc in subst (λ y. size y ≤ length b) same (omega arith)
    by_test false q = absurd cc

pub decoded_are_small : DecodedAreSmall
unfolding decoded
decoded_are_small b t h = root_small b t (node_at depth_limit (record { place = 0; left = b }))
    (node_took depth_limit (record { place = 0; left = b })) h
