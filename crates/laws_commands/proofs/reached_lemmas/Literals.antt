-- Lists in the value of a literal have no more items than the literal has nodes.
use Rattle.std.proofs.Common.{◌≡◌, ◌≤◌, ℕ, ◌+◌, arith, length, subst}
use Rattle.rules_text.specs.nodes.Limits.{byte_limit}
use Rattle.rules_text.specs.nodes.Tree.{Tree, int, str, bytes, prim, seq, Trees, none, more, size, sizes}
use Rattle.rules_text.specs.binary.Spelling.{count}
use Rattle.rules_data.specs.types.Kind.{Kind}
use Rattle.rules_data.specs.values.Literals.{read}
use Rattle.rules_files.specs.snapshots.Spelling.{count_vals}
use Rattle.laws_commands.specs.reached.Counted.{ListsWithin, AllListsWithin, EntryListsWithin, LiteralsAreCounted}
use Rattle.laws_commands.proofs.common.Parts.{HasParts}
use Rattle.laws_commands.proofs.common.Readings.{Gives, AreRead, reads}
use Rattle.laws_commands.proofs.common.Numbers.{rises}
use Rattle.laws_commands.proofs.written_lemmas.locations.Below.{size_some}

abbrev mutual
  -- no sequence in it has more elements
  Small : ℕ → Tree → Type 0
  Small n (prim name annots args) = Smalls n args
  Small n (seq ts) = Smalls n ts × (count ts ≤ n) × (size (seq ts) ≤ n)
  Small n t = Unit {0}

  Smalls : ℕ → Trees → Type 0
  Smalls n none = Unit {0}
  Smalls n (more t ts) = Small n t × Smalls n ts

counted : (ts : Trees) → count ts ≤ sizes ts
counted none = omega arith
counted (more t ts) = let one = size_some t in let rest = counted ts in omega (arith, one, rest)

through : (a b c : ℕ) → a ≤ b → b + 1 ≤ c → a ≤ c
through a b c h g = omega (arith, h, g)

first_small : (a b n : ℕ) → a + b ≤ n → a ≤ n
first_small a b n h = omega (arith, h)

rest_small : (a b n : ℕ) → a + b ≤ n → b ≤ n
rest_small a b n h = omega (arith, h)

below_one : (a n : ℕ) → a + 1 ≤ n → a ≤ n
below_one a n h = omega (arith, h)

mutual
  small : (n : ℕ) (t : Tree) → size t ≤ n → Small n t
  small n (int m) h = tt
  small n (str s) h = tt
  small n (bytes b) h = tt
  small n (prim name annots ts) h = smalls n ts (below_one (sizes ts) n h)
  small n (seq ts) h = (smalls n ts (below_one (sizes ts) n h), through (count ts) (sizes ts) n (counted ts) h, h)

  smalls : (n : ℕ) (ts : Trees) → sizes ts ≤ n → Smalls n ts
  smalls n none h = tt
  smalls n (more t ts) h = (small n t (first_small (size t) (sizes ts) n h), smalls n ts (rest_small (size t) (sizes ts) n h))

few : (most a b : ℕ) → a ≡ b → b ≤ most → a ≤ most
few most a b e h = omega (arith, e, h)

pub within_parts : (most : ℕ) → HasParts (ListsWithin most) (AllListsWithin most) (EntryListsWithin most)
within_parts most = record {
  unit = tt;
  truth = λ b. tt;
  number = λ z. tt;
  nothing = tt;
  some = λ x h. h;
  left = λ x h. h;
  right = λ x h. h;
  both = λ x y h g. (h, g);
  set = λ xs h. h;
  table = λ es h. h;
  big_table = λ es h. h;
  no_value = tt;
  value = λ x xs h g. (h, g);
  no_entry = tt;
  entry = λ x y es h g k. (h, g, k);
}

small_read : (most : ℕ) → byte_limit ≤ most → AreRead (ListsWithin most) (AllListsWithin most) (Small most) (Smalls most)
small_read most big = record {
  args = λ name annots ts h. h;
  items = λ ts h. h.0;
  first = λ t ts h. h.0;
  rest = λ t ts h. h.1;
  text = λ b h. tt;
  bytes = λ b h short. rises (length b) byte_limit most short big;
  list = λ ts xs h same each. (few most (count_vals xs) (count ts) same h.1, each);
  lambda = λ ts recursive h. h.2;
}

pub reads_within : (n : ℕ) → byte_limit ≤ n → (a : Kind) (at : ℕ) (t : Tree) → size t ≤ n → Gives (ListsWithin n) (read a at t)
reads_within n big a at t few =
    reads (ListsWithin n) (AllListsWithin n) (EntryListsWithin n) (Small n) (Smalls n) (within_parts n) (small_read n big) a at t
    (small n t few)

pub literals_are_counted : LiteralsAreCounted
literals_are_counted n a at t x ps few big e = subst (Gives (ListsWithin n)) e (reads_within n big a at t few)
