-- An instruction without bodies makes lists longer by one item at most.
use Rattle.std.proofs.Common.{subst, arith, ◌≡◌, ℕ, zero, suc, List, [], ◌∷◌, ◌++◌, length, ◌≤◌, ◌+◌}
use Rattle.std.proofs.lemmas.Bool.{leb-true}
use Rattle.std.proofs.lemmas.List.{length-append}
use Rattle.sha2.specs.Sha256.{sha256}
use Rattle.sha2.specs.Sha512.{sha512}
use Rattle.sha2.proofs.Facts256.{length-sha256}
use Rattle.sha2.proofs.Facts512.{length-sha512}
use Rattle.rules_text.specs.hash.Blake2b.{blake}
use Rattle.laws_code.proofs.steps.Lengths.{blake_32, blake_20}
use Rattle.laws_code.proofs.steps.NumberBytes.{natural_short, integer_short}
use Rattle.laws_code.proofs.safety_lemmas.ForCallers.{decoded_are_small}
use Rattle.std.specs.Prelude.{ℤ, take, drop, ◌+◌}
use Rattle.std.specs.List.{flat_map}
use Rattle.rules_text.specs.nodes.Limits.{byte_limit}
use Rattle.rules_data.specs.forms.Spelling.{contract_place}
use Rattle.rules_data.specs.values.Val.{Val, Vals, no_val, more_vals, Pairs, no_pair, more_pairs}
use Rattle.rules_data.specs.values.Tickets.{Identity, tickets}
use Rattle.rules_code.specs.instructions.Straight.{Straight}
use Rattle.rules_code.specs.steps.Changes.{burns}
use Rattle.rules_code.specs.steps.Environment.{Environment}
use Rattle.rules_code.specs.steps.Step.{Step, done, fails, wrong}
use Rattle.rules_code.specs.steps.Texts.{joined}
use Rattle.rules_code.specs.steps.Packing.{Trial, packed, key_hash}
use Rattle.rules_code.specs.steps.Steps.{step}
use Rattle.rules_data.specs.numbers.Bytes.{natural_bytes, integer_bytes}
use Rattle.rules_files.specs.snapshots.Spelling.{count_vals}
use Rattle.laws_commands.specs.reached.Counted.{ListsWithin, AllListsWithin, EntryListsWithin, StackWithin, EnvironmentWithin, StepsAreCounted}
use Rattle.rules_text.specs.nodes.Tree.{size}
use Rattle.rules_data.specs.values.Val as v
use Rattle.laws_commands.proofs.common.Parts.{IsOfParts}
use Rattle.laws_commands.proofs.common.Steps.{StepHas, AreMade, AreAround, optional_has, any_all, may_any}
use Rattle.laws_commands.proofs.common.Steps as steps
use Rattle.laws_commands.proofs.reached_lemmas.Literals.{within_parts, reads_within}

-- ---- with more room

rising : (a n m : ℕ) → a ≤ n → n ≤ m → a ≤ m
rising a n m h g = omega (arith, h, g)

mutual
  pub more_lists : (n m : ℕ) (x : Val) → n ≤ m → ListsWithin n x → ListsWithin m x
  more_lists n m (v.some x) le h = more_lists n m x le h
  more_lists n m (v.left x) le h = more_lists n m x le h
  more_lists n m (v.right x) le h = more_lists n m x le h
  more_lists n m (v.both x y) le h = (more_lists n m x le h.0, more_lists n m y le h.1)
  more_lists n m (v.list xs) le h = (rising (count_vals xs) n m h.0 le, more_all n m xs le h.1)
  more_lists n m (v.table es) le h = more_entries n m es le h
  more_lists n m (v.big_table es) le h = more_entries n m es le h
  more_lists n m (v.ticket issuer kind content amount) le h = (rising (length issuer) n m h.0 le, more_lists n m content le h.1)
  more_lists n m v.unit le h = tt
  more_lists n m (v.truth b) le h = tt
  more_lists n m (v.number z) le h = tt
  more_lists n m (v.text b) le h = tt
  more_lists n m (v.bytes b) le h = rising (length b) n m h le
  more_lists n m v.nothing le h = tt
  more_lists n m (v.set xs) le h = more_all n m xs le h
  more_lists n m (v.lambda t recursive) le h = rising (size t) n m h le
  more_lists n m (v.operation k) le h = tt

  more_all : (n m : ℕ) (xs : Vals) → n ≤ m → AllListsWithin n xs → AllListsWithin m xs
  more_all n m no_val le h = tt
  more_all n m (more_vals x xs) le h = (more_lists n m x le h.0, more_all n m xs le h.1)

  more_entries : (n m : ℕ) (es : Pairs) → n ≤ m → EntryListsWithin n es → EntryListsWithin m es
  more_entries n m no_pair le h = tt
  more_entries n m (more_pairs x y es) le h = (more_lists n m x le h.0, more_lists n m y le h.1, more_entries n m es le h.2)

pub more_stack : (n m : ℕ) (V : List Val) → n ≤ m → StackWithin n V → StackWithin m V
more_stack n m [] le h = tt
more_stack n m (x ∷ V) le h = (more_lists n m x le h.0, more_stack n m V le h.1)

behind_one : (a b n : ℕ) → a ≤ b → suc b ≤ n → a ≤ n
behind_one a b n h g = omega (arith, h, g)

small_enough : (a n : ℕ) → a ≤ byte_limit → byte_limit ≤ n → a ≤ n
small_enough a n h g = omega (arith, h, g)

taken_short : (m : ℕ) (b : List ℕ) → length (take m b) ≤ length b
taken_short zero b = omega arith
taken_short (suc m) [] = omega arith
taken_short (suc m) (x ∷ b) = let h : length (take m b) ≤ length b = taken_short m b in omega arith

dropped_short : (m : ℕ) (b : List ℕ) → length (drop m b) ≤ length b
dropped_short zero b = omega arith
dropped_short (suc m) [] = omega arith
dropped_short (suc m) (x ∷ b) = let h : length (drop m b) ≤ length b = dropped_short m b in omega arith

through : (a b c d : ℕ) → a ≤ b → b ≤ c → c ≤ d → a ≤ d
through a b c d h g f = omega (arith, h, g, f)

one_of : (a b : ℕ) → a ≡ b → b ≤ byte_limit → a ≤ byte_limit
one_of a b e h = omega (arith, e, h)

hashed : (b : List ℕ) → length (key_hash b) ≤ byte_limit
hashed [] = omega arith
hashed (tag ∷ key) = let e = blake_20 key in omega (arith, e)

pub place_length : (own : List ℕ) → length own ≤ 20 → length (contract_place own) ≤ byte_limit
place_length own h = let e = length-append own (0 ∷ []) in omega (arith, e, h)

abbrev pub Keeps : ℕ → Step → Type 0
Keeps n s = StepHas (ListsWithin n) (λ c. Unit {0}) (λ f. Unit {0}) s

pub more_step : (n m : ℕ) (s : Step) → n ≤ m → Keeps n s → Keeps m s
more_step n m (done V cs) le h = (more_stack n m V le h.0, h.1)
more_step n m (fails f) le h = tt
more_step n m wrong le h = tt

-- ---- what steps make

parts_within : (n : ℕ) → IsOfParts (ListsWithin n) (AllListsWithin n) (EntryListsWithin n)
parts_within n = record {
  some = λ x h. h;
  both = λ x y h. h;
  set = λ xs h. h;
  table = λ es h. h;
  big_table = λ es h. h;
  value = λ x xs h. h;
  entry = λ x y es h. h;
}

module _ (n : ℕ) (big : byte_limit ≤ n) where
  made_within : AreMade (ListsWithin n) (λ c. Unit {0}) (λ f. Unit {0})
  made_within = record {
    burnt = λ V h. any_all (burns (flat_map tickets V));
    limits = λ l. tt;
    too_long = tt;
    nat_to_bytes = λ m. small_enough (length (natural_bytes m)) n (leb-true (length (natural_bytes m)) byte_limit (natural_short m)) big;
    int_to_bytes = λ z. small_enough (length (integer_bytes z)) n (leb-true (length (integer_bytes z)) byte_limit (integer_short z)) big;
    concat_strings = λ a b h g. tt;
    concat_bytes = λ a b short h g. small_enough (length (a ++ b)) n short big;
    concat_string_list = λ xs h. tt;
    concat_bytes_list = λ xs short h. small_enough (length (joined xs)) n short big;
    slice_string = λ offset count b h. tt;
    slice_bytes = λ offset count b h. through (length (take count (drop offset b))) (length (drop offset b)) (length b) n
        (taken_short count (drop offset b)) (dropped_short offset b) h;
    pack = λ x short h. small_enough (length (packed x)) n short big;
    unpack = λ a c b t h e. reads_within n big a 0 t (behind_one (size t) (length b) n (decoded_are_small b t e) h);
    blake2b = λ b. small_enough (length (blake 32 b)) n (one_of (length (blake 32 b)) 32 (blake_32 b) (omega arith)) big;
    hash_256 = λ b. small_enough (length (sha256 b)) n (one_of (length (sha256 b)) 32 (length-sha256 b) (omega arith)) big;
    hash_512 = λ b. small_enough (length (sha512 b)) n (one_of (length (sha512 b)) 64 (length-sha512 b) (omega arith)) big;
    hash_key = λ b h. small_enough (length (key_hash b)) n (hashed b) big;
    issuer = λ place a x m h. h.0;
    content = λ place a x m h. h.1;
    amount = λ place a x m k h. h;
  }

  around_within : (e : Environment) → EnvironmentWithin n e → AreAround (ListsWithin n) (λ c. Unit {0}) (λ a x. Unit {0}) e
  around_within e w =
      let own : length (contract_place e.own) ≤ n = small_enough (length (contract_place e.own)) n (place_length e.own w.own) big in
      record {
        sender = w.sender;
        source = w.source;
        own = own;
        chain = w.chain;
        mint = λ a x m k h. ((own, h), tt);
      }

one_up : (n : ℕ) → n ≤ n + 1
one_up n = omega arith

longer : (n c : ℕ) → c ≤ n → suc c ≤ n + 1
longer n c h = omega (arith, h)

nothing_less : (n : ℕ) → 0 ≤ n + 1
nothing_less n = omega arith

-- CONS alone makes a longer list
pub step_keeps : (e : Environment) (total : Identity → ℤ) (passes : Trial) (r : Straight) (n : ℕ) (V : List Val) → byte_limit ≤ n →
    EnvironmentWithin n e → StackWithin n V → Keeps (n + 1) (step e total passes r V)
step_keeps e total passes r n V b w h =
    steps.step_keeps (ListsWithin n) (AllListsWithin n) (EntryListsWithin n) (λ c. Unit {0}) (λ f. Unit {0}) (within_parts n)
    (parts_within n) (made_within n b) (λ a x. Unit {0}) e (around_within n b e w) (ListsWithin (n + 1))
    (λ x h. more_lists n (n + 1) x (one_up n) h) (nothing_less n, tt)
    (λ x xs h g. (longer n (count_vals xs) g.0, (more_lists n (n + 1) x (one_up n) h, more_all n (n + 1) xs (one_up n) g.1)))
    total passes r V (may_any r V) h

pub steps_are_counted : StepsAreCounted
steps_are_counted e total passes r n V W cs b w h same = (subst (Keeps (n + 1)) same (step_keeps e total passes r n V b w h)).0
