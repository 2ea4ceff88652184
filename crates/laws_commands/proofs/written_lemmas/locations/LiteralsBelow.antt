-- The faults of literals, and what is still to be tried of them, are at locations of their nodes.
use Rattle.std.proofs.Common.{◌<◌, ◌≤◌, ◌+◌, ℕ, Bool, true, false, Option, Some, None, List, [], ◌∷◌, arith}
use Rattle.std.specs.Prelude.{if◌then◌else◌}
use Rattle.std.specs.List.{AllByRecursion}
use Rattle.rules_text.specs.nodes.Tree.{Tree, int, str, bytes, prim, seq, Trees, none, more, size, sizes}
use Rattle.rules_data.specs.forms.Spelling.{is_address}
use Rattle.rules_data.specs.types.Kind.{Kind}
use Rattle.rules_data.specs.types.Kind as k
use Rattle.rules_data.specs.values.Val.{Val, Vals, no_val, more_vals, Pairs, no_pair, more_pairs}
use Rattle.rules_data.specs.values.Val as v
use Rattle.rules_data.specs.values.Literals.{Word, unit_word, true_word, false_word, none_word, some_word, left_word, right_word, pair_word, entry_word, recursive_word, other_word, word_of_name, Pending, body, claim, Literal, good, bad, with_pending, and_then, mapped, Reader, simple_value, on_value, option_named, read_option, or_named, read_or, read_parts, pair_named, parts_of, read_elements, read_list, is_behind, read_increasing, read_set, read_binding, entry_named, read_entry, read_entries, read_table, read_body, recursive_named, read_lambda, read_contract, read, read_rest}
use Rattle.laws_commands.proofs.written_lemmas.locations.Below.{size_some}
use Rattle.laws_commands.proofs.common.Lists.{all_append}

abbrev pub PendingBelow : ℕ → Pending → Type 0
PendingBelow n (body at a b recursive t) = at + size t ≤ n
PendingBelow n (claim at b a) = at < n

abbrev pub LiteralBelow : {A : Type 0} → ℕ → Literal A → Type 0
LiteralBelow n (good x ps) = AllByRecursion (PendingBelow n) ps
LiteralBelow n (bad l) = l < n

module _ (n : ℕ) where
  pending_below : {A : Type 0} (ps : List Pending) (e : Literal A) → AllByRecursion (PendingBelow n) ps → LiteralBelow n e →
      LiteralBelow n (with_pending ps e)
  pending_below ps (good x qs) h g = all_append (PendingBelow n) ps qs h g
  pending_below ps (bad l) h g = g

  then_below : {A B : Type 0} (e : Literal A) (next : A → Literal B) → LiteralBelow n e → ((x : A) → LiteralBelow n (next x)) →
      LiteralBelow n (and_then e next)
  then_below (good x ps) next h g = pending_below ps (next x) h (g x)
  then_below (bad l) next h g = h

  mapped_below : {A B : Type 0} (f : A → B) (e : Literal A) → LiteralBelow n e → LiteralBelow n (mapped f e)
  mapped_below f (good x ps) h = h
  mapped_below f (bad l) h = h

  abbrev Reads : Reader → Type 0
  Reads r = (at : ℕ) (t : Tree) → at + size t ≤ n → LiteralBelow n (r at t)

  some : (at : ℕ) (t : Tree) → at + size t ≤ n → at < n
  some at t h = let s = size_some t in omega (arith, h, s)

  value_below : (at : ℕ) (o : Option Val) → at < n → LiteralBelow n (on_value at o)
  value_below at (Some x) h = tt
  value_below at None h = h

  option_named_below : (w : Word) (r : Reader) → Reads r → (at : ℕ) (ts : Trees) → at + sizes ts < n →
      LiteralBelow n (option_named w r at ts)
  option_named_below none_word r q at none h = tt
  option_named_below none_word r q at (more t ts) h = omega (arith, h)
  option_named_below some_word r q at (more t none) h = mapped_below v.some (r (at + 1) t) (q (at + 1) t (omega (arith, h)))
  option_named_below some_word r q at none h = omega (arith, h)
  option_named_below some_word r q at (more t (more u ts)) h = omega (arith, h)
  option_named_below unit_word r q at ts h = omega (arith, h)
  option_named_below true_word r q at ts h = omega (arith, h)
  option_named_below false_word r q at ts h = omega (arith, h)
  option_named_below left_word r q at ts h = omega (arith, h)
  option_named_below right_word r q at ts h = omega (arith, h)
  option_named_below pair_word r q at ts h = omega (arith, h)
  option_named_below entry_word r q at ts h = omega (arith, h)
  option_named_below recursive_word r q at ts h = omega (arith, h)
  option_named_below other_word r q at ts h = omega (arith, h)

  option_below : (r : Reader) → Reads r → Reads (read_option r)
  option_below r q at (prim name annots ts) h = option_named_below (word_of_name name) r q at ts (omega (arith, h))
  option_below r q at (int z) h = omega (arith, h)
  option_below r q at (str s) h = omega (arith, h)
  option_below r q at (bytes b) h = omega (arith, h)
  option_below r q at (seq ts) h = omega (arith, h)

  or_named_below : (w : Word) (r s : Reader) → Reads r → Reads s → (at : ℕ) (ts : Trees) → at + sizes ts < n →
      LiteralBelow n (or_named w r s at ts)
  or_named_below left_word r s p q at (more t none) h = mapped_below v.left (r (at + 1) t) (p (at + 1) t (omega (arith, h)))
  or_named_below right_word r s p q at (more t none) h = mapped_below v.right (s (at + 1) t) (q (at + 1) t (omega (arith, h)))
  or_named_below left_word r s p q at none h = omega (arith, h)
  or_named_below left_word r s p q at (more t (more u ts)) h = omega (arith, h)
  or_named_below right_word r s p q at none h = omega (arith, h)
  or_named_below right_word r s p q at (more t (more u ts)) h = omega (arith, h)
  or_named_below none_word r s p q at ts h = omega (arith, h)
  or_named_below some_word r s p q at ts h = omega (arith, h)
  or_named_below unit_word r s p q at ts h = omega (arith, h)
  or_named_below true_word r s p q at ts h = omega (arith, h)
  or_named_below false_word r s p q at ts h = omega (arith, h)
  or_named_below pair_word r s p q at ts h = omega (arith, h)
  or_named_below entry_word r s p q at ts h = omega (arith, h)
  or_named_below recursive_word r s p q at ts h = omega (arith, h)
  or_named_below other_word r s p q at ts h = omega (arith, h)

  or_below : (r s : Reader) → Reads r → Reads s → Reads (read_or r s)
  or_below r s p q at (prim name annots ts) h = or_named_below (word_of_name name) r s p q at ts (omega (arith, h))
  or_below r s p q at (int z) h = omega (arith, h)
  or_below r s p q at (str x) h = omega (arith, h)
  or_below r s p q at (bytes b) h = omega (arith, h)
  or_below r s p q at (seq ts) h = omega (arith, h)

  -- ---- pairs

  abbrev RestReads : (ℕ → Trees → Literal Val) → Type 0
  RestReads rest = (at : ℕ) (ts : Trees) → at + sizes ts ≤ n → LiteralBelow n (rest at ts)

  parts_below : (r q : Reader) (rest : ℕ → Trees → Literal Val) → Reads r → Reads q → RestReads rest → (whole at : ℕ) (ts : Trees) →
      whole < n → at + sizes ts ≤ n →
      LiteralBelow n (read_parts r q rest whole at ts)
  parts_below r q rest p s u whole at (more t (more x none)) l h =
      then_below (r at t) _ (p at t (omega (arith, h))) (λ y. mapped_below (v.both y) (q (at + size t) x)
      (s (at + size t) x (omega (arith, h))))
  parts_below r q rest p s u whole at (more t (more x (more w ts))) l h =
      then_below (r at t) _ (p at t (omega (arith, h)))
      (λ y. mapped_below (v.both y) (rest (at + size t) (more x (more w ts))) (u (at + size t) (more x (more w ts)) (omega (arith, h))))
  parts_below r q rest p s u whole at none l h = l
  parts_below r q rest p s u whole at (more t none) l h = l

  parts_named : (w : Word) (ts : Trees) → sizes (pair_named w ts) ≤ sizes ts
  parts_named pair_word ts = omega arith
  parts_named none_word ts = omega arith
  parts_named some_word ts = omega arith
  parts_named unit_word ts = omega arith
  parts_named true_word ts = omega arith
  parts_named false_word ts = omega arith
  parts_named left_word ts = omega arith
  parts_named right_word ts = omega arith
  parts_named entry_word ts = omega arith
  parts_named recursive_word ts = omega arith
  parts_named other_word ts = omega arith

  parts_small : (t : Tree) → sizes (parts_of t) + 1 ≤ size t
  parts_small (prim name annots ts) = let h = parts_named (word_of_name name) ts in omega (arith, h)
  parts_small (seq ts) = omega arith
  parts_small (int z) = omega arith
  parts_small (str s) = omega arith
  parts_small (bytes b) = omega arith

  -- ---- lists, sets and maps

  elements_below : (r : Reader) → Reads r → (at : ℕ) (ts : Trees) → at + sizes ts ≤ n → LiteralBelow n (read_elements r at ts)
  elements_below r q at none h = tt
  elements_below r q at (more t ts) h =
      let rest = elements_below r q (at + size t) ts (omega (arith, h)) in
      then_below (r at t) _ (q at t (omega (arith, h))) (λ x. mapped_below (more_vals x) (read_elements r (at + size t) ts) rest)

  list_below : (r : Reader) → Reads r → Reads (read_list r)
  list_below r q at (seq ts) h = mapped_below v.list (read_elements r (at + 1) ts) (elements_below r q (at + 1) ts (omega (arith, h)))
  list_below r q at (prim name annots ts) h = omega (arith, h)
  list_below r q at (int z) h = omega (arith, h)
  list_below r q at (str s) h = omega (arith, h)
  list_below r q at (bytes b) h = omega (arith, h)

  if_below : {A : Type 0} (b : Bool) (e : Literal A) (at : ℕ) → LiteralBelow n e → at < n → LiteralBelow n (if b then e else bad at)
  if_below true e at h l = h
  if_below false e at h l = l

  increasing_below : (r : Reader) → Reads r → (before : Option Val) (at : ℕ) (ts : Trees) → at + sizes ts ≤ n →
      LiteralBelow n (read_increasing r before at ts)
  increasing_below r q before at none h = tt
  increasing_below r q before at (more t ts) h =
      then_below (r at t) _ (q at t (omega (arith, h))) (λ x. if_below (is_behind before x)
      (mapped (more_vals x) (read_increasing r (Some x) (at + size t) ts)) at
      (mapped_below (more_vals x) (read_increasing r (Some x) (at + size t) ts)
      (increasing_below r q (Some x) (at + size t) ts (omega (arith, h)))) (some at t (omega (arith, h))))

  set_below : (r : Reader) → Reads r → Reads (read_set r)
  set_below r q at (seq ts) h = mapped_below v.set (read_increasing r None (at + 1) ts)
      (increasing_below r q None (at + 1) ts (omega (arith, h)))
  set_below r q at (prim name annots ts) h = omega (arith, h)
  set_below r q at (int z) h = omega (arith, h)
  set_below r q at (str s) h = omega (arith, h)
  set_below r q at (bytes b) h = omega (arith, h)

  binding_below : (r s : Reader) → Reads r → Reads s → (before : Option Val) (at : ℕ) (t u : Tree) → at + (size t + size u) < n →
      LiteralBelow n (read_binding r s before at t u)
  binding_below r s p q before at t u h =
      then_below (r (at + 1) t) _ (p (at + 1) t (omega (arith, h))) (λ x. if_below (is_behind before x)
      (mapped (λ y. record { key = x; value = y }) (s (at + 1 + size t) u)) at
      (mapped_below (λ y. record { key = x; value = y }) (s (at + 1 + size t) u) (q (at + 1 + size t) u (omega (arith, h))))
      (omega (arith, h)))

  entry_named_below : (w : Word) (r s : Reader) → Reads r → Reads s → (before : Option Val) (at : ℕ) (ts : Trees) → at + sizes ts < n →
      LiteralBelow n (entry_named w r s before at ts)
  entry_named_below entry_word r s p q before at (more t (more u none)) h = binding_below r s p q before at t u (omega (arith, h))
  entry_named_below entry_word r s p q before at none h = omega (arith, h)
  entry_named_below entry_word r s p q before at (more t none) h = omega (arith, h)
  entry_named_below entry_word r s p q before at (more t (more u (more w ts))) h = omega (arith, h)
  entry_named_below none_word r s p q before at ts h = omega (arith, h)
  entry_named_below some_word r s p q before at ts h = omega (arith, h)
  entry_named_below unit_word r s p q before at ts h = omega (arith, h)
  entry_named_below true_word r s p q before at ts h = omega (arith, h)
  entry_named_below false_word r s p q before at ts h = omega (arith, h)
  entry_named_below left_word r s p q before at ts h = omega (arith, h)
  entry_named_below right_word r s p q before at ts h = omega (arith, h)
  entry_named_below pair_word r s p q before at ts h = omega (arith, h)
  entry_named_below recursive_word r s p q before at ts h = omega (arith, h)
  entry_named_below other_word r s p q before at ts h = omega (arith, h)

  entry_below : (r s : Reader) → Reads r → Reads s → (before : Option Val) (at : ℕ) (t : Tree) → at + size t ≤ n →
      LiteralBelow n (read_entry r s before at t)
  entry_below r s p q before at (prim name annots ts) h = entry_named_below (word_of_name name) r s p q before at ts (omega (arith, h))
  entry_below r s p q before at (int z) h = omega (arith, h)
  entry_below r s p q before at (str x) h = omega (arith, h)
  entry_below r s p q before at (bytes b) h = omega (arith, h)
  entry_below r s p q before at (seq ts) h = omega (arith, h)

  entries_below : (r s : Reader) → Reads r → Reads s → (before : Option Val) (at : ℕ) (ts : Trees) → at + sizes ts ≤ n →
      LiteralBelow n (read_entries r s before at ts)
  entries_below r s p q before at none h = tt
  entries_below r s p q before at (more t ts) h =
      then_below (read_entry r s before at t) _ (entry_below r s p q before at t (omega (arith, h))) (λ e.
      mapped_below (more_pairs e.key e.value) (read_entries r s (Some e.key) (at + size t) ts)
      (entries_below r s p q (Some e.key) (at + size t) ts (omega (arith, h))))

  table_below : (made : Pairs → Val) (r s : Reader) → Reads r → Reads s → Reads (read_table made r s)
  table_below made r s p q at (seq ts) h = mapped_below made (read_entries r s None (at + 1) ts)
      (entries_below r s p q None (at + 1) ts (omega (arith, h)))
  table_below made r s p q at (prim name annots ts) h = omega (arith, h)
  table_below made r s p q at (int z) h = omega (arith, h)
  table_below made r s p q at (str x) h = omega (arith, h)
  table_below made r s p q at (bytes b) h = omega (arith, h)

  -- ---- lambdas and contracts

  body_below : (a b : Kind) (recursive : Bool) → Reads (read_body a b recursive)
  body_below a b recursive at (seq ts) h = (h, tt)
  body_below a b recursive at (prim name annots ts) h = omega (arith, h)
  body_below a b recursive at (int z) h = omega (arith, h)
  body_below a b recursive at (str x) h = omega (arith, h)
  body_below a b recursive at (bytes x) h = omega (arith, h)

  recursive_below : (w : Word) (a b : Kind) (at : ℕ) (ts : Trees) → at + sizes ts < n → LiteralBelow n (recursive_named w a b at ts)
  recursive_below recursive_word a b at (more t none) h = body_below a b true (at + 1) t (omega (arith, h))
  recursive_below recursive_word a b at none h = omega (arith, h)
  recursive_below recursive_word a b at (more t (more u ts)) h = omega (arith, h)
  recursive_below none_word a b at ts h = omega (arith, h)
  recursive_below some_word a b at ts h = omega (arith, h)
  recursive_below unit_word a b at ts h = omega (arith, h)
  recursive_below true_word a b at ts h = omega (arith, h)
  recursive_below false_word a b at ts h = omega (arith, h)
  recursive_below left_word a b at ts h = omega (arith, h)
  recursive_below right_word a b at ts h = omega (arith, h)
  recursive_below pair_word a b at ts h = omega (arith, h)
  recursive_below entry_word a b at ts h = omega (arith, h)
  recursive_below other_word a b at ts h = omega (arith, h)

  lambda_below : (a b : Kind) → Reads (read_lambda a b)
  lambda_below a b at (prim name annots ts) h = recursive_below (word_of_name name) a b at ts (omega (arith, h))
  lambda_below a b at (seq ts) h = body_below a b false at (seq ts) h
  lambda_below a b at (int z) h = omega (arith, h)
  lambda_below a b at (str x) h = omega (arith, h)
  lambda_below a b at (bytes x) h = omega (arith, h)

  contract_below : (a : Kind) → Reads (read_contract a)
  contract_below a at (bytes b) h = if_below (is_address b) (good (v.bytes b) (claim at b a ∷ [])) at (
    omega (arith, h),
    tt,
  ) (omega (arith, h))
  contract_below a at (prim name annots ts) h = omega (arith, h)
  contract_below a at (seq ts) h = omega (arith, h)
  contract_below a at (int z) h = omega (arith, h)
  contract_below a at (str x) h = omega (arith, h)

  -- ---- all types

  mutual
    pub read_below : (a : Kind) → Reads (read a)
    read_below (k.simple s) at t h = value_below at (simple_value s t) (some at t h)
    read_below k.operation at t h = some at t h
    read_below (k.option a) at t h = option_below (read a) (read_below a) at t h
    read_below (k.or a b) at t h = or_below (read a) (read b) (read_below a) (read_below b) at t h
    read_below (k.pair a b) at t h =
        let s = parts_small t in
        parts_below (read a) (read b) (read_rest b at) (read_below a) (read_below b) (rest_below b at (some at t h)) at (at + 1)
        (parts_of t) (some at t h) (omega (arith, h, s))
    read_below (k.list a) at t h = list_below (read a) (read_below a) at t h
    read_below (k.set a) at t h = set_below (read a) (read_below a) at t h
    read_below (k.map a b) at t h = table_below v.table (read a) (read b) (read_below a) (read_below b) at t h
    read_below (k.big_map a b) at t h = table_below v.big_table (read a) (read b) (read_below a) (read_below b) at t h
    read_below (k.lambda a b) at t h = lambda_below a b at t h
    read_below (k.contract a) at t h = contract_below a at t h
    read_below (k.ticket a) at t h = some at t h

    rest_below : (a : Kind) (whole : ℕ) → whole < n → RestReads (read_rest a whole)
    rest_below (k.pair a b) whole l at ts h = parts_below (read a) (read b) (read_rest b whole) (read_below a) (read_below b)
        (rest_below b whole l) whole at ts l h
    rest_below (k.simple s) whole l at ts h = l
    rest_below k.operation whole l at ts h = l
    rest_below (k.option a) whole l at ts h = l
    rest_below (k.or a b) whole l at ts h = l
    rest_below (k.list a) whole l at ts h = l
    rest_below (k.set a) whole l at ts h = l
    rest_below (k.map a b) whole l at ts h = l
    rest_below (k.big_map a b) whole l at ts h = l
    rest_below (k.lambda a b) whole l at ts h = l
    rest_below (k.contract a) whole l at ts h = l
    rest_below (k.ticket a) whole l at ts h = l
