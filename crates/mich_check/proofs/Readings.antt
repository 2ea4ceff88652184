-- What is pending of literals, by what is pending of the lambdas and contracts in them.
use Rattle.std.proofs.Common.{◌≡◌, ℕ, ◌+◌, Bool, true, false, List, [], ◌++◌, Option, Some, None, subst}
use Rattle.std.specs.Prelude.{if◌then◌else◌}
use Rattle.rules_text.specs.nodes.Tree.{size, Tree, int, str, bytes, prim, seq, Trees, none, more}
use Rattle.rules_data.specs.types.Kind.{Kind}
use Rattle.rules_data.specs.types.Kind as k
use Rattle.rules_data.specs.values.Val.{Val, Pairs, more_vals, more_pairs}
use Rattle.rules_data.specs.values.Val as v
use Rattle.rules_data.specs.values.Literals.{Word, none_word, some_word, left_word, right_word, entry_word, word_of_name, Pending, Literal, good, bad, with_pending, and_then, mapped, Reader, simple_value, on_value, option_named, read_option, or_named, read_or, read_parts, parts_of, read_elements, read_list, is_behind, read_increasing, read_set, read_binding, entry_named, read_entry, read_entries, read_table, read_lambda, read_contract, read, read_rest}

module _ (P : List Pending → Type 0) (nil : P []) (both : (ps qs : List Pending) → P ps → P qs → P (ps ++ qs)) where
  abbrev pub Keeps : {A : Type 0} → Literal A → Type 0
  Keeps (good x ps) = P ps
  Keeps (bad l) = Unit {0}

  kept_mapped : {A B : Type 0} (f : A → B) (e : Literal A) → Keeps e → Keeps (mapped f e)
  kept_mapped f (good x ps) h = h
  kept_mapped f (bad l) h = tt

  kept_with : {A : Type 0} (ps : List Pending) (e : Literal A) → P ps → Keeps e → Keeps (with_pending ps e)
  kept_with ps (good x qs) h g = both ps qs h g
  kept_with ps (bad l) h g = tt

  kept_then : {A B : Type 0} (e : Literal A) (next : A → Literal B) → Keeps e → ((x : A) → Keeps (next x)) → Keeps (and_then e next)
  kept_then (good x ps) next h g = kept_with ps (next x) h (g x)
  kept_then (bad l) next h g = tt

  kept_if : {A : Type 0} (b : Bool) (e : Literal A) (l : ℕ) → Keeps e → Keeps (if b then e else bad l)
  kept_if true e l h = h
  kept_if false e l h = tt

  abbrev pub ReadsKept : Reader → Type 0
  ReadsKept r = (at : ℕ) (t : Tree) → Keeps (r at t)

  value_kept : (at : ℕ) (o : Option Val) → Keeps (on_value at o)
  value_kept at (Some x) = nil
  value_kept at None = tt

  option_kept : (w : Word) (r : Reader) → ReadsKept r → (at : ℕ) (ts : Trees) → Keeps (option_named w r at ts)
  option_kept none_word r h at none = nil
  option_kept some_word r h at (more t none) = kept_mapped v.some (r (at + 1) t) (h (at + 1) t)
  option_kept _ r h at _ = tt

  or_kept : (w : Word) (r q : Reader) → ReadsKept r → ReadsKept q → (at : ℕ) (ts : Trees) → Keeps (or_named w r q at ts)
  or_kept left_word r q h g at (more t none) = kept_mapped v.left (r (at + 1) t) (h (at + 1) t)
  or_kept right_word r q h g at (more t none) = kept_mapped v.right (q (at + 1) t) (g (at + 1) t)
  or_kept _ r q h g at _ = tt

  parts_kept : (r q : Reader) (rest : ℕ → Trees → Literal Val) → ReadsKept r → ReadsKept q →
      ((at : ℕ) (ts : Trees) → Keeps (rest at ts)) → (whole at : ℕ) (ts : Trees) → Keeps (read_parts r q rest whole at ts)
  parts_kept r q rest h g i whole at (more t (more u none)) = kept_then (r at t) _ (h at t)
      (λ x. kept_mapped (v.both x) (q (at + size t) u) (g (at + size t) u))
  parts_kept r q rest h g i whole at (more t (more u (more w ts))) = kept_then (r at t) _ (h at t)
      (λ x. kept_mapped (v.both x) (rest (at + size t) (more u (more w ts))) (i (at + size t) (more u (more w ts))))
  parts_kept r q rest h g i whole at none = tt
  parts_kept r q rest h g i whole at (more t none) = tt

  elements_kept : (r : Reader) → ReadsKept r → (at : ℕ) (ts : Trees) → Keeps (read_elements r at ts)
  elements_kept r h at none = nil
  elements_kept r h at (more t ts) = kept_then (r at t) _ (h at t)
      (λ x. kept_mapped (more_vals x) (read_elements r (at + size t) ts) (elements_kept r h (at + size t) ts))

  increasing_kept : (r : Reader) → ReadsKept r → (before : Option Val) (at : ℕ) (ts : Trees) → Keeps (read_increasing r before at ts)
  increasing_kept r h before at none = nil
  increasing_kept r h before at (more t ts) =
      kept_then (r at t) _ (h at t) (λ x. kept_if (is_behind before x)
      (mapped (more_vals x) (read_increasing r (Some x) (at + size t) ts)) at
      (kept_mapped (more_vals x) (read_increasing r (Some x) (at + size t) ts) (increasing_kept r h (Some x) (at + size t) ts)))

  binding_kept : (r q : Reader) → ReadsKept r → ReadsKept q → (before : Option Val) (at : ℕ) (t u : Tree) →
      Keeps (read_binding r q before at t u)
  binding_kept r q h g before at t u =
      kept_then (r (at + 1) t) _ (h (at + 1) t) (λ x. kept_if (is_behind before x)
      (mapped (λ y. record { key = x; value = y }) (q (at + 1 + size t) u)) at
      (kept_mapped (λ y. record { key = x; value = y }) (q (at + 1 + size t) u) (g (at + 1 + size t) u)))

  named_kept : (w : Word) (r q : Reader) → ReadsKept r → ReadsKept q → (before : Option Val) (at : ℕ) (ts : Trees) →
      Keeps (entry_named w r q before at ts)
  named_kept entry_word r q h g before at (more t (more u none)) = binding_kept r q h g before at t u
  named_kept _ r q h g before at _ = tt

  entry_kept : (r q : Reader) → ReadsKept r → ReadsKept q → (before : Option Val) (at : ℕ) (t : Tree) → Keeps (read_entry r q before at t)
  entry_kept r q h g before at (prim name annots args) = named_kept (word_of_name name) r q h g before at args
  entry_kept r q h g before at (int n) = tt
  entry_kept r q h g before at (str s) = tt
  entry_kept r q h g before at (bytes b) = tt
  entry_kept r q h g before at (seq ts) = tt

  entries_kept : (r q : Reader) → ReadsKept r → ReadsKept q → (before : Option Val) (at : ℕ) (ts : Trees) →
      Keeps (read_entries r q before at ts)
  entries_kept r q h g before at none = nil
  entries_kept r q h g before at (more t ts) =
      kept_then (read_entry r q before at t) _ (entry_kept r q h g before at t)
      (λ e. kept_mapped (more_pairs e.key e.value) (read_entries r q (Some e.key) (at + size t) ts)
      (entries_kept r q h g (Some e.key) (at + size t) ts))

  option_read : (r : Reader) → ReadsKept r → (at : ℕ) (t : Tree) → Keeps (read_option r at t)
  option_read r h at (prim name annots args) = option_kept (word_of_name name) r h at args
  option_read r h at (int n) = tt
  option_read r h at (str s) = tt
  option_read r h at (bytes b) = tt
  option_read r h at (seq ts) = tt

  or_read : (r q : Reader) → ReadsKept r → ReadsKept q → (at : ℕ) (t : Tree) → Keeps (read_or r q at t)
  or_read r q h g at (prim name annots args) = or_kept (word_of_name name) r q h g at args
  or_read r q h g at (int n) = tt
  or_read r q h g at (str s) = tt
  or_read r q h g at (bytes b) = tt
  or_read r q h g at (seq ts) = tt

  list_read : (r : Reader) → ReadsKept r → (at : ℕ) (t : Tree) → Keeps (read_list r at t)
  list_read r h at (seq ts) = kept_mapped v.list (read_elements r (at + 1) ts) (elements_kept r h (at + 1) ts)
  list_read r h at (prim name annots args) = tt
  list_read r h at (int n) = tt
  list_read r h at (str s) = tt
  list_read r h at (bytes b) = tt

  set_read : (r : Reader) → ReadsKept r → (at : ℕ) (t : Tree) → Keeps (read_set r at t)
  set_read r h at (seq ts) = kept_mapped v.set (read_increasing r None (at + 1) ts) (increasing_kept r h None (at + 1) ts)
  set_read r h at (prim name annots args) = tt
  set_read r h at (int n) = tt
  set_read r h at (str s) = tt
  set_read r h at (bytes b) = tt

  table_read : (made : Pairs → Val) (r q : Reader) → ReadsKept r → ReadsKept q → (at : ℕ) (t : Tree) → Keeps (read_table made r q at t)
  table_read made r q h g at (seq ts) = kept_mapped made (read_entries r q None (at + 1) ts) (entries_kept r q h g None (at + 1) ts)
  table_read made r q h g at (prim name annots args) = tt
  table_read made r q h g at (int n) = tt
  table_read made r q h g at (str s) = tt
  table_read made r q h g at (bytes b) = tt

  -- what is asked of the lambdas and contracts in a type
  abbrev pub Leaves : Kind → Type 0
  Leaves (k.simple s) = Unit {0}
  Leaves (k.option a) = Leaves a
  Leaves (k.or a b) = Leaves a × Leaves b
  Leaves (k.pair a b) = Leaves a × Leaves b
  Leaves (k.list a) = Leaves a
  Leaves (k.set a) = Leaves a
  Leaves (k.map a b) = Leaves a × Leaves b
  Leaves (k.big_map a b) = Leaves a × Leaves b
  Leaves (k.lambda a b) = ReadsKept (read_lambda a b)
  Leaves (k.contract a) = ReadsKept (read_contract a)
  Leaves k.operation = Unit {0}
  Leaves (k.ticket a) = Unit {0}

  mutual
    pub read_kept : (a : Kind) → Leaves a → ReadsKept (read a)
    read_kept (k.simple u) h at t = value_kept at (simple_value u t)
    read_kept k.operation h at t = tt
    read_kept (k.option a) h at t = option_read (read a) (read_kept a h) at t
    read_kept (k.or a b) h at t = or_read (read a) (read b) (read_kept a h.0) (read_kept b h.1) at t
    read_kept (k.pair a b) h at t = parts_kept (read a) (read b) (read_rest b at) (read_kept a h.0) (read_kept b h.1) (rest_kept b h.1 at) at (at + 1) (parts_of t)
    read_kept (k.list a) h at t = list_read (read a) (read_kept a h) at t
    read_kept (k.set a) h at t = set_read (read a) (read_kept a h) at t
    read_kept (k.map a b) h at t = table_read v.table (read a) (read b) (read_kept a h.0) (read_kept b h.1) at t
    read_kept (k.big_map a b) h at t = table_read v.big_table (read a) (read b) (read_kept a h.0) (read_kept b h.1) at t
    read_kept (k.lambda a b) h at t = h at t
    read_kept (k.contract a) h at t = h at t
    read_kept (k.ticket a) h at t = tt

    rest_kept : (a : Kind) → Leaves a → (whole at : ℕ) (ts : Trees) → Keeps (read_rest a whole at ts)
    rest_kept (k.pair a b) h whole at ts = parts_kept (read a) (read b) (read_rest b whole) (read_kept a h.0) (read_kept b h.1) (rest_kept b h.1 whole) whole at ts
    rest_kept _ h whole at ts = tt

  pub read_keeps : (a : Kind) (at : ℕ) (t : Tree) (x : Val) (ps : List Pending) → Leaves a → read a at t ≡ good x ps → P ps
  read_keeps a at t x ps h e = subst Keeps e (read_kept a h at t)
