-- Literals of pushable types name no contracts.
use Rattle.std.proofs.Common.{◌≡◌, ℕ, ◌+◌, Bool, true, false, List, [], ◌∷◌, ◌++◌, Option, Some, None, subst}
use Rattle.std.specs.Prelude.{if◌then◌else◌}
use Rattle.std.proofs.lemmas.Bool.{and_parts}
use Rattle.rules_text.specs.nodes.Tree.{Tree, int, str, bytes, prim, seq, Trees, none, more, size}
use Rattle.rules_data.specs.types.Kind.{Kind}
use Rattle.rules_data.specs.types.Kind as k
use Rattle.rules_data.specs.types.Attributes.{pushable}
use Rattle.rules_data.specs.values.Val.{Val, more_vals, more_pairs}
use Rattle.rules_data.specs.values.Val as v
use Rattle.rules_data.specs.values.Literals.{Word, none_word, some_word, left_word, right_word, entry_word, recursive_word, word_of_name, Pending, body, claim, Literal, good, bad, with_pending, and_then, mapped, Reader, simple_value, on_value, option_named, or_named, read_parts, parts_of, read_elements, is_behind, read_increasing, read_binding, entry_named, read_entry, read_entries, read_body, recursive_named, read_lambda, read, read_rest}
use Rattle.rules_code.specs.typing.Fits.{Known}
use Rattle.laws_typing.specs.literals.Laws.{AllClaimed}

abbrev NoClaim : List Pending → Type 0
NoClaim [] = Unit {0}
NoClaim (body l a r b t ∷ ps) = NoClaim ps
NoClaim (claim l b a ∷ ps) = ⊥

no_claims : (ps qs : List Pending) → NoClaim ps → NoClaim qs → NoClaim (ps ++ qs)
no_claims [] qs h g = g
no_claims (body l a r b t ∷ ps) qs h g = no_claims ps qs h g
no_claims (claim l b a ∷ ps) qs h g = absurd h

abbrev Free : {A : Type 0} → Literal A → Type 0
Free (good x ps) = NoClaim ps
Free (bad l) = Unit {0}

free_mapped : {A B : Type 0} (f : A → B) (e : Literal A) → Free e → Free (mapped f e)
free_mapped f (good x ps) h = h
free_mapped f (bad l) h = tt

free_with : {A : Type 0} (ps : List Pending) (e : Literal A) → NoClaim ps → Free e → Free (with_pending ps e)
free_with ps (good x qs) h g = no_claims ps qs h g
free_with ps (bad l) h g = tt

free_then : {A B : Type 0} (e : Literal A) (next : A → Literal B) → Free e → ((x : A) → Free (next x)) → Free (and_then e next)
free_then (good x ps) next h g = free_with ps (next x) h (g x)
free_then (bad l) next h g = tt

free_if : {A : Type 0} (b : Bool) (e : Literal A) (l : ℕ) → Free e → Free (if b then e else bad l)
free_if true e l h = h
free_if false e l h = tt

abbrev IsFree : Reader → Type 0
IsFree r = (at : ℕ) (t : Tree) → Free (r at t)

value_free : (at : ℕ) (o : Option Val) → Free (on_value at o)
value_free at (Some x) = tt
value_free at None = tt

option_free : (w : Word) (r : Reader) → IsFree r → (at : ℕ) (ts : Trees) → Free (option_named w r at ts)
option_free none_word r h at none = tt
option_free some_word r h at (more t none) = free_mapped v.some (r (at + 1) t) (h (at + 1) t)
option_free _ r h at _ = tt

or_free : (w : Word) (r q : Reader) → IsFree r → IsFree q → (at : ℕ) (ts : Trees) → Free (or_named w r q at ts)
or_free left_word r q h g at (more t none) = free_mapped v.left (r (at + 1) t) (h (at + 1) t)
or_free right_word r q h g at (more t none) = free_mapped v.right (q (at + 1) t) (g (at + 1) t)
or_free _ r q h g at _ = tt

parts_free : (r q : Reader) (rest : ℕ → Trees → Literal Val) → IsFree r → IsFree q →
    ((at : ℕ) (ts : Trees) → Free (rest at ts)) → (whole at : ℕ) (ts : Trees) → Free (read_parts r q rest whole at ts)
parts_free r q rest h g i whole at (more t (more u none)) = free_then (r at t) _ (h at t)
    (λ x. free_mapped (v.both x) (q (at + size t) u) (g (at + size t) u))
parts_free r q rest h g i whole at (more t (more u (more w ts))) = free_then (r at t) _ (h at t)
    (λ x. free_mapped (v.both x) (rest (at + size t) (more u (more w ts))) (i (at + size t) (more u (more w ts))))
parts_free r q rest h g i whole at none = tt
parts_free r q rest h g i whole at (more t none) = tt

elements_free : (r : Reader) → IsFree r → (at : ℕ) (ts : Trees) → Free (read_elements r at ts)
elements_free r h at none = tt
elements_free r h at (more t ts) = free_then (r at t) _ (h at t)
    (λ x. free_mapped (more_vals x) (read_elements r (at + size t) ts) (elements_free r h (at + size t) ts))

increasing_free : (r : Reader) → IsFree r → (before : Option Val) (at : ℕ) (ts : Trees) → Free (read_increasing r before at ts)
increasing_free r h before at none = tt
increasing_free r h before at (more t ts) =
    free_then (r at t) _ (h at t) (λ x. free_if (is_behind before x)
    (mapped (more_vals x) (read_increasing r (Some x) (at + size t) ts)) at
    (free_mapped (more_vals x) (read_increasing r (Some x) (at + size t) ts) (increasing_free r h (Some x) (at + size t) ts)))

binding_free : (r q : Reader) → IsFree r → IsFree q → (before : Option Val) (at : ℕ) (t u : Tree) →
    Free (read_binding r q before at t u)
binding_free r q h g before at t u =
    free_then (r (at + 1) t) _ (h (at + 1) t) (λ x. free_if (is_behind before x)
    (mapped (λ y. record { key = x; value = y }) (q (at + 1 + size t) u)) at
    (free_mapped (λ y. record { key = x; value = y }) (q (at + 1 + size t) u) (g (at + 1 + size t) u)))

named_free : (w : Word) (r q : Reader) → IsFree r → IsFree q → (before : Option Val) (at : ℕ) (ts : Trees) →
    Free (entry_named w r q before at ts)
named_free entry_word r q h g before at (more t (more u none)) = binding_free r q h g before at t u
named_free _ r q h g before at _ = tt

entry_free : (r q : Reader) → IsFree r → IsFree q → (before : Option Val) (at : ℕ) (t : Tree) → Free (read_entry r q before at t)
entry_free r q h g before at (prim name annots args) = named_free (word_of_name name) r q h g before at args
entry_free r q h g before at (int n) = tt
entry_free r q h g before at (str s) = tt
entry_free r q h g before at (bytes b) = tt
entry_free r q h g before at (seq ts) = tt

entries_free : (r q : Reader) → IsFree r → IsFree q → (before : Option Val) (at : ℕ) (ts : Trees) →
    Free (read_entries r q before at ts)
entries_free r q h g before at none = tt
entries_free r q h g before at (more t ts) =
    free_then (read_entry r q before at t) _ (entry_free r q h g before at t)
    (λ e. free_mapped (more_pairs e.key e.value) (read_entries r q (Some e.key) (at + size t) ts)
    (entries_free r q h g (Some e.key) (at + size t) ts))

body_free : (a b : Kind) (q : Bool) (at : ℕ) (t : Tree) → Free (read_body a b q at t)
body_free a b q at (seq ts) = tt
body_free a b q at (int n) = tt
body_free a b q at (str s) = tt
body_free a b q at (bytes c) = tt
body_free a b q at (prim name annots args) = tt

recursive_free : (w : Word) (a b : Kind) (at : ℕ) (ts : Trees) → Free (recursive_named w a b at ts)
recursive_free recursive_word a b at (more t none) = body_free a b true (at + 1) t
recursive_free _ a b at _ = tt

lambda_free : (a b : Kind) (at : ℕ) (t : Tree) → Free (read_lambda a b at t)
lambda_free a b at (prim name annots args) = recursive_free (word_of_name name) a b at args
lambda_free a b at (int n) = tt
lambda_free a b at (str s) = tt
lambda_free a b at (bytes c) = tt
lambda_free a b at (seq ts) = tt

mutual
  read_free : (a : Kind) → pushable a ≡ true → IsFree (read a)
  read_free (k.simple u) e at t = value_free at (simple_value u t)
  read_free k.operation e at t = absurd cc
  read_free (k.option a) e at (prim name annots args) = option_free (word_of_name name) (read a) (read_free a e) at args
  read_free (k.option a) e at (int n) = tt
  read_free (k.option a) e at (str s) = tt
  read_free (k.option a) e at (bytes b) = tt
  read_free (k.option a) e at (seq ts) = tt
  read_free (k.or a b) e at (prim name annots args) = let es = and_parts (pushable a) (pushable b) e in
      or_free (word_of_name name) (read a) (read b) (read_free a es.0) (read_free b es.1) at args
  read_free (k.or a b) e at (int n) = tt
  read_free (k.or a b) e at (str s) = tt
  read_free (k.or a b) e at (bytes c) = tt
  read_free (k.or a b) e at (seq ts) = tt
  read_free (k.pair a b) e at t =
      let es = and_parts (pushable a) (pushable b) e in
      parts_free (read a) (read b) (read_rest b at) (read_free a es.0) (read_free b es.1) (rest_free b es.1 at) at (at + 1)
      (parts_of t)
  read_free (k.list a) e at (seq ts) = free_mapped v.list (read_elements (read a) (at + 1) ts)
      (elements_free (read a) (read_free a e) (at + 1) ts)
  read_free (k.list a) e at (prim name annots args) = tt
  read_free (k.list a) e at (int n) = tt
  read_free (k.list a) e at (str s) = tt
  read_free (k.list a) e at (bytes b) = tt
  read_free (k.set a) e at (seq ts) = free_mapped v.set (read_increasing (read a) None (at + 1) ts)
      (increasing_free (read a) (read_free a e) None (at + 1) ts)
  read_free (k.set a) e at (prim name annots args) = tt
  read_free (k.set a) e at (int n) = tt
  read_free (k.set a) e at (str s) = tt
  read_free (k.set a) e at (bytes b) = tt
  read_free (k.map a b) e at (seq ts) =
      let es = and_parts (pushable a) (pushable b) e in
      free_mapped v.table (read_entries (read a) (read b) None (at + 1) ts)
      (entries_free (read a) (read b) (read_free a es.0) (read_free b es.1) None (at + 1) ts)
  read_free (k.map a b) e at (prim name annots args) = tt
  read_free (k.map a b) e at (int n) = tt
  read_free (k.map a b) e at (str s) = tt
  read_free (k.map a b) e at (bytes c) = tt
  read_free (k.big_map a b) e at t = absurd cc
  read_free (k.lambda a b) e at t = lambda_free a b at t
  read_free (k.contract a) e at t = absurd cc
  read_free (k.ticket a) e at t = tt

  rest_free : (a : Kind) → pushable a ≡ true → (whole at : ℕ) (ts : Trees) → Free (read_rest a whole at ts)
  rest_free (k.pair a b) e whole at ts =
      let es = and_parts (pushable a) (pushable b) e in
      parts_free (read a) (read b) (read_rest b whole) (read_free a es.0) (read_free b es.1) (rest_free b es.1 whole) whole at ts
  rest_free _ e whole at ts = tt

claimed : (w : Known) (ps : List Pending) → NoClaim ps → AllClaimed w ps
claimed w [] h = tt
claimed w (body l a r b t ∷ ps) h = claimed w ps h
claimed w (claim l b a ∷ ps) h = absurd h

free_of : {A : Type 0} (e : Literal A) (x : A) (ps : List Pending) → e ≡ good x ps → Free e → NoClaim ps
free_of e x ps same h = subst Free same h

pub pushed_claims : (w : Known) (a : Kind) (at : ℕ) (t : Tree) (x : Val) (ps : List Pending) → pushable a ≡ true →
    read a at t ≡ good x ps → AllClaimed w ps
pushed_claims w a at t x ps e same = claimed w ps (free_of (read a at t) x ps same (read_free a e at t))
