-- Values that are read again from their canonical literals.
use Rattle.std.proofs.Common.{◌≡◌, ℕ, ◌+◌, Bool, true, false, ◌&&◌, cond, Option, Some, None, List, [], ◌∷◌, ◌++◌, codes, refl, ap, ◌∙◌, ◌⊎◌, inl, inr}
use Rattle.std.specs.Ordering.{is_lt}
use Rattle.std.proofs.lemmas.Bool.{and_parts, and_from}
use Rattle.rules_text.specs.nodes.Tree.{Tree, seq, none, more, size}
use Rattle.rules_text.specs.nodes.Primitives.{primitive_of_name, code_of_name, primitive_of_code, primitive_names, primitives}
use Rattle.rules_data.specs.numbers.Limits.{is_int}
use Rattle.rules_data.specs.declared.types.Simple.{Simple}
use Rattle.rules_data.specs.declared.types.Simple.TheVariants as s
use Rattle.rules_data.specs.types.Kind.{Kind}
use Rattle.rules_data.specs.types.Kind as k
use Rattle.rules_data.specs.types.Attributes.{comparable}
use Rattle.rules_data.specs.values.Val.{Val, Vals, no_val, more_vals, Pairs, no_pair, more_pairs, is_comparable}
use Rattle.rules_data.specs.values.Val as v
use Rattle.rules_data.specs.values.Order.{order}
use Rattle.rules_data.specs.values.Tables.{AreAbove, AreIncreasing, AreKeysAbove, AreIncreasingKeys}
use Rattle.rules_data.specs.values.Tickets.{Held, tickets, all_tickets, pair_tickets}
use Rattle.rules_data.specs.forms.Spelling.{is_key_hash, is_key, is_signature, is_chain_id, is_address}
use Rattle.rules_data.specs.values.Literals.{unit_word, true_word, false_word, none_word, some_word, left_word, right_word, pair_word, entry_word, recursive_word, word_of_name, Pending, claim, Literal, good, bad, with_pending, and_then, mapped, Reader, tested, on_value, unit_of_word, truth_of_word, simple_value, option_named, or_named, read_parts, pair_named, read_elements, is_behind, read_increasing, Entry, entry_named, read_entry, read_entries, recursive_named, read, read_rest, is_nat, is_amount, is_text, is_short}
use Rattle.rules_data.specs.values.Canonical.{canonical, canonicals, canonical_entries, lambda_node, over_two}
use Rattle.rules_data.specs.values.Forms.{HasForm, has_simple_form, AllHave, AllEntriesHave, IsSequence}
use Rattle.laws_data.specs.types.Laws.{IsWellFormed}
use Rattle.laws_data.specs.values.Laws.{HoldsNoOperation, HoldNoOperation, EntriesHoldNoOperation, Gives, ReadAgain}

unit_name : word_of_name (codes "Unit") ≡ unit_word
unfolding word_of_name primitive_of_name code_of_name primitive_of_code primitive_names primitives
unit_name = refl

true_name : word_of_name (codes "True") ≡ true_word
unfolding word_of_name primitive_of_name code_of_name primitive_of_code primitive_names primitives
true_name = refl

false_name : word_of_name (codes "False") ≡ false_word
unfolding word_of_name primitive_of_name code_of_name primitive_of_code primitive_names primitives
false_name = refl

none_name : word_of_name (codes "None") ≡ none_word
unfolding word_of_name primitive_of_name code_of_name primitive_of_code primitive_names primitives
none_name = refl

some_name : word_of_name (codes "Some") ≡ some_word
unfolding word_of_name primitive_of_name code_of_name primitive_of_code primitive_names primitives
some_name = refl

left_name : word_of_name (codes "Left") ≡ left_word
unfolding word_of_name primitive_of_name code_of_name primitive_of_code primitive_names primitives
left_name = refl

right_name : word_of_name (codes "Right") ≡ right_word
unfolding word_of_name primitive_of_name code_of_name primitive_of_code primitive_names primitives
right_name = refl

pair_name : word_of_name (codes "Pair") ≡ pair_word
unfolding word_of_name primitive_of_name code_of_name primitive_of_code primitive_names primitives
pair_name = refl

entry_name : word_of_name (codes "Elt") ≡ entry_word
unfolding word_of_name primitive_of_name code_of_name primitive_of_code primitive_names primitives
entry_name = refl

recursive_name : word_of_name (codes "Lambda_rec") ≡ recursive_word
unfolding word_of_name primitive_of_name code_of_name primitive_of_code primitive_names primitives
recursive_name = refl

-- this value is read, whatever is still to be tried of it
abbrev Reads : {A : Type 0} → Literal A → A → Type 0
Reads e x = (ps : List Pending) × (e ≡ good x ps)

gives : (e : Literal Val) (x : Val) → Reads e x → Gives e x
gives (good y ps) x h = cc
gives (bad l) x h = absurd cc

-- ---- parts

reads_mapped : {A B : Type 0} (f : A → B) (e : Literal A) (x : A) → Reads e x → Reads (mapped f e) (f x)
reads_mapped f e x h = (h.0, ap (mapped f) h.1)

reads_then : {A B : Type 0} (e : Literal A) (x : A) (next : A → Literal B) (y : B) → Reads e x → Reads (next x) y → Reads (and_then e next) y
reads_then e x next y h i = (h.0 ++ i.0, ap (λ r. and_then r next) h.1 ∙ ap (with_pending h.0) i.1)

reads_at : {A : Type 0} (e r : Literal A) (x : A) → e ≡ r → Reads r x → Reads e x
reads_at e r x same h = (h.0, same ∙ h.1)

reads_if : {A : Type 0} (b : Bool) (e r : Literal A) (x : A) → b ≡ true → Reads e x → Reads (cond b e r) x
reads_if true e r x h i = i
reads_if false e r x h i = absurd cc

-- ---- types without arguments

tested_is : (b : Bool) (x : Val) → b ≡ true → tested b x ≡ Some x
tested_is true x h = refl
tested_is false x h = absurd cc

truth_again : (b : Bool) → simple_value s.Bool (canonical (v.truth b)) ≡ Some (v.truth b)
truth_again true = ap truth_of_word true_name
truth_again false = ap truth_of_word false_name

simple_again : (t : Simple) (x : Val) → has_simple_form t x ≡ true → simple_value t (canonical x) ≡ Some x
simple_again s.Unit v.unit h = ap unit_of_word unit_name
simple_again s.Bool (v.truth b) h = truth_again b
simple_again s.Int (v.number n) h = tested_is (is_int n) (v.number n) h
simple_again s.Timestamp (v.number n) h = tested_is (is_int n) (v.number n) h
simple_again s.Nat (v.number n) h = tested_is (is_nat n) (v.number n) h
simple_again s.Mutez (v.number n) h = tested_is (is_amount n) (v.number n) h
simple_again s.String (v.text b) h = tested_is (is_text b) (v.text b) h
simple_again s.Bytes (v.bytes b) h = tested_is (is_short b) (v.bytes b) h
simple_again s.KeyHash (v.bytes b) h = tested_is (is_key_hash b) (v.bytes b) h
simple_again s.Key (v.bytes b) h = tested_is (is_key b) (v.bytes b) h
simple_again s.Signature (v.bytes b) h = tested_is (is_signature b) (v.bytes b) h
simple_again s.ChainId (v.bytes b) h = tested_is (is_chain_id b) (v.bytes b) h
simple_again s.Address (v.bytes b) h = tested_is (is_address b) (v.bytes b) h
simple_again t x h = absurd cc

-- ---- comparable values

simple_comparable : (t : Simple) (x : Val) → has_simple_form t x ≡ true → is_comparable x ≡ true
simple_comparable s.Unit v.unit h = refl
simple_comparable s.Bool (v.truth b) h = refl
simple_comparable s.Int (v.number n) h = refl
simple_comparable s.Timestamp (v.number n) h = refl
simple_comparable s.Nat (v.number n) h = refl
simple_comparable s.Mutez (v.number n) h = refl
simple_comparable s.String (v.text b) h = refl
simple_comparable s.Bytes (v.bytes b) h = refl
simple_comparable s.KeyHash (v.bytes b) h = refl
simple_comparable s.Key (v.bytes b) h = refl
simple_comparable s.Signature (v.bytes b) h = refl
simple_comparable s.ChainId (v.bytes b) h = refl
simple_comparable s.Address (v.bytes b) h = refl
simple_comparable t x h = absurd cc

comparable_value : (a : Kind) (x : Val) → comparable a ≡ true → HasForm a x → is_comparable x ≡ true
comparable_value (k.simple t) x e h = simple_comparable t x h
comparable_value (k.option a) v.nothing e h = refl
comparable_value (k.option a) (v.some x) e h = comparable_value a x e h
comparable_value (k.or a b) (v.left x) e h = comparable_value a x (and_parts (comparable a) (comparable b) e).0 h
comparable_value (k.or a b) (v.right x) e h = comparable_value b x (and_parts (comparable a) (comparable b) e).1 h
comparable_value (k.pair a b) (v.both x y) e h =
    let f = and_parts (comparable a) (comparable b) e in
    and_from (is_comparable x) (is_comparable y) (comparable_value a x f.0 h.0) (comparable_value b y f.1 h.1)
comparable_value (k.list a) x e h = absurd cc
comparable_value (k.set a) x e h = absurd cc
comparable_value (k.map a b) x e h = absurd cc
comparable_value (k.big_map a b) x e h = absurd cc
comparable_value (k.lambda a b) x e h = absurd cc
comparable_value (k.contract a) x e h = absurd cc
comparable_value k.operation x e h = absurd cc
comparable_value (k.ticket a) x e h = absurd cc
comparable_value a x e h = absurd h

-- ---- lists, sets and maps

-- what holds neither ticket nor operation
abbrev IsBare : Val → Type 0
IsBare x = (tickets x ≡ []) × HoldsNoOperation x

append_empty : (xs ys : List Held) → xs ++ ys ≡ [] → (xs ≡ []) × (ys ≡ [])
append_empty [] ys e = (refl, e)
append_empty (x ∷ xs) ys e = absurd cc

elements_again : (r : Reader) (P : Val → Type 0) → ((x : Val) → P x → IsBare x → (at : ℕ) → Reads (r at (canonical x)) x) →
    (xs : Vals) → AllHave P xs → all_tickets xs ≡ [] → HoldNoOperation xs → (at : ℕ) → Reads (read_elements r at (canonicals xs)) xs
elements_again r P f no_val h n o at = ([], refl)
elements_again r P f (more_vals x xs) h n o at =
    let m = append_empty (tickets x) (all_tickets xs) n in
    let next : ℕ = at + size (canonical x) in
    reads_then (r at (canonical x)) x (λ y. mapped (more_vals y) (read_elements r next (canonicals xs))) (more_vals x xs)
    (f x h.0 (m.0, o.0) at)
    (reads_mapped (more_vals x) (read_elements r next (canonicals xs)) xs (elements_again r P f xs h.1 m.1 o.1 next))

abbrev AreBehind : Option Val → Vals → Type 0
AreBehind None xs = Unit {0}
AreBehind (Some y) xs = AreAbove y xs

is_behind_first : (before : Option Val) (x : Val) (xs : Vals) → AreBehind before (more_vals x xs) → is_comparable x ≡ true → is_behind before x ≡ true
is_behind_first None x xs h e = e
is_behind_first (Some y) x xs h e = and_from (is_comparable x) (is_lt (order y x)) e (ap is_lt h.0)

increasing_again : (r : Reader) (P : Val → Type 0) → ((x : Val) → P x → (at : ℕ) → Reads (r at (canonical x)) x) → ((x : Val) → P x → is_comparable x ≡ true) →
    (xs : Vals) (before : Option Val) → AllHave P xs → AreBehind before xs → AreIncreasing xs → (at : ℕ) → Reads (read_increasing r before at (canonicals xs)) xs
increasing_again r P f g no_val before h b i at = ([], refl)
increasing_again r P f g (more_vals x xs) before h b i at =
    let next : ℕ = at + size (canonical x) in
    reads_then (r at (canonical x)) x
    (λ y. cond (is_behind before y) (mapped (more_vals y) (read_increasing r (Some y) next (canonicals xs))) (bad at)) (more_vals x xs)
    (f x h.0 at)
    (reads_if (is_behind before x) _ (bad at) (more_vals x xs) (is_behind_first before x xs b (g x h.0))
    (reads_mapped (more_vals x) (read_increasing r (Some x) next (canonicals xs)) xs (increasing_again r P f g xs (Some x) h.1 i.0 i.1 next)))

abbrev KeysAreBehind : Option Val → Pairs → Type 0
KeysAreBehind None es = Unit {0}
KeysAreBehind (Some y) es = AreKeysAbove y es

is_key_behind : (before : Option Val) (x y : Val) (es : Pairs) → KeysAreBehind before (more_pairs x y es) → is_comparable x ≡ true → is_behind before x ≡ true
is_key_behind None x y es h e = e
is_key_behind (Some z) x y es h e = and_from (is_comparable x) (is_lt (order z x)) e (ap is_lt h.0)

entry_again : (r q : Reader) (before : Option Val) (x y : Val) (at : ℕ) → Reads (r (at + 1) (canonical x)) x →
    Reads (q (at + 1 + size (canonical x)) (canonical y)) y → is_behind before x ≡ true →
    Reads (read_entry r q before at (over_two (codes "Elt") (canonical x) (canonical y))) (record { key = x; value = y })
entry_again r q before x y at f g b =
    let last : Val → Literal Entry = λ z. mapped (λ u. record { key = z; value = u }) (q (at + 1 + size (canonical x)) (canonical y)) in
    reads_at _ (and_then (r (at + 1) (canonical x)) (λ z. cond (is_behind before z) (last z) (bad at))) (record { key = x; value = y })
    (ap (λ u. entry_named u r q before at (more (canonical x) (more (canonical y) none))) entry_name)
    (reads_then (r (at + 1) (canonical x)) x (λ z. cond (is_behind before z) (last z) (bad at)) (record { key = x; value = y })
    f
    (reads_if (is_behind before x) (last x) (bad at) (record { key = x; value = y }) b
    (reads_mapped (λ u. record { key = x; value = u }) (q (at + 1 + size (canonical x)) (canonical y)) y g)))

entries_again : (r q : Reader) (P Q : Val → Type 0) → ((x : Val) → P x → (at : ℕ) → Reads (r at (canonical x)) x) → ((x : Val) → P x → is_comparable x ≡ true) →
    ((y : Val) → Q y → IsBare y → (at : ℕ) → Reads (q at (canonical y)) y) →
    (es : Pairs) (before : Option Val) → AllEntriesHave P Q es → KeysAreBehind before es → AreIncreasingKeys es →
    pair_tickets es ≡ [] → EntriesHoldNoOperation es → (at : ℕ) → Reads (read_entries r q before at (canonical_entries es)) es
entries_again r q P Q f g i no_pair before h b j n o at = ([], refl)
entries_again r q P Q f g i (more_pairs x y es) before h b j n o at =
    let t : Tree = over_two (codes "Elt") (canonical x) (canonical y) in
    let m = append_empty (tickets y) (pair_tickets es) n in
    reads_then (read_entry r q before at t) (record { key = x; value = y })
    (λ e. mapped (more_pairs e.key e.value) (read_entries r q (Some e.key) (at + size t) (canonical_entries es))) (more_pairs x y es)
    (entry_again r q before x y at (f x h.0 (at + 1)) (i y h.1 (m.0, o.1) (at + 1 + size (canonical x))) (is_key_behind before x y es b (g x h.0)))
    (reads_mapped (more_pairs x y) (read_entries r q (Some x) (at + size t) (canonical_entries es)) es
    (entries_again r q P Q f g i es (Some x) h.2 j.0 j.1 m.1 o.2 (at + size t)))

-- ---- lambdas and contracts

lambda_again : (a b : Kind) (t : Tree) (recursive : Bool) → IsSequence t → (at : ℕ) → Reads (read (k.lambda a b) at (lambda_node t recursive)) (v.lambda t recursive)
lambda_again a b (seq ts) true h at = reads_at _ _ (v.lambda (seq ts) true) (ap (λ u. recursive_named u a b at (more (seq ts) none)) recursive_name) (_, refl)
lambda_again a b (seq ts) false h at = (_, refl)
lambda_again a b t recursive h at = absurd h

-- ---- all types

-- neither ticket nor operation is in a value, be it for its type's sake
abbrev IsPlain : Kind → Val → Type 0
IsPlain a x = (comparable a ≡ true) ⊎ IsBare x

left_plain : (a b : Kind) (x : Val) → ((comparable a && comparable b) ≡ true) ⊎ IsBare x → IsPlain a x
left_plain a b x (inl e) = inl (and_parts (comparable a) (comparable b) e).0
left_plain a b x (inr q) = inr q

right_plain : (a b : Kind) (y : Val) → ((comparable a && comparable b) ≡ true) ⊎ IsBare y → IsPlain b y
right_plain a b y (inl e) = inl (and_parts (comparable a) (comparable b) e).1
right_plain a b y (inr q) = inr q

both_plain : (a b : Kind) (x y : Val) → IsPlain (k.pair a b) (v.both x y) → IsPlain a x × IsPlain b y
both_plain a b x y (inl e) = let f = and_parts (comparable a) (comparable b) e in (inl f.0, inl f.1)
both_plain a b x y (inr q) = let m = append_empty (tickets x) (tickets y) q.0 in (inr (m.0, q.1.0), inr (m.1, q.1.1))

bare : (x : Val) → (false ≡ true) ⊎ IsBare x → IsBare x
bare x (inl e) = absurd cc
bare x (inr q) = q

again_at : (a : Kind) → IsWellFormed a → (x : Val) → HasForm a x → IsPlain a x → (at : ℕ) → Reads (read a at (canonical x)) x
again_at (k.simple t) w x h p at = ([], ap (on_value at) (simple_again t x h))
again_at k.operation w (v.operation n) h p at = absurd (bare (v.operation n) p).1
again_at (k.option a) w v.nothing h p at = ([], ap (λ u. option_named u (read a) at none) none_name)
again_at (k.option a) w (v.some x) h p at =
    reads_at _ _ (v.some x) (ap (λ u. option_named u (read a) at (more (canonical x) none)) some_name)
    (reads_mapped v.some (read a (at + 1) (canonical x)) x (again_at a w x h p (at + 1)))
again_at (k.or a b) w (v.left x) h p at =
    reads_at _ _ (v.left x) (ap (λ u. or_named u (read a) (read b) at (more (canonical x) none)) left_name)
    (reads_mapped v.left (read a (at + 1) (canonical x)) x (again_at a w.0 x h (left_plain a b x p) (at + 1)))
again_at (k.or a b) w (v.right x) h p at =
    reads_at _ _ (v.right x) (ap (λ u. or_named u (read a) (read b) at (more (canonical x) none)) right_name)
    (reads_mapped v.right (read b (at + 1) (canonical x)) x (again_at b w.1 x h (right_plain a b x p) (at + 1)))
again_at (k.pair a b) w (v.both x y) h p at =
    let q = both_plain a b x y p in
    let next : ℕ = at + 1 + size (canonical x) in
    reads_at _ _ (v.both x y) (ap (λ u. read_parts (read a) (read b) (read_rest b at) at (at + 1) (pair_named u (more (canonical x) (more (canonical y) none)))) pair_name)
    (reads_then (read a (at + 1) (canonical x)) x (λ z. mapped (v.both z) (read b next (canonical y))) (v.both x y)
    (again_at a w.0 x h.0 q.0 (at + 1))
    (reads_mapped (v.both x) (read b next (canonical y)) y (again_at b w.1 y h.1 q.1 next)))
again_at (k.list a) w (v.list xs) h p at =
    let q = bare (v.list xs) p in
    reads_mapped v.list (read_elements (read a) (at + 1) (canonicals xs)) xs
    (elements_again (read a) (HasForm a) (λ x i j l. again_at a w x i (inr j) l) xs h q.0 q.1 (at + 1))
again_at (k.set a) w (v.set xs) h p at =
    reads_mapped v.set (read_increasing (read a) None (at + 1) (canonicals xs)) xs
    (increasing_again (read a) (HasForm a) (λ x i l. again_at a w.1 x i (inl w.0) l) (λ x i. comparable_value a x w.0 i) xs None h.0 tt h.1 (at + 1))
again_at (k.map a b) w (v.table es) h p at =
    let q = bare (v.table es) p in
    reads_mapped v.table (read_entries (read a) (read b) None (at + 1) (canonical_entries es)) es
    (entries_again (read a) (read b) (HasForm a) (HasForm b) (λ x i l. again_at a w.1 x i (inl w.0) l) (λ x i. comparable_value a x w.0 i)
    (λ y i j l. again_at b w.2 y i (inr j) l) es None h.0 tt h.1 q.0 q.1 (at + 1))
again_at (k.big_map a b) w (v.big_table es) h p at =
    let q = bare (v.big_table es) p in
    reads_mapped v.big_table (read_entries (read a) (read b) None (at + 1) (canonical_entries es)) es
    (entries_again (read a) (read b) (HasForm a) (HasForm b) (λ x i l. again_at a w.2 x i (inl w.0) l) (λ x i. comparable_value a x w.0 i)
    (λ y i j l. again_at b w.3 y i (inr j) l) es None h.0 tt h.1 q.0 q.1 (at + 1))
again_at (k.lambda a b) w (v.lambda t recursive) h p at = lambda_again a b t recursive h.0 at
again_at (k.contract a) w (v.bytes b) h p at = reads_if (is_address b) (good (v.bytes b) (claim at b a ∷ [])) (bad at) (v.bytes b) h (_, refl)
again_at (k.ticket a) w (v.ticket issuer kind content amount) h p at = let q = (bare (v.ticket issuer kind content amount) p).0 in absurd cc
again_at a w x h p at = absurd h

pub again : ReadAgain
again a x at w h n o = gives (read a at (canonical x)) x (again_at a w x h (inr (n, o)) at)
