-- Values that are tried part by part.
use Rattle.std.proofs.Common.{rules, ◌≡◌, ◌<◌, ◌+◌, ◌^◌, ℕ, Bool, true, false, cond, ◌&&◌, List, [], ◌∷◌, ◌++◌, take, drop, reverse, get_or, length, Some, None, refl, sym, ap, subst, ◌∙◌, arith}
use Rattle.std.specs.Prelude.{is_some, option_map}
use Rattle.std.specs.declared.option.Option.{Option}
use Rattle.std.specs.declared.cmp.Ordering.TheVariants.{Less}
use Rattle.std.specs.List.{AllByRecursion}
use Rattle.std.specs.List.Sorted.{IsStrictlySortedBy}
use Rattle.std.specs.Map.{keys_of}
use Rattle.std.specs.Ordering.{is_lt}
use Rattle.std.proofs.lemmas.List.{reverse-append, take_more, take-append-drop}
use Rattle.rules_text.specs.nodes.Tree.{Tree, int, str, bytes, prim, seq, size}
use Rattle.rules_data.specs.declared.types.Simple.{Simple}
use Rattle.rules_data.specs.types.Kind.{Kind}
use Rattle.rules_data.specs.types.Kind as k
use Rattle.rules_data.specs.values.Forms.{AllHave, AllEntriesHave}
use Rattle.rules_data.specs.values.Val.{Val, more_vals, Pairs}
use Rattle.rules_data.specs.values.Literals.{simple_value}
use Rattle.rules_code.specs.instructions.Context as place
use Rattle.rules_code.specs.instructions.Control.{call_kinds}
use Rattle.rules_code.specs.instructions.Same.{same_kinds}
use Rattle.rules_code.specs.typing.Bodies.{body_fault}
use Rattle.rules_code.specs.typing.Literals.{lambda_fault}
use Rattle.rules_code.specs.typing.Nodes.{tree_type}
use Rattle.rules_code.specs.typing.Typing.{Typing, goes, fails, bad}
use Rattle.rules_files.specs.snapshots.Rules.{all_entries, all_values, are_increasing, is_below_first, is_lambda, is_sequence, keys, leads}
use Rattle.rules_files.specs.snapshots.Spelt.{IsNode}
use Rattle.laws_data.proofs.binary_lemmas.ForCallers.{half_as_many}
use Rattle.mich_base.specs.TypeView.{kind}
use Rattle.mich_base.specs.declared.ty.Ty.{Ty, the_lemmas}
use Rattle.mich_base.specs.declared.ty.Ty.TheVariants as ty
use Rattle.mich_instr.specs.Body.{inside}
use Rattle.mich_term.specs.Keyed.{IsIncreasing, by}
use Rattle.mich_term.specs.View.{datum, datums}
use Rattle.mich_term.specs.ValueView.{big_pairs, pairs, put_first, put_pairs, val, vals}
use Rattle.mich_term.specs.declared.datum.Datum.{Datum}
use Rattle.mich_term.specs.declared.value.BigMap.{BigMap, out-BigMap}
use Rattle.mich_term.specs.declared.value.Value.{Value}
use Rattle.mich_term.proofs.ForCallers.{big_is}
use Rattle.mich_snapshot.specs.Leaves.{is_leaf, is_simple}

-- ---- tests one by one

both : (a b : Bool) → a ≡ true → b ≡ true → a && b ≡ true
both true b p q = q
both false b p q = p

first_fails : (a b : Bool) → a ≡ false → false ≡ a && b
first_fails true b p = absurd cc
first_fails false b p = refl

second_fails : (a b : Bool) → b ≡ false → a && b ≡ false
second_fails true b p = p
second_fails false b p = refl

-- ---- elements and keys in order

is_lower : (d : Datum) (ds : List Datum) → AllByRecursion (λ y. by d y ≡ Less) ds → is_below_first (datum d) (datums ds) ≡ true
is_lower d [] h = refl
is_lower d (e ∷ es) h = ap is_lt h.0

pub in_order : (ds : List Datum) → IsIncreasing ds → are_increasing (datums ds) ≡ true
unfolding IsStrictlySortedBy
in_order [] h = refl
in_order (d ∷ ds) h = both (is_below_first (datum d) (datums ds)) (are_increasing (datums ds)) (is_lower d ds h.0) (in_order ds h.1)

keys_are : (es : List (Datum × Value)) → keys (pairs es) ≡ datums (keys_of es)
keys_are [] = refl
keys_are (e ∷ es) = ap (more_vals (datum e.0)) (keys_are es)

pub keys_in_order : (es : List (Datum × Value)) → IsIncreasing (keys_of es) → are_increasing (keys (pairs es)) ≡ true
keys_in_order es h = ap are_increasing (keys_are es) ∙ in_order (keys_of es) h

puts_lower : (d : Datum) (cs : List (Datum × Option Value)) → AllByRecursion (λ y. by d y ≡ Less) (keys_of cs) → is_below_first (datum d) (keys (put_pairs cs)) ≡ true
puts_lower d [] h = refl
puts_lower d (c ∷ cs) h = at c.1 (puts_lower d cs h.1)
  where
    at : (o : Option Value) → is_below_first (datum d) (keys (put_pairs cs)) ≡ true → is_below_first (datum d) (keys (put_first c.0 (option_map val o) (put_pairs cs))) ≡ true
    at (Some x) rest = ap is_lt h.0
    at None rest = rest

pub puts_in_order : (cs : List (Datum × Option Value)) → IsIncreasing (keys_of cs) → are_increasing (keys (put_pairs cs)) ≡ true
unfolding IsStrictlySortedBy
puts_in_order [] h = refl
puts_in_order (c ∷ cs) h = at c.1 (puts_in_order cs h.1)
  where
    at : (o : Option Value) → are_increasing (keys (put_pairs cs)) ≡ true → are_increasing (keys (put_first c.0 (option_map val o) (put_pairs cs))) ≡ true
    at (Some x) rest = both (is_below_first (datum c.0) (keys (put_pairs cs))) (are_increasing (keys (put_pairs cs))) (puts_lower c.0 cs h.0) rest
    at None rest = rest

-- ---- lists, whose heads are last

-- what is known of one of the values
pub each_has : (P : Val → Type 0) (vs ws : List Value) (x : Value) → AllHave P (vals (vs ++ x ∷ ws)) → P (val x)
each_has P [] ws x h = h.0
each_has P (v ∷ vs) ws x h = each_has P vs ws x h.1

-- one that fails
pub one_fails : (test : Val → Bool) (vs ws : List Value) (x : Value) → test (val x) ≡ false → all_values test (vals (vs ++ x ∷ ws)) ≡ false
one_fails test [] ws x h = ap (λ (b : Bool). b && all_values test (vals ws)) h
one_fails test (v ∷ vs) ws x h = second_fails (test (val v)) (all_values test (vals (vs ++ x ∷ ws))) (one_fails test vs ws x h)

-- the values so far are those behind one
pub turned_more : (items : List Value) (i : ℕ) (x : Value) → i < length items → x ≡ get_or items i x → reverse (take (i + 1) items) ≡ x ∷ reverse (take i items)
turned_more items i x h e =
    ap reverse (take_more items i x h) ∙ reverse-append (take i items) (get_or items i x ∷ []) ∙ ap (λ (y : Value). y ∷ reverse (take i items)) (sym e)

pub turned_at : (items : List Value) (i : ℕ) (x : Value) → i < length items → x ≡ get_or items i x
    → reverse items ≡ reverse (drop (i + 1) items) ++ x ∷ reverse (take i items)
turned_at items i x h e =
    ap reverse (sym (take-append-drop (i + 1) items)) ∙ reverse-append (take (i + 1) items) (drop (i + 1) items)
    ∙ ap (λ (l : List Value). reverse (drop (i + 1) items) ++ l) (turned_more items i x h e)

pub item_has : (P : Val → Type 0) (values items : List Value) (i : ℕ) (x : Value) → reverse items ≡ values → i < length items → x ≡ get_or items i x
    → AllHave P (vals values) → P (val x)
item_has P values items i x t h e all =
    each_has P (reverse (drop (i + 1) items)) (reverse (take i items)) x (subst (λ (vs : List Value). AllHave P (vals vs)) (sym t ∙ turned_at items i x h e) all)

pub item_fails : (test : Val → Bool) (values items : List Value) (i : ℕ) (x : Value) → reverse items ≡ values → i < length items → x ≡ get_or items i x
    → test (val x) ≡ false → all_values test (vals values) ≡ false
item_fails test values items i x t h e f =
    ap (λ (vs : List Value). all_values test (vals vs)) (sym t ∙ turned_at items i x h e)
    ∙ one_fails test (reverse (drop (i + 1) items)) (reverse (take i items)) x f

pub item_holds : (test : Val → Bool) (items : List Value) (i : ℕ) (x : Value) → i < length items → x ≡ get_or items i x → test (val x) ≡ true
    → all_values test (vals (reverse (take i items))) ≡ true → all_values test (vals (reverse (take (i + 1) items))) ≡ true
item_holds test items i x h e holds so_far =
    ap (λ (vs : List Value). all_values test (vals vs)) (turned_more items i x h e) ∙ both (test (val x)) (all_values test (vals (reverse (take i items)))) holds so_far

-- ---- elements of sets, from the least on

pub elements_hold : (test : Val → Bool) (left ds : List Datum) → left ≡ [] → all_values test (datums left) ≡ all_values test (datums ds)
    → IsIncreasing ds → true ≡ all_values test (datums ds) && are_increasing (datums ds)
elements_hold test left ds e h o =
    sym (both (all_values test (datums ds)) (are_increasing (datums ds)) (sym h ∙ ap (λ (es : List Datum). all_values test (datums es)) e) (in_order ds o))

-- ---- entries of maps, from the least key on

entry_next : (p q r w : Bool) → p && q ≡ true → p && q && r ≡ w → r ≡ w
entry_next true true r w f h = h
entry_next true false r w f h = absurd cc
entry_next false q r w f h = absurd cc

entry_stops : (p q r w : Bool) → p && q ≡ false → p && q && r ≡ w → w ≡ false
entry_stops true true r w f h = absurd cc
entry_stops true false r w f h = sym h
entry_stops false q r w f h = sym h

pub kind_map : (a b : Ty) → kind (ty.Map a b) ≡ k.map (kind a) (kind b)
kind_map a b = search (rules, the_lemmas)

module _ (key part : Val → Bool) where
  pub entry_holds : (left rest : List (Datum × Value)) (d : Datum) (x : Value) (w : Bool) → left ≡ (d, x) ∷ rest → key (datum d) && part (val x) ≡ true
      → all_entries key part (pairs left) ≡ w → all_entries key part (pairs rest) ≡ w
  entry_holds left rest d x w e f h =
      entry_next (key (datum d)) (part (val x)) (all_entries key part (pairs rest)) w f (sym (ap (λ (es : List (Datum × Value)). all_entries key part (pairs es)) e) ∙ h)

  pub entry_fails : (left rest es : List (Datum × Value)) (d : Datum) (x : Value) → left ≡ (d, x) ∷ rest → key (datum d) && part (val x) ≡ false
      → all_entries key part (pairs left) ≡ all_entries key part (pairs es) → false ≡ all_entries key part (pairs es) && are_increasing (keys (pairs es))
  entry_fails left rest es d x e f h =
      first_fails (all_entries key part (pairs es)) (are_increasing (keys (pairs es)))
      (entry_stops (key (datum d)) (part (val x)) (all_entries key part (pairs rest)) (all_entries key part (pairs es)) f
      (sym (ap (λ (fs : List (Datum × Value)). all_entries key part (pairs fs)) e) ∙ h))

  pub entries_hold : (left es : List (Datum × Value)) → left ≡ [] → all_entries key part (pairs left) ≡ all_entries key part (pairs es)
      → IsIncreasing (keys_of es) → true ≡ all_entries key part (pairs es) && are_increasing (keys (pairs es))
  entries_hold left es e h o =
      sym (both (all_entries key part (pairs es)) (are_increasing (keys (pairs es)))
      (sym h ∙ ap (λ (fs : List (Datum × Value)). all_entries key part (pairs fs)) e) (keys_in_order es o))

  -- changes of a big map
  pub put_holds : (left rest : List (Datum × Option Value)) (d : Datum) (o : Option Value) (x : Value) (w : Bool) → left ≡ (d, o) ∷ rest → o ≡ Some x
      → key (datum d) && part (val x) ≡ true → all_entries key part (put_pairs left) ≡ w → all_entries key part (put_pairs rest) ≡ w
  put_holds left rest d o x w e p f h =
      entry_next (key (datum d)) (part (val x)) (all_entries key part (put_pairs rest)) w f
      (sym (ap (λ (cs : List (Datum × Option Value)). all_entries key part (put_pairs cs)) (e ∙ ap (λ (q : Option Value). (d, q) ∷ rest) p)) ∙ h)

  pub gone_holds : (left rest : List (Datum × Option Value)) (d : Datum) (o : Option Value) (w : Bool) → left ≡ (d, o) ∷ rest → o ≡ None
      → all_entries key part (put_pairs left) ≡ w → all_entries key part (put_pairs rest) ≡ w
  gone_holds left rest d o w e p h = sym (ap (λ (cs : List (Datum × Option Value)). all_entries key part (put_pairs cs)) (e ∙ ap (λ (q : Option Value). (d, q) ∷ rest) p)) ∙ h

  pub put_fails : (left rest cs : List (Datum × Option Value)) (d : Datum) (o : Option Value) (x : Value) → left ≡ (d, o) ∷ rest → o ≡ Some x
      → key (datum d) && part (val x) ≡ false → all_entries key part (put_pairs left) ≡ all_entries key part (put_pairs cs)
      → false ≡ all_entries key part (put_pairs cs) && are_increasing (keys (put_pairs cs))
  put_fails left rest cs d o x e p f h =
      first_fails (all_entries key part (put_pairs cs)) (are_increasing (keys (put_pairs cs)))
      (entry_stops (key (datum d)) (part (val x)) (all_entries key part (put_pairs rest)) (all_entries key part (put_pairs cs)) f
      (sym (ap (λ (ds : List (Datum × Option Value)). all_entries key part (put_pairs ds)) (e ∙ ap (λ (q : Option Value). (d, q) ∷ rest) p)) ∙ h))

  puts_hold : (left cs : List (Datum × Option Value)) → left ≡ [] → all_entries key part (put_pairs left) ≡ all_entries key part (put_pairs cs)
      → IsIncreasing (keys_of cs) → true ≡ all_entries key part (put_pairs cs) && are_increasing (keys (put_pairs cs))
  puts_hold left cs e h o =
      sym (both (all_entries key part (put_pairs cs)) (are_increasing (keys (put_pairs cs)))
      (sym h ∙ ap (λ (ds : List (Datum × Option Value)). all_entries key part (put_pairs ds)) e) (puts_in_order cs o))

  pub big_holds : (left : List (Datum × Option Value)) (b : BigMap) → left ≡ [] → all_entries key part (put_pairs left) ≡ all_entries key part (big_pairs b)
      → IsIncreasing (keys_of (out-BigMap b).overlay) → true ≡ all_entries key part (big_pairs b) && are_increasing (keys (big_pairs b))
  big_holds left b e h o =
      subst (λ (ps : Pairs). true ≡ all_entries key part ps && are_increasing (keys ps)) (sym (big_is b))
      (puts_hold left (out-BigMap b).overlay e (h ∙ ap (all_entries key part) (big_is b)) o)

-- what is known of an entry and of those behind it
module _ (P Q : Val → Type 0) where
  pub entry_has : (left rest : List (Datum × Value)) (d : Datum) (x : Value) → left ≡ (d, x) ∷ rest → AllEntriesHave P Q (pairs left)
      → Q (val x) × AllEntriesHave P Q (pairs rest)
  entry_has left rest d x e h = let all = subst (λ (es : List (Datum × Value)). AllEntriesHave P Q (pairs es)) e h in (all.1, all.2)

  pub put_has : (left rest : List (Datum × Option Value)) (d : Datum) (o : Option Value) (x : Value) → left ≡ (d, o) ∷ rest → o ≡ Some x
      → AllEntriesHave P Q (put_pairs left) → Q (val x) × AllEntriesHave P Q (put_pairs rest)
  put_has left rest d o x e p h =
      let all = subst (λ (cs : List (Datum × Option Value)). AllEntriesHave P Q (put_pairs cs)) (e ∙ ap (λ (q : Option Value). (d, q) ∷ rest) p) h in (all.1, all.2)

  pub gone_has : (left rest : List (Datum × Option Value)) (d : Datum) (o : Option Value) → left ≡ (d, o) ∷ rest → o ≡ None
      → AllEntriesHave P Q (put_pairs left) → AllEntriesHave P Q (put_pairs rest)
  gone_has left rest d o e p h = subst (λ (cs : List (Datum × Option Value)). AllEntriesHave P Q (put_pairs cs)) (e ∙ ap (λ (q : Option Value). (d, q) ∷ rest) p) h

-- ---- lambdas

pub sequence_is : (t : Tree) → is_sequence t ≡ true → t ≡ seq (inside t)
sequence_is (int n) h = absurd cc
sequence_is (str s) h = absurd cc
sequence_is (bytes b) h = absurd cc
sequence_is (prim name annots args) h = absurd cc
sequence_is (seq ts) h = refl

pub small_node : (t : Tree) → IsNode t → size t < 2 ^ 32
small_node t h = omega (arith, half_as_many t, h.0)

abbrev here : ℕ
here = 0

leads_well : (T : Typing) (r : Kind) → body_fault 0 T r ≡ None → leads T (r ∷ []) ≡ true
leads_well (goes B) r h = at (same_kinds B (r ∷ [])) h
  where
    at : (q : Bool) → cond q None (Some here) ≡ None → q ≡ true
    at true e = refl
    at false e = absurd cc
leads_well fails r h = refl
leads_well (bad l) r h = absurd cc

leads_ill : (T : Typing) (r : Kind) (l : ℕ) → body_fault 0 T r ≡ Some l → leads T (r ∷ []) ≡ false
leads_ill (goes B) r l h = at (same_kinds B (r ∷ [])) h
  where
    at : (q : Bool) → cond q None (Some here) ≡ Some l → q ≡ false
    at true e = absurd cc
    at false e = refl
leads_ill fails r l h = absurd cc
leads_ill (bad m) r l h = refl

pub no_sequence : (a r : Kind) (recursive : Bool) (t : Tree) → is_sequence t ≡ false → false ≡ is_lambda a r t recursive
no_sequence a r recursive t h = first_fails (is_sequence t) (leads (tree_type t place.lambda (call_kinds a r recursive)) (r ∷ [])) h

pub well_typed : (a r : Kind) (recursive : Bool) (t : Tree) → is_sequence t ≡ true → lambda_fault a r recursive t ≡ None → is_lambda a r t recursive ≡ true
well_typed a r recursive t s h =
    both (is_sequence t) (leads (tree_type t place.lambda (call_kinds a r recursive)) (r ∷ [])) s (leads_well (tree_type t place.lambda (call_kinds a r recursive)) r h)

pub ill_typed : (a r : Kind) (recursive : Bool) (t : Tree) (l : ℕ) → lambda_fault a r recursive t ≡ Some l → is_lambda a r t recursive ≡ false
ill_typed a r recursive t l h = second_fails (is_sequence t) (leads (tree_type t place.lambda (call_kinds a r recursive)) (r ∷ [])) (leads_ill (tree_type t place.lambda (call_kinds a r recursive)) r l h)

pub ruleset lambda_rules = (small_node, sequence_is, no_sequence, well_typed, ill_typed)

-- ---- literals

seen_or_none : (o : Option Value) (x : Option Val) → option_map val o ≡ x → is_some o ≡ is_some x
seen_or_none (Some v) x e = ap is_some e
seen_or_none None x e = ap is_some e

pub leaf_is : (a : Kind) (s : Simple) (t : Tree) (o : Option Value) → a ≡ k.simple s → option_map val o ≡ simple_value s t → is_some o ≡ is_leaf a t
leaf_is a s t o e f = seen_or_none o (simple_value s t) f ∙ ap (λ (b : Kind). is_leaf b t) (sym e)

pub no_leaf : (a : Kind) (t : Tree) → is_simple a ≡ false → false ≡ is_leaf a t
no_leaf (k.simple s) t h = absurd cc
no_leaf k.operation t h = refl
no_leaf (k.option a) t h = refl
no_leaf (k.or a b) t h = refl
no_leaf (k.pair a b) t h = refl
no_leaf (k.list a) t h = refl
no_leaf (k.set a) t h = refl
no_leaf (k.map a b) t h = refl
no_leaf (k.big_map a b) t h = refl
no_leaf (k.lambda a b) t h = refl
no_leaf (k.contract a) t h = refl
no_leaf (k.ticket a) t h = refl
