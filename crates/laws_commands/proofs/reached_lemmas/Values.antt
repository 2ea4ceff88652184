-- A value that fits a type that can be stored passes the test on stored values and has a spelling.
use Rattle.std.proofs.Common.{◌≡◌, ◌≤◌, ◌<◌, ◌^◌, ◌∙◌, ℕ, Bool, true, false, ◌&&◌, nat_le, List, [], ◌∷◌, ◌++◌, length, refl, ap, arith}
use Rattle.std.specs.Prelude.{ℤ, pos, negsuc, FitsSigned}
use Rattle.std.specs.Int.{w128}
use Rattle.std.specs.List.{list_all, AllByRecursion}
use Rattle.std.specs.Ordering.{is_lt}
use Rattle.std.proofs.lemmas.Bool.{and_parts, leb-true, and_from}
use Rattle.std.proofs.lemmas.Int.{ints}
use Rattle.rules_text.specs.nodes.Limits.{byte_limit}
use Rattle.rules_text.specs.nodes.Tree.{Tree, int, str, bytes, prim, seq}
use Rattle.rules_data.specs.declared.types.Simple.{Simple}
use Rattle.rules_data.specs.declared.types.Simple.TheVariants as s
use Rattle.rules_data.specs.types.Kind.{Kind}
use Rattle.rules_data.specs.types.Kind as k
use Rattle.rules_data.specs.types.Attributes.{comparable, storable}
use Rattle.rules_data.specs.numbers.Limits.{is_int}
use Rattle.rules_data.specs.values.Val.{Val, Vals, no_val, more_vals, Pairs, no_pair, more_pairs}
use Rattle.rules_data.specs.values.Val as v
use Rattle.rules_data.specs.values.Forms.{has_simple_form, AllHave, AllEntriesHave, IsSequence, is_ticket_amount}
use Rattle.rules_data.specs.values.Literals.{is_text_byte, is_text, is_nat, is_amount}
use Rattle.rules_data.specs.values.Tables.{AreAbove, AreIncreasing, AreKeysAbove, AreIncreasingKeys}
use Rattle.rules_data.specs.values.Tickets.{Held, tickets, all_tickets, pair_tickets}
use Rattle.rules_code.specs.instructions.Context as place
use Rattle.rules_code.specs.instructions.Control.{call_kinds}
use Rattle.rules_code.specs.instructions.Same.{same_kind, same_kinds}
use Rattle.rules_code.specs.typing.Typing.{Typing, goes, fails, bad}
use Rattle.rules_code.specs.typing.Nodes.{tree_type}
use Rattle.rules_code.specs.typing.Fits.{Leads, Known, Fits}
use Rattle.rules_files.specs.snapshots.Loading.{bodies, all_bodies, entry_bodies, is_long}
use Rattle.rules_files.specs.snapshots.Reading.{snapshot_limit}
use Rattle.rules_files.specs.snapshots.Spelling.{eight, mark, count_vals, count_pairs, value_spelling, value_spellings, entry_spellings}
use Rattle.rules_files.specs.snapshots.Spelt.{IsShort, IsIssuer, HasSimpleSpelling, HasSpelling}
use Rattle.rules_files.specs.snapshots.Rules.{all_values, all_entries, is_below_first, are_increasing, keys, is_sequence, leads, is_stored}
use Rattle.laws_data.specs.types.Laws.{IsWellFormed}
use Rattle.laws_data.proofs.types_lemmas.ForCallers.{same_kind_refl, same_kind_true, same_kinds_refl}
use Rattle.mich_text.specs.Written.{CanBeWritten}
use Rattle.laws_commands.specs.written.Written.{HasForm, IsWritten, AreWritten, EntriesAreWritten}
use Rattle.laws_commands.specs.reached.Kept.{CanBeCounted, AllCanBeCounted, EntriesCanBeCounted}
use Rattle.laws_commands.proofs.written_lemmas.values.Levels.{text_form}
use Rattle.laws_commands.proofs.reached_lemmas.Counts.{few_vals, few_pairs, front_within, back_within}
use Rattle.laws_commands.proofs.reached_lemmas.ScriptCodes.{lambda_codes}
use Rattle.laws_commands.proofs.reached_lemmas.Trees.{node_is}
use Rattle.laws_commands.proofs.written_lemmas.evaluation.Minted.{compared_stored}
use Rattle.laws_commands.proofs.written_lemmas.values.Fitting.{hash_short, key_short, length_short, address_short}
use Rattle.laws_commands.proofs.common.Lists.{all_first, all_second}

-- ---- lengths

short : (b : List ℕ) → length b ≤ byte_limit → IsShort b
short b h = omega (arith, h)

within_limit : (n : ℕ) → nat_le n byte_limit ≡ true → n < 2 ^ 32
within_limit n h = let le = leb-true n byte_limit h in omega (arith, le)

text_short : (b : List ℕ) → is_text b ≡ true → IsShort b
text_short b h = within_limit (length b) (and_parts (nat_le (length b) byte_limit) (list_all is_text_byte b) h).0

-- ---- numbers

int_fits : (n : ℤ) → is_int n ≡ true → FitsSigned w128 n
int_fits (pos n) h = grind (arith, ints)
int_fits (negsuc n) h = grind (arith, ints)

nat_fits : (n : ℤ) → is_nat n ≡ true → FitsSigned w128 n
nat_fits (pos n) h = grind (arith, ints)
nat_fits (negsuc n) h = grind (arith, ints)

amount_fits : (n : ℤ) → is_amount n ≡ true → FitsSigned w128 n
amount_fits (pos n) h = grind (arith, ints)
amount_fits (negsuc n) h = grind (arith, ints)

pub ticket_fits : (n : ℤ) → is_ticket_amount n ≡ true → FitsSigned w128 n
ticket_fits (pos n) h = grind (arith, ints)
ticket_fits (negsuc n) h = grind (arith, ints)

-- ---- types without parts

simple_spelt : (u : Simple) (x : Val) → has_simple_form u x ≡ true → HasSimpleSpelling u x
simple_spelt s.Unit v.unit h = tt
simple_spelt s.Bool (v.truth b) h = tt
simple_spelt s.Int (v.number n) h = int_fits n h
simple_spelt s.Timestamp (v.number n) h = int_fits n h
simple_spelt s.Nat (v.number n) h = nat_fits n h
simple_spelt s.Mutez (v.number n) h = amount_fits n h
simple_spelt s.String (v.text b) h = text_short b h
simple_spelt s.Bytes (v.bytes b) h = within_limit (length b) h
simple_spelt s.KeyHash (v.bytes b) h = short b (hash_short b h)
simple_spelt s.Key (v.bytes b) h = short b (key_short b h)
simple_spelt s.Signature (v.bytes b) h = short b (length_short b 64 (omega arith) h)
simple_spelt s.ChainId (v.bytes b) h = short b (length_short b 4 (omega arith) h)
simple_spelt s.Address (v.bytes b) h = short b (address_short b h)
simple_spelt u x h = absurd cc

-- ---- types that can be compared

-- a value of a type that can be compared has a spelling where it passes the test
pub compared_spelt : (a : Kind) (x : Val) → comparable a ≡ true → is_stored a x ≡ true → HasSpelling a x
compared_spelt (k.simple u) x c h = simple_spelt u x h
compared_spelt (k.option a) v.nothing c h = tt
compared_spelt (k.option a) (v.some x) c h = compared_spelt a x c h
compared_spelt (k.or a b) (v.left x) c h = compared_spelt a x (and_parts (comparable a) (comparable b) c).0 h
compared_spelt (k.or a b) (v.right x) c h = compared_spelt b x (and_parts (comparable a) (comparable b) c).1 h
compared_spelt (k.pair a b) (v.both x y) c h =
    let cs = and_parts (comparable a) (comparable b) c in
    let hs = and_parts (is_stored a x) (is_stored b y) h in
    (compared_spelt a x cs.0 hs.0, compared_spelt b y cs.1 hs.1)
compared_spelt a x c h = absurd cc

-- ---- order

first_below : (x : Val) (xs : Vals) → AreAbove x xs → is_below_first x xs ≡ true
first_below x no_val h = refl
first_below x (more_vals y ys) h = ap is_lt h.0

increasing : (xs : Vals) → AreIncreasing xs → are_increasing xs ≡ true
increasing no_val h = refl
increasing (more_vals x xs) h = and_from (is_below_first x xs) (are_increasing xs) (first_below x xs h.0) (increasing xs h.1)

keys_above : (x : Val) (es : Pairs) → AreKeysAbove x es → AreAbove x (keys es)
keys_above x no_pair h = tt
keys_above x (more_pairs y z es) h = (h.0, keys_above x es h.1)

keys_increase : (es : Pairs) → AreIncreasingKeys es → AreIncreasing (keys es)
keys_increase no_pair h = tt
keys_increase (more_pairs x y es) h = (keys_above x es h.0, keys_increase es h.1)

-- ---- lambdas

sequence : (t : Tree) → IsSequence t → is_sequence t ≡ true
sequence (seq ts) h = refl
sequence (int n) h = absurd h
sequence (str n) h = absurd h
sequence (bytes b) h = absurd h
sequence (prim name annots ts) h = absurd h

leads_to : (t : Typing) (C : List Kind) → Leads t C → leads t C ≡ true
leads_to (goes B) C h = ap (λ (D : List Kind). same_kinds D C) h ∙ same_kinds_refl C
leads_to fails C h = refl
leads_to (bad l) C h = absurd h

-- ---- items

all_tested : (P : Val → Type 0) (test : Val → Bool) → ((x : Val) → P x → test x ≡ true) → (xs : Vals) → AllHave P xs → all_values test xs ≡ true
all_tested P test each no_val h = refl
all_tested P test each (more_vals x xs) h = and_from (test x) (all_values test xs) (each x h.0) (all_tested P test each xs h.1)

entries_tested : (P Q : Val → Type 0) (key value : Val → Bool) → ((x : Val) → P x → key x ≡ true) → ((y : Val) → Q y → value y ≡ true) →
    (es : Pairs) → AllEntriesHave P Q es → all_entries key value es ≡ true
entries_tested P Q key value each_key each_value no_pair h = refl
entries_tested P Q key value each_key each_value (more_pairs x y es) h =
    and_from (key x && value y) (all_entries key value es) (and_from (key x) (value y) (each_key x h.0) (each_value y h.1))
    (entries_tested P Q key value each_key each_value es h.2)

-- ---- the test

module _ (w : Known) where
  pub stored : (a : Kind) (x : Val) → storable a ≡ true → IsWellFormed a → Fits w a x → is_stored a x ≡ true
  stored (k.simple u) x t f h = h
  stored (k.option a) v.nothing t f h = refl
  stored (k.option a) (v.some x) t f h = stored a x t f h
  stored (k.or a b) (v.left x) t f h = stored a x (and_parts (storable a) (storable b) t).0 f.0 h
  stored (k.or a b) (v.right x) t f h = stored b x (and_parts (storable a) (storable b) t).1 f.1 h
  stored (k.pair a b) (v.both x y) t f h =
      let ts = and_parts (storable a) (storable b) t in
      and_from (is_stored a x) (is_stored b y) (stored a x ts.0 f.0 h.0) (stored b y ts.1 f.1 h.1)
  stored (k.list a) (v.list xs) t f h = all_tested (Fits w a) (is_stored a) (λ x i. stored a x t f i) xs h
  stored (k.set a) (v.set xs) t f h =
      and_from (all_values (is_stored a) xs) (are_increasing xs) (all_tested (Fits w a) (is_stored a) (λ x i. compared_stored w a x f.0 i) xs h.0)
      (increasing xs h.1)
  stored (k.map a b) (v.table es) t f h =
      let ts = and_parts (storable a) (storable b) t in
      and_from (all_entries (is_stored a) (is_stored b) es) (are_increasing (keys es))
      (entries_tested (Fits w a) (Fits w b) (is_stored a) (is_stored b) (λ x i. compared_stored w a x f.0 i) (λ y i. stored b y ts.1 f.2 i) es h.0)
      (increasing (keys es) (keys_increase es h.1))
  stored (k.big_map a b) (v.big_table es) t f h =
      let ts = and_parts (storable a) (storable b) t in
      and_from (all_entries (is_stored a) (is_stored b) es) (are_increasing (keys es))
      (entries_tested (Fits w a) (Fits w b) (is_stored a) (is_stored b) (λ x i. compared_stored w a x f.0 i) (λ y i. stored b y ts.1 f.3 i) es h.0)
      (increasing (keys es) (keys_increase es h.1))
  stored (k.lambda a b) (v.lambda t recursive) s f h =
      and_from (is_sequence t) (leads (tree_type t place.lambda (call_kinds a b recursive)) (b ∷ [])) (sequence t h.0)
      (leads_to (tree_type t place.lambda (call_kinds a b recursive)) (b ∷ []) h.2)
  stored (k.ticket a) (v.ticket issuer kind content amount) t f h =
      and_from (same_kind kind a && is_stored a content) (is_ticket_amount amount)
      (and_from (same_kind kind a) (is_stored a content) (ap (λ (b : Kind). same_kind b a) h.0 ∙ same_kind_refl a) (compared_stored w a content f.0 h.1)) h.2
  stored (k.contract a) x t f h = absurd cc
  stored k.operation x t f h = absurd cc
  stored a x t f h = absurd h

-- ---- the spelling

abbrev pub AreShort : Val → Type 0
AreShort x = AllByRecursion (λ t. is_long t ≡ false) (bodies x)

abbrev pub HaveIssuers : Val → Type 0
HaveIssuers x = AllByRecursion (λ (t : Held). IsIssuer t.issuer) (tickets x)

compared_all : (a : Kind) → comparable a ≡ true → (xs : Vals) → all_values (is_stored a) xs ≡ true → AllHave (HasSpelling a) xs
compared_all a c no_val h = tt
compared_all a c (more_vals x xs) h =
    let hs = and_parts (is_stored a x) (all_values (is_stored a) xs) h in
    (compared_spelt a x c hs.0, compared_all a c xs hs.1)

-- a sequence of code that is written has no more levels than a text may have
pub sequence_written : (t : Tree) → is_sequence t ≡ true → HasForm t → CanBeWritten t
sequence_written (seq ts) h w = (text_form (seq ts) w, w.1)
sequence_written (int n) h w = absurd cc
sequence_written (str n) h w = absurd cc
sequence_written (bytes b) h w = absurd cc
sequence_written (prim name annots ts) h w = absurd cc

mutual
  pub spelt : (a : Kind) (x : Val) → IsWellFormed a → is_stored a x ≡ true → CanBeCounted x → IsWritten x → AreShort x → HaveIssuers x →
      length (value_spelling x) ≤ snapshot_limit → HasSpelling a x
  spelt (k.simple u) x f h c w b i l = simple_spelt u x h
  spelt (k.option a) v.nothing f h c w b i l = tt
  spelt (k.option a) (v.some x) f h c w b i l = spelt a x f h c w b i (back_within (mark true) (value_spelling x) l)
  spelt (k.or a d) (v.left x) f h c w b i l = spelt a x f.0 h c w b i (back_within (mark false) (value_spelling x) l)
  spelt (k.or a d) (v.right x) f h c w b i l = spelt d x f.1 h c w b i (back_within (mark true) (value_spelling x) l)
  spelt (k.pair a d) (v.both x y) f h c w b i l =
      let hs = and_parts (is_stored a x) (is_stored d y) h in (
        spelt a x f.0 hs.0 c.0 w.0 (all_first _ (bodies x) (bodies y) b) (all_first _ (tickets x) (tickets y) i)
            (front_within (value_spelling x) (value_spelling y) l),
        spelt d y f.1 hs.1 c.1 w.1 (all_second _ (bodies x) (bodies y) b) (all_second _ (tickets x) (tickets y) i)
            (back_within (value_spelling x) (value_spelling y) l),
      )
  spelt (k.list a) (v.list xs) f h c w b i l = (c.0, all_spelt a xs f h c.1 w b i (back_within (eight (count_vals xs)) (value_spellings xs) l))
  spelt (k.set a) (v.set xs) f h c w b i l =
      let hs = and_parts (all_values (is_stored a) xs) (are_increasing xs) h in
      (few_vals a xs f.0 hs.0 hs.1 (back_within (eight (count_vals xs)) (value_spellings xs) l), compared_all a f.0 xs hs.0)
  spelt (k.map a d) (v.table es) f h c w b i l =
      let hs = and_parts (all_entries (is_stored a) (is_stored d) es) (are_increasing (keys es)) h in
      let m = back_within (eight (count_pairs es)) (entry_spellings es) l in
      (few_pairs a d es f.0 hs.0 hs.1 m, entries_spelt a d es f.0 f.2 hs.0 c w b i m)
  spelt (k.big_map a d) (v.big_table es) f h c w b i l =
      let hs = and_parts (all_entries (is_stored a) (is_stored d) es) (are_increasing (keys es)) h in
      let m = back_within (eight (count_pairs es)) (entry_spellings es) l in
      (few_pairs a d es f.0 hs.0 hs.1 m, entries_spelt a d es f.0 f.3 hs.0 c w b i m)
  spelt (k.lambda a d) (v.lambda t recursive) f h c w b i l =
      let kinds = leads (tree_type t place.lambda (call_kinds a d recursive)) (d ∷ []) in
      let hs = and_parts (is_sequence t) kinds h in
      node_is t (sequence_written t hs.0 w) (lambda_codes a d t recursive hs.1) b.0
  spelt (k.ticket a) (v.ticket issuer kind content amount) f h c w b i l =
      let hs = and_parts (same_kind kind a && is_stored a content) (is_ticket_amount amount) h in
      let is = and_parts (same_kind kind a) (is_stored a content) hs.0 in
      (same_kind_true kind a is.0, i.0, compared_spelt a content f.0 is.1, ticket_fits amount hs.1)
  spelt a x f h c w b i l = absurd cc

  all_spelt : (a : Kind) (xs : Vals) → IsWellFormed a → all_values (is_stored a) xs ≡ true → AllCanBeCounted xs → AreWritten xs →
      AllByRecursion (λ t. is_long t ≡ false) (all_bodies xs) → AllByRecursion (λ (t : Held). IsIssuer t.issuer) (all_tickets xs) →
      length (value_spellings xs) ≤ snapshot_limit → AllHave (HasSpelling a) xs
  all_spelt a no_val f h c w b i l = tt
  all_spelt a (more_vals x xs) f h c w b i l =
      let hs = and_parts (is_stored a x) (all_values (is_stored a) xs) h in (
        spelt a x f hs.0 c.0 w.0 (all_first _ (bodies x) (all_bodies xs) b) (all_first _ (tickets x) (all_tickets xs) i)
            (front_within (value_spelling x) (value_spellings xs) l),
        all_spelt a xs f hs.1 c.1 w.1 (all_second _ (bodies x) (all_bodies xs) b) (all_second _ (tickets x) (all_tickets xs) i)
            (back_within (value_spelling x) (value_spellings xs) l),
      )

  entries_spelt : (a d : Kind) (es : Pairs) → comparable a ≡ true → IsWellFormed d → all_entries (is_stored a) (is_stored d) es ≡ true →
      EntriesCanBeCounted es → EntriesAreWritten es → AllByRecursion (λ t. is_long t ≡ false) (entry_bodies es) →
      AllByRecursion (λ (t : Held). IsIssuer t.issuer) (pair_tickets es) →
      length (entry_spellings es) ≤ snapshot_limit → AllEntriesHave (HasSpelling a) (HasSpelling d) es
  entries_spelt a d no_pair k f h c w b i l = tt
  entries_spelt a d (more_pairs x y es) k f h c w b i l =
      let hs = and_parts (is_stored a x && is_stored d y) (all_entries (is_stored a) (is_stored d) es) h in
      let is = and_parts (is_stored a x) (is_stored d y) hs.0 in
      let m = back_within (value_spelling x) (value_spelling y ++ entry_spellings es) l in (
        compared_spelt a x k is.0,
        spelt d y f is.1 c.0 w.1 (all_first _ (bodies y) (entry_bodies es) b) (all_first _ (tickets y) (pair_tickets es) i)
            (front_within (value_spelling y) (entry_spellings es) m),
        entries_spelt a d es k f hs.1 c.1 w.2 (all_second _ (bodies y) (entry_bodies es) b) (all_second _ (tickets y) (pair_tickets es) i)
            (back_within (value_spelling y) (entry_spellings es) m),
      )
