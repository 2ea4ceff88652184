-- Instructions without bodies, but for those on contracts and operations: of values that are written they make such values.
use Rattle.std.proofs.Common.{◌≡◌, ◌≤◌, ◌+◌, ℕ, true, Option, List, [], ◌∷◌, length, refl}
use Rattle.std.specs.Prelude.{ℤ, ◌+◌, drop}
use Rattle.std.specs.List.{AllByRecursion, flat_map}
use Rattle.rules_data.specs.forms.Spelling.{contract_place}
use Rattle.rules_data.specs.numbers.Limits.{Limit}
use Rattle.rules_data.specs.types.Kind.{Kind}
use Rattle.rules_data.specs.values.Val.{Val, Vals, no_val, more_vals, Pairs, no_pair, more_pairs}
use Rattle.rules_data.specs.values.Val as v
use Rattle.rules_data.specs.values.Canonical.{canonical}
use Rattle.rules_data.specs.values.Tickets.{Identity, Held, tickets, all_tickets, pair_tickets}
use Rattle.rules_code.specs.instructions.Straight.{Straight}
use Rattle.rules_code.specs.steps.Changes.{burns}
use Rattle.rules_code.specs.steps.Environment.{Environment}
use Rattle.rules_code.specs.steps.Step.{Step, optional, past_limit}
use Rattle.rules_code.specs.steps.Texts.{bytes_of, joined}
use Rattle.rules_code.specs.steps.Packing.{Trial, key_hash}
use Rattle.rules_code.specs.steps.Steps.{step}
use Rattle.rules_data.specs.numbers.Bytes.{least, holds_natural, holds_integer}
use Rattle.rules_text.specs.nodes.Limits.{type_limit}
use Rattle.rules_data.specs.types.Kind.{nodes}
use Rattle.rules_data.specs.types.Attributes.{comparable}
use Rattle.rules_files.specs.snapshots.Rules.{is_stored}
use Rattle.mich_text.specs.Written.{IsBytes, HasTextForm}
use Rattle.laws_commands.specs.written.Written.{IsByte, AreBytes, IsWritten, AreWritten, EntriesAreWritten, AllWritten, IsWrittenTicket, IsWrittenChange, IsWrittenFailure, IsWrittenEnvironment}
use Rattle.laws_commands.proofs.written_lemmas.values.Bytes.{high_first, bytes_tested, implicit_bytes, contract_bytes, contract_short}
use Rattle.laws_commands.proofs.written_lemmas.values.Literals.{reads}
use Rattle.laws_commands.proofs.written_lemmas.values.Spelled.{packed_bytes, blake_bytes, sha256_bytes, sha512_bytes}
use Rattle.laws_commands.proofs.written_lemmas.values.Decoded.{decoded_form}
use Rattle.laws_commands.proofs.common.Parts.{IsOfParts}
use Rattle.laws_commands.proofs.common.Steps.{StepHas, AreMade, AreAround, optional_has, MayStep}
use Rattle.laws_commands.proofs.common.Steps as steps
use Rattle.laws_commands.proofs.written_lemmas.values.Literals.{written_parts}
use Rattle.laws_commands.proofs.common.Lists.{all_append, all_take, all_drop, all_flat, OnSome}

abbrev pub Keeps : Step → Type 0
Keeps s = StepHas IsWritten IsWrittenChange IsWrittenFailure s

pub optional_written : (o : Option Val) → OnSome IsWritten o → IsWritten (optional o)
optional_written = optional_has IsWritten AreWritten EntriesAreWritten written_parts

-- ---- the tickets of values

mutual
  pub tickets_written : (x : Val) → IsWritten x → AllByRecursion IsWrittenTicket (tickets x)
  tickets_written (v.some x) h = tickets_written x h
  tickets_written (v.left x) h = tickets_written x h
  tickets_written (v.right x) h = tickets_written x h
  tickets_written (v.both x y) h = all_append IsWrittenTicket (tickets x) (tickets y) (tickets_written x h.0) (tickets_written y h.1)
  tickets_written (v.list xs) h = all_written xs h
  tickets_written (v.table es) h = pairs_written es h
  tickets_written (v.big_table es) h = pairs_written es h
  tickets_written (v.ticket issuer kind content amount) h = ((h.0, h.3), tt)
  tickets_written v.unit h = tt
  tickets_written (v.truth b) h = tt
  tickets_written (v.number n) h = tt
  tickets_written (v.text b) h = tt
  tickets_written (v.bytes b) h = tt
  tickets_written v.nothing h = tt
  tickets_written (v.set xs) h = tt
  tickets_written (v.lambda t recursive) h = tt
  tickets_written (v.operation n) h = tt

  all_written : (xs : Vals) → AreWritten xs → AllByRecursion IsWrittenTicket (all_tickets xs)
  all_written no_val h = tt
  all_written (more_vals x xs) h = all_append IsWrittenTicket (tickets x) (all_tickets xs) (tickets_written x h.0) (all_written xs h.1)

  pairs_written : (es : Pairs) → EntriesAreWritten es → AllByRecursion IsWrittenTicket (pair_tickets es)
  pairs_written no_pair h = tt
  pairs_written (more_pairs x y es) h = all_append IsWrittenTicket (tickets y) (pair_tickets es) (tickets_written y h.1)
      (pairs_written es h.2)

pub burns_written : (ts : List Held) → AllByRecursion IsWrittenTicket ts → AllByRecursion IsWrittenChange (burns ts)
burns_written [] h = tt
burns_written (t ∷ ts) h = (h.0, burns_written ts h.1)

pub all_burnt : (V : List Val) → AllWritten V → AllByRecursion IsWrittenChange (burns (flat_map tickets V))
all_burnt V h = burns_written (flat_map tickets V) (all_flat IsWritten IsWrittenTicket tickets V tickets_written h)

-- ---- what steps make

limit_written : (l : Limit) → IsWrittenFailure (past_limit l)
limit_written Limit.integer_limit = tt
limit_written Limit.mutez_overflow = tt
limit_written Limit.shift_limit = tt

bytes_in : (x : Val) → IsWritten x → AreBytes (bytes_of x)
bytes_in (v.bytes b) h = h
bytes_in (v.text b) h = h
bytes_in v.unit h = tt
bytes_in (v.truth b) h = tt
bytes_in (v.number n) h = tt
bytes_in v.nothing h = tt
bytes_in (v.some x) h = tt
bytes_in (v.left x) h = tt
bytes_in (v.right x) h = tt
bytes_in (v.both x y) h = tt
bytes_in (v.list xs) h = tt
bytes_in (v.set xs) h = tt
bytes_in (v.table es) h = tt
bytes_in (v.big_table es) h = tt
bytes_in (v.lambda t recursive) h = tt
bytes_in (v.operation n) h = tt
bytes_in (v.ticket issuer kind content amount) h = tt

joined_bytes : (xs : Vals) → AreWritten xs → AreBytes (joined xs)
joined_bytes no_val h = tt
joined_bytes (more_vals x xs) h = all_append IsByte (bytes_of x) (joined xs) (bytes_in x h.0) (joined_bytes xs h.1)

hash_of_key : (b : List ℕ) → AreBytes b → AreBytes (key_hash b)
hash_of_key [] h = tt
hash_of_key (tag ∷ key) h = (h.0, blake_bytes 20 key)

parts_written : IsOfParts IsWritten AreWritten EntriesAreWritten
parts_written = record {
  some = λ x h. h;
  both = λ x y h. h;
  set = λ xs h. h;
  table = λ es h. h;
  big_table = λ es h. h;
  value = λ x xs h. h;
  entry = λ x y es h. h;
}

made_written : AreMade IsWritten IsWrittenChange IsWrittenFailure
made_written = record {
  burnt = all_burnt;
  limits = limit_written;
  too_long = tt;
  nat_to_bytes = λ n. high_first (least (holds_natural n) 16 0) n;
  int_to_bytes = λ z. high_first (least (holds_integer z) 16 0) _;
  concat_strings = λ a b h g. all_append IsByte a b h g;
  concat_bytes = λ a b short h g. all_append IsByte a b h g;
  concat_string_list = λ xs h. joined_bytes xs h;
  concat_bytes_list = λ xs short h. joined_bytes xs h;
  slice_string = λ offset count b h. all_take IsByte count (drop offset b) (all_drop IsByte offset b h);
  slice_bytes = λ offset count b h. all_take IsByte count (drop offset b) (all_drop IsByte offset b h);
  pack = λ x short h. packed_bytes x h;
  unpack = λ a c b t h e. reads a 0 t (decoded_form b t h.1 e);
  blake2b = λ b. blake_bytes 32 b;
  hash_256 = λ b. sha256_bytes b;
  hash_512 = λ b. sha512_bytes b;
  hash_key = λ b h. hash_of_key b h;
  issuer = λ place a x n h. h.1;
  content = λ place a x n h. h.2;
  amount = λ place a x n m h. h;
}

-- the content of a new ticket has a literal that can be written, and is a value of a type that a ticket may have
abbrev pub MayHold : Kind → Val → Type 0
MayHold a x = HasTextForm (canonical x) × (comparable a ≡ true) × (nodes a + 1 ≤ type_limit) × (is_stored a x ≡ true)

around_written : (e : Environment) → IsWrittenEnvironment e → length e.own ≡ 20 → AreAround IsWritten IsWrittenChange MayHold e
around_written e w long =
    let own : AreBytes (contract_place e.own) = contract_bytes e.own w.own in
    let place : IsBytes (contract_place e.own) = (bytes_tested (contract_place e.own) own, contract_short e.own long) in
    record {
      sender = w.sender;
      source = implicit_bytes e.source w.source;
      own = own;
      chain = w.chain;
      mint = λ a x n k h. ((place, own, h, k.0), ((place, k.0), ((e.own, long, refl), k.1, k.2, k.3)));
    }

-- ---- all

pub step_keeps : (e : Environment) → IsWrittenEnvironment e → length e.own ≡ 20 → (total : Identity → ℤ) (passes : Trial) (r : Straight)
    (V : List Val) → MayStep MayHold r V →
    AllWritten V → Keeps (step e total passes r V)
step_keeps e w long =
    steps.step_keeps IsWritten AreWritten EntriesAreWritten IsWrittenChange IsWrittenFailure written_parts parts_written made_written
    MayHold e (around_written e w long) IsWritten (λ x h. h) tt (λ x xs h g. (h, g))
