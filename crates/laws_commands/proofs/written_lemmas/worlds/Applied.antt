-- What an operation leaves: a world, operations that wait, effects, and failures.
use Rattle.std.proofs.Common.{◌≡◌, ◌<◌, ◌≤◌, ◌^◌, ℕ, zero, suc, ℤ, Bool, true, false, cond, ◌&&◌, List, [], ◌∷◌, length, take, drop, Option, Some, None, refl, sym, ap, ◌∙◌, subst, arith}
use Rattle.std.specs.Prelude.{◌==◌, nat_le, nat_lt, is_none, if◌then◌else◌, not}
use Rattle.std.specs.Str.{bytes_eq}
use Rattle.std.specs.List.{AllByRecursion, list_all}
use Rattle.std.specs.Ordering.{nat_cmp}
use Rattle.std.specs.Cmp.Lexicographic.{slice_cmp}
use Rattle.std.specs.BTreeMap.{is_at}
use Rattle.std.specs.Map.{lookup}
use Rattle.std.proofs.lemmas.List.{length-append}
use Rattle.std.proofs.lemmas.Bool.{and_parts, leb-true}
use Rattle.rules_text.specs.nodes.Limits.{most_mutez}
use Rattle.rules_text.specs.nodes.Tree.{Tree, int, str, bytes, prim, seq, none, more}
use Rattle.rules_data.specs.declared.types.Simple.TheVariants as simple
use Rattle.rules_data.specs.forms.Spelling.{default_name, is_entrypoint, is_written_entrypoint, is_implicit, is_place, is_key_hash, implicit_place, contract_place, name_of, written_entrypoint, spelled_address, is_name_byte}
use Rattle.rules_data.specs.types.Kind.{Kind}
use Rattle.rules_data.specs.values.Canonical.{canonical}
use Rattle.rules_data.specs.values.Literals.{Literal, good, bad, Pending, claims, read, simple_value, Word, unit_word, word_of_name, unit_of_word}
use Rattle.rules_data.specs.values.Tickets.{Identity}
use Rattle.rules_data.specs.values.Val.{Val}
use Rattle.rules_data.specs.values.Val as v
use Rattle.rules_code.specs.instructions.Arguments.{Found, found, fault}
use Rattle.rules_code.specs.steps.Changes.{Change, amount_in}
use Rattle.rules_code.specs.steps.Failure.{Failure, empty_transaction, balance_too_low, no_entrypoint}
use Rattle.rules_code.specs.typing.Literals.{checked, of_reading, fault_of_bodies}
use Rattle.rules_code.specs.typing.Scripts.{Script}
use Rattle.rules_data.specs.types.Entrypoints.{Entry, find_entry}
use Rattle.rules_code.specs.typing.Nodes.{script}
use Rattle.rules_code.specs.evaluation.Contracts.{hash_in}
use Rattle.rules_code.specs.evaluation.Operations.{Issued}
use Rattle.rules_code.specs.evaluation.Surroundings.{Contract}
use Rattle.rules_world.specs.world.Good.{known_with, FitsIn}
use Rattle.rules_world.specs.world.Receipts.{Effect}
use Rattle.rules_world.specs.world.Receipts as receipts
use Rattle.rules_world.specs.world.World.{World, contract_at, key_hash_in}
use Rattle.rules_world.specs.world.Balances.{balance_or_none, moved}
use Rattle.rules_world.specs.world.Growth.{Burn, burn_of, burning, burnt_from, growing, unless_short}
use Rattle.rules_world.specs.world.Outcomes.{Setting, Counts, Waiting, issued, Outcome, applied, failed, stuck, charged_by}
use Rattle.rules_world.specs.world.Targets.{Target, Search, met, missing, unreadable, with_entry, in_script, in_contract, on_met, search}
use Rattle.rules_world.specs.world.Runs.{Ended, finished, run_failed, run_stuck, waiting_of, with_effect, run, run_in, environment_of}
use Rattle.rules_world.specs.world.Runs as runs
use Rattle.rules_world.specs.world.RunLaws.{IsCall}
use Rattle.rules_world.specs.world.Arguments.{false_claim, unless_false, with_claims, argument_in, literal_in}
use Rattle.rules_world.specs.world.Transfers.{Transaction, transfer_effect, taken_by_account, as_ticket, account_failure, with_ticket, account_outcome, with_taken, if_covered, with_argument}
use Rattle.laws_data.proofs.forms_lemmas.ForCallers.{place_length}
use Rattle.laws_world.specs.runs.Going.{IsSetting}
use Rattle.laws_world.proofs.runs.ForCallers.{contract_length, IsMet, Searched, searched, orderly_of}
use Rattle.laws_world.proofs.groups_lemmas.ForCallers.{called_call}
use Rattle.laws_world.proofs.groups_lemmas.Taken.{IsTaken}
use Rattle.mich_text.specs.Written.{IsBytes, HasTextForm}
use Rattle.laws_commands.specs.written.Written.{HasForm, IsByte, AreBytes, IsWritten, IsWrittenChange, IsWrittenFailure, IsWrittenOperation}
use Rattle.laws_commands.specs.written.Worlds.{IsWrittenWaiting, IsWrittenEffect, IsWrittenWorld}
use Rattle.laws_commands.proofs.written_lemmas.values.Bytes.{bytes_tested, implicit_bytes, contract_bytes, contract_short}
use Rattle.laws_commands.proofs.common.Readings.{Gives}
use Rattle.laws_commands.proofs.written_lemmas.values.Literals.{reads}
use Rattle.laws_commands.proofs.written_lemmas.values.Fitting.{fits_form}
use Rattle.laws_commands.proofs.written_lemmas.evaluation.Given.{spelled_bytes}
use Rattle.laws_commands.proofs.written_lemmas.worlds.Worlds.{moved_written, credited_written, paid_written, burnt_written, burnt_contracts, PaysFor, pays_for}
use Rattle.laws_commands.proofs.written_lemmas.worlds.Runs.{EndsWritten, run_written}
use Rattle.laws_commands.proofs.common.Lists.{all_append, all_take, all_drop, all_map}

abbrev pub Leaves : Outcome → Type 0
Leaves (applied a) = IsWrittenWorld a.world × AllByRecursion IsWrittenWaiting a.emitted × AllByRecursion IsWrittenEffect a.effects
Leaves (failed f) = IsWrittenFailure f
Leaves stuck = Unit {0}

pub leaves_charged : (b : Bool) (left : ℕ) (next : ℕ → Outcome) → ((n : ℕ) → Leaves (next n)) → Leaves (charged_by b left next)
leaves_charged true left next h = tt
leaves_charged false left next h = h left

-- ---- places and addresses

pub place_is : (b : List ℕ) → AreBytes b → is_place b ≡ true → IsBytes b
place_is b h p = let long : length b ≡ 22 = place_length b p in (bytes_tested b h, omega (arith, long))

pub taken_short : (n : ℕ) (xs : List ℕ) → length (take n xs) ≤ n
taken_short zero xs = omega arith
taken_short (suc n) [] = omega arith
taken_short (suc n) (x ∷ xs) = let h = taken_short n xs in omega (arith, h)

written_short : (name : List ℕ) → length name ≤ 31 → length (written_entrypoint name) ≤ 31
written_short name h = by (bytes_eq name default_name)
  where
    by : (b : Bool) → length (cond b [] name) ≤ 31
    by true = omega arith
    by false = h

pub spelled_is : (place name : List ℕ) → AreBytes place → AreBytes name → length place ≤ 22 → length name ≤ 31 →
    IsBytes (spelled_address place name)
spelled_is place name h g p n =
    let w = written_short name n in (
      bytes_tested (spelled_address place name) (spelled_bytes place name h g),
      omega (arith, p, w, length-append place (written_entrypoint name)),
    )

pub named_short : (name : List ℕ) → is_entrypoint name ≡ true → length name ≤ 31
named_short name h =
    leb-true (length name) 31 (and_parts (nat_le 1 (length name)) (nat_le (length name) 31)
    (and_parts (nat_le 1 (length name) && nat_le (length name) 31) (list_all is_name_byte name)
    h).0).1

-- the entrypoint of an address
pub entry_short : (b : List ℕ) → is_written_entrypoint b ≡ true → length (name_of b) ≤ 31
entry_short [] h = omega arith
entry_short (c ∷ b) h = named_short (c ∷ b) (and_parts (is_entrypoint (c ∷ b)) (not
    (bytes_eq (c ∷ b) default_name)) h).0

pub hash_bytes : (place : List ℕ) → AreBytes place → AreBytes (hash_in place)
hash_bytes place h = all_take IsByte 20 (drop 1 place) (all_drop IsByte 1 place h)

-- ---- entrypoints that are missed

abbrev pub MissedIs : Search → Type 0
MissedIs (missing f) = IsWrittenFailure f
MissedIs q = Unit {0}

pub missed_is : (w : World) (hash name : List ℕ) → MissedIs (search w hash name)
missed_is w hash name = by (contract_at w hash)
  where
    by_entry : (s : Script) (o : Option Entry) → MissedIs (with_entry hash s o)
    by_entry s (Some e) = tt
    by_entry s None = tt

    by_script : (q : Found Script) → MissedIs (in_script hash name q)
    by_script (found s) = by_entry s (find_entry name s.entries)
    by_script (fault l) = tt

    by : (o : Option Contract) → MissedIs (in_contract hash name o)
    by (Some c) = by_script (script c.script)
    by None = tt

-- ---- literals

abbrev pub FoundIs : Found Val → Type 0
FoundIs (found x) = IsWritten x
FoundIs (fault l) = Unit {0}

pub literal_written : (w : World) (a : Kind) (t : Tree) → HasForm t → FoundIs (literal_in w a t)
literal_written w a t h = by (read a 0 t) (reads a 0 t h)
  where
    by_claims : (x : Val) (o : Option ℕ) → IsWritten x → FoundIs (unless_false o x)
    by_claims x (Some l) h = tt
    by_claims x None h = h

    by_bodies : (x : Val) (ps : List Pending) (o : Option ℕ) → IsWritten x → FoundIs (with_claims w (checked x ps o))
    by_bodies x ps (Some l) h = tt
    by_bodies x ps None h = by_claims x (false_claim w (claims ps)) h

    by : (l : Literal Val) → Gives IsWritten l → FoundIs (with_claims w (of_reading l))
    by (good x ps) h = by_bodies x ps (fault_of_bodies ps) h
    by (bad l) h = tt

-- ---- what accounts take

abbrev pub IsTakenValue : Option Val → Type 0
IsTakenValue None = Unit {0}
IsTakenValue (Some x) = IsWritten x × HasTextForm (canonical x)

word_taken : (w : Word) → IsTakenValue (unit_of_word w)
word_taken unit_word = (tt, ((refl, refl, omega arith), tt, tt))
word_taken _ = tt

pub unit_taken : (t : Tree) → IsTakenValue (simple_value simple.Unit t)
unit_taken (prim name annots none) = word_taken (word_of_name name)
unit_taken (prim name annots (more t ts)) = tt
unit_taken (int n) = tt
unit_taken (str b) = tt
unit_taken (bytes b) = tt
unit_taken (seq ts) = tt

abbrev IsFine : Option Failure → Type 0
IsFine None = Unit {0}
IsFine (Some f) = IsWrittenFailure f

fine_account : (w : World) (t : Transaction) (x : Val) → IsFine (account_failure w t x)
fine_account w t x = by (t.amount == 0 && is_none (as_ticket x)) (nat_lt (balance_or_none w t.sender) t.amount)
  where
    by : (a b : Bool) → IsFine (if a then Some empty_transaction else if b then Some
        balance_too_low else None)
    by true b = tt
    by false true = tt
    by false false = tt

-- ---- what contracts are handed

abbrev pub IsHanded : World → (Identity → ℤ) → Target → Found Val → Type 0
IsHanded w over target (found x) = FitsIn w target.entry.kind x × ((id : Identity) → over id ≡ amount_in id x) × IsWritten x
IsHanded w over target (fault l) = l < 2 ^ 32

-- ---- growth

module _ (s : Setting) (source : AreBytes s.source) (key : is_key_hash s.source ≡ true) where
  pub leaves_growing : (hash : List ℕ) (o : Outcome) → AreBytes hash → length hash ≡ 20 → Leaves o → Leaves (growing s hash o)
  leaves_growing hash (applied a) known long h = by (burn_of a.world hash) (pays_for a.world hash)
    where
      payer : List ℕ
      payer = implicit_place s.source

      paid : (b : Burn) (short : Bool) → PaysFor a.world hash (Some b) → Leaves (unless_short short payer hash b a)
      paid b true few = tt
      paid b false few = (
        paid_written (burnt_from a.world payer b.mutez) hash b.bytes
            (burnt_written a.world payer b.mutez h.0 (implicit_bytes s.source source)) known
            (λ c e. few.1 c (ap (λ cs. lookup (is_at (slice_cmp nat_cmp hash)) cs)
            (sym (burnt_contracts a.world s.source b.mutez key)) ∙ e)),
        h.1,
        all_append IsWrittenEffect a.effects (receipts.Storage (contract_place hash) b.bytes b.mutez ∷ []) h.2
            (((bytes_tested (contract_place hash) (contract_bytes hash known), contract_short hash long), few.0), tt),
      )

      by : (b : Option Burn) → PaysFor a.world hash b → Leaves (burning b payer hash a)
      by (Some b) few = paid b (nat_lt (balance_or_none a.world payer) b.mutez) few
      by None few = h
  leaves_growing hash (failed f) known long h = h
  leaves_growing hash stuck known long h = tt

  -- ---- runs

  waiting_written : (sender : List ℕ) (is : List Issued) → AreBytes sender → AllByRecursion (λ i. IsWrittenOperation i.operation) is →
      AllByRecursion IsWrittenWaiting (waiting_of sender is)
  waiting_written sender is b h = all_map (λ i. IsWrittenOperation i.operation) IsWrittenWaiting (λ i. issued sender i.operation) is
      (λ i g. (b, g)) h

  leaves_effect : (hash : List ℕ) (effect : List Change → Effect) → AreBytes hash →
      ((cs : List Change) → AllByRecursion IsWrittenChange cs → IsWrittenEffect (effect cs)) →
      (e : Ended) → EndsWritten e → Leaves (with_effect hash effect e)
  leaves_effect hash effect b f (finished x) h = (
    h.0,
    waiting_written (contract_place hash) x.returned (contract_bytes hash b) h.1,
    (f x.changes h.2, tt),
  )
  leaves_effect hash effect b f (run_failed x) h = h
  leaves_effect hash effect b f run_stuck h = tt

  pub leaves_run : (w : World) (c : runs.Call) (gas : ℕ) (counts : Counts) (effect : List Change → Effect) → IsWrittenWorld w →
      AreBytes c.sender →
      AreBytes c.target.hash → length c.target.hash ≡ 20 → IsWritten c.argument → IsCall (environment_of s w c) s w c.target c.argument
      counts →
      ((cs : List Change) → AllByRecursion IsWrittenChange cs → IsWrittenEffect (effect cs)) → Leaves (run s w c gas counts effect)
  leaves_run w c gas counts effect world sender hash long written call f =
      leaves_growing c.target.hash (with_effect c.target.hash effect (run_in (environment_of s w c) s w c.target c.argument gas counts))
      hash long
      (leaves_effect c.target.hash effect hash f (run_in (environment_of s w c) s w c.target c.argument gas counts)
      (run_written (environment_of s w c) s w c.target c.argument gas counts call world
      (record { chain = world.chain; source = source; sender = sender; own = hash }) hash written))

  -- ---- transfers

  module _ (w : World) (world : IsWrittenWorld w) (t : Transaction) (sender : IsBytes t.sender) (from : AreBytes t.sender)
      (to : AreBytes t.destination)
      (address : IsBytes (spelled_address t.destination t.entrypoint)) where
    effect_is : (x : Val) → HasTextForm (canonical x) → (cs : List Change) → AllByRecursion IsWrittenChange cs →
        IsWrittenEffect (transfer_effect t x cs)
    effect_is x h cs c = (sender, address, h, c)

    received_is : (x : World) (y : Val) → IsWrittenWorld x → IsWritten y →
        IsWrittenWorld (with_ticket x (key_hash_in t.destination) (as_ticket y))
    received_is x (v.ticket issuer kind content amount) h i =
        credited_written x (key_hash_in t.destination) (record { issuer = issuer; kind = kind; content = content; amount = amount }) h
        (all_drop IsByte 1 t.destination to) (i.0, i.3)
    received_is x v.unit h i = h
    received_is x (v.truth b) h i = h
    received_is x (v.number n) h i = h
    received_is x (v.text b) h i = h
    received_is x (v.bytes b) h i = h
    received_is x v.nothing h i = h
    received_is x (v.some y) h i = h
    received_is x (v.left y) h i = h
    received_is x (v.right y) h i = h
    received_is x (v.both y z) h i = h
    received_is x (v.list ys) h i = h
    received_is x (v.set ys) h i = h
    received_is x (v.table es) h i = h
    received_is x (v.big_table es) h i = h
    received_is x (v.lambda u recursive) h i = h
    received_is x (v.operation n) h i = h

    leaves_account : (o : Option Failure) (x : Val) (gas : ℕ) (counts : Counts) → IsWritten x → HasTextForm (canonical x) → IsFine o →
        Leaves (account_outcome o w t x gas counts)
    leaves_account (Some f) x gas counts h c i = i
    leaves_account None x gas counts h c i = (
      received_is (moved w t.sender t.destination t.amount) x (moved_written w t.sender t.destination t.amount world from to) h,
      tt,
      (effect_is x c [] tt, tt),
    )

    leaves_taken : (o : Option Val) (gas : ℕ) (counts : Counts) → IsTakenValue o → Leaves (with_taken o w t gas counts)
    leaves_taken (Some x) gas counts h = leaves_account (account_failure w t x) x gas counts h.0 h.1 (fine_account w t x)
    leaves_taken None gas counts h = omega arith

    pub leaves_to_account : (gas : ℕ) (counts : Counts) → IsTakenValue (taken_by_account t.argument) →
        Leaves (if bytes_eq t.entrypoint default_name then with_taken (taken_by_account t.argument) w t gas counts else failed
        no_entrypoint)
    leaves_to_account gas counts h = by (bytes_eq t.entrypoint default_name)
      where
        by : (b : Bool) → Leaves (if b then with_taken (taken_by_account t.argument) w t gas counts else failed no_entrypoint)
        by true = leaves_taken (taken_by_account t.argument) gas counts h
        by false = tt

    module _ (start : World) (setting : IsSetting s) (contents : ℕ) (few : contents ≤ 1000) (waiting : List Waiting) (counts : Counts)
        (over : Identity → ℤ)
        (taken : IsTaken start s.group contents w over waiting counts) (implicit : is_implicit t.destination ≡ false)
        (place : is_place t.sender ≡ true)
        (small : t.amount ≤ most_mutez) where
      leaves_argument : (target : Target) (gas : ℕ) (x : Found Val) → IsMet w target → target.hash ≡ hash_in t.destination →
          IsHanded w over target x →
          Leaves (with_argument x s w t target gas counts)
      leaves_argument target gas (found x) m hash h = by (nat_le t.amount (balance_or_none w t.sender)) refl
        where
          by : (b : Bool) → nat_le t.amount (balance_or_none w t.sender) ≡ b → Leaves (if_covered b s w t target x gas counts)
          by true e =
              leaves_run (moved w t.sender t.destination t.amount) (record {
                target = target;
                sender = t.sender;
                amount = t.amount;
                argument = x;
              }) gas counts (transfer_effect t x)
              (moved_written w t.sender t.destination t.amount world from to) from (subst AreBytes (sym hash) (hash_bytes t.destination to))
              (contract_length w (orderly_of w taken.sound) target.hash m.contract m.there) h.2
              (called_call start s setting contents few w t waiting counts over taken implicit place small target x m hash h.0 h.1
              (leb-true t.amount (balance_or_none w t.sender) e))
              (effect_is x (fits_form (known_with w []) target.entry.kind x h.0 h.2))
          by false e = tt
      leaves_argument target gas (fault l) m hash h = h

      pub leaves_to_contract : (gas : ℕ) → ((target : Target) → IsMet w target → target.hash ≡ hash_in t.destination →
          target.entry.name ≡ t.entrypoint →
          IsHanded w over target (argument_in w target.entry.kind t.argument)) →
          Leaves (on_met (search w (hash_in t.destination) t.entrypoint)
          (λ target. with_argument (argument_in w target.entry.kind t.argument) s w t target gas counts))
      leaves_to_contract gas h =
          by (search w (hash_in t.destination) t.entrypoint) (searched w (orderly_of w taken.sound) (hash_in t.destination) t.entrypoint)
          (missed_is w (hash_in t.destination) t.entrypoint)
        where
          by : (q : Search) → Searched w (hash_in t.destination) t.entrypoint q → MissedIs q →
              Leaves (on_met q (λ target. with_argument (argument_in w target.entry.kind t.argument) s w t target gas counts))
          by (met target) g f = leaves_argument target gas (argument_in w target.entry.kind t.argument) g.0 g.1 (h target g.0 g.1 g.2)
          by (missing x) g f = f
          by unreadable g f = tt
