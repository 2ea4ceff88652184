-- What is printed of values, operations and worlds can be written: beside their types it needs bytes, and lambdas whose nodes have
-- their forms.
use Rattle.std.specs.Prelude.{◌≡◌, ◌<◌, ◌≤◌, ◌+◌, ◌^◌, ℕ, true, List, length, Some}
use Rattle.std.specs.List.{AllByRecursion}
use Rattle.rules_text.specs.nodes.Limits.{depth_limit, type_limit}
use Rattle.rules_text.specs.nodes.Tree.{Tree, int, str, bytes, prim, seq, Trees, none, more, depth}
use Rattle.rules_data.specs.forms.Spelling.{contract_place, is_address}
use Rattle.rules_data.specs.types.Kind.{nodes}
use Rattle.rules_data.specs.types.Attributes.{comparable}
use Rattle.rules_data.specs.values.Val.{Val, Vals, no_val, more_vals, Pairs, no_pair, more_pairs}
use Rattle.rules_data.specs.values.Val as v
use Rattle.rules_data.specs.values.Canonical.{canonical}
use Rattle.rules_data.specs.values.Tickets.{Identity, Held}
use Rattle.rules_code.specs.steps.Changes.{Change, minted, burnt}
use Rattle.rules_code.specs.steps.Environment.{Environment}
use Rattle.rules_code.specs.steps.Failure.{Failure}
use Rattle.rules_code.specs.steps.Failure as f
use Rattle.rules_code.specs.evaluation.Surroundings.{Contract, Surroundings}
use Rattle.rules_code.specs.evaluation.Operations.{Operation, transfer, origination, event, Tally}
use Rattle.rules_files.specs.snapshots.Rules.{is_stored}
use Rattle.mich_text.specs.Written.{IsNumber, IsBytes, IsString, IsName, AreAnnotations, HasTextForm}

abbrev pub IsByte : ℕ → Type 0
IsByte c = c < 256

abbrev pub AreBytes : List ℕ → Type 0
AreBytes = AllByRecursion IsByte

-- ---- code

abbrev mutual
  -- a node has the forms of tokens, and no sequence in it has more levels than a text may have
  pub HasForm : Tree → Type 0
  HasForm (int n) = IsNumber n
  HasForm (str s) = IsString s
  HasForm (bytes b) = IsBytes b
  HasForm (prim name annotations args) = IsName name × AreAnnotations annotations × HaveForms args
  HasForm (seq ts) = HaveForms ts × (depth (seq ts) ≤ depth_limit)

  pub HaveForms : Trees → Type 0
  HaveForms none = Unit {0}
  HaveForms (more t ts) = HasForm t × HaveForms ts

-- ---- values

abbrev mutual
  -- the content of a ticket has a literal that can be written, since no type is told with the changes of tickets
  pub IsWritten : Val → Type 0
  IsWritten (v.text b) = AreBytes b
  IsWritten (v.bytes b) = AreBytes b
  IsWritten (v.some x) = IsWritten x
  IsWritten (v.left x) = IsWritten x
  IsWritten (v.right x) = IsWritten x
  IsWritten (v.both x y) = IsWritten x × IsWritten y
  IsWritten (v.list xs) = AreWritten xs
  IsWritten (v.set xs) = AreWritten xs
  IsWritten (v.table es) = EntriesAreWritten es
  IsWritten (v.big_table es) = EntriesAreWritten es
  IsWritten (v.lambda t recursive) = HasForm t
  IsWritten (v.ticket issuer kind content amount) = IsBytes issuer × AreBytes issuer × IsWritten content × HasTextForm (canonical content)
  IsWritten x = Unit {0}

  pub AreWritten : Vals → Type 0
  AreWritten no_val = Unit {0}
  AreWritten (more_vals x xs) = IsWritten x × AreWritten xs

  pub EntriesAreWritten : Pairs → Type 0
  EntriesAreWritten no_pair = Unit {0}
  EntriesAreWritten (more_pairs x y es) = IsWritten x × IsWritten y × EntriesAreWritten es

abbrev pub AllWritten : List Val → Type 0
AllWritten = AllByRecursion IsWritten

-- ---- tickets

abbrev pub IsWrittenTicket : Held → Type 0
IsWrittenTicket t = IsBytes t.issuer × HasTextForm (canonical t.content)

abbrev pub IsWrittenIdentity : Identity → Type 0
IsWrittenIdentity i = IsBytes i.issuer × HasTextForm (canonical i.content)

-- what is minted is of a contract's place, and its content is a value of a type that a ticket may have
abbrev pub IsMinted : Held → Type 0
IsMinted t =
    ((hash : List ℕ) × (length hash ≡ 20) × (t.issuer ≡ contract_place hash))
    × (comparable t.kind ≡ true) × (nodes t.kind + 1 ≤ type_limit) × (is_stored t.kind t.content ≡ true)

abbrev pub IsWrittenChange : Change → Type 0
IsWrittenChange (minted t) = IsWrittenTicket t × IsMinted t
IsWrittenChange (burnt t) = IsWrittenTicket t

-- ---- runs

abbrev pub IsWrittenFailure : Failure → Type 0
IsWrittenFailure (f.failed_with kind value) = HasTextForm (canonical value)
IsWrittenFailure (f.bad_parameter location) = location < 2 ^ 32
IsWrittenFailure (f.ill_typed location) = location < 2 ^ 32
IsWrittenFailure (f.bad_storage location) = location < 2 ^ 32
IsWrittenFailure x = Unit {0}

abbrev pub IsWrittenOperation : Operation → Type 0
IsWrittenOperation (transfer argument amount destination) = IsWritten argument × AreBytes destination × (is_address destination ≡ true)
IsWrittenOperation (origination delegate amount script storage hash) =
    HasForm script × IsWritten storage × AreBytes hash × (length hash ≡ 20)
IsWrittenOperation (event tag kind value) = IsString tag × IsWritten value

-- what is minted is of a contract that is there
abbrev pub HasIssuer : (List ℕ → Type 0) → Change → Type 0
HasIssuer There (minted t) = (hash : List ℕ) × (t.issuer ≡ contract_place hash) × There hash
HasIssuer There (burnt t) = Unit {0}

pub record IsWrittenTally (There : List ℕ → Type 0) (m : Tally) : Type 0 where
  pub issued : AllByRecursion (λ i. IsWrittenOperation i.operation) m.issued
  pub changes : AllByRecursion IsWrittenChange m.changes
  pub issuers : AllByRecursion (HasIssuer There) m.changes

pub record IsWrittenEnvironment (e : Environment) : Type 0 where
  pub chain : AreBytes e.chain
  pub source : AreBytes e.source
  pub sender : AreBytes e.sender
  pub own : AreBytes e.own

-- the bytes that it has paid for are counted up to 2^64 - 1
abbrev pub IsWrittenContract : Contract → Type 0
IsWrittenContract c = HasForm c.script × IsWritten c.storage × (c.paid < 2 ^ 64)

pub record SeesWritten (e : Surroundings) : Type 0 where
  pub environment : IsWrittenEnvironment e.environment
  pub contracts : (hash : List ℕ) (c : Contract) → e.contract_at hash ≡ Some c → IsWrittenContract c
