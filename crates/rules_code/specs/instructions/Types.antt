-- Short names of the types without arguments (Michelson reference, "Types").
use Rattle.rules_data.specs.declared.types.Simple.TheVariants as s
use Rattle.rules_data.specs.types.Kind.{Kind, simple}

pattern abbrev pub unit : Kind
unit = simple s.Unit

pattern abbrev pub never : Kind
never = simple s.Never

pattern abbrev pub bool : Kind
bool = simple s.Bool

pattern abbrev pub int : Kind
int = simple s.Int

pattern abbrev pub nat : Kind
nat = simple s.Nat

pattern abbrev pub string : Kind
string = simple s.String

pattern abbrev pub bytes : Kind
bytes = simple s.Bytes

pattern abbrev pub mutez : Kind
mutez = simple s.Mutez

pattern abbrev pub timestamp : Kind
timestamp = simple s.Timestamp

pattern abbrev pub key : Kind
key = simple s.Key

pattern abbrev pub key_hash : Kind
key_hash = simple s.KeyHash

pattern abbrev pub chain_id : Kind
chain_id = simple s.ChainId

pattern abbrev pub address : Kind
address = simple s.Address
