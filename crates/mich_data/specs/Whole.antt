-- The parts of a value that a literal of a type spells. Its big maps have all their entries in themselves (Michelson reference,
-- "big_map").
use Rattle.std.specs.Prelude.{◌≡◌, Option, Some, None, List}
use Rattle.std.specs.Map.{keys_of}
use Rattle.std.specs.List.{AllByRecursion}
use Rattle.rules_data.specs.types.Kind.{Kind}
use Rattle.rules_data.specs.types.Kind as k
use Rattle.mich_term.specs.Keyed.{IsIncreasing}
use Rattle.mich_term.specs.declared.datum.Datum.{Datum}
use Rattle.mich_term.specs.declared.value.Value.{Value, out-Value}
use Rattle.mich_term.specs.declared.value.Value.TheOpen.{Value-F}
use Rattle.mich_term.specs.declared.value.BigMap.{BigMap, out-BigMap}
use Rattle.mich_data.specs.declared.parts.Wrapper.{Wrapper}
use Rattle.mich_data.specs.declared.parts.Wrapper.TheVariants as w

abbrev pub Layer : Type 0
Layer = Value-F Value BigMap

-- a value without parts, of a type without arguments or a contract's address
abbrev pub IsSimple : Layer → Type 0
IsSimple Value-F.Unit = Unit {0}
IsSimple (Value-F.Bool b) = Unit {0}
IsSimple (Value-F.Number n) = Unit {0}
IsSimple (Value-F.Text s) = Unit {0}
IsSimple (Value-F.Bytes s) = Unit {0}
IsSimple l = ⊥

abbrev pub IsOption : Layer → (Value → Type 0) → Type 0
IsOption Value-F.None P = Unit {0}
IsOption (Value-F.Some v) P = P v
IsOption l P = ⊥

abbrev pub IsEither : Layer → (Value → Type 0) → (Value → Type 0) → Type 0
IsEither (Value-F.Left v) P Q = P v
IsEither (Value-F.Right v) P Q = Q v
IsEither l P Q = ⊥

abbrev pub IsPair : Layer → (Value → Type 0) → (Value → Type 0) → Type 0
IsPair (Value-F.Pair v w) P Q = P v × Q w
IsPair l P Q = ⊥

abbrev pub IsListOf : Layer → (Value → Type 0) → Type 0
IsListOf (Value-F.List vs) P = AllByRecursion P vs
IsListOf l P = ⊥

abbrev pub IsSet : Layer → Type 0
IsSet (Value-F.Set ds) = Unit {0}
IsSet l = ⊥

abbrev pub IsMapTo : Layer → (Value → Type 0) → Type 0
IsMapTo (Value-F.Map es) P = AllByRecursion (λ e. P e.1) es
IsMapTo l P = ⊥

abbrev pub IsLambda : Layer → Type 0
IsLambda (Value-F.Lambda n recursive) = Unit {0}
IsLambda l = ⊥

abbrev pub IsBig : Layer → (BigMap → Type 0) → Type 0
IsBig (Value-F.BigMap b) P = P b
IsBig l P = ⊥

-- a change that puts a value of which this is so
abbrev pub IsPut : (Value → Type 0) → Option Value → Type 0
IsPut P None = ⊥
IsPut P (Some v) = P v

-- a big map without a base, which only puts values of which this is so, at increasing keys
pub record LiesWhole (P : Value → Type 0) (b : BigMap) : Type 0 where
  pub alone : (out-BigMap b).base ≡ None
  pub keys : IsIncreasing (keys_of (out-BigMap b).overlay)
  pub puts : AllByRecursion (λ c. IsPut P c.1) (out-BigMap b).overlay

-- a value with the parts that its type names; no literal is of the types of operations and tickets
abbrev pub IsWhole : Kind → Value → Type 0
IsWhole (k.simple s) v = IsSimple (out-Value v)
IsWhole k.operation v = ⊥
IsWhole (k.option a) v = IsOption (out-Value v) (IsWhole a)
IsWhole (k.or a b) v = IsEither (out-Value v) (IsWhole a) (IsWhole b)
IsWhole (k.pair a b) v = IsPair (out-Value v) (IsWhole a) (IsWhole b)
IsWhole (k.list a) v = IsListOf (out-Value v) (IsWhole a)
IsWhole (k.set a) v = IsSet (out-Value v)
IsWhole (k.map a b) v = IsMapTo (out-Value v) (IsWhole b)
IsWhole (k.big_map a b) v = IsBig (out-Value v) (LiesWhole (IsWhole b))
IsWhole (k.lambda a b) v = IsLambda (out-Value v)
IsWhole (k.contract a) v = IsSimple (out-Value v)
IsWhole (k.ticket a) v = ⊥

-- what a wrapper makes of a value of this type
abbrev pub IsWrappedWhole : Wrapper → Kind → Value → Type 0
IsWrappedWhole w.Some a v = IsWhole (k.option a) v
IsWrappedWhole w.Left a v = (b : Kind) → IsWhole (k.or a b) v
IsWrappedWhole w.Right a v = (b : Kind) → IsWhole (k.or b a) v

-- the values of entries
abbrev pub AreWholeEntries : Kind → List (Datum × Value) → Type 0
AreWholeEntries a es = AllByRecursion (λ e. IsWhole a e.1) es

-- the change that puts an entry
abbrev pub put_of : Datum × Value → Datum × Option Value
put_of e = (e.0, Some e.1)
