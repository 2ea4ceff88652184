-- Where big maps lie in a value of a type, and which of them have bases: those whose values can be duplicated, and no others
-- (Michelson reference, "big_map" and "Duplicable types").
use Rattle.std.specs.Prelude.{◌≡◌, ◌||◌, Bool, true, false, None, List}
use Rattle.std.specs.List.{AllByRecursion}
use Rattle.rules_data.specs.types.Attributes.{duplicable}
use Rattle.rules_data.specs.types.Kind.{Kind}
use Rattle.rules_data.specs.types.Kind as k
use Rattle.mich_term.specs.Holding.{any_entry_carries}
use Rattle.mich_term.specs.ValueView.{big_pairs}
use Rattle.mich_term.specs.declared.datum.Datum.{Datum}
use Rattle.mich_term.specs.declared.value.Value.{Value, out-Value}
use Rattle.mich_term.specs.declared.value.Value.TheOpen.{Value-F}
use Rattle.mich_term.specs.declared.value.BigMap.{BigMap, out-BigMap}
use Rattle.mich_bigmap.specs.Settled.{IsSettled}

-- ---- parts of types

-- the type of what is in an option or a list; others are their own
abbrev pub inner : Kind → Kind
inner (k.option a) = a
inner (k.list a) = a
inner a = a

-- that of the left half of a union or a pair
abbrev pub first : Kind → Kind
first (k.or a b) = a
first (k.pair a b) = a
first a = a

-- that of the right half
abbrev pub second : Kind → Kind
second (k.or a b) = b
second (k.pair a b) = b
second a = a

-- that of the values of a map
abbrev pub entry : Kind → Kind
entry (k.map a b) = b
entry a = a

-- whether the type is one of big maps with values that can be duplicated
abbrev pub shares : Kind → Bool
shares (k.big_map a b) = duplicable b
shares a = false

-- whether values of the type may hold a big map
abbrev pub names_big_map : Kind → Bool
names_big_map (k.option a) = names_big_map a
names_big_map (k.or a b) = names_big_map a || names_big_map b
names_big_map (k.pair a b) = names_big_map a || names_big_map b
names_big_map (k.list a) = names_big_map a
names_big_map (k.map a b) = names_big_map b
names_big_map (k.big_map a b) = true
names_big_map a = false

-- ---- parts of values

abbrev pub Level : Type 0
Level = Value-F Value BigMap

abbrev pub InOption : Level → (Value → Type 0) → Type 0
InOption (Value-F.Some v) P = P v
InOption l P = Unit {0}

abbrev pub InEither : Level → (Value → Type 0) → (Value → Type 0) → Type 0
InEither (Value-F.Left v) P Q = P v
InEither (Value-F.Right v) P Q = Q v
InEither l P Q = Unit {0}

abbrev pub InPair : Level → (Value → Type 0) → (Value → Type 0) → Type 0
InPair (Value-F.Pair v w) P Q = P v × Q w
InPair l P Q = Unit {0}

abbrev pub InList : Level → (Value → Type 0) → Type 0
InList (Value-F.List vs) P = AllByRecursion P vs
InList l P = Unit {0}

abbrev pub InMap : Level → (Value → Type 0) → Type 0
InMap (Value-F.Map es) P = AllByRecursion (λ e. P e.1) es
InMap l P = Unit {0}

abbrev pub InBig : Level → (BigMap → Type 0) → Type 0
InBig (Value-F.BigMap b) P = P b
InBig l P = Unit {0}

-- something is so of each big map that lies where its type says, by whether its values can be duplicated
abbrev pub InLevel : (Bool → BigMap → Type 0) → Kind → Level → Type 0
InLevel P (k.option a) l = InOption l (λ v. InLevel P a (out-Value v))
InLevel P (k.or a b) l = InEither l (λ v. InLevel P a (out-Value v)) (λ v. InLevel P b (out-Value v))
InLevel P (k.pair a b) l = InPair l (λ v. InLevel P a (out-Value v)) (λ v. InLevel P b (out-Value v))
InLevel P (k.list a) l = InList l (λ v. InLevel P a (out-Value v))
InLevel P (k.map a b) l = InMap l (λ v. InLevel P b (out-Value v))
InLevel P (k.big_map a b) l = InBig l (λ m. P (duplicable b) m)
InLevel P a l = Unit {0}

abbrev pub InValue : (Bool → BigMap → Type 0) → Kind → Value → Type 0
InValue P a v = InLevel P a (out-Value v)

-- ---- bases

-- where its values can be duplicated and it puts no ticket, as none of such a type does, it has a base and an empty overlay
abbrev pub HasBaseWhere : Bool → BigMap → Type 0
HasBaseWhere true m = any_entry_carries (big_pairs m) ≡ false → IsSettled m
HasBaseWhere false m = Unit {0}

-- where its values can't be duplicated it has no base
abbrev pub HasNoneWhere : Bool → BigMap → Type 0
HasNoneWhere true m = Unit {0}
HasNoneWhere false m = (out-BigMap m).base ≡ None

abbrev pub SettledBy : Kind → Value → Type 0
SettledBy = InValue HasBaseWhere

abbrev pub AloneBy : Kind → Value → Type 0
AloneBy = InValue HasNoneWhere

-- Settling by a type: each big map whose values can be duplicated has a base and an empty overlay, and where no other one had a base
-- before, none has one behind.
pub record SharesBy (a : Kind) (before after : Value) : Type 0 where
  pub settled : SettledBy a after
  pub alone : AloneBy a before → AloneBy a after

-- the same of lists, and of the values of entries
pub record ShareBy (a : Kind) (before after : List Value) : Type 0 where
  pub settled : AllByRecursion (SettledBy a) after
  pub alone : AllByRecursion (AloneBy a) before → AllByRecursion (AloneBy a) after

pub record EntriesShareBy (a : Kind) (before after : List (Datum × Value)) : Type 0 where
  pub settled : AllByRecursion (λ e. SettledBy a e.1) after
  pub alone : AllByRecursion (λ e. AloneBy a e.1) before → AllByRecursion (λ e. AloneBy a e.1) after

-- and of one big map, by whether its values can be duplicated
pub record SharesBig (shared : Bool) (before after : BigMap) : Type 0 where
  pub settled : HasBaseWhere shared after
  pub alone : HasNoneWhere shared before → HasNoneWhere shared after
