-- The words that lines of the table are made of, and which stacks of types are as they say. The words of a type stand
-- before those of its parts.
use Rattle.std.specs.Prelude.{Bool, true, false, if◌then◌else◌, List, [], ◌∷◌, Option, Some, None, option_and_then}
use Rattle.rules_data.specs.types.Kind.{Kind}
use Rattle.rules_data.specs.types.Kind as k
use Rattle.rules_data.specs.types.Attributes.{comparable, duplicable, packable, pushable}
use Rattle.rules_code.specs.instructions.Types as t
use Rattle.rules_code.specs.instructions.Same.{same_kind, same_kinds}
use Rattle.mich_cert.specs.declared.words.Word.{Word}
use Rattle.mich_cert.specs.declared.words.Word.TheVariants as w

-- the types that a line leaves open, as far as they are known
pub record Known : Type 0 where
  pub a : Option Kind
  pub b : Option Kind
  pub c : Option Kind

abbrev pub nothing : Known
nothing = record { a = None; b = None; c = None }

-- what is left of a stack behind a word or words
pub record Left : Type 0 where
  pub known : Known
  pub below : List Kind

abbrev pub left : Known → List Kind → Option Left
left o A = Some record { known = o; below = A }

-- an open type is the same each time
abbrev pub agrees : Option Kind → Kind → Bool
agrees None a = true
agrees (Some x) a = same_kind x a

abbrev pub with_a : Kind → Known → Option Known
with_a x o = if agrees o.a x then Some record { a = Some x; b = o.b; c = o.c } else None

abbrev pub with_b : Kind → Known → Option Known
with_b x o = if agrees o.b x then Some record { a = o.a; b = Some x; c = o.c } else None

abbrev pub with_c : Kind → Known → Option Known
with_c x o = if agrees o.c x then Some record { a = o.a; b = o.b; c = Some x } else None

abbrev pub if_known : Bool → Option Known → Option Known
if_known b o = if b then o else None

-- the words behind those of a type, and what is known then
pub record Met : Type 0 where
  pub words : List Word
  pub known : Known

abbrev pub met : List Word → Known → Option Met
met ws o = Some record { words = ws; known = o }

abbrev pub if_met : Bool → Option Met → Option Met
if_met b m = if b then m else None

abbrev pub met_known : List Word → Option Known → Option Met
met_known ws o = option_and_then (λ o. met ws o) o

-- a word of a type without parts
abbrev pub is_plain : Word → Kind → Bool
is_plain w.Unit t.unit = true
is_plain w.Never t.never = true
is_plain w.Bool t.bool = true
is_plain w.Int t.int = true
is_plain w.Nat t.nat = true
is_plain w.String t.string = true
is_plain w.Bytes t.bytes = true
is_plain w.Mutez t.mutez = true
is_plain w.Timestamp t.timestamp = true
is_plain w.Key t.key = true
is_plain w.KeyHash t.key_hash = true
is_plain w.ChainId t.chain_id = true
is_plain w.Address t.address = true
is_plain w.Operation k.operation = true
is_plain v a = false

-- a type that is as one word says
abbrev pub alone : Word → List Word → Kind → Known → Option Met
alone w.A ws a o = met_known ws (with_a a o)
alone w.B ws a o = met_known ws (with_b a o)
alone w.C ws a o = met_known ws (with_c a o)
alone w.ComparableA ws a o = met_known ws (if_known (comparable a) (with_a a o))
alone w.PushableA ws a o = met_known ws (if_known (pushable a) (with_a a o))
alone w.PackableA ws a o = met_known ws (if_known (packable a) (with_a a o))
alone w.DuplicableB ws a o = met_known ws (if_known (duplicable a) (with_b a o))
alone v ws a o = if_met (is_plain v a) (met ws o)

-- a type that begins as the words say
abbrev pub meet : List Word → Kind → Known → Option Met
meet [] a o = None
meet (w.Option ∷ ws) (k.option a) o = meet ws a o
meet (w.Option ∷ ws) a o = None
meet (w.List ∷ ws) (k.list a) o = meet ws a o
meet (w.List ∷ ws) a o = None
meet (w.Set ∷ ws) (k.set a) o = meet ws a o
meet (w.Set ∷ ws) a o = None
meet (w.Contract ∷ ws) (k.contract a) o = meet ws a o
meet (w.Contract ∷ ws) a o = None
meet (w.Ticket ∷ ws) (k.ticket a) o = meet ws a o
meet (w.Ticket ∷ ws) a o = None
meet (w.Or ∷ ws) (k.or a b) o = option_and_then (λ m. meet m.words b m.known) (meet ws a o)
meet (w.Or ∷ ws) a o = None
meet (w.Pair ∷ ws) (k.pair a b) o = option_and_then (λ m. meet m.words b m.known) (meet ws a o)
meet (w.Pair ∷ ws) a o = None
meet (w.Map ∷ ws) (k.map a b) o = option_and_then (λ m. meet m.words b m.known) (meet ws a o)
meet (w.Map ∷ ws) a o = None
meet (w.BigMap ∷ ws) (k.big_map a b) o = option_and_then (λ m. meet m.words b m.known) (meet ws a o)
meet (w.BigMap ∷ ws) a o = None
meet (w.Lambda ∷ ws) (k.lambda a b) o = option_and_then (λ m. meet m.words b m.known) (meet ws a o)
meet (w.Lambda ∷ ws) a o = None
meet (v ∷ ws) a o = alone v ws a o

-- a stack that begins as the words say
abbrev pub meets : List Word → List Kind → Known → Option Left
meets [] A o = left o A
meets (v ∷ ws) [] o = None
meets (v ∷ ws) (a ∷ A) o = option_and_then (λ m. meets m.words A m.known) (meet (v ∷ ws) a o)

-- two stacks as a line says: one begins with the first row of words and the other with the second, where each open type is
-- one type in both, and below the two are the same
abbrev pub below_both : List Kind → Option Left → Bool
below_both A None = false
below_both A (Some l) = same_kinds A l.below

abbrev pub after : List Word → List Kind → Option Left → Bool
after vs B None = false
after vs B (Some l) = below_both l.below (meets vs B l.known)

abbrev pub line : List Word → List Word → Known → List Kind → List Kind → Bool
line ws vs o A B = after vs B (meets ws A o)
