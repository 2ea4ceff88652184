-- What the results of this crate stand for.
use Rattle.std.specs.Prelude.{ℕ, ◌+◌, ◌*◌, ℤ, pos, negsuc, Bool, ◌&&◌, nat_le, List, [], ◌∷◌, take, Result, Ok, Err, if◌then◌else◌}
use Rattle.rules_data.specs.numbers.Limits.{Limit, integer_limit, mutez_overflow, shift_limit}
use Rattle.mich_num.specs.declared.spelling.Word.{Word}
use Rattle.mich_num.specs.declared.fault.NumFault.{NumFault}
use Rattle.mich_num.specs.declared.fault.NumFault.TheVariants.{IntegerLimit, MutezOverflow, ShiftLimit}

-- the limit that a fault names
abbrev pub limit : NumFault → Limit
limit IntegerLimit = integer_limit
limit MutezOverflow = mutez_overflow
limit ShiftLimit = shift_limit

-- a result with its fault read as a limit
abbrev pub limited : {X : Type 0} → Result X NumFault → Result X Limit
limited (Ok x) = Ok x
limited (Err fault) = Err (limit fault)

-- the bytes of a word
abbrev pub word_bytes : Word → List ℕ
word_bytes w = take w.len w.bytes

-- what bytes spell before the first of them is read: -1 where they begin a negative int
abbrev pub sign : Bool → List ℕ → ℤ
sign signed [] = pos 0
sign signed (c ∷ b) = if signed && nat_le 128 c then negsuc 0 else pos 0

-- twice an int, or twice its complement and 1 where it is negative
abbrev pub twice : ℤ → ℕ
twice (pos n) = 2 * n
twice (negsuc n) = 2 * n + 1
