-- The table: for each instruction which stacks stand before and behind it (Michelson reference, "Instructions"). A line has
-- the words of the types on top before it, and of those on top behind it.
use Rattle.std.specs.Prelude.{Bool, false, ◌||◌, ◌&&◌, is_some, List, [], ◌∷◌}
use Rattle.rules_text.specs.declared.nodes.Primitive.{Primitive}
use Rattle.rules_text.specs.declared.nodes.Primitive.TheVariants as p
use Rattle.rules_data.specs.types.Kind.{Kind}
use Rattle.mich_cert.specs.Words.{Known, nothing, line, meets}
use Rattle.mich_cert.specs.declared.words.Word.TheVariants as w

-- the order of the stack
abbrev pub stack : Primitive → List Kind → List Kind → Bool
stack p.OpSwap A B = line (w.A ∷ w.B ∷ []) (w.B ∷ w.A ∷ []) nothing A B
stack p.OpUnit A B = line [] (w.Unit ∷ []) nothing A B
stack p.OpRename A B = line (w.A ∷ []) (w.A ∷ []) nothing A B
stack op A B = false

-- pairs, unions, options and lists
abbrev pub parts : Primitive → List Kind → List Kind → Bool
parts p.OpCar A B = line (w.Pair ∷ w.A ∷ w.B ∷ []) (w.A ∷ []) nothing A B
parts p.OpCdr A B = line (w.Pair ∷ w.A ∷ w.B ∷ []) (w.B ∷ []) nothing A B
parts p.OpSome A B = line (w.A ∷ []) (w.Option ∷ w.A ∷ []) nothing A B
parts p.OpCons A B = line (w.A ∷ w.List ∷ w.A ∷ []) (w.List ∷ w.A ∷ []) nothing A B
parts op A B = false

-- sets, maps and big maps, and what has a size
abbrev pub collections : Primitive → List Kind → List Kind → Bool
collections p.OpSize A B = line (w.List ∷ w.A ∷ []) (w.Nat ∷ []) nothing A B || line (w.Set ∷ w.A ∷ []) (w.Nat ∷ []) nothing A B || line (w.Map ∷ w.A ∷ w.B ∷ []) (w.Nat ∷ []) nothing A B || line (w.String ∷ []) (w.Nat ∷ []) nothing A B || line (w.Bytes ∷ []) (w.Nat ∷ []) nothing A B
collections p.OpMem A B = line (w.A ∷ w.Set ∷ w.A ∷ []) (w.Bool ∷ []) nothing A B || line (w.A ∷ w.Map ∷ w.A ∷ w.B ∷ []) (w.Bool ∷ []) nothing A B || line (w.A ∷ w.BigMap ∷ w.A ∷ w.B ∷ []) (w.Bool ∷ []) nothing A B
collections p.OpGet A B = line (w.A ∷ w.Map ∷ w.A ∷ w.DuplicableB ∷ []) (w.Option ∷ w.B ∷ []) nothing A B || line (w.A ∷ w.BigMap ∷ w.A ∷ w.DuplicableB ∷ []) (w.Option ∷ w.B ∷ []) nothing A B
collections p.OpUpdate A B = line (w.A ∷ w.Bool ∷ w.Set ∷ w.A ∷ []) (w.Set ∷ w.A ∷ []) nothing A B || line (w.A ∷ w.Option ∷ w.B ∷ w.Map ∷ w.A ∷ w.B ∷ []) (w.Map ∷ w.A ∷ w.B ∷ []) nothing A B || line (w.A ∷ w.Option ∷ w.B ∷ w.BigMap ∷ w.A ∷ w.B ∷ []) (w.BigMap ∷ w.A ∷ w.B ∷ []) nothing A B
collections p.OpGetAndUpdate A B = line (w.A ∷ w.Option ∷ w.B ∷ w.Map ∷ w.A ∷ w.B ∷ []) (w.Option ∷ w.B ∷ w.Map ∷ w.A ∷ w.B ∷ []) nothing A B || line (w.A ∷ w.Option ∷ w.B ∷ w.BigMap ∷ w.A ∷ w.B ∷ []) (w.Option ∷ w.B ∷ w.BigMap ∷ w.A ∷ w.B ∷ []) nothing A B
collections op A B = false

-- arithmetic
abbrev pub numbers : Primitive → List Kind → List Kind → Bool
numbers p.OpAdd A B = line (w.Nat ∷ w.Nat ∷ []) (w.Nat ∷ []) nothing A B || line (w.Nat ∷ w.Int ∷ []) (w.Int ∷ []) nothing A B || line (w.Int ∷ w.Nat ∷ []) (w.Int ∷ []) nothing A B || line (w.Int ∷ w.Int ∷ []) (w.Int ∷ []) nothing A B || line (w.Timestamp ∷ w.Int ∷ []) (w.Timestamp ∷ []) nothing A B || line (w.Int ∷ w.Timestamp ∷ []) (w.Timestamp ∷ []) nothing A B || line (w.Mutez ∷ w.Mutez ∷ []) (w.Mutez ∷ []) nothing A B
numbers p.OpSub A B = line (w.Nat ∷ w.Nat ∷ []) (w.Int ∷ []) nothing A B || line (w.Nat ∷ w.Int ∷ []) (w.Int ∷ []) nothing A B || line (w.Int ∷ w.Nat ∷ []) (w.Int ∷ []) nothing A B || line (w.Int ∷ w.Int ∷ []) (w.Int ∷ []) nothing A B || line (w.Timestamp ∷ w.Int ∷ []) (w.Timestamp ∷ []) nothing A B || line (w.Timestamp ∷ w.Timestamp ∷ []) (w.Int ∷ []) nothing A B
numbers p.OpSubMutez A B = line (w.Mutez ∷ w.Mutez ∷ []) (w.Option ∷ w.Mutez ∷ []) nothing A B
numbers p.OpMul A B = line (w.Nat ∷ w.Nat ∷ []) (w.Nat ∷ []) nothing A B || line (w.Nat ∷ w.Int ∷ []) (w.Int ∷ []) nothing A B || line (w.Int ∷ w.Nat ∷ []) (w.Int ∷ []) nothing A B || line (w.Int ∷ w.Int ∷ []) (w.Int ∷ []) nothing A B || line (w.Mutez ∷ w.Nat ∷ []) (w.Mutez ∷ []) nothing A B || line (w.Nat ∷ w.Mutez ∷ []) (w.Mutez ∷ []) nothing A B
numbers p.OpEdiv A B = line (w.Nat ∷ w.Nat ∷ []) (w.Option ∷ w.Pair ∷ w.Nat ∷ w.Nat ∷ []) nothing A B || line (w.Nat ∷ w.Int ∷ []) (w.Option ∷ w.Pair ∷ w.Int ∷ w.Nat ∷ []) nothing A B || line (w.Int ∷ w.Nat ∷ []) (w.Option ∷ w.Pair ∷ w.Int ∷ w.Nat ∷ []) nothing A B || line (w.Int ∷ w.Int ∷ []) (w.Option ∷ w.Pair ∷ w.Int ∷ w.Nat ∷ []) nothing A B || line (w.Mutez ∷ w.Nat ∷ []) (w.Option ∷ w.Pair ∷ w.Mutez ∷ w.Mutez ∷ []) nothing A B || line (w.Mutez ∷ w.Mutez ∷ []) (w.Option ∷ w.Pair ∷ w.Nat ∷ w.Mutez ∷ []) nothing A B
numbers p.OpAbs A B = line (w.Int ∷ []) (w.Nat ∷ []) nothing A B
numbers p.OpNeg A B = line (w.Nat ∷ []) (w.Int ∷ []) nothing A B || line (w.Int ∷ []) (w.Int ∷ []) nothing A B
numbers p.OpInt A B = line (w.Nat ∷ []) (w.Int ∷ []) nothing A B || line (w.Bytes ∷ []) (w.Int ∷ []) nothing A B
numbers p.OpNat A B = line (w.Bytes ∷ []) (w.Nat ∷ []) nothing A B
numbers p.OpBytes A B = line (w.Nat ∷ []) (w.Bytes ∷ []) nothing A B || line (w.Int ∷ []) (w.Bytes ∷ []) nothing A B
numbers p.OpIsnat A B = line (w.Int ∷ []) (w.Option ∷ w.Nat ∷ []) nothing A B
numbers p.OpLsl A B = line (w.Nat ∷ w.Nat ∷ []) (w.Nat ∷ []) nothing A B
numbers p.OpLsr A B = line (w.Nat ∷ w.Nat ∷ []) (w.Nat ∷ []) nothing A B
numbers op A B = false

-- truth values and bits, and comparison
abbrev pub logic : Primitive → List Kind → List Kind → Bool
logic p.OpAnd A B = line (w.Bool ∷ w.Bool ∷ []) (w.Bool ∷ []) nothing A B || line (w.Nat ∷ w.Nat ∷ []) (w.Nat ∷ []) nothing A B || line (w.Int ∷ w.Nat ∷ []) (w.Nat ∷ []) nothing A B
logic p.OpOr A B = line (w.Bool ∷ w.Bool ∷ []) (w.Bool ∷ []) nothing A B || line (w.Nat ∷ w.Nat ∷ []) (w.Nat ∷ []) nothing A B
logic p.OpXor A B = line (w.Bool ∷ w.Bool ∷ []) (w.Bool ∷ []) nothing A B || line (w.Nat ∷ w.Nat ∷ []) (w.Nat ∷ []) nothing A B
logic p.OpNot A B = line (w.Bool ∷ []) (w.Bool ∷ []) nothing A B || line (w.Nat ∷ []) (w.Int ∷ []) nothing A B || line (w.Int ∷ []) (w.Int ∷ []) nothing A B
logic p.OpCompare A B = line (w.ComparableA ∷ w.A ∷ []) (w.Int ∷ []) nothing A B
logic p.OpEq A B = line (w.Int ∷ []) (w.Bool ∷ []) nothing A B
logic p.OpNeq A B = line (w.Int ∷ []) (w.Bool ∷ []) nothing A B
logic p.OpLt A B = line (w.Int ∷ []) (w.Bool ∷ []) nothing A B
logic p.OpGt A B = line (w.Int ∷ []) (w.Bool ∷ []) nothing A B
logic p.OpLe A B = line (w.Int ∷ []) (w.Bool ∷ []) nothing A B
logic p.OpGe A B = line (w.Int ∷ []) (w.Bool ∷ []) nothing A B
logic op A B = false

-- strings and bytes, packing and hashes
abbrev pub texts : Primitive → List Kind → List Kind → Bool
texts p.OpConcat A B = line (w.String ∷ w.String ∷ []) (w.String ∷ []) nothing A B || line (w.Bytes ∷ w.Bytes ∷ []) (w.Bytes ∷ []) nothing A B || line (w.List ∷ w.String ∷ []) (w.String ∷ []) nothing A B || line (w.List ∷ w.Bytes ∷ []) (w.Bytes ∷ []) nothing A B
texts p.OpSlice A B = line (w.Nat ∷ w.Nat ∷ w.String ∷ []) (w.Option ∷ w.String ∷ []) nothing A B || line (w.Nat ∷ w.Nat ∷ w.Bytes ∷ []) (w.Option ∷ w.Bytes ∷ []) nothing A B
texts p.OpPack A B = line (w.PackableA ∷ []) (w.Bytes ∷ []) nothing A B
texts p.OpBlake2b A B = line (w.Bytes ∷ []) (w.Bytes ∷ []) nothing A B
texts p.OpSha256 A B = line (w.Bytes ∷ []) (w.Bytes ∷ []) nothing A B
texts p.OpSha512 A B = line (w.Bytes ∷ []) (w.Bytes ∷ []) nothing A B
texts p.OpHashKey A B = line (w.Key ∷ []) (w.KeyHash ∷ []) nothing A B
texts op A B = false

-- what surrounds a run
abbrev pub surroundings : Primitive → List Kind → List Kind → Bool
surroundings p.OpAmount A B = line [] (w.Mutez ∷ []) nothing A B
surroundings p.OpBalance A B = line [] (w.Mutez ∷ []) nothing A B
surroundings p.OpSender A B = line [] (w.Address ∷ []) nothing A B
surroundings p.OpSource A B = line [] (w.Address ∷ []) nothing A B
surroundings p.OpSelfAddress A B = line [] (w.Address ∷ []) nothing A B
surroundings p.OpNow A B = line [] (w.Timestamp ∷ []) nothing A B
surroundings p.OpLevel A B = line [] (w.Nat ∷ []) nothing A B
surroundings p.OpChainId A B = line [] (w.ChainId ∷ []) nothing A B
surroundings op A B = false

-- contracts, operations and tickets; lambdas
abbrev pub operations : Primitive → List Kind → List Kind → Bool
operations p.OpAddress A B = line (w.Contract ∷ w.A ∷ []) (w.Address ∷ []) nothing A B
operations p.OpImplicitAccount A B = line (w.KeyHash ∷ []) (w.Contract ∷ w.Unit ∷ []) nothing A B
operations p.OpTransferTokens A B = line (w.A ∷ w.Mutez ∷ w.Contract ∷ w.A ∷ []) (w.Operation ∷ []) nothing A B
operations p.OpEmit A B = line (w.PushableA ∷ []) (w.Operation ∷ []) nothing A B
operations p.OpTicket A B = line (w.ComparableA ∷ w.Nat ∷ []) (w.Option ∷ w.Ticket ∷ w.A ∷ []) nothing A B
operations p.OpReadTicket A B = line (w.Ticket ∷ w.A ∷ []) (w.Pair ∷ w.Address ∷ w.Pair ∷ w.A ∷ w.Nat ∷ w.Ticket ∷ w.A ∷ []) nothing A B
operations p.OpSplitTicket A B = line (w.Ticket ∷ w.A ∷ w.Pair ∷ w.Nat ∷ w.Nat ∷ []) (w.Option ∷ w.Pair ∷ w.Ticket ∷ w.A ∷ w.Ticket ∷ w.A ∷ []) nothing A B
operations p.OpJoinTickets A B = line (w.Pair ∷ w.Ticket ∷ w.A ∷ w.Ticket ∷ w.A ∷ []) (w.Option ∷ w.Ticket ∷ w.A ∷ []) nothing A B
operations p.OpExec A B = line (w.A ∷ w.Lambda ∷ w.A ∷ w.B ∷ []) (w.B ∷ []) nothing A B
operations p.OpApply A B = line (w.PushableA ∷ w.Lambda ∷ w.Pair ∷ w.A ∷ w.B ∷ w.C ∷ []) (w.Lambda ∷ w.B ∷ w.C ∷ []) nothing A B
operations op A B = false

-- an instruction without arguments
abbrev pub plain : Primitive → List Kind → List Kind → Bool
plain op A B = stack op A B || parts op A B || collections op A B || numbers op A B || logic op A B || texts op A B || surroundings op A B || operations op A B

-- an instruction that one type is written in, or two: the open types of its line
abbrev pub written : Primitive → Known → List Kind → List Kind → Bool
written p.OpCast o A B = line (w.A ∷ []) (w.A ∷ []) o A B
written p.OpLeft o A B = line (w.B ∷ []) (w.Or ∷ w.B ∷ w.A ∷ []) o A B
written p.OpRight o A B = line (w.B ∷ []) (w.Or ∷ w.A ∷ w.B ∷ []) o A B
written p.OpNone o A B = line [] (w.Option ∷ w.A ∷ []) o A B
written p.OpNil o A B = line [] (w.List ∷ w.A ∷ []) o A B
written p.OpEmptySet o A B = line [] (w.Set ∷ w.A ∷ []) o A B
written p.OpEmptyMap o A B = line [] (w.Map ∷ w.A ∷ w.B ∷ []) o A B
written p.OpEmptyBigMap o A B = line [] (w.BigMap ∷ w.A ∷ w.B ∷ []) o A B
written p.OpUnpack o A B = line (w.Bytes ∷ []) (w.Option ∷ w.A ∷ []) o A B
written p.OpContract o A B = line (w.Address ∷ []) (w.Option ∷ w.Contract ∷ w.A ∷ []) o A B
written p.OpEmit o A B = line (w.PushableA ∷ []) (w.Operation ∷ []) o A B
written p.OpView o A B = line (w.B ∷ w.Address ∷ []) (w.Option ∷ w.A ∷ []) o A B
written p.OpPush o A B = line [] (w.A ∷ []) o A B
written p.OpLambda o A B = line [] (w.Lambda ∷ w.A ∷ w.B ∷ []) o A B
written p.OpLambdaRec o A B = line [] (w.Lambda ∷ w.A ∷ w.B ∷ []) o A B
written p.OpSelf o A B = line [] (w.Contract ∷ w.A ∷ []) o A B
written p.OpCreateContract o A B = line (w.Option ∷ w.KeyHash ∷ w.Mutez ∷ w.A ∷ []) (w.Operation ∷ w.Address ∷ []) o A B
written op o A B = false

-- with which stacks the two branches of an instruction begin
abbrev pub branch_begins : Primitive → List Kind → List Kind → List Kind → Bool
branch_begins p.OpIf A B C = line (w.Bool ∷ []) [] nothing A B && line (w.Bool ∷ []) [] nothing A C
branch_begins p.OpIfNone A B C = line (w.Option ∷ w.A ∷ []) [] nothing A B && line (w.Option ∷ w.A ∷ []) (w.A ∷ []) nothing A C
branch_begins p.OpIfLeft A B C = line (w.Or ∷ w.A ∷ w.B ∷ []) (w.A ∷ []) nothing A B && line (w.Or ∷ w.A ∷ w.B ∷ []) (w.B ∷ []) nothing A C
branch_begins p.OpIfCons A B C = line (w.List ∷ w.A ∷ []) (w.A ∷ w.List ∷ w.A ∷ []) nothing A B && line (w.List ∷ w.A ∷ []) [] nothing A C
branch_begins op A B C = false

-- with which stack the body of a loop begins
abbrev pub begins : Primitive → List Kind → List Kind → Bool
begins p.OpLoop A B = line (w.Bool ∷ []) [] nothing A B
begins p.OpLoopLeft A B = line (w.Or ∷ w.A ∷ w.B ∷ []) (w.A ∷ []) nothing A B
begins p.OpIter A B = (line (w.List ∷ w.A ∷ []) (w.A ∷ []) nothing A B || line (w.Set ∷ w.A ∷ []) (w.A ∷ []) nothing A B || line (w.Map ∷ w.A ∷ w.B ∷ []) (w.Pair ∷ w.A ∷ w.B ∷ []) nothing A B)
begins op A B = false

-- with which stack the body of a loop ends, where it does not fail
abbrev pub ends : Primitive → List Kind → List Kind → Bool
ends p.OpLoop A B = line [] [] nothing A B
ends p.OpLoopLeft A B = line [] [] nothing A B
ends p.OpIter A B = line (w.A ∷ []) [] nothing A B
ends op A B = false

-- which stack a loop leaves
abbrev pub leaves : Primitive → List Kind → List Kind → Bool
leaves p.OpLoop A B = line (w.Bool ∷ []) [] nothing A B
leaves p.OpLoopLeft A B = line (w.Or ∷ w.A ∷ w.B ∷ []) (w.B ∷ []) nothing A B
leaves p.OpIter A B = line (w.A ∷ []) [] nothing A B
leaves op A B = false

-- MAP, by the stack before it, those that its body begins and ends with, and the one after it
abbrev pub mapped : List Kind → List Kind → List Kind → List Kind → Bool
mapped A B C D =
    (line (w.List ∷ w.A ∷ []) (w.A ∷ []) nothing A B && line (w.List ∷ w.A ∷ []) (w.List ∷ w.B ∷ []) nothing A D && line (w.A ∷ []) (w.List ∷ w.A ∷ []) nothing C D) || (line (w.Option ∷ w.A ∷ []) (w.A ∷ []) nothing A B && line (w.Option ∷ w.A ∷ []) (w.Option ∷ w.B ∷ []) nothing A D && line (w.A ∷ []) (w.Option ∷ w.A ∷ []) nothing C D) || (line (w.Map ∷ w.A ∷ w.B ∷ []) (w.Pair ∷ w.A ∷ w.B ∷ []) nothing A B && line (w.Map ∷ w.A ∷ w.B ∷ []) (w.Map ∷ w.A ∷ w.C ∷ []) nothing A D && line (w.B ∷ []) (w.Map ∷ w.A ∷ w.B ∷ []) nothing C D)

-- whether an instruction without arguments fails on a stack
abbrev pub failing : Primitive → List Kind → Bool
failing p.OpFailwith A = is_some (meets (w.PushableA ∷ []) A nothing)
failing p.OpNever A = is_some (meets (w.Never ∷ []) A nothing)
failing op A = false
