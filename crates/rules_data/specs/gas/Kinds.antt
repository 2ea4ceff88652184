-- The kinds of cost, by name and by place.
use Rattle.std.specs.Prelude.{ℕ, List, [], ◌∷◌, codes, Bool, ◌==◌, Option, option_map}
use Rattle.std.specs.List.{find}
use Rattle.std.specs.Str.{bytes_eq}
use Rattle.rules_data.specs.declared.gas.Kind.{Kind}
use Rattle.rules_data.specs.declared.gas.Kind.TheVariants as k

-- the names of the kinds, in the order of their bytes: an instruction's is its own (Michelson reference, "Instructions")
unfoldable pub kinds_by_name : List (List ℕ × Kind)
kinds_by_name =
    (codes "ABS", k.Abs) ∷
    (codes "ADD", k.Add) ∷
    (codes "ADDRESS", k.Address) ∷
    (codes "AMOUNT", k.Amount) ∷
    (codes "AND", k.And) ∷
    (codes "APPLY", k.Apply) ∷
    (codes "BALANCE", k.Balance) ∷
    (codes "BLAKE2B", k.Blake2b) ∷
    (codes "BYTES", k.Bytes) ∷
    (codes "CAR", k.Car) ∷
    (codes "CAST", k.Cast) ∷
    (codes "CDR", k.Cdr) ∷
    (codes "CHAIN_ID", k.ChainId) ∷
    (codes "COMPARE", k.Compare) ∷
    (codes "CONCAT", k.Concat) ∷
    (codes "CONS", k.Cons) ∷
    (codes "CONTRACT", k.Contract) ∷
    (codes "CREATE_CONTRACT", k.CreateContract) ∷
    (codes "DIG", k.Dig) ∷
    (codes "DIP", k.Dip) ∷
    (codes "DROP", k.Drop) ∷
    (codes "DUG", k.Dug) ∷
    (codes "DUP", k.Dup) ∷
    (codes "EDIV", k.Ediv) ∷
    (codes "EMIT", k.Emit) ∷
    (codes "EMPTY_BIG_MAP", k.EmptyBigMap) ∷
    (codes "EMPTY_MAP", k.EmptyMap) ∷
    (codes "EMPTY_SET", k.EmptySet) ∷
    (codes "EQ", k.Eq) ∷
    (codes "EXEC", k.Exec) ∷
    (codes "Event", k.Event) ∷
    (codes "FAILWITH", k.Failwith) ∷
    (codes "GE", k.Ge) ∷
    (codes "GET", k.Get) ∷
    (codes "GET_AND_UPDATE", k.GetAndUpdate) ∷
    (codes "GT", k.Gt) ∷
    (codes "HASH_KEY", k.HashKey) ∷
    (codes "IF", k.If) ∷
    (codes "IF_CONS", k.IfCons) ∷
    (codes "IF_LEFT", k.IfLeft) ∷
    (codes "IF_NONE", k.IfNone) ∷
    (codes "IMPLICIT_ACCOUNT", k.ImplicitAccount) ∷
    (codes "INT", k.Int) ∷
    (codes "ISNAT", k.Isnat) ∷
    (codes "ITER", k.Iter) ∷
    (codes "JOIN_TICKETS", k.JoinTickets) ∷
    (codes "LAMBDA", k.Lambda) ∷
    (codes "LAMBDA_REC", k.LambdaRec) ∷
    (codes "LE", k.Le) ∷
    (codes "LEFT", k.Left) ∷
    (codes "LEVEL", k.Level) ∷
    (codes "LOOP", k.Loop) ∷
    (codes "LOOP_LEFT", k.LoopLeft) ∷
    (codes "LSL", k.Lsl) ∷
    (codes "LSR", k.Lsr) ∷
    (codes "LT", k.Lt) ∷
    (codes "MAP", k.Map) ∷
    (codes "MEM", k.Mem) ∷
    (codes "MUL", k.Mul) ∷
    (codes "NAT", k.Nat) ∷
    (codes "NEG", k.Neg) ∷
    (codes "NEQ", k.Neq) ∷
    (codes "NEVER", k.Never) ∷
    (codes "NIL", k.Nil) ∷
    (codes "NONE", k.None) ∷
    (codes "NOT", k.Not) ∷
    (codes "NOW", k.Now) ∷
    (codes "OR", k.Or) ∷
    (codes "Origination", k.Origination) ∷
    (codes "PACK", k.Pack) ∷
    (codes "PAIR", k.Pair) ∷
    (codes "PUSH", k.Push) ∷
    (codes "READ_TICKET", k.ReadTicket) ∷
    (codes "RENAME", k.Rename) ∷
    (codes "RIGHT", k.Right) ∷
    (codes "SELF", k.SelfContract) ∷
    (codes "SELF_ADDRESS", k.SelfAddress) ∷
    (codes "SENDER", k.Sender) ∷
    (codes "SHA256", k.Sha256) ∷
    (codes "SHA512", k.Sha512) ∷
    (codes "SIZE", k.Size) ∷
    (codes "SLICE", k.Slice) ∷
    (codes "SOME", k.Some) ∷
    (codes "SOURCE", k.Source) ∷
    (codes "SPLIT_TICKET", k.SplitTicket) ∷
    (codes "SUB", k.Sub) ∷
    (codes "SUB_MUTEZ", k.SubMutez) ∷
    (codes "SWAP", k.Swap) ∷
    (codes "TICKET", k.Ticket) ∷
    (codes "TRANSFER_TOKENS", k.TransferTokens) ∷
    (codes "Transfer", k.Transfer) ∷
    (codes "Turn", k.Turn) ∷
    (codes "UNIT", k.Unit) ∷
    (codes "UNPACK", k.Unpack) ∷
    (codes "UNPAIR", k.Unpair) ∷
    (codes "UPDATE", k.Update) ∷
    (codes "VIEW", k.View) ∷
    (codes "XOR", k.Xor) ∷
    []

-- the kind that a name names
unfoldable pub kind_named : List ℕ → Option Kind
kind_named name = option_map (λ e. e.1) (find (λ e. bytes_eq name e.0) kinds_by_name)

-- the place of a kind among all kinds
abbrev pub place : Kind → ℕ
place k.Abs = 0
place k.Add = 1
place k.Address = 2
place k.Amount = 3
place k.And = 4
place k.Apply = 5
place k.Balance = 6
place k.Blake2b = 7
place k.Bytes = 8
place k.Car = 9
place k.Cast = 10
place k.Cdr = 11
place k.ChainId = 12
place k.Compare = 13
place k.Concat = 14
place k.Cons = 15
place k.Contract = 16
place k.CreateContract = 17
place k.Dig = 18
place k.Dip = 19
place k.Drop = 20
place k.Dug = 21
place k.Dup = 22
place k.Ediv = 23
place k.Emit = 24
place k.EmptyBigMap = 25
place k.EmptyMap = 26
place k.EmptySet = 27
place k.Eq = 28
place k.Exec = 29
place k.Event = 30
place k.Failwith = 31
place k.Ge = 32
place k.Get = 33
place k.GetAndUpdate = 34
place k.Gt = 35
place k.HashKey = 36
place k.If = 37
place k.IfCons = 38
place k.IfLeft = 39
place k.IfNone = 40
place k.ImplicitAccount = 41
place k.Int = 42
place k.Isnat = 43
place k.Iter = 44
place k.JoinTickets = 45
place k.Lambda = 46
place k.LambdaRec = 47
place k.Le = 48
place k.Left = 49
place k.Level = 50
place k.Loop = 51
place k.LoopLeft = 52
place k.Lsl = 53
place k.Lsr = 54
place k.Lt = 55
place k.Map = 56
place k.Mem = 57
place k.Mul = 58
place k.Nat = 59
place k.Neg = 60
place k.Neq = 61
place k.Never = 62
place k.Nil = 63
place k.None = 64
place k.Not = 65
place k.Now = 66
place k.Or = 67
place k.Origination = 68
place k.Pack = 69
place k.Pair = 70
place k.Push = 71
place k.ReadTicket = 72
place k.Rename = 73
place k.Right = 74
place k.SelfContract = 75
place k.SelfAddress = 76
place k.Sender = 77
place k.Sha256 = 78
place k.Sha512 = 79
place k.Size = 80
place k.Slice = 81
place k.Some = 82
place k.Source = 83
place k.SplitTicket = 84
place k.Sub = 85
place k.SubMutez = 86
place k.Swap = 87
place k.Ticket = 88
place k.TransferTokens = 89
place k.Transfer = 90
place k.Turn = 91
place k.Unit = 92
place k.Unpack = 93
place k.Unpair = 94
place k.Update = 95
place k.View = 96
place k.Xor = 97

-- whether two kinds are one
abbrev pub is_same_kind : Kind → Kind → Bool
is_same_kind a b = place a == place b
