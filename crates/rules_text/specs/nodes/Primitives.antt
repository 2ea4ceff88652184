-- The primitives of Michelson, with their names and codes (Octez "data encoding", the primitives of the
-- Michelson encoding). Both lists are in the order of the codes, from 0 on.
use Rattle.std.specs.Prelude.{ℕ, List, [], ◌∷◌, codes, Option, option_and_then, slice_get}
use Rattle.std.specs.List.{position}
use Rattle.std.specs.Str.{bytes_eq}
use Rattle.rules_text.specs.declared.nodes.Primitive.{Primitive}
use Rattle.rules_text.specs.declared.nodes.Primitive.TheVariants as p

-- each name stands at its code
unfoldable pub primitive_names : List (List ℕ)
primitive_names =
    codes "parameter" ∷
    codes "storage" ∷
    codes "code" ∷
    codes "False" ∷
    codes "Elt" ∷
    codes "Left" ∷
    codes "None" ∷
    codes "Pair" ∷
    codes "Right" ∷
    codes "Some" ∷
    codes "True" ∷
    codes "Unit" ∷
    codes "PACK" ∷
    codes "UNPACK" ∷
    codes "BLAKE2B" ∷
    codes "SHA256" ∷
    codes "SHA512" ∷
    codes "ABS" ∷
    codes "ADD" ∷
    codes "AMOUNT" ∷
    codes "AND" ∷
    codes "BALANCE" ∷
    codes "CAR" ∷
    codes "CDR" ∷
    codes "CHECK_SIGNATURE" ∷
    codes "COMPARE" ∷
    codes "CONCAT" ∷
    codes "CONS" ∷
    codes "CREATE_ACCOUNT" ∷
    codes "CREATE_CONTRACT" ∷
    codes "IMPLICIT_ACCOUNT" ∷
    codes "DIP" ∷
    codes "DROP" ∷
    codes "DUP" ∷
    codes "EDIV" ∷
    codes "EMPTY_MAP" ∷
    codes "EMPTY_SET" ∷
    codes "EQ" ∷
    codes "EXEC" ∷
    codes "FAILWITH" ∷
    codes "GE" ∷
    codes "GET" ∷
    codes "GT" ∷
    codes "HASH_KEY" ∷
    codes "IF" ∷
    codes "IF_CONS" ∷
    codes "IF_LEFT" ∷
    codes "IF_NONE" ∷
    codes "INT" ∷
    codes "LAMBDA" ∷
    codes "LE" ∷
    codes "LEFT" ∷
    codes "LOOP" ∷
    codes "LSL" ∷
    codes "LSR" ∷
    codes "LT" ∷
    codes "MAP" ∷
    codes "MEM" ∷
    codes "MUL" ∷
    codes "NEG" ∷
    codes "NEQ" ∷
    codes "NIL" ∷
    codes "NONE" ∷
    codes "NOT" ∷
    codes "NOW" ∷
    codes "OR" ∷
    codes "PAIR" ∷
    codes "PUSH" ∷
    codes "RIGHT" ∷
    codes "SIZE" ∷
    codes "SOME" ∷
    codes "SOURCE" ∷
    codes "SENDER" ∷
    codes "SELF" ∷
    codes "STEPS_TO_QUOTA" ∷
    codes "SUB" ∷
    codes "SWAP" ∷
    codes "TRANSFER_TOKENS" ∷
    codes "SET_DELEGATE" ∷
    codes "UNIT" ∷
    codes "UPDATE" ∷
    codes "XOR" ∷
    codes "ITER" ∷
    codes "LOOP_LEFT" ∷
    codes "ADDRESS" ∷
    codes "CONTRACT" ∷
    codes "ISNAT" ∷
    codes "CAST" ∷
    codes "RENAME" ∷
    codes "bool" ∷
    codes "contract" ∷
    codes "int" ∷
    codes "key" ∷
    codes "key_hash" ∷
    codes "lambda" ∷
    codes "list" ∷
    codes "map" ∷
    codes "big_map" ∷
    codes "nat" ∷
    codes "option" ∷
    codes "or" ∷
    codes "pair" ∷
    codes "set" ∷
    codes "signature" ∷
    codes "string" ∷
    codes "bytes" ∷
    codes "mutez" ∷
    codes "timestamp" ∷
    codes "unit" ∷
    codes "operation" ∷
    codes "address" ∷
    codes "SLICE" ∷
    codes "DIG" ∷
    codes "DUG" ∷
    codes "EMPTY_BIG_MAP" ∷
    codes "APPLY" ∷
    codes "chain_id" ∷
    codes "CHAIN_ID" ∷
    codes "LEVEL" ∷
    codes "SELF_ADDRESS" ∷
    codes "never" ∷
    codes "NEVER" ∷
    codes "UNPAIR" ∷
    codes "VOTING_POWER" ∷
    codes "TOTAL_VOTING_POWER" ∷
    codes "KECCAK" ∷
    codes "SHA3" ∷
    codes "PAIRING_CHECK" ∷
    codes "bls12_381_g1" ∷
    codes "bls12_381_g2" ∷
    codes "bls12_381_fr" ∷
    codes "sapling_state" ∷
    codes "sapling_transaction_deprecated" ∷
    codes "SAPLING_EMPTY_STATE" ∷
    codes "SAPLING_VERIFY_UPDATE" ∷
    codes "ticket" ∷
    codes "TICKET_DEPRECATED" ∷
    codes "READ_TICKET" ∷
    codes "SPLIT_TICKET" ∷
    codes "JOIN_TICKETS" ∷
    codes "GET_AND_UPDATE" ∷
    codes "chest" ∷
    codes "chest_key" ∷
    codes "OPEN_CHEST" ∷
    codes "VIEW" ∷
    codes "view" ∷
    codes "constant" ∷
    codes "SUB_MUTEZ" ∷
    codes "tx_rollup_l2_address" ∷
    codes "MIN_BLOCK_TIME" ∷
    codes "sapling_transaction" ∷
    codes "EMIT" ∷
    codes "Lambda_rec" ∷
    codes "LAMBDA_REC" ∷
    codes "TICKET" ∷
    codes "BYTES" ∷
    codes "NAT" ∷
    []

-- each primitive stands at its code
unfoldable pub primitives : List Primitive
primitives =
    p.SectionParameter ∷
    p.SectionStorage ∷
    p.SectionCode ∷
    p.DataFalse ∷
    p.DataElt ∷
    p.DataLeft ∷
    p.DataNone ∷
    p.DataPair ∷
    p.DataRight ∷
    p.DataSome ∷
    p.DataTrue ∷
    p.DataUnit ∷
    p.OpPack ∷
    p.OpUnpack ∷
    p.OpBlake2b ∷
    p.OpSha256 ∷
    p.OpSha512 ∷
    p.OpAbs ∷
    p.OpAdd ∷
    p.OpAmount ∷
    p.OpAnd ∷
    p.OpBalance ∷
    p.OpCar ∷
    p.OpCdr ∷
    p.OpCheckSignature ∷
    p.OpCompare ∷
    p.OpConcat ∷
    p.OpCons ∷
    p.OpCreateAccount ∷
    p.OpCreateContract ∷
    p.OpImplicitAccount ∷
    p.OpDip ∷
    p.OpDrop ∷
    p.OpDup ∷
    p.OpEdiv ∷
    p.OpEmptyMap ∷
    p.OpEmptySet ∷
    p.OpEq ∷
    p.OpExec ∷
    p.OpFailwith ∷
    p.OpGe ∷
    p.OpGet ∷
    p.OpGt ∷
    p.OpHashKey ∷
    p.OpIf ∷
    p.OpIfCons ∷
    p.OpIfLeft ∷
    p.OpIfNone ∷
    p.OpInt ∷
    p.OpLambda ∷
    p.OpLe ∷
    p.OpLeft ∷
    p.OpLoop ∷
    p.OpLsl ∷
    p.OpLsr ∷
    p.OpLt ∷
    p.OpMap ∷
    p.OpMem ∷
    p.OpMul ∷
    p.OpNeg ∷
    p.OpNeq ∷
    p.OpNil ∷
    p.OpNone ∷
    p.OpNot ∷
    p.OpNow ∷
    p.OpOr ∷
    p.OpPair ∷
    p.OpPush ∷
    p.OpRight ∷
    p.OpSize ∷
    p.OpSome ∷
    p.OpSource ∷
    p.OpSender ∷
    p.OpSelf ∷
    p.OpStepsToQuota ∷
    p.OpSub ∷
    p.OpSwap ∷
    p.OpTransferTokens ∷
    p.OpSetDelegate ∷
    p.OpUnit ∷
    p.OpUpdate ∷
    p.OpXor ∷
    p.OpIter ∷
    p.OpLoopLeft ∷
    p.OpAddress ∷
    p.OpContract ∷
    p.OpIsnat ∷
    p.OpCast ∷
    p.OpRename ∷
    p.TypeBool ∷
    p.TypeContract ∷
    p.TypeInt ∷
    p.TypeKey ∷
    p.TypeKeyHash ∷
    p.TypeLambda ∷
    p.TypeList ∷
    p.TypeMap ∷
    p.TypeBigMap ∷
    p.TypeNat ∷
    p.TypeOption ∷
    p.TypeOr ∷
    p.TypePair ∷
    p.TypeSet ∷
    p.TypeSignature ∷
    p.TypeString ∷
    p.TypeBytes ∷
    p.TypeMutez ∷
    p.TypeTimestamp ∷
    p.TypeUnit ∷
    p.TypeOperation ∷
    p.TypeAddress ∷
    p.OpSlice ∷
    p.OpDig ∷
    p.OpDug ∷
    p.OpEmptyBigMap ∷
    p.OpApply ∷
    p.TypeChainId ∷
    p.OpChainId ∷
    p.OpLevel ∷
    p.OpSelfAddress ∷
    p.TypeNever ∷
    p.OpNever ∷
    p.OpUnpair ∷
    p.OpVotingPower ∷
    p.OpTotalVotingPower ∷
    p.OpKeccak ∷
    p.OpSha3 ∷
    p.OpPairingCheck ∷
    p.TypeBls12381G1 ∷
    p.TypeBls12381G2 ∷
    p.TypeBls12381Fr ∷
    p.TypeSaplingState ∷
    p.TypeSaplingTransactionDeprecated ∷
    p.OpSaplingEmptyState ∷
    p.OpSaplingVerifyUpdate ∷
    p.TypeTicket ∷
    p.OpTicketDeprecated ∷
    p.OpReadTicket ∷
    p.OpSplitTicket ∷
    p.OpJoinTickets ∷
    p.OpGetAndUpdate ∷
    p.TypeChest ∷
    p.TypeChestKey ∷
    p.OpOpenChest ∷
    p.OpView ∷
    p.SectionView ∷
    p.GlobalConstant ∷
    p.OpSubMutez ∷
    p.TypeTxRollupL2Address ∷
    p.OpMinBlockTime ∷
    p.TypeSaplingTransaction ∷
    p.OpEmit ∷
    p.DataLambdaRec ∷
    p.OpLambdaRec ∷
    p.OpTicket ∷
    p.OpBytes ∷
    p.OpNat ∷
    []

-- the code of a primitive
unfoldable pub code_of_primitive : Primitive → ℕ
code_of_primitive p.SectionParameter = 0
code_of_primitive p.SectionStorage = 1
code_of_primitive p.SectionCode = 2
code_of_primitive p.DataFalse = 3
code_of_primitive p.DataElt = 4
code_of_primitive p.DataLeft = 5
code_of_primitive p.DataNone = 6
code_of_primitive p.DataPair = 7
code_of_primitive p.DataRight = 8
code_of_primitive p.DataSome = 9
code_of_primitive p.DataTrue = 10
code_of_primitive p.DataUnit = 11
code_of_primitive p.OpPack = 12
code_of_primitive p.OpUnpack = 13
code_of_primitive p.OpBlake2b = 14
code_of_primitive p.OpSha256 = 15
code_of_primitive p.OpSha512 = 16
code_of_primitive p.OpAbs = 17
code_of_primitive p.OpAdd = 18
code_of_primitive p.OpAmount = 19
code_of_primitive p.OpAnd = 20
code_of_primitive p.OpBalance = 21
code_of_primitive p.OpCar = 22
code_of_primitive p.OpCdr = 23
code_of_primitive p.OpCheckSignature = 24
code_of_primitive p.OpCompare = 25
code_of_primitive p.OpConcat = 26
code_of_primitive p.OpCons = 27
code_of_primitive p.OpCreateAccount = 28
code_of_primitive p.OpCreateContract = 29
code_of_primitive p.OpImplicitAccount = 30
code_of_primitive p.OpDip = 31
code_of_primitive p.OpDrop = 32
code_of_primitive p.OpDup = 33
code_of_primitive p.OpEdiv = 34
code_of_primitive p.OpEmptyMap = 35
code_of_primitive p.OpEmptySet = 36
code_of_primitive p.OpEq = 37
code_of_primitive p.OpExec = 38
code_of_primitive p.OpFailwith = 39
code_of_primitive p.OpGe = 40
code_of_primitive p.OpGet = 41
code_of_primitive p.OpGt = 42
code_of_primitive p.OpHashKey = 43
code_of_primitive p.OpIf = 44
code_of_primitive p.OpIfCons = 45
code_of_primitive p.OpIfLeft = 46
code_of_primitive p.OpIfNone = 47
code_of_primitive p.OpInt = 48
code_of_primitive p.OpLambda = 49
code_of_primitive p.OpLe = 50
code_of_primitive p.OpLeft = 51
code_of_primitive p.OpLoop = 52
code_of_primitive p.OpLsl = 53
code_of_primitive p.OpLsr = 54
code_of_primitive p.OpLt = 55
code_of_primitive p.OpMap = 56
code_of_primitive p.OpMem = 57
code_of_primitive p.OpMul = 58
code_of_primitive p.OpNeg = 59
code_of_primitive p.OpNeq = 60
code_of_primitive p.OpNil = 61
code_of_primitive p.OpNone = 62
code_of_primitive p.OpNot = 63
code_of_primitive p.OpNow = 64
code_of_primitive p.OpOr = 65
code_of_primitive p.OpPair = 66
code_of_primitive p.OpPush = 67
code_of_primitive p.OpRight = 68
code_of_primitive p.OpSize = 69
code_of_primitive p.OpSome = 70
code_of_primitive p.OpSource = 71
code_of_primitive p.OpSender = 72
code_of_primitive p.OpSelf = 73
code_of_primitive p.OpStepsToQuota = 74
code_of_primitive p.OpSub = 75
code_of_primitive p.OpSwap = 76
code_of_primitive p.OpTransferTokens = 77
code_of_primitive p.OpSetDelegate = 78
code_of_primitive p.OpUnit = 79
code_of_primitive p.OpUpdate = 80
code_of_primitive p.OpXor = 81
code_of_primitive p.OpIter = 82
code_of_primitive p.OpLoopLeft = 83
code_of_primitive p.OpAddress = 84
code_of_primitive p.OpContract = 85
code_of_primitive p.OpIsnat = 86
code_of_primitive p.OpCast = 87
code_of_primitive p.OpRename = 88
code_of_primitive p.TypeBool = 89
code_of_primitive p.TypeContract = 90
code_of_primitive p.TypeInt = 91
code_of_primitive p.TypeKey = 92
code_of_primitive p.TypeKeyHash = 93
code_of_primitive p.TypeLambda = 94
code_of_primitive p.TypeList = 95
code_of_primitive p.TypeMap = 96
code_of_primitive p.TypeBigMap = 97
code_of_primitive p.TypeNat = 98
code_of_primitive p.TypeOption = 99
code_of_primitive p.TypeOr = 100
code_of_primitive p.TypePair = 101
code_of_primitive p.TypeSet = 102
code_of_primitive p.TypeSignature = 103
code_of_primitive p.TypeString = 104
code_of_primitive p.TypeBytes = 105
code_of_primitive p.TypeMutez = 106
code_of_primitive p.TypeTimestamp = 107
code_of_primitive p.TypeUnit = 108
code_of_primitive p.TypeOperation = 109
code_of_primitive p.TypeAddress = 110
code_of_primitive p.OpSlice = 111
code_of_primitive p.OpDig = 112
code_of_primitive p.OpDug = 113
code_of_primitive p.OpEmptyBigMap = 114
code_of_primitive p.OpApply = 115
code_of_primitive p.TypeChainId = 116
code_of_primitive p.OpChainId = 117
code_of_primitive p.OpLevel = 118
code_of_primitive p.OpSelfAddress = 119
code_of_primitive p.TypeNever = 120
code_of_primitive p.OpNever = 121
code_of_primitive p.OpUnpair = 122
code_of_primitive p.OpVotingPower = 123
code_of_primitive p.OpTotalVotingPower = 124
code_of_primitive p.OpKeccak = 125
code_of_primitive p.OpSha3 = 126
code_of_primitive p.OpPairingCheck = 127
code_of_primitive p.TypeBls12381G1 = 128
code_of_primitive p.TypeBls12381G2 = 129
code_of_primitive p.TypeBls12381Fr = 130
code_of_primitive p.TypeSaplingState = 131
code_of_primitive p.TypeSaplingTransactionDeprecated = 132
code_of_primitive p.OpSaplingEmptyState = 133
code_of_primitive p.OpSaplingVerifyUpdate = 134
code_of_primitive p.TypeTicket = 135
code_of_primitive p.OpTicketDeprecated = 136
code_of_primitive p.OpReadTicket = 137
code_of_primitive p.OpSplitTicket = 138
code_of_primitive p.OpJoinTickets = 139
code_of_primitive p.OpGetAndUpdate = 140
code_of_primitive p.TypeChest = 141
code_of_primitive p.TypeChestKey = 142
code_of_primitive p.OpOpenChest = 143
code_of_primitive p.OpView = 144
code_of_primitive p.SectionView = 145
code_of_primitive p.GlobalConstant = 146
code_of_primitive p.OpSubMutez = 147
code_of_primitive p.TypeTxRollupL2Address = 148
code_of_primitive p.OpMinBlockTime = 149
code_of_primitive p.TypeSaplingTransaction = 150
code_of_primitive p.OpEmit = 151
code_of_primitive p.DataLambdaRec = 152
code_of_primitive p.OpLambdaRec = 153
code_of_primitive p.OpTicket = 154
code_of_primitive p.OpBytes = 155
code_of_primitive p.OpNat = 156

-- the name of a code, if it is a primitive's
unfoldable pub name_of_code : ℕ → Option (List ℕ)
name_of_code code = slice_get primitive_names code

-- the code of a name, if it is a primitive's
unfoldable pub code_of_name : List ℕ → Option ℕ
code_of_name name = position (bytes_eq name) primitive_names

-- the primitive of a code
unfoldable pub primitive_of_code : ℕ → Option Primitive
primitive_of_code code = slice_get primitives code

-- the primitive of a name
unfoldable pub primitive_of_name : List ℕ → Option Primitive
primitive_of_name name = option_and_then primitive_of_code (code_of_name name)
