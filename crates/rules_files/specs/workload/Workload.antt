-- The text of a workload (this host's own): a contract that mints tickets and sends them, one that keeps them, and calls of the first
-- by a sequence of numbers. Each statement stands as it is printed, with `;` and a newline behind it.
use Rattle.std.specs.Prelude.{ℕ, zero, suc, ◌+◌, ◌*◌, ◌/◌, ◌%◌, ◌^◌, ◌==◌, List, [], ◌++◌, codes, if◌then◌else◌}
use Rattle.std.specs.Fmt.{decimal}

-- ---- who is there: an account with all mutez, another one, and the two contracts

abbrev pub first_key_hash : List ℕ
first_key_hash = codes "0x000000000000000000000000000000000000000001"

abbrev pub second_key_hash : List ℕ
second_key_hash = codes "0x000000000000000000000000000000000000000002"

abbrev pub second_account : List ℕ
second_account = codes "0x00000000000000000000000000000000000000000002"

abbrev pub maker : List ℕ
maker = codes "0x01000000000000000100000000000000000000000000"

abbrev pub keeper : List ℕ
keeper = codes "0x01000000000000000100000001000000000000000000"

-- ---- their scripts

-- it mints so many tickets of a content, and sends them to an address
abbrev pub maker_script : List ℕ
maker_script =
    codes "{ parameter (pair address nat nat) ; storage unit ; code { CAR ; UNPAIR 3 ; CONTRACT (ticket nat) ; "
    ++ (codes "IF_NONE { UNIT ; FAILWITH } {} ; DUG 2 ; TICKET ; IF_NONE { UNIT ; FAILWITH } {} ; PUSH mutez 0 ; SWAP ; TRANSFER_TOKENS ; "
    ++ codes "NIL operation ; SWAP ; CONS ; UNIT ; SWAP ; PAIR } }")

-- it joins what it gets to what it has
abbrev pub keeper_script : List ℕ
keeper_script =
    codes "{ parameter (ticket nat) ; storage (option (ticket nat)) ; code { UNPAIR ; SWAP ; "
    ++ codes "IF_NONE {} { PAIR ; JOIN_TICKETS ; IF_NONE { UNIT ; FAILWITH } {} } ; SOME ; NIL operation ; PAIR } }"

-- ---- statements

-- the chain, the accounts, and the group that makes the contracts
abbrev pub beginning : List ℕ
beginning =
    codes "Chain 0x00000001 1 0;\nAccount " ++ (first_key_hash ++ (codes " 1000000000;\nAccount " ++ (second_key_hash ++ (codes " 0;\nGroup "
    ++ (first_key_hash ++ (codes " { Originate 0 1 0 " ++ (maker_script ++ (codes " Unit ; Originate 0 1 0 " ++ (keeper_script ++ codes " None };\n")))))))))

-- the numbers of the sequence, modulo 2^64: x goes to x * 6364136223846793005 + 1442695040888963407
abbrev pub next : ℕ → ℕ
next x = (x * 6364136223846793005 + 1442695040888963407) % 2 ^ 64

-- a call by a number: it says where the tickets go, of which content and how many
abbrev pub destination : ℕ → List ℕ
destination x = if x / 2 ^ 33 % 2 == 1 then keeper else second_account

abbrev pub content : ℕ → ℕ
content x = x / 2 ^ 34 % 2

abbrev pub amount : ℕ → ℕ
amount x = x / 2 ^ 36 % 8

abbrev pub call : ℕ → List ℕ
call x =
    codes "Group " ++ (first_key_hash ++ (codes " { Call 1 1000 0 " ++ (maker ++ (codes " \"default\" (Pair " ++ (destination x
    ++ (codes " " ++ (decimal (content x) ++ (codes " " ++ (decimal (amount x) ++ codes ") };\n")))))))))

-- so many calls, by the numbers behind x
abbrev pub calls : ℕ → ℕ → List ℕ
calls zero x = []
calls (suc n) x = call (next x) ++ calls n (next x)

-- a workload of n calls
abbrev pub scenario : ℕ → List ℕ
scenario n = beginning ++ calls n 0
