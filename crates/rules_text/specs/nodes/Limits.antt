-- The limits, as numbers: the protocol's, and this host's own where a line says so.
use Rattle.std.specs.Prelude.{ℕ, ℤ, pos, ◌^◌, ◌-◌}

-- ---- texts, nodes and types (this host's own)

-- how many bytes a name may have, and an annotation behind its sign
abbrev pub name_limit : ℕ
name_limit = 255

-- how many bytes text and bytes may have
abbrev pub byte_limit : ℕ
byte_limit = 1048576

-- how deep a node may lie
abbrev pub depth_limit : ℕ
depth_limit = 1000

-- how many bytes a statement may have, a file, and an encoded node
abbrev pub statement_limit : ℕ
statement_limit = 16777216

abbrev pub file_limit : ℕ
file_limit = 1073741824

abbrev pub encoded_limit : ℕ
encoded_limit = 268435456

-- how many nodes a type may have, in pairs of two parts
abbrev pub type_limit : ℕ
type_limit = 2000

-- ---- instructions (Michelson reference, "DIP", "DUP", "PAIR" and "GET")

-- the most that a count may be, and the most that the number of a part may be
abbrev pub count_limit : ℕ
count_limit = 1023

abbrev pub part_limit : ℕ
part_limit = 2047

-- ---- runs (this host's own)

-- how many blocks may be open at once
abbrev pub block_limit : ℕ
block_limit = 100000

-- how many nodes and levels the body may have that APPLY makes
abbrev pub applied_size : ℕ
applied_size = 100000

abbrev pub applied_depth : ℕ
applied_depth = depth_limit

-- how many operations may be issued in a group, and how many contents it may have
abbrev pub operation_limit : ℕ
operation_limit = 65535

abbrev pub most_contents : ℕ
most_contents = 1000

-- how much gas a content may have
abbrev pub most_gas : ℕ
most_gas = 10 ^ 10

-- how much gas a part of a price in a table of costs may be
abbrev pub most_price : ℕ
most_price = 1000000

-- ---- amounts (Octez "Operations" and "Tickets")

-- the most mutez
abbrev pub most_mutez : ℕ
most_mutez = 2 ^ 63 - 1

-- the most mutez that a byte of storage may cost
abbrev pub most_rate : ℕ
most_rate = 1000000

-- the most that a ticket may hold, and that may ever be minted of one identity (this host's own)
abbrev pub most_tickets : ℕ
most_tickets = 2 ^ 127 - 1

abbrev pub most_minted : ℤ
most_minted = pos most_tickets

-- the largest level
abbrev pub most_level : ℕ
most_level = 2 ^ 31 - 1
