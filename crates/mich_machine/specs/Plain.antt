-- Contracts whose storages can hold no ticket, by their type.
use Rattle.std.specs.Prelude.{Bool, false, Option, Some, None}
use Rattle.rules_data.specs.types.Attributes.{duplicable}
use Rattle.mich_world.specs.Storages.{storage_kind}
use Rattle.mich_world.specs.declared.contract.Contract.{Contract}

-- the contract is there, and values of the type of its storage can be copied
abbrev pub is_plain : Option Contract → Bool
is_plain (Some c) = duplicable (storage_kind c.script)
is_plain None = false
