-- Lemmas on instructions with bodies: code that is typed leaves what its typing says.
pub mod Branches
pub mod Calls
pub mod Items
pub mod MapTurns
pub mod Mapped
pub mod Promises
pub mod Safe
pub mod Typed
pub mod ForCallers
