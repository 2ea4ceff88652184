-- Lemmas on sums over accounts and contracts, and on holdings, texts of types and environments.
pub mod Amounts
pub mod ComparedLiterals
pub mod Entries
pub mod Environments
pub mod Holdings
pub mod Identities
pub mod KindTexts
pub mod More
pub mod Mutez
pub mod ReadKinds
pub mod ReadLiterals
pub mod ReadParts
pub mod ForCallers
