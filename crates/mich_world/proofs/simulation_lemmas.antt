pub mod Accounts
pub mod Agreement
pub mod Contracts
pub mod Opening
pub mod Owners
pub mod Runs
pub mod Storages
pub mod ForCallers
