pub mod Aligned
pub mod Exact
pub mod Minted
pub mod ForCallers
