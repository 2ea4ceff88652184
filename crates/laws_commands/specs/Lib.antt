pub mod audits
pub mod written
pub mod reached
pub mod resuming
