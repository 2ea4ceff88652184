pub mod workload
pub mod statements
pub mod course
pub mod snapshots
pub mod commands
