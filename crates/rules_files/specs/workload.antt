-- Definitions of the workload that users measure with. They stand in specs/.
pub mod Workload
