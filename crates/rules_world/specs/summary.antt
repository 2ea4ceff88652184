-- What sums up a workload: definitions in specs/.
pub mod Summary
