-- Lemmas on sights of big maps: what a value that fits its type is seen as, whatever lies in its big maps.
pub mod Parts
pub mod Fitting
pub mod Shown
pub mod Seen
pub mod ForCallers
