-- Lemmas on types that stay well formed as code is typed, and on what a script tells of its code and views.
pub mod Carried
pub mod Outlines
pub mod TypedData
pub mod TypedRows
pub mod TypedRules
pub mod Typings
pub mod ViewBodies
pub mod ForCallers
