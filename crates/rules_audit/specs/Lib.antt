pub mod Same
pub mod Fields
pub mod Lines
pub mod Form
pub mod Verdicts
pub mod Audits
