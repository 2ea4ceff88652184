pub mod Answers
pub mod Attributes
pub mod Counted
pub mod Named
pub mod Outlines
pub mod View
