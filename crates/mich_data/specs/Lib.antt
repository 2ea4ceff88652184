pub mod View
pub mod Written
pub mod Wrapped
pub mod Answers
pub mod Whole
