pub mod View
pub mod Scanned
pub mod Built
pub mod Answers
pub mod Entered
