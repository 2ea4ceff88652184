pub mod Sending
pub mod Stepping
pub mod Turns
pub mod Walks
pub mod Fees
pub mod course_lemmas
