-- The bytes of a snapshot, how they are read, and when what they tell is sound. Definitions in specs/.
pub mod State
pub mod Spelling
pub mod Reading
pub mod Spelt
pub mod Rules
pub mod Loading
pub mod Course
