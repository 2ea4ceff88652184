-- What the statements of a file do, one after another. Definitions in specs/.
pub mod Course
pub mod Ranges
