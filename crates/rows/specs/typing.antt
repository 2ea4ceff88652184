-- Worked rows of typing, computed by its definitions.
pub mod Told
