-- Worked rows of evaluation, computed by its definitions.
pub mod Told
