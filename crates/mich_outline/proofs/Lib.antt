pub mod SectionArguments
pub mod Inside
pub mod Moves
pub mod Names
pub mod Shifts
pub mod Steps
pub mod Within
pub mod ForCallers
