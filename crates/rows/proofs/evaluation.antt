-- Worked rows of evaluation, computed by its definitions.
pub mod First
pub mod Tickets
pub mod Views
pub mod Token
pub mod Loops
pub mod Single
pub mod Packed
pub mod Hashing
pub mod Stacking
pub mod Collecting
pub mod Calculating
pub mod Writing
pub mod Asking
pub mod Ticketing
pub mod Controlling
