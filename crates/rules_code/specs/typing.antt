-- Definitions alone: the typing of instructions, of literals with their bodies, and of scripts.
pub mod Typing
pub mod Stacks
pub mod Bodies
pub mod Sections
pub mod Scripts
pub mod Acts
pub mod Nodes
pub mod Literals
pub mod Fits
