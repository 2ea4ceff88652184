-- The parser's stack against the grammar.
-- the parser takes every list of statements, and each front of one
pub mod Complete
-- what it holds can be completed to one
pub mod Sound
-- it takes a token exactly where the grammar has one
pub mod Fronts
-- what was read when a statement may end
pub mod Whole
-- no `;` of a statement stands outside its brackets
pub mod Signs
-- the code's stack, whose innermost node is its last
pub mod Stacks
-- the depth of a node as it is written and as it is printed
pub mod Depths
-- a statement has at most as many nodes as bytes
pub mod Sizes
-- a node put together as it is printed stands for itself
pub mod Canon
