-- What is printed is read again.
-- a printed node is read as that node
pub mod Again
-- what a text gives is printed so that it is read again
pub mod Printable
-- what a text gives is no deeper than the limit
pub mod Runs
-- a printed line has only bytes that ASCII prints
pub mod OneLine
-- each node that a text can give is read from its line
pub mod WrittenLines
