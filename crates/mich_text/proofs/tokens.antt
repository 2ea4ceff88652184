-- Tokens: how each kind is read byte by byte, and what holds of any token and of the gaps between them.
-- what may be said of what was read, and how it passes a test
pub mod Properties
-- runs of bytes that pass a test
pub mod ByteRuns
-- white space and comments
pub mod Gaps
-- names
pub mod Names
-- annotations
pub mod Annotations
-- what a string spells up to its quote
pub mod Spelling
-- strings
pub mod Strings
-- bytes
pub mod Bytes
-- decimal digits and their value
pub mod Digits
-- numbers
pub mod Numbers
-- bytes whose digits have no pair
pub mod Odd
-- what is read of any token lies further on
pub mod Ahead
-- a token has the shape that its first byte tells
pub mod Shapes
-- in one place one token is read, or one flaw
pub mod Read
-- a token with a byte behind it is the same whatever bytes follow
pub mod Stable
-- what ends in a front of a text is read in the front alone
pub mod Cut
-- a flaw that some bytes show, whatever follows them
pub mod Shown
-- what is left behind tokens is the end of the text
pub mod Suffix
-- a string that isn't closed ends with the input
pub mod Flaws
-- what a token that was read is like
pub mod Good
