-- What a text is, from what the parser has read of it.
-- the places that a reading has passed, and those further on
pub mod Reading
-- a statement ends behind all that was read
pub mod Ends
-- each way in which the reader ends
pub mod Verdict
-- where the input ends
pub mod AtEnd
-- block comments that don't end
pub mod Comments
-- faults and statements lie in the text
pub mod Places
-- one token
pub mod Steps
-- the reader's loop
pub mod Loop
-- a text is one thing only
pub mod Unique
-- a statement with its `;` is read again with more bytes behind it
pub mod Fed
-- a statement with its `;`, in a text and in its front
pub mod Closed
