-- What a text is within the limits of its statement and its file.
-- a condition is a limit's, or one that no limit has a part in
pub mod Sorts
-- the conditions of faults in a text and in its front
pub mod Conditions
-- what a front tells of the text
pub mod Limited
-- a text that is too long at its first limit byte
pub mod Past
-- a text without a limit byte
pub mod Unlimited
-- a `;` that ends a statement has no fault
pub mod LastByte
-- bytes that go on to a limit without a pair for their last digit
pub mod OddBytes
-- a text by its front up to a limit
pub mod Limits
-- what the reader says of places lies in the text
pub mod Places
-- a text is one thing only
pub mod OneReading
-- a text that is one statement without its `;`
pub mod Alone
