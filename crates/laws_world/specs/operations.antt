-- Lemmas on the numbers and addresses of the operations that code issues.
pub mod Fresh
pub mod NewOperations
