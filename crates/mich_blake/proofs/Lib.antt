pub mod Feeding
pub mod RoundSteps
