pub mod prices
pub mod worlds
pub mod logs
pub mod courses
pub mod text
pub mod Together
pub mod ForCallers
