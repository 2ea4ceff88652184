pub mod Written
pub mod Worlds
pub mod Agreement
