pub mod Feeds
pub mod Same
pub mod Once
pub mod Closed
pub mod Beside
